-- The slot of least rank with a property, and how many have it.
use Rattle.std.proofs.Common.{◌≡◌, ℕ, ◌+◌, ◌<◌, ◌≤◌, ◌⊎◌, zero, suc, List, Option, Some, None, IfSome, IsSome, cond, arith, rules, sym, ◌∙◌, subst, inl, inr, refl, add-one}
use Rattle.std.proofs.lemmas.Bool.{cases_eq, cond-true, cond-false, cond_both, leb-true, leb-false, eq-eqb, ne_eqb}
use Rattle.deleter.specs.plain_state.declared.slot.SlotId.{SlotId}
use Rattle.heap_audit.specs.Heaps.{names}
use Rattle.heap_audit.specs.Reached.{HowMany}
use Rattle.heap_audit.specs.Walks.{rank_of, IsLeast}
use Rattle.heap_audit.specs.Tables.{lower_of, IsLeastIfAny}

module _ (ranks : List ℕ) (P Q : SlotId → Type 0) where
  -- one more that has the property
  pub best_more : (o : Option SlotId) (s : SlotId) → IsLeastIfAny ranks P o → Q s → ((u : SlotId) → P u → Q u) → ((u : SlotId) → Q u → P u ⊎ (s ≡ u))
      → IsLeastIfAny ranks Q (Some (lower_of ranks o s))
  best_more None s none here more only =
      (here, λ t q. elim (only t q) [ inl p ↦ absurd (none t p) | inr e ↦ subst (λ (u : SlotId). rank_of ranks s ≤ rank_of ranks u) e (omega arith) ])
  best_more (Some best) s is here more only =
      cond_both _ best s (IsLeast ranks Q)
      (λ e. let low = leb-true (rank_of ranks best) (rank_of ranks s) e in
      (more best is.0, λ t q. elim (only t q) [ inl p ↦ is.1 t p | inr f ↦ subst (λ (u : SlotId). rank_of ranks best ≤ rank_of ranks u) f low ]))
      (λ e. let high = leb-false (rank_of ranks best) (rank_of ranks s) e in
      (here, λ t q. elim (only t q) [ inl p ↦ omega (arith, high, is.1 t p) | inr f ↦ subst (λ (u : SlotId). rank_of ranks s ≤ rank_of ranks u) f (omega arith) ]))

  -- the same ones have it
  pub best_same : (o : Option SlotId) → IsLeastIfAny ranks P o → ((u : SlotId) → P u → Q u) → ((u : SlotId) → Q u → P u) → IsLeastIfAny ranks Q o
  best_same None none more only = λ s q. none s (only s q)
  best_same (Some best) is more only = (more best is.0, λ t q. is.1 t (only t q))

module _ (ranks : List ℕ) (P : SlotId → Type 0) where
  pub best_within : (o : Option SlotId) (n : ℕ) → IsLeastIfAny ranks P o → ((u : SlotId) → P u → u.0 < n) → IfSome o (λ s. s.0 < n)
  best_within None n is within = tt
  best_within (Some best) n is within = within best is.0

  -- where one has it there is a least
  pub best_some : (o : Option SlotId) (s : SlotId) → IsLeastIfAny ranks P o → P s → IsSome o
  best_some None s none p = absurd (none s p)
  best_some (Some best) s is p = search rules

  -- an offer to the slot t
  pub offered : (o o' : Option SlotId) (s t : SlotId) (word : ℕ) → IsLeastIfAny ranks P o → o' ≡ cond (names t word) (Some (lower_of ranks o s)) o
      → IsLeastIfAny ranks (λ u. P u ⊎ ((s ≡ u) × (word ≡ t.0 + 1))) o'
  offered o o' s t word is e =
      let Q : SlotId → Type 0 = λ u. P u ⊎ ((s ≡ u) × (word ≡ t.0 + 1)) in
      elim (cases_eq word (t.0 + 1)) [
        | inl here ↦ subst (IsLeastIfAny ranks Q) (sym (e ∙ cond-true _ _ o (eq-eqb word (t.0 + 1) here)))
            (best_more ranks P Q o s is (inr (refl, here)) (λ u p. inl p) (λ u q. elim q [ inl p ↦ inl p | inr f ↦ inr f.0 ]))
        | inr other ↦ subst (IsLeastIfAny ranks Q) (sym (e ∙ cond-false _ (Some (lower_of ranks o s)) o (ne_eqb word (t.0 + 1) other)))
            (best_same ranks P Q o is (λ u p. inl p) (λ u q. elim q [ inl p ↦ p | inr f ↦ absurd (other f.1) ]))
      ]

module _ (P : ℕ → Type 0) where
  pub many_yes : (n many : ℕ) → HowMany P n many → P n → HowMany P (n + 1) (many + 1)
  many_yes n many h p = subst (λ k. HowMany P k (many + 1)) (sym (add-one n)) (inl (many, p, h, add-one many))

  pub many_no : (n many : ℕ) → HowMany P n many → (P n → ⊥) → HowMany P (n + 1) many
  many_no n many h p = subst (λ k. HowMany P k many) (sym (add-one n)) (inr (p, h))

  -- none has it, and some has it
  pub many_none : (n many : ℕ) → ((k : ℕ) → P k → ⊥) → HowMany P n many → many ≡ 0
  many_none zero many none h = h
  many_none (suc n) many none h = elim h [ inl one ↦ absurd (none n one.1) | inr other ↦ many_none n many none other.1 ]

  pub many_some : (n many k : ℕ) → k < n → P k → HowMany P n many → 0 < many
  many_some zero many k l p h = absurd (omega (arith, l))
  many_some (suc n) many k l p h =
      elim h [
        | inl one ↦ omega (arith, one.3)
        | inr other ↦ elim (cases_eq k n) [
          | inl e ↦ absurd (other.0 (subst P e p))
          | inr d ↦ many_some n many k (omega (arith, l, d)) p other.1
        ]
      ]
