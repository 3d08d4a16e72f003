-- Holders that are offered to slots, and which slots are unreached.
use Rattle.std.proofs.Common.{◌≡◌, ℕ, ◌+◌, ◌-◌, ◌<◌, ◌≤◌, ◌⊎◌, ◌^◌, List, length, get_or, Bool, false, slice_index, slice_index_or, slice_set, Option, Some, None, IfSome, arith, sym, ◌∙◌, ap, subst, inl, inr}
use Rattle.std.proofs.Math.ListN.{set}
use Rattle.std.proofs.lemmas.Bool.{cases_eq, cases_lt, cond-true, cond-false, cond_both, eq-eqb, ne_eqb, false≢true, cases_Bool}
use Rattle.std.proofs.lemmas.List.{get_or-set_same, get_or-set_other, get_or_past}
use Rattle.deleter.specs.plain_state.declared.slot.SlotId.{SlotId}
use Rattle.deleter.specs.plain_state.declared.image.SlotImage.{SlotImage}
use Rattle.deleter.specs.plain_state.declared.image.Heap.{Heap}
use Rattle.heap_audit.specs.Heaps.{slot, image_of, fields_holding}
use Rattle.heap_audit.specs.Reached.{HasField, IsUnreached}
use Rattle.heap_audit.specs.Marking.{is_marked}
use Rattle.heap_audit.specs.Tables.{lower_of, IsLeastIfAny, holder_at, Offers, AreReached, AreHolders}
use Rattle.heap_audit.proofs.Holding.{named_first, named_second, field_names}
use Rattle.heap_audit.proofs.Leasts.{best_same, best_within, offered}

module _ (ranks : List ℕ) (word : ℕ) (holder : SlotId) (old : List (Option SlotId)) where
  abbrev pub offer_written : List (Option SlotId)
  offer_written = slice_set old (word - 1) (Some (lower_of ranks (slice_index_or old (word - 1) None) holder))

  pub offer_made : 0 < word → word ≤ length old → Offers ranks word holder old offer_written
  offer_made some within s h =
      elim (cases_eq s.0 (word - 1)) [
        | inl e ↦
            ap (λ k. get_or offer_written k None) e
            ∙ (get_or-set_same old (word - 1) (Some (lower_of ranks (get_or old (word - 1) None) holder)) None (omega arith)
            ∙ (ap (λ k. Some (lower_of ranks (get_or old k None) holder)) (sym e)
            ∙ sym (cond-true _ (Some (lower_of ranks (holder_at old s) holder)) (holder_at old s) (eq-eqb word (s.0 + 1) (omega arith)))))
        | inr n ↦
            get_or-set_other old (word - 1) s.0 (Some (lower_of ranks (get_or old (word - 1) None) holder)) None n
            ∙ sym (cond-false _ (Some (lower_of ranks (holder_at old s) holder)) (holder_at old s) (ne_eqb word (s.0 + 1) (λ e. n (omega arith))))
      ]

  pub offer_null : word ≡ 0 → Offers ranks word holder old old
  offer_null none s h = sym (cond-false _ (Some (lower_of ranks (holder_at old s) holder)) (holder_at old s) (ne_eqb word (s.0 + 1) (λ e. omega arith)))

lower_within : (ranks : List ℕ) (n : ℕ) (o : Option SlotId) (s : SlotId) → IfSome o (λ t. t.0 < n) → s.0 < n → (lower_of ranks o s).0 < n
lower_within ranks n None s h k = k
lower_within ranks n (Some best) s h k = cond_both _ best s (λ t. t.0 < n) (λ e. h) (λ e. k)

pub offers_within : (ranks : List ℕ) (n word : ℕ) (holder : SlotId) (old new : List (Option SlotId)) → length new ≡ length old → holder.0 < n
    → Offers ranks word holder old new → ((s : SlotId) → IfSome (holder_at old s) (λ t. t.0 < n)) → (s : SlotId) → IfSome (holder_at new s) (λ t. t.0 < n)
offers_within ranks n word holder old new size h offers within s =
    let P : Option SlotId → Type 0 = λ o. IfSome o (λ t. t.0 < n) in
    elim (cases_lt s.0 (length old)) [
      | inl l ↦ subst P (sym (offers s l)) (cond_both _ (Some (lower_of ranks (holder_at old s) holder)) (holder_at old s) P
          (λ e. lower_within ranks n (holder_at old s) holder (within s) h) (λ e. within s))
      | inr g ↦ subst P (sym (get_or_past new s.0 None (omega (arith, size, g)))) tt
    ]

-- a Live slot without a mark is unreached, and no other is
pub unreached_here : (heap : Heap) (marks : List Bool) (s : SlotId) → AreReached heap marks → s.0 < length heap.slots.items
    → (image_of heap s).strong < 2 ^ 63 → is_marked marks s ≡ false → IsUnreached heap s
unreached_here heap marks s are within live free = ((within, live), λ reached. false≢true (sym free ∙ are.whole s reached))

pub reached_here : (heap : Heap) (marks : List Bool) (s : SlotId) → AreReached heap marks → IsUnreached heap s → is_marked marks s ≡ false
reached_here heap marks s are un = elim (cases_Bool (is_marked marks s)) [ inl m ↦ absurd (un.1 (are.sound s m)) | inr f ↦ f ]

-- the unreached slots before place i with a field that holds s
abbrev pub Holders : Heap → ℕ → SlotId → SlotId → Type 0
Holders heap i s u = (u.0 < i) × IsUnreached heap u × HasField heap u s

abbrev pub AreOffered : Heap → List ℕ → ℕ → List (Option SlotId) → Type 0
AreOffered heap ranks i holders = (s : SlotId) → s.0 < length heap.slots.items → IsLeastIfAny ranks (Holders heap i s) (holder_at holders s)

module _ (heap : Heap) (ranks : List ℕ) (i : ℕ) where
  pub offered_none : (holders : List (Option SlotId)) → ((s : SlotId) → holder_at holders s ≡ None) → AreOffered heap ranks 0 holders
  offered_none holders none s h = subst (IsLeastIfAny ranks (Holders heap 0 s)) (sym (none s)) (λ u p. omega (arith, p.0))

  pub offered_within : (holders : List (Option SlotId)) (n : ℕ) → length holders ≡ length heap.slots.items → i ≤ n → AreOffered heap ranks i holders
      → (s : SlotId) → IfSome (holder_at holders s) (λ t. t.0 < n)
  offered_within holders n size h are s =
      elim (cases_lt s.0 (length heap.slots.items)) [
        | inl l ↦ best_within ranks (Holders heap i s) (holder_at holders s) n (are s l) (λ u p. omega (arith, p.0, h))
        | inr g ↦ subst (λ (o : Option SlotId). IfSome o (λ t. t.0 < n)) (sym (get_or_past holders s.0 None (omega (arith, size, g)))) tt
      ]

  pub offered_skip : (holders : List (Option SlotId)) → (IsUnreached heap (slot i) → ⊥) → AreOffered heap ranks i holders → AreOffered heap ranks (i + 1) holders
  offered_skip holders no_one are s l =
      best_same ranks (Holders heap i s) (Holders heap (i + 1) s) (holder_at holders s) (are s l)
      (λ u p. (omega (arith, p.0), p.1, p.2))
      (λ u p. (
        elim (cases_lt u.0 i) [
          | inl b ↦ b
          | inr g ↦ absurd (no_one (let same : u ≡ slot i = ap slot (omega (arith, p.0, g)) in subst (IsUnreached heap) same p.1))
        ],
        p.1,
        p.2,
      ))

  pub offered_more : (x : SlotImage) (old mid new : List (Option SlotId)) → length old ≡ length heap.slots.items → length mid ≡ length old
      → x ≡ image_of heap (slot i) → IsUnreached heap (slot i)
      → Offers ranks (slice_index x.fields 0) (slot i) old mid → Offers ranks (slice_index x.fields 1) (slot i) mid new
      → AreOffered heap ranks i old → AreOffered heap ranks (i + 1) new
  offered_more x old mid new size same e un one two are s l =
      let w = slice_index x.fields 0 in
      let v = slice_index x.fields 1 in
      let P = Holders heap i s in
      let P₁ : SlotId → Type 0 = λ u. P u ⊎ ((slot i ≡ u) × (w ≡ s.0 + 1)) in
      let P₂ : SlotId → Type 0 = λ u. P₁ u ⊎ ((slot i ≡ u) × (v ≡ s.0 + 1)) in
      let first = offered ranks P (holder_at old s) (holder_at mid s) (slot i) s w (are s l) (one s (omega (arith, l, size))) in
      let second = offered ranks P₁ (holder_at mid s) (holder_at new s) (slot i) s v first (two s (omega (arith, l, size, same))) in
      let F : SlotImage → Type 0 = λ y. 0 < fields_holding s y in
      let here = λ (u : SlotId) (f : slot i ≡ u) (h : F x). (let all : Holders heap (i + 1) s (slot i) = (omega arith, un, (un.0, subst F e h)) in subst (Holders heap (i + 1) s) f all) in
      best_same ranks P₂ (Holders heap (i + 1) s) (holder_at new s) second
      (λ u p. elim p [
        | inl q ↦ elim q [ inl old ↦ (omega (arith, old.0), old.1, old.2) | inr f ↦ here u f.0 (named_first s x f.1) ]
        | inr f ↦ here u f.0 (named_second s x f.1)
      ])
      (λ u p. elim (cases_lt u.0 i) [
        | inl b ↦ inl (inl (b, p.1, p.2))
        | inr g ↦
            (let at : slot i ≡ u = ap slot (omega (arith, p.0, g)) in
            let held : F x = subst F (sym e) (subst (λ (a : SlotId). HasField heap a s) (sym at) p.2).1 in
            elim (field_names s x held) [ inl n ↦ inl (inr (at, n)) | inr n ↦ inr (at, n) ])
      ])

  pub offered_all : (holders : List (Option SlotId)) → length holders ≡ length heap.slots.items → length heap.slots.items ≤ i → AreOffered heap ranks i holders → AreHolders heap ranks holders
  offered_all holders size h are = record {
    size = size;
    least = λ s l. best_same ranks (Holders heap i s) (λ u. IsUnreached heap u × HasField heap u s) (holder_at holders s) (are s l)
        (λ u p. (p.1, p.2)) (λ u p. (omega (arith, p.0.0.0, h), p.0, p.1));
  }
