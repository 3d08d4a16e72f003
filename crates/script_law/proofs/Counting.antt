-- Just as many numbers have a property as have it by the new names.
use Rattle.std.proofs.Common.{◌≡◌, ◌≢◌, ◌⊎◌, inl, inr, ⊎_elim, ℕ, suc, zero, ◌+◌, ◌<◌, refl, sym, ◌∙◌, subst, arith}
use Rattle.std.specs.Prelude.{◌==◌, if◌then◌else◌}
use Rattle.std.proofs.lemmas.Bool.{cases_eq}
use Rattle.std.proofs.lemmas.Bool.Decides.{nat_tests}
use Rattle.script_desk.specs.plain_state.declared.slot.SlotId.{SlotId}
use Rattle.script_desk.specs.heap_audit.Heaps.{slot}
use Rattle.script_desk.specs.heap_audit.Reached.{HowMany}
use Rattle.script_law.specs.Renamings.{IsRenaming}
use Rattle.script_law.proofs.Sums.{total, total_more, total_renamed, total_same, total_zero}

-- each of the first n slots counts 1 where it has the property, and else 0
record Marks (P : SlotId → Type 0) (n many : ℕ) : Type 0 where
  mark : SlotId → ℕ
  marks : (s : SlotId) → s.0 < n → ((mark s ≡ 1) × P s) ⊎ ((mark s ≡ 0) × (P s → ⊥))
  sum : total n mark ≡ many

-- one value for the slot of number n
at_last : ℕ → ℕ → (SlotId → ℕ) → SlotId → ℕ
at_last n value mark s = if s.0 == n then value else mark s

at_last_is : (n value : ℕ) (mark : SlotId → ℕ) (s : SlotId) → s.0 ≡ n → at_last n value mark s ≡ value
unfolding at_last
at_last_is n value mark s e = grind (arith, nat_tests)

at_last_else : (n value : ℕ) (mark : SlotId → ℕ) (s : SlotId) → s.0 ≢ n → at_last n value mark s ≡ mark s
unfolding at_last
at_last_else n value mark s ne = grind (arith, nat_tests)

marks_more : (P : SlotId → Type 0) (n many value : ℕ) (m : Marks P n many)
    → ((value ≡ 1) × P (slot n)) ⊎ ((value ≡ 0) × (P (slot n) → ⊥)) → Marks P (suc n) (many + value)
marks_more P n many value m here = record {
  mark = at_last n value m.mark;
  marks = λ s lt. ⊎_elim
      (λ (e : s.0 ≡ n).
      let is : s ≡ slot n = λ i. record { 0 = e i } in
      let v = at_last_is n value m.mark s e in
      ⊎_elim
      (λ x. inl (v ∙ x.0, subst P (sym is) x.1))
      (λ x. inr (v ∙ x.0, (λ p. x.1 (subst P is p))))
      here)
      (λ ne.
      let v = at_last_else n value m.mark s ne in
      ⊎_elim
      (λ x. inl (v ∙ x.0, x.1))
      (λ x. inr (v ∙ x.0, x.1))
      (m.marks s (omega arith)))
      (cases_eq s.0 n);
  sum =
      let a = total_more n (at_last n value m.mark) in
      let b = total_same n (at_last n value m.mark) m.mark (λ s lt. at_last_else n value m.mark s (λ e. omega arith)) in
      let c = at_last_is n value m.mark (slot n) refl in
      let d = m.sum in omega arith;
}

marks_of : (P : SlotId → Type 0) (n many : ℕ) → HowMany (λ i. P (slot i)) n many → Marks P n many
marks_of P zero many h = record { mark = λ s. 0; marks = λ s lt. absurd (omega arith); sum = total_zero (λ s. 0) ∙ sym h }
marks_of P (suc n) many h =
    ⊎_elim
    (λ x.
    subst (Marks P (suc n)) (omega (arith, x.3)) (marks_more P n x.0 1 (marks_of P n x.0 x.2) (inl (refl, x.1))))
    (λ x.
    subst (Marks P (suc n)) (omega arith) (marks_more P n many 0 (marks_of P n many x.1) (inr (refl, x.0))))
    h

pub as_many : (n : ℕ) (to from : SlotId → SlotId) (P Q : SlotId → Type 0) → IsRenaming n to from
    → ((s : SlotId) → P s → Q (to s)) → ((s : SlotId) → Q s → P (from s)) → (many other : ℕ)
    → HowMany (λ i. P (slot i)) n many → HowMany (λ i. Q (slot i)) n other → other ≡ many
as_many n to from P Q r so so_back many other h k =
    let f = marks_of P n many h in
    let g = marks_of Q n other k in
    sym g.sum ∙ total_renamed n to from f.mark g.mark r (λ s lt. same f g s lt) ∙ f.sum
  where
    same : (f : Marks P n many) (g : Marks Q n other) (s : SlotId) → s.0 < n → g.mark (to s) ≡ f.mark s
    same f g s lt =
        ⊎_elim
        (λ x. ⊎_elim
        (λ y. y.0 ∙ sym x.0)
        (λ y. absurd (y.1 (so s x.1)))
        (g.marks (to s) (r.inside s lt)))
        (λ x. ⊎_elim
        (λ y. absurd (x.1 (subst P (r.back s) (so_back (to s) y.1))))
        (λ y. y.0 ∙ sym x.0)
        (g.marks (to s) (r.inside s lt)))
        (f.marks s lt)
