-- What a view says of the fields of dying slots that its seat knows to be null is so after each step.
use Rattle.std.proofs.Common.{◌≡◌, ◌≢◌, ◌⊎◌, inl, inr, ℕ, ◌<◌, ◌≤◌, Bool, true, false, List, [], ◌∷◌, refl, ap, sym, ◌∙◌, subst, arith}
use Rattle.std.specs.Prelude.{◌==◌, if◌then◌else◌}
use Rattle.std.proofs.lemmas.List.{get_or-set_same}
use Rattle.std.proofs.lemmas.Bool.Decides.{nat_tests}
use Rattle.plain_protocol.specs.plain_state.declared.act.EventPlace.{EventPlace}
use Rattle.plain_protocol.specs.plain_state.declared.act.EventPlace.TheVariants.{Cell, Field, WeakCell, WeakField}
use Rattle.plain_protocol.specs.plain_state.declared.slot.SlotId.{SlotId}
use Rattle.plain_protocol.specs.plain_state.Lists.{times}
use Rattle.epoch_core.specs.declared.act.EpochAct.{EpochAct}
use Rattle.epoch_core.specs.declared.act.EpochAct.TheVariants as act
use Rattle.epoch_core.specs.declared.shape.EpochShape.{EpochShape}
use Rattle.epoch_core.specs.declared.view.EpochView.{EpochView}
use Rattle.epoch_core.specs.Runs.{Core, Enabled, after, view_at}
use Rattle.epoch_core.specs.Sound.{Sound}
use Rattle.epoch_core.specs.Steps.{May, moved}
use Rattle.epoch_core.specs.Words.{field_at}
use Rattle.epoch_core.proofs.Held.{named_in_range}
use Rattle.epoch_core.proofs.Writes.{place_bound}
use Rattle.domain_rule.specs.Views.{Stands, is_field_of, without_fields}
use Rattle.epoch_rule.specs.Rule.{IsCleared}
use Rattle.epoch_rule.specs.Told.{cleared_after}
use Rattle.epoch_rule.proofs.Dying.{dying_stays}
use Rattle.epoch_rule.proofs.FieldWords.{dying_unheld, field_stays}

-- what stands in the list without the fields of a slot stood there before, and is none of them
not_of : (x : SlotId) (p : EventPlace) (ps : List EventPlace) → Stands p (without_fields x ps)
    → Stands p ps × (is_field_of x p ≡ false)
not_of x p [] = λ stands. absurd stands
not_of x p (q ∷ qs) = go (is_field_of x q) refl (not_of x p qs)
  where
    go : (b : Bool) → is_field_of x q ≡ b
        → (Stands p (without_fields x qs) → Stands p qs × (is_field_of x p ≡ false))
        → Stands p (if b then without_fields x qs else q ∷ without_fields x qs)
        → (((p ≡ q) ⊎ Stands p qs) × (is_field_of x p ≡ false))
    go true is rest there = let r = rest there in (inr r.0, r.1)
    go false is rest (inl first) = (inl first, ap (is_field_of x) first ∙ is)
    go false is rest (inr there) = let r = rest there in (inr r.0, r.1)

-- so a slot whose field it is isn't that slot
apart : (x : SlotId) (p : EventPlace) → is_field_of x p ≡ false → (s : SlotId)
    → is_field_of s p ≡ true → s.0 ≢ x.0
apart x (Cell i) not s of e = absurd (cc (of))
apart x (Field y i) not s of e =
    let f : (y.0 == x.0) ≡ false = not in
    let t : (y.0 == s.0) ≡ true = of in grind (arith, nat_tests)
apart x (WeakCell i) not s of e = absurd (cc (of))
apart x (WeakField y) not s of e =
    let f : (y.0 == x.0) ≡ false = not in
    let t : (y.0 == s.0) ≡ true = of in grind (arith, nat_tests)

module _ (z : EpochShape) (c : Core) (so : Sound z c) where
  -- a slot in a dying list is there
  waits_there : (m : ℕ) (s : SlotId) → m < z.seats → 0 < times s (view_at c m).dying
      → s.0 < z.slots
  waits_there m s hm waits =
      named_in_range z m (view_at c m) s (so.seats m hm) (omega arith)

  module _ (n : ℕ) (a : EpochAct) (on : Enabled z c n a) where
    hn : n < z.seats
    hn = let e = so.views in let h = on.0 in omega arith

    -- what a view says of a field stays so in every view whose dying list has lost nothing of its slot
    pub cleared_stays : (m : ℕ) (v u : EpochView) → m < z.seats → v ≡ view_at c m → (p : EventPlace)
        → ((s : SlotId) → is_field_of s p ≡ true → times s v.dying ≤ times s u.dying)
        → IsCleared z c v p → IsCleared z (after z c n a) u p
    cleared_stays m v u hm is (Cell i) grows cl = absurd cl
    cleared_stays m v u hm is (Field s i) grows cl =
        let g = grows s (grind (arith, nat_tests)) in
        let d = cl.1 in
        let waits : 0 < times s (view_at c m).dying =
        subst (λ (t : EpochView). 0 < times s t.dying) is cl.1 in
        let there = waits_there m s hm waits in (
          cl.0,
          omega arith,
          field_stays z c so n hn s i there cl.0
              (dying_unheld z c so m n s hm hn there waits) a on.1 cl.2,
        )
    cleared_stays m v u hm is (WeakCell i) grows cl = absurd cl
    cleared_stays m v u hm is (WeakField s) grows cl = absurd cl

  -- AFTER A STEP OF ITS OWN
  module _ (n : ℕ) (v : EpochView) (ps : List EventPlace) (hn : n < z.seats) (is : v ≡ view_at c n)
    where
      -- what was so of a place is so still, where its slot isn't given back
      old : (a : EpochAct) (w : ℕ) → Enabled z c n a → (p : EventPlace)
          → ((q : EventPlace) → Stands q ps → IsCleared z c v q) → Stands p ps
          → ((y : SlotId) → a ≡ act.Free y
          → ((s : SlotId) → is_field_of s p ≡ true → s.0 ≢ y.0) × (0 < times y v.dying))
          → IsCleared z (after z c n a) (moved z a w v) p
      old a w on p told stands other =
          cleared_stays n a on n v (moved z a w v) hn is p
          (λ s of. dying_stays s v z a w (λ y f. let o = other y f in (o.0 s of, o.1)))
          (told p stands)

      -- a field that the seat has cleared
      now : (s : SlotId) (i w : ℕ) → Enabled z c n (act.Clear s i)
          → IsCleared z (after z c n (act.Clear s i)) (moved z (act.Clear s i) w v) (Field s i)
      now s i w on =
          let may : May z (act.Clear s i) v = subst (May z (act.Clear s i)) (sym is) on.1 in
          let there = waits_there n s hn on.1.2 in
          let l = so.words in
          let b = place_bound z (Field s i) (there, on.1.1) in
          let waits = may.2 in
          let g = dying_stays s v z (act.Clear s i) w (λ y e. absurd (cc (e))) in (
            on.1.1,
            omega arith,
            get_or-set_same c.words (field_at z s i) 0 0 (omega arith),
          )

      pub own_cleared : (a : EpochAct) (w : ℕ) → Enabled z c n a → (p : EventPlace)
          → ((q : EventPlace) → Stands q ps → IsCleared z c v q) → Stands p (cleared_after a ps)
          → IsCleared z (after z c n a) (moved z a w v) p
      own_cleared (act.Clear s i) w on p told (inl first) =
          subst (IsCleared z (after z c n (act.Clear s i)) (moved z (act.Clear s i) w v)) (sym first)
          (now s i w on)
      own_cleared (act.Clear s i) w on p told (inr there) =
          old (act.Clear s i) w on p told there (λ y e. absurd (cc (e)))
      own_cleared (act.Free x) w on p told stands =
          let kept = not_of x p ps stands in
          let may : May z (act.Free x) v = subst (May z (act.Free x)) (sym is) on.1 in
          old (act.Free x) w on p told kept.0
          (λ y e. let same : x ≡ y = cc in (
            λ s of. subst (λ (r : SlotId). s.0 ≢ r.0) same (apart x p kept.1 s of),
            subst (λ (r : SlotId). 0 < times r v.dying) same may.1,
          ))
      own_cleared a w on p told stands = old a w on p told stands (λ y e. absurd (cc (e)))
