-- After a step of its own a view says of the fields that its seat has left null what is so.
use Rattle.std.proofs.Common.{◌≡◌, ◌≢◌, ◌⊎◌, inl, inr, ⊎_elim, ℕ, ◌<◌, Bool, true, false, List, [], ◌∷◌, length, refl, ap, sym, ◌∙◌, subst, arith}
use Rattle.std.specs.Prelude.{slice_index, ◌==◌, if◌then◌else◌, Some, None}
use Rattle.std.proofs.lemmas.List.{get_or-set_same}
use Rattle.std.proofs.lemmas.Bool.Decides.{nat_tests}
use Rattle.plain_protocol.specs.plain_state.declared.act.EventPlace.{EventPlace}
use Rattle.plain_protocol.specs.plain_state.declared.act.EventPlace.TheVariants.{Cell, Field, WeakCell, WeakField}
use Rattle.plain_protocol.specs.plain_state.declared.slot.SlotId.{SlotId}
use Rattle.plain_protocol.specs.plain_state.Lists.{times}
use Rattle.core_law.specs.core_events.declared.act.Act.{Act}
use Rattle.core_law.specs.core_events.declared.act.Act.TheVariants as act
use Rattle.core_law.specs.core_events.declared.shape.Shape.{Shape}
use Rattle.core_law.specs.core_events.declared.view.CoreView.{CoreView}
use Rattle.core_law.specs.core_events.Good.{SeatLaw}
use Rattle.core_law.specs.core_events.Words.{place_at}
use Rattle.core_law.specs.core_events.ShownSteps.{is_ripe_field}
use Rattle.core_law.specs.core_events.Steps.{May, moved}
use Rattle.core_law.specs.core_events.Runs.{Core, Enabled, after, view_at}
use Rattle.core_law.specs.Sound.{Sound}
use Rattle.core_law.proofs.InRange.{place_in}
use Rattle.domain_rule.specs.Rule.{IsCleared}
use Rattle.domain_rule.specs.Told.{cleared_after}
use Rattle.domain_rule.specs.Views.{Stands, is_field_of, without_fields}
use Rattle.domain_rule.proofs.ClearedWords.{cleared_stays}
use Rattle.domain_rule.proofs.Dying.{dying_stays}

-- what stands in the list without the fields of a slot stood there before, and is none of them
not_of : (x : SlotId) (p : EventPlace) (ps : List EventPlace) → Stands p (without_fields x ps)
    → Stands p ps × (is_field_of x p ≡ false)
not_of x p [] = λ stands. absurd stands
not_of x p (q ∷ qs) = go (is_field_of x q) refl (not_of x p qs)
  where
    go : (b : Bool) → is_field_of x q ≡ b
        → (Stands p (without_fields x qs) → Stands p qs × (is_field_of x p ≡ false))
        → Stands p (if b then without_fields x qs else q ∷ without_fields x qs)
        → (((p ≡ q) ⊎ Stands p qs) × (is_field_of x p ≡ false))
    go true is rest there = let r = rest there in (inr r.0, r.1)
    go false is rest (inl first) = (inl first, ap (is_field_of x) first ∙ is)
    go false is rest (inr there) = let r = rest there in (inr r.0, r.1)

-- so a slot whose field it is isn't that slot
apart : (x : SlotId) (p : EventPlace) → is_field_of x p ≡ false → (s : SlotId)
    → is_field_of s p ≡ true → s.0 ≢ x.0
apart x (Cell i) not s of e = absurd (cc (of))
apart x (Field y i) not s of e = let f : (y.0 == x.0) ≡ false = not in let t : (y.0 == s.0) ≡ true = of in grind (arith, nat_tests)
apart x (WeakCell i) not s of e = absurd (cc (of))
apart x (WeakField y) not s of e = let f : (y.0 == x.0) ≡ false = not in let t : (y.0 == s.0) ≡ true = of in grind (arith, nat_tests)

module _ (z : Shape) (c : Core) (so : Sound z c) (n : ℕ) (v : CoreView) (ps : List EventPlace)
    (hn : n < z.seats) (is : v ≡ view_at c n) where
  here : n < length c.views
  here = let e = so.views in omega arith

  -- what was so of a place is so still, where its slot isn't destroyed
  old : (a : Act) (w : ℕ) → Enabled z c n a → moved z a w v ≡ view_at (after z c n a) n
      → Sound z (after z c n a) → (p : EventPlace)
      → ((q : EventPlace) → Stands q ps → IsCleared z c v q) → Stands p ps
      → ((y : SlotId) → a ≡ act.Destroy y → ((s : SlotId) → is_field_of s p ≡ true → s.0 ≢ y.0)
      × (0 < times y v.dying))
      → IsCleared z (after z c n a) (moved z a w v) p
  old a w on view still p told stands other =
      let e = still.views in
      cleared_stays z c so n a on still n v (moved z a w v) here (omega arith) is view p
      (λ s of. dying_stays s v z a w (λ y f. let o = other y f in (o.0 s of, o.1)))
      (told p stands)

  -- what is to be destroyed is dying
  dies : (x : SlotId) → May z (act.Destroy x) v → 0 < times x v.dying
  dies x may =
      let r = ((subst (SeatLaw z n) (sym is) (so.seats n hn)).ripe x) in
      let m = may.1 in omega arith

  -- a field of a ripe slot that null was put into
  now : (q : EventPlace) (w : ℕ) → Enabled z c n (act.Swap q None)
      → moved z (act.Swap q None) w v ≡ view_at (after z c n (act.Swap q None)) n
      → is_ripe_field v q ≡ true
      → IsCleared z (after z c n (act.Swap q None)) (moved z (act.Swap q None) w v) q
  now q w on view ripe = go q (subst (May z (act.Swap q None)) (sym is) on.1) ripe null
    where
      may : May z (act.Swap q None) (view_at c n)
      may = on.1

      null : slice_index (after z c n (act.Swap q None)).words (place_at z q) ≡ 0
      null =
          let l = so.words in
          let h = place_in z n (view_at c n) (so.seats n hn) hn (act.Swap q None) may in
          get_or-set_same c.words (place_at z q) 0 0 (omega arith)

      law : SeatLaw z n v
      law = subst (SeatLaw z n) (sym is) (so.seats n hn)

      waits : (s : SlotId) → 0 < times s v.ripe
          → 0 < times s (moved z (act.Swap q None) w v).dying
      waits s some' =
          let r = law.ripe s in
          let g = dying_stays s v z (act.Swap q None) w (λ y e. absurd (cc (e))) in omega arith

      go : (p : EventPlace) → May z (act.Swap p None) v → is_ripe_field v p ≡ true
          → slice_index (after z c n (act.Swap q None)).words (place_at z p) ≡ 0
          → IsCleared z (after z c n (act.Swap q None)) (moved z (act.Swap q None) w v) p
      go (Cell i) may is_ripe zero = absurd (cc (is_ripe))
      go (Field s i) may is_ripe zero =
          let some' : 0 < times s v.ripe = grind (arith, nat_tests) in
          (⊎_elim (λ open'. open'.0.0) (λ ripe'. ripe'.0.0) may.2, waits s some', zero)
      go (WeakCell i) may is_ripe zero = absurd (cc (is_ripe))
      go (WeakField s) may is_ripe zero =
          let some' : 0 < times s v.ripe = grind (arith, nat_tests) in (waits s some', zero)

  pub own_cleared : (a : Act) (w : ℕ) → Enabled z c n a
      → moved z a w v ≡ view_at (after z c n a) n → Sound z (after z c n a) → (p : EventPlace)
      → ((q : EventPlace) → Stands q ps → IsCleared z c v q) → Stands p (cleared_after a v ps)
      → IsCleared z (after z c n a) (moved z a w v) p
  own_cleared (act.Add x) w on view still p told stands =
      old (act.Add x) w on view still p told stands (λ y e. absurd (cc (e)))
  own_cleared (act.Drop x) w on view still p told stands =
      old (act.Drop x) w on view still p told stands (λ y e. absurd (cc (e)))
  own_cleared act.Pay w on view still p told stands =
      old act.Pay w on view still p told stands (λ y e. absurd (cc (e)))
  own_cleared act.Finish w on view still p told stands =
      old act.Finish w on view still p told stands (λ y e. absurd (cc (e)))
  own_cleared act.Take w on view still p told stands =
      old act.Take w on view still p told stands (λ y e. absurd (cc (e)))
  own_cleared (act.Count x) w on view still p told stands =
      old (act.Count x) w on view still p told stands (λ y e. absurd (cc (e)))
  own_cleared act.Mark w on view still p told stands =
      old act.Mark w on view still p told stands (λ y e. absurd (cc (e)))
  own_cleared (act.Announce j k x) w on view still p told stands =
      old (act.Announce j k x) w on view still p told stands (λ y e. absurd (cc (e)))
  own_cleared (act.Release j) w on view still p told stands =
      old (act.Release j) w on view still p told stands (λ y e. absurd (cc (e)))
  own_cleared (act.Look q) w on view still p told stands =
      old (act.Look q) w on view still p told stands (λ y e. absurd (cc (e)))
  own_cleared (act.Check j q) w on view still p told stands =
      old (act.Check j q) w on view still p told stands (λ y e. absurd (cc (e)))
  own_cleared (act.Alive j) w on view still p told stands =
      old (act.Alive j) w on view still p told stands (λ y e. absurd (cc (e)))
  own_cleared act.Scan w on view still p told stands =
      old act.Scan w on view still p told stands (λ y e. absurd (cc (e)))
  own_cleared (act.Swap q None) w on view still p told stands = go (is_ripe_field v q) refl stands
    where
      go : (b : Bool) → is_ripe_field v q ≡ b → Stands p (if b then q ∷ ps else ps)
          → IsCleared z (after z c n (act.Swap q None)) (moved z (act.Swap q None) w v) p
      go false ripe there =
          old (act.Swap q None) w on view still p told there (λ y e. absurd (cc (e)))
      go true ripe (inl first) =
          subst (IsCleared z (after z c n (act.Swap q None)) (moved z (act.Swap q None) w v))
          (sym first) (now q w on view ripe)
      go true ripe (inr there) =
          old (act.Swap q None) w on view still p told there (λ y e. absurd (cc (e)))
  own_cleared (act.Swap q (Some x)) w on view still p told stands =
      old (act.Swap q (Some x)) w on view still p told stands (λ y e. absurd (cc (e)))
  own_cleared (act.Cas q x new) w on view still p told stands =
      old (act.Cas q x new) w on view still p told stands (λ y e. absurd (cc (e)))
  own_cleared (act.Claim x) w on view still p told stands =
      old (act.Claim x) w on view still p told stands (λ y e. absurd (cc (e)))
  own_cleared act.Arm w on view still p told stands =
      old act.Arm w on view still p told stands (λ y e. absurd (cc (e)))
  own_cleared (act.Fill i x) w on view still p told stands =
      old (act.Fill i x) w on view still p told stands (λ y e. absurd (cc (e)))
  own_cleared act.Start w on view still p told stands =
      old act.Start w on view still p told stands (λ y e. absurd (cc (e)))
  own_cleared (act.See x i) w on view still p told stands =
      old (act.See x i) w on view still p told stands (λ y e. absurd (cc (e)))
  own_cleared act.Free w on view still p told stands =
      old act.Free w on view still p told stands (λ y e. absurd (cc (e)))
  own_cleared act.Ticket w on view still p told stands =
      old act.Ticket w on view still p told stands (λ y e. absurd (cc (e)))
  own_cleared (act.Wadd x) w on view still p told stands =
      old (act.Wadd x) w on view still p told stands (λ y e. absurd (cc (e)))
  own_cleared (act.Wdrop x) w on view still p told stands =
      old (act.Wdrop x) w on view still p told stands (λ y e. absurd (cc (e)))
  own_cleared (act.Destroy x) w on view still p told stands =
      let kept = not_of x p ps stands in
      old (act.Destroy x) w on view still p told kept.0
      (λ y e. let same : x ≡ y = cc in (
        λ s of. subst (λ (r : SlotId). s.0 ≢ r.0) same (apart x p kept.1 s of),
        subst (λ (r : SlotId). 0 < times r v.dying) same
            (dies x (subst (May z (act.Destroy x)) (sym is) on.1)),
      ))
  own_cleared (act.Wcount x) w on view still p told stands =
      old (act.Wcount x) w on view still p told stands (λ y e. absurd (cc (e)))
  own_cleared (act.Leave j) w on view still p told stands =
      old (act.Leave j) w on view still p told stands (λ y e. absurd (cc (e)))
