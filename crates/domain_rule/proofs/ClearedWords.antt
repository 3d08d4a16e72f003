-- What a view says of the fields that its seat has left null stays so.
use Rattle.std.proofs.Common.{◌≡◌, ◌≢◌, ⊎_elim, ℕ, ◌+◌, ◌-◌, ◌<◌, ◌≤◌, Bool, true, false, length, refl, ap, sym, ◌∙◌, subst, arith}
use Rattle.std.specs.Prelude.{slice_index, ◌==◌, if◌then◌else◌, Option, Some, None}
use Rattle.std.proofs.lemmas.Bool.{cases_eq}
use Rattle.std.proofs.lemmas.Bool.Decides.{nat_tests}
use Rattle.plain_protocol.specs.plain_state.declared.act.EventPlace.{EventPlace}
use Rattle.plain_protocol.specs.plain_state.declared.act.EventPlace.TheVariants.{Cell, Field, WeakCell, WeakField}
use Rattle.plain_protocol.specs.plain_state.declared.slot.Kind.TheVariants.{Strong}
use Rattle.plain_protocol.specs.plain_state.declared.slot.PlainSlot.{PlainSlot}
use Rattle.plain_protocol.specs.plain_state.declared.slot.SlotId.{SlotId}
use Rattle.plain_protocol.specs.plain_state.declared.slot.Stage.TheVariants.{Live, Ended}
use Rattle.plain_protocol.specs.plain_state.Lists.{times, entry_times}
use Rattle.plain_protocol.specs.plain_state.Places.{HoldsStrongly}
use Rattle.plain_protocol.specs.plain_state.State.{PlainSeat, seat_at, stage_at}
use Rattle.plain_protocol.specs.Calm.{StaysOrNull}
use Rattle.core_law.specs.core_events.declared.act.Act.{Act}
use Rattle.core_law.specs.core_events.declared.shape.Shape.{Shape}
use Rattle.core_law.specs.core_events.declared.view.CoreView.{CoreView}
use Rattle.core_law.specs.core_events.Words.{slot_in, field_at}
use Rattle.core_law.specs.core_events.Shows.{show_slot, shows}
use Rattle.core_law.specs.core_events.Runs.{Core, Enabled, after, view_at}
use Rattle.core_law.specs.Sound.{Sound}
use Rattle.core_law.proofs.Kit.{total_at}
use Rattle.core_law.proofs.Steady.{named_in_range}
use Rattle.core_law.proofs.Bridge.{shown_dying, shown_seat, shown_slot}
use Rattle.core_law.proofs.Events.{event_shows}
use Rattle.core_law.proofs.Lawful.{shows_lawful}
use Rattle.core_law.proofs.Told.{held_stays}
use Rattle.domain_rule.specs.Rule.{IsCleared}
use Rattle.domain_rule.specs.Views.{is_field_of}
use Rattle.domain_rule.proofs.Cleared.{FieldsStay, fields_stay}

abbrev no_slot : Option SlotId
no_slot = None

-- the word of null is 0
null_word : (w : ℕ) → slot_in w ≡ None → w ≡ 0
null_word w = go (w == 0) refl
  where
    go : (b : Bool) → (w == 0) ≡ b
        → (if b then None else Some (record { 0 = w - 1 })) ≡ no_slot → w ≡ 0
    go true is e = grind (arith, nat_tests)
    go false is e = absurd (cc (e))

stays_none : (a b : Option SlotId) → StaysOrNull a b → a ≡ None → b ≡ None
stays_none a b stays none = ⊎_elim (λ same. same ∙ none) (λ null. null) stays

word_stays : (u w : ℕ) → StaysOrNull (slot_in u) (slot_in w) → u ≡ 0 → w ≡ 0
word_stays u w stays none =
    null_word w (stays_none (slot_in u) (slot_in w) stays (ap slot_in none))

module _ (z : Shape) (c : Core) (so : Sound z c) where
  -- a slot in a dying list is there, and has ended
  waits_there : (m : ℕ) (s : SlotId) → m < length c.views → 0 < times s (view_at c m).dying
      → s.0 < z.slots
  waits_there m s hm waits =
      let e = so.views in
      named_in_range z m (view_at c m) s (so.seats m (omega arith)) (omega arith)

  waits_over : (m : ℕ) (s : SlotId) → m < length c.views → 0 < times s (view_at c m).dying
      → stage_at (shows z c) s ≡ Ended
  waits_over m s hm waits =
      let e = shown_dying z c s in
      let t = total_at (λ (u : CoreView). times s u.dying) c.views m hm in
      ((shows_lawful z c so).dying s).1 (omega arith)

module _ (z : Shape) (c : Core) (so : Sound z c) (n : ℕ) (a : Act) (on : Enabled z c n a)
    (still : Sound z (after z c n a)) where
  lives : (x : SlotId) → HoldsStrongly (seat_at (shows z c) n) x → stage_at (shows z c) x ≡ Live
  lives x held =
      let e = so.views in
      let h = on.0 in
      ((held_stays z c n x so (omega arith)).0
      (subst (λ (u : PlainSeat). 0 < times x u.owned + entry_times Strong x u.snapshots)
      (shown_seat z c n on.0) held)).0

  -- what a view says of a field that its seat has left null
  module _ (m : ℕ) (v u : CoreView) (hm : m < length c.views)
      (hm' : m < length (after z c n a).views) (is : v ≡ view_at c m)
      (is' : u ≡ view_at (after z c n a) m) where
    stay : (s : SlotId) → 0 < times s v.dying → 0 < times s u.dying
        → FieldsStay (show_slot z c s) (show_slot z (after z c n a) s)
    stay s waits waits' =
        let w : 0 < times s (view_at c m).dying = subst (λ (t : CoreView). 0 < times s t.dying) is waits in
        let w' : 0 < times s (view_at (after z c n a) m).dying =
        subst (λ (t : CoreView). 0 < times s t.dying) is' waits' in
        let hs = waits_there z c so m s hm w in
        subst (λ (t : PlainSlot × PlainSlot). FieldsStay t.0 t.1)
        (λ i. (shown_slot z c s hs i, shown_slot z (after z c n a) s hs i))
        (fields_stay (shows z c) (shows z (after z c n a)) n s (shows_lawful z c so)
        (waits_over z c so m s hm w) (waits_over z (after z c n a) still m s hm' w') lives _ _
        (event_shows z c n a so on))

    pub cleared_stays : (p : EventPlace)
        → ((s : SlotId) → is_field_of s p ≡ true → times s v.dying ≤ times s u.dying)
        → IsCleared z c v p → IsCleared z (after z c n a) u p
    cleared_stays (Cell i) grows cl = absurd cl
    cleared_stays (Field s i) grows cl =
        let g = grows s (grind (arith, nat_tests)) in
        let d = cl.1 in
        let f = stay s d (omega arith) in (
          cl.0,
          omega arith,
          ⊎_elim
              (λ (e : i ≡ 0). subst (λ (k : ℕ). slice_index c.words (field_at z s k) ≡ 0
              → slice_index (after z c n a).words (field_at z s k) ≡ 0) (sym e)
              (word_stays _ _ f.first) cl.2)
              (λ (ne : i ≢ 0).
              let h = cl.0 in
              let e : i ≡ 1 = omega (arith, ne) in
              subst (λ (k : ℕ). slice_index c.words (field_at z s k) ≡ 0
              → slice_index (after z c n a).words (field_at z s k) ≡ 0) (sym e)
              (word_stays _ _ f.second) cl.2)
              (cases_eq i 0),
        )
    cleared_stays (WeakCell i) grows cl = absurd cl
    cleared_stays (WeakField s) grows cl =
        let g = grows s (grind (arith, nat_tests)) in
        let d = cl.0 in
        let f = stay s d (omega arith) in
        (omega arith, word_stays _ _ f.weak_field cl.1)
