-- Each step of a tidying leaves what tidying leaves.
use Rattle.std.proofs.Common.{◌≡◌, ℕ, ◌+◌, ◌<◌, List, [], ◌∷◌, ◌++◌, length, get_or, set, refl, ap, sym, ◌∙◌, subst, arith, Option, None, true}
use Rattle.std.specs.Prelude.{◌==◌}
use Rattle.script_desk.specs.plain_state.declared.act.EventPlace.{EventPlace}
use Rattle.script_desk.specs.plain_state.declared.act.EventPlace.TheVariants.{Cell, Field, WeakCell, WeakField}
use Rattle.script_desk.specs.plain_state.declared.act.PlainAct.{PlainAct}
use Rattle.script_desk.specs.plain_state.declared.act.PlainAct.TheVariants as act
use Rattle.script_desk.specs.plain_state.declared.slot.Kind.{Kind}
use Rattle.script_desk.specs.plain_state.declared.slot.Kind.TheVariants.{Strong, Weak, Disposal}
use Rattle.script_desk.specs.plain_state.declared.slot.PlainSlot.{PlainSlot}
use Rattle.script_desk.specs.plain_state.declared.slot.SlotId.{SlotId}
use Rattle.script_desk.specs.plain_state.declared.slot.Stage.TheVariants.{Free, Ended, Husk}
use Rattle.script_desk.specs.plain_state.Places.{IsDyingField, content, place_kind, with_content, with_field}
use Rattle.script_desk.specs.plain_state.References.{held_in, places}
use Rattle.script_desk.specs.plain_state.Sound.{Sound}
use Rattle.script_desk.specs.plain_state.State.{Plain, PlainSeat, new_seat, seat_at, slot_at, stage_at, with_seat, with_slot}
use Rattle.script_desk.specs.plain_state.Steps.{Does, joined}
use Rattle.script_desk.proofs.Below.plain_state_Changes.{IsThere, field_object, place_change}
use Rattle.script_desk.proofs.Below.plain_state_EveryStep.{step_sound}
use Rattle.script_desk.proofs.Below.plain_state_Kit.{held_none, of_kind, times_lost}
use Rattle.script_desk.proofs.Below.plain_state_SeatRows.{is_there}
use Rattle.script_desk.proofs.Below.plain_state_SlotRows.{dying_ended}
use Rattle.script_desk.specs.plain_settling.Settling.{Tidies, TidiesBy}
use Rattle.script_law.proofs.Fates.{Balanced, KeepsLists, KeepsSlots, Tidying, balanced_clear, balanced_eject, balanced_same, ended_fate, places_stay, seat_is, seat_places, seats_stay, slots_written, there}

-- the seat is no slot
seat_slots : (p m : Plain) (w : PlainSeat) → KeepsSlots p m → KeepsSlots p (with_seat m 0 w)
seat_slots p m w k = record { size = k.size; cells = k.cells; weak_cells = k.weak_cells; fates = k.fates }

-- the slot that is cleared keeps its object
pub cleared : (m : Plain) (place : EventPlace) (w : PlainSeat) → IsDyingField m 0 place → Sound m → 0 < length m.seats
    → (s : SlotId) × (y : PlainSlot) × (stage_at m s ≡ Ended) × (with_content (with_seat m 0 w) place None ≡ with_slot (with_seat m 0 w) s y)
    × (y.stage ≡ stage_at m s) × (y.payload ≡ (slot_at m s).payload)
cleared m (Cell i) w d so here = absurd d
cleared m (WeakCell i) w d so here = absurd d
cleared m (Field s i) w d so here =
    let o = field_object None (slot_at m s) (i == 0) in
    (s, with_field i None (slot_at m s), dying_ended m 0 s so here d.1.0, refl, o.0, o.3)
cleared m (WeakField s) w d so here =
    (s, record (slot_at m s) { weak_field = None }, dying_ended m 0 s so here d.0, refl, refl, refl)

null_holds : (k j : Kind) (s : SlotId) → of_kind k j (held_in s None) ≡ 0
null_holds Strong Strong s = held_none s
null_holds Strong Weak s = refl
null_holds Strong Disposal s = refl
null_holds Weak Strong s = refl
null_holds Weak Weak s = held_none s
null_holds Weak Disposal s = refl
null_holds Disposal Strong s = refl
null_holds Disposal Weak s = refl
null_holds Disposal Disposal s = held_none s

clear_field : (m : Plain) (place : EventPlace) (w : PlainSeat) → IsThere m place → content (with_seat m 0 w) place ≡ content m place
    → ((n : ℕ) → of_kind Disposal (place_kind place) n ≡ 0)
    → (k : Kind) (s : SlotId) → places k (with_content (with_seat m 0 w) place None) s
    + of_kind k (place_kind place) (held_in s (content m place)) ≡ places k m s
clear_field m place w there same not Strong s =
    let c = (place_change (with_seat m 0 w) place None s there).strong_places in
    let n = null_holds Strong (place_kind place) s in
    let e = ap (λ (o : Option SlotId). of_kind Strong (place_kind place) (held_in s o)) same in omega arith
clear_field m place w there same not Weak s =
    let c = (place_change (with_seat m 0 w) place None s there).weak_places in
    let n = null_holds Weak (place_kind place) s in
    let e = ap (λ (o : Option SlotId). of_kind Weak (place_kind place) (held_in s o)) same in omega arith
clear_field m place w there same not Disposal s = let z = not (held_in s (content m place)) in omega arith

-- a place that is cleared holds nothing any more
clear_places : (m : Plain) (place : EventPlace) (w : PlainSeat) → IsDyingField m 0 place → Sound m → 0 < length m.seats
    → (k : Kind) (s : SlotId) → places k (with_content (with_seat m 0 w) place None) s
    + of_kind k (place_kind place) (held_in s (content m place)) ≡ places k m s
clear_places m (Cell i) w d so here k s = absurd d
clear_places m (WeakCell i) w d so here k s = absurd d
clear_places m (Field x i) w d so here k s = clear_field m (Field x i) w (is_there m x (λ f. let e = dying_ended m 0 x so here d.1.0 in cc)) refl (λ n. refl) k s
clear_places m (WeakField x) w d so here k s = clear_field m (WeakField x) w (is_there m x (λ f. let e = dying_ended m 0 x so here d.0 in cc)) refl (λ n. refl) k s

-- a step that writes the seat
module _ (p m q : Plain) (t : Tidying p m) (w : PlainSeat) (sound : Sound q) (seats : q.seats ≡ set m.seats 0 w) where
  pub seat_then : seat_at q 0 ≡ w
  seat_then = ap (λ (vs : List PlainSeat). get_or vs 0 new_seat) seats ∙ seat_is p m t w

  goes_on : w.owned ≡ (seat_at m 0).owned → w.weaks ≡ (seat_at m 0).weaks → w.snapshots ≡ (seat_at m 0).snapshots
      → KeepsSlots p q → Balanced p w q → Tidying p q
  goes_on owned weaks snapshots slots balance = record {
    sound = sound;
    seats = ap length seats ∙ seats_stay p m t w;
    slots = slots;
    lists = subst (KeepsLists p) (sym seat_then) (record {
      owned = owned ∙ t.lists.owned;
      weaks = weaks ∙ t.lists.weaks;
      snapshots = snapshots ∙ t.lists.snapshots;
    });
    balance = subst (λ (v : PlainSeat). Balanced p v q) (sym seat_then) balance;
  }

tidying_step : (p m q : Plain) (a : PlainAct) (found : ℕ) → Tidying p m → Tidies m a → Does m 0 a found q → Tidying p q
tidying_step p m q (act.Eject k s) found t surplus (here, (es, loses, z, e, covered)) =
    let w : PlainSeat = record (seat_at m 0) { deferred = es } in
    goes_on p m q t w (step_sound m q 0 (act.Eject k s) found t.sound (here, (es, loses, z, e, covered)))
    (ap (λ (r : Plain). r.seats) e) refl refl refl
    (subst (KeepsSlots p) (sym e) (seat_slots p m w t.slots))
    (subst (Balanced p w) (sym e) (balanced_eject p (seat_at m 0) m k s es t.balance loses surplus))
tidying_step p m q act.Split found t surplus (here, (z, (es, same, e))) =
    let w : PlainSeat = record (seat_at m 0) { deferred = es } in
    goes_on p m q t w (step_sound m q 0 act.Split found t.sound (here, (z, (es, same, e))))
    (ap (λ (r : Plain). r.seats) e) refl refl refl
    (subst (KeepsSlots p) (sym e) (seat_slots p m w t.slots))
    (subst (Balanced p w) (sym e) (balanced_same p (seat_at m 0) w m (with_seat m 0 w) t.balance same refl (seat_places m w)))
tidying_step p m q (act.End s) found t surplus (here, (live, none, z, e)) =
    let w : PlainSeat = record (seat_at m 0) { dying = (seat_at m 0).dying ++ s ∷ [] } in
    let y : PlainSlot = record (slot_at m s) { stage = Ended; marked = true } in
    let at = is_there m s (λ f. cc) in
    goes_on p m q t w (step_sound m q 0 (act.End s) found t.sound (here, (live, none, z, e)))
    (ap (λ (r : Plain). r.seats) e) refl refl refl
    (subst (KeepsSlots p) (sym e) (slots_written p (with_seat m 0 w) s y (seat_slots p m w t.slots) at
    (ended_fate (slot_at p s) (slot_at m s) y (t.slots.fates s) (λ f. cc) (λ b. cc) refl (λ l. cc) (λ b. cc))))
    (subst (Balanced p w) (sym e) (balanced_same p (seat_at m 0) w m (with_slot (with_seat m 0 w) s y) t.balance (λ k u. refl) refl
    (λ k u. places_stay (with_seat m 0 w) s y at (λ v. refl) (λ v. refl) k u ∙ seat_places m w k u)))
tidying_step p m q (act.Clear place) found t surplus (here, (dying, z, e)) =
    let w : PlainSeat = record (seat_at m 0) { deferred = joined (place_kind place) (content m place) (seat_at m 0).deferred } in
    let c = cleared m place w dying t.sound (there p m t w) in
    let at = is_there m c.0 (λ f. let ended = c.2 in cc) in
    goes_on p m q t w (step_sound m q 0 (act.Clear place) found t.sound (here, (dying, z, e)))
    (ap (λ (r : Plain). r.seats) (e ∙ c.3)) refl refl refl
    (subst (KeepsSlots p) (sym (e ∙ c.3)) (slots_written p (with_seat m 0 w) c.0 c.1 (seat_slots p m w t.slots) at
    (ended_fate (slot_at p c.0) (slot_at m c.0) c.1 (t.slots.fates c.0)
    (λ f. let ended = c.2 in cc) (λ b. let ended = c.2 in cc) c.5
    (λ l. let ended = c.2 in let same = c.4 in cc) (λ b. let ended = c.2 in let same = c.4 in cc))))
    (subst (Balanced p w) (sym e) (balanced_clear p (seat_at m 0) m (with_content (with_seat m 0 w) place None) place (content m place) t.balance
    (clear_places m place w dying t.sound (there p m t w))))
tidying_step p m q (act.Destroy s) found t surplus (here, (nulls, unseen, z, (xs, loses, e))) =
    let w : PlainSeat = record (seat_at m 0) { dying = xs } in
    let y : PlainSlot = record (slot_at m s) { stage = Husk } in
    let ended = dying_ended m 0 s t.sound (there p m t w) (times_lost s (seat_at m 0).dying xs loses) in
    let at = is_there m s (λ f. cc) in
    goes_on p m q t w (step_sound m q 0 (act.Destroy s) found t.sound (here, (nulls, unseen, z, (xs, loses, e))))
    (ap (λ (r : Plain). r.seats) e) refl refl refl
    (subst (KeepsSlots p) (sym e) (slots_written p (with_seat m 0 w) s y (seat_slots p m w t.slots) at
    (ended_fate (slot_at p s) (slot_at m s) y (t.slots.fates s) (λ f. cc) (λ b. cc) refl (λ l. cc) (λ b. cc))))
    (subst (Balanced p w) (sym e) (balanced_same p (seat_at m 0) w m (with_slot (with_seat m 0 w) s y) t.balance (λ k u. refl) refl
    (λ k u. places_stay (with_seat m 0 w) s y at (λ v. refl) (λ v. refl) k u ∙ seat_places m w k u)))
tidying_step p m q (act.Give s) found t surplus (here, (husk, none, z, e)) =
    let y : PlainSlot = record (slot_at m s) { stage = Free } in
    let at = is_there m s (λ f. cc) in
    let seats : q.seats ≡ m.seats = ap (λ (r : Plain). r.seats) e in
    let seat : seat_at q 0 ≡ seat_at m 0 = ap (λ (vs : List PlainSeat). get_or vs 0 new_seat) seats in
    record {
      sound = step_sound m q 0 (act.Give s) found t.sound (here, (husk, none, z, e));
      seats = ap length seats ∙ t.seats;
      slots = subst (KeepsSlots p) (sym e) (slots_written p m s y t.slots at
          (ended_fate (slot_at p s) (slot_at m s) y (t.slots.fates s) (λ f. cc) (λ b. cc) refl (λ l. cc) (λ b. cc)));
      lists = subst (KeepsLists p) (sym seat) t.lists;
      balance = subst (λ (v : PlainSeat). Balanced p v q) (sym seat) (subst (Balanced p (seat_at m 0)) (sym e)
          (balanced_same p (seat_at m 0) (seat_at m 0) m (with_slot m s y) t.balance (λ k u. refl) refl
          (places_stay m s y at (λ v. refl) (λ v. refl))));
    }
tidying_step p m q _ found t surplus d = absurd surplus

-- a property of all states on the way
pub along : (p : Plain) (P : Plain → Type 0)
    → ((m q : Plain) (a : PlainAct) (found : ℕ) → Tidying p m → P m → Tidies m a → Does m 0 a found q → P q)
    → (acts : List PlainAct) (m q : Plain) → Tidying p m → P m → TidiesBy acts m q → Tidying p q × P q
along p P step [] m q t is e = (subst (Tidying p) (sym e) t, subst P (sym e) is)
along p P step (a ∷ more) m q t is (next, found, tidies, does, rest) =
    along p P step more next q (tidying_step p m next a found t tidies does) (step m next a found t is tidies does) rest
