-- What the steps of commands leave of the heap: nothing is taken, and the seat has a handle fewer by what it puts.
use Rattle.std.proofs.Common.{◌≡◌, ⊎_elim, ℕ, ◌<◌, Bool, true, false, [], ◌∷◌, length, refl, ap, arith, Option, Some}
use Rattle.script_desk.specs.plain_state.declared.act.EventPlace.{EventPlace}
use Rattle.script_desk.specs.plain_state.declared.act.EventPlace.TheVariants.{Cell, Field, WeakCell, WeakField}
use Rattle.script_desk.specs.plain_state.declared.act.PlainAct.TheVariants as act
use Rattle.script_desk.specs.plain_state.declared.slot.Kind.TheVariants as kind
use Rattle.script_desk.specs.plain_state.declared.slot.SlotId.{SlotId}
use Rattle.script_desk.specs.plain_state.Places.{content, place_kind}
use Rattle.script_desk.specs.plain_state.Sound.{Sound}
use Rattle.script_desk.specs.plain_state.Lists.{entry_times}
use Rattle.script_desk.specs.plain_state.References.{held_in}
use Rattle.script_desk.specs.plain_state.State.{Plain, PlainSeat, seat_at}
use Rattle.script_desk.specs.plain_state.Steps.{Does, GivesUp, Replaces, joined}
use Rattle.script_desk.proofs.Below.plain_state_EveryStep.{step_sound}
use Rattle.script_desk.proofs.Below.plain_state_Kit.{of_kind}
use Rattle.script_desk.proofs.Below.plain_state_PlaceRows.{gave, joined_times}
use Rattle.script_desk.proofs.Below.plain_state_SeatRows.{open_there}
use Rattle.script_desk.specs.plain_store.Calls.{Loads, Puts, Tries, WeaklyLoads}
use Rattle.script_desk.specs.plain_settling.Snapshots.{Takes}
use Rattle.script_desk.specs.script_lines.declared.command.TextPlace.{TextPlace}
use Rattle.script_desk.specs.script_lines.declared.command.TextPlace.TheVariants as text
use Rattle.script_desk.specs.declared.handle.Handle.{Handle}
use Rattle.script_desk.specs.declared.handle.Handle.TheVariants.{Strong, Weak, Snapshot}
use Rattle.script_desk.specs.Desks.{Names}
use Rattle.script_desk.specs.Effects.{IsPlace}
use Rattle.script_desk.specs.Faults.{is_weak_place, taken_by}
use Rattle.script_desk.specs.Handles.{is_strong, is_weak, slot_of}
use Rattle.script_desk.specs.Holding.{HasMore, giving}
use Rattle.script_desk.proofs.Gaining.{replaces_fewer}
use Rattle.script_law.proofs.Moving.{place_moves, runs_sound, seat_moves, still_moves}
use Rattle.script_law.proofs.Orderly.{Moves}

-- a strong place, and a weak one
pub strong_kind : (names : Names) (place : TextPlace) (at : EventPlace) → IsPlace names place at → (is_weak_place place ≡ true → ⊥)
    → place_kind at ≡ kind.Strong
strong_kind names (text.Cell i) at is not = ap place_kind is
strong_kind names (text.Field name i) at (h, e, is) not = ap place_kind is
strong_kind names (text.WeakCell i) at is not = absurd (not refl)
strong_kind names (text.WeakField name) at is not = absurd (not refl)

pub put_strong : (p q : Plain) (at : EventPlace) (h : Handle) → place_kind at ≡ kind.Strong → is_strong h ≡ true → 0 < length p.seats
    → Replaces p 0 at (Some (slot_of h)) q → HasMore q h p
put_strong p q at (Strong s) k strong there r = replaces_fewer p q at kind.Strong s k there r
put_strong p q at (Weak s) k strong there r = cc
put_strong p q at (Snapshot s) k strong there r = cc

put_weak : (p q : Plain) (at : EventPlace) (h : Handle) → place_kind at ≡ kind.Weak → is_weak h ≡ true → 0 < length p.seats
    → Replaces p 0 at (Some (slot_of h)) q → HasMore q h p
put_weak p q at (Strong s) k weak there r = cc
put_weak p q at (Weak s) k weak there r = replaces_fewer p q at kind.Weak s k there r
put_weak p q at (Snapshot s) k weak there r = cc

pub put_fewer : (p q : Plain) (names : Names) (place : TextPlace) (at : EventPlace) (h : Handle) → IsPlace names place at
    → taken_by place h ≡ true → 0 < length p.seats → Replaces p 0 at (Some (slot_of h)) q → HasMore q h p
put_fewer p q names (text.Cell i) at h is takes there r = put_strong p q at h (ap place_kind is) takes there r
put_fewer p q names (text.Field name i) at h (x, e, is) takes there r = put_strong p q at h (ap place_kind is) takes there r
put_fewer p q names (text.WeakCell i) at h is takes there r = put_weak p q at h (ap place_kind is) takes there r
put_fewer p q names (text.WeakField name) at h (x, e, is) takes there r = put_weak p q at h (ap place_kind is) takes there r

-- ---- what becomes of the heap
module _ (p : Plain) (so : Sound p) (one : length p.seats ≡ 1) where
  pub seated : 0 < length p.seats
  seated = omega arith

  pub add_moves : (q : Plain) (s : SlotId) (f : ℕ) → Does p 0 (act.Add s) f q → Moves p q
  add_moves q s f d =
      let sound = step_sound p q 0 (act.Add s) f so d in
      ⊎_elim (λ x. seat_moves p so one q _ sound x.2 refl) (λ x. seat_moves p so one q _ sound x.2 refl) d.1.1

  pub weak_gain_moves : (q : Plain) (s : SlotId) (f : ℕ) → Does p 0 (act.WeakGain s) f q → Moves p q
  weak_gain_moves q s f d = seat_moves p so one q _ (step_sound p q 0 (act.WeakGain s) f so d) d.1.2 refl

  pub give_moves : (q : Plain) (h : Handle) → Does p 0 (giving h) 0 q → Moves p q
  give_moves q (Strong s) (here, (xs, l, z, e)) = seat_moves p so one q _ (step_sound p q 0 (act.Drop s) 0 so (here, (xs, l, z, e))) e refl
  give_moves q (Weak s) (here, (xs, l, z, e)) = seat_moves p so one q _ (step_sound p q 0 (act.WeakDrop s) 0 so (here, (xs, l, z, e))) e refl
  give_moves q (Snapshot (s, true)) (here, (xs, l, z, e)) = seat_moves p so one q _ (step_sound p q 0 (act.Drop s) 0 so (here, (xs, l, z, e))) e refl
  give_moves q (Snapshot (s, false)) (here, (xs, l, z, e)) =
      seat_moves p so one q _ (step_sound p q 0 (act.EndSnapshot kind.Strong s) 0 so (here, (xs, l, z, e))) e refl

  pub load_moves : (q : Plain) (place : EventPlace) (s : SlotId) → Loads p place (Some s) q → Moves p q
  load_moves q place s (holds, e, runs) =
      seat_moves p so one q _ (runs_sound (act.Check 0 place ∷ act.Add s ∷ act.EndSnapshot (place_kind place) s ∷ []) p q so runs) e refl

  pub weakly_load_moves : (q : Plain) (place : EventPlace) (s : SlotId) → WeaklyLoads p place (Some s) q → Moves p q
  weakly_load_moves q place s (holds, e, runs) =
      seat_moves p so one q _ (runs_sound (act.Check 0 place ∷ act.WeakGain s ∷ act.EndSnapshot (place_kind place) s ∷ []) p q so runs) e refl

  pub look_same : (q : Plain) (place : EventPlace) → Does p 0 (act.Look place) 0 q → q ≡ p
  look_same q place (here, (readable, found, e)) = e

  no_disposal : (place : EventPlace) (n : ℕ) → of_kind kind.Disposal (place_kind place) n ≡ 0
  no_disposal (Cell i) n = refl
  no_disposal (Field s i) n = refl
  no_disposal (WeakCell i) n = refl
  no_disposal (WeakField s) n = refl

  deferred_calm : (place : EventPlace) (new : Option SlotId) (w : PlainSeat) → GivesUp (place_kind place) new (seat_at p 0) w → (s : SlotId)
      → entry_times kind.Disposal s (joined (place_kind place) (content p place) w.deferred) ≡ entry_times kind.Disposal s (seat_at p 0).deferred
  deferred_calm place new w gives s =
      let a = joined_times kind.Disposal (place_kind place) s (content p place) w.deferred in
      let b = no_disposal place (held_in s (content p place)) in
      let c = ap (entry_times kind.Disposal s) (gave (place_kind place) new (seat_at p 0) w s gives).deferred in omega arith

  pub put_moves : (q : Plain) (place : EventPlace) (new : Option SlotId) → Puts p place new q → Moves p q
  put_moves q place new (here, (opened, found, (w, gives, e))) =
      place_moves p so one q _ place new
      (step_sound p q 0 (act.Replace place new) _ so (here, (opened, found, (w, gives, e))))
      (open_there p 0 place so seated opened) e (deferred_calm place new w gives)

  -- a try that is lost changes nothing
  pub lost_same : (q : Plain) (place : EventPlace) (old new : Option SlotId) → Tries p place old new false q → q ≡ p
  lost_same q place old new (exactly, (here, (opened, found, cases))) =
      ⊎_elim (λ x. absurd (never (exactly.1 x.0))) (λ x. x.1) cases
    where
      never : false ≡ true → ⊥
      never e = cc

  pub try_moves : (q : Plain) (place : EventPlace) (old new : Option SlotId) (done : Bool) → Tries p place old new done q → Moves p q
  try_moves q place old new done (exactly, (here, (opened, found, cases))) =
      let sound = step_sound p q 0 (act.TryReplace place old new) _ so (here, (opened, found, cases)) in
      ⊎_elim
      (λ x. place_moves p so one q _ place new sound (open_there p 0 place so seated opened) x.1.2 (deferred_calm place new x.1.0 x.1.1))
      (λ x. still_moves p so one q x.1)
      cases

  pub take_moves : (q : Plain) (place : EventPlace) (s : SlotId) (counted : Bool) → Takes p place (Some (s, counted)) q → Moves p q
  take_moves q place s true (full, l) = load_moves q place s l
  take_moves q place s false (room, t) =
      seat_moves p so one q _ (step_sound p q 0 (act.Check 0 place) _ so t.checks) t.under.2 refl
