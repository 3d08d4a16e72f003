-- The steps of commands take no slot, and leave one seat.
use Rattle.std.proofs.Common.{◌≡◌, ◌≢◌, ◌<◌, List, [], ◌∷◌, length, length-set, refl, ap, sym, ◌∙◌, subst, arith, Option}
use Rattle.script_desk.specs.plain_state.declared.act.EventPlace.{EventPlace}
use Rattle.script_desk.specs.plain_state.declared.act.EventPlace.TheVariants.{Cell, Field, WeakCell, WeakField}
use Rattle.script_desk.specs.plain_state.declared.act.PlainAct.{PlainAct}
use Rattle.script_desk.specs.plain_state.declared.slot.Kind.TheVariants.{Disposal}
use Rattle.script_desk.specs.plain_state.declared.slot.SlotId.{SlotId}
use Rattle.script_desk.specs.plain_state.declared.slot.Stage.TheVariants.{Free}
use Rattle.script_desk.specs.plain_state.Places.{with_content}
use Rattle.script_desk.specs.plain_state.Runs.{Runs}
use Rattle.script_desk.specs.plain_state.Sound.{Sound}
use Rattle.script_desk.specs.plain_state.Lists.{entry_times}
use Rattle.script_desk.specs.plain_state.State.{Plain, PlainSeat, seat_at, stage_at, with_seat}
use Rattle.script_desk.proofs.Below.plain_state_Changes.{IsThere, content_object}
use Rattle.script_desk.proofs.Below.plain_state_EveryStep.{step_sound}
use Rattle.script_desk.proofs.Grows.{placed, placed_same_sizes, written}
use Rattle.script_law.specs.Orderly.{IsQuiet}
use Rattle.script_law.proofs.Orderly.{Moves}
use Rattle.script_law.proofs.States.{there_written}

pub runs_sound : (acts : List PlainAct) (p q : Plain) → Sound p → Runs p 0 acts q → Sound q
runs_sound [] p q so e = subst Sound (sym e) so
runs_sound (a ∷ more) p q so (m, found, does, rest) = runs_sound more m q (step_sound p m 0 a found so does) rest

module _ (p : Plain) (so : Sound p) (one : length p.seats ≡ 1) where
  seated : 0 < length p.seats
  seated = omega arith

  pub still_moves : (q : Plain) → q ≡ p → Moves p q
  still_moves q e = record {
    sound = subst Sound (sym e) so;
    one = ap (λ (r : Plain). length r.seats) e ∙ one;
    size = ap (λ (r : Plain). length r.slots) e;
    quiet = λ quiet. subst IsQuiet (sym e) quiet;
    taken = λ s. subst (λ (r : Plain). stage_at r s ≢ Free → stage_at p s ≢ Free) (sym e) (λ t. t);
  }

  pub seat_moves : (q : Plain) (w : PlainSeat) → Sound q → q ≡ with_seat p 0 w → w.deferred ≡ (seat_at p 0).deferred → Moves p q
  seat_moves q w sound e same = record {
    sound = sound;
    one = ap (λ (r : Plain). length r.seats) e ∙ length-set p.seats 0 w ∙ one;
    size = ap (λ (r : Plain). length r.slots) e;
    quiet = λ quiet s. ap (λ (v : PlainSeat). entry_times Disposal s v.deferred) (written p q w seated e) ∙ ap (entry_times Disposal s) same ∙ quiet s;
    taken = λ s. subst (λ (r : Plain). stage_at r s ≢ Free → stage_at p s ≢ Free) (sym e) (λ t. t);
  }

  placed_seats : (w : PlainSeat) (place : EventPlace) (new : Option SlotId)
      → (with_content (with_seat p 0 w) place new).seats ≡ (with_seat p 0 w).seats
  placed_seats w (Cell i) new = refl
  placed_seats w (Field s i) new = refl
  placed_seats w (WeakCell i) new = refl
  placed_seats w (WeakField s) new = refl

  pub place_moves : (q : Plain) (w : PlainSeat) (place : EventPlace) (new : Option SlotId) → Sound q → IsThere p place
      → q ≡ with_content (with_seat p 0 w) place new
      → ((s : SlotId) → entry_times Disposal s w.deferred ≡ entry_times Disposal s (seat_at p 0).deferred) → Moves p q
  place_moves q w place new sound there e same = record {
    sound = sound;
    one = ap (λ (r : Plain). length r.seats) e ∙ ap length (placed_seats w place new) ∙ length-set p.seats 0 w ∙ one;
    size = (placed_same_sizes p q w place new e).slots;
    quiet = λ quiet s. ap (λ (v : PlainSeat). entry_times Disposal s v.deferred) (placed p q w place new seated e) ∙ same s ∙ quiet s;
    taken = λ s. subst (λ (r : Plain). stage_at r s ≢ Free → stage_at p s ≢ Free) (sym e)
        (λ taken free. taken ((content_object (with_seat p 0 w) place new s (there_written p w place there)).0 ∙ free));
  }
