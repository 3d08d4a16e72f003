-- What a call of a seat makes of the seat, from the atomic step that it makes.
use Rattle.std.proofs.Common.{◌≡◌, ℕ, ◌+◌, ◌≤◌, List, length, ap, sym, ◌∙◌, subst, arith}
use Rattle.atomic_table.specs.declared.shared.Seat.{Seat as TableSeat}
use Rattle.epoch_rule.specs.plain_protocol.plain_state.declared.act.PlainAct.{PlainAct}
use Rattle.epoch_rule.specs.plain_protocol.plain_state.State.{Plain}
use Rattle.epoch_rule.specs.plain_protocol.Acts.{IsCalm}
use Rattle.epoch_rule.specs.plain_protocol.Owns.{OwnPart}
use Rattle.epoch_rule.specs.epoch_core.declared.act.EpochAct.{EpochAct}
use Rattle.epoch_rule.specs.epoch_core.declared.act.EpochAct.TheVariants as act
use Rattle.epoch_rule.specs.epoch_core.declared.outcome.EpochOutcome.{EpochOutcome}
use Rattle.epoch_rule.specs.epoch_core.declared.shape.EpochShape.{EpochShape}
use Rattle.epoch_rule.specs.epoch_core.declared.view.EpochView.{EpochView}
use Rattle.epoch_rule.specs.epoch_core.Steps.{May, answer, moved}
use Rattle.epoch_rule.specs.declared.view.EpochSeatView.{EpochSeatView}
use Rattle.epoch_rule.specs.Told.{FitsStart, IsOwn, deed_step}
use Rattle.epoch_parts.specs.Pending.{Queues}
use Rattle.epoch_domain.specs.Calls.{CanStep, IsOf, IsReady, Stepped, Steps, entries_made}
use Rattle.epoch_domain.specs.Domains.{DomainState}
use Rattle.epoch_domain.specs.Seats.{HasRooms, IsSeat, IsSeated, SeatState, Stored, stored}
use Rattle.epoch_domain.proofs.InRange.{left_same}

-- what clauses see of the seat of a table, with so much room
abbrev pub value_of : {V : Type 0} → TableSeat (Unit {0}) (EpochSeatView V) → ℕ → SeatState V
value_of seat room = record { table = seat.table_id; view = seat.me.0; room = room }

module _ {P V : Type 0} (d : DomainState P) where
  -- what a call requires is what its atomic step requires
  pub can_step : (ready : OwnPart → V → PlainAct → Type 0) (fits : List ℕ → Type 0) (a : EpochAct)
      (seat : TableSeat (Unit {0}) (EpochSeatView V)) (room : ℕ) (s : SeatState V)
      → value_of seat room ≡ s → IsSeated seat.me → IsOf d s → IsOwn a s.view
      → May d.shape a s.view.core → FitsStart fits a s.view → IsReady ready a s.view
      → CanStep d ready fits a seat
  can_step ready fits a seat room s is seated of own may starts is_ready =
      let T : SeatState V → Type 0 = λ x. IsOf d x × IsOwn a x.view × May d.shape a x.view.core
      × FitsStart fits a x.view × IsReady ready a x.view in
      let t = subst T (sym is) (of, own, may, starts, is_ready) in
      record {
        table = t.0.0;
        shape = t.0.1;
        seated = seated;
        own = t.1;
        may = t.2;
        starts = t.3;
        is_ready = t.4;
      }

  module _ {fits : List ℕ → Type 0} (next_view : OwnPart → OwnPart → V → PlainAct → ℕ → V)
      (allows : Plain → Plain → ℕ → V → V → Type 0) (a : EpochAct)
      (old new : TableSeat (Unit {0}) (EpochSeatView V)) (w : ℕ)
      (step : Stepped fits d next_view allows a old w new) where
    -- and what the atomic step told is what the call tells
    pub call_tells : (room after : ℕ) (s : SeatState V) → value_of old room ≡ s
        → (o : EpochOutcome) → o ≡ answer a w old.me.0.core → room ≤ after + entries_made a
        → Steps fits d next_view allows a s (value_of new after) o
    call_tells room after s is o answers more =
        let T : SeatState V → Type 0 = λ x. Steps fits d next_view allows a x (value_of new after) o in
        subst T is (record {
          table = step.table;
          word = w;
          told = step.told;
          answers = answers;
          room = more;
        })

    -- the seat stores what its new view has
    pub seat_after : (s : Stored) (lists after : Queues) (room : ℕ)
        → old.me.0.core.shape ≡ d.shape → HasRooms old.me.0.core lists room
        → length after.queues ≡ length lists.queues → after.room ≡ lists.room
        → s ≡ stored (moved d.shape a w old.me.0.core) → IsSeat new.me s after room
    seat_after s lists after room same rooms count more goes =
        let shape = step.told.law.same_shape ∙ sym same in
        let seats = ap (λ (z : EpochShape). z.seats) shape in
        let slots = ap (λ (z : EpochShape). z.slots) shape in
        let left = ap (λ (v : EpochView). length v.left_seats) step.told.core
        ∙ ap length (left_same old.me.0.core d.shape a w) in
        let counted = rooms.counted in let ended = rooms.ended in record {
          seated = step.seated;
          stores = goes ∙ sym (ap stored step.told.core);
          rooms = record {
            ended = omega (arith, ended, slots);
            counted = omega (arith, counted, left, count);
            root = λ first.
                let all = rooms.root (sym step.told.law.number ∙ first) in
                omega (arith, all, seats, more);
          };
        }

-- acts that need no deed
abbrev pub IsQuiet : EpochAct → Type 0
IsQuiet act.Start = ⊥
IsQuiet (act.Look p) = ⊥
IsQuiet (act.Swap p new) = ⊥
IsQuiet (act.Cas p old new) = ⊥
IsQuiet (act.Leave j) = ⊥
IsQuiet a = Unit {0}

quiet_calm : (a : EpochAct) (w : ℕ) (v : EpochView) → IsQuiet a → IsCalm (deed_step a w v).0
quiet_calm (act.Claim s) w v quiet = tt
quiet_calm (act.Fill i x) w v quiet = tt
quiet_calm act.Start w v quiet = absurd quiet
quiet_calm (act.See s i) w v quiet = tt
quiet_calm (act.Add s) w v quiet = tt
quiet_calm (act.Drop s) w v quiet = tt
quiet_calm (act.Pay e) w v quiet = tt
quiet_calm (act.Free s) w v quiet = tt
quiet_calm (act.Look p) w v quiet = absurd quiet
quiet_calm (act.Swap p new) w v quiet = absurd quiet
quiet_calm (act.Cas p old new) w v quiet = absurd quiet
quiet_calm (act.Clear s i) w v quiet = tt
quiet_calm act.Date w v quiet = tt
quiet_calm act.Enter w v quiet = tt
quiet_calm act.Open w v quiet = tt
quiet_calm act.Exit w v quiet = tt
quiet_calm act.Flush w v quiet = tt
quiet_calm act.Scan w v quiet = tt
quiet_calm act.Advance w v quiet = tt
quiet_calm (act.Leave j) w v quiet = absurd quiet

-- what a call without a deed requires is what its atomic step requires
pub can_still : {P V : Type 0} (d : DomainState P) (fits : List ℕ → Type 0) (a : EpochAct)
    (seat : TableSeat (Unit {0}) (EpochSeatView V)) (room : ℕ) (s : SeatState V)
    → value_of seat room ≡ s → IsSeated seat.me → IsOf d s → IsOwn a s.view → IsQuiet a
    → May d.shape a s.view.core → CanStep d (λ own v act. IsCalm act) fits a seat
can_still d fits a seat room s is seated of own quiet may =
    can_step d (λ own v act. IsCalm act) fits a seat room s is seated of own may
    (λ start. absurd (subst IsQuiet start quiet)) (λ w. quiet_calm a w s.view.core quiet)
