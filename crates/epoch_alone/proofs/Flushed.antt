-- A seat that has what flushes leave it is alone and free still.
use Rattle.std.proofs.Common.{ap, ◌∙◌}
use Rattle.epoch_settling.specs.epoch_core.declared.view.EpochView.{EpochView}
use Rattle.epoch_refs.specs.Flushing.{IsFlushing}
use Rattle.epoch_refs.specs.Walks.{IsAtRest, IsFree}
use Rattle.epoch_refs.specs.epoch_domain.Domains.{DomainState}
use Rattle.epoch_refs.specs.epoch_domain.Seats.{SeatState}
use Rattle.epoch_refs.specs.epoch_rule.declared.view.EpochSeatView.{EpochSeatView}
use Rattle.epoch_refs.specs.epoch_rule.Views.{IsAlone}
use Rattle.epoch_alone.proofs.Known.{still_alone}

pub flushed_alone : {V : Type 0} (old new : EpochSeatView V) → IsFlushing old.core new.core → IsAlone old
    → IsAlone new
flushed_alone old new core =
    still_alone old new (ap (λ (v : EpochView). v.seat) core) (ap (λ (v : EpochView). v.left_seats) core)
    (ap (λ (v : EpochView). v.shape) core)

pub flushed_free : {P V : Type 0} (d : DomainState P) (old new : SeatState V)
    → IsFlushing old.view.core new.view.core → IsAtRest d new → IsFree d old → IsFree d new
flushed_free d old new core rest free = record {
  rest = rest;
  outside = ap (λ (v : EpochView). v.number) core ∙ free.outside;
}
