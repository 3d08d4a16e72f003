-- What was taken out of a place is dated.
use Rattle.std.proofs.Common.{◌≡◌, ℕ, true, List, refl, subst}
use Rattle.std.specs.Prelude.{Option, Some, None}
use Rattle.std.specs.Option.{is_some}
use Rattle.epoch_domain.specs.plain_protocol.plain_state.declared.slot.SlotId.{SlotId}
use Rattle.epoch_domain.specs.epoch_core.declared.act.EpochAct.TheVariants as act
use Rattle.epoch_domain.specs.epoch_core.declared.outcome.EpochOutcome.{EpochOutcome}
use Rattle.epoch_domain.specs.Calls.{IsSameView, Steps, same_view}
use Rattle.epoch_domain.specs.Domains.{DomainState}
use Rattle.epoch_domain.specs.Seats.{SeatState}
use Rattle.epoch_refs.specs.Exchanges.{Dates}

pub dates : {P V : Type 0} (fits : List ℕ → Type 0) (d : DomainState P) (took : Option SlotId)
    (old new : SeatState V) (o : EpochOutcome)
    → Steps fits d same_view IsSameView act.Date old new o → is_some took ≡ true
    → Dates fits d took old new
dates fits d None old new o step some = absurd (cc (some))
dates fits d (Some s) old new o step some = (
  step.word,
  (new, subst (Steps fits d same_view IsSameView act.Date old new) step.answers step, refl),
)
