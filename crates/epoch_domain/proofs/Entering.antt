-- What a seat has that has read the epoch, to open a region.
use Rattle.std.proofs.Common.{ℕ, ◌+◌, ◌^◌, ◌<◌, List, arith}
use Rattle.atomic_table.specs.declared.shared.Seat.{Seat as TableSeat}
use Rattle.epoch_rule.specs.plain_protocol.plain_state.declared.act.PlainAct.{PlainAct}
use Rattle.epoch_rule.specs.plain_protocol.plain_state.State.{Plain}
use Rattle.epoch_rule.specs.plain_protocol.Owns.{OwnPart}
use Rattle.epoch_rule.specs.epoch_core.declared.act.EpochAct.TheVariants as act
use Rattle.epoch_rule.specs.declared.view.EpochSeatView.{EpochSeatView}
use Rattle.epoch_domain.specs.Calls.{Stepped}
use Rattle.epoch_domain.specs.Domains.{DomainState}
use Rattle.epoch_domain.proofs.Below.epoch_core_Keeps.{history_sound}

module _ {P V : Type 0} (fits : List ℕ → Type 0) (d : DomainState P)
    (next : OwnPart → OwnPart → V → PlainAct → ℕ → V)
    (allows : Plain → Plain → ℕ → V → V → Type 0)
    (old new : TableSeat (Unit {0}) (EpochSeatView V)) (w : ℕ)
    (step : Stepped fits d next allows act.Enter old w new) where
  -- the epoch that was read is no later than the last one
  pub small : w + 1 < 2 ^ 64
  small =
      let h = step.told.happened in
      let so = history_sound d.shape d.quotas h.events h.before h.shape h.quotas h.history in
      let limit = so.limit in
      let found = h.found in
      omega (arith, limit, found)
