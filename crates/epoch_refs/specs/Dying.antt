-- What the parts of a destruction leave.
use Rattle.std.specs.Prelude.{ℕ, ◌≡◌, ◌+◌, ◌≤◌}
use Rattle.epoch_domain.specs.plain_protocol.plain_state.declared.slot.SlotId.{SlotId}
use Rattle.epoch_domain.specs.epoch_rule.Views.{object_in}
use Rattle.epoch_domain.specs.Domains.{DomainState}
use Rattle.epoch_domain.specs.Seats.{SeatState}
use Rattle.epoch_refs.specs.Flushing.{IsFlushing}
use Rattle.epoch_refs.specs.Walks.{IsAtRest}

module _ {P V : Type 0} where
  -- The seat is at rest again, with what it had but for what a flush changes. Its dying slots are as they were, and so
  -- is what it knows of the object in one of them; it has used room for so many entries.
  pub record Leaves (d : DomainState P) (s : SlotId) (used : ℕ) (old new : SeatState V) : Type 0
    where
      pub rest : IsAtRest d new
      pub core : IsFlushing old.view.core new.view.core
      pub known : new.view.core.known ≡ old.view.core.known
      pub dying : new.view.core.dying ≡ old.view.core.dying
      pub object : object_in new.view s ≡ object_in old.view s
      pub room : old.room ≤ new.room + used
