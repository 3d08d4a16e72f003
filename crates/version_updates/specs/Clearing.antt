-- How a map is cleared.
use Rattle.std.specs.Prelude.{ℕ, ◌≡◌, Option, None}
use Rattle.map_law.specs.plain_state.declared.act.EventPlace.TheVariants.{Cell}
use Rattle.map_law.specs.plain_state.declared.slot.SlotId.{SlotId}
use Rattle.map_law.specs.declared.view.View.{View}
use Rattle.map_law.specs.Nodes.{root}
use Rattle.map_law.specs.Publishing.{ClearTells, clear_next}
use Rattle.map_protocol.specs.declared.law.MapLaw.{MapLaw}
use Rattle.slot_store.specs.core_events.declared.act.Act.TheVariants as act
use Rattle.slot_store.specs.core_events.declared.outcome.Outcome.TheVariants as outcome
use Rattle.slot_store.specs.acquire_retire.Domains.{DomainState}
use Rattle.slot_store.specs.acquire_retire.Seats.{SeatState}
use Rattle.version_updates.specs.Steps.{AtAStep}

-- the exchange found some root in the cell, or null, and the cell held null after it
pub record IsCleared (d : DomainState MapLaw) (c : ℕ) (old new : SeatState View) : Type 0 where
  pub held : Option SlotId
  pub swap :
      AtAStep d clear_next (ClearTells d.protocol.cell) (act.Swap (Cell c) None)
      (outcome.Found held) (λ p q. (root p c ≡ held) × (root q c ≡ None)) old new
