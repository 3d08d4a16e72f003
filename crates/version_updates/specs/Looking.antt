-- What a look at the root cell tells of a version.
use Rattle.std.specs.Prelude.{ℕ, ◌≡◌, ◌≢◌, ◌≤◌, Option}
use Rattle.map_law.specs.plain_state.declared.act.EventPlace.TheVariants.{Cell}
use Rattle.map_law.specs.plain_state.declared.slot.SlotId.{SlotId}
use Rattle.map_law.specs.plain_state.Steps.{word_of}
use Rattle.map_law.specs.declared.view.View.{View}
use Rattle.map_law.specs.Lessons.{IsMapOf, answer_next}
use Rattle.map_law.specs.Nodes.{root}
use Rattle.map_law.specs.Patterns.{Pattern, Spells}
use Rattle.map_law.specs.Plans.{height_of}
use Rattle.map_protocol.specs.declared.law.MapLaw.{MapLaw}
use Rattle.slot_store.specs.core_events.declared.act.Act.TheVariants as act
use Rattle.slot_store.specs.core_events.declared.outcome.Outcome.TheVariants as outcome
use Rattle.slot_store.specs.counted_handles.Handles.{Handle}
use Rattle.slot_store.specs.acquire_retire.Domains.{DomainState}
use Rattle.slot_store.specs.acquire_retire.Seats.{SeatState}
use Rattle.atomic_shared.specs.Places.{named}
use Rattle.version_making.specs.Standing.{kid_by}
use Rattle.version_updates.specs.declared.update.Lost.{Lost}
use Rattle.version_updates.specs.Longest.{StillTells, longest}
use Rattle.version_updates.specs.Steps.{AtAStep}

module _ (d : DomainState MapLaw) (c : ℕ) (handle : Option Handle) where
  -- the look showed this root; the map was then what the seat's notes spell from it on, and no way that they spell was
  -- longer than the root's height tells
  abbrev pub IsStill : SeatState View → SeatState View → Type 0
  IsStill old new =
      AtAStep d answer_next (StillTells d.protocol.cell) (act.Look (Cell c))
      (outcome.Found (named handle))
      (λ p q. (root p c ≡ named handle)
      × ((pat : Pattern) → Spells old.view.client (kid_by handle old) pat
      → IsMapOf c p pat × (longest pat ≤ height_of pat)))
      old new

  -- it showed another one
  pub record IsMoved (lost : Lost) (old new : SeatState View) : Type 0 where
    pub found : Option SlotId
    pub seen : lost.seen ≡ word_of (named handle)
    pub now : lost.now ≡ word_of found
    pub differ : lost.seen ≢ lost.now
    pub look :
        AtAStep d answer_next (StillTells d.protocol.cell) (act.Look (Cell c))
        (outcome.Found found) (λ p q. root p c ≡ found) old new
