-- What a publish asks for, and what its exchange does.
use Rattle.std.specs.Prelude.{ℕ, ◌≡◌, ◌≢◌, List, [], ◌∷◌, ◌++◌, Option, Result, Ok, Err}
use Rattle.map_law.specs.plain_state.declared.act.EventPlace.TheVariants.{Cell}
use Rattle.map_law.specs.plain_state.declared.slot.SlotId.{SlotId}
use Rattle.map_law.specs.plain_state.Steps.{word_of}
use Rattle.map_trees.specs.declared.change.Entry.{Entry}
use Rattle.map_law.specs.declared.view.View.{View}
use Rattle.map_law.specs.Nodes.{KeepsMap, root}
use Rattle.map_law.specs.Patterns.{IsChange, Pattern, Spells}
use Rattle.map_law.specs.Publishing.{ChangesMap, PublishTells, entry_of, publish_next}
use Rattle.map_protocol.specs.declared.law.MapLaw.{MapLaw}
use Rattle.slot_store.specs.core_events.declared.act.Act.TheVariants as act
use Rattle.slot_store.specs.core_events.declared.outcome.Outcome.TheVariants as outcome
use Rattle.slot_store.specs.counted_handles.Handles.{Handle}
use Rattle.slot_store.specs.acquire_retire.Domains.{DomainState}
use Rattle.slot_store.specs.acquire_retire.Seats.{SeatState}
use Rattle.atomic_shared.specs.Places.{named}
use Rattle.version_making.specs.Standing.{Stands, kid_by}
use Rattle.version_updates.specs.declared.update.Lost.{Lost}
use Rattle.version_updates.specs.declared.update.Update.{Update}
use Rattle.version_updates.specs.Steps.{AtAStep}

-- The seat's notes spell a pattern from the old root on, and one from the new root on, which is the old one with the
-- change; and nobody changes the new root.
pub record MakesVersion (old new : Option Handle) (u : Update) (seat : SeatState View) : Type 0
  where
    pub old_pattern : Pattern
    pub new_pattern : Pattern
    pub spells : Spells seat.view.client (kid_by old seat) old_pattern
    pub stands : Stands new new_pattern seat
    pub is_change : IsChange old_pattern new_pattern u.key u.change u.answer

module _ (d : DomainState MapLaw) (c : ℕ) (old new : Option Handle) (u : Update) where
  -- The exchange found the old root in the cell and put the new one there. The map had the change then, and the answer
  -- is what the key had before.
  abbrev pub IsPublished : SeatState View → SeatState View → Type 0
  IsPublished =
      AtAStep d (publish_next (named old) (named new) u.key u.change u.answer)
      (PublishTells d.protocol.cell u.key u.change u.answer)
      (act.Cas (Cell c) (named old) (named new)) outcome.Done
      (λ p q. (root p c ≡ named old) × (root q c ≡ named new)
      × ChangesMap c u.key u.change u.answer p q)

  -- The exchange found another root in the cell than the old one, and the map stayed as it was.
  pub record IsLost (lost : Lost) (before after : SeatState View) : Type 0 where
    pub found : Option SlotId
    pub seen : lost.seen ≡ word_of (named old)
    pub now : lost.now ≡ word_of found
    pub differ : lost.seen ≢ lost.now
    pub exchange :
        AtAStep d (publish_next (named old) (named new) u.key u.change u.answer)
        (PublishTells d.protocol.cell u.key u.change u.answer)
        (act.Cas (Cell c) (named old) (named new)) (outcome.LostTo found)
        (λ p q. (root p c ≡ found) × KeepsMap c p q) before after

-- the entries after a publish: one more where it succeeded
abbrev pub entries_by : {E : Type 0} → Result (Unit {0}) E → Update → View → List Entry
entries_by (Ok done) u v = v.entries ++ entry_of u.key u.change u.answer v ∷ []
entries_by (Err error) u v = v.entries

-- the seat, but for its entries and for whether it has cleared the map, which are as in another view
abbrev pub but_for : View → SeatState View → SeatState View
but_for v seat =
    record seat {
      view = record seat.view {
        client = record seat.view.client { entries = v.entries; cleared = v.cleared };
      };
    }
