-- What an update of the map does, and what it leaves where it is refused.
use Rattle.std.specs.Prelude.{ℕ, ◌≡◌, ◌≢◌, ◌⊎◌, ◌+◌, ◌*◌, ◌<◌, ◌^◌, Bool, true, false, List, [], ◌∷◌, ◌++◌, Option, Some, None}
use Rattle.version_making.specs.map_law.plain_state.declared.act.EventPlace.TheVariants.{Cell}
use Rattle.version_making.specs.map_law.plain_state.declared.slot.SlotId.{SlotId}
use Rattle.version_making.specs.map_law.plain_state.Steps.{word_of}
use Rattle.version_changes.specs.map_trees.declared.change.Change.{Change}
use Rattle.version_changes.specs.map_trees.declared.change.Change.TheVariants as change
use Rattle.version_making.specs.map_law.declared.view.View.{View}
use Rattle.version_making.specs.map_law.Lessons.{answer_next, see_next}
use Rattle.version_making.specs.map_law.Nodes.{IsNode, root}
use Rattle.version_making.specs.map_law.Patterns.{Pattern, Spells}
use Rattle.version_making.specs.map_law.Publishing.{ChangesMap, PublishTells, entry_of, publish_next}
use Rattle.version_making.specs.map_protocol.declared.law.MapLaw.{MapLaw}
use Rattle.version_making.specs.slot_store.core_events.declared.act.Act.TheVariants as act
use Rattle.version_making.specs.slot_store.core_events.declared.outcome.Outcome.TheVariants as outcome
use Rattle.version_making.specs.slot_store.core_events.declared.view.Move.{Move}
use Rattle.version_making.specs.slot_store.counted_handles.Handles.{Handle}
use Rattle.version_making.specs.slot_store.acquire_retire.Domains.{DomainState}
use Rattle.version_making.specs.slot_store.acquire_retire.Seats.{SeatState}
use Rattle.version_making.specs.slot_store.declared.making.MakeError.{MakeError}
use Rattle.version_making.specs.atomic_shared.protected_loads.References.{Loads}
use Rattle.version_making.specs.atomic_shared.Places.{named}
use Rattle.version_making.specs.Building.{IsWhy, height_by}
use Rattle.version_making.specs.Keeping.{GoesOn, Keeps, none}
use Rattle.version_making.specs.Standing.{Stands, kid_by}
use Rattle.version_updates.specs.Changes.{IsAltered}
use Rattle.version_updates.specs.declared.update.Update.{Update}
use Rattle.version_updates.specs.declared.update.Lost.{Lost}
use Rattle.version_updates.specs.Longest.{StillTells}
use Rattle.version_updates.specs.Publishing.{but_for}
use Rattle.version_updates.specs.Roots.{LowTells}
use Rattle.version_updates.specs.Steps.{AtAStep}
use Rattle.version_map.specs.Maps.{HasValue}
use Rattle.version_map.specs.declared.outcome.UpdateError.{UpdateError}
use Rattle.version_map.specs.declared.outcome.UpdateError.TheVariants as error

-- WHAT THE CELL SHOWED to an event that didn't change it: a look, a check, or an exchange that was lost
abbrev pub Showed : ℕ → ℕ → Move → Type 0
Showed c word m =
    (found : Option SlotId) × (word ≡ word_of found)
    × ((m ≡ record { act = act.Look (Cell c); outcome = outcome.Found found })
    ⊎ (((j : ℕ) × (m ≡ record { act = act.Check j (Cell c); outcome = outcome.Moved found }))
    ⊎ ((old : Option SlotId) × (new : Option SlotId)
    × (m ≡ record { act = act.Cas (Cell c) old new; outcome = outcome.LostTo found }))))

-- it showed this word to an event by which the trail went on from here to there
pub record Saw (c word : ℕ) (here there : List Move) : Type 0 where
  pub before : List Move
  pub event : Move
  pub after : List Move
  pub trail : there ≡ here ++ (before ++ event ∷ after)
  pub showed : Showed c word event

-- The cell showed the word of a root, or of null, and then another one. The entries are as they were.
pub record SeesAnother (c : ℕ) (seen : Option SlotId) (lost : Lost) (old new : SeatState View)
    : Type 0 where
  pub is : lost.seen ≡ word_of seen
  pub differ : lost.seen ≢ lost.now
  pub sees : Saw c lost.now old.view.core.trail new.view.core.trail
  pub entries : new.view.client.entries ≡ old.view.client.entries

-- The cell showed these two words to two events in turn, and they differ. The entries are as they were.
pub record IsAgain (c seen now : ℕ) (old new : SeatState View) : Type 0 where
  pub differ : seen ≢ now
  pub middle : List Move
  pub saw : Saw c seen old.view.core.trail middle
  pub sees : Saw c now middle new.view.core.trail
  pub entries : new.view.client.entries ≡ old.view.client.entries

-- AN UPDATE changes nothing where it is to take a key that isn't there
abbrev pub takes_nothing : Change → Option ℕ → Bool
takes_nothing (change.Put value) answer = false
takes_nothing (change.Bump more) answer = false
takes_nothing change.Take (Some value) = false
takes_nothing change.Take None = true

module _ (d : DomainState MapLaw) (c key : ℕ) (change : Change) (answer : Option ℕ)
    (old new : SeatState View) where
  -- One exchange put another root into the cell. The map had the change then and no other, the answer is what the key
  -- had before, and the entries are one more.
  pub record IsUpdated : Type 0 where
    pub from : Option SlotId
    pub to : Option SlotId
    pub exchange :
        AtAStep d (publish_next from to key change answer)
        (PublishTells d.protocol.cell key change answer) (act.Cas (Cell c) from to) outcome.Done
        (λ p q. (root p c ≡ from) × (root q c ≡ to) × ChangesMap c key change answer p q) old new
    pub entries :
        new.view.client.entries
        ≡ old.view.client.entries ++ entry_of key change answer old.view.client ∷ []

-- At a look at the cell the map was a balanced search tree in which the key isn't. The entries are as they were.
pub record IsAbsent (d : DomainState MapLaw) (c key : ℕ) (old new : SeatState View) : Type 0 where
  pub found : Option SlotId
  pub look :
      AtAStep d answer_next (StillTells d.protocol.cell) (act.Look (Cell c)) (outcome.Found found)
      (λ p q. HasValue c key None p) old new
  pub entries : new.view.client.entries ≡ old.view.client.entries

abbrev pub IsDoneBy : Bool → DomainState MapLaw → ℕ → ℕ → Change → Option ℕ → SeatState View
    → SeatState View → Type 0
IsDoneBy true d c key change answer old new = IsAbsent d c key old new
IsDoneBy false d c key change answer old new = IsUpdated d c key change answer old new

-- what an update did that answered what the key had
abbrev pub IsDone : DomainState MapLaw → ℕ → ℕ → Change → Option ℕ → SeatState View
    → SeatState View → Type 0
IsDone d c key change answer old new =
    IsDoneBy (takes_nothing change answer) d c key change answer old new

-- The seat's notes spell a pattern from the old root on, which is low, and one from the new root on, which is the old
-- one with the change.
pub record HasAltered (old new : Option Handle) (u : Update) (seat : SeatState View) : Type 0
  where
    pub old_pattern : Pattern
    pub new_pattern : Pattern
    pub spells : Spells seat.view.client (kid_by old seat) old_pattern
    pub stands : Stands new new_pattern seat
    pub altered : IsAltered old_pattern new_pattern u.key u.change u.answer
    pub low : height_by old seat < 2 ^ 62

-- REFUSED, it has changed neither the map nor the entries
pub record IsRefused {P : Type 0} (d : DomainState P) (why : MakeError)
    (old new : SeatState View) : Type 0 where
  pub cause : IsWhy d why old new
  pub entries : new.view.client.entries ≡ old.view.client.entries

-- why an update of the version of a root, which the cell has shown, did nothing
abbrev pub IsStopped : DomainState MapLaw → ℕ → Option SlotId → UpdateError → SeatState View
    → SeatState View → Type 0
IsStopped d c root (error.Again seen now) old new =
    SeesAnother c root (record { seen = seen; now = now }) old new
IsStopped d c root (error.Refused why) old new = IsRefused d why old new

-- why an update did nothing
abbrev pub IsUndone : DomainState MapLaw → ℕ → UpdateError → SeatState View → SeatState View
    → Type 0
IsUndone d c (error.Again seen now) old new = IsAgain c seen now old new
IsUndone d c (error.Refused why) old new = IsRefused d why old new

-- the call loaded the root that the cell held, or null, and this is the height that the root keeps
pub record HasLoaded (d : DomainState MapLaw) (c height : ℕ) (old new : SeatState View) : Type 0
  where
    pub handle : Option Handle
    pub mid : SeatState View
    pub loads :
        Loads IsNode d (Cell c) see_next (LowTells d.protocol.cell) (named handle) old mid
    pub high : height ≡ height_by handle mid
    pub goes : GoesOn mid.view.core new.view.core

-- What an update leaves of the seat, but for its entries: it has what it had, and has used at most so many makes and
-- adds as the height of the root that it loaded tells.
pub record Leaves (d : DomainState MapLaw) (c : ℕ) (old new : SeatState View) : Type 0 where
  pub height : ℕ
  pub loaded : (height ≡ 0) ⊎ HasLoaded d c height old new
  pub keeps :
      Keeps (height * 3 + 1) (height * 15 + 3) none none old (but_for old.view.client new)
