-- What the steps of a read leave, and what a seat knows on its way down.
use Rattle.std.specs.Prelude.{ℕ, ◌≡◌, ◌≢◌, ◌⊎◌, ◌+◌, ◌<◌, true, List, [], ◌∷◌, ◌++◌, Option, Some, None, Result, Ok, Err}
use Rattle.protected_loads.specs.plain_state.declared.act.EventPlace.TheVariants.{Cell}
use Rattle.protected_loads.specs.plain_state.declared.slot.Kind.TheVariants.{Strong}
use Rattle.protected_loads.specs.plain_state.declared.slot.SlotId.{SlotId}
use Rattle.protected_loads.specs.plain_state.State.{Plain}
use Rattle.protected_loads.specs.plain_state.Steps.{word_of}
use Rattle.protected_loads.specs.core_events.declared.act.Act.{Act}
use Rattle.protected_loads.specs.core_events.declared.act.Act.TheVariants as act
use Rattle.protected_loads.specs.core_events.declared.outcome.Outcome.TheVariants as outcome
use Rattle.protected_loads.specs.core_events.declared.view.CoreView.{CoreView}
use Rattle.protected_loads.specs.core_events.declared.view.Move.{Move}
use Rattle.protected_loads.specs.core_events.declared.view.Note.TheVariants as stands
use Rattle.protected_loads.specs.core_events.Shows.{show_seat, shows}
use Rattle.protected_loads.specs.core_events.Steps.{IsIdle, with_note}
use Rattle.protected_loads.specs.core_events.Views.{HoldsStrongly, note_of}
use Rattle.protected_loads.specs.domain_rule.Views.{object_in}
use Rattle.protected_loads.specs.acquire_retire.Calls.{IsOf, Steps}
use Rattle.protected_loads.specs.acquire_retire.Domains.{DomainState}
use Rattle.protected_loads.specs.acquire_retire.Seats.{SeatState}
use Rattle.map_law.specs.plain_protocol.Owns.{HasSlot}
use Rattle.map_trees.specs.Trees.{Pair, Shaped, Tree, pair, pairs}
use Rattle.map_trees.specs.Maps.{next}
use Rattle.map_law.specs.declared.view.Kid.{Kid}
use Rattle.map_law.specs.declared.view.Led.{Led}
use Rattle.map_law.specs.declared.view.Note.{Note}
use Rattle.map_law.specs.declared.view.Shown.{Shown}
use Rattle.map_law.specs.declared.view.View.{View}
use Rattle.map_law.specs.Views.{In, note}
use Rattle.map_law.specs.Nodes.{root, IsNode, TreeAt}
use Rattle.map_law.specs.Patterns.{Notes, kid_of}
use Rattle.map_law.specs.Lessons.{answer_next}
use Rattle.map_protocol.specs.declared.law.MapLaw.{MapLaw}
use Rattle.version_reading.specs.Ways.{Way, Passes, Seeks, Tells, levels}
use Rattle.version_reading.specs.Lessons.{LookTells}

-- THE EVENTS. Of all words these acts write the seat's announcement words alone
abbrev pub IsRead : Act → Type 0
IsRead (act.Look p) = Unit {0}
IsRead (act.Check j p) = Unit {0}
IsRead (act.Announce j k s) = Unit {0}
IsRead (act.Release j) = Unit {0}
IsRead (act.See s i) = Unit {0}
IsRead a = ⊥

abbrev pub AllRead : List Move → Type 0
AllRead [] = Unit {0}
AllRead (m ∷ ms) = IsRead m.act × AllRead ms

-- the event looked at the cell, or checked it, and the cell showed this word: 0 for null, and s + 1 for slot s
abbrev pub Showed : ℕ → ℕ → Move → Type 0
Showed c word m =
    ((found : Option SlotId) × (word ≡ word_of found)
    × (m ≡ record { act = act.Look (Cell c); outcome = outcome.Found found }))
    ⊎ ((j : ℕ) × (now : Option SlotId) × (word ≡ word_of now)
    × (m ≡ record { act = act.Check j (Cell c); outcome = outcome.Moved now }))

-- the trail goes on by some moves
abbrev pub GoesOn : CoreView → CoreView → Type 0
GoesOn v w = (ms : List Move) × (w.trail ≡ v.trail ++ ms)

-- WHAT A SEAT LEARNS: of its view of the map it has learnt more of nodes, and all else is as it was
pub record Learns (v w : View) : Type 0 where
  pub same :
      record w { solid = []; led = []; shown = [] } ≡ record v { solid = []; led = []; shown = [] }
  pub solid : (e : Note) → In e v.solid → In e w.solid
  pub led : (e : Led) → In e v.led → In e w.led
  pub shown : (e : Shown) → In e v.shown → In e w.shown

-- By events that only read the seat came to have v, but for its trail, and has learnt more.
pub record Reads (v : CoreView) (old new : SeatState View) : Type 0 where
  pub table : new.table ≡ old.table
  pub moves : List Move
  pub only : AllRead moves
  pub core : new.view.core ≡ record v { trail = old.view.core.trail ++ moves }
  pub cleared : new.view.cleared ≡ old.view.cleared
  pub learns : Learns old.view.client new.view.client

-- THE SEAT in the middle of a read: it is one of the domain's, in the middle of no event, and hasn't left the map
pub record IsReading (d : DomainState MapLaw) (seat : SeatState View) : Type 0 where
  pub of : IsOf d seat
  pub idle : IsIdle seat.view.core
  pub here : seat.view.client.here ≡ true

-- it holds a node, which it knows to be nobody's to change
pub record HasNode (s : SlotId) (seat : SeatState View) : Type 0 where
  pub held : HoldsStrongly seat.view.core s
  pub node : IsNode (object_in seat.view s).payload
  pub solid : In (note s (object_in seat.view s).life) seat.view.client.solid

-- the node in a slot, as the seat has it
abbrev pub kid_in : Option SlotId → SeatState View → Option Kid
kid_in None seat = None
kid_in (Some s) seat = Some (kid_of s (object_in seat.view s))

-- with a snapshot by this word of what was found, if anything was; and with a word, if there is one, that stands for
-- nothing
abbrev pub held_by : ℕ → Option SlotId → CoreView → CoreView
held_by j None v = v
held_by j (Some s) v = with_note j (stands.Valid Strong s) v

abbrev pub freed : Option ℕ → CoreView → CoreView
freed None v = v
freed (Some j) v = with_note j stands.Idle v

-- it knows that a field of a node holds this
abbrev pub KnowsSide : SlotId → ℕ → Option SlotId → SeatState View → Type 0
KnowsSide s i found seat =
    Notes seat.view.client s (object_in seat.view s).life i (kid_in found seat)

-- A SEARCH. The pair that an answer tells
abbrev pub pair_by : Option (ℕ × ℕ) → Option Pair
pair_by None = None
pair_by (Some x) = Some (pair x.0 x.1)

-- the seat's notes tell a way down from the root on by which the search for the key finds this
pub record Sought (r : SlotId) (key : ℕ) (found : Option Pair) (seat : SeatState View) : Type 0
  where
    pub way : Way
    pub tells : Tells seat.view.client (kid_in (Some r) seat) way
    pub seeks : Seeks key None way found

-- they tell one that has more levels than this
pub record IsLonger (r : SlotId) (height : ℕ) (seat : SeatState View) : Type 0 where
  pub way : Way
  pub tells : Tells seat.view.client (kid_in (Some r) seat) way
  pub longer : height < levels way

-- THE MAP. The tree on the root cell is a balanced search tree, and this is its least pair with at least the key
abbrev pub HasNext : ℕ → ℕ → Option Pair → Plain → Type 0
HasNext c key found p =
    (t : Tree) × TreeAt p (root p c) t × Shaped t × (next key (pairs t) ≡ found)

-- An event between these two states looked at the root cell, and the fact held of the state that the domain showed
-- then.
pub record AtALook (d : DomainState MapLaw) (c : ℕ) (fact : Plain → Type 0)
    (old new : SeatState View) : Type 0 where
  pub before : SeatState View
  pub after : SeatState View
  pub found : Option SlotId
  pub looks :
      Steps IsNode d answer_next (LookTells d.protocol.cell) (act.Look (Cell c)) before after
      (outcome.Found found)
  pub since : GoesOn old.view.core before.view.core
  pub till : GoesOn after.view.core new.view.core
  pub holds : fact (shows d.shape looks.told.happened.before)

-- the domain showed this root, or null; the tree on it is a balanced search tree, and all ways that this seat's notes
-- tell from it on, where the seat has it, lead down it
pub record KnowsRoot (c : ℕ) (found : Option SlotId) (seat : SeatState View) (p : Plain) : Type 0
  where
    pub shown : root p c ≡ found
    pub tree : Tree
    pub is : TreeAt p (root p c) tree
    pub shaped : Shaped tree
    pub ways :
        (r : SlotId) → found ≡ Some r → HasSlot (show_seat seat.view.core) r → (way : Way)
        → Tells seat.view.client (kid_in (Some r) seat) way → Passes way tree

-- an event by which the trail went on from here to there looked at the cell, and the cell showed this word
pub record Saw (c word : ℕ) (here there : List Move) : Type 0 where
  pub before : List Move
  pub event : Move
  pub after : List Move
  pub trail : there ≡ here ++ (before ++ event ∷ after)
  pub showed : Showed c word event

-- the cell showed these two words to two events in turn, and they differ
pub record IsMoved (c seen now : ℕ) (old new : SeatState View) : Type 0 where
  pub differ : seen ≢ now
  pub middle : List Move
  pub saw : Saw c seen old.view.core.trail middle
  pub sees : Saw c now middle new.view.core.trail

-- THE CELL is that of the domain's map, and the domain has it
pub record IsOver (c : ℕ) (d : DomainState MapLaw) : Type 0 where
  pub law : c ≡ d.protocol.cell
  pub there : c < d.shape.cells

-- one of the words 1 to 3, which stands for nothing
abbrev pub IsFree : ℕ → CoreView → Type 0
IsFree j v = (0 < j) × (j < 4) × (note_of v j ≡ stands.Idle)

-- what was held, if it was
abbrev pub root_by : {E : Type 0} → Result (Option SlotId) E → Option SlotId
root_by (Ok found) = found
root_by (Err error) = None

-- the seat holds this root by word j, and a look at the cell has shown it
pub record HoldsRoot (c j : ℕ) (r : SlotId) (old new : SeatState View) : Type 0 where
  pub held : note_of new.view.core j ≡ stands.Valid Strong r
  pub node : HasNode r new
  pub saw : Saw c (r.0 + 1) old.view.core.trail new.view.core.trail
