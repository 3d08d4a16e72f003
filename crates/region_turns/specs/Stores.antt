-- What a seat does in stores: the events of each, with what they found.
use Rattle.std.specs.Prelude.{ℕ, ◌≡◌, ◌==◌, ◌+◌, ◌*◌, ◌/◌, ◌%◌, ◌^◌, List, [], ◌∷◌, ◌++◌, length, if◌then◌else◌, Option, Some, None}
use Rattle.epoch_refs.specs.plain_protocol.plain_state.declared.act.EventPlace.TheVariants.{Cell}
use Rattle.epoch_refs.specs.plain_protocol.plain_state.declared.slot.SlotId.{SlotId}
use Rattle.epoch_refs.specs.epoch_core.declared.act.EpochAct.TheVariants as act
use Rattle.epoch_refs.specs.epoch_core.declared.outcome.EpochOutcome.TheVariants as outcome
use Rattle.epoch_refs.specs.epoch_core.declared.view.EpochMove.{EpochMove}
use Rattle.epoch_refs.specs.epoch_core.declared.view.EpochView.{EpochView}
use Rattle.epoch_refs.specs.Making.{begun_by}
use Rattle.epoch_refs.specs.Searching.{Try}
use Rattle.epoch_refs.specs.Walks.{move}

-- A store of a new object: the slots that were claimed and found taken, its own slot and its payload, what the cell
-- held, and the epoch with which that is dated.
pub record Store : Type 0 where
  pub tries : List Try
  pub slot : SlotId
  pub payload : List ℕ
  pub held : Option SlotId
  pub date : ℕ

-- what was taken out of a cell is dated
abbrev pub dated : Option SlotId → ℕ → List EpochMove
dated None e = []
dated (Some s) e = move act.Date (outcome.Epoch e) ∷ []

-- an object is made, and a cell takes it
abbrev pub stored_at : ℕ → Store → List EpochMove
stored_at cell s =
    (begun_by s.tries s.slot s.payload ++ move act.Start outcome.Plain ∷ [])
    ++ (move (act.Swap (Cell cell) (Some s.slot)) (outcome.Found s.held) ∷ dated s.held s.date)

-- A turn: its store, the epoch that the flush after it has read, and the other events of that flush.
pub record Turn : Type 0 where
  pub store : Store
  pub epoch : ℕ
  pub rest : List EpochMove

-- after every 64th store there is a flush
abbrev pub flushed_after : ℕ → ℕ → List EpochMove → List EpochMove
flushed_after number epoch rest =
    if number % 64 == 0 then move act.Flush (outcome.Epoch epoch) ∷ rest else []

-- what a linear congruential sequence draws after a number
unfoldable pub drawn : ℕ → ℕ
drawn x = (x * 6364136223846793005 % 2 ^ 64 + 1442695040888963407) % 2 ^ 64

-- the cell that a drawn number is for
abbrev pub cell_of : ℕ → ℕ
cell_of x = x / 2 ^ 33 % 16

-- the events of a turn of this number, for which x was drawn
abbrev pub turned : ℕ → ℕ → Turn → List EpochMove
turned x number t =
    stored_at (cell_of x) t.store ++ flushed_after number t.epoch t.rest

-- the events of turns with numbers from this one on, for each of which a number is drawn, the first after x
abbrev pub turned_from : ℕ → ℕ → List Turn → List EpochMove
turned_from x number [] = []
turned_from x number (t ∷ turns) =
    turned (drawn x) number t ++ turned_from (drawn x) (number + 1) turns

-- what was drawn last
abbrev pub drawn_last : ℕ → List Turn → ℕ
drawn_last x [] = x
drawn_last x (t ∷ turns) = drawn_last (drawn x) turns

-- it has made an object and stored it into this cell, and nothing else
pub record HasStored (cell : ℕ) (old new : EpochView) : Type 0 where
  pub store : Store
  pub events : new.trail ≡ old.trail ++ stored_at cell store

-- it has flushed where the store of this number is a 64th one
pub record HasFlushed (number : ℕ) (old new : EpochView) : Type 0 where
  pub epoch : ℕ
  pub rest : List EpochMove
  pub events : new.trail ≡ old.trail ++ flushed_after number epoch rest

-- It has made n turns, and nothing else but what flushes do after their first event. The first number is drawn after x,
-- and the last one is y.
pub record HasStoredEach (x n y : ℕ) (old new : EpochView) : Type 0 where
  pub turns : List Turn
  pub count : length turns ≡ n
  pub draws : y ≡ drawn_last x turns
  pub events : new.trail ≡ old.trail ++ turned_from x 1 turns
