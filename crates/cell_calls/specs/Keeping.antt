-- What a call leaves of its seat, and how its view of the client grows.
use Rattle.std.specs.Prelude.{ℕ, ◌≡◌, ◌+◌, ◌≤◌, Bool, true, false, List, [], ◌∷◌, ◌++◌}
use Rattle.cell_protocol.specs.cell_law.plain_state.declared.slot.SlotId.{SlotId}
use Rattle.cell_protocol.specs.cell_law.plain_state.Lists.{times}
use Rattle.cell_protocol.specs.cell_law.directory_law.declared.view.Rope.{Rope}
use Rattle.cell_protocol.specs.cell_law.directory_law.Views.{In}
use Rattle.cell_protocol.specs.cell_law.declared.view.View.{View}
use Rattle.cell_protocol.specs.cell_law.Walks.{SawAll}
use Rattle.epoch_refs.specs.epoch_core.declared.act.EpochAct.{EpochAct}
use Rattle.epoch_refs.specs.epoch_core.declared.act.EpochAct.TheVariants as act
use Rattle.epoch_refs.specs.epoch_core.declared.view.EpochMove.{EpochMove}
use Rattle.epoch_refs.specs.epoch_core.declared.view.EpochView.{EpochView}
use Rattle.epoch_refs.specs.epoch_core.Views.{Holds}
use Rattle.epoch_refs.specs.epoch_rule.Views.{object_in}
use Rattle.epoch_refs.specs.epoch_domain.Seats.{SeatState}

-- what a seat has beside its references, what its region has seen, what is pending and dying, what it made and used,
-- and its trail
abbrev pub aside : EpochView → EpochView
aside v = record v {
  owned = [];
  seen = [];
  pending = [];
  dying = [];
  made = [];
  adds = 0;
  makes = 0;
  trail = [];
}

-- the trail goes on by some moves
abbrev pub GoesOn : EpochView → EpochView → Type 0
GoesOn v w = (ms : List EpochMove) × (w.trail ≡ v.trail ++ ms)

-- whether an act tries to take a free slot
abbrev pub is_claim : EpochAct → Bool
is_claim (act.Claim s) = true
is_claim _ = false

-- none of these moves tries to take one
abbrev pub ClaimNone : List EpochMove → Type 0
ClaimNone [] = Unit {0}
ClaimNone (m ∷ ms) = (is_claim m.act ≡ false) × ClaimNone ms

-- the trail goes on by such moves
abbrev pub GoesUnclaimed : EpochView → EpochView → Type 0
GoesUnclaimed v w = (ms : List EpochMove) × ClaimNone ms × (w.trail ≡ v.trail ++ ms)

-- Before and after a call the region is open, or closed. The seat owns these references then, in some order. It has
-- used at most so many makes and adds more. What its region has seen it has seen still. What it has beside is as it
-- was, and so is what it knows of the objects that it held and holds.
pub record Keeps {V : Type 0} (makes adds : ℕ) (owned : List SlotId) (old new : SeatState V)
    : Type 0 where
  pub owns : (x : SlotId) → times x new.view.core.owned ≡ times x owned
  pub makes_used :
      (old.view.core.makes ≤ new.view.core.makes)
      × (new.view.core.makes ≤ old.view.core.makes + makes)
  pub adds_used :
      (old.view.core.adds ≤ new.view.core.adds)
      × (new.view.core.adds ≤ old.view.core.adds + adds)
  pub sees : (x : SlotId) → times x old.view.core.seen ≤ times x new.view.core.seen
  pub same : aside new.view.core ≡ aside old.view.core
  pub goes : GoesOn old.view.core new.view.core
  pub knows :
      (x : SlotId) → Holds old.view.core x → Holds new.view.core x
      → object_in new.view x ≡ object_in old.view x

-- The seat has seen more in cells, and found more records. What it noted and bound is as it was.
pub record Learns (v w : View) : Type 0 where
  pub saw : SawAll v w
  pub found : (e : Rope) → In e v.found → In e w.found
  pub rest : w ≡ record v { seen = w.seen; found = w.found }

-- it has noted other slots, and nothing else has changed
abbrev pub NotesOnly : View → View → Type 0
NotesOnly v w = w ≡ record v { noted = w.noted }
