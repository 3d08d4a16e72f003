-- What holds of a desk between two commands.
use Rattle.std.specs.Prelude.{ℕ, ◌≡◌, ◌≢◌, ◌<◌, List, [], ◌∷◌, length, None}
use Rattle.std.specs.Map.{values_of}
use Rattle.script_desk.specs.plain_state.declared.slot.Kind.TheVariants.{Disposal}
use Rattle.script_desk.specs.plain_state.declared.slot.SlotId.{SlotId}
use Rattle.script_desk.specs.plain_state.declared.slot.Stage.TheVariants.{Free}
use Rattle.script_desk.specs.plain_state.Sound.{Sound}
use Rattle.script_desk.specs.plain_state.Lists.{entry_times}
use Rattle.script_desk.specs.plain_state.State.{Plain, empty, seat_at, stage_at}
use Rattle.script_desk.specs.Desks.{Desk, Names, bound, maker_of, nobody}
use Rattle.script_desk.specs.Holding.{HoldsFor}

-- no name is bound twice
abbrev pub OnceEach : Names → Type 0
OnceEach [] = Unit {0}
OnceEach (entry ∷ rest) = (bound rest entry.0 ≡ None) × OnceEach rest

abbrev pub IsQuiet : Plain → Type 0
IsQuiet p = (s : SlotId) → entry_times Disposal s (seat_at p 0).deferred ≡ 0

pub record IsOrderly (d : Desk) : Type 0 where
  -- its heap is sound, has one seat, and lets no disposal wait: only snapshots are of that kind;
  pub sound : Sound d.plain
  pub one : length d.plain.seats ≡ 1
  pub quiet : IsQuiet d.plain
  -- the seat has just what the names are bound to, where each name is listed once;
  pub listed : Names
  pub once : OnceEach listed
  pub same : (name : List ℕ) → bound listed name ≡ bound d.names name
  pub holds : HoldsFor d.plain (values_of listed)
  -- and each slot that isn't free was made by a make of its own
  pub made : (s : SlotId) → stage_at d.plain s ≢ Free → (maker_of d s).number < d.makes
  pub own : (s t : SlotId) → stage_at d.plain s ≢ Free → stage_at d.plain t ≢ Free
      → (maker_of d s).number ≡ (maker_of d t).number → s ≡ t

-- a desk with so many slots, cells and weak cells, of which no command was run
abbrev pub IsFresh : ℕ → ℕ → ℕ → Desk → Type 0
IsFresh slots cells weak_cells d =
    (d.plain ≡ empty 1 slots cells weak_cells) × (d.names ≡ []) × (d.makes ≡ 0)
    × ((s : SlotId) → maker_of d s ≡ nobody)
