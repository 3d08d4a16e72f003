-- Desks that differ in nothing but which slots their objects stand in, and in the orders of lists.
use Rattle.std.specs.Prelude.{ℕ, ◌≡◌, ◌≢◌, List, Option, Some, None, length}
use Rattle.script_desk.specs.plain_state.declared.slot.SlotId.{SlotId}
use Rattle.script_desk.specs.plain_state.declared.slot.Stage.TheVariants.{Free}
use Rattle.script_desk.specs.plain_state.State.{stage_at}
use Rattle.script_desk.specs.declared.handle.Handle.{Handle}
use Rattle.script_desk.specs.declared.handle.Handle.TheVariants.{Strong, Weak, Snapshot}
use Rattle.script_desk.specs.Desks.{Desk, bound, maker_of}
use Rattle.script_law.specs.Renamings.{IsRenaming}
use Rattle.script_law.specs.States.{StatesAlike}

-- what a name is bound to, by the new names of slots
abbrev pub renamed_handle : (SlotId → SlotId) → Handle → Handle
renamed_handle to (Strong s) = Strong (to s)
renamed_handle to (Weak s) = Weak (to s)
renamed_handle to (Snapshot s) = Snapshot (to s.0, s.1)

-- the same, if it is bound
abbrev pub renamed_bound : (SlotId → SlotId) → Option Handle → Option Handle
renamed_bound to None = None
renamed_bound to (Some h) = Some (renamed_handle to h)

-- e is d by the new names: names are bound to the same, and the same makes made the slots that aren't free
pub record DesksAlike (to : SlotId → SlotId) (d e : Desk) : Type 0 where
  pub plain : StatesAlike to d.plain e.plain
  pub names : (name : List ℕ) → bound e.names name ≡ renamed_bound to (bound d.names name)
  pub makers : (s : SlotId) → stage_at d.plain s ≢ Free → maker_of e (to s) ≡ maker_of d s
  pub makes : e.makes ≡ d.makes

-- the desks are the same by some renaming
abbrev pub Alike : Desk → Desk → Type 0
Alike d e =
    (to : SlotId → SlotId) × (from : SlotId → SlotId) × IsRenaming (length d.plain.slots) to from
    × DesksAlike to d e
