-- What the seat has for each handle, and that it has no more than its names are bound to.
use Rattle.std.specs.Prelude.{ℕ, ◌≡◌, ◌+◌, true, false, List, length, Some}
use Rattle.std.specs.List.{sum_by}
use Rattle.std.specs.Map.{values_of}
use Rattle.plain_audit.specs.plain_state.declared.act.PlainAct.{PlainAct}
use Rattle.plain_audit.specs.plain_state.declared.act.PlainAct.TheVariants as act
use Rattle.plain_audit.specs.plain_state.declared.slot.Kind.TheVariants as kind
use Rattle.plain_audit.specs.plain_state.declared.slot.SlotId.{SlotId}
use Rattle.plain_audit.specs.plain_state.Lists.{Entry, times, entry_times}
use Rattle.plain_audit.specs.plain_state.State.{Plain, seat_at}
use Rattle.plain_audit.specs.plain_state.References.{held_in}
use Rattle.plain_settling.specs.plain_store.Heaps.{Owns, OwnsWeakly}
use Rattle.plain_settling.specs.plain_store.Calls.{HasSnapshot, ending}
use Rattle.script_desk.specs.Desks.{Maker, Names}
use Rattle.script_desk.specs.declared.handle.Handle.{Handle}
use Rattle.script_desk.specs.declared.handle.Handle.TheVariants.{Strong, Weak, Snapshot}

-- how often s stands in the owned list for the handle: once for a strong one of s, and once for a
-- counted snapshot
abbrev pub owned_by : SlotId → Handle → ℕ
owned_by s (Strong t) = held_in s (Some t)
owned_by s (Weak t) = 0
owned_by s (Snapshot (t, true)) = held_in s (Some t)
owned_by s (Snapshot (t, false)) = 0

-- the same in the list of weak references
abbrev pub weakly_owned_by : SlotId → Handle → ℕ
weakly_owned_by s (Strong t) = 0
weakly_owned_by s (Weak t) = held_in s (Some t)
weakly_owned_by s (Snapshot t) = 0

-- and in the list of snapshots, for an uncounted one
abbrev pub announced_by : SlotId → Handle → ℕ
announced_by s (Strong t) = 0
announced_by s (Weak t) = 0
announced_by s (Snapshot (t, true)) = 0
announced_by s (Snapshot (t, false)) = held_in s (Some t)

-- how often s stands in a list of entries that aren't strong
abbrev pub not_strong : SlotId → List Entry → ℕ
not_strong s es = entry_times kind.Weak s es + entry_times kind.Disposal s es

-- the seat has for these handles what they need, and nothing else
pub record HoldsFor (p : Plain) (handles : List Handle) : Type 0 where
  pub owned : (s : SlotId) → times s (seat_at p 0).owned ≡ sum_by (owned_by s) handles
  pub weaks : (s : SlotId) → times s (seat_at p 0).weaks ≡ sum_by (weakly_owned_by s) handles
  pub snapshots : (s : SlotId) →
      entry_times kind.Strong s (seat_at p 0).snapshots ≡ sum_by (announced_by s) handles
  pub weak_snapshots : (s : SlotId) → not_strong s (seat_at p 0).snapshots ≡ 0

-- the seat has the handle
abbrev pub HasHandle : Plain → Handle → Type 0
HasHandle p (Strong s) = Owns p s
HasHandle p (Weak s) = OwnsWeakly p s
HasHandle p (Snapshot s) = HasSnapshot p s.0 s.1

-- the step that gives it up
abbrev pub giving : Handle → PlainAct
giving (Strong s) = act.Drop s
giving (Weak s) = act.WeakDrop s
giving (Snapshot s) = ending s.0 s.1

-- as many slots and cells
pub record SameSizes (p q : Plain) : Type 0 where
  pub slots : length q.slots ≡ length p.slots
  pub cells : length q.cells ≡ length p.cells
  pub weak_cells : length q.weak_cells ≡ length p.weak_cells

-- in q the seat has what it has in p, and what this handle needs
pub record HasMore (p : Plain) (h : Handle) (q : Plain) : Type 0 where
  pub sizes : SameSizes p q
  pub owned : (s : SlotId) →
      times s (seat_at q 0).owned ≡ times s (seat_at p 0).owned + owned_by s h
  pub weaks : (s : SlotId) →
      times s (seat_at q 0).weaks ≡ times s (seat_at p 0).weaks + weakly_owned_by s h
  pub snapshots : (s : SlotId) →
      entry_times kind.Strong s (seat_at q 0).snapshots
      ≡ entry_times kind.Strong s (seat_at p 0).snapshots + announced_by s h
  pub weak_snapshots : (s : SlotId) →
      not_strong s (seat_at q 0).snapshots
      ≡ not_strong s (seat_at p 0).snapshots

-- in q the seat has what it has in p
pub record HasSame (p q : Plain) : Type 0 where
  pub sizes : SameSizes p q
  pub owned : (s : SlotId) → times s (seat_at q 0).owned ≡ times s (seat_at p 0).owned
  pub weaks : (s : SlotId) → times s (seat_at q 0).weaks ≡ times s (seat_at p 0).weaks
  pub snapshots : (s : SlotId) →
      entry_times kind.Strong s (seat_at q 0).snapshots
      ≡ entry_times kind.Strong s (seat_at p 0).snapshots
  pub weak_snapshots : (s : SlotId) →
      not_strong s (seat_at q 0).snapshots
      ≡ not_strong s (seat_at p 0).snapshots

-- whatever a handle counts for, the second list counts for the handle more
abbrev pub CountsMore : List Handle → Handle → List Handle → Type 0
CountsMore old handle new = (f : Handle → ℕ) → sum_by f new ≡ sum_by f old + f handle

-- What a desk keeps: the seat has just what the bound handles need, each slot has a maker, and the
-- numbers of cells are those of the heap.
pub record Kept (p : Plain) (names : Names) (made : List Maker) (strong weak : ℕ) : Type 0 where
  pub holds : HoldsFor p (values_of names)
  pub makers : length made ≡ length p.slots
  pub cells : strong ≡ length p.cells
  pub weak_cells : weak ≡ length p.weak_cells
