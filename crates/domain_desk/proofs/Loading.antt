-- A reference to what a place holds: what the desk's seat has then, and what the command did.
use Rattle.std.proofs.Common.{◌≡◌, ℕ, List, subst, Some}
use Rattle.std.specs.Map.{values_of}
use Rattle.script_desk.specs.plain_state.declared.act.EventPlace.{EventPlace}
use Rattle.script_desk.specs.plain_state.declared.slot.SlotId.{SlotId}
use Rattle.script_desk.specs.plain_store.Calls.{Loads, WeaklyLoads}
use Rattle.lone_heap.specs.acquire_retire.Seats.{SeatState}
use Rattle.script_desk.specs.declared.handle.Handle.TheVariants.{Strong, Weak}
use Rattle.script_desk.specs.Desks.{Names}
use Rattle.script_desk.specs.Holding.{CountsMore}
use Rattle.script_desk.proofs.Gaining.{loads_more, weakly_loads_more}
use Rattle.domain_desk.specs.Desks.{DeskState, IsKept, plain_of}
use Rattle.domain_desk.proofs.Keeping.{IsStill, still_gained}

module _ {P : Type 0} (i d : DeskState P) (is : i ≡ d) (kept : IsKept d) (at : EventPlace)
    (new : List ℕ) (seat : SeatState (Unit {0})) (still : IsStill i seat) where
  abbrev looked : DeskState P
  looked = record i { seat = seat }

  module _ (names : Names) (s t : SlotId) (same : t ≡ s) where
    abbrev later : DeskState P
    later = record i { seat = seat; names = names }

    pub loaded_kept : Loads (plain_of i) at (Some s) (plain_of later)
        → CountsMore (values_of i.names) (Strong t) (values_of names) → IsKept later
    loaded_kept l counts =
        still_gained i d is kept seat names still (Strong s)
        (loads_more (plain_of i) (plain_of later) at s l).0
        (subst (λ (x : SlotId). CountsMore (values_of i.names) (Strong x) (values_of names)) same
        counts)

    pub weakly_loaded_kept : WeaklyLoads (plain_of i) at (Some s) (plain_of later)
        → CountsMore (values_of i.names) (Weak t) (values_of names) → IsKept later
    weakly_loaded_kept l counts =
        still_gained i d is kept seat names still (Weak s)
        (weakly_loads_more (plain_of i) (plain_of later) at s l)
        (subst (λ (x : SlotId). CountsMore (values_of i.names) (Weak x) (values_of names)) same
        counts)
