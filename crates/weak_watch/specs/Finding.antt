-- What a seat does that looks for the observer of an id, and what it has then.
use Rattle.std.specs.Prelude.{ℕ, ◌≡◌, ◌+◌, ◌<◌, List, [], ◌∷◌, ◌++◌, Option, Some, None, Result, Ok, Err}
use Rattle.part_calls.specs.acquire_retire.Calls.{IsSameView, same_view}
use Rattle.part_calls.specs.acquire_retire.Domains.{DomainState}
use Rattle.part_calls.specs.acquire_retire.Seats.{SeatState}
use Rattle.part_calls.specs.control_word.Calls.{DropsWeak, FindsEnded, GainsStrong}
use Rattle.part_calls.specs.domain_rule.Views.{object_in}
use Rattle.part_calls.specs.plain_state.declared.act.EventPlace.TheVariants.{WeakCell}
use Rattle.part_calls.specs.plain_state.declared.slot.SlotId.{SlotId}
use Rattle.part_calls.specs.plain_state.Lists.{times}
use Rattle.weak_part_calls.specs.atomic_weak.Places.{named}
use Rattle.weak_part_calls.specs.counted_handles.Handles.{Handle}
use Rattle.weak_part_calls.specs.protected_loads.References.{Loads}
use Rattle.watch_protocol.specs.declared.law.WatchLaw.{WatchLaw}
use Rattle.watch_protocol.specs.Sides.{area_of}
use Rattle.watch_protocol.specs.watch_law.declared.view.View.{View}
use Rattle.watch_protocol.specs.watch_law.Lessons.{FindTells, find_next}
use Rattle.watch_protocol.specs.watch_law.Payloads.{IsObserverOf}
use Rattle.weak_watch.specs.Keeping.{Keeps}
pub use Rattle.weak_watch.specs.declared.reached.Reached.{Reached}
use Rattle.weak_watch.specs.declared.reached.Reached.TheVariants as reached

module _ (fits : List ℕ → Type 0) (d : DomainState WatchLaw) where
  -- Its load of the cell of id c found null, or gained a weak reference to an observer, alive or not.
  abbrev pub FindsIn : ℕ → Option SlotId → SeatState View → SeatState View → Type 0
  FindsIn c = Loads fits d (WeakCell (d.protocol.first + c)) find_next (FindTells (area_of d.protocol) c)

  -- Before, the cell may have changed under some tries, which left the seat what it had.
  pub record FindsAtLast (c : ℕ) (found : Option SlotId) (old new : SeatState View) : Type 0 where
    pub mid : SeatState View
    pub lost : Keeps 0 0 old.view.core.owned old.view.core.weaks old mid
    pub client : mid.view.client ≡ old.view.client
    pub finds : FindsIn c found mid new

  -- It found s in the cell, then by its add on s that there was no strong reference to s, and gave the weak one up.
  pub record FindsDead (c : ℕ) (s : SlotId) (old new : SeatState View) : Type 0 where
    pub found : SeatState View
    pub tried : SeatState View
    pub finds : FindsAtLast c (Some s) old found
    pub ended : FindsEnded fits d same_view IsSameView s found tried
    pub drops : DropsWeak fits d s tried new

  -- It found s in the cell, gained a strong reference to s by its add, and gave the weak one up.
  pub record FindsAlive (c : ℕ) (s : SlotId) (old new : SeatState View) : Type 0 where
    pub found : SeatState View
    pub raised : SeatState View
    pub finds : FindsAtLast c (Some s) old found
    pub gains : GainsStrong fits d same_view IsSameView s found raised
    pub drops : DropsWeak fits d s raised new

  -- what a call tells of the observer of id c
  abbrev pub Reaches : ℕ → Reached → SeatState View → SeatState View → Type 0
  Reaches c reached.Absent old new = FindsAtLast c None old new
  Reaches c reached.Ended old new = (s : SlotId) × FindsDead c s old new
  Reaches c (reached.Alive o) old new = FindsAlive c o.slot old new

-- the seat owns what was reached alive, which is an observer with this id
abbrev pub HasReached : {V : Type 0} → ℕ → Reached → SeatState V → Type 0
HasReached c reached.Absent seat = Unit {0}
HasReached c reached.Ended seat = Unit {0}
HasReached c (reached.Alive o) seat =
    (0 < times o.slot seat.view.core.owned) × IsObserverOf c (object_in seat.view o.slot).payload

-- what is owned besides then, and how many adds were used
abbrev pub more_by : Reached → List SlotId → List SlotId
more_by reached.Absent xs = xs
more_by reached.Ended xs = xs
more_by (reached.Alive o) xs = xs ++ o.slot ∷ []

abbrev pub adds_by : Reached → ℕ
adds_by reached.Absent = 0
adds_by reached.Ended = 2
adds_by (reached.Alive o) = 2

-- the same of a call that may be refused
abbrev pub with_reached : {E : Type 0} → Result Reached E → List SlotId → List SlotId
with_reached (Ok r) xs = more_by r xs
with_reached (Err error) xs = xs

abbrev pub adds_to_reach : {E : Type 0} → Result Reached E → ℕ
adds_to_reach (Ok r) = adds_by r
adds_to_reach (Err error) = 1

-- the slot of the weak reference that a load answers, if it answers one
abbrev pub found_by : {E : Type 0} → Result (Option Handle) E → Option SlotId
found_by (Ok found) = named found
found_by (Err error) = None
