-- What the calls on a cache leave of a seat.
use Rattle.std.specs.Prelude.{ℕ, ◌≡◌, ◌<◌, ◌+◌, ◌≤◌, List, [], ◌∷◌, ◌++◌, Option, Some, None, Result, Ok, Err}
use Rattle.cdrc.specs.plain_state.declared.act.EventPlace.TheVariants.{WeakCell}
use Rattle.cdrc.specs.plain_state.declared.slot.SlotId.{SlotId}
use Rattle.cdrc.specs.plain_state.Lists.{times}
use Rattle.cdrc.specs.core_events.declared.view.CoreView.{CoreView}
use Rattle.cdrc.specs.core_events.declared.view.Move.{Move}
use Rattle.cdrc.specs.core_events.Views.{without}
use Rattle.cdrc.specs.counted_handles.Handles.{Handle}
use Rattle.cdrc.specs.atomic_shared.Places as shared
use Rattle.cdrc.specs.atomic_weak.Places as weakly
use Rattle.cdrc.specs.domain_rule.Views.{object_in}
use Rattle.cdrc.specs.acquire_retire.Calls.{IsSameView, same_view}
use Rattle.cdrc.specs.acquire_retire.Domains.{DomainState}
use Rattle.cdrc.specs.acquire_retire.Seats.{SeatState}
use Rattle.cdrc.specs.control_word.Calls.{DropsWeak, FindsEnded, GainsStrong, GainsWeak, without_weak}
use Rattle.cdrc.specs.control_word.Moves.{KnowsStill}
use Rattle.cdrc.specs.protected_loads.Loads.{Misses}
use Rattle.cdrc.specs.protected_loads.References.{Loads}
use Rattle.cdrc.specs.retiring_stores.Exchanging.{Stores}
use Rattle.example_cache.specs.Views.{View}
use Rattle.example_cache.specs.Deeds.{RecallTells, RememberTells, recall_next, remember_next}

-- the slot that a handle names, if there is one
abbrev pub strong_named : Option Handle → Option SlotId
strong_named = shared.named

abbrev pub weak_named : Option Handle → Option SlotId
weak_named = weakly.named

-- a view that has remembered one value more; that has recalled one value more
abbrev pub remembered_too : List ℕ → View → View
remembered_too value v = record v { remembered = v.remembered ++ value ∷ [] }

abbrev pub recalled_too : List ℕ → View → View
recalled_too value v = record v { recalled = v.recalled ++ value ∷ [] }

-- what was recalled, by what was found
abbrev pub RecallsValue : Option SlotId → SeatState View → SeatState View → Type 0
RecallsValue None old new = new.view.client ≡ old.view.client
RecallsValue (Some s) old new =
    new.view.client ≡ recalled_too (object_in new.view s).payload old.view.client

abbrev pub OwnsWeakly : Option SlotId → SeatState View → Type 0
OwnsWeakly None seat = Unit {0}
OwnsWeakly (Some s) seat = 0 < times s seat.view.core.weaks

-- the seat found null in the cell, or has a weak reference to what it found, whose value it recalled
pub record Finds {P : Type 0} (kind : List ℕ → Type 0) (d : DomainState P) (cell : ℕ)
    (found : Option SlotId) (old new : SeatState View) : Type 0 where
  pub loads : Loads kind d (WeakCell cell) recall_next (RecallTells cell) found old new
  pub recalls : RecallsValue found old new
  pub owns : OwnsWeakly found new
  pub adds :
      (new.view.core.adds ≤ old.view.core.adds + 1)
      × (new.view.core.quota.adds ≡ old.view.core.quota.adds)

-- at its check the cell held another content than at its look
abbrev pub Moves : {P : Type 0} → (List ℕ → Type 0) → DomainState P → ℕ → Option SlotId
    → Option SlotId → SeatState View → SeatState View → Type 0
Moves kind d cell seen now old new =
    Misses kind d 0 (WeakCell cell) recall_next (RecallTells cell) seen now old new

-- by one add the seat counted a strong reference to s, and then it gave up a weak one
pub record Raises {P : Type 0} (kind : List ℕ → Type 0) (d : DomainState P) (s : SlotId)
    (old new : SeatState View) : Type 0 where
  pub counted : SeatState View
  pub gains : GainsStrong kind d same_view IsSameView s old counted
  pub drops : DropsWeak kind d s counted new

-- its add found that there was no strong reference to s, and then it gave up a weak one
pub record HasEnded {P : Type 0} (kind : List ℕ → Type 0) (d : DomainState P) (s : SlotId)
    (old new : SeatState View) : Type 0 where
  pub late : SeatState View
  pub finds : FindsEnded kind d same_view IsSameView s old late
  pub drops : DropsWeak kind d s late new

-- Its load of the cell found s there, of which it then made a strong reference. It owns the object, and
-- has recalled its value.
pub record RecallsSlot {P : Type 0} (kind : List ℕ → Type 0) (d : DomainState P) (cell : ℕ)
    (s : SlotId) (old new : SeatState View) : Type 0 where
  pub found : SeatState View
  pub loads : Loads kind d (WeakCell cell) recall_next (RecallTells cell) (Some s) old found
  pub raises : Raises kind d s found new
  pub owns : 0 < times s new.view.core.owned
  pub value : RecallsValue (Some s) old new

-- the seat's look found null in the cell, or it recalled the object that its load found there
abbrev pub Recalls : {P : Type 0} → (List ℕ → Type 0) → DomainState P → ℕ → Option SlotId
    → SeatState View → SeatState View → Type 0
Recalls kind d cell None old new =
    Loads kind d (WeakCell cell) recall_next (RecallTells cell) None old new
    × (new.view.client ≡ old.view.client)
Recalls kind d cell (Some s) old new = RecallsSlot kind d cell s old new

-- what a seat has beside the references that it owns, its trail, and how many adds it used
abbrev pub aside : CoreView → CoreView
aside v = record v { owned = []; weaks = []; adds = 0; trail = [] }

-- the trail of the seat goes on from what it was
abbrev pub TrailGoesOn : SeatState View → SeatState View → Type 0
TrailGoesOn old new = (ms : List Move) × (new.view.core.trail ≡ old.view.core.trail ++ ms)

-- The seat has given up a weak reference to s. It used one add at most, and has what it had beside the
-- references that it owns; of the objects of all else that it had it knows what it knew.
pub record GivesWeak (s : SlotId) (old new : SeatState View) : Type 0 where
  pub weaks : new.view.core.weaks ≡ without s old.view.core.weaks
  pub same : aside new.view.core ≡ aside old.view.core
  pub adds :
      (old.view.core.adds ≤ new.view.core.adds)
      × (new.view.core.adds ≤ old.view.core.adds + 1)
  pub trail : TrailGoesOn old new
  pub knows : KnowsStill (without_weak s old.view.core) old new

abbrev pub with_found : Option SlotId → List SlotId → List SlotId
with_found None xs = xs
with_found (Some s) xs = xs ++ s ∷ []

-- The seat owns what it owned, each slot as often, and strongly what was found. It used two adds at most,
-- and has what it had beside: its announcement words, what it has retired, and what is dying.
pub record OwnsWith (found : Option SlotId) (old new : SeatState View) : Type 0 where
  pub strongly :
      (x : SlotId) → times x new.view.core.owned ≡ times x (with_found found old.view.core.owned)
  pub weakly : (x : SlotId) → times x new.view.core.weaks ≡ times x old.view.core.weaks
  pub notes : new.view.core.notes ≡ old.view.core.notes
  pub same : aside new.view.core ≡ aside old.view.core
  pub adds :
      (old.view.core.adds ≤ new.view.core.adds)
      × (new.view.core.adds ≤ old.view.core.adds + 2)
  pub trail : TrailGoesOn old new

-- the slot of which a call answers a reference; none where it was refused
abbrev pub answered : {E : Type 0} → Result (Option Handle) E → Option SlotId
answered (Ok found) = strong_named found
answered (Err error) = None

-- the seat counted a weak reference to s, and one exchange put that into the cell
pub record RemembersSlot {P : Type 0} (kind : List ℕ → Type 0) (d : DomainState P) (cell : ℕ)
    (s : SlotId) (old new : SeatState View) : Type 0 where
  pub counted : SeatState View
  pub gains : GainsWeak kind d s old counted
  pub stores :
      Stores kind d remember_next (RememberTells cell) (WeakCell cell) (Some s) counted new

-- Its load found a slot in the cell to which, at a later step of the seat's, there was no strong
-- reference. It has given up the weak one.
pub record FoundEnded {P : Type 0} (kind : List ℕ → Type 0) (d : DomainState P) (cell : ℕ)
    (old new : SeatState View) : Type 0 where
  pub slot : SlotId
  pub found : SeatState View
  pub loads : Loads kind d (WeakCell cell) recall_next (RecallTells cell) (Some slot) old found
  pub ended : HasEnded kind d slot found new
