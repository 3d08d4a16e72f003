-- What a seat that is alone tells of the whole state.
use Rattle.std.specs.Prelude.{ℕ, ◌≡◌, ◌-◌, false, List, [], ◌∷◌, replicate, slice_index, nat_lt, if◌then◌else◌, Option, Some, None, IsSome}
use Rattle.atomic_table.specs.declared.shared.Seat.{Seat as TableSeat}
use Rattle.plain_state.specs.declared.image.Heap.{Heap}
use Rattle.plain_state.specs.Fits.{AllFit}
use Rattle.plain_state.specs.Images.{IsImage}
use Rattle.plain_state.specs.Lawful.{Lawful}
use Rattle.plain_state.specs.State.{Plain}
use Rattle.core_promises.specs.core_events.Counts.{barers}
use Rattle.core_promises.specs.core_events.Runs.{Core, view_at}
use Rattle.core_promises.specs.core_events.Shows.{shows}
use Rattle.plain_state.specs.counter_word.Words.{ZERO}
use Rattle.plain_state.specs.declared.slot.SlotId.{SlotId}
use Rattle.core_promises.specs.core_law.Sound.{Sound}
use Rattle.domain_rule.specs.declared.view.SeatView.{SeatView}
use Rattle.domain_rule.specs.declared.view.Whole.{Whole}
use Rattle.domain_rule.specs.Views.{core_in, own_of}
use Rattle.acquire_retire.specs.Domains.{DomainState}

-- a strong word without the numbers below its zero flag
abbrev pub strong_image : ℕ → ℕ
strong_image word = if nat_lt word ZERO then word else ZERO

-- the core that is known, if one is
abbrev pub core_known : Option Whole → Core
core_known None = record { words = []; views = [] }
core_known (Some all) = core_in all

abbrev pub known_core : {V : Type 0} → SeatView V → Core
known_core v = core_known v.whole

module _ {P V : Type 0} where
  -- the bare seat is of the domain and knows the whole core: that is sound, its payloads fit, no
  -- slot is claimed bare, and the seat's half of it is the view's
  pub record KnowsCore (d : DomainState P) (fits : List ℕ → Type 0)
      (s : TableSeat (Unit {0}) (SeatView V)) : Type 0 where
    pub table : s.table_id ≡ d.table
    pub here : s.me.0.gone ≡ false
    pub knows : IsSome s.me.0.whole
    pub sound : Sound d.shape (known_core s.me.0)
    pub fit : AllFit fits (shows d.shape (known_core s.me.0))
    pub armed : (x : SlotId) → barers (known_core s.me.0) x ≡ 0
    pub half : s.me.0.core ≡ view_at (known_core s.me.0) s.me.0.core.seat

  -- what the bare seat knows of the plain state
  abbrev pub known_state : DomainState P → TableSeat (Unit {0}) (SeatView V) → Plain
  known_state d s = shows d.shape (known_core s.me.0)

-- what the bare seat knows of a word
abbrev pub known_word : {V : Type 0} → TableSeat (Unit {0}) (SeatView V) → ℕ → ℕ
known_word s i = slice_index (known_core s.me.0).words i

-- the bare seat is as it was
abbrev pub IsSame : {V : Type 0} → TableSeat (Unit {0}) (SeatView V)
    → TableSeat (Unit {0}) (SeatView V) → Type 0
IsSame s t = (t.table_id ≡ s.table_id) × (t.me ≡ s.me)

module _ {V : Type 0} (fits : List ℕ → Type 0) where
  -- p is the whole state, as the seat knows it: it is lawful, and its payloads fit
  pub record KnowsState (v : SeatView V) (p : Plain) : Type 0 where
    pub whole : (own_of v).whole ≡ Some p
    pub lawful : Lawful p
    pub fit : AllFit fits p

  -- The client's law holds of that state and of the views of so many clients: the seat's first, and
  -- those of seats that left.
  pub record IsLast (law : Plain → List V → Type 0) (gone : V) (seats : ℕ) (v : SeatView V)
      : Type 0 where
    pub state : Plain
    pub knows : KnowsState v state
    pub client : law state (v.client ∷ replicate (seats - 1) gone)

  -- the heap has the words of that state, and its deferred entries
  pub record IsWholeImage (v : SeatView V) (heap : Heap) : Type 0 where
    pub state : Plain
    pub knows : KnowsState v state
    pub image : IsImage state heap
