-- What a seat that is alone tells of the whole state.
use Rattle.std.specs.Prelude.{ℕ, ◌≡◌, ◌-◌, ◌==◌, false, List, [], ◌∷◌, replicate, slice_index, if◌then◌else◌, Option, Some, None, IsSome}
use Rattle.atomic_table.specs.declared.shared.Seat.{Seat as TableSeat}
use Rattle.epoch_parts.specs.plain_state.declared.image.Heap.{Heap}
use Rattle.epoch_parts.specs.plain_state.Images.{IsImage}
use Rattle.epoch_rule.specs.plain_protocol.plain_state.Fits.{AllFit}
use Rattle.epoch_rule.specs.plain_protocol.plain_state.Lawful.{Lawful}
use Rattle.epoch_rule.specs.plain_protocol.plain_state.State.{Plain}
use Rattle.epoch_rule.specs.epoch_core.Runs.{Core, view_at}
use Rattle.epoch_rule.specs.epoch_core.Shows.{shows}
use Rattle.epoch_rule.specs.epoch_core.Sound.{Sound}
use Rattle.epoch_rule.specs.epoch_core.Words.{free_word}
use Rattle.epoch_rule.specs.declared.view.EpochSeatView.{EpochSeatView}
use Rattle.epoch_rule.specs.declared.view.EpochWhole.{EpochWhole}
use Rattle.epoch_rule.specs.Views.{core_in, own_of}
use Rattle.epoch_domain.specs.Domains.{DomainState}

-- The strong word of a slot in an image: the count of a live one, else the zero flag alone. The count word of a slot
-- that is being filled, or whose object has ended, is 0.
abbrev pub strong_image : ℕ → ℕ
strong_image word = if word == 0 then free_word else word

-- its weak word: the reference that a slot has to itself until it is free
abbrev pub weak_image : ℕ → ℕ
weak_image word = if word == free_word then 0 else 1

-- the core that is known, if one is
abbrev pub core_known : Option EpochWhole → Core
core_known None = record { words = []; views = []; opened = [] }
core_known (Some all) = core_in all

abbrev pub known_core : {V : Type 0} → EpochSeatView V → Core
known_core v = core_known v.whole

module _ {P V : Type 0} where
  -- the bare seat is of the domain and knows the whole core: that is sound, its payloads fit, and the seat's half of it
  -- is the view's
  pub record KnowsCore (d : DomainState P) (fits : List ℕ → Type 0)
      (s : TableSeat (Unit {0}) (EpochSeatView V)) : Type 0 where
    pub table : s.table_id ≡ d.table
    pub here : s.me.0.gone ≡ false
    pub knows : IsSome s.me.0.whole
    pub sound : Sound d.shape (known_core s.me.0)
    pub fit : AllFit fits (shows d.shape (known_core s.me.0))
    pub half : s.me.0.core ≡ view_at (known_core s.me.0) s.me.0.core.seat

  -- what the bare seat knows of the plain state
  abbrev pub known_state : DomainState P → TableSeat (Unit {0}) (EpochSeatView V) → Plain
  known_state d s = shows d.shape (known_core s.me.0)

-- what the bare seat knows of a word
abbrev pub known_word : {V : Type 0} → TableSeat (Unit {0}) (EpochSeatView V) → ℕ → ℕ
known_word s i = slice_index (known_core s.me.0).words i

-- the bare seat is as it was
abbrev pub IsSame : {V : Type 0} → TableSeat (Unit {0}) (EpochSeatView V)
    → TableSeat (Unit {0}) (EpochSeatView V) → Type 0
IsSame s t = (t.table_id ≡ s.table_id) × (t.me ≡ s.me)

module _ {V : Type 0} (fits : List ℕ → Type 0) where
  -- p is the whole state, as the seat knows it: it is lawful, and its payloads fit
  pub record KnowsState (v : EpochSeatView V) (p : Plain) : Type 0 where
    pub whole : (own_of v).whole ≡ Some p
    pub lawful : Lawful p
    pub fit : AllFit fits p

  -- The client's law holds of that state and of the views of so many clients: the seat's first, and those of seats that
  -- left.
  pub record IsLast (law : Plain → List V → Type 0) (gone : V) (seats : ℕ) (v : EpochSeatView V)
      : Type 0 where
    pub state : Plain
    pub knows : KnowsState v state
    pub client : law state (v.client ∷ replicate (seats - 1) gone)

  -- the heap has the words of that state, and its deferred entries
  pub record IsWholeImage (v : EpochSeatView V) (heap : Heap) : Type 0 where
    pub state : Plain
    pub knows : KnowsState v state
    pub image : IsImage state heap
