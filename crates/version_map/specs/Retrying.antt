-- An update that is tried again after each try that was lost to another seat.
use Rattle.std.specs.Prelude.{ℕ, ◌≡◌, ◌⊎◌}
use Rattle.version_making.specs.map_law.declared.view.View.{View}
use Rattle.version_making.specs.map_protocol.declared.law.MapLaw.{MapLaw}
use Rattle.version_making.specs.slot_store.acquire_retire.Domains.{DomainState}
use Rattle.version_making.specs.slot_store.acquire_retire.Seats.{SeatState}
use Rattle.version_making.specs.Keeping.{GoesOn, Keeps, none}
use Rattle.version_updates.specs.Publishing.{but_for}
use Rattle.version_map.specs.Updating.{IsAgain, Leaves}

-- A try was lost: the cell showed two words to two of its events, and it left what a try leaves.
pub record IsLostTry (d : DomainState MapLaw) (c : ℕ) (old new : SeatState View) : Type 0 where
  pub seen : ℕ
  pub now : ℕ
  pub again : IsAgain c seen now old new
  pub leaves : Leaves d c old new

-- there was a try before, which was lost, and other steps of the seat after it
pub record HasLostOne (d : DomainState MapLaw) (c : ℕ) (old mid : SeatState View) : Type 0 where
  pub next : SeatState View
  pub lost : IsLostTry d c old next
  pub goes : GoesOn next.view.core mid.view.core

-- Before the last try there was none, or the first one was lost. The seat has then what it had, its entries too, and
-- has used some makes and adds.
pub record HasTried (d : DomainState MapLaw) (c : ℕ) (old mid : SeatState View) : Type 0 where
  pub makes : ℕ
  pub adds : ℕ
  pub keeps : Keeps makes adds none none old mid
  pub first : (mid ≡ old) ⊎ HasLostOne d c old mid

-- THE LAST TRY did this, and leaves what a try leaves; all tries before it were lost.
pub record AtLast (d : DomainState MapLaw) (c : ℕ)
    (did : SeatState View → SeatState View → Type 0) (old new : SeatState View) : Type 0 where
  pub mid : SeatState View
  pub tried : HasTried d c old mid
  pub did_last : did mid new
  pub leaves : Leaves d c mid new

-- What updates leave, one or several in turn: the seat has what it had, but for its entries, and has used some makes
-- and adds.
pub record LeavesSome (old new : SeatState View) : Type 0 where
  pub makes : ℕ
  pub adds : ℕ
  pub keeps : Keeps makes adds none none old (but_for old.view.client new)
