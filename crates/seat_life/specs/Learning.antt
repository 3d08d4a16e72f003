-- What a seat that is alone learns of the client's law, and of the state in which it is alone.
use Rattle.std.specs.Prelude.{ℕ, ◌≡◌, ◌<◌, true, List, [], length}
use Rattle.domain_audit.specs.plain_state.declared.slot.SlotId.{SlotId}
use Rattle.domain_audit.specs.plain_state.declared.slot.Stage.TheVariants.{Live}
use Rattle.domain_audit.specs.plain_state.References.{strong_refs}
use Rattle.domain_audit.specs.plain_state.State.{Plain, PlainSeat, seat_at, stage_at}
use Rattle.law_lesson.specs.plain_protocol.Owns.{is_alone}
use Rattle.law_lesson.specs.Lessons.{HoldsOf}
use Rattle.domain_audit.specs.core_events.declared.view.CoreView.{CoreView}
use Rattle.domain_audit.specs.core_events.Shows.{show_seat}
use Rattle.domain_audit.specs.domain_rule.declared.view.SeatView.{SeatView}
use Rattle.domain_audit.specs.acquire_retire.Wholes.{KnowsState}

-- a seat's part of the core without its trail
abbrev pub but_for_trail : CoreView → CoreView
but_for_trail v = record v { trail = [] }

-- it owns no strong reference, and nothing of it waits
pub record HasNothing (v : PlainSeat) : Type 0 where
  pub owned : v.owned ≡ []
  pub deferred : v.deferred ≡ []
  pub dying : v.dying ≡ []

module _ {V : Type 0} (fits : List ℕ → Type 0) (law : Plain → List V → Type 0) (gone : V) where
  -- The client's law holds of the whole state, as the seat knows it, and of all views, of which its own is the first.
  -- That seat is alone there: the other ones have nothing. Each object that lives is referred to.
  pub record KnowsLaw (v : SeatView V) : Type 0 where
    pub state : Plain
    pub knows : KnowsState fits v state
    pub holds : HoldsOf law gone state 0 v.client
    pub cells : length state.cells ≡ v.core.shape.cells
    pub alone : is_alone state 0 ≡ true
    pub own : seat_at state 0 ≡ show_seat v.core
    pub others : (n : ℕ) → 0 < n → HasNothing (seat_at state n)
    pub live : (s : SlotId) → stage_at state s ≡ Live → 0 < strong_refs state s
