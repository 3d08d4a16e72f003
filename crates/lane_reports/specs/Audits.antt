-- An audit of a whole state at rest, of which the law holds.
use Rattle.std.specs.Prelude.{◌≡◌, ℕ, ◌<◌, true, List, []}
use Rattle.words_rest.specs.heap_audit.declared.finding.Audit.{Audit}
use Rattle.words_rest.specs.plain_audit.Audits.{IsAudit}
use Rattle.law_lesson.specs.plain_state.declared.slot.SlotId.{SlotId}
use Rattle.law_lesson.specs.plain_state.Lists.{times}
use Rattle.law_lesson.specs.plain_state.State.{Plain, seat_at, slot_at}
use Rattle.law_lesson.specs.plain_protocol.Owns.{is_alone, object_of}
use Rattle.domain_audit.specs.core_events.Shows.{show_seat}
use Rattle.domain_audit.specs.domain_rule.Views.{object_in}
use Rattle.domain_audit.specs.acquire_retire.Domains.{DomainState}
use Rattle.domain_audit.specs.acquire_retire.Seats.{SeatState}
use Rattle.domain_audit.specs.acquire_retire.Wholes.{KnowsState}
use Rattle.law_lesson.specs.Lessons.{HoldsOf}
use Rattle.words_rest.specs.words_law.Views.{View, gone}
use Rattle.lane_domain.specs.words_protocol.declared.law.WordsLaw.{WordsLaw}
use Rattle.words_rest.specs.Rest.{HasNullCells, Rests}
use Rattle.lane_reports.specs.Holders.{law_of}

-- of the objects that the seat owns it knows what it knew
abbrev pub KnowsOwned : SeatState View → SeatState View → Type 0
KnowsOwned old new =
    (s : SlotId) → 0 < times s old.view.core.owned
    → object_in new.view s ≡ object_in old.view s

-- The whole state, which seat 0 knows, rests; no strong cell of it holds anything, and seat 0 alone is in it. The law
-- holds of it, with seat 0's view as the first. The audit found this of it, and nothing unreached.
pub record IsAudited (fits : List ℕ → Type 0) (weight : List ℕ → ℕ) (ranks : List ℕ)
    (d : DomainState WordsLaw) (seat : SeatState View) (found : Audit) : Type 0 where
  pub state : Plain
  pub knows : KnowsState fits seat.view state
  pub rests : Rests state
  pub cells : HasNullCells state
  pub alone : is_alone state 0 ≡ true
  pub own : seat_at state 0 ≡ show_seat seat.view.core
  pub objects :
      (s : SlotId) → 0 < times s seat.view.core.owned
      → object_in seat.view s ≡ object_of (slot_at state s)
  pub others : (n : ℕ) → 0 < n → (seat_at state n).owned ≡ []
  pub law : HoldsOf (law_of d) gone state 0 seat.view.client
  pub audit : IsAudit weight ranks state found
  pub reached : found.cyclic ≡ 0
