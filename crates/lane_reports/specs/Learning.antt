-- What a seat that is alone learns of the law.
use Rattle.std.specs.Prelude.{ℕ, ◌≡◌, List, ◌∷◌, ◌++◌, [], Some, None, map}
use Rattle.law_lesson.specs.plain_state.declared.act.EventPlace.TheVariants.{Cell}
use Rattle.law_lesson.specs.plain_state.Places.{content}
use Rattle.law_lesson.specs.plain_state.declared.slot.SlotId.{SlotId}
use Rattle.law_lesson.specs.plain_state.State.{Plain, slot_at}
use Rattle.law_lesson.specs.plain_protocol.Owns.{HasSlot, object_of}
use Rattle.domain_audit.specs.core_events.declared.act.Act.TheVariants as act
use Rattle.domain_audit.specs.core_events.declared.outcome.Outcome.{Outcome}
use Rattle.domain_audit.specs.core_events.declared.view.CoreView.{CoreView}
use Rattle.domain_audit.specs.core_events.declared.view.LeftSeat.{LeftSeat}
use Rattle.domain_audit.specs.core_events.Shows.{show_seat, shows}
use Rattle.domain_audit.specs.Audits.{KnowsLone}
use Rattle.domain_audit.specs.domain_rule.Views.{object_in, own_of}
use Rattle.domain_audit.specs.acquire_retire.Collecting.{move}
use Rattle.domain_audit.specs.acquire_retire.Domains.{DomainState}
use Rattle.domain_audit.specs.acquire_retire.Seats.{SeatState}
use Rattle.domain_audit.specs.acquire_retire.Wholes.{known_core}
use Rattle.domain_audit.specs.control_word.Moves.{KnowsStill}
use Rattle.ticket_shares.specs.Tickets.{DrewOnce}
use Rattle.law_lesson.specs.Lessons.{HoldsOf}
use Rattle.words_rest.specs.words_law.Views.{View, gone}
use Rattle.lane_domain.specs.words_protocol.declared.law.WordsLaw.{WordsLaw}
use Rattle.lane_reports.specs.Holders.{law_of}

-- in the whole state, where the seat knows it, this strong cell is null
abbrev pub HoldsNothing : SeatState View → ℕ → Type 0
HoldsNothing seat i =
    (p : Plain) → (own_of seat.view).whole ≡ Some p → content p (Cell i) ≡ None

-- the tickets of the seats that left are the numbers below some number, each once
abbrev pub DrewAll : CoreView → Type 0
DrewAll v = (n : ℕ) × DrewOnce (map (λ (l : LeftSeat). l.tickets) v.left_seats) n

-- By a look at a strong cell, which changed nothing but its trail, the seat has learnt that the law holds of the whole
-- state, which it knows, with its own view as the first. What it knows of the objects that it has is so; and where it
-- has drawn no ticket itself, the seats that left drew all.
pub record LearnsLaw (fits : List ℕ → Type 0) (d : DomainState WordsLaw)
    (old new : SeatState View) : Type 0 where
  pub cell : ℕ
  pub saw : Outcome
  pub table : new.table ≡ old.table
  pub core :
      new.view.core
      ≡ record old.view.core {
        trail = old.view.core.trail ++ move (act.Look (Cell cell)) saw ∷ [];
      }
  pub client : new.view.client ≡ old.view.client
  pub whole : (own_of new.view).whole ≡ (own_of old.view).whole
  pub objects : KnowsStill old.view.core old new
  pub lone : KnowsLone fits d new
  pub law :
      HoldsOf (law_of d) gone (shows d.shape (known_core new.view)) 0 new.view.client
  pub so :
      (s : SlotId) → HasSlot (show_seat new.view.core) s
      → object_in new.view s ≡ object_of (slot_at (shows d.shape (known_core new.view)) s)
  pub drew : new.view.core.tickets ≡ [] → DrewAll new.view.core
