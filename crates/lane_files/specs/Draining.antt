-- What is popped until nothing is left, and why no more.
use Rattle.std.specs.Prelude.{ℕ, ◌<◌, List, []}
use Rattle.control_word.specs.acquire_retire.Domains.{DomainState}
use Rattle.control_word.specs.acquire_retire.Seats.{SeatState}
use Rattle.words_protocol.specs.words_law.Views.{View}
use Rattle.words_protocol.specs.declared.law.WordsLaw.{WordsLaw}
use Rattle.lane_files.specs.declared.refusal.LaneError.{LaneError}
use Rattle.lane_files.specs.Passed.{Counts, Takes}
use Rattle.lane_files.specs.Whys.{FindsNoItem, IsWhyNotTaken}

-- after it had popped items of some words, the seat found no more
pub record StopsAtNone (fits : List ℕ → Type 0) (d : DomainState WordsLaw)
    (old new : SeatState View) : Type 0 where
  pub last : SeatState View
  pub words : List (List ℕ)
  pub counts : Counts [] words old.view.client last.view.client
  pub finds : FindsNoItem fits d last new

-- after it had popped some, fewer than this many, and counted their words, a take was refused
pub record IsWhyNotDrained (most : ℕ) (error : LaneError) (old new : SeatState View)
    (before after : List (List ℕ × ℕ)) : Type 0 where
  pub taken : ℕ
  pub fewer : taken < most
  pub last : SeatState View
  pub tally : List (List ℕ × ℕ)
  pub takes : Takes [] taken old.view.client last.view.client before tally
  pub why : IsWhyNotTaken error last new tally after
