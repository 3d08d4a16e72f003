-- What is answered.
use Rattle.std.specs.Prelude.{ℕ, ◌≡◌, ◌≢◌, List, [], Some}
use Rattle.std.specs.List.{All}
use Rattle.law_lesson.specs.plain_state.declared.slot.SlotId.{SlotId}
use Rattle.law_lesson.specs.plain_state.declared.slot.Stage.TheVariants.{Live}
use Rattle.law_lesson.specs.plain_state.Lists.{times}
use Rattle.law_lesson.specs.plain_state.State.{Plain, stage_at}
use Rattle.tally_sums.specs.cdrc_text.Fold.{File, occurrences_in}
use Rattle.words_rest.specs.directory_law.Bytes.{AreBytes}
use Rattle.domain_audit.specs.counted_handles.Handles.{Handle}
use Rattle.domain_audit.specs.core_events.declared.view.CoreView.{CoreView}
use Rattle.domain_audit.specs.domain_rule.Views.{IsAlone, own_of}
use Rattle.domain_audit.specs.acquire_retire.Seats.{SeatState}
use Rattle.words_rest.specs.queue_law.declared.view.Form.{Form}
use Rattle.words_rest.specs.queue_law.declared.view.View.{View as QueueView}
use Rattle.words_rest.specs.words_law.Views.{View}
use Rattle.words_rest.specs.Kept.{TellsFiles}
use Rattle.ticket_shares.specs.Tickets.{IsEachOnce}
use Rattle.lane_domain.specs.lane_files.lane_work.declared.work.Work.{Work}
use Rattle.lane_domain.specs.lane_files.Keeping.{slots_of}
use Rattle.lane_domain.specs.lane_files.Work.{all_tickets, kept_files}
use Rattle.lane_domain.specs.Opened.{shape_for}
use Rattle.lane_domain.specs.Sizes.{texts_in}
use Rattle.lane_reports.specs.Kept.{lives_in}
use Rattle.lane_reports.specs.Rows.{AreWords}
use Rattle.tally_sums.specs.Sums.{Tallies, counted_in}

-- the tallies together counted each word as often as it occurs in all rounds
abbrev pub CountWork : Work → Tallies → Type 0
CountWork work tallies =
    (w : List ℕ) → counted_in tallies w ≡ occurrences_in w work.rounds (texts_in work)

-- These references are kept, one file's after the other's: of each file, as its ticket in the last round stands for it,
-- one to the record of each of its words. The seat's view tells those words.
pub record KeepsWork (work : Work) (kept : List SlotId) (seat : SeatState View) : Type 0 where
  pub tickets : List ℕ
  pub once : IsEachOnce (all_tickets work) tickets
  pub tells : TellsFiles (lives_in seat) (kept_files work tickets) kept seat.view.client.1

-- Of all that a report is made of: the seat owns the references that are kept and nothing else, and knows whose they
-- are; the tallies counted each word as often as it occurs, and a report has room for these words; files have bytes.
pub record HasCounted (work : Work) (kept : List Handle) (tallies : Tallies)
    (seat : SeatState View) : Type 0 where
  pub owned : (s : SlotId) → times s seat.view.core.owned ≡ times s (slots_of kept)
  pub weakly : (s : SlotId) → times s seat.view.core.weaks ≡ 0
  pub keeps : KeepsWork work (slots_of kept) seat
  pub counts : CountWork work tallies
  pub words : AreWords tallies
  pub small : All (λ (f : File). All AreBytes f) (texts_in work)

-- the seat has nothing retired, and nothing is dying
pub record HasNothingDeferred (v : CoreView) : Type 0 where
  pub retired : v.retired ≡ []
  pub dying : v.dying ≡ []

-- and it owns nothing
pub record HasNothing (v : CoreView) : Type 0 where
  pub owned : v.owned ≡ []
  pub weaks : v.weaks ≡ []
  pub deferred : HasNothingDeferred v

-- the seat knows the whole state, in which no slot is Live
pub record KnowsNoneLive (seat : SeatState View) : Type 0 where
  pub state : Plain
  pub knows : (own_of seat.view).whole ≡ Some state
  pub none : (s : SlotId) → stage_at state s ≢ Live

-- seat 0 has shut the queue, and nothing was left waiting in it
pub record LeftNothing (v : QueueView) : Type 0 where
  pub shut : v.stand.laid ≡ 4
  pub left : v.stand.left ≡ []

-- It is seat 0, alone in the domain for this work. Its queue was of the form that was asked for, and nothing was left
-- in it as it was shut. The seat has nothing, and no slot is Live.
pub record IsLast (work : Work) (lanes slots : ℕ) (asked : Form) (root : SeatState View)
    : Type 0 where
  pub alone : IsAlone root.view
  pub shape : root.view.core.shape ≡ shape_for work lanes slots
  pub form : root.view.client.0.form ≡ asked
  pub queue : LeftNothing root.view.client.0
  pub nothing : HasNothing root.view.core
  pub live : KnowsNoneLive root
