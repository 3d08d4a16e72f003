-- What a lane that has run did, by its last seat and its `Lane` alone.
use Rattle.std.specs.Prelude.{ℕ, ◌≡◌, ◌<◌, List, [], length}
use Rattle.tally_sums.specs.cdrc_text.Fold.{times}
use Rattle.tally_sums.specs.cdrc_text.Tally.{count_of, total_of}
use Rattle.law_lesson.specs.plain_state.declared.slot.SlotId.{SlotId}
use Rattle.law_lesson.specs.plain_state.Lists.{times as slot_times}
use Rattle.domain_audit.specs.core_events.Views.{room_of}
use Rattle.domain_audit.specs.acquire_retire.Domains.{DomainState}
use Rattle.domain_audit.specs.acquire_retire.Seats.{SeatState}
use Rattle.domain_audit.specs.control_word.Resting.{IsAtRest, IsUnderNone}
use Rattle.lane_domain.specs.directory_calls.Directories.{HasQuota}
use Rattle.words_rest.specs.queue_law.declared.view.Item.{Item}
use Rattle.words_rest.specs.words_law.Views.{View}
use Rattle.lane_domain.specs.words_protocol.declared.law.WordsLaw.{WordsLaw}
use Rattle.ticket_shares.specs.Tickets.{IsShare}
use Rattle.lane_domain.specs.lane_files.Passed.{KnowsWords, by_seat}
use Rattle.lane_domain.specs.lane_files.lane_work.declared.lane.Lane.{Lane}
use Rattle.lane_domain.specs.lane_files.lane_work.declared.work.Work.{Work}
use Rattle.lane_domain.specs.lane_files.Keeping.{slots_of}
use Rattle.lane_domain.specs.lane_files.Lanes.{KeepsFiles}
use Rattle.lane_domain.specs.lane_files.Work.{all_tickets, kept_files, words_of_all}

-- what a lane did: its tickets of files, the items that it pushed and popped, and the words of those that it popped
pub record LaneDeeds : Type 0 where
  pub tickets : List ℕ
  pub pushes : List Item
  pub pops : List Item
  pub words : List (List ℕ)

-- Seat n pushed an item of each word of its tickets' files, in order. It popped items, and knows their words.
pub record PassedItems (work : Work) (n : ℕ) (deeds : LaneDeeds) (v : View) : Type 0 where
  pub pushed : v.0.pushed ≡ by_seat n deeds.pushes
  pub popped : v.0.popped ≡ by_seat n deeds.pops
  pub pushed_words : KnowsWords v.1 deeds.pushes (words_of_all work deeds.tickets)
  pub popped_words : KnowsWords v.1 deeds.pops deeds.words

-- the tally counts these words, and no others
pub record IsTallyOf (words : List (List ℕ)) (tally : List (List ℕ × ℕ)) : Type 0 where
  pub counts : (w : List ℕ) → count_of tally w ≡ times w words
  pub sum : total_of tally ≡ length words

-- the seat owns these references strongly, in some order, and nothing weakly
pub record OwnsJust (owned : List SlotId) (seat : SeatState View) : Type 0 where
  pub strongly : (x : SlotId) → slot_times x seat.view.core.owned ≡ slot_times x owned
  pub weakly : (x : SlotId) → slot_times x seat.view.core.weaks ≡ 0

-- It is seat n of the domain, in no call and under no snapshot. It has room for one entry more, and has used no more
-- interns than it has.
pub record MayLeave (d : DomainState WordsLaw) (n : ℕ) (seat : SeatState View) : Type 0 where
  pub number : seat.view.core.seat ≡ n
  pub rest : IsAtRest d seat
  pub none : IsUnderNone seat.view.core
  pub few : length seat.view.core.retired < room_of seat.view.core.shape
  pub quota : HasQuota seat.view.client.1

-- Lane n did this: it drew its tickets of files and, at the end, one of no file; it pushed and popped items, and its
-- tally counts the words of those that it popped. It keeps the records of its tickets' files, and owns nothing else.
pub record LaneDid (work : Work) (d : DomainState WordsLaw) (n : ℕ) (seat : SeatState View)
    (lane : Lane) : Type 0 where
  pub deeds : LaneDeeds
  pub share : IsShare (all_tickets work) seat.view.core.tickets deeds.tickets
  pub passed : PassedItems work n deeds seat.view.client
  pub tally : IsTallyOf deeds.words lane.tally
  pub keeps : KeepsFiles (kept_files work deeds.tickets) (slots_of lane.keeper.kept.items) seat
  pub owns : OwnsJust (slots_of lane.keeper.kept.items) seat
  pub leaves : MayLeave d n seat

-- It is seat n, under no snapshot, and has drawn no ticket, pushed and popped nothing, and owns nothing.
pub record IsFresh (n : ℕ) (seat : SeatState View) : Type 0 where
  pub number : seat.view.core.seat ≡ n
  pub named : seat.view.client.0.number ≡ n
  pub none : IsUnderNone seat.view.core
  pub room : seat.view.core.room ≡ room_of seat.view.core.shape
  pub tickets : seat.view.core.tickets ≡ []
  pub pushed : seat.view.client.0.pushed ≡ []
  pub popped : seat.view.client.0.popped ≡ []
  pub owns : OwnsJust [] seat

-- the lane has counted nothing and keeps nothing
pub record IsNew (lane : Lane) : Type 0 where
  pub tally : IsTallyOf [] lane.tally
  pub kept : lane.keeper.kept.items ≡ []
