-- What seat 0 has once the seats of lanes have left.
use Rattle.std.specs.Prelude.{ℕ, ◌≡◌, ◌<◌, ◌+◌, List, [], ◌∷◌, ◌++◌, length, map}
use Rattle.std.specs.List.{flat_map, range_with_len, sum_by}
use Rattle.law_lesson.specs.plain_state.declared.slot.SlotId.{SlotId}
use Rattle.law_lesson.specs.plain_state.Lists.{times}
use Rattle.domain_audit.specs.core_events.declared.view.CoreView.{CoreView}
use Rattle.domain_audit.specs.core_events.declared.view.LeftSeat.{LeftSeat}
use Rattle.domain_audit.specs.counted_handles.Handles.{Handle}
use Rattle.domain_audit.specs.acquire_retire.Domains.{DomainState}
use Rattle.domain_audit.specs.acquire_retire.Seats.{SeatState}
use Rattle.domain_audit.specs.control_word.Resting.{IsUnderNone}
use Rattle.words_rest.specs.directory_law.declared.view.View.{View as DirectoryView}
use Rattle.words_rest.specs.queue_law.declared.view.Item.{Item}
use Rattle.words_rest.specs.queue_law.declared.view.Taken.{Taken}
use Rattle.words_rest.specs.queue_law.declared.view.View.{View as QueueView}
use Rattle.words_rest.specs.queue_law.Lists.{taken_items}
use Rattle.words_rest.specs.words_law.Known.{ForgetsNothing}
use Rattle.words_rest.specs.words_law.Views.{View}
use Rattle.lane_domain.specs.words_protocol.declared.law.WordsLaw.{WordsLaw}
use Rattle.ticket_shares.specs.Tickets.{AreLanes, together}
use Rattle.lane_domain.specs.lane_files.Passed.{KnowsWords, by_seat}
use Rattle.lane_domain.specs.lane_files.lane_work.declared.work.Work.{Work}
use Rattle.lane_domain.specs.lane_files.Keeping.{slots_of}
use Rattle.lane_domain.specs.lane_files.Work.{all_tickets, kept_files, words_of_all}
use Rattle.lane_reports.specs.declared.done.Done.{Done}
use Rattle.lane_reports.specs.declared.done.Gathered.{Gathered}
use Rattle.lane_reports.specs.Deeds.{IsTallyOf, LaneDeeds, LaneDid, OwnsJust}
use Rattle.lane_reports.specs.Kept.{lives_in}
use Rattle.words_rest.specs.Kept.{TellsFiles}

-- these lanes did what lanes do, each on its own seat, with numbers from n on
abbrev pub EachDid : Work → DomainState WordsLaw → ℕ → List Done → Type 0
EachDid work d n [] = Unit {0}
EachDid work d n (one ∷ done) = LaneDid work d n one.seat one.lane × EachDid work d (n + 1) done

-- seat 0 is under no snapshot, owns nothing, has drawn no ticket, has pushed and popped nothing, and no seat has left
pub record IsBare (root : SeatState View) : Type 0 where
  pub first : root.view.core.seat ≡ 0
  pub none : IsUnderNone root.view.core
  pub owns : OwnsJust [] root
  pub tickets : root.view.core.tickets ≡ []
  pub pushed : root.view.client.0.pushed ≡ []
  pub popped : root.view.client.0.popped ≡ []
  pub left : root.view.core.left_seats ≡ []

-- the tickets of files that lanes drew, and the words that they counted
abbrev pub shares_of : List LaneDeeds → List (List ℕ)
shares_of lanes = map (λ (x : LaneDeeds). x.tickets) lanes

abbrev pub words_popped : List LaneDeeds → List (List ℕ)
words_popped lanes = flat_map (λ (x : LaneDeeds). x.words) lanes

-- items of lanes, one lane's after the other's, with the numbers of their seats from n on
unfoldable pub each_by : (LaneDeeds → List Item) → ℕ → List LaneDeeds → List Taken
each_by f n [] = []
each_by f n (x ∷ xs) = by_seat n (f x) ++ each_by f (n + 1) xs

-- of the items that each lane popped the view tells the words that the lane counted
abbrev pub KnowsPops : DirectoryView → List LaneDeeds → Type 0
KnowsPops v [] = Unit {0}
KnowsPops v (x ∷ xs) = KnowsWords v x.pops x.words × KnowsPops v xs

-- each tally counts the words that its lane popped
abbrev pub AreTallies : List LaneDeeds → List (List (List ℕ × ℕ)) → Type 0
AreTallies [] [] = Unit {0}
AreTallies [] (t ∷ ts) = ⊥
AreTallies (x ∷ xs) [] = ⊥
AreTallies (x ∷ xs) (t ∷ ts) = IsTallyOf x.words t × AreTallies xs ts

-- the references that a lane keeps
abbrev pub kept_by : Done → List Handle
kept_by one = one.lane.keeper.kept.items

-- of what each lane keeps the view tells the words of its tickets' files, in the lives in which its seat had the slots
abbrev pub TellsLanes : Work → List LaneDeeds → List Done → DirectoryView → Type 0
TellsLanes work [] [] v = Unit {0}
TellsLanes work [] (one ∷ done) v = ⊥
TellsLanes work (x ∷ xs) [] v = ⊥
TellsLanes work (x ∷ xs) (one ∷ done) v =
    TellsFiles (lives_in one.seat) (kept_files work x.tickets) (slots_of (kept_by one)) v
    × TellsLanes work xs done v

-- of all that they keep, their seats had the slots in the lives in which this seat has them
abbrev pub KeptAlike : List Done → SeatState View → Type 0
KeptAlike [] seat = Unit {0}
KeptAlike (one ∷ done) seat =
    ((s : SlotId) → 0 < times s (slots_of (kept_by one)) → lives_in one.seat s ≡ lives_in seat s)
    × KeptAlike done seat

-- what seat 0 has beside what it takes over
abbrev pub beside_taken : CoreView → CoreView
beside_taken v = record v {
  room = 0;
  owned = [];
  weaks = [];
  retired = [];
  dying = [];
  ripe = [];
  made = [];
  left_seats = [];
  trail = [];
}

-- and of the queue
abbrev pub beside_lists : QueueView → QueueView
beside_lists v = record v { flown = []; pushed = []; popped = [] }

-- The seats that left, from number 1 on, drew these lanes' tickets.
pub record DrewTickets (work : Work) (lanes : List LaneDeeds) (left : List LeftSeat) : Type 0 where
  pub shares :
      AreLanes (all_tickets work) (map (λ (l : LeftSeat). l.tickets) left) (shares_of lanes)
  pub numbers : map (λ (l : LeftSeat). l.seat) left ≡ range_with_len 1 (length lanes)

-- The view has what the lanes pushed and popped, in order. It tells the words of all pushed items, which are those of
-- the tickets' files, and of all popped ones, lane by lane.
pub record HasItems (work : Work) (lanes : List LaneDeeds) (v : View) : Type 0 where
  pub pushed : v.0.pushed ≡ each_by (λ x. x.pushes) 1 lanes
  pub popped : v.0.popped ≡ each_by (λ x. x.pops) 1 lanes
  pub pushed_words :
      KnowsWords v.1 (taken_items v.0.pushed) (words_of_all work (together (shares_of lanes)))
  pub popped_words : KnowsWords v.1 (taken_items v.0.popped) (words_popped lanes)
  pub each : KnowsPops v.1 lanes

-- What the seat has beside what it took over is as it was. It has forgotten no text, and has noted the adds and the
-- makes of the seats that left.
pub record StaysBeside (done : List Done) (old new : SeatState View) : Type 0 where
  pub core : beside_taken new.view.core ≡ beside_taken old.view.core
  pub queue : beside_lists new.view.client.0 ≡ beside_lists old.view.client.0
  pub more : ForgetsNothing old.view.client.1 new.view.client.1
  pub adds :
      new.view.left_adds
      ≡ old.view.left_adds + sum_by (λ (one : Done). one.seat.view.core.adds) done
  pub makes :
      new.view.left_makes
      ≡ old.view.left_makes + sum_by (λ (one : Done). one.seat.view.core.makes) done

-- how often each word was counted
abbrev pub Tally : Type 0
Tally = List (List ℕ × ℕ)

-- Seat 0 has taken over what the lanes had: their tickets, the items that they pushed and popped, and the references
-- that they kept, of which its view tells what they knew, in the lives in which they had them. The tallies are theirs,
-- in order.
pub record HasGathered (work : Work) (done : List Done) (old new : SeatState View)
    (counted : List Tally) (handles : List Handle) : Type 0 where
  pub lanes : List LaneDeeds
  pub tallies : AreTallies lanes counted
  pub drew : DrewTickets work lanes new.view.core.left_seats
  pub items : HasItems work lanes new.view.client
  pub kept : handles ≡ flat_map kept_by done
  pub tells : TellsLanes work lanes done new.view.client.1
  pub alike : KeptAlike done new
  pub owns : OwnsJust (slots_of handles) new
  pub beside : StaysBeside done old new

abbrev pub Gathers : Work → List Done → SeatState View → SeatState View → Gathered → Type 0
Gathers work done old new gathered =
    HasGathered work done old new gathered.tallies.items gathered.kept.items
