-- What a lane does for the files whose tickets it draws.
use Rattle.std.specs.Prelude.{ℕ, ◌≡◌, ◌⊎◌, ◌≤◌, ◌<◌, ◌+◌, ◌++◌, All, List, [], ◌∷◌, length, slice_index_or}
use Rattle.control_word.specs.plain_state.declared.slot.SlotId.{SlotId}
use Rattle.control_word.specs.plain_state.Lists.{times}
use Rattle.control_word.specs.core_events.declared.view.CoreView.{CoreView}
use Rattle.control_word.specs.core_events.Views.{Holds}
use Rattle.control_word.specs.counted_handles.Handles.{Handle}
use Rattle.control_word.specs.domain_rule.Views.{object_in}
use Rattle.control_word.specs.acquire_retire.Domains.{DomainState}
use Rattle.control_word.specs.acquire_retire.Seats.{SeatState}
use Rattle.control_word.specs.Resting.{IsSpent}
use Rattle.words_protocol.specs.declared.law.WordsLaw.{WordsLaw}
use Rattle.weak_intern.specs.directory_calls.Directories.{area_of}
use Rattle.weak_intern.specs.directory_calls.Steps.{aside}
use Rattle.words_protocol.specs.words_law.Views.{View}
use Rattle.lane_files.specs.Passed.{Takes}
use Rattle.lane_files.specs.lane_work.declared.lane.Lane.{Lane}
use Rattle.lane_files.specs.lane_work.declared.work.Work.{Work}
use Rattle.lane_files.specs.declared.refusal.LaneStop.{LaneStop}
use Rattle.lane_files.specs.declared.refusal.LaneStop.TheVariants as stopped
use Rattle.lane_files.specs.Counting.{KeepsRecords, StopsInFile}
use Rattle.lane_files.specs.Keeping.{slots_of}
use Rattle.lane_files.specs.Makes.{makes_for}
use Rattle.lane_files.specs.Scans.{scans_of}
use Rattle.lane_files.specs.Work.{all_tickets, kept_files, words_of, words_of_all}

-- references to the records of some files, those of one file after those of the other
abbrev pub KeepsFiles : List (List (List ℕ)) → List SlotId → SeatState View → Type 0
KeepsFiles [] kept seat = kept ≡ []
KeepsFiles (words ∷ files) kept seat =
    (first : List SlotId) × (others : List SlotId) × KeepsRecords words first seat
    × KeepsFiles files others seat × (kept ≡ first ++ others)

-- what a seat has beside its references, its batch, its dying and ripe slots, its trail, its tickets, and how much it
-- used up
abbrev pub beside_tickets : CoreView → CoreView
beside_tickets v = record (aside v) { tickets = [] }

-- The seat owns these references strongly, and weakly what it owned, in some order. What it has beside, but for tickets
-- that it drew, is as it was, and so is what it knows of the objects that it held and still holds. It has made no fewer
-- whole scans.
pub record OwnsAfter (owned : List SlotId) (old new : SeatState View) : Type 0 where
  pub strongly : (x : SlotId) → times x new.view.core.owned ≡ times x owned
  pub weakly : (x : SlotId) → times x new.view.core.weaks ≡ times x old.view.core.weaks
  pub same : beside_tickets new.view.core ≡ beside_tickets old.view.core
  pub knows :
      (x : SlotId) → Holds old.view.core x → Holds new.view.core x
      → object_in new.view x ≡ object_in old.view x
  pub scans : scans_of old ≤ scans_of new

-- The lane pushed an item of each word of the files of these tickets, in order, popped at most as many, and counted the
-- words of these. Of each file in the last round it keeps one reference to the record of each word. It made a node for
-- each word, and at most the slots of its record, and a whole scan or more for each word.
pub record CountsTickets (work : Work) (tickets : List ℕ) (old new : SeatState View)
    (before after : Lane) : Type 0 where
  pub taken : ℕ
  pub most : taken ≤ length (words_of_all work tickets)
  pub takes :
      Takes (words_of_all work tickets) taken old.view.client new.view.client before.tally
      after.tally
  pub more : List Handle
  pub kept : after.keeper.kept.items ≡ before.keeper.kept.items ++ more
  pub records : KeepsFiles (kept_files work tickets) (slots_of more) new
  pub owns : OwnsAfter (old.view.core.owned ++ slots_of more) old new
  pub makes :
      new.view.core.makes ≤ old.view.core.makes + makes_for (words_of_all work tickets)
  pub scans : scans_of old + length (words_of_all work tickets) ≤ scans_of new

-- The tickets end with one of no file, or there are more of them than tickets that stand for a file: which can't be,
-- since each ticket is drawn once, and who knows the tickets of all seats knows that.
abbrev pub Ends : Work → List ℕ → List ℕ → Type 0
Ends work tickets rest =
    ((last : ℕ) × (rest ≡ last ∷ []) × (all_tickets work ≤ last))
    ⊎ ((rest ≡ []) × (all_tickets work < length tickets))

-- It drew these tickets, each of a file, and counted their files; and then it drew one of no file, if any.
pub record RunsLane (work : Work) (old new : SeatState View) (before after : Lane) : Type 0 where
  pub tickets : List ℕ
  pub rest : List ℕ
  pub drawn : new.view.core.tickets ≡ old.view.core.tickets ++ (tickets ++ rest)
  pub inside : All (λ ticket. ticket < all_tickets work) tickets
  pub ends : Ends work tickets rest
  pub counts : CountsTickets work tickets old new before after

module _ (fits : List ℕ → Type 0) (d : DomainState WordsLaw) where
  -- why a lane went no further: no add was left for a ticket, or a piece of the next ticket's file wasn't counted
  abbrev pub IsWhyStopped : Work → LaneStop → SeatState View → SeatState View → Lane → Lane → Type 0
  IsWhyStopped work stopped.Spent old new before after =
      IsSpent new.view.core × (new ≡ old) × (after ≡ before)
  IsWhyStopped work (stopped.File error) old new before after =
      (ticket : ℕ) × (ticket < all_tickets work)
      × StopsInFile fits d (words_of work ticket) error old new before after

  -- the ticket at whose file it stopped, if it had drawn one
  abbrev pub stopped_at : (work : Work) (stop : LaneStop) (old new : SeatState View)
      (before after : Lane) → IsWhyStopped work stop old new before after → List ℕ
  stopped_at work stopped.Spent old new before after why = []
  stopped_at work (stopped.File error) old new before after why = why.0 ∷ []

  -- It drew some tickets and counted their files, and stopped then. It used at most the makes for the files of all
  -- tickets that it drew.
  pub record StopsLane (work : Work) (stop : LaneStop) (old new : SeatState View)
      (before after : Lane) : Type 0 where
    pub tickets : List ℕ
    pub inside : All (λ ticket. ticket < all_tickets work) tickets
    pub last : SeatState View
    pub lane : Lane
    pub counts : CountsTickets work tickets old last before lane
    pub why : IsWhyStopped work stop last new lane after
    pub drawn :
        new.view.core.tickets
        ≡ old.view.core.tickets ++ (tickets ++ stopped_at work stop last new lane after why)
    pub makes :
        new.view.core.makes
        ≤ old.view.core.makes
        + makes_for (words_of_all work (tickets ++ stopped_at work stop last new lane after why))

-- who draws a ticket has an intern for each word of its file
abbrev pub HasGrants : DomainState WordsLaw → Work → Type 0
HasGrants d work =
    (ticket : ℕ) → ticket < all_tickets work → length (words_of work ticket)
    ≤ slice_index_or (area_of d.protocol.pair.right).grants ticket 0
