-- Why nothing was pushed or popped.
use Rattle.std.specs.Prelude.{◌≡◌, ◌⊎◌, ℕ, None, List, [], ◌∷◌, ◌++◌}
use Rattle.std.specs.List.{flat_map}
use Rattle.control_word.specs.plain_state.declared.slot.SlotId.{SlotId}
use Rattle.control_word.specs.acquire_retire.declared.payment.Payment.{Payment}
use Rattle.control_word.specs.acquire_retire.Calls.{IsSameView, same_view}
use Rattle.control_word.specs.acquire_retire.Domains.{DomainState}
use Rattle.control_word.specs.acquire_retire.Seats.{SeatState}
use Rattle.control_word.specs.Calls.{GainsStrong, dropped_by}
use Rattle.control_word.specs.Resting.{IsSpent}
use Rattle.words_protocol.specs.cdrc_text.Tally.{count_of}
use Rattle.hand_queues.specs.part_calls.Parts.{as_part, seen_by}
use Rattle.words_protocol.specs.queue_law.declared.view.View.{View as QueueView}
use Rattle.words_protocol.specs.queue_protocol.declared.law.QueueLaw.{QueueLaw}
use Rattle.hand_queues.specs.linked_queue.Waits.{IsWhyNeverPushed, PopsAtLast}
use Rattle.hand_queues.specs.slot_store.declared.making.MakeError.{MakeError}
use Rattle.hand_queues.specs.slot_store.declared.making.MakeError.TheVariants as unmade
use Rattle.words_protocol.specs.words_law.Views.{View}
use Rattle.words_protocol.specs.declared.law.WordsLaw.{WordsLaw}
use Rattle.lane_files.specs.declared.refusal.LaneError.{LaneError}
use Rattle.lane_files.specs.declared.refusal.LaneError.TheVariants as refused
use Rattle.lane_files.specs.Passed.{Counts}

-- the domain and a seat, as the queue has them
abbrev pub queue_of : DomainState WordsLaw → DomainState QueueLaw
queue_of d = as_part (λ (it : WordsLaw). it.pair.left) d

abbrev pub of_queue : SeatState View → SeatState QueueView
of_queue seat = seen_by (λ (v : View). v.0) seat

-- Between the two states the seat gave up references to s, and did nothing else: its trail goes on by these drops
-- alone.
abbrev pub OnlyDrops : SlotId → SeatState View → SeatState View → Type 0
OnlyDrops s old new =
    (drops : List Payment)
    × (new.view.core.trail ≡ old.view.core.trail ++ flat_map (dropped_by s) drops)

module _ (fits : List ℕ → Type 0) (d : DomainState WordsLaw) where
  -- why a record wasn't pushed: no make was left, or no slot was free, or the seat has no add left by now
  abbrev pub IsWhyNotOffered : MakeError → SeatState View → SeatState View → Type 0
  IsWhyNotOffered why old new = IsWhyNeverPushed fits (queue_of d) why (of_queue old) (of_queue new)

  -- The seat counted one reference more to s, which then wasn't pushed. After that it has but given up references to s,
  -- so this push was its last one. Where no add was left then, none is.
  pub record IsWhyCopyStays (s : SlotId) (why : MakeError) (old new : SeatState View) : Type 0 where
    pub copied : SeatState View
    pub refused : SeatState View
    pub copies : GainsStrong fits d same_view IsSameView s old copied
    pub not_offered : IsWhyNotOffered why copied refused
    pub ends : OnlyDrops s refused new
    pub spent : IsSpent refused.view.core → IsSpent new.view.core

  -- why no copy of s was pushed: no add was left for it, and none is, or it was made and wasn't pushed
  abbrev pub IsWhyNotCopied : SlotId → MakeError → SeatState View → SeatState View → Type 0
  IsWhyNotCopied s why old new =
      ((why ≡ unmade.AddsSpent) × IsSpent old.view.core × IsSpent new.view.core)
      ⊎ IsWhyCopyStays s why old new

  -- the seat popped nothing, and found nothing linked behind the head's node, at a step between these two states
  abbrev pub FindsNoItem : SeatState View → SeatState View → Type 0
  FindsNoItem old new = PopsAtLast fits (queue_of d) None (of_queue old) (of_queue new)

-- Why no word was counted: nothing was popped, and the seat has no add left. Or an item was popped whose word is a new
-- one, for which there was no memory. The tally is as it was.
abbrev pub IsWhyNotTaken : LaneError → SeatState View → SeatState View → List (List ℕ × ℕ)
    → List (List ℕ × ℕ) → Type 0
IsWhyNotTaken (refused.Refused why) old new before after =
    (why ≡ unmade.AddsSpent) × IsSpent new.view.core
    × Counts [] [] old.view.client new.view.client × (after ≡ before)
IsWhyNotTaken refused.OutOfMemory old new before after =
    (word : List ℕ) × Counts [] (word ∷ []) old.view.client new.view.client
    × (count_of before word ≡ 0) × (after ≡ before)
