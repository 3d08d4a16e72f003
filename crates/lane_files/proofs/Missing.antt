-- The trail of a lane that stops since each slot was found taken has the search that found that.
use Rattle.std.proofs.Common.{◌≡◌, ◌⊎◌, inl, inr, ℕ, List, [], ◌∷◌, ◌++◌, ap, ◌∙◌}
use Rattle.std.specs.Prelude.{Some}
use Rattle.std.proofs.lemmas.List.{append_assoc}
use Rattle.control_word.specs.plain_state.declared.slot.SlotId.{SlotId}
use Rattle.control_word.specs.core_events.declared.view.CoreView.{CoreView}
use Rattle.control_word.specs.core_events.declared.view.Move.{Move}
use Rattle.control_word.specs.acquire_retire.Domains.{DomainState}
use Rattle.control_word.specs.acquire_retire.Seats.{SeatState}
use Rattle.hand_queues.specs.slot_store.Searching.{Misses, taken_by}
use Rattle.hand_queues.specs.slot_store.declared.making.MakeError.{MakeError}
use Rattle.hand_queues.specs.slot_store.declared.making.MakeError.TheVariants as unmade
use Rattle.words_protocol.specs.words_law.Views.{View}
use Rattle.words_protocol.specs.declared.law.WordsLaw.{WordsLaw}
use Rattle.lane_files.specs.lane_work.declared.lane.Lane.{Lane}
use Rattle.lane_files.specs.declared.refusal.FileError.TheVariants as unread
use Rattle.lane_files.specs.declared.refusal.LaneError.TheVariants as untaken
use Rattle.lane_files.specs.declared.refusal.LaneStop.{LaneStop}
use Rattle.lane_files.specs.declared.refusal.LaneStop.TheVariants as stopped
use Rattle.lane_files.specs.declared.refusal.PieceError.{PieceError}
use Rattle.lane_files.specs.declared.refusal.PieceError.TheVariants as uncounted
use Rattle.lane_files.specs.lane_work.declared.work.Work.{Work}
use Rattle.lane_files.specs.Lanes.{StopsLane}
use Rattle.lane_files.specs.Makes.{cause_of}
use Rattle.lane_files.specs.Missing.{HasMissed}
use Rattle.lane_files.specs.PieceMakes.{cause_in}
use Rattle.lane_files.specs.Pieces.{IsWhyNotCounted}
use Rattle.lane_files.specs.Whys.{IsWhyNotCopied, of_queue, queue_of}

-- a search that found none, from which the trail of the seat goes on
pub missed_on : {P V : Type 0} (fits : List ℕ → Type 0) (d : DomainState P) (a b : SeatState V)
    (seat : SeatState View) (later : List Move) → Misses fits d a b
    → seat.view.core.trail ≡ b.view.core.trail ++ later → HasMissed d.shape seat
missed_on fits d a b seat later missed goes = record {
  before = a.view.core.trail;
  tries = missed.tries;
  later = later;
  trail =
      let searched = ap (λ (v : CoreView). v.trail ++ later) missed.goes.becomes.core in
      goes ∙ searched ∙ append_assoc a.view.core.trail (taken_by missed.tries) later;
  in_turn = missed.in_turn;
  few = missed.few;
  all_taken = missed.all_taken;
}

module _ (fits : List ℕ → Type 0) (d : DomainState WordsLaw) where
  copy_missed : (s : SlotId) (why : MakeError) (old new : SeatState View) → why ≡ unmade.Full
      → IsWhyNotCopied fits d s why old new → HasMissed d.shape new
  copy_missed s unmade.AddsSpent old new cause not = absurd cc
  copy_missed s unmade.MakesSpent old new cause not = absurd cc
  copy_missed s unmade.Full old new cause (inl spent) = let e = spent.0 in absurd cc
  copy_missed s unmade.Full old new cause (inr stays) =
      missed_on fits (queue_of d) (of_queue stays.copied) (of_queue stays.refused) new _
      stays.not_offered stays.ends.1

  piece_missed : (word : List ℕ) (error : PieceError) (old new : SeatState View)
      (before after : List (List ℕ × ℕ)) → cause_in error ≡ Some unmade.Full
      → IsWhyNotCounted fits d word error old new before after → HasMissed d.shape new
  piece_missed word (uncounted.Interning unmade.AddsSpent) old new before after cause why = absurd cc
  piece_missed word (uncounted.Interning unmade.MakesSpent) old new before after cause why = absurd cc
  piece_missed word (uncounted.Interning unmade.Full) old new before after cause why =
      missed_on fits d why.0.0.mid why.0.0.late new why.0.0.till.0 why.0.0.misses why.0.0.till.1
  piece_missed word (uncounted.Offering error) old new before after cause why =
      let is : error ≡ unmade.Full = cc in copy_missed why.slot error why.interned new is why.why.0
  piece_missed word (uncounted.Taking (untaken.Refused error)) old new before after cause why =
      let spent = why.why.2.0 in absurd cc
  piece_missed word (uncounted.Taking untaken.OutOfMemory) old new before after cause why = absurd cc

  pub lane_missed : (work : Work) (stop : LaneStop) (old new : SeatState View)
      (before after : Lane) → StopsLane fits d work stop old new before after
      → cause_of stop ≡ Some unmade.Full → HasMissed d.shape new
  lane_missed work stopped.Spent old new before after stops cause = absurd cc
  lane_missed work (stopped.File (unread.Piece error)) old new before after stops cause =
      piece_missed _ error stops.why.2.last new _ _ cause stops.why.2.why
  lane_missed work (stopped.File unread.OutOfMemory) old new before after stops cause = absurd cc
