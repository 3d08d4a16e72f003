-- What a lane owns that stops since each slot was found taken: records alone.
use Rattle.std.proofs.Common.{◌≡◌, ⊎_elim, ℕ, ◌<◌, List, [], ◌∷◌, sym, ap, subst, arith}
use Rattle.std.specs.Prelude.{Some}
use Rattle.control_word.specs.plain_state.declared.slot.SlotId.{SlotId}
use Rattle.control_word.specs.plain_state.Lists.{times}
use Rattle.control_word.proofs.Below.core_law_Kit.{times_append, times_cons, times_none}
use Rattle.control_word.specs.domain_rule.Views.{object_in}
use Rattle.control_word.specs.acquire_retire.Domains.{DomainState}
use Rattle.control_word.specs.acquire_retire.Seats.{SeatState}
use Rattle.hand_queues.specs.slot_store.declared.making.MakeError.TheVariants as unmade
use Rattle.weak_intern.specs.Knowing.{KnowsRecord}
use Rattle.words_protocol.specs.words_law.Known.{ForgetsNothing}
use Rattle.words_protocol.specs.words_law.Views.{View}
use Rattle.words_protocol.specs.declared.law.WordsLaw.{WordsLaw}
use Rattle.lane_files.specs.lane_work.declared.lane.Lane.{Lane}
use Rattle.lane_files.specs.declared.refusal.FileError.{FileError}
use Rattle.lane_files.specs.declared.refusal.FileError.TheVariants as unread
use Rattle.lane_files.specs.declared.refusal.LaneError.TheVariants as untaken
use Rattle.lane_files.specs.declared.refusal.LaneStop.{LaneStop}
use Rattle.lane_files.specs.declared.refusal.LaneStop.TheVariants as stopped
use Rattle.lane_files.specs.declared.refusal.PieceError.TheVariants as uncounted
use Rattle.lane_files.specs.lane_work.declared.work.Work.{Work}
use Rattle.lane_files.specs.Counting.{IsWhyStopped, KeepsRecords, KnowsEach}
use Rattle.lane_files.specs.Keeping.{slots_of}
use Rattle.lane_files.specs.Lanes.{KeepsFiles, StopsLane}
use Rattle.lane_files.specs.Makes.{cause_at, cause_of}
use Rattle.lane_files.specs.Owning.{OwnsNoNode}
use Rattle.lane_files.specs.Work.{kept_files}
use Rattle.lane_files.proofs.Copied.{knows_still}
use Rattle.lane_files.proofs.Offered.{texts}
use Rattle.lane_files.proofs.PiecesCounted.{more_then}
use Rattle.lane_files.proofs.Records.{is_or, zero_or}

-- the seat knows that the slot has the record of some word
abbrev IsRecord : SlotId → SeatState View → Type 0
IsRecord s seat = (word : List ℕ) × KnowsRecord texts word s seat

-- what a seat knows of an object that it has all the time
record_on : (s : SlotId) (a b : SeatState View)
    → ForgetsNothing a.view.client.1 b.view.client.1 → object_in b.view s ≡ object_in a.view s
    → IsRecord s a → IsRecord s b
record_on s a b more same (word, knows) =
    (word, (knows.0, knows.1, knows_still s knows.0 a b more same knows.2))

each_known : (ws : List (List ℕ)) (ss : List SlotId) (seat : SeatState View) (s : SlotId)
    → KnowsEach ws ss seat → 0 < times s ss → IsRecord s seat
each_known [] [] seat s known some = absurd (let z = times_none s in omega (arith, some))
each_known [] (t ∷ ss) seat s known some = absurd known
each_known (w ∷ ws) [] seat s known some = absurd known
each_known (w ∷ ws) (t ∷ ss) seat s known some = ⊎_elim
    (λ is. (w, subst (λ (x : SlotId). KnowsRecord texts w x seat) (sym is) known.0))
    (λ other. each_known ws ss seat s known.1
    (let p = times_cons s t ss in omega (arith, some, other)))
    (is_or s t)

records_known : (words : List (List ℕ)) (kept : List SlotId) (seat : SeatState View) (s : SlotId)
    → KeepsRecords words kept seat → 0 < times s kept → IsRecord s seat
records_known words kept seat s keeps some = ⊎_elim
    (λ none. absurd (let z = keeps.only s none in omega (arith, some)))
    (λ there. each_known words keeps.slots seat s keeps.knows there)
    (zero_or (times s keeps.slots))

files_known : (files : List (List (List ℕ))) (kept : List SlotId) (seat : SeatState View)
    (s : SlotId) → KeepsFiles files kept seat → 0 < times s kept → IsRecord s seat
files_known [] kept seat s keeps some =
    absurd (let is = ap (times s) keeps in let z = times_none s in omega (arith, some))
files_known (words ∷ files) kept seat s (first, others, records, rest, is) some = ⊎_elim
    (λ none. files_known files others seat s rest
    (let p = ap (times s) is in let q = times_append s first others in omega (arith, some, none)))
    (λ there. records_known words first seat s records there)
    (zero_or (times s first))

module _ (fits : List ℕ → Type 0) (d : DomainState WordsLaw) where
  -- a piece for which no slot was free made the seat forget nothing
  forgets_none : (word : List ℕ) (error : FileError) (a b : SeatState View) (la lb : Lane)
      → cause_at error ≡ Some unmade.Full → IsWhyStopped fits d word error a b la lb
      → ForgetsNothing a.view.client.1 b.view.client.1
  forgets_none word (unread.Piece (uncounted.Interning error)) a b la lb cause why = why.1.more
  forgets_none word (unread.Piece (uncounted.Offering error)) a b la lb cause why =
      more_then a.view.client.1 why.interned.view.client.1 b.view.client.1 why.first.idle.more
      why.why.1.more
  forgets_none word (unread.Piece (uncounted.Taking (untaken.Refused error))) a b la lb cause why =
      let spent = why.why.2.0 in absurd cc
  forgets_none word (unread.Piece (uncounted.Taking untaken.OutOfMemory)) a b la lb cause why =
      absurd cc
  forgets_none word unread.OutOfMemory a b la lb cause why = absurd cc

  module _ (work : Work) where
    pub owns_no_node : (stop : LaneStop) (old new : SeatState View) (before after : Lane)
        → ((x : SlotId) → times x old.view.core.owned ≡ 0) → old.view.core.weaks ≡ []
        → StopsLane fits d work stop old new before after → cause_of stop ≡ Some unmade.Full
        → OwnsNoNode new
    owns_no_node stopped.Spent old new before after nothing weakly stops cause = absurd cc
    owns_no_node (stopped.File error) old new before after nothing weakly stops cause =
        let a = stops.last in
        let file = stops.why.2 in
        let b = file.last in
        let earlier = slots_of stops.counts.more in
        let later = slots_of file.counts.more in
        let more = file.counts.takes.counts.more in
        let none = forgets_none _ error b new file.lane after cause file.why in
        record {
          strongly = λ s some.
              let first = stops.counts.owns.strongly s in
              let p = times_append s old.view.core.owned earlier in
              let second = file.counts.owns.strongly s in
              let q = times_append s a.view.core.owned later in
              let last = file.owns.strongly s in
              let old_none = nothing s in
              let at_end = file.owns.knows s (omega (arith, some, last)) (omega (arith, some)) in
              ⊎_elim
              (λ here. record_on s b new none at_end
              (records_known _ later b s file.counts.records
              (omega (arith, some, here, first, p, second, q, last, old_none))))
              (λ there. record_on s b new none at_end
              (record_on s a b more
              (file.counts.owns.knows s (omega (arith, there, first)) (omega (arith, some, last)))
              (files_known (kept_files work stops.tickets) earlier a s stops.counts.records
              (omega (arith, there, first, p, old_none)))))
              (zero_or (times s a.view.core.owned));
          weakly = λ s.
              let first = stops.counts.owns.weakly s in
              let second = file.counts.owns.weakly s in
              let last = file.owns.weakly s in
              let z = ap (times s) weakly in let n = times_none s in
              omega (arith, first, second, last, z, n);
        }
