-- How many items a lane has pushed that stops since each slot was found taken, and how many whole scans it has made.
use Rattle.std.proofs.Common.{◌≡◌, suc, ℕ, ◌+◌, ◌≤◌, List, [], ◌∷◌, length, refl, ap, arith}
use Rattle.std.specs.Prelude.{Some, take}
use Rattle.std.proofs.lemmas.List.{length-append, length-map}
use Rattle.control_word.specs.acquire_retire.Domains.{DomainState}
use Rattle.control_word.specs.acquire_retire.Seats.{SeatState}
use Rattle.hand_queues.specs.slot_store.declared.making.MakeError.TheVariants as unmade
use Rattle.words_protocol.specs.queue_law.declared.view.Item.{Item}
use Rattle.words_protocol.specs.queue_law.declared.view.View.{View as QueueView}
use Rattle.words_protocol.specs.directory_law.declared.view.View.{View as DirectoryView}
use Rattle.words_protocol.specs.directory_law.Bytes.{text_bytes}
use Rattle.words_protocol.specs.directory_law.Payloads.{Text}
use Rattle.words_protocol.specs.words_law.Known.{KnowsTexts}
use Rattle.words_protocol.specs.words_law.Views.{View}
use Rattle.words_protocol.specs.declared.law.WordsLaw.{WordsLaw}
use Rattle.lane_files.specs.lane_work.declared.lane.Lane.{Lane}
use Rattle.lane_files.specs.declared.refusal.FileError.{FileError}
use Rattle.lane_files.specs.declared.refusal.FileError.TheVariants as unread
use Rattle.lane_files.specs.declared.refusal.LaneError.TheVariants as untaken
use Rattle.lane_files.specs.declared.refusal.LaneStop.{LaneStop}
use Rattle.lane_files.specs.declared.refusal.LaneStop.TheVariants as stopped
use Rattle.lane_files.specs.declared.refusal.PieceError.TheVariants as uncounted
use Rattle.lane_files.specs.lane_work.declared.work.Work.{Work}
use Rattle.lane_files.specs.Counting.{IsWhyStopped, StopsInFile}
use Rattle.lane_files.specs.Lanes.{StopsLane}
use Rattle.lane_files.specs.Makes.{cause_at, cause_of}
use Rattle.lane_files.specs.Passed.{Counts, by_seat}
use Rattle.lane_files.specs.Scans.{HasScanned, scans_of}
use Rattle.lane_files.specs.Work.{words_of, words_of_all}

abbrev pushes_of : SeatState View → ℕ
pushes_of seat = length seat.view.client.0.pushed

texts_many : (v : DirectoryView) (xs : List Item) (ts : List Text) → KnowsTexts v xs ts
    → length xs ≡ length ts
texts_many v [] [] known = refl
texts_many v [] (t ∷ ts) known = absurd known
texts_many v (x ∷ xs) [] known = absurd known
texts_many v (x ∷ xs) (t ∷ ts) known = ap suc (texts_many v xs ts known.1)

by_seat_many : (n : ℕ) (xs : List Item) → length (by_seat n xs) ≡ length xs
unfolding by_seat
by_seat_many n xs = length-map xs (λ (x : Item). record { item = x; taker = n })

-- an item for each word
pushed_many : (us ws : List (List ℕ)) (v w : View) → Counts us ws v w
    → length w.0.pushed ≡ length v.0.pushed + length us
pushed_many us ws v w counts =
    let deeds = ap (λ (q : QueueView). length q.pushed) counts.deeds in
    let more = length-append v.0.pushed (by_seat v.0.number counts.pushes) in
    let each = by_seat_many v.0.number counts.pushes in
    let known = texts_many w.1 counts.pushes counts.pushed_words.0 counts.pushed_words.1 in
    let words = ap length counts.pushed_words.2 in
    let texts = length-map counts.pushed_words.0 text_bytes in omega arith

module _ (fits : List ℕ → Type 0) (d : DomainState WordsLaw) where
  -- a piece for which no slot was free was not pushed
  none_pushed : (word : List ℕ) (error : FileError) (a b : SeatState View) (la lb : Lane)
      → cause_at error ≡ Some unmade.Full → IsWhyStopped fits d word error a b la lb
      → pushes_of b ≡ pushes_of a
  none_pushed word (unread.Piece (uncounted.Interning error)) a b la lb cause why =
      let n = pushed_many [] [] a.view.client b.view.client why.1 in omega arith
  none_pushed word (unread.Piece (uncounted.Offering error)) a b la lb cause why =
      let m = pushed_many [] [] a.view.client why.interned.view.client why.first.idle in
      let n = pushed_many [] [] why.interned.view.client b.view.client why.why.1 in omega arith
  none_pushed word (unread.Piece (uncounted.Taking (untaken.Refused error))) a b la lb cause why =
      let spent = why.why.2.0 in absurd cc
  none_pushed word (unread.Piece (uncounted.Taking untaken.OutOfMemory)) a b la lb cause why =
      absurd cc
  none_pushed word unread.OutOfMemory a b la lb cause why = absurd cc

  file_scanned : (words : List (List ℕ)) (error : FileError) (a b : SeatState View) (la lb : Lane)
      → cause_at error ≡ Some unmade.Full → StopsInFile fits d words error a b la lb
      → scans_of a + pushes_of b ≤ scans_of b + pushes_of a
  file_scanned words error a b la lb cause stops =
      let before = pushed_many (take stops.done words) _ a.view.client stops.last.view.client
      stops.counts.takes.counts in
      let none = none_pushed _ error stops.last b stops.lane lb cause stops.why in
      let scanned = stops.counts.scans in let later = stops.owns.scans in omega arith

  module _ (work : Work) where
    lane_scanned : (stop : LaneStop) (old new : SeatState View) (before after : Lane)
        → StopsLane fits d work stop old new before after → cause_of stop ≡ Some unmade.Full
        → scans_of old + pushes_of new ≤ scans_of new + pushes_of old
    lane_scanned stopped.Spent old new before after stops cause = absurd cc
    lane_scanned (stopped.File error) old new before after stops cause =
        let pushed = pushed_many (words_of_all work stops.tickets) _ old.view.client
        stops.last.view.client stops.counts.takes.counts in
        let scanned = stops.counts.scans in
        let last = file_scanned (words_of work stops.why.0) error stops.last new stops.lane after
        cause stops.why.2 in omega arith

    pub full_scanned : (stop : LaneStop) (old new : SeatState View) (before after : Lane)
        → old.view.client.0.pushed ≡ [] → StopsLane fits d work stop old new before after
        → cause_of stop ≡ Some unmade.Full → HasScanned new
    full_scanned stop old new before after none stops cause =
        let n = ap length none in
        let all = lane_scanned stop old new before after stops cause in omega arith
