-- The rows that were counted have the words of the files, and those of kept slots.
use Rattle.std.proofs.Common.{◌≡◌, ℕ, ◌<◌, List, [], ◌∷◌, refl, sym, ap, subst, ◌∙◌, arith}
use Rattle.std.specs.Prelude.{◌↔◌, All, map}
use Rattle.std.specs.List.{Contains}
use Rattle.std.specs.Map.{keys_of}
use Rattle.std.proofs.lemmas.List.Elements.{All-cons, All-head, All-tail}
use Rattle.cell_records.proofs.Below.cdrc_text_Unique.{Contains-first, Contains-later}
use Rattle.cell_gathering.specs.cdrc_text.Fold.{IsInByteOrder, holders_in, occurrences_in}
use Rattle.cell_gathering.specs.cdrc_text.Text.{word_of}
use Rattle.cell_records.specs.cell_law.declared.view.View.{View}
use Rattle.cell_records.specs.cell_law.plain_state.Lists.{times}
use Rattle.cell_records.specs.cell_law.plain_state.References.{strong_refs}
use Rattle.cell_records.specs.cell_law.plain_state.State.{Plain}
use Rattle.cell_records.specs.cell_law.plain_state.declared.slot.SlotId.{SlotId}
use Rattle.cell_records.specs.Records.{IsRecordOf, slots_in, sums_in, words_in}
use Rattle.cell_records.specs.Rows.{AreRowsOf}
use Rattle.cell_records.specs.declared.records.WordRecord.{WordRecord}
use Rattle.cell_records.specs.cell_rest.Kept.{TellsWord}
use Rattle.cell_records.specs.cell_rest.Written.{AreRowsAt, HaveWords}
use Rattle.cell_records.specs.cell_rest.plain_audit.plain_state.Images.{slot_image}
use Rattle.cell_records.specs.cell_rest.plain_audit.plain_state.declared.image.Heap.{Heap}
use Rattle.cell_records.specs.lane_work.Sizes.{texts_in}
use Rattle.cell_records.specs.lane_work.Work.{IsWork}
use Rattle.cell_records.specs.lane_work.declared.work.Work.{Work}
use Rattle.cell_records.specs.tally_sums.Sums.{AreCounted, IsSum, SumsUp, Tallies, counted_in}
use Rattle.cell_records.specs.tally_sums.cdrc_text.declared.row.Row.{Row}
use Rattle.cell_records.proofs.Below.cdrc_text_Listed.{held-occurs, occurs-held}

-- the records and the rows are of the same words
words_same : (image : Heap) (records : List WordRecord) (rows : List Row)
    → AreRowsOf image records rows → map word_of rows ≡ words_in records
words_same image [] [] are = refl
words_same image [] (row ∷ rows) are = absurd are
words_same image (r ∷ records) [] are = absurd are
words_same image (r ∷ records) (row ∷ rows) are =
    (λ i. (are.0.word i).now ∷ words_same image records rows are.1 i)

-- the keys of the sums are the words
keys_in : (records : List WordRecord) → keys_of (sums_in records) ≡ words_in records
keys_in [] = refl
keys_in (r ∷ rs) = ap (λ (ws : List (List ℕ)). r.word.now ∷ ws) (keys_in rs)

module _ (work : Work) (is : IsWork work) (tallies : Tallies)
    (counts : (w : List ℕ) → counted_in tallies w ≡ occurrences_in w work.rounds (texts_in work))
    (records : List WordRecord) (words : SumsUp tallies (sums_in records)) where
  are_counted : AreCounted tallies (words_in records)
  are_counted = subst (AreCounted tallies) (keys_in records) words.words

  -- its words are those that have files
  held : (w : List ℕ) → Contains (words_in records) w ↔ (0 < holders_in w (texts_in work))
  held w =
      let some = is.once in
      let all = counts w in (
        (λ has. let above = (are_counted.counted w).0 has in
            occurs-held w work.rounds (texts_in work) (omega (arith, above, all))),
        (λ holds. let above = held-occurs w work.rounds (texts_in work) (omega (arith, some)) holds in
            (are_counted.counted w).1 (omega (arith, above, all))),
      )

  pub have_words : (image : Heap) (rows : List Row) → AreRowsOf image records rows
      → HaveWords (texts_in work) rows
  have_words image rows are =
      let same = sym (words_same image records rows are) in record {
        in_order = subst IsInByteOrder same are_counted.in_order;
        held = subst (λ (ws : List (List ℕ)).
            (w : List ℕ) → Contains ws w ↔ (0 < holders_in w (texts_in work))) same held;
      }

  -- each record is of a word that has a file
  each_held : (rs : List WordRecord) → ((w : List ℕ) → Contains (words_in rs) w
      → Contains (words_in records) w) → All (λ (r : WordRecord).
      0 < holders_in r.word.now (texts_in work)) rs
  each_held [] among = λ k d h. absurd (omega (arith, h))
  each_held (r ∷ rs) among =
      All-cons (λ (x : WordRecord). 0 < holders_in x.word.now (texts_in work)) r rs
      ((held r.word.now).0 (among r.word.now (Contains-first r.word.now (words_in rs))))
      (each_held rs (λ w has. among w (Contains-later r.word.now (words_in rs) w has)))

  pub records_held : All (λ (r : WordRecord). 0 < holders_in r.word.now (texts_in work)) records
  records_held = each_held records (λ w has. has)

-- what each row is, by its record
module _ (work : Work) (tallies : Tallies)
    (counts : (w : List ℕ) → counted_in tallies w ≡ occurrences_in w work.rounds (texts_in work))
    (p : Plain) (image : Heap) (kept : List SlotId) (v : View)
    (kept_is : (w : List ℕ) → 0 < holders_in w (texts_in work) → (s : SlotId) → TellsWord v w s
    → 0 < times s kept)
    (refs : (w : List ℕ) → 0 < holders_in w (texts_in work) → (s : SlotId) → TellsWord v w s
    → (slot_image image.slots.items s).strong ≡ strong_refs p s) where
  pub rows_at : (rs : List WordRecord) (xs : List Row) → All (IsRecordOf v) rs
      → All (λ (r : WordRecord). 0 < holders_in r.word.now (texts_in work)) rs
      → AreRowsOf image rs xs → All (IsSum tallies) (sums_in rs)
      → AreRowsAt (texts_in work) work.rounds p kept v xs (slots_in rs)
  rows_at [] [] each held these summed = tt
  rows_at [] (x ∷ xs) each held these summed = absurd these
  rows_at (r ∷ rs) [] each held these summed = absurd these
  rows_at (r ∷ rs) (x ∷ xs) each held these summed =
      let told = All-head (IsRecordOf v) r rs each in
      let some = All-head (λ (y : WordRecord). 0 < holders_in y.word.now (texts_in work)) r rs held in
      let row = these.0 in (
        record {
          is_kept = kept_is r.word.now some r.slot told;
          tells = subst (λ y. TellsWord v y.now r.slot) (sym row.word) told;
          occurrences = row.occurrences
              ∙ All-head (IsSum tallies) (r.word.now, r.occurrences) (sums_in rs) summed
              ∙ counts r.word.now
              ∙ ap (λ y. occurrences_in y.now work.rounds (texts_in work)) (sym row.word);
          holders = row.holders ∙ refs r.word.now some r.slot told;
        },
        rows_at rs xs (All-tail (IsRecordOf v) r rs each)
            (All-tail (λ (y : WordRecord). 0 < holders_in y.word.now (texts_in work)) r rs held)
            these.1
            (All-tail (IsSum tallies) (r.word.now, r.occurrences) (sums_in rs) summed),
      )
