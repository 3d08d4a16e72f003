-- The records that were found so far, and the words that are left.
use Rattle.std.proofs.Common.{◌≡◌, ℕ, ◌<◌, List, [], ◌∷◌, ◌++◌, ap, sym, ◌∙◌, subst, append_assoc}
use Rattle.std.specs.Borrow.{Bor}
use Rattle.std.specs.List.{All, Contains}
use Rattle.std.specs.Map.{keys_of}
use Rattle.std.proofs.lemmas.List.{map-append}
use Rattle.std.proofs.lemmas.List.Elements.{All-push, Contains-append_right}
use Rattle.cell_intern.specs.cell_calls.Keeping.{Learns}
use Rattle.cell_intern.specs.cell_calls.cell_law.declared.view.View.{View}
use Rattle.cell_intern.specs.cell_calls.cell_law.plain_state.declared.slot.SlotId.{SlotId}
use Rattle.tally_sums.proofs.Below.cdrc_text_Unique.{Contains-first}
use Rattle.tally_sums.specs.Sums.{SumsUp, Tallies, counted_in}
use Rattle.tally_sums.specs.cdrc_text.Tally.{shown_entries}
use Rattle.cell_records.specs.Records.{IsRecordOf, sums_in}
use Rattle.cell_records.specs.declared.records.WordRecord.{WordRecord}
use Rattle.cell_records.proofs.Telling.{tells_on}

module _ (tallies : Tallies) (records : List WordRecord) (w : Bor (List ℕ)) (n : ℕ)
    (left rest : List (Bor (List ℕ) × ℕ)) (is : left ≡ (w, n) ∷ rest)
    (words : SumsUp tallies (sums_in records ++ shown_entries left)) where
  -- the next word was counted
  pub next_counted : 0 < counted_in tallies w.now
  next_counted =
      (words.words.counted w.now).0
      (subst (λ (ks : List (List ℕ)). Contains ks w.now)
      (sym (map-append (λ (e : List ℕ × ℕ). e.0) (sums_in records) (shown_entries left)))
      (Contains-append_right (keys_of (sums_in records)) (keys_of (shown_entries left)) w.now
      (subst (λ (es : List (Bor (List ℕ) × ℕ)). Contains (keys_of (shown_entries es)) w.now) (sym is)
      (Contains-first w.now (keys_of (shown_entries rest))))))

  pub words_more : (more : List WordRecord) (s : SlotId)
      → more ≡ records ++ record { word = w; occurrences = n; slot = s } ∷ []
      → SumsUp tallies (sums_in more ++ shown_entries rest)
  words_more more s pushed =
      let one : WordRecord = record { word = w; occurrences = n; slot = s } in
      subst (SumsUp tallies)
      (sym (ap (λ (rs : List WordRecord). sums_in rs ++ shown_entries rest) pushed
      ∙ ap (λ (es : List (List ℕ × ℕ)). es ++ shown_entries rest)
      (map-append (λ (r : WordRecord). (r.word.now, r.occurrences)) records (one ∷ []))
      ∙ append_assoc (sums_in records) ((w.now, n) ∷ []) (shown_entries rest)
      ∙ ap (λ (es : List (Bor (List ℕ) × ℕ)). sums_in records ++ shown_entries es) (sym is)))
      words

-- what the view tells of the records it tells where its seat has learnt more
pub records_more : (v w : View) → Learns v w → (records more : List WordRecord) (r : WordRecord)
    → more ≡ records ++ r ∷ [] → All (IsRecordOf v) records → IsRecordOf w r
    → All (IsRecordOf w) more
records_more v w learns records more r pushed so one =
    subst (All (IsRecordOf w)) (sym pushed)
    (All-push (IsRecordOf w) records r
    (λ k x h. tells_on v w learns _ _ (so k x h)) one)
