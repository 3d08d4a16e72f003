-- The records that were found so far, and the words that are left.
use Rattle.std.proofs.Common.{◌≡◌, ℕ, ◌<◌, ◌≤◌, Bool, List, [], ◌∷◌, ◌++◌, ap, sym, ◌∙◌, subst, append_assoc, arith}
use Rattle.std.specs.Borrow.{Bor}
use Rattle.std.specs.List.{All, Contains}
use Rattle.std.specs.Map.{keys_of}
use Rattle.std.proofs.lemmas.List.{map-append}
use Rattle.std.proofs.lemmas.List.Elements.{All-push, Contains-append_right}
use Rattle.tally_sums.specs.cdrc_text.Tally.{shown_entries}
use Rattle.tally_sums.proofs.Below.cdrc_text_Unique.{Contains-first}
use Rattle.law_lesson.specs.plain_state.declared.slot.SlotId.{SlotId}
use Rattle.law_lesson.specs.plain_state.Lists.{times}
use Rattle.law_lesson.specs.plain_protocol.Owns.{Object}
use Rattle.domain_audit.specs.counted_handles.Handles.{Handle}
use Rattle.domain_audit.specs.acquire_retire.Seats.{SeatState}
use Rattle.lane_domain.specs.directory_calls.Learning.{LearnsIn}
use Rattle.lane_domain.specs.directory_calls.Steps.{Leaves}
use Rattle.lane_domain.specs.lane_files.Keeping.{slots_of}
use Rattle.words_rest.specs.words_law.Views.{View}
use Rattle.words_rest.proofs.Below.words_law_Known.{knows_more}
use Rattle.words_rest.specs.Kept.{TellsWord}
use Rattle.lane_reports.specs.declared.records.WordRecord.{WordRecord}
use Rattle.lane_reports.specs.Holders.{AreSlotsOf, OwnsEach, texts, with_texts}
use Rattle.lane_reports.specs.Kept.{lives_in}
use Rattle.lane_reports.specs.Rows.{IsRecordOf, sums_in}
use Rattle.tally_sums.specs.Sums.{SumsUp, Tallies, counted_in}
use Rattle.lane_reports.proofs.Counting.{learns_more}

-- a seat that owns what it owned owns each of the kept references
pub owns_each : (kept : List Handle) (is_held : SlotId → Bool) (a b : SeatState View)
    → AreSlotsOf kept is_held
    → ((s : SlotId) → times s (slots_of kept) ≤ times s a.view.core.owned)
    → Leaves a.view.core.owned a.view.core.weaks a b → OwnsEach is_held b
owns_each kept is_held a b slots own left s is =
    let some = (slots s).0 is in let most = own s in let same = left.owns s in
    omega (arith, some, most, same)

module _ (tallies : Tallies) (records : List WordRecord) (w : Bor (List ℕ)) (n : ℕ)
    (left rest : List (Bor (List ℕ) × ℕ)) (is : left ≡ (w, n) ∷ rest)
    (words : SumsUp tallies (sums_in records ++ shown_entries left)) where
  -- the next word was counted
  pub next_counted : 0 < counted_in tallies w.now
  next_counted =
      (words.words.counted w.now).0
      (subst (λ (ks : List (List ℕ)). Contains ks w.now)
      (sym (map-append (λ (e : List ℕ × ℕ). e.0) (sums_in records) (shown_entries left)))
      (Contains-append_right (keys_of (sums_in records)) (keys_of (shown_entries left)) w.now
      (subst (λ (es : List (Bor (List ℕ) × ℕ)). Contains (keys_of (shown_entries es)) w.now) (sym is)
      (Contains-first w.now (keys_of (shown_entries rest))))))

  pub words_more : (more : List WordRecord) (s : SlotId)
      → more ≡ records ++ record { word = w; occurrences = n; slot = s } ∷ []
      → SumsUp tallies (sums_in more ++ shown_entries rest)
  words_more more s pushed =
      let one : WordRecord = record { word = w; occurrences = n; slot = s } in
      subst (SumsUp tallies)
      (sym (ap (λ (rs : List WordRecord). sums_in rs ++ shown_entries rest) pushed
      ∙ ap (λ (es : List (List ℕ × ℕ)). es ++ shown_entries rest)
      (map-append (λ (r : WordRecord). (r.word.now, r.occurrences)) records (one ∷ []))
      ∙ append_assoc (sums_in records) ((w.now, n) ∷ []) (shown_entries rest)
      ∙ ap (λ (es : List (Bor (List ℕ) × ℕ)). sums_in records ++ shown_entries es) (sym is)))
      words

module _ (kept : List SlotId) (a b : SeatState View)
    (left : Leaves a.view.core.owned a.view.core.weaks a b)
    (learns : LearnsIn texts with_texts 0 a.view.client b.view.client)
    (own : (s : SlotId) → 0 < times s kept → 0 < times s a.view.core.owned) where
  -- what the view tells of a record it tells after calls by which the seat learns
  record_on : (r : WordRecord) → IsRecordOf kept a r → IsRecordOf kept b r
  record_on r is =
      let some = own r.slot is.held in
      let same = left.owns r.slot in
      let life = ap (λ (o : Object). o.life)
      (left.knows r.slot (omega (arith, some)) (omega (arith, some, same))) in
      let more = (learns_more a.view.client.1 b.view.client.1 learns.part).knows in record {
        held = is.held;
        tells = subst (λ n. TellsWord b.view.client.1 r.word.now r.slot n) (sym life) (
          is.tells.0,
          is.tells.1,
          knows_more a.view.client.1 b.view.client.1 more
              (record { slot = r.slot.0; life = lives_in a r.slot; payload = [] })
              is.tells.0 is.tells.2,
        );
      }

  pub records_more : (records more : List WordRecord) (r : WordRecord)
      → more ≡ records ++ r ∷ [] → All (IsRecordOf kept a) records → IsRecordOf kept b r
      → All (IsRecordOf kept b) more
  records_more records more r pushed so one =
      subst (All (IsRecordOf kept b)) (sym pushed)
      (All-push (IsRecordOf kept b) records r (λ k x h. record_on _ (so k x h)) one)
