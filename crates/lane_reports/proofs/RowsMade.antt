-- The rows so far, and one more.
use Rattle.std.proofs.Common.{◌≡◌, false, List, [], ◌∷◌, ◌++◌, length, refl, ap, sym, subst, ◌∙◌, append_assoc, arith}
use Rattle.std.specs.List.{All}
use Rattle.std.proofs.lemmas.List.{length-map, map_push}
use Rattle.std.proofs.lemmas.List.Elements.{All-head, All-tail}
use Rattle.law_lesson.specs.plain_state.declared.slot.SlotId.{SlotId}
use Rattle.law_lesson.specs.plain_state.State.{Plain}
use Rattle.tally_sums.specs.cdrc_text.declared.row.Row.{Row}
use Rattle.domain_audit.specs.core_events.declared.view.CoreView.{CoreView}
use Rattle.domain_audit.specs.core_events.declared.view.Move.{Move}
use Rattle.domain_audit.specs.control_word.Calls.{counted_by}
use Rattle.lane_reports.specs.declared.records.WordRecord.{WordRecord}
use Rattle.lane_reports.specs.HolderCounts.{counts_of}
use Rattle.lane_reports.specs.Rows.{AreRowsOf, IsRowOf, slots_in}

pub rows_push : (p : Plain) (rs : List WordRecord) (rows : List Row) (r : WordRecord) (row : Row)
    → AreRowsOf p rs rows → IsRowOf p r row → AreRowsOf p (rs ++ r ∷ []) (rows ++ row ∷ [])
rows_push p [] [] r row all it = (it, tt)
rows_push p [] (x ∷ rows) r row all it = absurd all
rows_push p (y ∷ rs) [] r row all it = absurd all
rows_push p (y ∷ rs) (x ∷ rows) r row all it = (all.0, rows_push p rs rows r row all.1 it)

-- THE COUNTS so far, and one more
counts_push : (ss : List SlotId) (rows : List Row) (s : SlotId) (row : Row)
    → length ss ≡ length rows
    → counts_of (ss ++ s ∷ []) (rows ++ row ∷ [])
    ≡ counts_of ss rows ++ counted_by s row.holders false
counts_push [] [] s row same = refl
counts_push [] (x ∷ rows) s row same = absurd (omega (arith, same))
counts_push (t ∷ ss) [] s row same = absurd (omega (arith, same))
counts_push (t ∷ ss) (x ∷ rows) s row same =
    ap (λ (ms : List Move). counted_by t x.holders false ++ ms)
    (counts_push ss rows s row (omega (arith, same)))
    ∙ sym (append_assoc (counted_by t x.holders false) (counts_of ss rows)
    (counted_by s row.holders false))

pub counts_more : (start old new : CoreView) (rs : List WordRecord) (rows more : List Row)
    (r : WordRecord) (row : Row) → length rs ≡ length rows
    → old.trail ≡ start.trail ++ counts_of (slots_in rs) rows
    → new.trail ≡ old.trail ++ counted_by r.slot row.holders false → more ≡ rows ++ row ∷ []
    → new.trail ≡ start.trail ++ counts_of (slots_in (rs ++ r ∷ [])) more
counts_more start old new rs rows more r row same before step is =
    step ∙ ap (λ (ms : List Move). ms ++ counted_by r.slot row.holders false) before
    ∙ append_assoc start.trail (counts_of (slots_in rs) rows) (counted_by r.slot row.holders false)
    ∙ ap (λ (ms : List Move). start.trail ++ ms)
    (sym (counts_push (slots_in rs) rows r.slot row
    (length-map rs (λ (x : WordRecord). x.slot) ∙ same))
    ∙ (λ i. counts_of (sym (map_push (λ (x : WordRecord). x.slot) rs r) i) (sym is i)))

-- what is so of all is so of the next one
after_front : {A : Type 0} (P : A → Type 0) (front rest : List A) (x : A)
    → All P (front ++ x ∷ rest) → P x
after_front P [] rest x so = All-head P x rest so
after_front P (y ∷ front) rest x so =
    after_front P front rest x (All-tail P y (front ++ x ∷ rest) so)

pub next_so : {A : Type 0} (P : A → Type 0) (all front left rest : List A) (x : A) → All P all
    → front ++ left ≡ all → left ≡ x ∷ rest → P x
next_so P all front left rest x so is first =
    after_front P front rest x (subst (All P) (sym is ∙ ap (λ l. front ++ l) first) so)
