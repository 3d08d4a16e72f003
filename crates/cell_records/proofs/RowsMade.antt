-- The rows so far, and one more.
use Rattle.std.proofs.Common.{◌≡◌, List, [], ◌∷◌, ◌++◌, ap, sym, subst, ◌∙◌}
use Rattle.std.specs.List.{All}
use Rattle.std.proofs.lemmas.List.Elements.{All-head, All-tail}
use Rattle.cell_rest.specs.plain_audit.plain_state.declared.image.Heap.{Heap}
use Rattle.tally_sums.specs.cdrc_text.declared.row.Row.{Row}
use Rattle.cell_records.specs.Rows.{AreRowsOf, IsRowOf}
use Rattle.cell_records.specs.declared.records.WordRecord.{WordRecord}

pub rows_push : (image : Heap) (rs : List WordRecord) (rows : List Row) (r : WordRecord) (row : Row)
    → AreRowsOf image rs rows → IsRowOf image r row
    → AreRowsOf image (rs ++ r ∷ []) (rows ++ row ∷ [])
rows_push image [] [] r row all it = (it, tt)
rows_push image [] (x ∷ rows) r row all it = absurd all
rows_push image (y ∷ rs) [] r row all it = absurd all
rows_push image (y ∷ rs) (x ∷ rows) r row all it =
    (all.0, rows_push image rs rows r row all.1 it)

-- what is so of all is so of the next one
after_front : {A : Type 0} (P : A → Type 0) (front rest : List A) (x : A)
    → All P (front ++ x ∷ rest) → P x
after_front P [] rest x so = All-head P x rest so
after_front P (y ∷ front) rest x so =
    after_front P front rest x (All-tail P y (front ++ x ∷ rest) so)

pub next_so : {A : Type 0} (P : A → Type 0) (all front left rest : List A) (x : A) → All P all
    → front ++ left ≡ all → left ≡ x ∷ rest → P x
next_so P all front left rest x so is first =
    after_front P front rest x (subst (All P) (sym is ∙ ap (λ l. front ++ l) first) so)
