-- A search by halves finds where a word stands, or would.
use Rattle.std.proofs.Common.{◌≡◌, ◌≢◌, ℕ, suc, zero, ◌<◌, ◌≤◌, true, false, List, [], ◌∷◌, length, get_or, refl, ap, sym, ◌+◌, ◌∙◌, ⊎_elim, arith}
use Rattle.std.proofs.Math.Dec.{ltb}
use Rattle.std.proofs.lemmas.Bool.{cases_lt, ltb-true}
use Rattle.std.specs.Prelude.{slice_set}
use Rattle.std.proofs.lemmas.Bool.Decides.{nat_tests}
use Rattle.std.specs.List.Sorted.{IsNonDecreasingBy, IsPartitionPoint}
use Rattle.eject_scan.specs.Rows.{IsGap, StandsAt, word_at}
use Rattle.eject_scan.specs.declared.seen.Row.{Row}
use Rattle.eject_scan.specs.Seen.{IsAscending, note_in, times_noted}
use Rattle.eject_scan.proofs.Rows.{found, no_row, rising, times_at, times_none}

-- within a list it doesn't matter what stands for the rows behind it
pub any_row : (rows : List Row) (i : ℕ) (d e : Row) → i < length rows
    → get_or rows i d ≡ get_or rows i e
any_row [] i d e lt = absurd (omega (arith, lt))
any_row (r ∷ rs) zero d e lt = refl
any_row (r ∷ rs) (suc i) d e lt = any_row rs i d e (omega arith)

pub words_rise : (rows : List Row) → IsAscending 0 rows → IsNonDecreasingBy (λ r. r.word) rows
words_rise rows is i j d le lt =
    let low : i < length rows = omega arith in
    let first = ap (λ (r : Row). r.word) (any_row rows i d no_row low) in
    let second = ap (λ (r : Row). r.word) (any_row rows j d no_row lt) in
    let rise = rising 0 rows i j is le lt in omega arith

abbrev IsPoint : ℕ → List Row → ℕ → Type 0
IsPoint w rows i =
    IsPartitionPoint (λ r. ltb r.word w ≡ true) (λ r. ltb r.word w ≡ false) rows i

pub stands : (w : ℕ) (rows : List Row) (i : ℕ) → IsPoint w rows i → i < length rows
    → word_at rows i ≡ w → StandsAt w rows i
stands w rows i point lt here = record {
  within = lt;
  here = here;
  before = λ k l. ltb-true (word_at rows k) w (point.0 k no_row (omega arith) l);
}

pub lacks : (w : ℕ) (rows : List Row) (i : ℕ) → IsAscending 0 rows → IsPoint w rows i
    → i ≤ length rows → (i < length rows → word_at rows i ≢ w) → IsGap w rows i
lacks w rows i is point le none = record {
  within = le;
  before = λ k l. ltb-true (word_at rows k) w (point.0 k no_row (omega arith) l);
  behind = λ k low lt.
      let here = point.1 i no_row (omega arith) (omega arith) in
      let other = none (omega arith) in
      let rise = rising 0 rows i k is low lt in grind (arith, nat_tests);
}

-- the row that is there has one more
pub counts_here : (w : ℕ) (rows : List Row) (i : ℕ) (row : Row) → StandsAt w rows i
    → row ≡ get_or rows i row
    → slice_set rows i (record row { times = row.times + 1 }) ≡ note_in w rows
counts_here w rows i row at is =
    let here : row ≡ get_or rows i no_row = is ∙ any_row rows i row no_row at.within in
    ap (λ (r : Row). slice_set rows i (record r { times = r.times + 1 })) here
    ∙ (ap (λ v. slice_set rows i (record { word = v; times = (get_or rows i no_row).times + 1 }))
    at.here ∙ sym (found w rows i at))

-- and tells how often the word was noted
pub tells_here : (w : ℕ) (rows : List Row) (i : ℕ) (row : Row) → IsAscending 0 rows
    → StandsAt w rows i → row ≡ get_or rows i row → row.times ≡ times_noted w rows
tells_here w rows i row is at here =
    ap (λ (r : Row). r.times) (here ∙ any_row rows i row no_row at.within)
    ∙ sym (times_at 0 w rows i is at.within at.here)

pub tells_none : (w : ℕ) (rows : List Row) (i : ℕ) → IsGap w rows i → 0 ≡ times_noted w rows
tells_none w rows i gap = sym (times_none w rows (λ k lt e. ⊎_elim
    (λ low. let b = gap.before k low in absurd (omega arith))
    (λ high. let b = gap.behind k high lt in absurd (omega arith)) (cases_lt k i)))
