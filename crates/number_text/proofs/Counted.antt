-- Rows that tell each number as often as it occurs have the distinct numbers, each with its count.
use Rattle.std.proofs.Common.{◌≡◌, ℕ, ◌<◌, ◌==◌, Bool, true, false, inl, inr, List, [], ◌∷◌, ◌++◌, refl, sym, ap, ◌∙◌, arith}
use Rattle.std.proofs.lemmas.Bool.{cond-false, cond-true, eq-eqb, eqb-true, ne_eqb}
use Rattle.std.proofs.lemmas.List.Elements.{All-head, All-tail}
use Rattle.std.proofs.lemmas.Map.Keys.{sorted_from_strictly_increasing, sorted_tail}
use Rattle.std.specs.List.{All, Contains, flat_map}
use Rattle.std.specs.Ordering.{nat_cmp}
use Rattle.number_text.proofs.Unique.{Rises, below-later, contains-cases, contains-first, contains-later, contains-none}
use Rattle.number_text.specs.Counts.{AreDistinct, TellCounts, count_for, numbers_in, occurrences_in}
use Rattle.number_text.specs.declared.row.CountOf.{CountOf}
use Rattle.number_text.specs.Report.{count_line, row_line}

-- ---- one row more

count_for-here : (row : CountOf) (rows : List CountOf) (n : ℕ) → row.number ≡ n → count_for n (row ∷ rows) ≡ row.count
unfolding count_for
count_for-here row rows n is = cond-true (row.number == n) row.count (count_for n rows) (eq-eqb row.number n is)

count_for-later : (row : CountOf) (rows : List CountOf) (n : ℕ) → (row.number ≡ n → ⊥) → count_for n (row ∷ rows) ≡ count_for n rows
unfolding count_for
count_for-later row rows n other = cond-false (row.number == n) row.count (count_for n rows) (ne_eqb row.number n other)

count_for-none : (n : ℕ) → count_for n [] ≡ 0
unfolding count_for
count_for-none n = refl

-- ---- a number has a row exactly where its count is above 0

abbrev pub IsSome : CountOf → Type 0
IsSome row = 0 < row.count

count-above : (rows : List CountOf) (n : ℕ) → All IsSome rows → Contains (numbers_in rows) n → 0 < count_for n rows
count-above [] n positive has = absurd (contains-none n has)
count-above (row ∷ rows) n positive has =
    let rest = λ (later : Contains (numbers_in rows) n). count-above rows n (All-tail IsSome row rows positive) later in
    by_test (row.number == n) refl rest
  where
    by_test : (b : Bool) → (row.number == n) ≡ b → (Contains (numbers_in rows) n → 0 < count_for n rows) → 0 < count_for n (row ∷ rows)
    by_test true is rest =
        omega (arith, count_for-here row rows n (eqb-true row.number n is), All-head IsSome row rows positive)
    by_test false is rest =
        let other : row.number ≡ n → ⊥ = λ same. let both = sym (eq-eqb row.number n same) ∙ is in cc in
        elim (contains-cases row.number (numbers_in rows) n has) [
          | inl same ↦ absurd (other same)
          | inr later ↦ omega (arith, count_for-later row rows n other, rest later)
        ]

listed-above : (rows : List CountOf) (n : ℕ) → 0 < count_for n rows → Contains (numbers_in rows) n
listed-above [] n above = absurd (omega (arith, above, count_for-none n))
listed-above (row ∷ rows) n above = by_test (row.number == n) refl (λ later. listed-above rows n later)
  where
    by_test : (b : Bool) → (row.number == n) ≡ b → (0 < count_for n rows → Contains (numbers_in rows) n) → Contains (numbers_in (row ∷ rows)) n
    by_test true is rest = rw (sym (eqb-true row.number n is)) (contains-first row.number (numbers_in rows))
    by_test false is rest =
        let other : row.number ≡ n → ⊥ = λ same. let both = sym (eq-eqb row.number n same) ∙ is in cc in
        contains-later row.number (numbers_in rows) n (rest (omega (arith, above, count_for-later row rows n other)))

pub distinct-told : (files : List (List ℕ)) (rows : List CountOf) → TellCounts files rows → AreDistinct files (numbers_in rows)
distinct-told files rows tells = record {
  ascending = tells.ascending;
  occurring = λ n. (
    (λ has. omega (arith, count-above rows n tells.positive has, tells.counts n)),
    (λ occurs. listed-above rows n (omega (arith, occurs, tells.counts n))),
  );
}

-- ---- the lines of the rows are those of the numbers

lines-rows : (f : ℕ → ℕ) (rows : List CountOf) → Rises (numbers_in rows) → ((n : ℕ) → Contains (numbers_in rows) n → count_for n rows ≡ f n)
    → flat_map row_line rows ≡ flat_map (λ n. count_line (f n) n) (numbers_in rows)
lines-rows f [] rises counts = refl
lines-rows f (row ∷ rows) rises counts =
    let others = numbers_in rows in
    let first : row.count ≡ f row.number
    = sym (count_for-here row rows row.number refl) ∙ counts row.number (contains-first row.number others) in
    let line = ap (λ n. count_line n row.number) first in
    let rest = lines-rows f rows (sorted_tail nat_cmp row.number others rises) (λ n has.
    let other : row.number ≡ n → ⊥ = λ same. omega (arith, below-later row.number others n rises has, same) in
    sym (count_for-later row rows n other) ∙ counts n (contains-later row.number others n has)) in
    ap (λ bytes. bytes ++ flat_map row_line rows) line ∙ ap (λ bytes. count_line (f row.number) row.number ++ bytes) rest

pub lines-told : (files : List (List ℕ)) (rows : List CountOf) → TellCounts files rows
    → flat_map row_line rows ≡ flat_map (λ n. count_line (occurrences_in n files) n) (numbers_in rows)
lines-told files rows tells =
    lines-rows (λ n. occurrences_in n files) rows (sorted_from_strictly_increasing (numbers_in rows) tells.ascending) (λ n has. tells.counts n)
