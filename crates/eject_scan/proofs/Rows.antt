-- Rows of noted words: one word more, and where a word stands.
use Rattle.std.proofs.Common.{◌≡◌, ◌≢◌, ℕ, zero, suc, ◌+◌, ◌<◌, ◌≤◌, true, false, Bool, List, [], ◌∷◌, length, get_or, refl, ap, arith}
use Rattle.std.specs.Prelude.{if◌then◌else◌, ◌==◌, slice_set}
use Rattle.std.specs.List.{insert}
use Rattle.std.proofs.Math.Dec.{leb}
use Rattle.std.proofs.lemmas.Bool.Decides.{nat_tests}
use Rattle.std.proofs.lemmas.List.Sums.{sum_by-cons}
use Rattle.eject_scan.specs.Rows.{IsGap, StandsAt, word_at}
use Rattle.eject_scan.specs.declared.seen.Row.{Row}
use Rattle.eject_scan.specs.Seen.{IsAscending, note_in, times_noted, total}

abbrev pub no_row : Row
no_row = record { word = 0; times = 0 }

abbrev pub first_times : ℕ → Row → ℕ
first_times w r = if r.word == w then r.times else 0

times_cons : (w : ℕ) (r : Row) (rs : List Row)
    → times_noted w (r ∷ rs) ≡ first_times w r + times_noted w rs
times_cons w r rs = sum_by-cons (first_times w) r rs

total_cons : (r : Row) (rs : List Row) → total (r ∷ rs) ≡ r.times + total rs
total_cons r rs = sum_by-cons (λ (x : Row). x.times) r rs

first_is : (w : ℕ) (r : Row) → r.word ≡ w → first_times w r ≡ r.times
first_is w r e = let yes : (r.word == w) ≡ true = grind (arith, nat_tests) in rw yes refl

first_not : (w : ℕ) (r : Row) → r.word ≢ w → first_times w r ≡ 0
first_not w r ne = let no : (r.word == w) ≡ false = grind (arith, nat_tests) in rw no refl

-- the cases of a word that is noted before a row
noting : (P : List Row → Type 0) (x : ℕ) (r : Row) (rs : List Row)
    → (x ≡ r.word → P (record r { times = r.times + 1 } ∷ rs))
    → (x < r.word → P (record { word = x; times = 1 } ∷ r ∷ rs))
    → (r.word < x → P (r ∷ note_in x rs)) → P (note_in x (r ∷ rs))
unfolding note_in
noting P x r rs same low high = go (x == r.word) refl (leb x r.word) refl
  where
    go : (b : Bool) → (x == r.word) ≡ b → (c : Bool) → leb x r.word ≡ c
        → P (if b then record r { times = r.times + 1 } ∷ rs
        else if c then record { word = x; times = 1 } ∷ r ∷ rs else r ∷ note_in x rs)
    go true is c is2 = same (grind (arith, nat_tests))
    go false is true is2 = low (grind (arith, nat_tests))
    go false is false is2 = high (grind (arith, nat_tests))

-- ONE WORD MORE
pub times_note : (w x : ℕ) (rows : List Row)
    → times_noted w (note_in x rows) ≡ times_noted w rows + (if x == w then 1 else 0)
unfolding note_in
times_note w x [] =
    let only : times_noted w (record { word = x; times = 1 } ∷ [])
    ≡ times_noted w [] + (if x == w then 1 else 0) =
    let c = times_cons w (record { word = x; times = 1 }) [] in
    let none : times_noted w [] ≡ 0 = refl in omega arith in only
times_note w x (r ∷ rs) = noting
    (λ l. times_noted w l ≡ times_noted w (r ∷ rs) + (if x == w then 1 else 0)) x r rs
    (λ same.
    let c = times_cons w (record r { times = r.times + 1 }) rs in
    let d = times_cons w r rs in
    let e = of (r.word == w) refl same in omega arith)
    (λ low.
    let c = times_cons w (record { word = x; times = 1 }) (r ∷ rs) in omega arith)
    (λ high.
    let c = times_cons w r (note_in x rs) in
    let d = times_cons w r rs in
    let ih = times_note w x rs in omega arith)
  where
    of : (b : Bool) → (r.word == w) ≡ b → x ≡ r.word
        → first_times w (record r { times = r.times + 1 })
        ≡ first_times w r + (if x == w then 1 else 0)
    of true is e = let also : (x == w) ≡ true = grind (arith, nat_tests) in rw is (rw also refl)
    of false is e = let also : (x == w) ≡ false = grind (arith, nat_tests) in rw is (rw also refl)

pub total_note : (x : ℕ) (rows : List Row) → total (note_in x rows) ≡ total rows + 1
unfolding note_in
total_note x [] = refl
total_note x (r ∷ rs) = noting (λ l. total l ≡ total (r ∷ rs) + 1) x r rs
    (λ same.
    let c = total_cons (record r { times = r.times + 1 }) rs in
    let d = total_cons r rs in omega arith)
    (λ low. let c = total_cons (record { word = x; times = 1 }) (r ∷ rs) in omega arith)
    (λ high.
    let c = total_cons r (note_in x rs) in
    let d = total_cons r rs in
    let ih = total_note x rs in omega arith)

pub ascending_note : (below x : ℕ) (rows : List Row) → below < x → IsAscending below rows
    → IsAscending below (note_in x rows)
unfolding note_in
ascending_note below x [] less is = (less, tt)
ascending_note below x (r ∷ rs) less is = noting (IsAscending below) x r rs (λ same. is)
    (λ low. (less, (low, is.1))) (λ high. (is.0, ascending_note r.word x rs high is.1))

-- WHERE A WORD STANDS
pub above : (below : ℕ) (rows : List Row) (k : ℕ) → IsAscending below rows → k < length rows
    → below < word_at rows k
above below [] k is lt = absurd (omega (arith, lt))
above below (r ∷ rs) zero is lt = is.0
above below (r ∷ rs) (suc k) is lt =
    let first = is.0 in let next = above r.word rs k is.1 (omega arith) in omega arith

pub rising : (below : ℕ) (rows : List Row) (i j : ℕ) → IsAscending below rows → i ≤ j
    → j < length rows → word_at rows i ≤ word_at rows j
rising below [] i j is le lt = absurd (omega (arith, lt))
rising below (r ∷ rs) zero zero is le lt = omega arith
rising below (r ∷ rs) zero (suc j) is le lt =
    let next = above r.word rs j is.1 (omega arith) in omega arith
rising below (r ∷ rs) (suc i) zero is le lt = absurd (omega arith)
rising below (r ∷ rs) (suc i) (suc j) is le lt = rising r.word rs i j is.1 (omega arith) (omega arith)

-- a word that no row has was not noted
pub times_none : (w : ℕ) (rows : List Row) → ((k : ℕ) → k < length rows → word_at rows k ≢ w)
    → times_noted w rows ≡ 0
times_none w [] none = refl
times_none w (r ∷ rs) none =
    let first = first_not w r (none zero (omega arith)) in
    let rest = times_none w rs (λ k lt. none (suc k) (omega arith)) in
    let c = times_cons w r rs in omega arith

-- and one that a row has was noted as often as the row tells
pub times_at : (below w : ℕ) (rows : List Row) (i : ℕ) → IsAscending below rows → i < length rows
    → word_at rows i ≡ w → times_noted w rows ≡ (get_or rows i no_row).times
times_at below w [] i is lt at = absurd (omega (arith, lt))
times_at below w (r ∷ rs) zero is lt at =
    let rest = times_none w rs (λ k l e. let a = above r.word rs k is.1 l in absurd (omega arith)) in
    let first = first_is w r at in
    let c = times_cons w r rs in omega arith
times_at below w (r ∷ rs) (suc i) is lt at =
    let a = above r.word rs i is.1 (omega arith) in
    let first = first_not w r (λ e. absurd (omega arith)) in
    let rest = times_at r.word w rs i is.1 (omega arith) at in
    let c = times_cons w r rs in omega arith

-- no row tells more than was noted
pub row_few : (rows : List Row) (i : ℕ) → (get_or rows i no_row).times ≤ total rows
row_few [] i = omega arith
row_few (r ∷ rs) zero = let c = total_cons r rs in omega arith
row_few (r ∷ rs) (suc i) = let c = total_cons r rs in let ih = row_few rs i in omega arith

-- THE ROWS AFTERWARDS
pub found : (w : ℕ) (rows : List Row) (i : ℕ) → StandsAt w rows i
    → note_in w rows
    ≡ slice_set rows i (record { word = w; times = (get_or rows i no_row).times + 1 })
unfolding note_in
found w [] i at = absurd (omega (arith, at.within))
found w (r ∷ rs) zero at = noting (λ l. l ≡ record { word = w; times = r.times + 1 } ∷ rs) w r rs
    (λ same. ap (λ z. record { word = z; times = r.times + 1 } ∷ rs) at.here)
    (λ low. let h = at.here in absurd (omega arith))
    (λ high. let h = at.here in absurd (omega arith))
found w (r ∷ rs) (suc i) at =
    let first = at.before zero (omega arith) in
    let rest : StandsAt w rs i = record {
      within = let le = at.within in omega arith;
      here = at.here;
      before = λ k lt. at.before (suc k) (omega arith);
    } in
    noting (λ l. l ≡ slice_set (r ∷ rs) (suc i)
    (record { word = w; times = (get_or rs i no_row).times + 1 })) w r rs
    (λ same. absurd (omega arith)) (λ low. absurd (omega arith))
    (λ high. ap (λ l. r ∷ l) (found w rs i rest))

pub missing : (w : ℕ) (rows : List Row) (i : ℕ) → IsGap w rows i
    → note_in w rows ≡ insert rows i (record { word = w; times = 1 })
unfolding note_in
missing w [] zero gap = refl
missing w [] (suc i) gap = let le = gap.within in absurd (omega arith)
missing w (r ∷ rs) zero gap =
    let first = gap.behind zero (omega arith) (omega arith) in
    noting (λ l. l ≡ insert (r ∷ rs) zero (record { word = w; times = 1 })) w r rs
    (λ same. absurd (omega arith)) (λ low. refl) (λ high. absurd (omega arith))
missing w (r ∷ rs) (suc i) gap =
    let first = gap.before zero (omega arith) in
    let rest : IsGap w rs i = record {
      within = let le = gap.within in omega arith;
      before = λ k lt. gap.before (suc k) (omega arith);
      behind = λ k le lt. gap.behind (suc k) (omega arith) (omega arith);
    } in
    noting (λ l. l ≡ insert (r ∷ rs) (suc i) (record { word = w; times = 1 })) w r rs
    (λ same. absurd (omega arith)) (λ low. absurd (omega arith))
    (λ high. ap (λ l. r ∷ l) (missing w rs i rest))
