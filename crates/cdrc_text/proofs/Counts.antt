-- Counts of words as a list of entries: what a map's change of one word does to them.
use Rattle.std.proofs.Common.{◌≡◌, ℕ, ◌+◌, ◌≤◌, Bool, true, false, cond, List, [], ◌∷◌, Option, Some, None, Vec, Global, refl, sym, ap, ◌∙◌, arith, if◌then◌else◌}
use Rattle.std.proofs.lemmas.Bool.{cond-true, cond-false}
use Rattle.std.proofs.lemmas.List.Sums.{sum_by-cons}
use Rattle.std.proofs.lemmas.Map.Entries.{sum_by-set_value, sum_by_values_permutation}
use Rattle.std.proofs.lemmas.Map.Steps.{lookup-le-sum}
use Rattle.std.specs.Cmp.Lexicographic.{bytes_decides, nat_list_eq_equiv}
use Rattle.std.specs.List.{sum}
use Rattle.std.specs.List.Sorted.{IsPermutation}
use Rattle.std.specs.Map.{values_of, lookup, set_value, KeepsOthers, IsKeyTest, AreApart}
use Rattle.std.specs.Option.{unwrap_or}
use Rattle.std.specs.Str.{bytes_eq}
use Rattle.cdrc_text.specs.Tally.{count_of, total_of, CountsOneMore, entries_of}

-- the test by which a map looks the word w up, and that by which it compares its words
abbrev pub is_word : List ℕ → Vec ℕ Global → Bool
is_word w k = bytes_eq w k.items

abbrev pub same_bytes : Vec ℕ Global → Vec ℕ Global → Bool
same_bytes x y = bytes_eq x.items y.items

pub lookup-entries_of : (w : List ℕ) (es : List (Vec ℕ Global × ℕ)) → lookup (bytes_eq w) (entries_of es) ≡ lookup (is_word w) es
lookup-entries_of w [] = refl
lookup-entries_of w (e ∷ es) = ap (cond (bytes_eq w e.0.items) (Some e.1)) (lookup-entries_of w es)

pub count_of-is : (w : List ℕ) (es : List (Vec ℕ Global × ℕ)) → count_of (entries_of es) w ≡ unwrap_or (lookup (is_word w) es) 0
unfolding count_of
count_of-is w es = ap (λ o. unwrap_or o 0) (lookup-entries_of w es)

pub values-entries_of : (es : List (Vec ℕ Global × ℕ)) → values_of (entries_of es) ≡ values_of es
values-entries_of [] = refl
values-entries_of (e ∷ es) = ap (λ vs. e.1 ∷ vs) (values-entries_of es)

pub total_of-is : (es : List (Vec ℕ Global × ℕ)) → total_of (entries_of es) ≡ sum (values_of es)
unfolding total_of
total_of-is es = ap sum (values-entries_of es)

-- a word that is looked up by w is looked up by the words that are equal to it
is_word-IsKeyTest : (w : List ℕ) → IsKeyTest same_bytes (is_word w)
is_word-IsKeyTest w x y is = ap (λ v. bytes_eq v y.items) ((bytes_decides w x.items).0 is)

-- a map that has x at the word p, and at other words what it had
pub lookup-updated : (p : List ℕ) (x : Option ℕ) (old new : List (Vec ℕ Global × ℕ)) → lookup (is_word p) new ≡ x
    → KeepsOthers same_bytes (is_word p) old new → (w : List ℕ) → lookup (is_word w) new ≡ cond (bytes_eq p w) x (lookup (is_word w) old)
unfolding KeepsOthers
lookup-updated p x old new at others w = by_test (bytes_eq p w) refl
  where
    by_test : (b : Bool) → bytes_eq p w ≡ b → lookup (is_word w) new ≡ cond (bytes_eq p w) x (lookup (is_word w) old)
    by_test true is =
        ap (λ v. lookup (is_word v) new) (sym ((bytes_decides p w).0 is)) ∙ at ∙ sym (cond-true _ _ _ is)
    by_test false is =
        let apart : AreApart (is_word p) (is_word w)
        = λ k same. ap (bytes_eq w) (sym ((bytes_decides p k.items).0 same)) ∙ nat_list_eq_equiv.symm w p ∙ is in
        others (is_word w) (is_word-IsKeyTest w) apart ∙ sym (cond-false _ _ _ is)

-- the counts after the word p is at one more
pub counts-one_more : (p : List ℕ) (n : ℕ) (old new : List (Vec ℕ Global × ℕ)) → unwrap_or (lookup (is_word p) old) 0 ≡ n
    → ((w : List ℕ) → lookup (is_word w) new ≡ cond (bytes_eq p w) (Some (n + 1)) (lookup (is_word w) old))
    → (v : List ℕ) → count_of (entries_of new) v ≡ count_of (entries_of old) v + (if bytes_eq v p then 1 else 0)
counts-one_more p n old new had updated v =
    count_of-is v new ∙ ap (λ o. unwrap_or o 0) (updated v) ∙ by_test (bytes_eq p v) refl
    ∙ ap (λ k. k + (if bytes_eq p v then 1 else 0)) (sym (count_of-is v old))
    ∙ ap (λ b. count_of (entries_of old) v + (if b then 1 else 0)) (nat_list_eq_equiv.symm p v)
  where
    by_test : (b : Bool) → bytes_eq p v ≡ b
        → unwrap_or (cond (bytes_eq p v) (Some (n + 1)) (lookup (is_word v) old)) 0 ≡ unwrap_or (lookup (is_word v) old) 0 + (if bytes_eq p v then 1 else 0)
    by_test true is =
        let same = ap (λ w. unwrap_or (lookup (is_word w) old) 0) ((bytes_decides p v).0 is) in
        rw is (omega (arith, same, had))
    by_test false is = rw is (omega arith)

pub count-le-total : (p : List ℕ) (n : ℕ) (es : List (Vec ℕ Global × ℕ)) → lookup (is_word p) es ≡ Some n → n ≤ total_of (entries_of es)
count-le-total p n es found = omega (arith, lookup-le-sum (is_word p) es, ap (λ o. unwrap_or o 0) found, total_of-is es)

-- where a word that was there, or a new one, counts one more, so does the total
pub total-old : (p : List ℕ) (n : ℕ) (old new : List (Vec ℕ Global × ℕ)) → lookup (is_word p) old ≡ Some n
    → new ≡ set_value (is_word p) old (n + 1) → total_of (entries_of new) ≡ total_of (entries_of old) + 1
total-old p n old new found written =
    let total = sum_by-set_value (λ (x : ℕ). x) (is_word p) old n (n + 1) found in
    let same = ap (λ es. sum (values_of es)) written in
    omega (arith, total, same, total_of-is old, total_of-is new)

pub total-new : (k : Vec ℕ Global) (old new : List (Vec ℕ Global × ℕ)) → IsPermutation ((k, 1) ∷ old) new
    → total_of (entries_of new) ≡ total_of (entries_of old) + 1
total-new k old new placed =
    let total = sum_by_values_permutation (λ (x : ℕ). x) ((k, 1) ∷ old) new placed in
    omega (arith, total, sum_by-cons (λ (x : ℕ). x) 1 (values_of old), total_of-is old, total_of-is new)

-- a word that was there counts one more
pub one_more-old : (p : List ℕ) (n : ℕ) (old new : List (Vec ℕ Global × ℕ)) → lookup (is_word p) old ≡ Some n
    → new ≡ set_value (is_word p) old (n + 1) → lookup (is_word p) new ≡ Some (n + 1) → KeepsOthers same_bytes (is_word p) old new
    → CountsOneMore (entries_of old) (entries_of new) p
one_more-old p n old new found written at others =
    record {
      counts = counts-one_more p n old new (ap (λ o. unwrap_or o 0) found) (lookup-updated p (Some (n + 1)) old new at others);
      total = total-old p n old new found written;
    }

-- a new word counts one
pub one_more-new : (p : List ℕ) (k : Vec ℕ Global) (old new : List (Vec ℕ Global × ℕ)) → lookup (is_word p) old ≡ None
    → IsPermutation ((k, 1) ∷ old) new → lookup (is_word p) new ≡ Some 1 → KeepsOthers same_bytes (is_word p) old new
    → CountsOneMore (entries_of old) (entries_of new) p
one_more-new p k old new absent placed at others =
    record {
      counts = counts-one_more p 0 old new (ap (λ o. unwrap_or o 0) absent) (lookup-updated p (Some 1) old new at others);
      total = total-new k old new placed;
    }
