-- The entries of a map, sorted: the words ascend, and each keeps its count.
use Rattle.std.proofs.Common.{◌≡◌, ℕ, ◌+◌, ◌<◌, Bool, true, false, cond, List, [], ◌∷◌, ◌++◌, Vec, Global, length, get_or, refl, sym, ap, subst, ◌∙◌, arith}
use Rattle.std.proofs.lemmas.Bool.{cond-true, cond-false}
use Rattle.std.proofs.lemmas.Cmp.{nat_list_cmp_total}
use Rattle.std.proofs.lemmas.List.{append_assoc, get_or-map, length-map, map-append}
use Rattle.std.proofs.lemmas.List.Sorted.{IsPermutation-map, sum_by-IsPermutation}
use Rattle.std.proofs.lemmas.List.Sums.{sum_by-cons}
use Rattle.std.proofs.lemmas.Map.Keys.{IsDistinct-IsPermutation, IsDistinct-head, IsDistinct-tail, apart_from_distinct, sorted_from_all_adjacent}
use Rattle.std.proofs.lemmas.Map.Lookups.{exact_bytes}
use Rattle.std.proofs.lemmas.Map.Views.{All-map-IsPermutation}
use Rattle.std.specs.Borrow.{Bor}
use Rattle.std.specs.Cmp.Lexicographic.{bytes_decides, nat_list_eq_equiv, slice_cmp}
use Rattle.std.specs.declared.cmp.Ordering.{Ordering}
use Rattle.std.specs.declared.cmp.Ordering.TheVariants.{Less, Equal, Greater}
use Rattle.std.specs.List.{All, AllByRecursion, IsDistinct, sum_by}
use Rattle.std.specs.List.Sorted.{IsPermutation, IsSorted}
use Rattle.std.specs.Map.{keys_of, values_of}
use Rattle.std.specs.Option.{unwrap_or}
use Rattle.std.specs.Ordering.{is_lt, nat_cmp, ordering_reverse, ordering_then}
use Rattle.std.specs.Str.{bytes_eq}
use Rattle.cdrc_text.specs.Fold.{IsInByteOrder}
use Rattle.cdrc_text.specs.Tally.{ListsWords, count_of, entries_of, shown_entries, shown_entry, total_of}
use Rattle.std.proofs.lemmas.Map.Entries.{sum_by_values_permutation}
use Rattle.cdrc_text.proofs.Counts.{same_bytes, values-entries_of}

-- ---- a count as a sum, which the order does not change

-- what an entry adds to the count of w
abbrev pub weight : List ℕ → List ℕ × ℕ → ℕ
weight w e = cond (bytes_eq w e.0) e.1 0

weightless : (w : List ℕ) (es : List (List ℕ × ℕ)) → AllByRecursion (λ v. bytes_eq w v ≡ false) (keys_of es) → sum_by (weight w) es ≡ 0
weightless w [] apart = refl
weightless w (e ∷ es) apart =
    let rest = weightless w es apart.1 in
    let first : weight w e ≡ 0 = cond-false _ _ _ apart.0 in
    omega (arith, sum_by-cons (weight w) e es, rest, first)

pub count_of-sum : (w : List ℕ) (es : List (List ℕ × ℕ)) → IsDistinct bytes_eq (keys_of es) → count_of es w ≡ sum_by (weight w) es
unfolding count_of
count_of-sum w [] distinct = refl
count_of-sum w (e ∷ es) distinct = by_test (bytes_eq w e.0) refl (count_of-sum w es (IsDistinct-tail bytes_eq e.0 (keys_of es) distinct))
  where
    by_test : (b : Bool) → bytes_eq w e.0 ≡ b → count_of es w ≡ sum_by (weight w) es → count_of (e ∷ es) w ≡ sum_by (weight w) (e ∷ es)
    by_test true is others =
        let same = (bytes_decides w e.0).0 is in
        let apart = subst (λ v. AllByRecursion (λ y. bytes_eq v y ≡ false) (keys_of es)) (sym same) (IsDistinct-head bytes_eq e.0 (keys_of es) distinct) in
        let rest = weightless w es apart in
        let found : count_of (e ∷ es) w ≡ e.1 = ap (λ o. unwrap_or o 0) (cond-true _ _ _ is) in
        let first : weight w e ≡ e.1 = cond-true _ _ _ is in
        omega (arith, found, first, rest, sum_by-cons (weight w) e es)
    by_test false is others =
        let found : count_of (e ∷ es) w ≡ count_of es w = ap (λ o. unwrap_or o 0) (cond-false _ _ _ is) in
        let first : weight w e ≡ 0 = cond-false _ _ _ is in
        omega (arith, found, first, others, sum_by-cons (weight w) e es)

count_of-IsPermutation : (w : List ℕ) (es fs : List (List ℕ × ℕ)) → IsPermutation es fs → IsDistinct bytes_eq (keys_of es) → count_of fs w ≡ count_of es w
count_of-IsPermutation w es fs moved distinct =
    let still = IsDistinct-IsPermutation bytes_eq nat_list_eq_equiv.symm (keys_of es) (keys_of fs) (IsPermutation-map (λ (e : List ℕ × ℕ). e.0) es fs moved) distinct in
    count_of-sum w fs still ∙ sum_by-IsPermutation (weight w) es fs moved ∙ sym (count_of-sum w es distinct)

-- ---- words that are sorted and differ ascend

apart-entries_of : (k : Vec ℕ Global) (es : List (Vec ℕ Global × ℕ)) → AllByRecursion (λ y. same_bytes k y ≡ false) (keys_of es)
    → AllByRecursion (λ v. bytes_eq k.items v ≡ false) (keys_of (entries_of es))
apart-entries_of k [] apart = tt
apart-entries_of k (e ∷ es) apart = (apart.0, apart-entries_of k es apart.1)

distinct-entries_of : (es : List (Vec ℕ Global × ℕ)) → IsDistinct same_bytes (keys_of es) → IsDistinct bytes_eq (keys_of (entries_of es))
unfolding IsDistinct
distinct-entries_of [] distinct = tt
distinct-entries_of (e ∷ es) distinct = (apart-entries_of e.0 es distinct.0, distinct-entries_of es distinct.1)

ascends : (a b : List ℕ) (o : Ordering) → is_lt (ordering_then (slice_cmp nat_cmp b a) o) ≡ false → bytes_eq a b ≡ false → slice_cmp nat_cmp a b ≡ Less
ascends a b o level apart = by_order (slice_cmp nat_cmp b a) refl
  where
    by_order : (r : Ordering) → slice_cmp nat_cmp b a ≡ r → slice_cmp nat_cmp a b ≡ Less
    by_order Less is =
        let wrong : true ≡ false = sym (ap (λ r. is_lt (ordering_then r o)) is) ∙ level in
        cc
    by_order Equal is =
        let wrong : true ≡ false = sym ((bytes_decides a b).1 (sym (exact_bytes b a is))) ∙ apart in
        cc
    by_order Greater is = nat_list_cmp_total.antisymm a b ∙ ap ordering_reverse is

-- a word that is borrowed, and its count
abbrev pub Shown : Type 0
Shown = Bor (List ℕ) × ℕ

-- how these are sorted: by the words, and then by the counts
abbrev pub entry_cmp : Shown → Shown → Ordering
entry_cmp x y = ordering_then (slice_cmp nat_cmp x.0.now y.0.now) (nat_cmp x.1 y.1)

in_order-sorted : (es : List Shown) → IsSorted entry_cmp es → IsDistinct bytes_eq (keys_of (shown_entries es)) → IsInByteOrder (keys_of (shown_entries es))
in_order-sorted [] sorted distinct = sorted_from_all_adjacent nat_list_cmp_total [] [] (λ k h. absurd (omega arith))
in_order-sorted (e ∷ es) sorted distinct =
    let xs = e ∷ es in
    let keys = keys_of (shown_entries xs) in
    let size : length keys ≡ length xs = length-map (shown_entries xs) (λ (r : List ℕ × ℕ). r.0) ∙ length-map xs shown_entry in
    let at : (i : ℕ) → i < length xs → get_or keys i [] ≡ (get_or xs i e).0.now
    = λ i h.
    let listed : i < length (shown_entries xs) = omega (arith, h, length-map xs shown_entry) in
    get_or-map (λ (r : List ℕ × ℕ). r.0) (shown_entries xs) i ([], 0) [] listed
    ∙ ap (λ (r : List ℕ × ℕ). r.0) (get_or-map shown_entry xs i e ([], 0) h) in
    sorted_from_all_adjacent nat_list_cmp_total keys [] (λ k h.
    let below : k + 1 < length xs = omega (arith, h, size) in
    let a = (get_or xs k e).0.now in
    let b = (get_or xs (k + 1) e).0.now in
    let first = at k (omega arith) in
    let second = at (k + 1) below in
    let level = sorted k e (omega arith) below in
    let apart : bytes_eq a b ≡ false
    = sym (ap (λ v. bytes_eq v b) first) ∙ sym (ap (bytes_eq (get_or keys k [])) second)
    ∙ apart_from_distinct bytes_eq keys k (k + 1) [] distinct (omega arith) h in
    ap (λ v. slice_cmp nat_cmp v (get_or keys (k + 1) [])) first ∙ ap (slice_cmp nat_cmp a) second
    ∙ ascends a b (nat_cmp (get_or xs (k + 1) e).1 (get_or xs k e).1) level apart)

-- ---- the rows of a map

-- one more row is one entry fewer that is left
pub rows-more : (rows new : List Shown) (left rest : List (Vec ℕ Global × ℕ)) (word : Vec ℕ Global)
    (shown : Bor (List ℕ)) (n : ℕ) (counted : List (List ℕ × ℕ))
    → shown_entries rows ++ entries_of left ≡ counted → left ≡ (word, n) ∷ rest
    → new ≡ rows ++ (shown, n) ∷ [] → shown.now ≡ word.items
    → shown_entries new ++ entries_of rest ≡ counted
rows-more rows new left rest word shown n counted all step pushed same =
    let spelled : List ℕ × ℕ = (word.items, n) in
    let added : shown_entries new ≡ shown_entries rows ++ spelled ∷ []
    = ap shown_entries pushed ∙ map-append shown_entry rows ((shown, n) ∷ [])
    ∙ ap (λ (w : List ℕ). shown_entries rows ++ (w, n) ∷ []) same in
    ap (λ xs. xs ++ entries_of rest) added ∙ append_assoc (shown_entries rows) (spelled ∷ []) (entries_of rest)
    ∙ sym (ap (λ xs. shown_entries rows ++ entries_of xs) step) ∙ all

-- the rows have the entries of a map, and are sorted
pub lists-sorted : (entries : List (Vec ℕ Global × ℕ)) (rows sorted : List Shown)
    → shown_entries rows ≡ entries_of entries → IsDistinct same_bytes (keys_of entries)
    → All (λ n. 0 < n) (values_of entries) → IsPermutation rows sorted → IsSorted entry_cmp sorted
    → ListsWords (entries_of entries) (shown_entries sorted)
unfolding total_of
lists-sorted entries rows sorted same distinct positive moved in_order =
    let counted = entries_of entries in
    let listed = shown_entries sorted in
    let permuted : IsPermutation counted listed =
    subst (λ xs. IsPermutation xs listed) same (IsPermutation-map shown_entry rows sorted moved) in
    let apart : IsDistinct bytes_eq (keys_of counted) = distinct-entries_of entries distinct in
    let above : All (λ n. 0 < n) (values_of counted) = subst (All (λ n. 0 < n)) (sym (values-entries_of entries)) positive in
    record {
      in_order = in_order-sorted sorted in_order
          (IsDistinct-IsPermutation bytes_eq nat_list_eq_equiv.symm (keys_of counted) (keys_of listed)
          (IsPermutation-map (λ (e : List ℕ × ℕ). e.0) counted listed permuted) apart);
      counts = λ w. count_of-IsPermutation w counted listed permuted apart;
      total = sum_by_values_permutation (λ (x : ℕ). x) counted listed permuted;
      positive = All-map-IsPermutation (λ (e : List ℕ × ℕ). e.1) (λ n. 0 < n) counted listed permuted above;
    }
