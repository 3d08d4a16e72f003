-- The entries of all tallies, sorted, and joined where equal words stand side by side.
use Rattle.std.proofs.Common.{◌≡◌, ℕ, ◌+◌, ◌<◌, false, List, [], ◌∷◌, ◌++◌, Vec, Global, length, get_or, take, refl, sym, ap, subst, ◌∙◌, arith}
use Rattle.std.specs.Prelude.{◌↔◌, IfOk, Result, Ok, Err}
use Rattle.std.specs.Borrow.{Bor}
use Rattle.std.specs.Cmp.Lexicographic.{bytes_decides, nat_list_eq_equiv, slice_cmp, texts_ties}
use Rattle.std.specs.declared.cmp.Ordering.{Ordering}
use Rattle.std.specs.declared.cmp.Ordering.TheVariants.{Less, Equal, Greater}
use Rattle.std.specs.List.{All, Contains, dedup}
use Rattle.std.specs.List.Sorted.{IsPermutation, IsSorted}
use Rattle.std.specs.Map.{keys_of, values_of}
use Rattle.std.specs.Ordering.{is_lt, nat_cmp, ordering_then}
use Rattle.std.specs.Str.{bytes_eq}
use Rattle.std.proofs.lemmas.Cmp.{nat_list_cmp_total}
use Rattle.std.proofs.lemmas.List.{get_or-map, length-append, length-map, map-append, take_all, take_more}
use Rattle.std.proofs.lemmas.List.Elements.{All-append, All-nil, All-weaker}
use Rattle.std.proofs.lemmas.List.Kept.{Contains-dedup, Contains-from_dedup, IsStrictlySortedBy-dedup}
use Rattle.std.proofs.lemmas.List.Sorted.{All-permutation, IsPermutation-map, sum_by-IsPermutation}
use Rattle.std.proofs.lemmas.List.Sums.{sum_by-append, sum_by_push}
use Rattle.cdrc_text.specs.Fold.{IsInByteOrder}
use Rattle.cdrc_text.specs.Tally.{ListsWords, count_of, shown_entries, shown_entry}
use Rattle.tally_sums.specs.Sums.{AreListed, IsSum, ListsEach, SumsUp, Tallies, added_up, counted_in, sum_for}
use Rattle.tally_sums.proofs.Joined.{Entry, keys_up, part, sum_up}
use Rattle.tally_sums.proofs.Ordered.{Owns, count_is_sum, listed, own_sums}

-- no entries of no tally
pub lists_none : (entries : List (Bor (List ℕ) × ℕ)) → entries ≡ [] → ListsEach [] (shown_entries entries)
lists_none entries none = subst (λ es. ListsEach [] (shown_entries es)) (sym none)
    (record { sums = λ w. refl; positive = All-nil (λ n. 0 < n) })

-- the entries of one tally more
pub lists_more : (front all : Tallies) (t rows before after : List Entry) → all ≡ front ++ t ∷ []
    → ListsEach front before → ListsWords t rows → after ≡ before ++ rows → ListsEach all after
lists_more front all t rows before after more so lists added = record {
  sums = λ w.
      let a = ap (sum_for w) added ∙ sum_by-append (part w) before rows in
      let b = so.sums w in
      let c = sym (count_is_sum rows w lists.in_order) ∙ lists.counts w in
      let d = ap (λ (ts : Tallies). counted_in ts w) more
      ∙ sum_by_push (λ (u : List Entry). count_of u w) front t in
      omega (arith, a, b, c, d);
  positive = subst (λ es. All (λ n. 0 < n) (values_of es)) (sym added)
      (subst (All (λ n. 0 < n)) (sym (map-append (λ (e : Entry). e.1) before rows))
      (All-append (λ n. 0 < n) (values_of before) (values_of rows) so.positive lists.positive));
}

-- what stands behind these
behind : {A : Type 0} (xs ys : List A) (y d : A) → get_or (xs ++ y ∷ ys) (length xs) d ≡ y
behind [] ys y d = refl
behind (x ∷ xs) ys y d = behind xs ys y d

-- the list of the next tally
pub next_listed : {E : Type 0} (tallies : Tallies)
    (all yielded left rest : List (Result (Vec (Bor (List ℕ) × ℕ) Global) E))
    (list : Result (Vec (Bor (List ℕ) × ℕ) Global) E) (rows : Vec (Bor (List ℕ) × ℕ) Global)
    (before after : List (Bor (List ℕ) × ℕ)) → AreListed tallies all → yielded ++ left ≡ all
    → left ≡ list ∷ rest → list ≡ Ok rows
    → ListsEach (take (length yielded) tallies) (shown_entries before) → after ≡ before ++ rows.items
    → ListsEach (take (length (yielded ++ list ∷ [])) tallies) (shown_entries after)
next_listed tallies all yielded left rest list rows before after are so first ok lists added =
    let i = length yielded in
    let whole : yielded ++ list ∷ rest ≡ all = ap (λ l. yielded ++ l) (sym first) ∙ so in
    let long = length-append yielded (list ∷ rest) in
    let same = ap (λ l. length l) whole in
    let many = are.many in
    let below : i < length tallies = omega (arith, long, same, many) in
    let at : get_or all i (Ok rows) ≡ Ok rows =
    sym (ap (λ l. get_or l i (Ok rows)) whole) ∙ behind yielded rest list (Ok rows) ∙ ok in
    let listed = subst (λ r. IfOk r (λ found. ListsWords (get_or tallies i []) (shown_entries found.items))) at
    (are.each i (Ok rows) below) in
    let one : length (yielded ++ list ∷ []) ≡ i + 1 = length-append yielded (list ∷ []) in
    lists_more (take i tallies) (take (length (yielded ++ list ∷ [])) tallies) (get_or tallies i [])
    (shown_entries rows.items) (shown_entries before) (shown_entries after)
    (ap (λ n. take n tallies) one ∙ take_more tallies i [] below) lists listed
    (ap (λ es. shown_entries es) added ∙ map-append shown_entry before rows.items)

-- once no list is left
pub all_listed : {E : Type 0} (tallies : Tallies)
    (all yielded left : List (Result (Vec (Bor (List ℕ) × ℕ) Global) E)) (entries : List Entry)
    → AreListed tallies all → yielded ++ left ≡ all → length left ≡ 0
    → ListsEach (take (length yielded) tallies) entries → ListsEach tallies entries
all_listed tallies all yielded left entries are so none lists =
    let long = length-append yielded left in
    let same = ap (λ l. length l) so in
    let many = are.many in
    subst (λ (ts : Tallies). ListsEach ts entries)
    (take_all (length yielded) tallies (omega (arith, long, same, many, none))) lists

-- how entries are sorted: by the words, and then by the counts
abbrev by_entry : Bor (List ℕ) × ℕ → Bor (List ℕ) × ℕ → Ordering
by_entry x y = ordering_then (slice_cmp nat_cmp x.0.now y.0.now) (nat_cmp x.1 y.1)

first_level : (r o : Ordering) → is_lt (ordering_then r o) ≡ false → is_lt r ≡ false
first_level Less o level = level
first_level Equal o level = refl
first_level Greater o level = refl

keys_sorted : (es : List (Bor (List ℕ) × ℕ)) → IsSorted by_entry es
    → IsSorted (slice_cmp nat_cmp) (keys_of (shown_entries es))
keys_sorted [] sorted = λ k d low high. absurd (omega (arith, high))
keys_sorted (e ∷ es) sorted = λ k d low high.
    let xs = e ∷ es in
    let size : length (keys_of (shown_entries xs)) ≡ length xs =
    length-map (shown_entries xs) (λ (r : Entry). r.0) ∙ length-map xs shown_entry in
    let at : (i : ℕ) → i < length xs → get_or (keys_of (shown_entries xs)) i d ≡ (get_or xs i e).0.now =
    λ i h.
    get_or-map (λ (r : Entry). r.0) (shown_entries xs) i ([], 0) d
    (let many = length-map xs shown_entry in omega (arith, h, many))
    ∙ ap (λ (r : Entry). r.0) (get_or-map shown_entry xs i e ([], 0) h) in
    let below : k + 1 < length xs = omega (arith, high, size) in
    ap (λ v. is_lt (slice_cmp nat_cmp v (get_or (keys_of (shown_entries xs)) k d))) (at (k + 1) below)
    ∙ ap (λ v. is_lt (slice_cmp nat_cmp (get_or xs (k + 1) e).0.now v)) (at k (omega (arith, below)))
    ∙ first_level (slice_cmp nat_cmp (get_or xs (k + 1) e).0.now (get_or xs k e).0.now)
    (nat_cmp (get_or xs (k + 1) e).1 (get_or xs k e).1) (sorted k e low below)

-- entries that are moved add up to the same
pub sums_moved : (tallies : Tallies) (entries sorted : List (Bor (List ℕ) × ℕ))
    → ListsEach tallies (shown_entries entries) → IsPermutation entries sorted → (w : List ℕ)
    → sum_for w (shown_entries sorted) ≡ counted_in tallies w
sums_moved tallies entries sorted lists moved w =
    sum_by-IsPermutation (part w) (shown_entries entries) (shown_entries sorted)
    (IsPermutation-map shown_entry entries sorted moved) ∙ lists.sums w

module _ (tallies : Tallies) (entries sorted : List (Bor (List ℕ) × ℕ)) (words : List Entry)
    (lists : ListsEach tallies (shown_entries entries)) (moved : IsPermutation entries sorted)
    (ordered : IsSorted by_entry sorted) (are : words ≡ added_up (shown_entries sorted)) where
  shuffled : IsPermutation (shown_entries entries) (shown_entries sorted)
  shuffled = IsPermutation-map shown_entry entries sorted moved

  sums : (w : List ℕ) → sum_for w (shown_entries sorted) ≡ counted_in tallies w
  sums = sums_moved tallies entries sorted lists moved

  words_sums : (w : List ℕ) → sum_for w words ≡ counted_in tallies w
  words_sums w = ap (sum_for w) are ∙ sum_up w (shown_entries sorted) ∙ sums w

  keys : keys_of words ≡ dedup bytes_eq (keys_of (shown_entries sorted))
  keys = ap (λ (es : List Entry). keys_of es) are ∙ keys_up (shown_entries sorted)

  in_order : IsInByteOrder (keys_of words)
  in_order = subst (λ ks. IsInByteOrder ks) (sym keys)
      (IsStrictlySortedBy-dedup nat_list_cmp_total texts_ties (keys_of (shown_entries sorted))
      (keys_sorted sorted ordered))

  positive : All (λ n. 0 < n) (values_of (shown_entries sorted))
  positive =
      All-permutation (λ n. 0 < n) (values_of (shown_entries entries)) (values_of (shown_entries sorted))
      (IsPermutation-map (λ (e : Entry). e.1) (shown_entries entries) (shown_entries sorted) shuffled)
      lists.positive

  counted : (w : List ℕ) → Contains (keys_of words) w ↔ (0 < counted_in tallies w)
  counted w =
      let so = listed (shown_entries sorted) w positive in
      let same = sums w in (
        (λ has. let above = so.0 (Contains-from_dedup bytes_eq (keys_of (shown_entries sorted)) w
            (subst (λ ks. Contains ks w) keys has)) in omega (arith, above, same)),
        (λ above. subst (λ ks. Contains ks w) (sym keys)
            (Contains-dedup nat_list_eq_equiv (λ x y is. (bytes_decides x y).0 is)
            (keys_of (shown_entries sorted)) w (so.1 (omega (arith, above, same))))),
      )

  pub sums_made : SumsUp tallies words
  sums_made = record {
    words = record { in_order = in_order; counted = counted };
    sums = All-weaker (Owns words) (IsSum tallies)
        (λ row own. own ∙ words_sums row.0) words (own_sums words in_order);
  }

-- what is so of the words is so of a call that answers them
pub call_sums : {E : Type 0} (tallies : Tallies) (entries sorted : List (Bor (List ℕ) × ℕ))
    (r : Result (Vec (Bor (List ℕ) × ℕ) Global) E) → ListsEach tallies (shown_entries entries)
    → IsPermutation entries sorted → IsSorted by_entry sorted
    → IfOk r (λ words. shown_entries words.items ≡ added_up (shown_entries sorted))
    → IfOk r (λ words. SumsUp tallies (shown_entries words.items))
call_sums tallies entries sorted (Ok words) lists moved ordered are =
    sums_made tallies entries sorted (shown_entries words.items) lists moved ordered are
call_sums tallies entries sorted (Err e) lists moved ordered are = tt
