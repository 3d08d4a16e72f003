-- Rows in byte order: each word's entries add up to its one count.
use Rattle.std.proofs.Common.{◌≡◌, ℕ, ◌+◌, ◌<◌, Bool, true, false, List, [], ◌∷◌, refl, sym, subst, ◌∙◌, arith, inl, inr}
use Rattle.std.specs.Prelude.{◌↔◌}
use Rattle.std.specs.Cmp.Lexicographic.{bytes_decides, slice_cmp}
use Rattle.std.specs.declared.cmp.Ordering.TheVariants.{Less}
use Rattle.std.specs.List.{All, AllByRecursion, Contains, IsDistinct}
use Rattle.std.specs.Map.{keys_of, values_of}
use Rattle.std.specs.Ordering.{nat_cmp}
use Rattle.std.specs.Str.{bytes_eq}
use Rattle.std.proofs.lemmas.Bool.{cond-true, cond-false}
use Rattle.std.proofs.lemmas.List.Elements.{All-cons, All-head, All-nil, All-tail}
use Rattle.std.proofs.lemmas.List.Sums.{sum_by-cons}
use Rattle.std.proofs.lemmas.Map.Keys.{IsDistinct-cons, sorted_head, sorted_tail}
use Rattle.cdrc_text.specs.Fold.{IsInByteOrder}
use Rattle.cdrc_text.specs.Tally.{count_of}
use Rattle.cdrc_text.proofs.Sorting.{count_of-sum}
use Rattle.cdrc_text.proofs.Unique.{Contains-first, Contains-later, cases-cons, not-both}
use Rattle.tally_sums.specs.Sums.{sum_for}
use Rattle.tally_sums.proofs.Joined.{Entry, part}

-- of two words in order neither is the other
differ : (a b : List ℕ) → slice_cmp nat_cmp a b ≡ Less → bytes_eq a b ≡ false
differ a b less = by_test (bytes_eq a b) refl
  where
    by_test : (r : Bool) → bytes_eq a b ≡ r → bytes_eq a b ≡ false
    by_test false is = is
    by_test true is =
        let same = (bytes_decides a b).0 is in
        let here = subst (λ v. slice_cmp nat_cmp a v ≡ Less) (sym same) less in
        absurd (not-both a a here here)

all_differ : (k : List ℕ) (ks : List (List ℕ)) → AllByRecursion (λ v. slice_cmp nat_cmp k v ≡ Less) ks
    → AllByRecursion (λ v. bytes_eq k v ≡ false) ks
all_differ k [] below = tt
all_differ k (v ∷ vs) below = (differ k v below.0, all_differ k vs below.1)

distinct : (ks : List (List ℕ)) → IsInByteOrder ks → IsDistinct bytes_eq ks
unfolding IsDistinct
distinct [] ordered = tt
distinct (k ∷ ks) ordered =
    IsDistinct-cons bytes_eq k ks (all_differ k ks (sorted_head (slice_cmp nat_cmp) k ks ordered))
    (distinct ks (sorted_tail (slice_cmp nat_cmp) k ks ordered))

pub count_is_sum : (rows : List Entry) (w : List ℕ) → IsInByteOrder (keys_of rows)
    → count_of rows w ≡ sum_for w rows
count_is_sum rows w ordered = count_of-sum w rows (distinct (keys_of rows) ordered)

-- rows of other words add nothing
none_for : (w : List ℕ) (rows : List Entry) → AllByRecursion (λ v. slice_cmp nat_cmp w v ≡ Less) (keys_of rows)
    → sum_for w rows ≡ 0
none_for w [] below = refl
none_for w (e ∷ es) below =
    let rest = none_for w es below.1 in
    let first : part w e ≡ 0 = cond-false _ _ _ (differ w e.0 below.0) in
    omega (arith, sum_by-cons (part w) e es, rest, first)

-- the row has what the rows of its word add up to
abbrev pub Owns : List Entry → Entry → Type 0
Owns rows row = row.1 ≡ sum_for row.0 rows

-- a row before those of these words changes none of their sums
own_behind : (e : Entry) (all rows : List Entry)
    → AllByRecursion (λ v. slice_cmp nat_cmp e.0 v ≡ Less) (keys_of rows)
    → All (Owns all) rows → All (Owns (e ∷ all)) rows
own_behind e all [] below own = All-nil (Owns (e ∷ all))
own_behind e all (row ∷ rows) below own =
    let apart : bytes_eq row.0 e.0 ≡ false = turned (bytes_eq row.0 e.0) refl in
    let none : part row.0 e ≡ 0 = cond-false _ _ _ apart in
    let here = All-head (Owns all) row rows own in
    All-cons (Owns (e ∷ all)) row rows (omega (arith, sum_by-cons (part row.0) e all, none, here))
    (own_behind e all rows below.1 (All-tail (Owns all) row rows own))
  where
    turned : (b : Bool) → bytes_eq row.0 e.0 ≡ b → bytes_eq row.0 e.0 ≡ false
    turned false is = is
    turned true is =
        let same = (bytes_decides row.0 e.0).0 is in
        let level = subst (λ v. slice_cmp nat_cmp e.0 v ≡ Less) same below.0 in
        absurd (not-both e.0 e.0 level level)

pub own_sums : (rows : List Entry) → IsInByteOrder (keys_of rows) → All (Owns rows) rows
own_sums [] ordered = All-nil (Owns [])
own_sums (e ∷ es) ordered =
    let below = sorted_head (slice_cmp nat_cmp) e.0 (keys_of es) ordered in
    let same : part e.0 e ≡ e.1 = cond-true _ _ _ ((bytes_decides e.0 e.0).1 refl) in
    let rest = none_for e.0 es below in
    All-cons (Owns (e ∷ es)) e es (omega (arith, sum_by-cons (part e.0) e es, same, rest))
    (own_behind e es es below (own_sums es (sorted_tail (slice_cmp nat_cmp) e.0 (keys_of es) ordered)))

-- a word is listed exactly where its entries add up to something
pub listed : (es : List Entry) (w : List ℕ) → All (λ n. 0 < n) (values_of es)
    → Contains (keys_of es) w ↔ (0 < sum_for w es)
listed [] w positive = ((λ has. absurd (omega (arith, has.1))), (λ above. absurd (omega arith)))
listed (e ∷ es) w positive =
    by_test (bytes_eq w e.0) refl (listed es w (All-tail (λ n. 0 < n) e.1 (values_of es) positive))
  where
    all : sum_for w (e ∷ es) ≡ part w e + sum_for w es
    all = sum_by-cons (part w) e es

    by_test : (b : Bool) → bytes_eq w e.0 ≡ b → (Contains (keys_of es) w ↔ (0 < sum_for w es))
        → Contains (keys_of (e ∷ es)) w ↔ (0 < sum_for w (e ∷ es))
    by_test true is rest =
        let here : part w e ≡ e.1 = cond-true _ _ _ is in
        let some = All-head (λ n. 0 < n) e.1 (values_of es) positive in (
          (λ has. omega (arith, all, here, some)),
          (λ above. subst (Contains (keys_of (e ∷ es))) (sym ((bytes_decides w e.0).0 is))
              (Contains-first e.0 (keys_of es))),
        )
    by_test false is rest =
        let here : part w e ≡ 0 = cond-false _ _ _ is in (
          (λ has. elim (cases-cons e.0 (keys_of es) w has) [
            | inl same ↦ let wrong : true ≡ false = sym ((bytes_decides w e.0).1 (sym same)) ∙ is in cc
            | inr later ↦ let some = rest.0 later in omega (arith, all, here, some)
          ]),
          (λ above. Contains-later e.0 (keys_of es) w (rest.1 (omega (arith, above, all, here)))),
        )
