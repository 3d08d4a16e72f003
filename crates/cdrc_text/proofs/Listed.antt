-- The words of a tally that counted the pieces of some files are the files' distinct words.
use Rattle.std.proofs.Common.{◌≡◌, ℕ, ◌*◌, ◌<◌, ◌≤◌, Bool, true, false, cond, List, [], ◌∷◌, refl, sym, ap, subst, ◌∙◌, arith, inl, inr, nat_lt, mul-le-mul_left}
use Rattle.std.proofs.lemmas.Bool.{cases_lt, cond-true, cond-false}
use Rattle.std.proofs.lemmas.Bool.Decides.{nat_tests}
use Rattle.std.proofs.lemmas.List.Elements.{All-head, All-tail}
use Rattle.std.proofs.lemmas.List.Sums.{sum_by-cons}
use Rattle.std.specs.Cmp.Lexicographic.{bytes_decides}
use Rattle.std.specs.List.{All, Contains, count_by, sum_by}
use Rattle.std.specs.Map.{keys_of, values_of}
use Rattle.std.specs.Option.{unwrap_or}
use Rattle.std.specs.Str.{bytes_eq}
use Rattle.cdrc_text.specs.Fold.{AreDistinct, File, holders_in, occurrences_in, times}
use Rattle.cdrc_text.specs.Tally.{ListsWords, count_of}
use Rattle.cdrc_text.proofs.Unique.{Contains-first, Contains-later, cases-cons}

-- ---- a word is listed exactly where its count is above 0

count-above : (rows : List (List ℕ × ℕ)) (w : List ℕ) → All (λ n. 0 < n) (values_of rows) → Contains (keys_of rows) w → 0 < count_of rows w
unfolding count_of
count-above [] w positive has = absurd (omega (arith, has.1))
count-above (e ∷ es) w positive has = by_test (bytes_eq w e.0) refl (λ later. count-above es w (All-tail (λ n. 0 < n) e.1 (values_of es) positive) later)
  where
    by_test : (b : Bool) → bytes_eq w e.0 ≡ b → (Contains (keys_of es) w → 0 < count_of es w) → 0 < count_of (e ∷ es) w
    by_test true is rest =
        let found : count_of (e ∷ es) w ≡ e.1 = ap (λ o. unwrap_or o 0) (cond-true _ _ _ is) in
        omega (arith, found, All-head (λ n. 0 < n) e.1 (values_of es) positive)
    by_test false is rest =
        let found : count_of (e ∷ es) w ≡ count_of es w = ap (λ o. unwrap_or o 0) (cond-false _ _ _ is) in
        elim (cases-cons e.0 (keys_of es) w has) [
          | inl same ↦ let wrong : true ≡ false = sym ((bytes_decides w e.0).1 (sym same)) ∙ is in cc
          | inr later ↦ omega (arith, found, rest later)
        ]

listed-above : (rows : List (List ℕ × ℕ)) (w : List ℕ) → 0 < count_of rows w → Contains (keys_of rows) w
unfolding count_of
listed-above [] w above = absurd (omega arith)
listed-above (e ∷ es) w above = by_test (bytes_eq w e.0) refl (λ later. listed-above es w later)
  where
    by_test : (b : Bool) → bytes_eq w e.0 ≡ b → (0 < count_of es w → Contains (keys_of es) w) → Contains (keys_of (e ∷ es)) w
    by_test true is rest = subst (Contains (keys_of (e ∷ es))) (sym ((bytes_decides w e.0).0 is)) (Contains-first e.0 (keys_of es))
    by_test false is rest =
        let found : count_of (e ∷ es) w ≡ count_of es w = ap (λ o. unwrap_or o 0) (cond-false _ _ _ is) in
        Contains-later e.0 (keys_of es) w (rest (omega (arith, above, found)))

-- ---- a word has a holder exactly where it occurs

module _ (g : File → ℕ) where
  at-most : (n : ℕ) → cond (nat_lt 0 n) 1 0 ≤ n
  at-most n = grind (arith, nat_tests)

  none-left : (n : ℕ) → ◌≡◌ {A = ℕ} (cond (nat_lt 0 n) 1 0) 0 → n ≡ 0
  none-left n h = grind (arith, nat_tests)

  holders-le : (xs : List File) → count_by (λ x. nat_lt 0 (g x)) xs ≤ sum_by g xs
  holders-le [] = omega arith
  holders-le (x ∷ xs) =
      let rest = holders-le xs in
      let first = at-most (g x) in
      omega (arith, sum_by-cons (λ y. cond (nat_lt 0 (g y)) 1 0) x xs, sum_by-cons g x xs)

  none-held : (xs : List File) → count_by (λ x. nat_lt 0 (g x)) xs ≡ 0 → sum_by g xs ≡ 0
  none-held [] none = refl
  none-held (x ∷ xs) none =
      let split = sum_by-cons (λ y. cond (nat_lt 0 (g y)) 1 0) x xs in
      let rest = none-held xs (omega (arith, none, split)) in
      let first = none-left (g x) (omega (arith, none, split)) in
      omega (arith, sum_by-cons g x xs)

-- 0 < a * b, where a isn't 0, exactly where b isn't
above-product : (a b : ℕ) → 0 < a * b → 0 < b
above-product a b above = elim (cases_lt 0 b) [
  | inl h ↦ h
  | inr h ↦ let zero : b ≡ 0 = omega arith in absurd (omega (arith, above, ap (λ n. a * n) zero))
]

product-above : (a b : ℕ) → 0 < a → 0 < b → 0 < a * b
product-above a b h k = let one : 1 ≤ b = omega (arith, k) in omega (arith, h, mul-le-mul_left a one)

pub held-occurs : (w : List ℕ) (rounds : ℕ) (files : List File) → 0 < rounds → 0 < holders_in w files → 0 < occurrences_in w rounds files
held-occurs w rounds files some held =
    let most = holders-le (λ (f : File). times w f) files in
    product-above rounds (sum_by (λ (f : File). times w f) files) some (omega (arith, most, held))

pub occurs-held : (w : List ℕ) (rounds : ℕ) (files : List File) → 0 < occurrences_in w rounds files → 0 < holders_in w files
occurs-held w rounds files occurs =
    let above = above-product rounds (sum_by (λ (f : File). times w f) files) occurs in
    elim (cases_lt 0 (count_by (λ (f : File). nat_lt 0 (times w f)) files)) [
      | inl h ↦ h
      | inr h ↦ absurd (omega (arith, above, none-held (λ (f : File). times w f) files (omega arith)))
    ]

pub words-listed : (files : List File) (rounds : ℕ) (counted rows : List (List ℕ × ℕ)) → 0 < rounds
    → ((w : List ℕ) → count_of counted w ≡ occurrences_in w rounds files) → ListsWords counted rows → AreDistinct files (keys_of rows)
words-listed files rounds counted rows some counts lists = record {
  in_order = lists.in_order;
  held = λ w. (
    (λ has. occurs-held w rounds files (omega (arith, count-above rows w lists.positive has, lists.counts w, counts w))),
    (λ held. listed-above rows w (omega (arith, held-occurs w rounds files some held, lists.counts w, counts w))),
  );
}
