-- Announcement words tell their references apart, and how often one stands in a list.
use Rattle.std.proofs.Common.{◌≡◌, ◌≢◌, ℕ, ◌+◌, ◌<◌, List, [], ◌∷◌, length, get_or, refl, arith}
use Rattle.std.specs.Prelude.{◌==◌, cond, if◌then◌else◌}
use Rattle.std.proofs.lemmas.List.Sums.{sum_by-cons, get_or-le-sum_by}
use Rattle.std.proofs.lemmas.Bool.Decides.{nat_tests}
use Rattle.announce_slots.specs.Seen.{seen_times}

-- 1 where the words are equal
unfoldable pub word_one : ℕ → ℕ → ℕ
word_one w x = if x == w then 1 else 0

pub word_same : (w x : ℕ) → x ≡ w → word_one w x ≡ 1
unfolding word_one
word_same w x e = grind (arith, nat_tests)

pub word_other : (w x : ℕ) → x ≢ w → word_one w x ≡ 0
unfolding word_one
word_other w x e = grind (arith, nat_tests)

pub seen_none : (w : ℕ) → seen_times w [] ≡ 0
unfolding seen_times
seen_none w = refl

pub seen_cons : (w x : ℕ) (xs : List ℕ) → seen_times w (x ∷ xs) ≡ word_one w x + seen_times w xs
unfolding seen_times word_one
seen_cons w x xs = sum_by-cons (λ (y : ℕ). cond (y == w) 1 0) x xs

pub seen_yes : (w x : ℕ) (xs : List ℕ) → x ≡ w → seen_times w (x ∷ xs) ≡ 1 + seen_times w xs
seen_yes w x xs e = let c = seen_cons w x xs in let o = word_same w x e in omega arith

pub seen_no : (w x : ℕ) (xs : List ℕ) → x ≢ w → seen_times w (x ∷ xs) ≡ seen_times w xs
seen_no w x xs ne = let c = seen_cons w x xs in let o = word_other w x ne in omega arith

-- a word that stands in the list was seen
pub seen_at : (w : ℕ) (xs : List ℕ) (i : ℕ) → i < length xs → get_or xs i 0 ≡ w
    → 0 < seen_times w xs
unfolding seen_times
seen_at w xs i h e =
    let t = get_or-le-sum_by (λ (y : ℕ). cond (y == w) 1 0) xs i 0 h in grind (arith, nat_tests)
