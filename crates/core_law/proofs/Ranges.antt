-- What adding and taking one leaves of the flags of a strong word.
use Rattle.std.proofs.Common.{◌≡◌, ◌≢◌, ℕ, ◌%◌, ◌^◌, ◌<◌, ◌≤◌, Bool, true, false, refl, sym, ◌∙◌, arith}
use Rattle.std.specs.Prelude.{◌||◌, not, nat_le, nat_lt, if◌then◌else◌}
use Rattle.std.proofs.lemmas.Bool.Decides.{nat_tests}
use Rattle.core_events.specs.counter_word.Words.{ZERO, HELP, has_zero, has_help, low, value}
use Rattle.core_events.specs.Counts.{is_live_word}
use Rattle.core_events.specs.Steps.{plus_one}
use Rattle.core_law.proofs.Flags.{live_low}

-- the two strong words have the same zero mark, and both are of an object that lives or neither is
pub record SameFlags (w w' : ℕ) : Type 0 where
  pub zero : has_zero w' ≡ has_zero w
  pub live : is_live_word w' ≡ is_live_word w

le_same : (a x y : ℕ) → (a ≤ x → a ≤ y) → (a ≤ y → a ≤ x) → nat_le a y ≡ nat_le a x
le_same a x y f g = grind (arith, nat_tests)

live_same : {a a' b b' : Bool} → a' ≡ a → b' ≡ b → (not a' || b') ≡ (not a || b)
live_same e f = cc

-- one more, where the count below the flags is small
pub plus_flags : (w : ℕ) → w < 2 ^ 64 → low w < 2 ^ 60 → SameFlags w (plus_one w)
plus_flags w fits small =
    let zero' : has_zero (plus_one w) ≡ has_zero w =
    le_same ZERO w (plus_one w) (λ e. omega arith) (λ e. omega arith) in
    let help' : has_help (plus_one w) ≡ has_help w =
    le_same HELP (w % ZERO) (plus_one w % ZERO) (λ e. omega arith) (λ e. omega arith) in
    record { zero = zero'; live = live_same zero' help' }

-- both without the zero flag
pub low_flags : (w w' : ℕ) → w < ZERO → w' < ZERO → SameFlags w w'
low_flags w w' a b = record {
  zero = grind (arith, nat_tests);
  live = live_low w' b ∙ sym (live_low w a);
}

-- a word that counts something has no zero flag
pub counts_low : (w r : ℕ) → value w ≡ r → 0 < r → (0 < w) × (w < ZERO)
counts_low w r = go (nat_lt w ZERO) refl
  where
    go : (b : Bool) → nat_lt w ZERO ≡ b → (if b then w else 0) ≡ r → 0 < r → (0 < w) × (w < ZERO)
    go true test e pos = (omega arith, grind (arith, nat_tests))
    go false test e pos = absurd (omega arith)

-- a word other than 0 counts 0 only where the zero flag stands
pub zero_stands : (w : ℕ) → w ≢ 0 → value w ≡ 0 → has_zero w ≡ true
zero_stands w some' = go (nat_lt w ZERO) refl
  where
    go : (b : Bool) → nat_lt w ZERO ≡ b → (if b then w else 0) ≡ 0 → has_zero w ≡ true
    go true test none = absurd (omega arith)
    go false test none = grind (arith, nat_tests)
