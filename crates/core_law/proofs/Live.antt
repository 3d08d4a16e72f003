-- Whether a strong word is that of an object that lives, as steps on it go.
use Rattle.std.proofs.Common.{◌≡◌, ℕ, ◌+◌, ◌^◌, ◌<◌, ◌≤◌, arith}
use Rattle.std.specs.Prelude.{if◌then◌else◌}
use Rattle.std.proofs.lemmas.Bool.Decides.{nat_tests}
use Rattle.core_events.specs.counter_word.Words.{ZERO, HELP}
use Rattle.core_events.specs.Steps.{plus_one, minus_one}
use Rattle.core_events.specs.Counts.{is_live_word}
use Rattle.core_law.specs.Slots.{Numbers, SlotLaw}

-- 1 where it is
abbrev pub live_one : ℕ → ℕ
live_one w = if is_live_word w then 1 else 0

pub live_most : (w : ℕ) → live_one w ≤ 1
live_most w = grind arith

pub is_low : (w : ℕ) → w < ZERO → live_one w ≡ 1
is_low w h = grind (arith, nat_tests)

pub is_asked : (w : ℕ) → ZERO + HELP ≤ w → w < ZERO + HELP + 2 ^ 61 → live_one w ≡ 1
is_asked w a b = grind (arith, nat_tests)

-- an add that finds the zero flag leaves the flags
pub dead_goes_on : (a : ℕ) (m : Numbers) → SlotLaw a m → a < 2 ^ 60 → ZERO ≤ m.strong
    → live_one m.strong ≤ live_one (plus_one m.strong)
dead_goes_on a m law fit dead = grind (arith, nat_tests)

-- a word without the zero flag is a count
pub count_few : (a : ℕ) (m : Numbers) → SlotLaw a m → m.strong < ZERO → m.strong ≤ a
count_few a m law low = grind arith

-- a slot that is owned has a count, above 0
pub owned_counts : (a : ℕ) (m : Numbers) → SlotLaw a m → 0 < m.strong_refs
    → (0 < m.strong) × (m.strong ≤ a)
owned_counts a m law owned = grind arith

-- and one that is referred to weakly has a weak count above 0
pub weakly_counts : (a : ℕ) (m : Numbers) → SlotLaw a m → 0 < m.weak_refs + m.dying
    → (0 < m.weak) × (m.weak ≤ a)
weakly_counts a m law refs = grind arith

pub plus_fits : (w : ℕ) → plus_one w < 2 ^ 64
plus_fits w = omega arith

pub minus_fits : (w : ℕ) → minus_one w < 2 ^ 64
minus_fits w = omega arith

-- a slot that some seat is to give back isn't free yet
pub giver_clear : (a : ℕ) (m : Numbers) → SlotLaw a m → 0 < m.giving → m.bit ≡ 0
giver_clear a m law gives = grind arith

-- a slot waits in at most one dying list
pub dying_once : (a : ℕ) (m : Numbers) → SlotLaw a m → m.dying ≤ 1
dying_once a m law = grind arith
