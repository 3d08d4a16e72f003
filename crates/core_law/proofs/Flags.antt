-- The flags of a strong word, by its law.
use Rattle.std.proofs.Common.{◌≡◌, ℕ, ◌+◌, ◌-◌, ◌*◌, ◌/◌, ◌%◌, ◌^◌, ◌<◌, ◌≤◌, true, false, if◌then◌else◌, bit_and, arith}
use Rattle.std.proofs.lemmas.Bool.Decides.{nat_tests}
use Rattle.std.proofs.lemmas.Nat.{and_comm, and-not}
use Rattle.std.proofs.lemmas.Nat.Bits.{and_pow}
use Rattle.core_events.specs.counter_word.Words.{ZERO, HELP, has_help}
use Rattle.core_events.specs.Counts.{is_live_word}
use Rattle.core_law.specs.Slots.{Numbers, SlotLaw}

help_is : (w : ℕ) → bit_and w 4611686018427387904 ≡ w / 4611686018427387904 % 2 *
    4611686018427387904
help_is w = and_pow w 62

split_help : (w : ℕ) → w < 2 ^ 64
    → bit_and w 13835058055282163711 + w / 4611686018427387904 % 2 * 4611686018427387904 ≡ w
split_help w h =
    let n : bit_and 13835058055282163711 w + bit_and 4611686018427387904 w ≡ w =
    and-not 64 4611686018427387904 w (omega arith) h in
    omega (arith, help_is w, and_comm w 13835058055282163711, and_comm w 4611686018427387904)

-- the mask takes the help flag away
pub cleared : (w : ℕ) → w < 2 ^ 64 → bit_and w (2 ^ 64 - 1 - HELP)
    ≡ (if has_help w then w - HELP else w)
cleared w h = let s = split_help w h in grind (arith, nat_tests)

pub record Flags (w : ℕ) : Type 0 where
  pub fits : w < 2 ^ 64
  pub help : has_help w ≡ true → ZERO + HELP ≤ w
  pub no_help : has_help w ≡ false → w < ZERO + HELP

pub flags : (a : ℕ) (m : Numbers) → SlotLaw a m → a < 2 ^ 60 → Flags m.strong
flags a m law fit = grind (arith, nat_tests)

-- a slot that something refers to, or whose object waits to be destroyed, or lives, is claimed and started, and
-- nobody is to give it back
pub refs_taken : (a : ℕ) (m : Numbers) → SlotLaw a m → 0 < m.strong_refs + m.weak_refs + m.dying
    → m.bit + m.baring + m.filling + m.giving ≡ 0
refs_taken a m law some' = grind arith

-- whether the word is that of an object that lives
pub live_low : (w : ℕ) → w < ZERO → is_live_word w ≡ true
live_low w h = grind (arith, nat_tests)

pub live_asked : (w : ℕ) → ZERO + HELP ≤ w → w < ZERO + HELP + 2 ^ 61 → is_live_word w ≡ true
live_asked w a b = grind (arith, nat_tests)

pub dead_word : (w : ℕ) → ZERO ≤ w → w < ZERO + 2 ^ 60 → is_live_word w ≡ false
dead_word w a b = grind (arith, nat_tests)

pub live_taken : (a : ℕ) (m : Numbers) → SlotLaw a m → a < 2 ^ 60 → is_live_word m.strong ≡ true
    → (m.bit + m.baring + m.filling + m.giving ≡ 0) × (m.dying ≡ 0)
live_taken a m law fit live = grind (arith, nat_tests)
