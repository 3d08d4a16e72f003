-- The help flag, read by an `&` and cleared by one.
use Rattle.std.proofs.Common.{◌≡◌, ℕ, ◌+◌, ◌-◌, ◌*◌, ◌/◌, ◌%◌, ◌^◌, ◌<◌, if◌then◌else◌, bit_and, arith}
use Rattle.std.proofs.lemmas.Bool.Decides.{nat_tests}
use Rattle.std.proofs.lemmas.Nat.{and_comm, and-not}
use Rattle.std.proofs.lemmas.Nat.Bits.{and_pow}
use Rattle.counter_word.specs.Words.{has_help}

pub help_is : (w : ℕ) → bit_and w 4611686018427387904 ≡ w / 4611686018427387904 % 2 * 4611686018427387904
help_is w = and_pow w 62

split_help : (w : ℕ) → w < 2 ^ 64 → bit_and w 13835058055282163711 + w / 4611686018427387904 % 2 * 4611686018427387904 ≡ w
split_help w h = let n : bit_and 13835058055282163711 w + bit_and 4611686018427387904 w ≡ w = and-not 64 4611686018427387904 w (omega arith) h in omega (arith, help_is w, and_comm w 13835058055282163711, and_comm w 4611686018427387904)

pub cleared : (w : ℕ) → w < 2 ^ 64 → bit_and w 13835058055282163711 ≡ (if has_help w then w - 2 ^ 62 else w)
cleared w h = let s = split_help w h in grind (arith, nat_tests)
