-- What letters weigh.
use Rattle.std.proofs.Common.{arith}
use Rattle.std.specs.Prelude.{ℕ, ◌≤◌, ◌^◌, List, ⊤}

abbrev pub letter_weight : List ℕ → ℕ
letter_weight words = 1

pub letter_bounded : (words : List ℕ) → ⊤ → letter_weight words ≤ 2 ^ 32
letter_bounded words fits = omega arith
