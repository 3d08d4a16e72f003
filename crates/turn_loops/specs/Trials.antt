-- Payloads that weigh nothing.
use Rattle.std.specs.Prelude.{ℕ, ◌≤◌, ◌^◌, ⊤, List}
use Rattle.std.proofs.Common.{arith}

-- whatever has no weight is light enough
pub weightless : (words : List ℕ) → ⊤ → 0 ≤ 2 ^ 32
weightless words fits = omega arith
