-- Payloads that weigh nothing.
use Rattle.std.specs.Prelude.{◌≤◌, ◌^◌}
use Rattle.std.proofs.Common.{arith}

-- a weight of 0 is light enough for each kind of payloads
pub light : 0 ≤ 2 ^ 32
light = omega arith
