-- Observers and deliveries weigh little.
use Rattle.std.proofs.Common.{◌≤◌, ℕ, List, arith, ⊎_elim}
use Rattle.std.specs.Prelude.{◌^◌}
use Rattle.watch_law.specs.Payloads.{IsWatchPayload, watch_weight}

pub watch_bounded : (words : List ℕ) → IsWatchPayload words → watch_weight words ≤ 2 ^ 32
watch_bounded words is = ⊎_elim (λ observer. omega arith) (λ delivery. omega arith) is.0
