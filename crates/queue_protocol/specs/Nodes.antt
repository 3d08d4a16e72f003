-- The payloads of nodes.
use Rattle.std.proofs.Common.{arith}
use Rattle.std.specs.Prelude.{ℕ, ◌≡◌, ◌≤◌, ◌^◌, List}
use Rattle.protocol_pairs.specs.plain_state.State.{no_payload}

-- all words are 0
abbrev pub IsNodePayload : List ℕ → Type 0
IsNodePayload words = words ≡ no_payload

abbrev pub node_weight : List ℕ → ℕ
node_weight words = 0

pub node_bounded : (words : List ℕ) → IsNodePayload words → node_weight words ≤ 2 ^ 32
node_bounded words is = omega arith
