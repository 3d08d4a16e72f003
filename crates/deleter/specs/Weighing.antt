-- What a closure that weighs payloads does at each call.
use Rattle.std.specs.Prelude.{ℕ, ◌≡◌, ◌<◌, ◌^◌, List, length, All}
use Rattle.std.specs.Borrow.{Bor}
use Rattle.std.specs.Fn.{Shared}

-- what a call can pass: sixteen words
abbrev pub IsPayload : List ℕ → Type 0
IsPayload words = (length words ≡ 16) × All (λ word. word < 2 ^ 64) words

-- f may be called on every payload that fits, and answers its weight
pub record Weighs {F : Type 0} (fits : List ℕ → Type 0) (weight : List ℕ → ℕ)
    (calls : Shared F (Bor (List ℕ) × Unit {0}) ℕ) (f : F) : Type 0 where
  pub may : (payload : Bor (List ℕ)) → IsPayload payload.now → fits payload.now → calls.pre f (payload, tt)
  pub answers : (payload : Bor (List ℕ)) (answer : ℕ) → IsPayload payload.now → fits payload.now
      → calls.post f (payload, tt) answer → answer ≡ weight payload.now
