-- What a closure that reacts to events does at each call.
use Rattle.std.specs.Prelude.{ℕ, ◌<◌, ◌^◌}
use Rattle.std.specs.Fn.{Shared}

-- f may be called on every event that this id takes, and its answer is one with which the id reacts
pub record ReactsAs {F : Type 0} (takes : ℕ → ℕ → Type 0) (reacts : ℕ → ℕ → ℕ → Type 0)
    (calls : Shared F (ℕ × Unit {0}) ℕ) (id : ℕ) (f : F) : Type 0 where
  pub may : (event : ℕ) → event < 2 ^ 64 → takes id event → calls.pre f (event, tt)
  pub answers : (event answer : ℕ) → event < 2 ^ 64 → takes id event
      → calls.post f (event, tt) answer → reacts id event answer
