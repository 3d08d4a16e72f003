-- What a write takes of the piece that it is offered.
use Rattle.std.specs.Prelude.{◌≡◌, ℕ, ◌<◌, ◌≤◌, Bool, true, false, List, take, length, IfOk, Ok, Err}
use Rattle.std.specs.Io.KnownBytes.{append_known}
use Rattle.std.specs.declared.option.Option.{Option}
use Rattle.std.specs.declared.result.Result.{Result}
use Rattle.lane_gate.specs.declared.sink.SinkFault.{SinkFault}
use Rattle.lane_gate.specs.declared.sink.SinkFault.TheVariants.{Failed, OutOfMemory}

-- Ok(n) counts bytes of the piece, and at least one
abbrev pub CountsFront : {E : Type 0} → List ℕ → Result ℕ E → Type 0
CountsFront piece result = IfOk result (λ n. (0 < n) × (n ≤ length piece))

-- at Ok(n) the first n bytes of the piece were taken; where the sink tells what it took it goes on
-- telling, and where it does not it never does
abbrev pub TookFront : {E : Type 0} →
    Option (List ℕ) → Option (List ℕ) → List ℕ → Result ℕ E → Type 0
TookFront before now piece result = IfOk result (λ n. now ≡ append_known before (take n piece))

-- how many bytes a write took
abbrev pub count_taken : {E : Type 0} → Result ℕ E → ℕ
count_taken (Ok n) = n
count_taken (Err _) = 0

-- the answer is Failed
abbrev pub is_failed : {T : Type 0} → Result T SinkFault → Bool
is_failed (Ok _) = false
is_failed (Err Failed) = true
is_failed (Err OutOfMemory) = false
