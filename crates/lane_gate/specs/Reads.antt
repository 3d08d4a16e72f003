-- What a read appends, and what it may answer over a content that is told.
use Rattle.std.specs.Prelude.{◌≡◌, ℕ, ◌<◌, ◌≤◌, Bool, true, false, List, ◌++◌, length, ⊤, IfSome, Ok, Err, None, Some, nat_lt}
use Rattle.std.specs.declared.option.Option.{Option}
use Rattle.std.specs.declared.result.Result.{Result}
use Rattle.lane_gate.specs.Causes.{Stood}
use Rattle.lane_gate.specs.declared.files.FileFault.{FileFault}
use Rattle.lane_gate.specs.declared.files.FileFault.TheVariants.{Failed, TooLong, OutOfMemory}

-- `old` has grown by some content of at most `limit` bytes
abbrev pub GrewWithin : ℕ → List ℕ → List ℕ → Type 0
GrewWithin limit old new = (content : List ℕ) × (length content ≤ limit) × (new ≡ old ++ content)

-- where a content is told, it is within `limit`, and `old` has grown by exactly that content
abbrev pub GrewByTold : Option (List ℕ) → ℕ → List ℕ → List ℕ → Type 0
GrewByTold told limit old new = IfSome told (λ content.
    (length content ≤ limit) × (new ≡ old ++ content))

-- where a content is told, it is longer than `limit`, and the count of faults did not rise
abbrev pub OverlongAsTold : Option (List ℕ) → ℕ → ℕ → ℕ → Type 0
OverlongAsTold told limit before now = IfSome told (λ content.
    (limit < length content) × Stood before now)

-- a content is told, and it is longer than `limit`
abbrev pub is_overlong : Option (List ℕ) → ℕ → Bool
is_overlong None limit = false
is_overlong (Some content) limit = nat_lt limit (length content)

-- the answer is TooLong, or an allocation failure came in its place
abbrev pub IsTooLongOrNoMemory : {T : Type 0} → Result T FileFault → Type 0
IsTooLongOrNoMemory (Ok _) = ⊥
IsTooLongOrNoMemory (Err Failed) = ⊥
IsTooLongOrNoMemory (Err TooLong) = ⊤
IsTooLongOrNoMemory (Err OutOfMemory) = ⊤

-- the answer is Ok, or an allocation failure came in its place
abbrev pub IsOkOrNoMemory : {T : Type 0} → Result T FileFault → Type 0
IsOkOrNoMemory (Ok _) = ⊤
IsOkOrNoMemory (Err Failed) = ⊥
IsOkOrNoMemory (Err TooLong) = ⊥
IsOkOrNoMemory (Err OutOfMemory) = ⊤

-- a told content longer than `limit`, with no fault in the call, is answered by TooLong
abbrev pub RefusesOverlong : {T : Type 0} →
    Option (List ℕ) → ℕ → ℕ → ℕ → Result T FileFault → Type 0
RefusesOverlong told limit before now result = IfSome told (λ content.
    limit < length content → Stood before now → IsTooLongOrNoMemory result)

-- a told content within `limit`, with no fault in the call, is answered by Ok
abbrev pub AcceptsWithin : {T : Type 0} →
    Option (List ℕ) → ℕ → ℕ → ℕ → Result T FileFault → Type 0
AcceptsWithin told limit before now result = IfSome told (λ content.
    length content ≤ limit → Stood before now → IsOkOrNoMemory result)

-- the answer is Failed
abbrev pub is_failed : {T : Type 0} → Result T FileFault → Bool
is_failed (Ok _) = false
is_failed (Err Failed) = true
is_failed (Err TooLong) = false
is_failed (Err OutOfMemory) = false

-- the answer is TooLong
abbrev pub is_too_long : {T : Type 0} → Result T FileFault → Bool
is_too_long (Ok _) = false
is_too_long (Err Failed) = false
is_too_long (Err TooLong) = true
is_too_long (Err OutOfMemory) = false
