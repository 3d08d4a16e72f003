-- Contents that are told decide whether a limit is passed.
use Rattle.std.proofs.Common.{ℕ, ◌+◌, ◌<◌, ◌≤◌, inl, inr, List, length, IfSome, subst, arith}
use Rattle.lane_gate.specs.Causes.{Rose, Stood}
use Rattle.file_work.specs.Contents.{AreTold, IsTooLong, Told, bytes_in}
use Rattle.file_work.specs.Limits.{HasTooMany, IsWithinLimits, PassesLimit, most_bytes}
use Rattle.file_work.specs.Outcomes.{IsTooLarge}
use Rattle.file_work.proofs.Told.{told_many, told_same, told_within}

pub rose_stood : (before now : ℕ) → Rose before now → Stood before now → ⊥
rose_stood before now rose stood = omega arith

pub within_too_many : (rounds : ℕ) (contents : List (List ℕ))
    → IsWithinLimits rounds contents → HasTooMany rounds contents → ⊥
within_too_many rounds contents within many = elim many [
  | inl pieces ↦ let a = within.pieces in omega arith
  | inr slots ↦ let a = within.slots in omega arith
]

pub within_passes : (rounds : ℕ) (contents : List (List ℕ))
    → IsWithinLimits rounds contents → PassesLimit rounds contents → ⊥
within_passes rounds contents within passes = elim passes [
  | inl files ↦ let a = within.files in omega arith
  | inr later ↦ elim later [
    | inl bytes ↦ let a = within.bytes in omega arith
    | inr many ↦ within_too_many rounds contents within many
  ]
]

pub told_not_long : (told : Told) (most : ℕ) (names contents : List (List ℕ)) (before now : ℕ)
    → AreTold told names contents → bytes_in contents ≤ most
    → IsTooLong told most names before now → ⊥
told_not_long told most names contents before now tells within long =
    let tells_here = subst (λ (ns : List (List ℕ)). AreTold told ns contents) long.names_are tells in
    let r = told_within told long.front long.name long.back contents long.contents tells_here long.are in
    let longer = subst (λ o. IfSome o (λ content. most < bytes_in long.contents + length content))
    r.1 long.longer in
    let size = r.2 in omega arith

pub told_not_large : (told : Told) (names contents : List (List ℕ)) (rounds before now : ℕ)
    → AreTold told names contents → IsWithinLimits rounds contents
    → IsTooLarge told names rounds before now → ⊥
told_not_large told names contents rounds before now tells within large = elim large [
  | inl files ↦ let a = within.files in let b = told_many told names contents tells in omega arith
  | inr later ↦ elim later [
    | inl long ↦ told_not_long told most_bytes names contents before now tells within.bytes long
    | inr many ↦
        let same = told_same told names contents many.0 tells many.1 in
        within_too_many rounds contents within (subst (λ cs. HasTooMany rounds cs) same many.2)
  ]
]
