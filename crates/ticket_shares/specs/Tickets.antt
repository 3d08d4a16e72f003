-- Tickets that lanes draw, and the files that they stand for.
use Rattle.std.specs.Prelude.{◌≡◌, ℕ, ◌+◌, ◌-◌, ◌<◌, ◌≤◌, ◌%◌, ◌/◌, ◌==◌, ◌⊎◌, ◌++◌, All, Bool, cond, nat_le, nat_lt, List, [], ◌∷◌, length, slice_index_or}
use Rattle.std.specs.List.{count_by, flat_map, sum_by}

-- how often t stands among some tickets
abbrev pub ticket_times : ℕ → List ℕ → ℕ
ticket_times t tickets = count_by (λ u. t == u) tickets

-- each number below n once, and no other
abbrev pub IsEachOnce : ℕ → List ℕ → Type 0
IsEachOnce n tickets = (t : ℕ) → ticket_times t tickets ≡ cond (nat_lt t n) 1 0

-- the lists of all lanes, one after the other
abbrev pub together : List (List ℕ) → List ℕ
together lists = flat_map (λ (tickets : List ℕ). tickets) lists

-- what all lanes drew is each number below n once
abbrev pub DrewOnce : List (List ℕ) → ℕ → Type 0
DrewOnce drawn n = IsEachOnce n (together drawn)

-- A lane drew tickets of files, of which there are so many, and then one of none. Or it drew more tickets of files than
-- there are, and none after them.
pub record IsShare (most : ℕ) (drawn tickets : List ℕ) : Type 0 where
  pub rest : List ℕ
  pub is : drawn ≡ tickets ++ rest
  pub inside : All (λ t. t < most) tickets
  pub ends :
      ((last : ℕ) × (rest ≡ last ∷ []) × (most ≤ last))
      ⊎ ((rest ≡ []) × (most < length tickets))

-- of each lane, in order: what it drew, and which of it were tickets of files
abbrev pub AreLanes : ℕ → List (List ℕ) → List (List ℕ) → Type 0
AreLanes most [] [] = Unit {0}
AreLanes most [] (tickets ∷ shares) = ⊥
AreLanes most (one ∷ drawn) [] = ⊥
AreLanes most (one ∷ drawn) (tickets ∷ shares) =
    IsShare most one tickets × AreLanes most drawn shares

-- the file that a ticket stands for
abbrev pub file_of : {A : Type 0} → A → List A → ℕ → A
file_of none files t = slice_index_or files (t % length files) none

-- it stands for a file in the last round, or for none
abbrev pub is_last : {A : Type 0} → ℕ → List A → ℕ → Bool
is_last rounds files t = nat_le (rounds - 1) (t / length files)
