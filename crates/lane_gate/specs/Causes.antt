-- When a count of faults, or of overlong reads, rose in a call.
use Rattle.std.specs.Prelude.{ℕ, ◌+◌, ◌-◌, ◌^◌, ◌<◌, ◌≤◌, min, Bool, if◌then◌else◌}

-- the last value of a count: there it stands still
abbrev pub last_count : ℕ
last_count = 2 ^ 64 - 1

-- the count after one more
abbrev pub one_more : ℕ → ℕ
one_more count = min (count + 1) last_count

-- the count after a call in which what it counts happened, or did not
abbrev pub counting : Bool → ℕ → ℕ
counting happened count = if happened then one_more count else count

-- the count rose in the call; one that stands at its last value at the return counts as risen
abbrev pub Rose : ℕ → ℕ → Type 0
Rose before now = one_more before ≤ now

-- the count did not rise in the call
abbrev pub Stood : ℕ → ℕ → Type 0
Stood before now = now < one_more before
