-- The status that a run ends with.
use Rattle.std.specs.Prelude.{ℕ, ◌≡◌, ◌⊎◌, ◌==◌, if◌then◌else◌, List, [], codes}

-- one of the statuses that a run ends with
abbrev pub IsStatus : ℕ → Type 0
IsStatus status =
    (status ≡ 0) ⊎ (status ≡ 2) ⊎ (status ≡ 3) ⊎ (status ≡ 4) ⊎ (status ≡ 5) ⊎ (status ≡ 6)
    ⊎ (status ≡ 7) ⊎ (status ≡ 8) ⊎ (status ≡ 9)

-- the line for a status on standard error: none where the work was done
abbrev pub line_for : ℕ → List ℕ
line_for status =
    if status == 0 then []
    else if status == 2 then codes "cdrc_words: usage"
    else if status == 3 then codes "cdrc_words: read fault"
    else if status == 4 then codes "cdrc_words: write fault"
    else if status == 5 then codes "cdrc_words: input too large"
    else if status == 6 then codes "cdrc_words: slots full"
    else if status == 7 then codes "cdrc_words: counts spent"
    else if status == 8 then codes "cdrc_words: line refused"
    else codes "cdrc_words: out of memory"
