-- A walk over the entries finds the first of a name.
use Rattle.std.proofs.Common.{◌≡◌, ℕ, ◌+◌, ◌<◌, List, length, get_or, drop, Some, ◌∷◌, sym, ap, ◌∙◌, true, false, nat_eq, string_bytes, if◌then◌else◌}
use Rattle.std.proofs.lemmas.List.{drop_more}
use Rattle.std.specs.declared.alloc.Global.{Global}
use Rattle.std.specs.declared.string.String.{String}
use Rattle.std.specs.declared.vec.Vec.{Vec}
use lib.Pointwise.{pointwise}
use Rattle.lane_gate.specs.Contents.{content_of, entries_of}

-- the entry at i has the name
pub found_at : (pairs : List (String Global × Vec ℕ Global)) (name : List ℕ) (i : ℕ)
    (pair : String Global × Vec ℕ Global) → i < length pairs → pair ≡ get_or pairs i pair →
    pointwise nat_eq (string_bytes pair.0) name ≡ true →
    content_of (entries_of (drop i pairs)) name ≡ Some pair.1.items
found_at pairs name i pair within is same =
    ap (λ rest. content_of (entries_of rest) name) (drop_more pairs i pair within)
    ∙ ap (λ entry. content_of (entries_of (entry ∷ drop (i + 1) pairs)) name) (sym is)
    ∙ ap (λ b. if b then Some pair.1.items
    else content_of (entries_of (drop (i + 1) pairs)) name) same

-- the entry at i has another name
pub passed_at : (pairs : List (String Global × Vec ℕ Global)) (name : List ℕ) (i : ℕ)
    (pair : String Global × Vec ℕ Global) → i < length pairs → pair ≡ get_or pairs i pair →
    pointwise nat_eq (string_bytes pair.0) name ≡ false →
    content_of (entries_of (drop i pairs)) name ≡ content_of (entries_of (drop (i + 1) pairs)) name
passed_at pairs name i pair within is other =
    ap (λ rest. content_of (entries_of rest) name) (drop_more pairs i pair within)
    ∙ ap (λ entry. content_of (entries_of (entry ∷ drop (i + 1) pairs)) name) (sym is)
    ∙ ap (λ b. if b then Some pair.1.items
    else content_of (entries_of (drop (i + 1) pairs)) name) other
