-- The contents that a source in memory holds, by name.
use Rattle.std.specs.Prelude.{ℕ, List, [], ◌∷◌, map, None, Some, string_bytes, if◌then◌else◌, nat_eq}
use Rattle.std.specs.declared.option.Option.{Option}
use Rattle.std.specs.declared.alloc.Global.{Global}
use Rattle.std.specs.declared.string.String.{String}
use Rattle.std.specs.declared.vec.Vec.{Vec}
use lib.Pointwise.{pointwise}

-- a name and the content under it, both as bytes
pub record Entry : Type 0 where
  pub name : List ℕ
  pub content : List ℕ

-- the entries that pairs of a name and a content stand for
abbrev pub entries_of : List (String Global × Vec ℕ Global) → List Entry
entries_of pairs = map (λ pair. record { name = string_bytes pair.0; content = pair.1.items }) pairs

-- the content under a name: of several entries of one name the first counts
abbrev pub content_of : List Entry → List ℕ → Option (List ℕ)
content_of [] name = None
content_of (entry ∷ rest) name =
    if pointwise nat_eq entry.name name then Some entry.content else content_of rest name
