use Rattle.std.proofs.Common.{◌≡◌, ◌++◌, codes, string_bytes, take}
use Rattle.std.specs.List.{flat_map}
use Rattle.cdrc_scripts.proofs.shown.push_names.Given as goal

-- the first names are written
abbrev pub invariant-loop-name : goal.invariant-loop-name
invariant-loop-name l =
    l.text.items
    ≡ l.initial.text.items ++ flat_map (λ name. codes " " ++ string_bytes name) (take l.name-index l.names)
