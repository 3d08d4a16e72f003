-- A map of names as the list of them.
use Rattle.std.specs.Prelude.{ℕ, List, map, string_bytes}
use Rattle.std.specs.Global.{Global}
use Rattle.std.specs.declared.string.String.{String}
use Rattle.script_desk.specs.declared.handle.Handle.{Handle}
use Rattle.script_desk.specs.Desks.{Names}

abbrev pub name_of : String Global × Handle → List ℕ × Handle
name_of entry = (string_bytes entry.0, entry.1)

abbrev pub names_of : List (String Global × Handle) → Names
names_of entries = map name_of entries
