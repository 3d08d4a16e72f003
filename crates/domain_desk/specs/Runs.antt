-- What a command has done on a domain before all is tidied that may be.
use Rattle.std.specs.Prelude.{ℕ, ◌≡◌, List, Some}
use Rattle.script_desk.specs.plain_state.Steps.{Does}
use Rattle.script_desk.specs.script_lines.declared.command.Command.{Command}
use Rattle.script_desk.specs.declared.handle.Handle.{Handle}
use Rattle.script_desk.specs.declared.said.Said.{Said}
use Rattle.script_desk.specs.Desks.{Desk, Tidied, bound}
use Rattle.script_desk.specs.Effects.{Acts, Gives}
use Rattle.script_desk.specs.Holding.{giving}

-- the command answers so, by its row, and the heap is tidied after that
abbrev pub Begins : Desk → Command → Said → Desk → Type 0
Begins d c answer f = (e : Desk) × Acts d c answer e × Tidied e f

-- what the name was bound to is given up, and the heap is tidied after that
abbrev pub GivesNamed : Desk → List ℕ → Desk → Type 0
GivesNamed d name f =
    (h : Handle) × (e : Desk) × (bound d.names name ≡ Some h) × Does d.plain 0 (giving h) 0 e.plain
    × Gives d name e × Tidied e f
