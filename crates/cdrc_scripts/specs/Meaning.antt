-- What a script writes.
use Rattle.std.specs.Prelude.{ℕ, ◌≡◌, ◌≤◌, Bool, true, false, List, [], Option, Some, None}
use Rattle.script_law.specs.plain_state.Limits.{most_cells, most_slots, most_weak_cells}
use Rattle.script_law.specs.plain_state.declared.slot.SlotId.{SlotId}
use Rattle.script_law.specs.plain_state.State.{empty}
use Rattle.line_machine.specs.line_words.declared.reason.Reason.{Reason}
use Rattle.line_machine.specs.line_words.declared.reason.Reason.TheVariants.{Syntax, Range, Name, Kind, NotEnabled}
use Rattle.line_machine.specs.line_words.Refused.{refused_line}
use Rattle.line_machine.specs.Runs.{IsRun}
use Rattle.script_law.specs.script_lines.declared.command.Command.{Command}
use Rattle.script_law.specs.script_lines.declared.command.ScriptLine.TheVariants.{Heap}
use Rattle.script_law.specs.script_lines.Spelling.{Spells, SpellsCommand}
use Rattle.script_law.specs.script_desk.declared.said.Said.{Said}
use Rattle.script_law.specs.script_desk.Desks.{Desk, maker_of, nobody, scope_of}
use Rattle.script_law.specs.script_desk.Faults.{IsFault, IsFaultless}
use Rattle.script_law.specs.script_desk.Effects.{Runs}
use Rattle.cdrc_scripts.specs.SaidLines.{said_line}

-- the numbers of a heap
abbrev pub IsHeapInRange : ℕ → ℕ → ℕ → Type 0
IsHeapInRange slots cells weak_cells =
    (1 ≤ slots) × (slots ≤ most_slots) × (cells ≤ most_cells) × (weak_cells ≤ most_weak_cells)

-- the desk of a heap with nothing in it: no name is bound, and nothing was made
abbrev pub IsOpened : ℕ → ℕ → ℕ → Desk → Type 0
IsOpened slots cells weak_cells d =
    (d.plain ≡ empty 1 slots cells weak_cells) × (d.names ≡ []) × (d.makes ≡ 0)
    × ((s : SlotId) → maker_of d s ≡ nobody)

-- a command without a fault runs, writes its line and leaves e
abbrev pub RunsTo : Desk → Command → List ℕ → Desk → Type 0
RunsTo d c out e =
    (answer : Said) × IsFaultless (scope_of d) c × Runs d c answer e × (out ≡ said_line c answer)

-- the first line gives a heap its numbers and writes nothing; every later line is a command without a fault, which runs
abbrev pub Takes : Option Desk → List (List ℕ) → List ℕ → Option Desk → Type 0
Takes None words out next =
    (slots : ℕ) × (cells : ℕ) × (weak_cells : ℕ) × (d : Desk) × Spells (Heap slots cells weak_cells) words
    × IsHeapInRange slots cells weak_cells × IsOpened slots cells weak_cells d
    × (out ≡ []) × (next ≡ Some d)
Takes (Some d) words out next =
    (c : Command) × (e : Desk) × SpellsCommand c words × RunsTo d c out e × (next ≡ Some e)

-- no heap, or no command, is spelled; a number of the heap is out of range; or the command has a fault, which is the
-- first of range, name and kind that holds
abbrev pub Refuses : Option Desk → List (List ℕ) → Reason → Type 0
Refuses None words Syntax = (slots cells weak_cells : ℕ) → Spells (Heap slots cells weak_cells) words → ⊥
Refuses None words Range =
    (slots : ℕ) × (cells : ℕ) × (weak_cells : ℕ) × Spells (Heap slots cells weak_cells) words
    × (IsHeapInRange slots cells weak_cells → ⊥)
Refuses None words Name = ⊥
Refuses None words Kind = ⊥
Refuses None words NotEnabled = ⊥
Refuses (Some d) words Syntax = (c : Command) → SpellsCommand c words → ⊥
Refuses (Some d) words Range =
    (c : Command) × SpellsCommand c words × IsFault (scope_of d) c (Some Range)
Refuses (Some d) words Name =
    (c : Command) × SpellsCommand c words × IsFault (scope_of d) c (Some Name)
Refuses (Some d) words Kind =
    (c : Command) × SpellsCommand c words × IsFault (scope_of d) c (Some Kind)
Refuses (Some d) words NotEnabled = ⊥

-- a text without a heap is refused at its first line
abbrev pub Ends : Option Desk → List ℕ → Bool → Type 0
Ends None out refused = (out ≡ refused_line 1 Syntax) × (refused ≡ true)
Ends (Some d) out refused = (out ≡ []) × (refused ≡ false)

-- the text writes these bytes; `refused` tells whether a line of it is refused
abbrev pub IsScript : List ℕ → List ℕ → Bool → Type 0
IsScript text bytes refused =
    (last : Option Desk) × IsRun Takes Refuses Ends None text bytes refused last
