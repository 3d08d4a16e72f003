-- The line that a command writes, by what it answered.
use Rattle.std.specs.Prelude.{ℕ, ◌<◌, ◌^◌, ⊤, ◌==◌, List, [], ◌++◌, codes, string_bytes, if◌then◌else◌}
use Rattle.std.specs.Fmt.{decimal}
use Rattle.std.specs.List.{flat_map}
use Rattle.line_machine.specs.cdrc_text.Report.{audit_line}
use Rattle.script_law.specs.script_lines.declared.command.Command.{Command}
use Rattle.script_law.specs.script_lines.declared.command.Command.TheVariants as command
use Rattle.script_law.specs.script_desk.declared.said.Said.{Said}
use Rattle.script_law.specs.script_desk.declared.said.Said.TheVariants as said
use Rattle.script_law.specs.script_desk.declared.said.Shown.{Shown}

-- `WORD NAME ANSWER` and a line feed
abbrev pub told : List ℕ → List ℕ → List ℕ → List ℕ
told word name answer = word ++ codes " " ++ name ++ codes " " ++ answer ++ codes "\n"

-- `walk` and the names, where there is a walk
abbrev pub walk_line : Shown → List ℕ
walk_line shown =
    if shown.cyclic == 0
    then []
    else codes "walk" ++ flat_map (λ name. codes " " ++ string_bytes name) shown.walk.items ++ codes "\n"

-- `NAME live L deferred D cyclic C bytes Y`
abbrev pub numbers_line : List ℕ → Shown → List ℕ
numbers_line name shown =
    audit_line name (record {
      live = shown.live;
      deferred = shown.deferred;
      cyclic = shown.cyclic;
      bytes = shown.bytes;
    })

-- the numbers, and the walk
abbrev pub audit_lines : Shown → List ℕ
audit_lines shown = numbers_line (codes "audit") shown ++ walk_line shown

abbrev pub said_line : Command → Said → List ℕ
said_line (command.Make name weight) said.Made = told (codes "make") name (codes "ok")
said_line (command.Make name weight) said.Full = told (codes "make") name (codes "full")
said_line (command.Upgrade name new) said.Up = told (codes "up") name (codes "ok")
said_line (command.Upgrade name new) said.Dead = told (codes "up") name (codes "dead")
said_line (command.Load place new) said.Loaded = told (codes "load") new (codes "ok")
said_line (command.Load place new) said.Null = told (codes "load") new (codes "null")
said_line (command.Replace place old new) said.Done = codes "cas done\n"
said_line (command.Replace place old new) said.Lost = codes "cas lost\n"
said_line (command.Snap place new) said.Snapped = told (codes "snap") new (codes "ok")
said_line (command.Snap place new) said.Counted = told (codes "snap") new (codes "counted")
said_line (command.Snap place new) said.Null = told (codes "snap") new (codes "null")
said_line (command.Read name word) (said.Word value) =
    told (codes "read") name (decimal word ++ codes " " ++ decimal value)
said_line (command.Counts name) (said.Counts strong weak) =
    told (codes "counts") name (codes "strong " ++ decimal strong ++ codes " weak " ++ decimal weak)
said_line command.Audit (said.Audited shown) = audit_lines shown
said_line _ _ = []

-- the word that a command reads is a number of 64 bits, as one in range is
abbrev pub HasSmallWord : Command → Type 0
HasSmallWord (command.Read name word) = word < 2 ^ 64
HasSmallWord _ = ⊤
