-- The moves that show a command, and what the trail of a desk's seat shows of it.
use Rattle.std.specs.Prelude.{◌≡◌, List, [], ◌∷◌, Option, Some, None}
use Rattle.script_desk.specs.plain_state.declared.act.EventPlace.{EventPlace}
use Rattle.script_desk.specs.plain_state.declared.slot.SlotId.{SlotId}
use Rattle.lone_heap.specs.core_events.declared.act.Act.TheVariants as act
use Rattle.lone_heap.specs.core_events.declared.outcome.Outcome.TheVariants as outcome
use Rattle.lone_heap.specs.core_events.declared.view.CoreView.{CoreView}
use Rattle.lone_heap.specs.core_events.declared.view.Move.{Move}
use Rattle.lone_heap.specs.acquire_retire.Collecting.{move}
use Rattle.lone_heap.specs.Trails.{Shows, counted, exchanged, found_ended, lost, replaced, upgraded}
use Rattle.script_desk.specs.script_lines.declared.command.Command.{Command}
use Rattle.script_desk.specs.script_lines.declared.command.Command.TheVariants as command
use Rattle.script_desk.specs.declared.said.Said.{Said}
use Rattle.script_desk.specs.declared.said.Said.TheVariants as said

-- A start for a make, an add for an upgrade, with its answer, an exchange for what is put or cleared, a compare and
-- exchange for a replacement, done or lost, and for counts both counts with their numbers. No other command is shown.
abbrev pub AreMarks : Command → Said → List Move → Type 0
AreMarks (command.Make name weight) said.Made ms = ms ≡ move act.Start outcome.Plain ∷ []
AreMarks (command.Upgrade name new) said.Up ms = (s : SlotId) × (ms ≡ upgraded s)
AreMarks (command.Upgrade name new) said.Dead ms = (s : SlotId) × (ms ≡ found_ended s)
AreMarks (command.Put place name) said.Nothing ms =
    (at : EventPlace) × (s : SlotId) × (held : Option SlotId) × (ms ≡ exchanged at (Some s) held)
AreMarks (command.Clear place) said.Nothing ms =
    (at : EventPlace) × (held : Option SlotId) × (ms ≡ exchanged at None held)
AreMarks (command.Replace place old new) said.Done ms =
    (at : EventPlace) × (x : Option SlotId) × (y : Option SlotId) × (ms ≡ replaced at x y)
AreMarks (command.Replace place old new) said.Lost ms =
    (at : EventPlace) × (x : Option SlotId) × (y : Option SlotId) × (found : Option SlotId)
    × (ms ≡ lost at x y found)
AreMarks (command.Counts name) (said.Counts strong weak) ms =
    (s : SlotId) × (ms ≡ counted s (strong, weak))
AreMarks _ _ ms = ms ≡ []

-- the trail has gone on by moves among which those stand that show the command
abbrev pub ShowsCommand : Command → Said → CoreView → CoreView → Type 0
ShowsCommand c answer v w = (marks : List Move) × AreMarks c answer marks × Shows marks v w
