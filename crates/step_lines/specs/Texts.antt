-- How an event and its outcome are written.
use Rattle.std.specs.Prelude.{ℕ, List, ◌++◌, codes, Option, Some, None}
use Rattle.std.specs.Fmt.{decimal}
use Rattle.core_events.specs.plain_state.declared.slot.SlotId.{SlotId}
use Rattle.core_events.specs.declared.act.Act.{Act}
use Rattle.core_events.specs.declared.act.Act.TheVariants as act
use Rattle.core_events.specs.declared.outcome.Outcome.{Outcome}
use Rattle.core_events.specs.declared.outcome.Outcome.TheVariants as outcome

-- the name of an act's event
abbrev pub event_name : Act → List ℕ
event_name (act.Add s) = codes "add"
event_name (act.Drop s) = codes "drop"
event_name act.Pay = codes "pay"
event_name act.Finish = codes "finish"
event_name act.Take = codes "take"
event_name (act.Count s) = codes "count"
event_name act.Mark = codes "mark"
event_name (act.Announce j k s) = codes "announce"
event_name (act.Release j) = codes "release"
event_name (act.Look p) = codes "look"
event_name (act.Check j p) = codes "check"
event_name (act.Alive j) = codes "alive"
event_name act.Scan = codes "scan"
event_name (act.Swap p new) = codes "swap"
event_name (act.Cas p old new) = codes "cas"
event_name (act.Claim s) = codes "claim"
event_name act.Arm = codes "arm"
event_name (act.Fill i value) = codes "fill"
event_name act.Start = codes "start"
event_name (act.See s i) = codes "see"
event_name act.Free = codes "free"
event_name act.Ticket = codes "ticket"
event_name (act.Wadd s) = codes "wadd"
event_name (act.Wdrop s) = codes "wdrop"
event_name (act.Destroy s) = codes "destroy"
event_name (act.Wcount s) = codes "wcount"
event_name (act.Leave j) = codes "leave"

-- the slot's number, or `null` for none
abbrev pub content_text : Option SlotId → List ℕ
content_text None = codes "null"
content_text (Some s) = decimal s.0

abbrev pub outcome_text : Outcome → List ℕ
outcome_text outcome.Plain = codes "ok"
outcome_text outcome.Up = codes "up"
outcome_text outcome.Dead = codes "dead"
outcome_text outcome.Left = codes "left"
outcome_text outcome.Zeroed = codes "zero"
outcome_text outcome.Last = codes "last"
outcome_text outcome.Ended = codes "ended"
outcome_text outcome.Help = codes "help"
outcome_text outcome.Lost = codes "lost"
outcome_text outcome.NoHelp = codes "none"
outcome_text outcome.Again = codes "again"
outcome_text (outcome.Number value) = decimal value
outcome_text (outcome.Found content) = content_text content
outcome_text outcome.Valid = codes "valid"
outcome_text (outcome.Moved content) = codes "moved " ++ content_text content
outcome_text (outcome.Word word) = decimal word
outcome_text (outcome.Split word kept ejected) =
    decimal word ++ codes " kept " ++ decimal kept ++ codes " ejected " ++ decimal ejected
outcome_text outcome.Done = codes "done"
outcome_text (outcome.LostTo content) = codes "lost " ++ content_text content
outcome_text outcome.Claimed = codes "claimed"
outcome_text (outcome.Taken word) = codes "taken " ++ decimal word
outcome_text outcome.Alive = codes "alive"

-- the line: the event's name, a space, its outcome, and a line feed
abbrev pub event_text : Act → Outcome → List ℕ
event_text a o = event_name a ++ codes " " ++ outcome_text o ++ codes "\n"
