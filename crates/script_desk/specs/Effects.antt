-- What each command does: the plain steps that it makes, what becomes of the names, and what it answers.
use Rattle.std.specs.Prelude.{ℕ, ◌≡◌, ◌⊎◌, Bool, true, false, List, slice_index, Option, Some, None}
use Rattle.plain_audit.specs.plain_state.declared.act.EventPlace.{EventPlace}
use Rattle.plain_audit.specs.plain_state.declared.act.EventPlace.TheVariants.{Cell, Field, WeakCell, WeakField}
use Rattle.plain_audit.specs.plain_state.declared.act.PlainAct.TheVariants as act
use Rattle.plain_audit.specs.plain_state.declared.slot.SlotId.{SlotId}
use Rattle.plain_audit.specs.plain_state.State.{slot_at}
use Rattle.plain_audit.specs.plain_state.References.{strong_refs, weak_refs}
use Rattle.plain_audit.specs.plain_state.Steps.{Does}
use Rattle.plain_settling.specs.plain_store.Heaps.{NoneFree, Makes}
use Rattle.plain_settling.specs.plain_store.Calls.{Gains, WeaklyGains, Puts, Tries, Loads, WeaklyLoads, ending}
use Rattle.plain_settling.specs.Snapshots.{Takes}
use Rattle.script_lines.specs.declared.command.Command.{Command}
use Rattle.script_lines.specs.declared.command.Command.TheVariants as command
use Rattle.script_lines.specs.declared.command.TextPlace.{TextPlace}
use Rattle.script_lines.specs.declared.command.TextPlace.TheVariants as text
use Rattle.script_desk.specs.declared.handle.Handle.{Handle}
use Rattle.script_desk.specs.declared.handle.Handle.TheVariants.{Strong, Weak, Snapshot}
use Rattle.script_desk.specs.declared.said.Said.{Said}
use Rattle.script_desk.specs.declared.said.Said.TheVariants as said
use Rattle.script_desk.specs.Handles.{slot_of}
use Rattle.script_desk.specs.Kinds.{script_payload}
use Rattle.script_desk.specs.Desks.{Desk, Names, bound, Binds, SameMakers, MadeBy, Settles}
use Rattle.script_desk.specs.Audits.{AnswersAudit}

-- the place that the words of a command name
abbrev pub IsPlace : Names → TextPlace → EventPlace → Type 0
IsPlace names (text.Cell i) place = place ≡ Cell i
IsPlace names (text.WeakCell i) place = place ≡ WeakCell i
IsPlace names (text.Field name i) place =
    (h : Handle) × (bound names name ≡ Some h) × (place ≡ Field (slot_of h) i)
IsPlace names (text.WeakField name) place =
    (h : Handle) × (bound names name ≡ Some h) × (place ≡ WeakField (slot_of h))

-- the slot that a name or `null` stands for
abbrev pub IsSlotOf : Names → Option (List ℕ) → Option SlotId → Type 0
IsSlotOf names None slot = slot ≡ None
IsSlotOf names (Some name) slot =
    (h : Handle) × (bound names name ≡ Some h) × (slot ≡ Some (slot_of h))

-- the name is bound to h now; no slot was made
abbrev pub Gets : Desk → List ℕ → Handle → Desk → Type 0
Gets d name h e = Binds d.names name (Some h) e.names × SameMakers d e

-- the name isn't bound any more
abbrev pub Gives : Desk → List ℕ → Desk → Type 0
Gives d name e = Binds d.names name None e.names × SameMakers d e

-- the names stay
abbrev pub Keeps : Desk → Desk → Type 0
Keeps d e = (e.names ≡ d.names) × SameMakers d e

-- a new object, or none where no slot is free
abbrev pub MakesOne : Desk → List ℕ → ℕ → Said → Desk → Type 0
MakesOne d name weight answer e =
    ((answer ≡ said.Full) × NoneFree d.plain × (e ≡ d))
    ⊎ ((answer ≡ said.Made) × ((s : SlotId) × Makes d.plain s (script_payload weight) e.plain
    × Binds d.names name (Some (Strong s)) e.names × MadeBy d name s e))

-- an upgrade of a weak reference to s
abbrev pub UpgradesOne : Desk → SlotId → List ℕ → Said → Desk → Type 0
UpgradesOne d s new answer e =
    ((answer ≡ said.Up) × Gains d.plain s s e.plain × Gets d new (Strong s) e)
    ⊎ ((answer ≡ said.Dead) × Does d.plain 0 (act.Add s) 1 e.plain × Keeps d e)

-- a load of a strong place, and of a weak one
abbrev pub LoadsStrong : Desk → EventPlace → List ℕ → Said → Desk → Type 0
LoadsStrong d place new answer e =
    ((answer ≡ said.Loaded)
    × ((s : SlotId) × Loads d.plain place (Some s) e.plain × Gets d new (Strong s) e))
    ⊎ ((answer ≡ said.Null) × Loads d.plain place None e.plain × Keeps d e)

abbrev pub LoadsWeak : Desk → EventPlace → List ℕ → Said → Desk → Type 0
LoadsWeak d place new answer e =
    ((answer ≡ said.Loaded)
    × ((s : SlotId) × WeaklyLoads d.plain place (Some s) e.plain × Gets d new (Weak s) e))
    ⊎ ((answer ≡ said.Null) × WeaklyLoads d.plain place None e.plain × Keeps d e)

abbrev pub LoadsOne : Desk → TextPlace → EventPlace → List ℕ → Said → Desk → Type 0
LoadsOne d (text.Cell i) = LoadsStrong d
LoadsOne d (text.WeakCell i) = LoadsWeak d
LoadsOne d (text.Field name i) = LoadsStrong d
LoadsOne d (text.WeakField name) = LoadsWeak d

-- the reference that a name or `null` stands for left its name
abbrev pub GivesNew : Desk → Option (List ℕ) → Desk → Type 0
GivesNew d None e = Keeps d e
GivesNew d (Some name) e = Gives d name e

-- a place is replaced where it holds what is expected
abbrev pub ReplacesOne :
    Desk → EventPlace → Option SlotId → Option SlotId → Option (List ℕ) → Said → Desk → Type 0
ReplacesOne d place old slot new answer e =
    ((answer ≡ said.Done) × Tries d.plain place old slot true e.plain × GivesNew d new e)
    ⊎ ((answer ≡ said.Lost) × Tries d.plain place old slot false e.plain × Keeps d e)

-- what a snapshot answers, where it is counted or isn't
abbrev pub snapped : Bool → Said
snapped true = said.Counted
snapped false = said.Snapped

abbrev pub SnapsOne : Desk → EventPlace → List ℕ → Said → Desk → Type 0
SnapsOne d place new answer e =
    ((s : SlotId) × (counted : Bool) × (answer ≡ snapped counted)
    × Takes d.plain place (Some (s, counted)) e.plain × Gets d new (Snapshot (s, counted)) e)
    ⊎ ((answer ≡ said.Null) × Takes d.plain place None e.plain × Keeps d e)

-- command c, at the desk d, answers so and leaves e, before the heap settles
abbrev pub Acts : Desk → Command → Said → Desk → Type 0
Acts d (command.Make name weight) answer e = MakesOne d name weight answer e
Acts d (command.Copy name new) answer e =
    (answer ≡ said.Nothing)
    × ((s : SlotId) × (bound d.names name ≡ Some (Strong s))
    × Gains d.plain s s e.plain × Gets d new (Strong s) e)
Acts d (command.Drop name) answer e =
    (answer ≡ said.Nothing)
    × ((s : SlotId) × (bound d.names name ≡ Some (Strong s))
    × Does d.plain 0 (act.Drop s) 0 e.plain × Gives d name e)
Acts d (command.Weaken name new) answer e =
    (answer ≡ said.Nothing)
    × ((s : SlotId) × (bound d.names name ≡ Some (Strong s))
    × WeaklyGains d.plain s s e.plain × Gets d new (Weak s) e)
Acts d (command.CopyWeak name new) answer e =
    (answer ≡ said.Nothing)
    × ((s : SlotId) × (bound d.names name ≡ Some (Weak s))
    × WeaklyGains d.plain s s e.plain × Gets d new (Weak s) e)
Acts d (command.DropWeak name) answer e =
    (answer ≡ said.Nothing)
    × ((s : SlotId) × (bound d.names name ≡ Some (Weak s))
    × Does d.plain 0 (act.WeakDrop s) 0 e.plain × Gives d name e)
Acts d (command.Upgrade name new) answer e =
    (s : SlotId) × (bound d.names name ≡ Some (Weak s)) × UpgradesOne d s new answer e
Acts d (command.Put place name) answer e =
    (answer ≡ said.Nothing)
    × ((at : EventPlace) × (h : Handle) × IsPlace d.names place at × (bound d.names name ≡ Some h)
    × Puts d.plain at (Some (slot_of h)) e.plain × Gives d name e)
Acts d (command.Clear place) answer e =
    (answer ≡ said.Nothing)
    × ((at : EventPlace) × IsPlace d.names place at × Puts d.plain at None e.plain × Keeps d e)
Acts d (command.Load place new) answer e =
    (at : EventPlace) × IsPlace d.names place at × LoadsOne d place at new answer e
Acts d (command.Replace place old new) answer e =
    (at : EventPlace) × (expected : Option SlotId) × (slot : Option SlotId)
    × IsPlace d.names place at × IsSlotOf d.names old expected × IsSlotOf d.names new slot
    × ReplacesOne d at expected slot new answer e
Acts d (command.Snap place new) answer e =
    (at : EventPlace) × IsPlace d.names place at × SnapsOne d at new answer e
Acts d (command.EndSnapshot name) answer e =
    (answer ≡ said.Nothing)
    × ((s : SlotId) × (counted : Bool) × (bound d.names name ≡ Some (Snapshot (s, counted)))
    × Does d.plain 0 (ending s counted) 0 e.plain × Gives d name e)
Acts d (command.Keep name new) answer e =
    (answer ≡ said.Nothing)
    × ((s : SlotId) × (counted : Bool) × (bound d.names name ≡ Some (Snapshot (s, counted)))
    × Gains d.plain s s e.plain × Gets d new (Strong s) e)
Acts d (command.Read name word) answer e =
    (h : Handle) × (bound d.names name ≡ Some h)
    × (answer ≡ said.Word (slice_index (slot_at d.plain (slot_of h)).payload word)) × (e ≡ d)
Acts d (command.Counts name) answer e =
    (h : Handle) × (bound d.names name ≡ Some h)
    × (answer ≡ said.Counts (strong_refs d.plain (slot_of h)) (weak_refs d.plain (slot_of h)))
    × (e ≡ d)
Acts d command.Audit answer e = AnswersAudit d answer × (e ≡ d)

-- the same, and then the heap settles
abbrev pub Runs : Desk → Command → Said → Desk → Type 0
Runs d c answer f = (e : Desk) × Acts d c answer e × Settles e f
