-- What a list of steps writes.
use Rattle.std.specs.Prelude.{ℕ, ◌≡◌, ◌+◌, ◌^◌, ◌==◌, Bool, true, false, List, [], ◌++◌, replicate, codes, Option, Some, None, if◌then◌else◌}
use Rattle.std.specs.Fmt.{decimal}
use Rattle.std.specs.List.{flat_map, range_with_len}
use Rattle.step_lines.specs.plain_state.declared.slot.SlotId.{SlotId}
use Rattle.step_lines.specs.core_events.declared.act.Event.{Event}
use Rattle.step_lines.specs.core_events.declared.shape.Shape.{Shape}
use Rattle.step_lines.specs.core_events.declared.shape.Quota.{Quota}
use Rattle.step_lines.specs.core_events.Views.{Terms}
use Rattle.step_lines.specs.core_events.Counts.{free_bit, strong, weak}
use Rattle.step_lines.specs.core_events.Runs.{Core, Enabled, IsShape, after, outcome_of, start}
use Rattle.line_machine.specs.line_words.declared.reason.Reason.{Reason}
use Rattle.line_machine.specs.line_words.declared.reason.Reason.TheVariants.{Syntax, Range, NotEnabled}
use Rattle.line_machine.specs.line_words.Refused.{refused_line}
use Rattle.line_machine.specs.Runs.{IsRun}
use Rattle.step_lines.specs.Spelling.{SpellsEvent, SpellsShape}
use Rattle.step_lines.specs.Texts.{event_text}
use Rattle.cdrc_steps.specs.Ranges.{IsInRange}
use Rattle.cdrc_steps.specs.Runnings.{Running}

-- each seat may use up 2^40 makes and adds, and tickets grant nothing
abbrev pub quotas_of : Shape → List Quota
quotas_of z = replicate z.seats (record { makes = 2 ^ 40; adds = 2 ^ 40 })

abbrev pub terms_of : Shape → Terms
terms_of z = record { quotas = quotas_of z; grants = [] }

abbrev pub opened : Shape → Running
opened z = record { shape = z; core = start z (terms_of z); events = 0 }

abbrev pub moved_on : Running → Event → Running
moved_on r e = record { shape = r.shape; core = after r.shape r.core e.seat e.act; events = r.events + 1 }

-- the first line is a shape in its ranges, and writes nothing; every later line is an event that its seat may make, and
-- writes its name and its outcome
abbrev pub Takes : Option Running → List (List ℕ) → List ℕ → Option Running → Type 0
Takes None words out next =
    (z : Shape) × SpellsShape words z × IsShape z × (out ≡ []) × (next ≡ Some (opened z))
Takes (Some r) words out next =
    (e : Event) × SpellsEvent words e × IsInRange r.shape e × Enabled r.shape r.core e.seat e.act
    × (out ≡ event_text e.act (outcome_of r.shape r.core e)) × (next ≡ Some (moved_on r e))

-- the words spell none, or one with a number out of its range, or one that the seat may not make
abbrev pub Refuses : Option Running → List (List ℕ) → Reason → Type 0
Refuses None words Syntax = (z : Shape) → SpellsShape words z → ⊥
Refuses None words Range = (z : Shape) × SpellsShape words z × (IsShape z → ⊥)
Refuses (Some r) words Syntax = (e : Event) → SpellsEvent words e → ⊥
Refuses (Some r) words Range = (e : Event) × SpellsEvent words e × (IsInRange r.shape e → ⊥)
Refuses (Some r) words NotEnabled =
    (e : Event) × SpellsEvent words e × IsInRange r.shape e
    × (Enabled r.shape r.core e.seat e.act → ⊥)
Refuses _ words _ = ⊥

-- `slot S strong W weak W`, for a slot whose bit is clear
abbrev pub slot_line : Shape → Core → ℕ → List ℕ
slot_line z c x =
    let s : SlotId = record { 0 = x } in
    if free_bit z c s == 1
    then []
    else codes "slot " ++ decimal x ++ codes " strong " ++ decimal (strong z c s)
    ++ codes " weak " ++ decimal (weak z c s) ++ codes "\n"

-- the lines of all slots, and how many events there were
abbrev pub closing : Running → List ℕ
closing r =
    flat_map (slot_line r.shape r.core) (range_with_len 0 r.shape.slots)
    ++ codes "events " ++ decimal r.events ++ codes "\n"

-- a text without a shape is refused at its first line
abbrev pub Ends : Option Running → List ℕ → Bool → Type 0
Ends None out refused = (out ≡ refused_line 1 Syntax) × (refused ≡ true)
Ends (Some r) out refused = (out ≡ closing r) × (refused ≡ false)

-- the text writes these bytes; `refused` tells whether a line of it is refused
abbrev pub IsSteps : List ℕ → List ℕ → Bool → Type 0
IsSteps text bytes refused =
    (last : Option Running) × IsRun Takes Refuses Ends None text bytes refused last
