-- How a script runs on a domain: its desk between two lines, what each line does to it, and what the trail of its seat
-- shows.
use Rattle.std.specs.Prelude.{ℕ, ◌≡◌, ⊤, Bool, List, [], Option, Some, None, option_map}
use Rattle.script_law.specs.plain_store.Settling.{IsSettled}
use Rattle.script_law.specs.plain_protocol.declared.no_law.NoLaw.{NoLaw}
use Rattle.domain_desk.specs.core_events.Shows.{show_seat}
use Rattle.domain_desk.specs.acquire_retire.Calls.{IsOf}
use Rattle.domain_desk.specs.acquire_retire.Seats.{SeatState}
use Rattle.domain_desk.specs.lone_heap.Lone.{IsForOne}
use Rattle.domain_desk.specs.lone_heap.Trails.{Shows}
use Rattle.line_machine.specs.line_words.declared.reason.Reason.{Reason}
use Rattle.line_machine.specs.Runs.{IsRun}
use Rattle.script_law.specs.script_lines.declared.command.Command.{Command}
use Rattle.script_law.specs.script_lines.declared.command.ScriptLine.TheVariants.{Heap}
use Rattle.script_law.specs.script_lines.Spelling.{Spells, SpellsCommand}
use Rattle.script_law.specs.script_desk.declared.kind.ScriptKind.{ScriptKind}
use Rattle.script_law.specs.script_desk.declared.said.Said.{Said}
use Rattle.script_law.specs.script_desk.Desks.{Desk, scope_of}
use Rattle.script_law.specs.script_desk.Effects.{Runs}
use Rattle.script_law.specs.script_desk.Faults.{IsFaultless}
use Rattle.domain_desk.specs.Closing.{HasNoHandles}
use Rattle.domain_desk.specs.Desks.{DeskState, IsKept, core_of, desk_of, plain_of}
use Rattle.domain_desk.specs.Marks.{ShowsCommand}
use Rattle.cdrc_scripts.specs.Meaning.{Ends, IsHeapInRange, IsOpened, Refuses}
use Rattle.cdrc_scripts.specs.SaidLines.{said_line}

-- the desk of a script on a domain, and what a script has between two lines: no desk before its heap
abbrev pub OnDomain : Type 0
OnDomain = DeskState (NoLaw ScriptKind)

abbrev pub Place : Type 0
Place = Option OnDomain

-- there is no heap yet, or it is settled
abbrev pub IsSettledDesk : Place → Type 0
IsSettledDesk None = ⊤
IsSettledDesk (Some d) = IsKept d × IsSettled (plain_of d)

-- the desk as the commands' rows tell of it
abbrev pub told : Place → Option Desk
told s = option_map desk_of s

-- the seat is one of the desk's domain
abbrev pub IsSeated : OnDomain → Type 0
IsSeated d = IsOf d.domain d.seat

-- A command without a fault answers so, by its row, writes its line and leaves e. The trail of the seat shows it, and
-- the domain is the same.
pub record RunsOn (d : OnDomain) (c : Command) (out : List ℕ) (e : OnDomain) : Type 0 where
  pub answer : Said
  pub faultless : IsFaultless (scope_of (desk_of d)) c
  pub runs : Runs (desk_of d) c answer (desk_of e)
  pub written : out ≡ said_line c answer
  pub shown : ShowsCommand c answer (core_of d) (core_of e)
  pub domain : e.domain ≡ d.domain
  pub seated : IsSeated e

-- The first line gives a heap its numbers, and writes nothing: it opens a domain of one seat and these numbers, and the
-- seat has made no step. Every later line is a command without a fault, which runs on that domain.
abbrev pub TakesOn : Place → List (List ℕ) → List ℕ → Place → Type 0
TakesOn None words out next =
    (slots : ℕ) × (cells : ℕ) × (weak_cells : ℕ) × (d : OnDomain)
    × Spells (Heap slots cells weak_cells) words × IsHeapInRange slots cells weak_cells
    × IsOpened slots cells weak_cells (desk_of d) × IsForOne slots cells weak_cells d.domain
    × IsSeated d × ((core_of d).trail ≡ []) × (out ≡ []) × (next ≡ Some d)
TakesOn (Some d) words out next =
    (c : Command) × (e : OnDomain) × SpellsCommand c words × RunsOn d c out e × (next ≡ Some e)

abbrev pub RefusesOn : Place → List (List ℕ) → Reason → Type 0
RefusesOn s words reason = Refuses (told s) words reason

abbrev pub EndsOn : Place → List ℕ → Bool → Type 0
EndsOn s out refused = Ends (told s) out refused

-- The seat of the last desk, if there is one: it is of the same domain, all that was bound has been given up, and its
-- trail has gone on from that of the desk.
abbrev pub IsClosed : Place → Option (SeatState (Unit {0})) → Type 0
IsClosed None seat = seat ≡ None
IsClosed (Some d) seat =
    (s : SeatState (Unit {0})) × (seat ≡ Some s) × IsOf d.domain s
    × Shows [] (core_of d) s.view.core × HasNoHandles (show_seat s.view.core)

-- The text writes these bytes on a domain; `refused` tells whether a line of it is refused. The seat is that of the
-- domain that the first line opened, if it opened one: it has the numbers of that line, and its trail shows the
-- commands that were run, in their order.
pub record IsScriptOn (text bytes : List ℕ) (refused : Bool) (seat : Option (SeatState (Unit {0})))
    : Type 0 where
  pub last : Place
  pub run : IsRun TakesOn RefusesOn EndsOn None text bytes refused last
  pub closed : IsClosed last seat
