-- The three commands that give up what a name is bound to.
use Rattle.std.proofs.Common.{◌≡◌, ◌⊎◌, ⊎_elim, ℕ, true, List, [], refl, sym, subst, Some}
use Rattle.plain_audit.specs.plain_state.Steps.{Does}
use Rattle.script_lines.specs.declared.command.Command.{Command}
use Rattle.script_lines.specs.declared.command.Command.TheVariants as command
use Rattle.script_desk.specs.declared.handle.Handle.{Handle}
use Rattle.script_desk.specs.declared.handle.Handle.TheVariants.{Strong, Weak, Snapshot}
use Rattle.script_desk.specs.declared.said.Said.TheVariants as said
use Rattle.script_desk.specs.Desks.{Desk, bound, scope_of}
use Rattle.script_desk.specs.Effects.{Acts, Gives}
use Rattle.script_desk.specs.Faults.{IsFaultless, needs}
use Rattle.script_desk.specs.Handles.{is_strong, is_weak, is_snapshot, is_any}
use Rattle.script_desk.specs.Holding.{giving}
use Rattle.script_desk.specs.Places.{AreMet, IsBoundTo}
use Rattle.script_desk.proofs.Needs.{first_any, first_met, kind_of, faultless_met}

-- a command gives up what this name is bound to
abbrev pub GivesUp : Command → List ℕ → Type 0
GivesUp c name = (c ≡ command.Drop name) ⊎ ((c ≡ command.DropWeak name) ⊎ (c ≡ command.EndSnapshot name))

-- what was bound to the name was given up
abbrev pub Given : Desk → List ℕ → Desk → Type 0
Given d name e = (h : Handle) × (bound d.names name ≡ Some h) × Does d.plain 0 (giving h) 0 e.plain × Gives d name e

met_of : (d : Desk) (c other : Command) → c ≡ other → IsFaultless (scope_of d) c → AreMet d.names (needs other)
met_of d c other e f = subst (λ (x : Command). AreMet d.names (needs x)) e (faultless_met (scope_of d) c f)

pub give_met : (d : Desk) (c : Command) (name : List ℕ) → GivesUp c name → IsFaultless (scope_of d) c → IsBoundTo d.names name is_any
give_met d c name cases f =
    ⊎_elim
    (λ e. first_any d.names name is_strong [] (met_of d c (command.Drop name) e f))
    (⊎_elim
    (λ e. first_any d.names name is_weak [] (met_of d c (command.DropWeak name) e f))
    (λ e. first_any d.names name is_snapshot [] (met_of d c (command.EndSnapshot name) e f)))
    cases

drops : (d e : Desk) (name : List ℕ) (h : Handle) → is_strong h ≡ true → bound d.names name ≡ Some h → Does d.plain 0 (giving h) 0 e.plain → Gives d name e
    → Acts d (command.Drop name) said.Nothing e
drops d e name (Strong s) kind is does gives = (refl, (s, is, does, gives))
drops d e name (Weak s) kind is does gives = cc
drops d e name (Snapshot s) kind is does gives = cc

drops_weakly : (d e : Desk) (name : List ℕ) (h : Handle) → is_weak h ≡ true → bound d.names name ≡ Some h → Does d.plain 0 (giving h) 0 e.plain → Gives d name e
    → Acts d (command.DropWeak name) said.Nothing e
drops_weakly d e name (Strong s) kind is does gives = cc
drops_weakly d e name (Weak s) kind is does gives = (refl, (s, is, does, gives))
drops_weakly d e name (Snapshot s) kind is does gives = cc

ends : (d e : Desk) (name : List ℕ) (h : Handle) → is_snapshot h ≡ true → bound d.names name ≡ Some h → Does d.plain 0 (giving h) 0 e.plain → Gives d name e
    → Acts d (command.EndSnapshot name) said.Nothing e
ends d e name (Strong s) kind is does gives = cc
ends d e name (Weak s) kind is does gives = cc
ends d e name (Snapshot (s, counted)) kind is does gives = (refl, (s, counted, is, does, gives))

pub give_told : (d e : Desk) (c : Command) (name : List ℕ) → GivesUp c name → IsFaultless (scope_of d) c → Given d name e → Acts d c said.Nothing e
give_told d e c name cases f (h, is, does, gives) =
    ⊎_elim
    (λ (x : c ≡ command.Drop name). subst (λ (o : Command). Acts d o said.Nothing e) (sym x)
    (drops d e name h (kind_of (bound d.names name) is_strong h (first_met d.names name is_strong [] (met_of d c (command.Drop name) x f)) is) is does gives))
    (⊎_elim
    (λ (x : c ≡ command.DropWeak name). subst (λ (o : Command). Acts d o said.Nothing e) (sym x)
    (drops_weakly d e name h (kind_of (bound d.names name) is_weak h (first_met d.names name is_weak [] (met_of d c (command.DropWeak name) x f)) is) is does gives))
    (λ (x : c ≡ command.EndSnapshot name). subst (λ (o : Command). Acts d o said.Nothing e) (sym x)
    (ends d e name h (kind_of (bound d.names name) is_snapshot h (first_met d.names name is_snapshot [] (met_of d c (command.EndSnapshot name) x f)) is) is does gives)))
    cases
