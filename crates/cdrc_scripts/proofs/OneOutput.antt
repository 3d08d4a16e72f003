-- A script has one output: two runs of one text go along with desks that are alike.
use Rattle.std.proofs.Common.{◌≡◌, ◌⊎◌, inl, inr, ℕ, Bool, true, false, List, [], ◌∷◌, ◌++◌, Option, Some, None, refl, ap, ap₂, sym, ◌∙◌, subst}
use Rattle.std.specs.Bool.{MatchBool}
use Rattle.line_machine.specs.line_words.declared.reason.Reason.{Reason}
use Rattle.line_machine.specs.line_words.declared.reason.Reason.TheVariants.{Syntax, Range, Name, Kind, NotEnabled}
use Rattle.line_machine.specs.line_words.Lines.{numbered_lines}
use Rattle.line_machine.specs.line_words.Refused.{refused_line}
use Rattle.line_machine.specs.line_words.Words.{is_blank, words_of}
use Rattle.line_machine.specs.Runs.{Goes}
use Rattle.line_machine.proofs.Leads.{Done}
use Rattle.script_law.specs.script_lines.declared.command.Command.{Command}
use Rattle.script_law.specs.script_lines.declared.command.ScriptLine.{ScriptLine}
use Rattle.script_law.specs.script_lines.declared.command.ScriptLine.TheVariants.{Heap, Command as OnHeap}
use Rattle.script_law.specs.script_lines.Spelling.{SpellsCommand}
use Rattle.script_law.proofs.Below.script_lines_Unique.{one-line}
use Rattle.script_law.specs.script_desk.Desks.{Desk, scope_of}
use Rattle.script_law.specs.script_desk.Effects.{Runs}
use Rattle.script_law.specs.script_desk.Faults.{IsFault, IsFaultless}
use Rattle.script_law.specs.Desks.{Alike}
use Rattle.script_law.specs.Orderly.{IsFresh, IsOrderly}
use Rattle.script_law.proofs.Fresh.{fresh_alike, fresh_orderly}
use Rattle.script_law.proofs.Running.{alike_desks_back, faults_alike, runs_alike, runs_orderly}
use Rattle.cdrc_scripts.specs.Meaning.{Ends, IsHeapInRange, IsScript, Refuses, Takes}
use Rattle.cdrc_scripts.specs.SaidLines.{said_line}
use Rattle.cdrc_scripts.proofs.SameBytes.{written_alike}

-- ---- what words spell
one_command : (words : List (List ℕ)) (c e : Command) → SpellsCommand c words → SpellsCommand e words → c ≡ e
one_command words c e first second = let same = one-line words (OnHeap c) (OnHeap e) first second in cc

-- the line gives a heap numbers in range; a desk is a fresh one of its numbers
abbrev IsLineInRange : ScriptLine → Type 0
IsLineInRange (Heap slots cells weak_cells) = IsHeapInRange slots cells weak_cells
IsLineInRange (OnHeap c) = ⊥

abbrev Opens : ScriptLine → Desk → Type 0
Opens (Heap slots cells weak_cells) d = IsFresh slots cells weak_cells d
Opens (OnHeap c) d = ⊥

-- ---- one state
-- words that are taken aren't refused
not_refused : (s : Option Desk) (words : List (List ℕ)) (out : List ℕ) (next : Option Desk) (reason : Reason)
    → Takes s words out next → Refuses s words reason → ⊥
not_refused None words out next Syntax takes refuses = refuses takes.0 takes.1 takes.2 takes.4
not_refused None words out next Range (m, n, o, d, spells, fits, opened, none, is) (m', n', o', spells', unfit) =
    unfit (subst IsLineInRange (one-line words (Heap m n o) (Heap m' n' o') spells spells') fits)
not_refused None words out next Name takes refuses = refuses
not_refused None words out next Kind takes refuses = refuses
not_refused None words out next NotEnabled takes refuses = refuses
not_refused (Some d) words out next Syntax takes refuses = refuses takes.0 takes.2
not_refused (Some d) words out next Range (c, e, spells, runs, is) (c', spells', fault) =
    fault (subst (IsFaultless (scope_of d)) (one_command words c c' spells spells') runs.1).range
not_refused (Some d) words out next Name (c, e, spells, runs, is) (c', spells', fault) =
    (subst (IsFaultless (scope_of d)) (one_command words c c' spells spells') runs.1).names fault.1
not_refused (Some d) words out next Kind (c, e, spells, runs, is) (c', spells', fault) =
    (subst (IsFaultless (scope_of d)) (one_command words c c' spells spells') runs.1).kinds fault.2
not_refused (Some d) words out next NotEnabled takes refuses = refuses

-- a command has one fault
one_fault : (d : Desk) (c : Command) (reason other : Reason) → IsFault (scope_of d) c (Some reason)
    → IsFault (scope_of d) c (Some other) → reason ≡ other
one_fault d c Syntax other f g = absurd f
one_fault d c NotEnabled other f g = absurd f
one_fault d c reason Syntax f g = absurd g
one_fault d c reason NotEnabled f g = absurd g
one_fault d c Range Range f g = refl
one_fault d c Range Name f g = absurd (f g.0)
one_fault d c Range Kind f g = absurd (f g.0)
one_fault d c Name Range f g = absurd (g f.0)
one_fault d c Name Name f g = refl
one_fault d c Name Kind f g = absurd (g.1 f.1)
one_fault d c Kind Range f g = absurd (g f.0)
one_fault d c Kind Name f g = absurd (f.1 g.1)
one_fault d c Kind Kind f g = refl

-- the words spell a command with this fault, or none
abbrev HasFault : Desk → List (List ℕ) → Reason → Type 0
HasFault d words reason =
    ((reason ≡ Syntax) × ((c : Command) → SpellsCommand c words → ⊥))
    ⊎ ((c : Command) × SpellsCommand c words × IsFault (scope_of d) c (Some reason))

has_fault : (d : Desk) (words : List (List ℕ)) (reason : Reason) → Refuses (Some d) words reason → HasFault d words reason
has_fault d words Syntax refuses = inl (refl, refuses)
has_fault d words Range refuses = inr refuses
has_fault d words Name refuses = inr refuses
has_fault d words Kind refuses = inr refuses
has_fault d words NotEnabled refuses = absurd refuses

one_of_faults : (d : Desk) (words : List (List ℕ)) (reason other : Reason) → HasFault d words reason → HasFault d words other
    → reason ≡ other
one_of_faults d words reason other (inl (is, none)) (inl (is', none')) = is ∙ sym is'
one_of_faults d words reason other (inl (is, none)) (inr (c, spells, fault)) = absurd (none c spells)
one_of_faults d words reason other (inr (c, spells, fault)) (inl (is, none)) = absurd (none c spells)
one_of_faults d words reason other (inr (c, spells, fault)) (inr (c', spells', fault')) =
    one_fault d c reason other fault
    (subst (λ (e : Command). IsFault (scope_of d) e (Some other)) (sym (one_command words c c' spells spells')) fault')

one_reason : (s : Option Desk) (words : List (List ℕ)) (reason other : Reason) → Refuses s words reason → Refuses s words other
    → reason ≡ other
one_reason (Some d) words reason other f g = one_of_faults d words reason other (has_fault d words reason f) (has_fault d words other g)
one_reason None words Name other f g = absurd f
one_reason None words Kind other f g = absurd f
one_reason None words NotEnabled other f g = absurd f
one_reason None words reason Name f g = absurd g
one_reason None words reason Kind f g = absurd g
one_reason None words reason NotEnabled f g = absurd g
one_reason None words Syntax Syntax f g = refl
one_reason None words Syntax Range f g = absurd (f g.0 g.1 g.2 g.3)
one_reason None words Range Syntax f g = absurd (g f.0 f.1 f.2 f.3)
one_reason None words Range Range f g = refl

-- ---- two states
-- no heap yet, or two orderly desks that are alike
abbrev AreAlike : Option Desk → Option Desk → Type 0
AreAlike None None = Unit {0}
AreAlike (Some d) (Some e) = IsOrderly d × IsOrderly e × Alike d e
AreAlike _ _ = ⊥

refuses_too : (s t : Option Desk) (words : List (List ℕ)) (reason : Reason) → AreAlike s t → Refuses t words reason → Refuses s words reason
refuses_too None None words reason alike refuses = refuses
refuses_too (Some d) (Some e) words Syntax alike refuses = refuses
refuses_too (Some d) (Some e) words Range alike (c, spells, fault) =
    (c, spells, faults_alike e d c (Some Range) (alike_desks_back d e alike.2) fault)
refuses_too (Some d) (Some e) words Name alike (c, spells, fault) =
    (c, spells, faults_alike e d c (Some Name) (alike_desks_back d e alike.2) fault)
refuses_too (Some d) (Some e) words Kind alike (c, spells, fault) =
    (c, spells, faults_alike e d c (Some Kind) (alike_desks_back d e alike.2) fault)
refuses_too (Some d) (Some e) words NotEnabled alike refuses = refuses
refuses_too None (Some e) words reason alike refuses = absurd alike
refuses_too (Some d) None words reason alike refuses = absurd alike

alike_back : (s t : Option Desk) → AreAlike s t → AreAlike t s
alike_back None None alike = tt
alike_back (Some d) (Some e) alike = (alike.1, alike.0, alike_desks_back d e alike.2)
alike_back None (Some e) alike = absurd alike
alike_back (Some d) None alike = absurd alike

takes_alike : (s t : Option Desk) (words : List (List ℕ)) (out others : List ℕ) (next after : Option Desk) → AreAlike s t
    → Takes s words out next → Takes t words others after → (out ≡ others) × AreAlike next after
takes_alike None None words out others next after alike (m, n, o, d, spells, fits, opened, none, is) (m', n', o', e, spells', fits', opened', none', is') =
    let opens : Opens (Heap m n o) e
    = subst (λ (l : ScriptLine). Opens l e) (one-line words (Heap m' n' o') (Heap m n o) spells' spells) opened' in
    let both : AreAlike (Some d) (Some e) = (fresh_orderly m n o d opened, fresh_orderly m n o e opens, fresh_alike m n o d e opened opens) in
    (none ∙ sym none', subst (λ (x : Option Desk). AreAlike x after) (sym is) (subst (AreAlike (Some d)) (sym is') both))
takes_alike (Some d) (Some e) words out others next after (k, l, alike) (c, f, spells, (a, fine, runs, out-is), is) (c', g, spells', (b, fine', runs', others-are), is') =
    let same : c' ≡ c = one_command words c' c spells' spells in
    let fine-too : IsFaultless (scope_of e) c = subst (IsFaultless (scope_of e)) same fine' in
    let runs-too = subst (λ (x : Command). Runs e x b g) same runs' in
    let both = runs_alike d e f g c a b k l alike fine runs runs-too in
    let here : AreAlike (Some f) (Some g) = (runs_orderly d f c a k fine runs, runs_orderly e g c b l fine-too runs-too, both.1) in (
      out-is ∙ written_alike c a b both.0 ∙ sym (others-are ∙ ap (λ (x : Command). said_line x b) same),
      subst (λ (x : Option Desk). AreAlike x after) (sym is) (subst (AreAlike (Some f)) (sym is') here),
    )
takes_alike None (Some e) words out others next after alike one two = absurd alike
takes_alike (Some d) None words out others next after alike one two = absurd alike

one_end : (s t : Option Desk) (out others : List ℕ) (refused other : Bool) → AreAlike s t → Ends s out refused → Ends t others other
    → (out ≡ others) × (refused ≡ other)
one_end None None out others refused other alike first second = (first.0 ∙ sym second.0, first.1 ∙ sym second.1)
one_end (Some d) (Some e) out others refused other alike first second = (first.0 ∙ sym second.0, first.1 ∙ sym second.1)
one_end None (Some e) out others refused other alike first second = absurd alike
one_end (Some d) None out others refused other alike first second = absurd alike

-- ---- whole texts
-- from states that are alike these lines write one output
abbrev WriteOne : List (ℕ × List ℕ) → Type 0
WriteOne lines =
    (s t : Option Desk) (bytes others : List ℕ) (refused other : Bool) (last end : Option Desk) → AreAlike s t
    → Goes Takes Refuses Ends s lines bytes refused last → Goes Takes Refuses Ends t lines others other end
    → (bytes ≡ others) × (refused ≡ other)

done_one : (line : ℕ × List ℕ) (rest : List (ℕ × List ℕ)) → WriteOne rest
    → (s t : Option Desk) (bytes others : List ℕ) (refused other : Bool) (last end : Option Desk) → AreAlike s t
    → Done Takes Refuses Ends s line rest bytes refused last → Done Takes Refuses Ends t line rest others other end
    → (bytes ≡ others) × (refused ≡ other)
done_one line rest one s t bytes others refused other last end alike
    (inl (out, more, next, takes, goes, is)) (inl (out', more', next', takes', goes', is')) =
    let step = takes_alike s t (words_of line.1) out out' next next' alike takes takes' in
    let same = one next next' more more' refused other last end step.1 goes goes' in
    (is ∙ ap₂ (λ (xs ys : List ℕ). xs ++ ys) step.0 same.0 ∙ sym is', same.1)
done_one line rest one s t bytes others refused other last end alike
    (inl (out, more, next, takes, goes, is)) (inr (reason, refuses, is', told', stays')) =
    absurd (not_refused s (words_of line.1) out next reason takes (refuses_too s t (words_of line.1) reason alike refuses))
done_one line rest one s t bytes others refused other last end alike
    (inr (reason, refuses, is, told, stays)) (inl (out', more', next', takes', goes', is')) =
    absurd (not_refused t (words_of line.1) out' next' reason takes'
    (refuses_too t s (words_of line.1) reason (alike_back s t alike) refuses))
done_one line rest one s t bytes others refused other last end alike
    (inr (reason, refuses, is, told, stays)) (inr (reason', refuses', is', told', stays')) =
    let same = one_reason s (words_of line.1) reason reason' refuses (refuses_too s t (words_of line.1) reason' alike refuses') in
    (is ∙ ap (refused_line line.0) same ∙ sym is', told ∙ sym told')

in_one_case : (b : Bool) {P Q P' Q' R : Type 0} → (P → P' → R) → (Q → Q' → R) → MatchBool b P Q → MatchBool b P' Q' → R
in_one_case true one other first second = one first second
in_one_case false one other first second = other first second

goes_one : (lines : List (ℕ × List ℕ)) → WriteOne lines
goes_one [] s t bytes others refused other last end alike first second = one_end s t bytes others refused other alike first.0 second.0
goes_one (line ∷ lines) s t bytes others refused other last end alike first second =
    in_one_case (is_blank (words_of line.1))
    (goes_one lines s t bytes others refused other last end alike)
    (done_one line lines (goes_one lines) s t bytes others refused other last end alike)
    first second

pub scripts_write_one : (text bytes others : List ℕ) (refused other : Bool) → IsScript text bytes refused → IsScript text others other
    → (bytes ≡ others) × (refused ≡ other)
scripts_write_one text bytes others refused other (last, first) (end, second) =
    goes_one (numbered_lines text) None None bytes others refused other last end tt first second
