-- What a command that ran, or has a fault, says of the line that spells it; and what a run on a domain says of the text.
use Rattle.std.proofs.Common.{◌≡◌, ℕ, Bool, true, false, List, [], ◌∷◌, ◌++◌, Option, Some, None, refl, ap, sym, subst, inl, inr}
use Rattle.std.specs.Bool.{MatchBool}
use Rattle.line_machine.specs.line_words.declared.reason.Reason.{Reason}
use Rattle.line_machine.specs.line_words.declared.reason.Reason.TheVariants.{Syntax, Range, Name, Kind, NotEnabled}
use Rattle.line_machine.specs.line_words.Lines.{numbered_lines}
use Rattle.line_machine.specs.line_words.Words.{is_blank, words_of}
use Rattle.line_machine.specs.Runs.{Goes, IsRun}
use Rattle.line_machine.proofs.Leads.{Done}
use Rattle.script_law.specs.script_lines.declared.command.Command.{Command}
use Rattle.script_law.specs.script_lines.Spelling.{SpellsCommand}
use Rattle.script_law.specs.script_desk.Desks.{Desk, scope_of}
use Rattle.script_law.specs.script_desk.Faults.{IsFault}
use Rattle.domain_desk.specs.Desks.{desk_of}
use Rattle.cdrc_scripts.specs.Domains.{EndsOn, IsSettledDesk, OnDomain, Place, RefusesOn, RunsOn, TakesOn, told}
use Rattle.cdrc_scripts.specs.Meaning.{Ends, IsScript, Refuses, Takes}

pub command_taken : (d e : OnDomain) (words : List (List ℕ)) (before after : List ℕ) (c : Command)
    → SpellsCommand c words → (out : List ℕ) × (after ≡ before ++ out) × RunsOn d c out e
    → (out : List ℕ) × (after ≡ before ++ out) × TakesOn (Some d) words out (Some e)
command_taken d e words before after c spells (out, written, ran) =
    (out, written, (c, e, spells, ran, refl))

pub command_refused : (d : Desk) (words : List (List ℕ)) (c : Command) (reason : Reason)
    → SpellsCommand c words → IsFault (scope_of d) c (Some reason) → Refuses (Some d) words reason
command_refused d words c Syntax spells fault = absurd fault
command_refused d words c Range spells fault = (c, spells, fault)
command_refused d words c Name spells fault = (c, spells, fault)
command_refused d words c Kind spells fault = (c, spells, fault)
command_refused d words c NotEnabled spells fault = absurd fault

-- a desk on which a command ran or was refused is settled still
pub settled_still : (r : Option Reason) (d e : OnDomain) → IsSettledDesk (Some d)
    → (r ≡ None → IsSettledDesk (Some e)) → ((reason : Reason) → r ≡ Some reason → e ≡ d)
    → IsSettledDesk (Some e)
settled_still None d e settled ran stays = ran refl
settled_still (Some reason) d e settled ran stays =
    subst (λ (x : OnDomain). IsSettledDesk (Some x)) (sym (stays reason refl)) settled

-- what a line does on a domain it does by the commands' rows
taken_so : (s : Place) (words : List (List ℕ)) (out : List ℕ) (next : Place)
    → TakesOn s words out next → Takes (told s) words out (told next)
taken_so None words out next (slots, cells, weak_cells, d, spells, range, opened, one, seated, trail, none, is) =
    (slots, cells, weak_cells, desk_of d, spells, range, opened, none, ap told is)
taken_so (Some d) words out next (c, e, spells, runs, is) = (
  c,
  desk_of e,
  spells,
  (runs.answer, runs.faultless, runs.runs, runs.written),
  ap told is,
)

in_both_cases : (b : Bool) {P Q P' Q' : Type 0} → (P → P') → (Q → Q') → MatchBool b P Q
    → MatchBool b P' Q'
in_both_cases true one other is = one is
in_both_cases false one other is = other is

-- the rest of the lines does so from each state
abbrev RestSo : List (ℕ × List ℕ) → Place → Type 0
RestSo lines last =
    (s : Place) (bytes : List ℕ) (refused : Bool)
    → Goes TakesOn RefusesOn EndsOn s lines bytes refused last
    → Goes Takes Refuses Ends (told s) lines bytes refused (told last)

done_so : (line : ℕ × List ℕ) (lines : List (ℕ × List ℕ)) (last : Place) → RestSo lines last
    → (s : Place) (bytes : List ℕ) (refused : Bool)
    → Done TakesOn RefusesOn EndsOn s line lines bytes refused last
    → Done Takes Refuses Ends (told s) line lines bytes refused (told last)
done_so line lines last rest_so s bytes refused (inl (out, more, next, takes, rest, is)) =
    inl (
      out,
      more,
      told next,
      taken_so s (words_of line.1) out next takes,
      rest_so next more refused rest,
      is,
    )
done_so line lines last rest_so s bytes refused (inr (reason, refuses, is, stops, same)) =
    inr (reason, refuses, is, stops, ap told same)

goes_so : (lines : List (ℕ × List ℕ)) (last : Place) → RestSo lines last
goes_so [] last s bytes refused (ends, same) = (ends, ap told same)
goes_so (line ∷ lines) last s bytes refused goes =
    in_both_cases (is_blank (words_of line.1)) (goes_so lines last s bytes refused)
    (done_so line lines last (goes_so lines last) s bytes refused) goes

-- so what a text writes on a domain is what it means
pub is_script : (text bytes : List ℕ) (refused : Bool) (last : Place)
    → IsRun TakesOn RefusesOn EndsOn None text bytes refused last → IsScript text bytes refused
is_script text bytes refused last run =
    (told last, goes_so (numbered_lines text) last None bytes refused run)
