-- A text of steps has one output: its lines and its end leave nothing open.
use Rattle.std.proofs.Common.{◌≡◌, ℕ, Bool, List, Option, None, Some, refl, sym, ap, subst, ◌∙◌}
use Rattle.step_lines.specs.core_events.declared.act.Event.{Event}
use Rattle.step_lines.specs.core_events.declared.shape.Shape.{Shape}
use Rattle.step_lines.specs.core_events.Runs.{Enabled, IsShape, outcome_of}
use Rattle.line_machine.specs.line_words.declared.reason.Reason.{Reason}
use Rattle.line_machine.specs.line_words.declared.reason.Reason.TheVariants.{Syntax, Range, NotEnabled}
use Rattle.line_machine.specs.Runs.{IsDefinite}
use Rattle.line_machine.proofs.Ones.{runs_are_one}
use Rattle.step_lines.proofs.Unique.{one-event, one-shape}
use Rattle.step_lines.specs.Spelling.{SpellsEvent, SpellsShape}
use Rattle.step_lines.specs.Texts.{event_text}
use Rattle.cdrc_steps.specs.Meaning.{Ends, IsSteps, Refuses, Takes, moved_on, opened}
use Rattle.cdrc_steps.specs.Ranges.{IsInRange}
use Rattle.cdrc_steps.specs.Runnings.{Running}

-- the words spell one shape or one event, and this tells what is written and what comes next
one_step : (s : Option Running) (words : List (List ℕ)) (out others : List ℕ) (next after : Option Running)
    → Takes s words out next → Takes s words others after → (out ≡ others) × (next ≡ after)
one_step None words out others next after (z, spells, fits, is, leads) (z', spells', fits', is', leads') =
    let same = one-shape words z z' spells spells' in
    (is ∙ sym is', leads ∙ ap (λ (z : Shape). Some (opened z)) same ∙ sym leads')
one_step (Some r) words out others next after
    (e, spells, there, may, is, leads) (e', spells', there', may', is', leads') =
    let same = one-event words e e' spells spells' in (
      is ∙ ap (λ (e : Event). event_text e.act (outcome_of r.shape r.core e)) same ∙ sym is',
      leads ∙ ap (λ (e : Event). Some (moved_on r e)) same ∙ sym leads',
    )

-- the words spell one shape or one event, and this is in its ranges or isn't, and is enabled or isn't
module _ (words : List (List ℕ)) where
  not_unshaped : (y z : Shape) → SpellsShape words y → SpellsShape words z
      → IsShape y → (IsShape z → ⊥) → ⊥
  not_unshaped y z first second fits unfit = unfit (subst IsShape (one-shape words y z first second) fits)

  not_elsewhere : (r : Running) (e f : Event) → SpellsEvent words e → SpellsEvent words f
      → IsInRange r.shape e → (IsInRange r.shape f → ⊥) → ⊥
  not_elsewhere r e f first second there away =
      away (subst (IsInRange r.shape) (one-event words e f first second) there)

  not_disabled : (r : Running) (e f : Event) → SpellsEvent words e → SpellsEvent words f
      → Enabled r.shape r.core e.seat e.act → (Enabled r.shape r.core f.seat f.act → ⊥) → ⊥
  not_disabled r e f first second may not =
      not (subst (λ (e : Event). Enabled r.shape r.core e.seat e.act) (one-event words e f first second) may)

not_refused : (s : Option Running) (words : List (List ℕ)) (out : List ℕ) (next : Option Running) (reason : Reason)
    → Takes s words out next → Refuses s words reason → ⊥
not_refused None words out next Syntax takes refuses = refuses takes.0 takes.1
not_refused None words out next Range takes refuses =
    not_unshaped words takes.0 refuses.0 takes.1 refuses.1 takes.2 refuses.2
not_refused None words out next reason takes refuses = refuses
not_refused (Some r) words out next Syntax takes refuses = refuses takes.0 takes.1
not_refused (Some r) words out next Range takes refuses =
    not_elsewhere words r takes.0 refuses.0 takes.1 refuses.1 takes.2 refuses.2
not_refused (Some r) words out next NotEnabled takes refuses =
    not_disabled words r takes.0 refuses.0 takes.1 refuses.1 takes.3 refuses.3
not_refused (Some r) words out next reason takes refuses = refuses

one_reason : (s : Option Running) (words : List (List ℕ)) (reason other : Reason)
    → Refuses s words reason → Refuses s words other → reason ≡ other
one_reason None words Syntax Syntax first second = refl
one_reason None words Syntax Range first second = absurd (first second.0 second.1)
one_reason None words Syntax other first second = absurd second
one_reason None words Range Syntax first second = absurd (second first.0 first.1)
one_reason None words Range Range first second = refl
one_reason None words Range other first second = absurd second
one_reason None words reason other first second = absurd first
one_reason (Some r) words Syntax Syntax first second = refl
one_reason (Some r) words Syntax Range first second = absurd (first second.0 second.1)
one_reason (Some r) words Syntax NotEnabled first second = absurd (first second.0 second.1)
one_reason (Some r) words Syntax other first second = absurd second
one_reason (Some r) words Range Syntax first second = absurd (second first.0 first.1)
one_reason (Some r) words Range Range first second = refl
one_reason (Some r) words Range NotEnabled first second =
    absurd (not_elsewhere words r second.0 first.0 second.1 first.1 second.2 first.2)
one_reason (Some r) words Range other first second = absurd second
one_reason (Some r) words NotEnabled Syntax first second = absurd (second first.0 first.1)
one_reason (Some r) words NotEnabled Range first second =
    absurd (not_elsewhere words r first.0 second.0 first.1 second.1 first.2 second.2)
one_reason (Some r) words NotEnabled NotEnabled first second = refl
one_reason (Some r) words NotEnabled other first second = absurd second
one_reason (Some r) words reason other first second = absurd first

one_end : (s : Option Running) (out others : List ℕ) (refused other : Bool)
    → Ends s out refused → Ends s others other → (out ≡ others) × (refused ≡ other)
one_end None out others refused other first second = (first.0 ∙ sym second.0, first.1 ∙ sym second.1)
one_end (Some r) out others refused other first second = (first.0 ∙ sym second.0, first.1 ∙ sym second.1)

pub steps_are_definite : IsDefinite Takes Refuses Ends
steps_are_definite =
    record { one_step = one_step; not_refused = not_refused; one_reason = one_reason; one_end = one_end }

pub steps_write_one : (text bytes others : List ℕ) (refused other : Bool)
    → IsSteps text bytes refused → IsSteps text others other → (bytes ≡ others) × (refused ≡ other)
steps_write_one text bytes others refused other first second =
    let same = runs_are_one Takes Refuses Ends steps_are_definite None text bytes others refused
    other first.0 second.0 first.1 second.1 in (same.0, same.1)
