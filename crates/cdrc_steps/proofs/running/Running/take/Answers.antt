use Rattle.std.proofs.Common.{◌≡◌, ◌+◌, ◌++◌, rules, ap, ◌∙◌, Some, arith}
use Rattle.step_lines.specs.core_events.Runs.{outcome_of, Enabled}
use Rattle.step_lines.specs.Texts.{event_text}
use Rattle.cdrc_steps.specs.Ranges.{IsInRange}
use Rattle.cdrc_steps.specs.Runnings.{Running}
use Rattle.cdrc_steps.proofs.Growing.{moved, stepped}
use Rattle.cdrc_steps.proofs.running.Running.take.Goals as goal

pub returns-in_ok-push_event-in-Ok-step-clause-taken : goal.returns-in_ok-push_event-in-Ok-step-clause-taken
returns-in_ok-push_event-in-Ok-step-clause-taken c told =
    let event = c.in-Ok.event in
    let before = c.args.self.now in
    let written : c.push_event.new.text.items ≡ c.args.text.now.items ++ event_text event.act c.in-Ok-step.outcome = search rules in
    let in_range : IsInRange before.shape event = search rules in
    let enabled : Enabled before.shape before.core event.seat event.act = search rules in
    let answer : c.in-Ok-step.outcome ≡ outcome_of before.shape before.core event = search rules in
    let counted : c.checked_add.result ≡ Some c.in_ok-events.events = grind arith in
    let sum : c.in_ok-events.events ≡ c.self.inside.events + 1 = (rw counted at c.checked_add.ensures).1 in
    let events : c.in_ok-events.events ≡ before.events + 1 = sum ∙ ap (λ (r : Running). r.events + 1) c.self.view_is in
    let same : c.step.new.self ≡ stepped before event = c.in-Ok-step.ensures.ok ∙ ap (λ (r : Running). stepped r event) c.self.view_is in (
      event_text event.act c.in-Ok-step.outcome,
      written,
      (
        event,
        c.in-Ok.ensures.ok,
        in_range,
        enabled,
        ap (event_text event.act) answer,
        ap (λ (r : Running). Some r) (moved before c.step.new.self event c.in_ok-events.events same events),
      ),
    )
