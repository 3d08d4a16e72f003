use Rattle.std.proofs.Common.{subst}
use Rattle.acquire_retire.specs.core_events.declared.outcome.Outcome.{Outcome}
use Rattle.acquire_retire.specs.core_events.declared.act.Act.TheVariants as act
use Rattle.acquire_retire.specs.Calls.{Steps}
use Rattle.control_word.proofs.CountSteps.{counts_at_once, counts_by_mark}
use Rattle.control_word.proofs.counting.strong_count.Goals as goal

pub mark-requires-clause-deed : goal.mark-requires-clause-deed
mark-requires-clause-deed g c =
    c.requires.deed.mark c.count-answer.new.seat
    (subst (λ (x : Outcome). Steps g.P.Kind.PayloadKind.fits c.args.domain.now
    (g.D.Deed.next c.args.deed c.args.domain.now.protocol)
    (g.D.Deed.allows c.args.deed c.args.domain.now.protocol)
    (act.Count c.args.slot) c.args.seat.now c.count-answer.new.seat x)
    c.in-Again.is c.count-answer.ensures)

pub returns-in-Again-clause-counted : goal.returns-in-Again-clause-counted
returns-in-Again-clause-counted g c =
    counts_by_mark c.args.domain.now c.args.slot c.args.seat.now c.requires.holds
    c.count-answer.new.seat c.mark.new.seat c.count-answer.result c.mark.result c.number.result
    c.requires.rest.idle.0 c.count-answer.ensures c.in-Again.is c.mark.ensures c.number.ensures

pub returns-clause-counted : goal.returns-clause-counted
returns-clause-counted g c =
    counts_at_once c.args.domain.now c.args.slot c.args.seat.now c.requires.holds
    c.count-answer.new.seat c.count-answer.result c.number-2.result c.count-answer.ensures
    c.in_default.not-Again c.number-2.ensures
