use Rattle.std.proofs.Common.{ap, ◌∙◌}
use Rattle.domain_audit.specs.core_events.declared.outcome.Outcome.TheVariants as outcome
use Rattle.lane_reports.proofs.Learned.{learn_rest, learns_law, learns_nothing}
use Rattle.lane_reports.proofs.learning.holds_nothing.Goals as goal

pub returns-in-Found-None-clause-nothing : goal.returns-in-Found-None-clause-nothing
returns-in-Found-None-clause-nothing c so =
    learns_nothing _ c.args.domain.now c.args.cell c.args.root.now c.look.new.seat c.look.result
    c.look.ensures c.requires.rest c.requires.alone
    (c.alone-alone.ensures.knows c.requires.alone)
    (c.in-Found-None.is ∙ ap outcome.Found c.in-Found-None.field-0-is)

pub returns-in-Found-None-clause-learns : goal.returns-in-Found-None-clause-learns
returns-in-Found-None-clause-learns c =
    learns_law _ c.args.domain.now c.args.cell c.args.root.now c.look.new.seat c.look.result
    c.look.ensures c.requires.rest c.requires.alone
    (c.alone-alone.ensures.knows c.requires.alone)

pub returns-in-Found-None-clause-rest : goal.returns-in-Found-None-clause-rest
returns-in-Found-None-clause-rest c =
    learn_rest _ c.args.domain.now c.args.cell c.args.root.now c.look.new.seat c.look.result
    c.look.ensures c.requires.rest c.requires.alone
    (c.alone-alone.ensures.knows c.requires.alone)

pub returns-in_default-clause-learns : goal.returns-in_default-clause-learns
returns-in_default-clause-learns c =
    learns_law _ c.args.domain.now c.args.cell c.args.root.now c.look.new.seat c.look.result
    c.look.ensures c.requires.rest c.requires.alone
    (c.alone-alone.ensures.knows c.requires.alone)

pub returns-in_default-clause-rest : goal.returns-in_default-clause-rest
returns-in_default-clause-rest c =
    learn_rest _ c.args.domain.now c.args.cell c.args.root.now c.look.new.seat c.look.result
    c.look.ensures c.requires.rest c.requires.alone
    (c.alone-alone.ensures.knows c.requires.alone)
