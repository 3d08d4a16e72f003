use Rattle.std.proofs.Common.{◌∙◌}
use Rattle.structure_tests.proofs.Returned.{copied_back}
use Rattle.structure_tests.proofs.TextsKept.{ready_still, spends_none}
use Rattle.structure_tests.proofs.tests_text_spent.use_add.Goals as goal

pub returns-in-Ok-clause-spends : goal.returns-in-Ok-clause-spends
returns-in-Ok-clause-spends c =
    spends_none c.args.domain.now c.args.seat.now c.drop_strong.new.seat
    (c.drop_strong.ensures.client ∙ c.copy_strong.ensures.client)

pub returns-in-Ok-clause-owns : goal.returns-in-Ok-clause-owns
returns-in-Ok-clause-owns c =
    copied_back c.args.domain.now c.args.seat.now c.copy_strong.new.seat
    c.drop_strong.new.seat c.args.held.now.slot c.in-Ok.more.slot _ c.in-Ok.ensures.copied.0
    c.in-Ok.ensures.copied.1 c.drop_strong.ensures.dropped c.drop_strong.ensures.objects

pub returns-in-Ok-clause-ready : goal.returns-in-Ok-clause-ready
returns-in-Ok-clause-ready c =
    ready_still c.args.domain.now c.args.seat.now c.drop_strong.new.seat c.requires.ready
    (c.drop_strong.ensures.notes ∙ c.copy_strong.ensures.notes)
    (c.drop_strong.ensures.room (c.copy_strong.ensures.room c.requires.ready.room))
    c.drop_strong.ensures.rest
