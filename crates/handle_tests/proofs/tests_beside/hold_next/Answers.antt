use Rattle.std.proofs.Common.{subst, sym}
use Rattle.std.specs.Prelude.{All}
use Rattle.std.proofs.lemmas.List.Elements.{All-push}
use Rattle.control_word.specs.acquire_retire.Calls.{IsOf}
use Rattle.handle_tests.proofs.tests_beside.hold_next.Goals as goal

pub returns-clause-of : goal.returns-clause-of
returns-clause-of c =
    let d = c.args.domain.now in
    subst (All (IsOf d)) (sym c.in_ok-push.ensures.items)
    (All-push (IsOf d) c.args.held.now.items c.hold_thrice-uncounted.new.seat c.requires.of
    c.hold_thrice-uncounted.ensures.of)
