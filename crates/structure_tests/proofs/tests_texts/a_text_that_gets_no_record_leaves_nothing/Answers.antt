use Rattle.structure_tests.proofs.Returned.{two_free}
use Rattle.structure_tests.proofs.tests_texts.a_text_that_gets_no_record_leaves_nothing.Goals as goal

pub intern-requires-clause-free : goal.intern-requires-clause-free
intern-requires-clause-free g c =
    two_free c.in_ok-domain.seat.view.core c.in_ok-domain.ensures.ready.none
