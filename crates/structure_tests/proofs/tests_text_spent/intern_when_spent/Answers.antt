use Rattle.part_calls.proofs.Below.control_word_NotedBack.{none_still}
use Rattle.structure_tests.proofs.Returned.{two_free}
use Rattle.structure_tests.proofs.tests_text_spent.intern_when_spent.Goals as goal

pub intern-requires-2-clause-free : goal.intern-requires-2-clause-free
intern-requires-2-clause-free g c =
    two_free c.drop_strong.new.seat.view.core
    (none_still c.find_once-2.new.seat.view.core c.drop_strong.new.seat.view.core
    c.drop_strong.ensures.notes c.find_once-2.ensures.ready.none)
