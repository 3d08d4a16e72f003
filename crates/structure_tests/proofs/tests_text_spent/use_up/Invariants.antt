use Rattle.structure_tests.specs.Texts.{IsReady, Owns, Spends}
use Rattle.structure_tests.proofs.tests_text_spent.use_up.Given as goal

abbrev pub invariant-loop-add : goal.invariant-loop-add
invariant-loop-add l = record {
  ready : IsReady l.domain l.seat;
  spends : Spends 0 l.fn.seat l.seat;
  owns : Owns l.fn.seat l.seat;
}
