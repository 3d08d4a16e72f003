use Rattle.cdrc_scripts.specs.plain_store.Settling.{IsSettled}
use Rattle.script_tests.proofs.plain_scripts.play.Given as goal

abbrev pub invariant-loop-line : goal.invariant-loop-line
invariant-loop-line g l =
    IsSettled l.desk.plain × (goal.iterator-loop-line g).can_next l.line-iterator
    × (goal.iterator-loop-line g).is_finite l.line-iterator
