use Rattle.std.proofs.Common.{ap, subst, sym}
use Rattle.std.specs.Prelude.{All}
use Rattle.control_word.specs.core_events.Runs.{IsShape}
use Rattle.handle_tests.specs.Plays.{IsFree}
use Rattle.handle_tests.proofs.Opened.{all_free}
use Rattle.handle_tests.proofs.opening.open_seats.Goals as goal

pub returns-clause-free : goal.returns-clause-free
returns-clause-free c =
    let known = c.in_ok-opened.ensures in
    let d = c.in_ok-opened.opened.0 in
    subst (All (IsFree d)) (sym known.seats)
    (all_free (λ n. tt) d (subst IsShape (sym (ap (λ x. x.shape) known.domain)) known.ranges.0))
