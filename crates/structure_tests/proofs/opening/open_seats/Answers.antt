use Rattle.std.proofs.Common.{◌≡◌, ap, subst, sym}
use Rattle.std.specs.Prelude.{All, slice_index_or}
use Rattle.part_calls.specs.core_events.Runs.{IsShape}
use Rattle.hand_queues.specs.linked_queue.Queues.{CanLay}
use Rattle.structure_tests.specs.Ready.{IsNew}
use Rattle.structure_tests.proofs.Opened.{all_new, first_can_lay, first_is_first}
use Rattle.structure_tests.proofs.opening.open_seats.Goals as goal

pub returns-clause-new : goal.returns-clause-new
returns-clause-new c =
    let known = c.in_ok-opened.ensures {u = tt} in
    let d = c.in_ok-opened.opened.0 in
    subst (All (IsNew d)) (sym known.seats)
    (all_new c.law_of.result.left.form d
    (subst IsShape (sym (ap (λ x. x.shape) known.domain)) known.ranges.0))

pub returns-clause-first : goal.returns-clause-first
returns-clause-first c = λ other.
    let known = c.in_ok-opened.ensures {u = tt} in
    let d = c.in_ok-opened.opened.0 in
    subst (λ xs. (slice_index_or xs 0 other).view.core.seat ≡ 0) (sym known.seats)
    (first_is_first c.law_of.result.left.form d
    (subst IsShape (sym (ap (λ x. x.shape) known.domain)) known.ranges.0) other)

pub returns-clause-unlaid : goal.returns-clause-unlaid
returns-clause-unlaid c = λ other.
    let known = c.in_ok-opened.ensures {u = tt} in
    let d = c.in_ok-opened.opened.0 in
    subst (λ xs. CanLay (slice_index_or xs 0 other).view.client.0) (sym known.seats)
    (first_can_lay c.law_of.result.left.form d
    (subst IsShape (sym (ap (λ x. x.shape) known.domain)) known.ranges.0) other)
