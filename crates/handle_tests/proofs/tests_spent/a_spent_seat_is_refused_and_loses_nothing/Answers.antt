use Rattle.std.proofs.Common.{ap, ◌∙◌}
use Rattle.control_word.proofs.NotedBack.{none_still}
use Rattle.handle_tests.proofs.tests_spent.a_spent_seat_is_refused_and_loses_nothing.Goals as goal

pub leave-requires-clause-none : goal.leave-requires-clause-none
leave-requires-clause-none g c = (
  c.in_ok-domain.ensures.root.none,
  none_still c.expect-seat.result.view.core c.run-5.new.player.seat.view.core
      (c.run-5.ensures.notes ∙ c.run-3.ensures.notes ∙ c.run_deep-deep.ensures.notes
      ∙ c.run-2.ensures.notes ∙ c.run.ensures.notes
      ∙ ap (λ s. s.view.core.notes) c.player_of-poor.ensures.seat)
      (rw c.expect-seat.ensures at c.take_last.ensures.last).none,
)

pub leave-requires-2-clause-none : goal.leave-requires-2-clause-none
leave-requires-2-clause-none g c = (
  c.leave.ensures.none,
  none_still c.expect-seat-2.result.view.core c.run-4.new.player.seat.view.core
      (c.run-4.ensures.notes ∙ ap (λ s. s.view.core.notes) c.player_of-rich.ensures.seat)
      (rw c.expect-seat-2.ensures at c.take_last-2.ensures.last).none,
)
