use Rattle.std.proofs.Common.{◌≡◌, ◌≤◌}
use Rattle.std.specs.VecDeque.{deque_capacity, deque_len}
use Rattle.dying_slots.specs.Dying.{is_free}
use Rattle.dying_slots.proofs.Turning.{IsTurned}
use Rattle.dying_slots.proofs.dying.ripen_all.Given as goal

abbrev pub invariant-loop-turn : goal.invariant-loop-turn
invariant-loop-turn g l = record {
  turned : IsTurned (is_free (g.S.Announced.announced l.seen)) l.fn.waiting.items l.fn.ripe.items
      l._turn l.waiting.items l.ripe.items;
  fewer : deque_len l.waiting ≤ deque_len l.fn.waiting;
  waiting_room : deque_capacity l.waiting ≡ deque_capacity l.fn.waiting;
  ripe_room : deque_capacity l.ripe ≡ deque_capacity l.fn.ripe;
}
