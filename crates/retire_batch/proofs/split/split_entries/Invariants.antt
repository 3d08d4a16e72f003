use Rattle.std.proofs.Common.{◌≡◌, ◌+◌, vec_len, vec_capacity}
use Rattle.std.specs.VecDeque.{deque_len, deque_capacity}
use Rattle.retire_batch.proofs.Partway.{IsPartway}
use Rattle.retire_batch.proofs.split.split_entries.Given as goal

abbrev pub invariant-loop-place : goal.invariant-loop-place
invariant-loop-place g l = record {
  partway : IsPartway l.fn.retired.items (g.S.Announced.announced l.seen) l.place l.staying l.retired.items l.owed.items;
  lengths : l.staying + deque_len l.owed ≡ l.place;
  same_length : vec_len l.retired ≡ vec_len l.fn.retired;
  same_room : vec_capacity l.retired ≡ vec_capacity l.fn.retired;
  owed_room : deque_capacity l.owed ≡ deque_capacity l.fn.owed;
}
