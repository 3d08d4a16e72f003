use Rattle.std.proofs.Common.{◌≡◌, take, vec_capacity, vec_len, length}
use Rattle.core_law.specs.core_events.Views.{first_views}
use Rattle.cdrc_core.proofs.seats.first_seats.Given as goal

abbrev pub invariant-loop-seat : goal.invariant-loop-seat
invariant-loop-seat l = record {
  seats : l.seats.items ≡ first_views l.shape 0 (take l.seat l.quotas) l.grants;
  count : vec_len l.seats ≡ l.seat;
  room : vec_capacity l.seats ≡ length l.quotas;
}
