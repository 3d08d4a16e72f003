use Rattle.std.proofs.Common.{◌≡◌, ◌+◌, vec_capacity, vec_len}
use Rattle.core_promises.specs.core_events.Words.{each_from}
use Rattle.acquire_retire.specs.Openings.{IsFirst, begun_seat}
use Rattle.acquire_retire.proofs.domain.Domain.open_others.Given as goal

abbrev pub invariant-loop-number : goal.invariant-loop-number
invariant-loop-number g l = record {
  root : IsFirst (g.P.Protocol.first l.fn.self.protocol) l.fn.self l.number l.root;
  others : l.others.items
      ≡ each_from 1 (vec_len l.others)
      (begun_seat (g.P.Protocol.first l.fn.self.protocol) l.fn.self);
  count : vec_len l.others + 1 ≡ l.number;
  capacity : vec_capacity l.others ≡ l.fn.self.shape.seats;
}
