use Rattle.std.proofs.Common.{◌≡◌, ◌+◌, map, vec_capacity, vec_len}
use Rattle.epoch_rule.specs.epoch_core.core_events.Words.{each_from}
use Rattle.epoch_domain.specs.Openings.{IsFirst, begun_seat, without_room}
use Rattle.epoch_domain.proofs.domain.EpochDomain.open_others.Given as goal

abbrev pub invariant-loop-number : goal.invariant-loop-number
invariant-loop-number g l = record {
  root : IsFirst (g.P.Protocol.first l.fn.self.protocol) l.fn.self l.number l.root;
  others : map without_room l.others.items
      ≡ each_from 1 (vec_len l.others)
      (begun_seat (g.P.Protocol.first l.fn.self.protocol) l.fn.self);
  count : vec_len l.others + 1 ≡ l.number;
  capacity : vec_capacity l.others ≡ l.fn.self.shape.seats;
}
