use Rattle.std.proofs.Common.{◌≡◌, ◌+◌, [], vec_len, vec_capacity}
use Rattle.sticky_count.specs.Views.{fresh}
use Rattle.sticky_count.proofs.Opening.{count_at, front}
use Rattle.sticky_count.proofs.seat.Sticky.open_sticky.Given as goal

abbrev pub invariant-loop-opened : goal.invariant-loop-opened
invariant-loop-opened l = record {
  capacity : vec_capacity l.list ≡ l.fn.seats;
  len : vec_len l.list + 1 ≡ l._opened;
  items : l.list.items ≡ front l.table.shared.table_id l.fn.seats l.adds (vec_len l.list);
  table : l.last.table_id ≡ l.table.shared.table_id;
  view : l.last.me.0.view ≡ fresh (count_at (vec_len l.list));
  seat : l.last.me.0.seat ≡ vec_len l.list;
  seats : l.last.me.0.seats ≡ l.fn.seats;
  past : l.last.me.0.past ≡ [];
  to_open : l.last.me.0.to_open + l._opened ≡ l.fn.seats;
}
