use Rattle.std.proofs.Common.{length, []}
use Rattle.std.specs.Map.{values_of}
use Rattle.script_desk.specs.plain_settling.Settling.{TidiesTo}
use Rattle.lone_heap.specs.Lone.{IsReady, known_plain}
use Rattle.lone_heap.specs.Trails.{Shows}
use Rattle.lone_heap.specs.Words.{AreNoted}
use Rattle.script_desk.specs.Desks.{without_handles}
use Rattle.script_desk.specs.Holding.{HoldsFor}
use Rattle.domain_desk.specs.Desks.{core_of, plain_of}
use Rattle.domain_desk.proofs.desk.DomainDesk.close.Given as goal

abbrev pub invariant-loop-handle : goal.invariant-loop-handle
invariant-loop-handle g l = record {
  holds : HoldsFor (known_plain l.domain l.seat) (values_of l.names);
  ready : IsReady l.domain l.seat;
  noted : AreNoted l.words l.seat;
  rest :
      TidiesTo (without_handles (plain_of l.fn.self))
      (without_handles (known_plain l.domain l.seat));
  trail : Shows [] (core_of l.fn.self) l.seat.view.core;
}

abbrev pub decreases-loop-handle : goal.decreases-loop-handle
decreases-loop-handle g l = length l.names
