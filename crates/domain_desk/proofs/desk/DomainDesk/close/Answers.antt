use Rattle.std.proofs.Common.{[]}
use Rattle.std.specs.Map.{values_of}
use Rattle.lone_heap.specs.Lone.{known_plain}
use Rattle.lone_heap.proofs.Trailing.{shows_then}
use Rattle.script_desk.specs.Desks.{without_handles}
use Rattle.script_desk.proofs.Closing.{has_first}
use Rattle.domain_desk.specs.Desks.{core_of, plain_of}
use Rattle.domain_desk.proofs.Closing.{fewer_left, holds_left, last_none, last_tidies, tidies_left}
use Rattle.domain_desk.proofs.desk.DomainDesk.close.Goals as goal

pub give_up-requires-clause-has : goal.give_up-requires-clause-has
give_up-requires-clause-has g c =
    has_first (known_plain c.self.inside.domain c.loop-handle.seat) (values_of c.loop-handle.names)
    (values_of c.pop.new.self) c.in-Some.handle c.loop-handle.invariant.holds
    c.in-Some.ensures.fewer

pub loop-handle-smaller : goal.loop-handle-smaller
loop-handle-smaller g c =
    fewer_left c.loop-handle.names c.pop.new.self c.in-Some.handle c.in-Some.ensures.fewer

pub loop-handle-preserved : goal.loop-handle-preserved
loop-handle-preserved g c = record {
  holds =
      holds_left (known_plain c.self.inside.domain c.loop-handle.seat)
      (known_plain c.self.inside.domain c.give_up.new.seat) c.in-Some.handle
      c.give_up.ensures.gives c.loop-handle.names c.pop.new.self c.loop-handle.invariant.holds
      c.in-Some.ensures.fewer;
  ready = c.give_up.ensures.ready;
  noted = c.give_up.ensures.noted;
  rest =
      tidies_left (known_plain c.self.inside.domain c.loop-handle.seat)
      (known_plain c.self.inside.domain c.give_up.new.seat) c.in-Some.handle
      c.give_up.ensures.gives (without_handles (plain_of c.args.self))
      c.loop-handle.invariant.rest;
  trail =
      shows_then [] [] (core_of c.args.self) c.loop-handle.seat.view.core
      c.give_up.new.seat.view.core c.loop-handle.invariant.trail c.give_up.ensures.trail;
}

pub returns-clause-tidies : goal.returns-clause-tidies
returns-clause-tidies g c =
    last_tidies (known_plain c.self.inside.domain c.loop-handle.seat)
    (known_plain c.self.inside.domain c.settle_all.new.seat) c.loop-handle.names
    c.loop-handle.invariant.holds c.in_default.ensures.none c.settle_all.ensures.tidies
    (without_handles (plain_of c.args.self)) c.loop-handle.invariant.rest

pub returns-clause-none : goal.returns-clause-none
returns-clause-none g c =
    last_none (known_plain c.self.inside.domain c.loop-handle.seat)
    (known_plain c.self.inside.domain c.settle_all.new.seat) c.loop-handle.names
    c.loop-handle.invariant.holds c.in_default.ensures.none c.settle_all.ensures.tidies

pub returns-clause-trail : goal.returns-clause-trail
returns-clause-trail g c =
    shows_then [] [] (core_of c.args.self) c.loop-handle.seat.view.core
    c.settle_all.new.seat.view.core c.loop-handle.invariant.trail c.settle_all.ensures.trail
