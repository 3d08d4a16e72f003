use Rattle.std.proofs.Common.{inl}
use Rattle.protected_loads.specs.plain_state.Places.{place_kind}
use Rattle.protected_loads.specs.core_events.declared.act.Act.TheVariants as act
use Rattle.protected_loads.specs.core_events.declared.outcome.Outcome.TheVariants as outcome
use Rattle.protected_loads.specs.acquire_retire.Collecting.{move}
use Rattle.lone_heap.proofs.Placing.{exchange_ready, give_here, open_here, put_shown, put_shows}
use Rattle.lone_heap.proofs.places.put.Goals as goal

pub exchange-requires-clause-may : goal.exchange-requires-clause-may
exchange-requires-clause-may g c = (
  c.requires.ready.rest.idle,
  c.requires.ready.room,
  inl (
    open_here c.args.domain.now c.args.seat.now c.requires.ready c.args.place c.requires.opened,
    give_here c.args.domain.now c.args.seat.now c.requires.ready (place_kind c.args.place)
        c.args.new c.requires.given,
  ),
)

pub returns-clause-puts : goal.returns-clause-puts
returns-clause-puts g c =
    put_shown c.args.domain.now c.args.place c.args.new c.args.seat.now c.exchange.new.seat
    c.requires.ready c.exchange.result
    (open_here c.args.domain.now c.args.seat.now c.requires.ready c.args.place c.requires.opened)
    c.exchange.ensures.exchanged

pub returns-clause-ready : goal.returns-clause-ready
returns-clause-ready g c =
    exchange_ready c.args.domain.now c.args.place c.args.new c.args.seat.now c.exchange.new.seat
    c.requires.ready
    (move (act.Swap c.args.place c.args.new) (outcome.Found c.exchange.result)) c.exchange.result
    c.exchange.ensures.exchanged c.exchange.ensures.rest c.exchange.ensures.room

pub returns-clause-trail : goal.returns-clause-trail
returns-clause-trail g c = (
  c.exchange.result,
  put_shows c.args.domain.now c.args.place c.args.new c.args.seat.now c.exchange.new.seat
      c.requires.ready
      (move (act.Swap c.args.place c.args.new) (outcome.Found c.exchange.result)) c.exchange.result
      c.exchange.ensures.exchanged,
)
