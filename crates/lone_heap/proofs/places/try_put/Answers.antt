use Rattle.std.proofs.Common.{subst, sym, ◌∙◌}
use Rattle.protected_loads.specs.plain_state.Places.{place_kind}
use Rattle.protected_loads.specs.plain_state.Places.{IsOpen}
use Rattle.protected_loads.specs.plain_state.State.{Plain, seat_at}
use Rattle.plain_settling.specs.plain_store.Calls.{MayGive, Tries}
use Rattle.protected_loads.specs.acquire_retire.Calls.{IsSameView, same_view}
use Rattle.lone_heap.specs.Lone.{ThenTidies, known_plain}
use Rattle.lone_heap.proofs.Placing.{give_here, open_here, tried_ready, tried_shown, tried_shows, try_after}
use Rattle.lone_heap.proofs.places.try_put.Goals as goal

pub compare_exchange-requires-clause-may : goal.compare_exchange-requires-clause-may
compare_exchange-requires-clause-may g c = (
  c.find.ensures.ready.rest.idle,
  c.find.ensures.ready.room,
  open_here c.args.domain.now c.find.new.seat c.find.ensures.ready c.args.place
      (subst (λ (p : Plain). IsOpen p 0 c.args.place) (sym c.find.ensures.same) c.requires.opened),
  give_here c.args.domain.now c.find.new.seat c.find.ensures.ready (place_kind c.args.place)
      c.args.new
      (subst (λ (p : Plain). MayGive (place_kind c.args.place) c.args.new (seat_at p 0))
      (sym c.find.ensures.same) c.requires.given),
  c.find.ensures.there,
)

pub returns-clause-tries : goal.returns-clause-tries
returns-clause-tries g c =
    subst (λ (p : Plain).
    ThenTidies (Tries p c.args.place c.args.expected c.args.new c.is_ok.result)
    (known_plain c.args.domain.now c.compare_exchange.new.seat)) c.find.ensures.same
    (tried_shown g.K.PayloadKind.fits c.args.domain.now same_view IsSameView c.args.place c.args.new c.find.new.seat
    c.compare_exchange.new.seat c.find.ensures.ready c.args.expected c.compare_exchange.result
    c.is_ok.result c.is_ok.ensures.value c.compare_exchange.ensures.replaced
    c.compare_exchange.ensures.lost)

pub returns-clause-ready : goal.returns-clause-ready
returns-clause-ready g c =
    tried_ready g.K.PayloadKind.fits c.args.domain.now same_view IsSameView c.args.place c.args.new c.find.new.seat
    c.compare_exchange.new.seat c.find.ensures.ready c.args.expected c.compare_exchange.result
    c.compare_exchange.ensures.replaced c.compare_exchange.ensures.lost
    c.compare_exchange.ensures.rest c.compare_exchange.ensures.room

pub returns-clause-notes : goal.returns-clause-notes
returns-clause-notes g c = c.compare_exchange.ensures.notes ∙ c.find.ensures.notes

pub returns-clause-trail : goal.returns-clause-trail
returns-clause-trail g c =
    try_after c.args.place c.args.expected c.args.new c.is_ok.result c.args.seat.now.view.core
    c.find.new.seat.view.core c.compare_exchange.new.seat.view.core c.find.ensures.trail
    (tried_shows g.K.PayloadKind.fits c.args.domain.now same_view IsSameView c.args.place c.args.new
    c.find.new.seat c.compare_exchange.new.seat c.find.ensures.ready c.args.expected
    c.compare_exchange.result c.is_ok.result c.is_ok.ensures.value
    c.compare_exchange.ensures.replaced c.compare_exchange.ensures.lost)
