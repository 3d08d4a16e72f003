use Rattle.std.proofs.Common.{ap, ◌∙◌, subst, [], ◌∷◌}
use Rattle.protected_loads.specs.plain_state.Places.{Holds}
use Rattle.protected_loads.specs.plain_state.References.{weak_refs}
use Rattle.protected_loads.specs.plain_state.State.{Plain, PlainSeat}
use Rattle.protected_loads.specs.core_events.declared.act.Act.TheVariants as act
use Rattle.protected_loads.specs.core_events.declared.outcome.Outcome.TheVariants as outcome
use Rattle.protected_loads.specs.acquire_retire.Collecting.{move}
use Rattle.lone_heap.specs.Lone.{IsReady}
use Rattle.lone_heap.proofs.Counted.{held_there, strong_ready, strong_shows, strong_told, weak_is, weak_ready, weak_same}
use Rattle.lone_heap.proofs.Trailing.{becomes_shows, shows_then}
use Rattle.lone_heap.proofs.telling.counts.Given as given
use Rattle.lone_heap.proofs.telling.counts.Goals as goal

ready : (g : given.Over) (c : goal.After-weak_count-weak g)
    → IsReady c.args.domain.now c.strong_count-strong.new.seat
ready g c =
    strong_ready c.args.domain.now c.args.slot c.strong_count-strong.result c.args.seat.now
    c.strong_count-strong.new.seat c.requires.ready c.strong_count-strong.ensures.counted
    c.strong_count-strong.ensures.rest c.strong_count-strong.ensures.room

pub returns-clause-strong : goal.returns-clause-strong
returns-clause-strong g c =
    (strong_told c.args.domain.now c.args.slot c.strong_count-strong.result c.args.seat.now
    c.strong_count-strong.new.seat c.requires.ready c.requires.settled
    c.strong_count-strong.ensures.counted).0

pub returns-clause-weak : goal.returns-clause-weak
returns-clause-weak g c =
    weak_is c.args.domain.now c.args.slot c.strong_count-strong.new.seat
    c.weak_count-weak.new.seat (ready g c) c.weak_count-weak.result
    c.weak_count-weak.ensures.counted
    ∙ ap (λ (p : Plain). weak_refs p c.args.slot)
    (strong_told c.args.domain.now c.args.slot c.strong_count-strong.result c.args.seat.now
    c.strong_count-strong.new.seat c.requires.ready c.requires.settled
    c.strong_count-strong.ensures.counted).1

pub returns-clause-same : goal.returns-clause-same
returns-clause-same g c =
    weak_same c.args.domain.now c.args.slot c.strong_count-strong.new.seat
    c.weak_count-weak.new.seat (ready g c) c.weak_count-weak.result
    c.weak_count-weak.ensures.counted
    ∙ (strong_told c.args.domain.now c.args.slot c.strong_count-strong.result c.args.seat.now
    c.strong_count-strong.new.seat c.requires.ready c.requires.settled
    c.strong_count-strong.ensures.counted).1

pub returns-clause-ready : goal.returns-clause-ready
returns-clause-ready g c =
    weak_ready c.args.domain.now c.args.slot c.strong_count-strong.new.seat
    c.weak_count-weak.new.seat (ready g c) c.weak_count-weak.result
    c.weak_count-weak.ensures.counted c.weak_count-weak.ensures.rest
    c.weak_count-weak.ensures.room

pub returns-clause-trail : goal.returns-clause-trail
returns-clause-trail g c =
    shows_then
    (move (act.Count c.args.slot) (outcome.Number c.strong_count-strong.result) ∷ [])
    (move (act.Wcount c.args.slot) (outcome.Word c.weak_count-weak.result) ∷ [])
    c.args.seat.now.view.core c.strong_count-strong.new.seat.view.core
    c.weak_count-weak.new.seat.view.core
    (strong_shows c.args.domain.now c.args.slot c.strong_count-strong.result c.args.seat.now
    c.strong_count-strong.new.seat c.requires.ready c.requires.settled
    (held_there c.args.domain.now c.args.slot c.strong_count-strong.result c.args.seat.now
    c.strong_count-strong.new.seat c.requires.ready c.strong_count-strong.ensures.counted
    (subst (λ (v : PlainSeat). Holds v c.args.slot) c.requires.ready.mine c.requires.holds))
    c.strong_count-strong.ensures.counted)
    (becomes_shows c.args.domain.now c.strong_count-strong.new.seat c.weak_count-weak.new.seat
    c.weak_count-weak.ensures.counted.becomes)
