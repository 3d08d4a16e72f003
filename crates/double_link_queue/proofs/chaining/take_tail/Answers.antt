use Rattle.linked_queue.specs.Pushes.{IsWhyUnlinked}
use Rattle.linked_queue.proofs.Linkings.{why_later}
use Rattle.double_link_queue.specs.Steps.{ExchangesTail, LosesExchange, LosesTake, MissesBack, TakesTail}
use Rattle.std.proofs.Common.{refl, sym, ap, ◌∙◌, subst, arith, inl, inr}
use Rattle.std.specs.Prelude.{IfOk, None}
use Rattle.weak_part_calls.specs.plain_state.declared.slot.SlotId.{SlotId}
use Rattle.weak_part_calls.specs.core_events.declared.view.CoreView.{CoreView}
use Rattle.weak_part_calls.proofs.Below.acquire_retire_Wholes.{then_ok}
use Rattle.linked_queue.specs.queue_law.Pushes.{carried_item}
use Rattle.weak_part_calls.specs.part_calls.Parts.{as_part, seen_by}
use Rattle.linked_queue.proofs.Accepting.{may_still}
use Rattle.linked_queue.proofs.Leavings.{then_err}
use Rattle.double_link_queue.specs.Pushes.{CanExchange, IsInFlight, beside_back}
use Rattle.double_link_queue.proofs.Owning.{both_of, nothing_then}
use Rattle.double_link_queue.proofs.Pushings.{taken_deeds, untaken}
use Rattle.double_link_queue.proofs.Takes.{attached_back, attached_on, both_leave, can_exchange, carried_still, load_on, tail_backed}
use Rattle.double_link_queue.proofs.Whys.{on_err}
use Rattle.double_link_queue.proofs.chaining.take_tail.Goals as goal

pub help-requires-clause-attached : goal.help-requires-clause-attached
help-requires-clause-attached g c =
    attached_back c.args.last.now.slot (g.P.Part.seen c.args.seat.now.view.client)
    (g.P.Part.seen c.link_back.new.seat.view.client) c.in-Ok.ensures.backed c.requires.attached

pub help-requires-clause-tail : goal.help-requires-clause-tail
help-requires-clause-tail g c =
    tail_backed c.args.last.now.slot c.args.node (seen_by g.P.Part.seen c.args.seat.now)
    (seen_by g.P.Part.seen c.link_back.new.seat) c.requires.last c.requires.load
    c.link_back.ensures.leaves c.in-Ok.ensures.backed

pub exchange-requires-clause-attached : goal.exchange-requires-clause-attached
exchange-requires-clause-attached g c =
    attached_on (g.P.Part.seen c.link_back.new.seat.view.client)
    (g.P.Part.seen c.help.new.seat.view.client) c.help.ensures.beside
    (attached_back c.args.last.now.slot (g.P.Part.seen c.args.seat.now.view.client)
    (g.P.Part.seen c.link_back.new.seat.view.client) c.in-Ok.ensures.backed c.requires.attached)

pub exchange-requires-clause-ready : goal.exchange-requires-clause-ready
exchange-requires-clause-ready g c =
    let last = c.args.last.now.slot in
    let helped = seen_by g.P.Part.seen c.help.new.seat in
    subst (λ (s : SlotId). CanExchange s c.args.node helped) (sym c.slot.ensures)
    (can_exchange last c.args.node (seen_by g.P.Part.seen c.args.seat.now)
    (seen_by g.P.Part.seen c.link_back.new.seat) c.requires.last c.requires.load
    c.link_back.ensures.leaves c.in-Ok.ensures.backed helped c.help.ensures.leaves
    c.help.ensures.beside c.help.ensures.tail c.in_default-help.ensures.helped)

pub exchange-requires-clause-may : goal.exchange-requires-clause-may
exchange-requires-clause-may g c =
    may_still g.P.Part.seen g.P.Part.with_seen g.P.Part.puts_back g.P.Part.puts_over
    g.P.HasQueue.may_push g.met.P.HasQueue.stays c.args.domain.now.protocol c.args.seat.now
    c.help.new.seat (carried_item (g.P.Part.seen c.args.seat.now.view.client))
    (carried_item (g.P.Part.seen c.help.new.seat.view.client))
    (c.help.ensures.beside_part ∙ c.link_back.ensures.beside_part)
    (sym (carried_still c.args.last.now.slot c.args.node (seen_by g.P.Part.seen c.args.seat.now)
    (seen_by g.P.Part.seen c.link_back.new.seat) c.requires.last c.requires.load
    c.link_back.ensures.leaves c.in-Ok.ensures.backed (seen_by g.P.Part.seen c.help.new.seat)
    c.help.ensures.leaves c.help.ensures.beside))
    c.requires.may

pub returns-clause-pushed : goal.returns-clause-pushed
returns-clause-pushed g c =
    then_ok _ _ c.exchange.result
    (λ done is. taken_deeds c.args.last.now.slot (g.P.Part.seen c.args.seat.now.view.client)
    (g.P.Part.seen c.link_back.new.seat.view.client) (g.P.Part.seen c.help.new.seat.view.client)
    (g.P.Part.seen c.exchange.new.seat.view.client) c.in-Ok.ensures.backed c.help.ensures.beside is)
    c.exchange.ensures.pushed

pub returns-clause-flight : goal.returns-clause-flight
returns-clause-flight g c =
    subst (λ (s : SlotId). IfOk c.exchange.result
    (λ done. IsInFlight s c.args.node (seen_by g.P.Part.seen c.exchange.new.seat)))
    c.slot.ensures c.exchange.ensures.flight

pub returns-clause-refused : goal.returns-clause-refused
returns-clause-refused g c =
    on_err _ _ c.exchange.result
    (λ same. ap beside_back same
    ∙ untaken c.args.last.now.slot (g.P.Part.seen c.args.seat.now.view.client)
    (g.P.Part.seen c.link_back.new.seat.view.client) (g.P.Part.seen c.help.new.seat.view.client)
    c.in-Ok.ensures.backed c.help.ensures.beside)
    c.exchange.ensures.refused

pub returns-clause-leaves : goal.returns-clause-leaves
returns-clause-leaves g c =
    let old = seen_by g.P.Part.seen c.args.seat.now in
    let helped = seen_by g.P.Part.seen c.help.new.seat in
    let new = seen_by g.P.Part.seen c.exchange.new.seat in
    nothing_then None old helped new
    (both_leave c.args.last.now.slot c.args.node old (seen_by g.P.Part.seen c.link_back.new.seat)
    c.requires.last c.requires.load c.link_back.ensures.leaves c.in-Ok.ensures.backed helped
    c.help.ensures.leaves c.help.ensures.beside)
    (both_of helped.view.core.owned helped new c.exchange.ensures.leaves)

pub returns-clause-load : goal.returns-clause-load
returns-clause-load g c =
    let old = seen_by g.P.Part.seen c.args.seat.now in
    let new = seen_by g.P.Part.seen c.exchange.new.seat in
    on_err _ _ c.exchange.result
    (λ same. load_on c.args.node old new c.requires.load (returns-clause-leaves g c)
    (ap beside_back same
    ∙ untaken c.args.last.now.slot (g.P.Part.seen c.args.seat.now.view.client)
    (g.P.Part.seen c.link_back.new.seat.view.client) (g.P.Part.seen c.help.new.seat.view.client)
    c.in-Ok.ensures.backed c.help.ensures.beside))
    c.exchange.ensures.refused

pub returns-clause-why : goal.returns-clause-why
returns-clause-why g c =
    let d = as_part g.P.Part.part c.args.domain.now in
    let fits = g.P.Kind.PayloadKind.fits in
    let before = seen_by g.P.Part.seen c.args.seat.now in
    let last = c.args.last.now.slot in
    let backed = seen_by g.P.Part.seen c.link_back.new.seat in
    let helped = seen_by g.P.Part.seen c.help.new.seat in
    let after = seen_by g.P.Part.seen c.exchange.new.seat in
    let first = c.link_back.ensures.adds in
    let second = c.help.ensures.adds in
    then_err (λ error. IsWhyUnlinked (λ was now.
    LosesExchange fits d c.slot.result c.args.node was now helped after) 0 error helped)
    (λ error. IsWhyUnlinked (λ was now. LosesTake fits d last c.args.node was now before after) 4
    error before)
    c.exchange.result
    (λ error why. why_later
    (λ was now. LosesExchange fits d c.slot.result c.args.node was now helped after)
    (λ was now. LosesTake fits d last c.args.node was now before after) 0 4 4 refl error before
    helped (omega arith)
    (ap (λ (v : CoreView). v.quota.adds)
    (c.help.ensures.leaves.same ∙ c.link_back.ensures.leaves.same))
    (λ was now m. record {
      backed = backed;
      links = c.in-Ok.ensures.events;
      loses = inr (record {
        helped = helped;
        helps = c.in_default-help.ensures.events;
        loses = subst (λ (s : SlotId). LosesExchange fits d s c.args.node was now helped after)
            c.slot.ensures m;
      });
    })
    why)
    c.exchange.ensures.why

pub returns-in-Err-clause-why : goal.returns-in-Err-clause-why
returns-in-Err-clause-why g c =
    let d = as_part g.P.Part.part c.args.domain.now in
    let fits = g.P.Kind.PayloadKind.fits in
    let before = seen_by g.P.Part.seen c.args.seat.now in
    let last = c.args.last.now.slot in
    let backed = seen_by g.P.Part.seen c.link_back.new.seat in
    let after = seen_by g.P.Part.seen c.help.new.seat in
    why_later (λ was now. MissesBack fits d last was now backed after)
    (λ was now. LosesTake fits d last c.args.node was now before after) 2 4 2 refl
    c.in-Err.error before backed (let first = c.link_back.ensures.adds in omega arith)
    (ap (λ (v : CoreView). v.quota.adds) c.link_back.ensures.leaves.same)
    (λ was now m. record { backed = backed; links = c.in-Ok.ensures.events; loses = inl m })
    c.in-Err.ensures.why

pub returns-clause-events : goal.returns-clause-events
returns-clause-events g c =
    let d = as_part g.P.Part.part c.args.domain.now in
    let fits = g.P.Kind.PayloadKind.fits in
    let before = seen_by g.P.Part.seen c.args.seat.now in
    let last = c.args.last.now.slot in
    let helped = seen_by g.P.Part.seen c.help.new.seat in
    let after = seen_by g.P.Part.seen c.exchange.new.seat in
    then_ok (λ done. ExchangesTail fits d c.slot.result c.args.node helped after)
    (λ done. TakesTail fits d last c.args.node before after) c.exchange.result
    (λ done exchanges. record {
      backed = seen_by g.P.Part.seen c.link_back.new.seat;
      helped = helped;
      links = c.in-Ok.ensures.events;
      helps = c.in_default-help.ensures.events;
      exchanges = subst (λ (s : SlotId). ExchangesTail fits d s c.args.node helped after)
          c.slot.ensures exchanges;
    })
    c.exchange.ensures.events

pub returns-in-Err-clause-leaves : goal.returns-in-Err-clause-leaves
returns-in-Err-clause-leaves g c =
    both_leave c.args.last.now.slot c.args.node (seen_by g.P.Part.seen c.args.seat.now)
    (seen_by g.P.Part.seen c.link_back.new.seat) c.requires.last c.requires.load
    c.link_back.ensures.leaves c.in-Ok.ensures.backed (seen_by g.P.Part.seen c.help.new.seat)
    c.help.ensures.leaves c.help.ensures.beside

pub returns-in-Err-clause-load : goal.returns-in-Err-clause-load
returns-in-Err-clause-load g c =
    load_on c.args.node (seen_by g.P.Part.seen c.args.seat.now)
    (seen_by g.P.Part.seen c.help.new.seat) c.requires.load
    (returns-in-Err-clause-leaves g c)
    (untaken c.args.last.now.slot (g.P.Part.seen c.args.seat.now.view.client)
    (g.P.Part.seen c.link_back.new.seat.view.client) (g.P.Part.seen c.help.new.seat.view.client)
    c.in-Ok.ensures.backed c.help.ensures.beside)
