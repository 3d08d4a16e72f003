use Rattle.std.proofs.Common.{ap, rules, sym, subst}
use Rattle.std.specs.Prelude.{Ok, Option}
use Rattle.protected_loads.specs.plain_state.declared.act.EventPlace.{EventPlace}
use Rattle.protected_loads.specs.plain_state.declared.slot.SlotId.{SlotId}
use Rattle.protected_loads.specs.core_events.declared.act.Act.TheVariants as act
use Rattle.protected_loads.specs.acquire_retire.Calls.{IsReady, IsSameView, same_view}
use Rattle.protected_loads.specs.Loads.{FindsNull, Misses}
use Rattle.atomic_weak.proofs.Protected.{can_ask, ready_for}
use Rattle.atomic_weak.proofs.Settled.{protected, settles}
use Rattle.atomic_weak.proofs.Under.{least_used}
use Rattle.atomic_weak.proofs.snapshots.try_weak_snapshot.Goals as goal

pub acquire-requires-clause-look : goal.acquire-requires-clause-look
acquire-requires-clause-look g c =
    subst (λ (y : EventPlace).
    IsReady (g.D.Deed.ready c.args.deed c.args.domain.now.protocol) c.args.domain.now.shape
    (act.Look y) c.args.seat.now.view)
    (sym c.event_place.ensures) c.requires.deed.look

pub ask-requires-clause-may : goal.ask-requires-clause-may
ask-requires-clause-may g c =
    let p = protected c.args.place c.event_place.ensures c.requires.rest
    (rw c.in-Ok-Some.field-0-is at (c.in-Ok-Some.ensures {u = tt}).protected)
    c.acquire.ensures.objects in
    let word = (c.in-Ok.ensures {u = tt}).word in
    can_ask p c.in-Ok.word (least_used c.args.seat.now.view.core c.in-Ok.word word.0 word.1)

pub ask-requires-clause-deed : goal.ask-requires-clause-deed
ask-requires-clause-deed g c =
    let p = protected c.args.place c.event_place.ensures c.requires.rest
    (rw c.in-Ok-Some.field-0-is at (c.in-Ok-Some.ensures {u = tt}).protected)
    c.acquire.ensures.objects in
    ready_for p (g.D.Deed.ready c.args.deed c.args.domain.now.protocol) c.in-Ok.word
    (c.in-Ok.ensures {u = tt}).word.0 c.requires.deed

pub returns-in-Err-clause-moved : goal.returns-in-Err-clause-moved
returns-in-Err-clause-moved g c = λ seen now is.
    let words = c.in_words.ensures.words seen now (cc (is)) in
    subst (λ (y : EventPlace × Option SlotId × Option SlotId).
    Misses g.P.Kind.PayloadKind.fits c.args.domain.now 0 y.0 same_view IsSameView y.1 y.2
    c.args.seat.now c.acquire.new.seat)
    (λ i. (c.event_place.ensures i, sym words.0 i, sym words.1 i))
    (c.in-Err.ensures {u = tt}).moved

pub returns-in-Ok-None-clause-found : goal.returns-in-Ok-None-clause-found
returns-in-Ok-None-clause-found g c =
    subst (λ (y : EventPlace).
    FindsNull g.P.Kind.PayloadKind.fits c.args.domain.now y
    (g.D.Deed.next c.args.deed c.args.domain.now.protocol)
    (g.D.Deed.allows c.args.deed c.args.domain.now.protocol) c.args.seat.now
    c.acquire.new.seat)
    c.event_place.ensures ((c.in-Ok-None.ensures {u = tt}).null (ap Ok c.in-Ok-None.field-0-is))

pub returns-in-Ok-Some : goal.returns-in-Ok-Some
returns-in-Ok-Some g c =
    let p = protected c.args.place c.event_place.ensures c.requires.rest
    (rw c.in-Ok-Some.field-0-is at (c.in-Ok-Some.ensures {u = tt}).protected)
    c.acquire.ensures.objects in
    let word = (c.in-Ok.ensures {u = tt}).word in
    let leaves = settles p c.in-Ok.word word.0 word.1
    (g.D.Deed.next c.args.deed c.args.domain.now.protocol)
    (g.D.Deed.allows c.args.deed c.args.domain.now.protocol) c.ask.new.seat c.ask.result
    c.ask.ensures in record {
      spent = search rules;
      refused = search rules;
      found = leaves.found;
      moved = search rules;
      under = leaves.under;
      notes = leaves.notes;
      still = tt;
      others = leaves.others;
      objects = leaves.objects;
      room = leaves.room;
      rest = leaves.rest;
    }
