use Rattle.std.proofs.Common.{arith, ◌<◌, ◌∙◌, subst, sym}
use Rattle.atomic_shared.specs.plain_state.Lists.{times}
use Rattle.slot_store.specs.core_events.Views.{without}
use Rattle.directory_calls.proofs.Parts.{place_of}
use Rattle.record_making.specs.Making.{HasTwo, Links}
use Rattle.record_making.proofs.Noted.{misses_on}
use Rattle.record_making.proofs.Before.{front_left, has_two, leaves_before, made_before, owned_before, put_before, refused_before, rest_owned, rest_part}
use Rattle.record_making.proofs.Dropped.{dropped, makes_still, used_still}
use Rattle.record_making.proofs.making.make_before.Goals as goal

pub link-requires-clause-left : goal.link-requires-clause-left
link-requires-clause-left g c =
    subst (λ x. 0 < times x (without c.args.rest.slot c.make_slot.new.seat.view.core.owned))
    (sym c.slot.ensures) (front_left (place_of g.P.Part.seen g.P.Part.with_seen g.P.Part.reads
    g.P.Part.puts_back
    g.P.Part.puts_over)
    c.in-Ok.front.slot c.args.rest.slot c.args.payload.now c.args.seat.now c.make_slot.new.seat
    c.in-Ok.ensures.leaves c.requires.owned c.in-Ok.ensures.made c.in-Ok.ensures.noted)

pub link-requires-clause-rest_owned : goal.link-requires-clause-rest_owned
link-requires-clause-rest_owned g c =
    rest_owned (place_of g.P.Part.seen g.P.Part.with_seen g.P.Part.reads g.P.Part.puts_back
    g.P.Part.puts_over)
    c.in-Ok.front.slot c.args.rest.slot c.args.payload.now c.args.seat.now c.make_slot.new.seat
    c.in-Ok.ensures.leaves c.requires.owned c.in-Ok.ensures.made c.in-Ok.ensures.noted

pub link-requires-clause-part : goal.link-requires-clause-part
link-requires-clause-part g c =
    rest_part (place_of g.P.Part.seen g.P.Part.with_seen g.P.Part.reads g.P.Part.puts_back
    g.P.Part.puts_over)
    c.in-Ok.front.slot c.args.rest.slot c.args.payload.now c.args.seat.now c.make_slot.new.seat
    c.in-Ok.ensures.leaves c.requires.owned c.in-Ok.ensures.made c.in-Ok.ensures.noted
    c.requires.part

pub link-requires-clause-noted : goal.link-requires-clause-noted
link-requires-clause-noted g c =
    subst (λ x. HasTwo g.P.Part.seen x c.args.rest.slot c.make_slot.new.seat)
    (sym c.slot.ensures) (has_two (place_of g.P.Part.seen g.P.Part.with_seen g.P.Part.reads
    g.P.Part.puts_back
    g.P.Part.puts_over)
    c.in-Ok.front.slot c.args.rest.slot c.args.payload.now c.args.seat.now c.make_slot.new.seat
    c.in-Ok.ensures.leaves c.requires.owned c.in-Ok.ensures.made c.in-Ok.ensures.noted
    c.requires.noted)

pub returns-in-Ok-clause-before : goal.returns-in-Ok-clause-before
returns-in-Ok-clause-before g c =
    put_before (place_of g.P.Part.seen g.P.Part.with_seen g.P.Part.reads g.P.Part.puts_back
    g.P.Part.puts_over)
    c.in-Ok.front.slot c.args.rest.slot c.args.payload.now c.args.seat.now c.make_slot.new.seat
    c.in-Ok.ensures.leaves c.requires.owned c.in-Ok.ensures.made c.in-Ok.ensures.noted
    c.link.new.seat c.link.ensures.leaves
    (subst (λ x. Links g.P.Part.seen g.P.Part.with_seen x c.args.rest.slot c.make_slot.new.seat
    c.link.new.seat) c.slot.ensures c.link.ensures.links)

pub returns-in-Ok-clause-made : goal.returns-in-Ok-clause-made
returns-in-Ok-clause-made g c =
    made_before (place_of g.P.Part.seen g.P.Part.with_seen g.P.Part.reads g.P.Part.puts_back
    g.P.Part.puts_over)
    c.in-Ok.front.slot c.args.rest.slot c.args.payload.now c.args.seat.now c.make_slot.new.seat
    c.in-Ok.ensures.leaves c.requires.owned c.in-Ok.ensures.made c.in-Ok.ensures.noted
    c.link.new.seat c.link.ensures.leaves

pub returns-in-Ok-clause-owned : goal.returns-in-Ok-clause-owned
returns-in-Ok-clause-owned g c =
    owned_before (place_of g.P.Part.seen g.P.Part.with_seen g.P.Part.reads g.P.Part.puts_back
    g.P.Part.puts_over)
    c.in-Ok.front.slot c.args.rest.slot c.args.payload.now c.args.seat.now c.make_slot.new.seat
    c.in-Ok.ensures.leaves c.requires.owned c.in-Ok.ensures.made c.in-Ok.ensures.noted
    c.link.new.seat c.link.ensures.leaves

pub returns-in-Ok-clause-leaves : goal.returns-in-Ok-clause-leaves
returns-in-Ok-clause-leaves g c =
    leaves_before (place_of g.P.Part.seen g.P.Part.with_seen g.P.Part.reads g.P.Part.puts_back
    g.P.Part.puts_over)
    c.in-Ok.front.slot c.args.rest.slot c.args.payload.now c.args.seat.now c.make_slot.new.seat
    c.in-Ok.ensures.leaves c.requires.owned c.in-Ok.ensures.made c.in-Ok.ensures.noted
    c.link.new.seat c.link.ensures.leaves

pub returns-in-Err-clause-full : goal.returns-in-Err-clause-full
returns-in-Err-clause-full g c =
    λ is. misses_on g.P.Kind.PayloadKind.fits c.args.domain.now c.args.seat.now
    c.make_slot.new.seat c.drop_strong.new.seat (c.make_slot.ensures.full (c.in-Err.is ∙ is))
    (dropped c.make_slot.new.seat c.drop_strong.new.seat c.args.rest.slot
    g.P.Kind.PayloadKind.fits c.args.domain.now c.drop_strong.ensures.dropped
    c.drop_strong.ensures.objects).goes

pub returns-in-Err-clause-leaves : goal.returns-in-Err-clause-leaves
returns-in-Err-clause-leaves g c =
    refused_before c.args.rest.slot c.args.seat.now c.make_slot.new.seat c.drop_strong.new.seat
    c.in-Err.ensures.leaves c.requires.owned
    (dropped c.make_slot.new.seat c.drop_strong.new.seat c.args.rest.slot
    g.P.Kind.PayloadKind.fits c.args.domain.now c.drop_strong.ensures.dropped
    c.drop_strong.ensures.objects)

pub returns-in-Ok-clause-makes : goal.returns-in-Ok-clause-makes
returns-in-Ok-clause-makes g c =
    omega (arith, c.in-Ok.ensures.makes, c.link.ensures.makes)

pub returns-in-Err-clause-makes : goal.returns-in-Err-clause-makes
returns-in-Err-clause-makes g c =
    omega (
      arith,
      c.in-Err.ensures.makes,
      makes_still c.make_slot.new.seat c.drop_strong.new.seat c.args.rest.slot
          g.P.Kind.PayloadKind.fits c.args.domain.now c.drop_strong.ensures.dropped,
    )

pub returns-in-Ok-clause-used : goal.returns-in-Ok-clause-used
returns-in-Ok-clause-used g c = omega (arith, c.make_slot.ensures.used, c.link.ensures.used)

pub returns-in-Err-clause-used : goal.returns-in-Err-clause-used
returns-in-Err-clause-used g c =
    omega (
      arith,
      c.make_slot.ensures.used,
      used_still c.make_slot.new.seat c.drop_strong.new.seat c.args.rest.slot
          g.P.Kind.PayloadKind.fits c.args.domain.now c.drop_strong.ensures.dropped,
    )
