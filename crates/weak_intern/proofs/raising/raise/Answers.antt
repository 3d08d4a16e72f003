use Rattle.std.proofs.Common.{ap, sym, subst}
use Rattle.record_making.specs.directory_calls.Directories.{CanCount, area_of}
use Rattle.weak_intern.specs.Walking.{raised_by}
use Rattle.record_making.proofs.Below.directory_calls_Parts.{part_as, place_of}
use Rattle.weak_intern.proofs.LetGo.{sighted_held}
use Rattle.weak_intern.proofs.Letting.{raised_begun, raised_core, raised_ended, raised_known, raised_learns, raised_live, raised_objects, raised_same}
use Rattle.weak_intern.proofs.Raised.{ready}
use Rattle.weak_intern.proofs.Moves.{handle_leaves}
use Rattle.weak_intern.proofs.raising.raise.Goals as goal

pub upgrade-raised-requires-clause-holds : goal.upgrade-raised-requires-clause-holds
upgrade-raised-requires-clause-holds g c =
    sighted_held c.args.sighted c.args.seat.now.view.core c.requires.sighted

pub upgrade-raised-requires-clause-deed : goal.upgrade-raised-requires-clause-deed
upgrade-raised-requires-clause-deed g c =
    ready g.P.Kind.PayloadKind.fits c.args.domain.now
    (place_of g.P.Part.seen g.P.Part.with_seen g.P.Part.reads g.P.Part.puts_back
    g.P.Part.puts_over)
    (area_of (g.P.Part.part c.args.domain.now.protocol)) c.new-deed.result.deed.intern
    c.args.sighted.slot c.args.seat.now
    (sighted_held c.args.sighted c.args.seat.now.view.core c.requires.sighted) _ _ _
    (g.met.P.Part.frees c.args.domain.now.protocol)
    (g.met.P.HasDirectory.minds_none c.args.domain.now.protocol)
    c.requires.saw
    (subst (λ b. CanCount b (g.P.Part.seen c.args.seat.now.view.client))
    (sym (ap (λ x. x.intern) c.new-deed.ensures)) c.requires.quota)

pub returns-clause-live : goal.returns-clause-live
returns-clause-live g c =
    raised_live g.P.Kind.PayloadKind.fits c.args.domain.now
    (place_of g.P.Part.seen g.P.Part.with_seen g.P.Part.reads g.P.Part.puts_back
    g.P.Part.puts_over)
    (area_of (g.P.Part.part c.args.domain.now.protocol)) c.new-deed.result.deed.intern
    c.args.sighted c.args.seat.now c.requires.sighted c.let_go.new.seat c.upgrade-raised.new.seat
    c.upgrade-raised.result c.upgrade-raised.ensures.upgraded c.upgrade-raised.ensures.objects
    c.let_go.ensures.core c.let_go.ensures.objects c.let_go.ensures.client

pub returns-clause-begins : goal.returns-clause-begins
returns-clause-begins g c =
    raised_begun g.P.Kind.PayloadKind.fits c.args.domain.now
    (place_of g.P.Part.seen g.P.Part.with_seen g.P.Part.reads g.P.Part.puts_back
    g.P.Part.puts_over)
    (area_of (g.P.Part.part c.args.domain.now.protocol)) c.new-deed.result.deed.intern
    c.args.sighted c.args.seat.now c.requires.sighted c.let_go.new.seat c.upgrade-raised.new.seat
    c.upgrade-raised.result c.upgrade-raised.ensures.upgraded c.upgrade-raised.ensures.objects
    c.let_go.ensures.core c.let_go.ensures.objects c.let_go.ensures.client

pub returns-clause-known : goal.returns-clause-known
returns-clause-known g c =
    raised_known g.P.Kind.PayloadKind.fits c.args.domain.now
    (place_of g.P.Part.seen g.P.Part.with_seen g.P.Part.reads g.P.Part.puts_back
    g.P.Part.puts_over)
    (area_of (g.P.Part.part c.args.domain.now.protocol)) c.new-deed.result.deed.intern
    c.args.sighted c.args.seat.now c.requires.sighted c.let_go.new.seat c.upgrade-raised.new.seat
    c.upgrade-raised.result c.upgrade-raised.ensures.upgraded c.upgrade-raised.ensures.objects
    c.let_go.ensures.core c.let_go.ensures.objects c.let_go.ensures.client

pub returns-clause-ended : goal.returns-clause-ended
returns-clause-ended g c =
    raised_ended g.P.Kind.PayloadKind.fits c.args.domain.now
    (place_of g.P.Part.seen g.P.Part.with_seen g.P.Part.reads g.P.Part.puts_back
    g.P.Part.puts_over)
    (area_of (g.P.Part.part c.args.domain.now.protocol)) c.new-deed.result.deed.intern
    c.args.sighted c.args.seat.now c.requires.sighted c.let_go.new.seat c.upgrade-raised.new.seat
    c.upgrade-raised.result c.upgrade-raised.ensures.upgraded c.upgrade-raised.ensures.objects
    c.let_go.ensures.core c.let_go.ensures.objects c.let_go.ensures.client
    c.upgrade-raised.ensures.ended

pub returns-clause-raises : goal.returns-clause-raises
returns-clause-raises g c =
    raised_core g.P.Kind.PayloadKind.fits c.args.domain.now
    (place_of g.P.Part.seen g.P.Part.with_seen g.P.Part.reads g.P.Part.puts_back
    g.P.Part.puts_over)
    (area_of (g.P.Part.part c.args.domain.now.protocol)) c.new-deed.result.deed.intern
    c.args.sighted c.args.seat.now c.requires.sighted c.let_go.new.seat c.upgrade-raised.new.seat
    c.upgrade-raised.result c.upgrade-raised.ensures.upgraded c.upgrade-raised.ensures.objects
    c.let_go.ensures.core c.let_go.ensures.objects c.let_go.ensures.client c.upgrade-raised.ensures.refused
    c.upgrade-raised.ensures.ended

pub returns-clause-objects : goal.returns-clause-objects
returns-clause-objects g c =
    raised_objects g.P.Kind.PayloadKind.fits c.args.domain.now
    (place_of g.P.Part.seen g.P.Part.with_seen g.P.Part.reads g.P.Part.puts_back
    g.P.Part.puts_over)
    (area_of (g.P.Part.part c.args.domain.now.protocol)) c.new-deed.result.deed.intern
    c.args.sighted c.args.seat.now c.requires.sighted c.let_go.new.seat c.upgrade-raised.new.seat
    c.upgrade-raised.result c.upgrade-raised.ensures.upgraded c.upgrade-raised.ensures.objects
    c.let_go.ensures.core c.let_go.ensures.objects c.let_go.ensures.client c.upgrade-raised.ensures.refused
    c.upgrade-raised.ensures.ended

pub returns-clause-learns : goal.returns-clause-learns
returns-clause-learns g c =
    part_as
    (place_of g.P.Part.seen g.P.Part.with_seen g.P.Part.reads g.P.Part.puts_back
    g.P.Part.puts_over)
    (raised_by c.new-deed.result.deed.intern c.upgrade-raised.result)
    (raised_by c.args.intern c.upgrade-raised.result) c.args.seat.now.view.client
    c.let_go.new.seat.view.client
    (ap (λ x. raised_by x.intern c.upgrade-raised.result) c.new-deed.ensures)
    (raised_learns g.P.Kind.PayloadKind.fits c.args.domain.now
    (place_of g.P.Part.seen g.P.Part.with_seen g.P.Part.reads g.P.Part.puts_back
    g.P.Part.puts_over)
    (area_of (g.P.Part.part c.args.domain.now.protocol)) c.new-deed.result.deed.intern
    c.args.sighted c.args.seat.now c.requires.sighted c.let_go.new.seat c.upgrade-raised.new.seat
    c.upgrade-raised.result c.upgrade-raised.ensures.upgraded c.upgrade-raised.ensures.objects
    c.let_go.ensures.core c.let_go.ensures.objects c.let_go.ensures.client c.upgrade-raised.ensures.refused
    c.upgrade-raised.ensures.ended)

pub returns-clause-leaves : goal.returns-clause-leaves
returns-clause-leaves g c =
    handle_leaves c.args.sighted c.args.seat.now c.let_go.new.seat c.upgrade-raised.result
    (raised_same g.P.Kind.PayloadKind.fits c.args.domain.now
    (place_of g.P.Part.seen g.P.Part.with_seen g.P.Part.reads g.P.Part.puts_back
    g.P.Part.puts_over)
    (area_of (g.P.Part.part c.args.domain.now.protocol)) c.new-deed.result.deed.intern
    c.args.sighted c.args.seat.now c.requires.sighted c.let_go.new.seat c.upgrade-raised.new.seat
    c.upgrade-raised.result c.upgrade-raised.ensures.upgraded c.upgrade-raised.ensures.objects
    c.let_go.ensures.core c.let_go.ensures.objects c.let_go.ensures.client)
    (raised_core g.P.Kind.PayloadKind.fits c.args.domain.now
    (place_of g.P.Part.seen g.P.Part.with_seen g.P.Part.reads g.P.Part.puts_back
    g.P.Part.puts_over)
    (area_of (g.P.Part.part c.args.domain.now.protocol)) c.new-deed.result.deed.intern
    c.args.sighted c.args.seat.now c.requires.sighted c.let_go.new.seat c.upgrade-raised.new.seat
    c.upgrade-raised.result c.upgrade-raised.ensures.upgraded c.upgrade-raised.ensures.objects
    c.let_go.ensures.core c.let_go.ensures.objects c.let_go.ensures.client c.upgrade-raised.ensures.refused
    c.upgrade-raised.ensures.ended)
    (raised_objects g.P.Kind.PayloadKind.fits c.args.domain.now
    (place_of g.P.Part.seen g.P.Part.with_seen g.P.Part.reads g.P.Part.puts_back
    g.P.Part.puts_over)
    (area_of (g.P.Part.part c.args.domain.now.protocol)) c.new-deed.result.deed.intern
    c.args.sighted c.args.seat.now c.requires.sighted c.let_go.new.seat c.upgrade-raised.new.seat
    c.upgrade-raised.result c.upgrade-raised.ensures.upgraded c.upgrade-raised.ensures.objects
    c.let_go.ensures.core c.let_go.ensures.objects c.let_go.ensures.client c.upgrade-raised.ensures.refused
    c.upgrade-raised.ensures.ended)
