use Rattle.std.proofs.Common.{ap, subst, sym}
use Rattle.record_making.specs.directory_law.Lessons.{spent}
use Rattle.record_making.specs.directory_calls.Directories.{CanCount, area_of}
use Rattle.record_making.proofs.Below.directory_calls_Parts.{part_as, place_of}
use Rattle.atomic_weak.specs.plain_state.declared.act.EventPlace.TheVariants.{Field}
use Rattle.weak_intern.proofs.Confirmed.{answer_learns, answer_live, answer_ready, look_adds, look_leaves, look_makes, look_rest}
use Rattle.weak_intern.proofs.confirming.answer.Goals as goal

pub look-requires-clause-deed : goal.look-requires-clause-deed
look-requires-clause-deed g c =
    answer_ready g.P.Kind.PayloadKind.fits c.args.domain.now
    (place_of g.P.Part.seen g.P.Part.with_seen g.P.Part.reads g.P.Part.puts_back
    g.P.Part.puts_over)
    (area_of (g.P.Part.part c.args.domain.now.protocol)) (Field c.args.slot 1)
    c.new-deed.result.deed.intern c.args.slot c.args.seat.now c.requires.owned _ _ _
    (g.met.P.Part.frees c.args.domain.now.protocol)
    (g.met.P.HasDirectory.minds_none c.args.domain.now.protocol)
    c.requires.saw
    (subst (λ b. CanCount b (g.P.Part.seen c.args.seat.now.view.client))
    (sym (ap (λ x. x.intern) c.new-deed.ensures)) c.requires.quota)
    c.requires.read

pub returns-clause-live : goal.returns-clause-live
returns-clause-live g c =
    answer_live g.P.Kind.PayloadKind.fits c.args.domain.now
    (place_of g.P.Part.seen g.P.Part.with_seen g.P.Part.reads g.P.Part.puts_back
    g.P.Part.puts_over)
    (area_of (g.P.Part.part c.args.domain.now.protocol)) (Field c.args.slot 1)
    c.new-deed.result.deed.intern c.args.slot c.args.seat.now c.requires.owned
    c.look.new.seat c.look.result c.look.ensures

pub returns-clause-leaves : goal.returns-clause-leaves
returns-clause-leaves g c =
    look_leaves g.P.Kind.PayloadKind.fits c.args.domain.now (Field c.args.slot 1) _ _
    c.args.seat.now c.look.new.seat c.look.result c.look.ensures

pub returns-clause-learns : goal.returns-clause-learns
returns-clause-learns g c =
    part_as
    (place_of g.P.Part.seen g.P.Part.with_seen g.P.Part.reads g.P.Part.puts_back
    g.P.Part.puts_over)
    (spent c.new-deed.result.deed.intern) (spent c.args.intern) c.args.seat.now.view.client
    c.look.new.seat.view.client
    (ap (λ x. spent x.intern) c.new-deed.ensures)
    (answer_learns g.P.Kind.PayloadKind.fits c.args.domain.now
    (place_of g.P.Part.seen g.P.Part.with_seen g.P.Part.reads g.P.Part.puts_back
    g.P.Part.puts_over)
    (area_of (g.P.Part.part c.args.domain.now.protocol)) (Field c.args.slot 1)
    c.new-deed.result.deed.intern c.args.slot c.args.seat.now c.requires.owned
    c.look.new.seat c.look.result c.look.ensures)

pub returns-clause-makes : goal.returns-clause-makes
returns-clause-makes g c =
    look_makes g.P.Kind.PayloadKind.fits c.args.domain.now (Field c.args.slot 1) _ _
    c.args.seat.now c.look.new.seat c.look.result c.look.ensures

pub returns-clause-rest : goal.returns-clause-rest
returns-clause-rest g c =
    look_rest g.P.Kind.PayloadKind.fits c.args.domain.now (Field c.args.slot 1) _ _
    c.args.seat.now c.look.new.seat c.look.result c.look.ensures c.requires.rest

pub returns-clause-adds : goal.returns-clause-adds
returns-clause-adds g c =
    look_adds g.P.Kind.PayloadKind.fits c.args.domain.now (Field c.args.slot 1) _ _
    c.args.seat.now c.look.new.seat c.look.result c.look.ensures
