use Rattle.record_making.specs.directory_calls.Directories.{area_of}
use Rattle.weak_intern.proofs.Found.{around_adds, around_client, around_ends, around_leaves, around_makes, around_rest, around_room}
use Rattle.record_making.proofs.Below.directory_calls_Parts.{place_of}
use Rattle.weak_intern.proofs.walking.come_around.Goals as goal

pub returns-clause-ends : goal.returns-clause-ends
returns-clause-ends g c =
    around_ends g.P.Kind.PayloadKind.fits c.args.domain.now
    (place_of g.P.Part.seen g.P.Part.with_seen g.P.Part.reads g.P.Part.puts_back
    g.P.Part.puts_over)
    (area_of (g.P.Part.part c.args.domain.now.protocol)) c.number-at.result c.args.seat.now
    c.look.new.seat c.look.result c.look.ensures

pub returns-clause-leaves : goal.returns-clause-leaves
returns-clause-leaves g c =
    around_leaves g.P.Kind.PayloadKind.fits c.args.domain.now
    (place_of g.P.Part.seen g.P.Part.with_seen g.P.Part.reads g.P.Part.puts_back
    g.P.Part.puts_over)
    (area_of (g.P.Part.part c.args.domain.now.protocol)) c.number-at.result c.args.seat.now
    c.look.new.seat c.look.result c.look.ensures

pub returns-clause-client : goal.returns-clause-client
returns-clause-client g c =
    around_client g.P.Kind.PayloadKind.fits c.args.domain.now
    (place_of g.P.Part.seen g.P.Part.with_seen g.P.Part.reads g.P.Part.puts_back
    g.P.Part.puts_over)
    (area_of (g.P.Part.part c.args.domain.now.protocol)) c.number-at.result c.args.seat.now
    c.look.new.seat c.look.result c.look.ensures

pub returns-clause-makes : goal.returns-clause-makes
returns-clause-makes g c =
    around_makes g.P.Kind.PayloadKind.fits c.args.domain.now
    (place_of g.P.Part.seen g.P.Part.with_seen g.P.Part.reads g.P.Part.puts_back
    g.P.Part.puts_over)
    (area_of (g.P.Part.part c.args.domain.now.protocol)) c.number-at.result c.args.seat.now
    c.look.new.seat c.look.result c.look.ensures

pub returns-clause-rest : goal.returns-clause-rest
returns-clause-rest g c =
    around_rest g.P.Kind.PayloadKind.fits c.args.domain.now
    (place_of g.P.Part.seen g.P.Part.with_seen g.P.Part.reads g.P.Part.puts_back
    g.P.Part.puts_over)
    (area_of (g.P.Part.part c.args.domain.now.protocol)) c.number-at.result c.args.seat.now
    c.look.new.seat c.look.result c.look.ensures c.requires.rest

pub returns-clause-adds : goal.returns-clause-adds
returns-clause-adds g c =
    around_adds g.P.Kind.PayloadKind.fits c.args.domain.now
    (place_of g.P.Part.seen g.P.Part.with_seen g.P.Part.reads g.P.Part.puts_back
    g.P.Part.puts_over)
    (area_of (g.P.Part.part c.args.domain.now.protocol)) c.number-at.result c.args.seat.now
    c.look.new.seat c.look.result c.look.ensures

pub returns-clause-finds_room : goal.returns-clause-finds_room
returns-clause-finds_room g c =
    around_room g.P.Kind.PayloadKind.fits c.args.domain.now
    (place_of g.P.Part.seen g.P.Part.with_seen g.P.Part.reads g.P.Part.puts_back
    g.P.Part.puts_over)
    (area_of (g.P.Part.part c.args.domain.now.protocol)) c.number-at.result c.args.seat.now
    c.look.new.seat c.look.result c.look.ensures
