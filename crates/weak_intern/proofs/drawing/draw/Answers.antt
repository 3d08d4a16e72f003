use Rattle.record_making.specs.directory_calls.Directories.{area_of}
use Rattle.record_making.proofs.Below.directory_calls_Parts.{place_of}
use Rattle.weak_intern.proofs.Drawn.{draw_draws, draw_ready, draw_rest}
use Rattle.weak_intern.proofs.drawing.draw.Goals as goal

pub ticket-requires-clause-deed : goal.ticket-requires-clause-deed
ticket-requires-clause-deed g c =
    draw_ready g.P.Kind.PayloadKind.fits c.args.domain.now
    (place_of g.P.Part.seen g.P.Part.with_seen g.P.Part.reads g.P.Part.puts_back
    g.P.Part.puts_over)
    (area_of (g.P.Part.part c.args.domain.now.protocol)) c.args.seat.now
    (g.P.Part.free c.args.domain.now.protocol) (g.P.Part.suits c.args.domain.now.protocol)
    c.requires.free
    (g.met.P.HasDirectory.minds_none c.args.domain.now.protocol)

pub returns-clause-draws : goal.returns-clause-draws
returns-clause-draws g c =
    draw_draws g.P.Kind.PayloadKind.fits c.args.domain.now
    (place_of g.P.Part.seen g.P.Part.with_seen g.P.Part.reads g.P.Part.puts_back
    g.P.Part.puts_over)
    (area_of (g.P.Part.part c.args.domain.now.protocol)) c.args.seat.now c.ticket.new.seat
    c.ticket.result c.ticket.ensures c.number_of.result c.number_of.ensures

pub returns-clause-rest : goal.returns-clause-rest
returns-clause-rest g c =
    draw_rest g.P.Kind.PayloadKind.fits c.args.domain.now
    (place_of g.P.Part.seen g.P.Part.with_seen g.P.Part.reads g.P.Part.puts_back
    g.P.Part.puts_over)
    (area_of (g.P.Part.part c.args.domain.now.protocol)) c.args.seat.now c.ticket.new.seat
    c.ticket.result c.ticket.ensures c.requires.rest
