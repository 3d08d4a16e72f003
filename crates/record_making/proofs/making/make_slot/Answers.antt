use Rattle.directory_calls.specs.Directories.{area_of}
use Rattle.directory_calls.proofs.Parts.{place_of}
use Rattle.directory_calls.proofs.Below.directory_law_Bytes.{piece_own}
use Rattle.record_making.proofs.Made.{head_ready, made_all, made_leaves, made_makes, made_used}
use Rattle.record_making.proofs.Noted.{misses_here, none_if}
use Rattle.record_making.proofs.making.make_slot.Goals as goal

pub make-requires-clause-fits : goal.make-requires-clause-fits
make-requires-clause-fits g c =
    (g.met.P.Part.fits c.args.domain.now.protocol c.args.payload.now
    (piece_own c.args.payload.now c.requires.piece) c.requires.piece).0

pub make-requires-clause-deed : goal.make-requires-clause-deed
make-requires-clause-deed g c s mid begins w =
    head_ready g.P.Kind.PayloadKind.fits c.args.domain.now
    (place_of g.P.Part.seen g.P.Part.with_seen g.P.Part.reads g.P.Part.puts_back
    g.P.Part.puts_over)
    c.args.payload.now s c.args.seat.now mid begins _ _ _
    (g.met.P.Part.frees c.args.domain.now.protocol)
    (g.met.P.HasDirectory.minds_none c.args.domain.now.protocol) (λ words own. own)
    (piece_own c.args.payload.now c.requires.piece)

pub returns-clause-noted : goal.returns-clause-noted
returns-clause-noted g c =
    made_all g.P.Kind.PayloadKind.fits c.args.domain.now
    (place_of g.P.Part.seen g.P.Part.with_seen g.P.Part.reads g.P.Part.puts_back
    g.P.Part.puts_over)
    (area_of (g.P.Part.part c.args.domain.now.protocol)) c.args.payload.now
    c.args.seat.now c.make.new.seat c.make.result c.make.ensures.made c.make.ensures.owned

pub returns-clause-leaves : goal.returns-clause-leaves
returns-clause-leaves g c =
    made_leaves g.P.Kind.PayloadKind.fits c.args.domain.now
    (place_of g.P.Part.seen g.P.Part.with_seen g.P.Part.reads g.P.Part.puts_back
    g.P.Part.puts_over)
    (area_of (g.P.Part.part c.args.domain.now.protocol)) c.args.payload.now
    c.args.seat.now c.make.new.seat c.make.result c.make.ensures.no_make c.make.ensures.no_add
    c.make.ensures.full c.make.ensures.made c.make.ensures.objects

pub returns-clause-full : goal.returns-clause-full
returns-clause-full g c = λ is.
    misses_here g.P.Kind.PayloadKind.fits c.args.domain.now c.args.seat.now c.make.new.seat
    (c.make.ensures.full is)

pub returns-clause-client : goal.returns-clause-client
returns-clause-client g c =
    none_if (place_of g.P.Part.seen g.P.Part.with_seen g.P.Part.reads g.P.Part.puts_back
    g.P.Part.puts_over)
    c.make.result c.args.seat.now.view.client c.make.new.seat.view.client c.make.ensures.client

pub returns-clause-makes : goal.returns-clause-makes
returns-clause-makes g c =
    made_makes g.P.Kind.PayloadKind.fits c.args.domain.now
    (place_of g.P.Part.seen g.P.Part.with_seen g.P.Part.reads g.P.Part.puts_back
    g.P.Part.puts_over)
    (area_of (g.P.Part.part c.args.domain.now.protocol)) c.args.payload.now
    c.args.seat.now c.make.new.seat c.make.result c.make.ensures.no_make c.make.ensures.no_add
    c.make.ensures.full c.make.ensures.made

pub returns-clause-used : goal.returns-clause-used
returns-clause-used g c =
    made_used g.P.Kind.PayloadKind.fits c.args.domain.now
    (place_of g.P.Part.seen g.P.Part.with_seen g.P.Part.reads g.P.Part.puts_back
    g.P.Part.puts_over)
    (area_of (g.P.Part.part c.args.domain.now.protocol)) c.args.payload.now
    c.args.seat.now c.make.new.seat c.make.result c.make.ensures.no_make c.make.ensures.no_add
    c.make.ensures.full c.make.ensures.made
