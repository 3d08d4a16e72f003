use Rattle.std.proofs.Common.{ap, ◌∙◌}
use Rattle.slot_store.specs.core_events.declared.outcome.Outcome.TheVariants as outcome
use Rattle.directory_calls.proofs.Parts.{place_of}
use Rattle.text_reading.proofs.Protected.{four, goes, knows, learns, may_look_again, may_tell, not_null, reads, ready_check, ready_look, rests}
use Rattle.text_reading.proofs.going_on.protect_part.Goals as goal

pub look-requires-clause-deed : goal.look-requires-clause-deed
look-requires-clause-deed g c =
    ready_look g.P.Kind.PayloadKind.fits c.args.domain.now
    (place_of g.P.Part.seen g.P.Part.with_seen g.P.Part.reads g.P.Part.puts_back
    g.P.Part.puts_over)
    c.args.slot c.args.seat.now c.requires.held c.requires.reading
    _ _ _ (g.met.P.Part.frees c.args.domain.now.protocol)
    (g.met.P.HasDirectory.minds_none c.args.domain.now.protocol)

pub unreachable-requires-in_default-found : goal.unreachable-requires-in_default-found
unreachable-requires-in_default-found g c =
    not_null g.P.Kind.PayloadKind.fits c.args.domain.now
    (place_of g.P.Part.seen g.P.Part.with_seen g.P.Part.reads g.P.Part.puts_back
    g.P.Part.puts_over)
    c.args.slot c.args.seat.now c.requires.held c.requires.reading
    c.look.new.seat c.look.result c.look.ensures
    c.requires.more (c.in-Found.is ∙ ap outcome.Found c.in_default-found.is)

pub announce-requires-clause-may : goal.announce-requires-clause-may
announce-requires-clause-may g c =
    may_tell g.P.Kind.PayloadKind.fits c.args.domain.now
    (place_of g.P.Part.seen g.P.Part.with_seen g.P.Part.reads g.P.Part.puts_back
    g.P.Part.puts_over)
    c.args.slot c.args.seat.now c.requires.held c.requires.reading
    c.look.new.seat c.look.result c.look.ensures
    c.requires.rest c.args.word c.requires.word.0 c.requires.word.1 c.requires.free
    c.in-Some.part (c.in-Found.is ∙ ap outcome.Found c.in-Some.is)

pub check-requires-clause-may : goal.check-requires-clause-may
check-requires-clause-may g c =
    may_look_again g.P.Kind.PayloadKind.fits c.args.domain.now
    (place_of g.P.Part.seen g.P.Part.with_seen g.P.Part.reads g.P.Part.puts_back
    g.P.Part.puts_over)
    c.args.slot c.args.seat.now c.requires.held c.requires.reading
    c.look.new.seat c.look.result c.look.ensures
    c.requires.rest c.args.word c.requires.word.0 c.requires.word.1 c.requires.free
    c.in-Some.part (c.in-Found.is ∙ ap outcome.Found c.in-Some.is)
    c.announce.new.seat c.announce.result c.announce.ensures

pub check-requires-clause-deed : goal.check-requires-clause-deed
check-requires-clause-deed g c =
    ready_check g.P.Kind.PayloadKind.fits c.args.domain.now
    (place_of g.P.Part.seen g.P.Part.with_seen g.P.Part.reads g.P.Part.puts_back
    g.P.Part.puts_over)
    c.args.slot c.args.seat.now c.requires.held c.requires.reading
    c.look.new.seat c.look.result c.look.ensures
    c.requires.rest c.args.word c.requires.word.0 c.requires.word.1 c.requires.free
    c.in-Some.part (c.in-Found.is ∙ ap outcome.Found c.in-Some.is)
    c.announce.new.seat c.announce.result c.announce.ensures
    _ _ _ (g.met.P.Part.frees c.args.domain.now.protocol)
    (g.met.P.HasDirectory.minds_none c.args.domain.now.protocol)

pub returns-clause-reads : goal.returns-clause-reads
returns-clause-reads g c =
    reads g.P.Kind.PayloadKind.fits c.args.domain.now
    (place_of g.P.Part.seen g.P.Part.with_seen g.P.Part.reads g.P.Part.puts_back
    g.P.Part.puts_over)
    c.args.slot c.args.seat.now c.requires.held c.requires.reading
    c.look.new.seat c.look.result c.look.ensures
    c.requires.rest c.args.word c.requires.word.0 c.requires.word.1 c.requires.free
    c.in-Some.part (c.in-Found.is ∙ ap outcome.Found c.in-Some.is)
    c.announce.new.seat c.announce.result c.announce.ensures
    c.check.new.seat c.check.result c.check.ensures

pub returns-clause-core : goal.returns-clause-core
returns-clause-core g c =
    goes g.P.Kind.PayloadKind.fits c.args.domain.now
    (place_of g.P.Part.seen g.P.Part.with_seen g.P.Part.reads g.P.Part.puts_back
    g.P.Part.puts_over)
    c.args.slot c.args.seat.now c.requires.held c.requires.reading
    c.look.new.seat c.look.result c.look.ensures
    c.requires.rest c.args.word c.requires.word.0 c.requires.word.1 c.requires.free
    c.in-Some.part (c.in-Found.is ∙ ap outcome.Found c.in-Some.is)
    c.announce.new.seat c.announce.result c.announce.ensures
    c.check.new.seat c.check.result c.check.ensures

pub returns-clause-learns : goal.returns-clause-learns
returns-clause-learns g c =
    learns g.P.Kind.PayloadKind.fits c.args.domain.now
    (place_of g.P.Part.seen g.P.Part.with_seen g.P.Part.reads g.P.Part.puts_back
    g.P.Part.puts_over)
    c.args.slot c.args.seat.now c.requires.held c.requires.reading
    c.look.new.seat c.look.result c.look.ensures
    c.requires.rest c.args.word c.requires.word.0 c.requires.word.1 c.requires.free
    c.in-Some.part (c.in-Found.is ∙ ap outcome.Found c.in-Some.is)
    c.announce.new.seat c.announce.result c.announce.ensures
    c.check.new.seat c.check.result c.check.ensures

pub returns-clause-objects : goal.returns-clause-objects
returns-clause-objects g c =
    knows g.P.Kind.PayloadKind.fits c.args.domain.now
    (place_of g.P.Part.seen g.P.Part.with_seen g.P.Part.reads g.P.Part.puts_back
    g.P.Part.puts_over)
    c.args.slot c.args.seat.now c.requires.held c.requires.reading
    c.look.new.seat c.look.result c.look.ensures
    c.requires.rest c.args.word c.requires.word.0 c.requires.word.1 c.requires.free
    c.in-Some.part (c.in-Found.is ∙ ap outcome.Found c.in-Some.is)
    c.announce.new.seat c.announce.result c.announce.ensures
    c.check.new.seat c.check.result c.check.ensures

pub returns-clause-rest : goal.returns-clause-rest
returns-clause-rest g c =
    rests g.P.Kind.PayloadKind.fits c.args.domain.now
    (place_of g.P.Part.seen g.P.Part.with_seen g.P.Part.reads g.P.Part.puts_back
    g.P.Part.puts_over)
    c.args.slot c.args.seat.now c.requires.held c.requires.reading
    c.look.new.seat c.look.result c.look.ensures
    c.requires.rest c.args.word c.requires.word.0 c.requires.word.1 c.requires.free
    c.in-Some.part (c.in-Found.is ∙ ap outcome.Found c.in-Some.is)
    c.announce.new.seat c.announce.result c.announce.ensures
    c.check.new.seat c.check.result c.check.ensures

pub returns-clause-four : goal.returns-clause-four
returns-clause-four g c =
    four g.P.Kind.PayloadKind.fits c.args.domain.now
    (place_of g.P.Part.seen g.P.Part.with_seen g.P.Part.reads g.P.Part.puts_back
    g.P.Part.puts_over)
    c.args.slot c.args.seat.now c.requires.held c.requires.reading
    c.look.new.seat c.look.result c.look.ensures
    c.requires.rest c.args.word c.requires.word.0 c.requires.word.1 c.requires.free
    c.in-Some.part (c.in-Found.is ∙ ap outcome.Found c.in-Some.is)
    c.announce.new.seat c.announce.result c.announce.ensures
