use Rattle.directory_calls.proofs.Parts.{place_of}
use Rattle.record_making.proofs.Linked.{link_leaves, link_makes, link_used, links}
use Rattle.record_making.proofs.making.link.Goals as goal

pub returns-clause-links : goal.returns-clause-links
returns-clause-links g c =
    links g.P.Kind.PayloadKind.fits c.args.domain.now
    (place_of g.P.Part.seen g.P.Part.with_seen g.P.Part.reads g.P.Part.puts_back
    g.P.Part.puts_over)
    c.args.front c.args.rest.slot c.args.seat.now c.store.new.seat
    c.store.ensures.stored c.store.ensures.objects c.requires.owned c.requires.left

pub returns-clause-leaves : goal.returns-clause-leaves
returns-clause-leaves g c =
    link_leaves g.P.Kind.PayloadKind.fits c.args.domain.now
    (place_of g.P.Part.seen g.P.Part.with_seen g.P.Part.reads g.P.Part.puts_back
    g.P.Part.puts_over)
    c.args.front c.args.rest.slot c.args.seat.now c.store.new.seat
    c.store.ensures.stored c.store.ensures.objects

pub returns-clause-makes : goal.returns-clause-makes
returns-clause-makes g c =
    link_makes g.P.Kind.PayloadKind.fits c.args.domain.now
    (place_of g.P.Part.seen g.P.Part.with_seen g.P.Part.reads g.P.Part.puts_back
    g.P.Part.puts_over)
    c.args.front c.args.rest.slot c.args.seat.now c.store.new.seat
    c.store.ensures.stored c.store.ensures.objects

pub returns-clause-used : goal.returns-clause-used
returns-clause-used g c =
    link_used g.P.Kind.PayloadKind.fits c.args.domain.now
    (place_of g.P.Part.seen g.P.Part.with_seen g.P.Part.reads g.P.Part.puts_back
    g.P.Part.puts_over)
    c.args.front c.args.rest.slot c.args.seat.now c.store.new.seat
    c.store.ensures.stored c.store.ensures.objects
