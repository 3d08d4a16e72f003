use Rattle.std.proofs.Common.{◌≡◌, ℕ, ap, sym, subst}
use Rattle.slot_store.specs.protocol_pairs.Parts.{Accepts}
use Rattle.slot_store.specs.protocol_pairs.Shares.{owned_of}
use Rattle.part_calls.specs.Parts.{as_part, seen_by}
use Rattle.part_calls.proofs.Seen.{lifted_allows, lifted_next, part_seen}
use Rattle.std.specs.Prelude.{IfOk}
use Rattle.control_word.proofs.Below.acquire_retire_Wholes.{then_ok}
use Rattle.slot_store.specs.Calls.{IsReadyToMake, Makes}
use Rattle.part_calls.proofs.Beside.{make_beside}
use Rattle.part_calls.proofs.Readiness.{make_ready}
use Rattle.part_calls.proofs.SeenCalls.{makes_seen, misses_all_seen}
use Rattle.part_calls.proofs.making.make.Goals as goal

pub make-requires-clause-fits : goal.make-requires-clause-fits
make-requires-clause-fits g c =
    (g.met.P.Part.fits c.args.domain.now.protocol c.args.payload.now c.requires.owned
    c.requires.fits).0

pub make-requires-clause-deed : goal.make-requires-clause-deed
make-requires-clause-deed g c =
    subst (λ e. IsReadyToMake g.P.Kind.PayloadKind.fits c.args.domain.now
    (λ own v step. (g.D.Deed.ready e (g.P.Part.part c.args.domain.now.protocol)) own
    (g.P.Part.seen v) step × g.P.Part.free c.args.domain.now.protocol own step
    × Accepts (g.P.Part.suits c.args.domain.now.protocol)
    (g.D.Deed.next e (g.P.Part.part c.args.domain.now.protocol)) g.P.Part.seen own v step)
    c.args.payload.now c.args.seat.now) (sym c.new.ensures)
    (make_ready g.P.Kind.PayloadKind.fits g.P.Part.part g.P.Part.seen c.args.domain.now
    (owned_of (g.Q.Protocol.owns_cell (g.P.Part.part c.args.domain.now.protocol))
    (g.Q.Protocol.owns_weak_cell (g.P.Part.part c.args.domain.now.protocol))
    (g.Q.Protocol.owns_payload (g.P.Part.part c.args.domain.now.protocol))
    (g.Q.Protocol.owns_tickets (g.P.Part.part c.args.domain.now.protocol)))
    (g.P.Part.free c.args.domain.now.protocol) (g.met.P.Part.frees c.args.domain.now.protocol)
    (g.P.Part.suits c.args.domain.now.protocol)
    (g.D.Deed.ready c.args.deed (g.P.Part.part c.args.domain.now.protocol))
    (g.D.Deed.next c.args.deed (g.P.Part.part c.args.domain.now.protocol)) c.args.payload.now
    c.args.seat.now
    c.requires.accepted c.requires.owned c.requires.deed)

pub returns-clause-made : goal.returns-clause-made
returns-clause-made g c =
    subst (λ e. IfOk c.make.result
    (λ strong. Makes g.P.Kind.PayloadKind.fits (as_part g.P.Part.part c.args.domain.now)
    (g.D.Deed.next e (g.P.Part.part c.args.domain.now.protocol))
    (g.D.Deed.allows e (g.P.Part.part c.args.domain.now.protocol))
    c.args.payload.now strong.slot (seen_by g.P.Part.seen c.args.seat.now)
    (seen_by g.P.Part.seen c.make.new.seat))) c.new.ensures
    (then_ok _ _ c.make.result
    (λ strong is. makes_seen g.P.Kind.PayloadKind.fits g.P.Part.part g.P.Part.seen c.args.domain.now
    (part_seen g.P.Part.seen g.P.Part.with_seen g.P.Part.reads
    (g.D.Deed.next c.new.result.deed (g.P.Part.part c.args.domain.now.protocol))
    (g.D.Deed.allows c.new.result.deed (g.P.Part.part c.args.domain.now.protocol)))
    c.args.payload.now strong.slot c.args.seat.now c.make.new.seat is)
    c.make.ensures.made)

pub returns-clause-full : goal.returns-clause-full
returns-clause-full g c is =
    misses_all_seen g.P.Kind.PayloadKind.fits g.P.Part.part g.P.Part.seen c.args.domain.now
    c.args.seat.now
    c.make.new.seat (c.make.ensures.full is)

pub returns-clause-beside : goal.returns-clause-beside
returns-clause-beside g c =
    make_beside g.P.Part.seen g.P.Part.with_seen g.Q.Protocol.gone g.P.Part.puts_over
    g.P.Kind.PayloadKind.fits c.args.domain.now
    (g.D.Deed.next c.new.result.deed (g.P.Part.part c.args.domain.now.protocol))
    (lifted_allows g.P.Part.seen
    (g.D.Deed.allows c.new.result.deed (g.P.Part.part c.args.domain.now.protocol)))
    c.args.seat.now c.make.new.seat c.args.payload.now c.make.result c.make.ensures.made
    c.make.ensures.client
