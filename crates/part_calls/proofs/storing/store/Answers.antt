use Rattle.std.proofs.Common.{◌≡◌, ℕ, ap, sym, subst}
use Rattle.slot_store.specs.protocol_pairs.Parts.{Accepts}
use Rattle.slot_store.specs.protocol_pairs.Shares.{owned_of}
use Rattle.part_calls.specs.Parts.{as_part, seen_by}
use Rattle.part_calls.proofs.Seen.{lifted_allows, lifted_next, part_seen}
use Rattle.control_word.specs.core_events.declared.act.Act.TheVariants as act
use Rattle.control_word.specs.acquire_retire.Calls.{IsReady}
use Rattle.atomic_shared.specs.Places.{named, strong_place}
use Rattle.atomic_shared.specs.retiring_stores.Exchanging.{Stores}
use Rattle.part_calls.proofs.Beside.{exchanges_beside}
use Rattle.part_calls.proofs.Readiness.{swap_ready}
use Rattle.part_calls.proofs.SeenCalls.{stores_seen}
use Rattle.part_calls.proofs.storing.store.Goals as goal

pub store-requires-clause-deed : goal.store-requires-clause-deed
store-requires-clause-deed g c =
    subst (λ e. IsReady (λ own v step. (g.D.Deed.ready e (g.P.Part.part c.args.domain.now.protocol))
    own (g.P.Part.seen v) step × g.P.Part.free c.args.domain.now.protocol own step
    × Accepts (g.P.Part.suits c.args.domain.now.protocol)
    (g.D.Deed.next e (g.P.Part.part c.args.domain.now.protocol)) g.P.Part.seen own v step)
    c.args.domain.now.shape
    (act.Swap (strong_place c.args.place) (named c.args.new)) c.args.seat.now.view)
    (sym c.new.ensures)
    (swap_ready g.P.Kind.PayloadKind.fits g.P.Part.part g.P.Part.seen c.args.domain.now
    (owned_of (g.Q.Protocol.owns_cell (g.P.Part.part c.args.domain.now.protocol))
    (g.Q.Protocol.owns_weak_cell (g.P.Part.part c.args.domain.now.protocol))
    (g.Q.Protocol.owns_payload (g.P.Part.part c.args.domain.now.protocol))
    (g.Q.Protocol.owns_tickets (g.P.Part.part c.args.domain.now.protocol)))
    (g.P.Part.free c.args.domain.now.protocol) (g.met.P.Part.frees c.args.domain.now.protocol)
    (g.P.Part.suits c.args.domain.now.protocol)
    (g.D.Deed.ready c.args.deed (g.P.Part.part c.args.domain.now.protocol))
    (g.D.Deed.next c.args.deed (g.P.Part.part c.args.domain.now.protocol))
    (strong_place c.args.place) (named c.args.new) c.args.seat.now
    c.requires.accepted c.requires.within c.requires.deed)

pub returns-clause-stored : goal.returns-clause-stored
returns-clause-stored g c =
    subst (λ e. Stores g.P.Kind.PayloadKind.fits (as_part g.P.Part.part c.args.domain.now)
    (g.D.Deed.next e (g.P.Part.part c.args.domain.now.protocol))
    (g.D.Deed.allows e (g.P.Part.part c.args.domain.now.protocol))
    (strong_place c.args.place) (named c.args.new) (seen_by g.P.Part.seen c.args.seat.now)
    (seen_by g.P.Part.seen c.store.new.seat)) c.new.ensures
    (stores_seen g.P.Kind.PayloadKind.fits g.P.Part.part g.P.Part.seen c.args.domain.now
    (part_seen g.P.Part.seen g.P.Part.with_seen g.P.Part.reads
    (g.D.Deed.next c.new.result.deed (g.P.Part.part c.args.domain.now.protocol))
    (g.D.Deed.allows c.new.result.deed (g.P.Part.part c.args.domain.now.protocol)))
    (strong_place c.args.place) (named c.args.new) c.args.seat.now c.store.new.seat
    c.store.ensures.stored)

pub returns-clause-beside : goal.returns-clause-beside
returns-clause-beside g c =
    exchanges_beside g.P.Part.seen g.P.Part.with_seen g.Q.Protocol.gone g.P.Part.puts_over
    g.P.Kind.PayloadKind.fits c.args.domain.now
    (g.D.Deed.next c.new.result.deed (g.P.Part.part c.args.domain.now.protocol))
    (lifted_allows g.P.Part.seen
    (g.D.Deed.allows c.new.result.deed (g.P.Part.part c.args.domain.now.protocol)))
    c.args.seat.now c.store.new.seat (strong_place c.args.place) _ (named c.args.new)
    c.store.ensures.stored.held c.store.ensures.stored.swaps
