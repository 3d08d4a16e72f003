use Rattle.std.proofs.Common.{◌≡◌, ℕ, ap, sym, subst}
use Rattle.slot_store.specs.protocol_pairs.Parts.{Accepts}
use Rattle.slot_store.specs.protocol_pairs.Shares.{owned_of}
use Rattle.part_calls.specs.Parts.{as_part, seen_by}
use Rattle.part_calls.proofs.Seen.{lifted_allows, lifted_next, part_seen}
use Rattle.control_word.specs.core_events.declared.act.Act.TheVariants as act
use Rattle.control_word.specs.acquire_retire.Calls.{IsReady, Steps}
use Rattle.part_calls.proofs.Beside.{step_beside}
use Rattle.part_calls.proofs.Readiness.{look_ready}
use Rattle.part_calls.proofs.Seen.{steps_seen}
use Rattle.part_calls.proofs.loading.look.Goals as goal

pub look-requires-clause-deed : goal.look-requires-clause-deed
look-requires-clause-deed g c =
    subst (λ e. IsReady (λ own v step. (g.D.Deed.ready e (g.P.Part.part c.args.domain.now.protocol))
    own (g.P.Part.seen v) step × g.P.Part.free c.args.domain.now.protocol own step
    × Accepts (g.P.Part.suits c.args.domain.now.protocol)
    (g.D.Deed.next e (g.P.Part.part c.args.domain.now.protocol)) g.P.Part.seen own v step)
    c.args.domain.now.shape (act.Look c.args.place) c.args.seat.now.view) (sym c.new.ensures)
    (look_ready g.P.Kind.PayloadKind.fits g.P.Part.part g.P.Part.seen c.args.domain.now
    (owned_of (g.Q.Protocol.owns_cell (g.P.Part.part c.args.domain.now.protocol))
    (g.Q.Protocol.owns_weak_cell (g.P.Part.part c.args.domain.now.protocol))
    (g.Q.Protocol.owns_payload (g.P.Part.part c.args.domain.now.protocol))
    (g.Q.Protocol.owns_tickets (g.P.Part.part c.args.domain.now.protocol)))
    (g.P.Part.free c.args.domain.now.protocol) (g.met.P.Part.frees c.args.domain.now.protocol)
    (g.P.Part.suits c.args.domain.now.protocol)
    (g.D.Deed.ready c.args.deed (g.P.Part.part c.args.domain.now.protocol))
    (g.D.Deed.next c.args.deed (g.P.Part.part c.args.domain.now.protocol)) c.args.place
    c.args.seat.now
    c.requires.accepted c.requires.deed)

pub returns-clause-steps : goal.returns-clause-steps
returns-clause-steps g c =
    subst (λ e. Steps g.P.Kind.PayloadKind.fits (as_part g.P.Part.part c.args.domain.now)
    (g.D.Deed.next e (g.P.Part.part c.args.domain.now.protocol))
    (g.D.Deed.allows e (g.P.Part.part c.args.domain.now.protocol))
    (act.Look c.args.place) (seen_by g.P.Part.seen c.args.seat.now)
    (seen_by g.P.Part.seen c.look.new.seat) c.look.result) c.new.ensures
    (steps_seen g.P.Kind.PayloadKind.fits g.P.Part.part g.P.Part.seen c.args.domain.now
    (part_seen g.P.Part.seen g.P.Part.with_seen g.P.Part.reads
    (g.D.Deed.next c.new.result.deed (g.P.Part.part c.args.domain.now.protocol))
    (g.D.Deed.allows c.new.result.deed (g.P.Part.part c.args.domain.now.protocol)))
    (act.Look c.args.place) c.args.seat.now c.look.new.seat c.look.result
    c.look.ensures)

pub returns-clause-beside : goal.returns-clause-beside
returns-clause-beside g c =
    step_beside g.P.Part.seen g.P.Part.with_seen g.Q.Protocol.gone g.P.Part.puts_over
    g.P.Kind.PayloadKind.fits c.args.domain.now
    (g.D.Deed.next c.new.result.deed (g.P.Part.part c.args.domain.now.protocol))
    (lifted_allows g.P.Part.seen
    (g.D.Deed.allows c.new.result.deed (g.P.Part.part c.args.domain.now.protocol)))
    c.args.seat.now c.look.new.seat (act.Look c.args.place) c.look.result c.look.ensures
