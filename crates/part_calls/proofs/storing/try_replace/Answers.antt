use Rattle.std.proofs.Common.{◌≡◌, ℕ, ap, sym, subst}
use Rattle.slot_store.specs.protocol_pairs.Parts.{Accepts}
use Rattle.slot_store.specs.protocol_pairs.Shares.{owned_of}
use Rattle.part_calls.specs.Parts.{as_part, seen_by}
use Rattle.part_calls.proofs.Seen.{lifted_allows, lifted_next, part_seen}
use Rattle.std.specs.Prelude.{Err, IfErr, IfOk, Ok}
use Rattle.control_word.specs.core_events.declared.act.Act.TheVariants as act
use Rattle.control_word.specs.acquire_retire.Calls.{IsReady}
use Rattle.control_word.proofs.Below.acquire_retire_Wholes.{then_ok}
use Rattle.atomic_shared.specs.Places.{named, strong_place}
use Rattle.atomic_shared.specs.retiring_stores.Exchanging.{LosesTo, Replaces}
use Rattle.atomic_shared.specs.retiring_stores.Scanning.{IsBelow}
use Rattle.part_calls.proofs.Beside.{replace_beside}
use Rattle.part_calls.proofs.Readiness.{replace_ready}
use Rattle.part_calls.proofs.SeenCalls.{loses_seen, replaces_seen, then_err}
use Rattle.part_calls.proofs.storing.try_replace.Goals as goal

pub try_replace-requires-clause-deed : goal.try_replace-requires-clause-deed
try_replace-requires-clause-deed g c =
    subst (λ e. IsReady (λ own v step. (g.D.Deed.ready e (g.P.Part.part c.args.domain.now.protocol))
    own (g.P.Part.seen v) step × g.P.Part.free c.args.domain.now.protocol own step
    × Accepts (g.P.Part.suits c.args.domain.now.protocol)
    (g.D.Deed.next e (g.P.Part.part c.args.domain.now.protocol)) g.P.Part.seen own v step)
    c.args.domain.now.shape
    (act.Cas (strong_place c.args.place) c.args.expected (named c.args.new)) c.args.seat.now.view)
    (sym c.new.ensures)
    (replace_ready g.P.Kind.PayloadKind.fits g.P.Part.part g.P.Part.seen c.args.domain.now
    (owned_of (g.Q.Protocol.owns_cell (g.P.Part.part c.args.domain.now.protocol))
    (g.Q.Protocol.owns_weak_cell (g.P.Part.part c.args.domain.now.protocol))
    (g.Q.Protocol.owns_payload (g.P.Part.part c.args.domain.now.protocol))
    (g.Q.Protocol.owns_tickets (g.P.Part.part c.args.domain.now.protocol)))
    (g.P.Part.free c.args.domain.now.protocol) (g.met.P.Part.frees c.args.domain.now.protocol)
    (g.P.Part.suits c.args.domain.now.protocol)
    (g.D.Deed.ready c.args.deed (g.P.Part.part c.args.domain.now.protocol))
    (g.D.Deed.next c.args.deed (g.P.Part.part c.args.domain.now.protocol))
    (strong_place c.args.place) c.args.expected (named c.args.new)
    c.args.seat.now c.requires.accepted c.requires.within c.requires.deed)

pub returns-clause-replaced : goal.returns-clause-replaced
returns-clause-replaced g c =
    subst (λ e. IfOk c.try_replace.result
    (λ done. Replaces g.P.Kind.PayloadKind.fits (as_part g.P.Part.part c.args.domain.now)
    (g.D.Deed.next e (g.P.Part.part c.args.domain.now.protocol))
    (g.D.Deed.allows e (g.P.Part.part c.args.domain.now.protocol))
    (strong_place c.args.place) (named c.args.new) c.args.expected
    (seen_by g.P.Part.seen c.args.seat.now)
    (seen_by g.P.Part.seen c.try_replace.new.seat) × IsBelow c.args.domain.now
    c.try_replace.new.seat)) c.new.ensures
    (then_ok _ _ c.try_replace.result
    (λ done is. (
      replaces_seen g.P.Kind.PayloadKind.fits g.P.Part.part g.P.Part.seen
          c.args.domain.now
          (part_seen g.P.Part.seen g.P.Part.with_seen g.P.Part.reads
          (g.D.Deed.next c.new.result.deed (g.P.Part.part c.args.domain.now.protocol))
          (g.D.Deed.allows c.new.result.deed (g.P.Part.part c.args.domain.now.protocol)))
          (strong_place c.args.place) (named c.args.new) c.args.expected c.args.seat.now
          c.try_replace.new.seat is.0,
      is.1,
    ))
    c.try_replace.ensures.replaced)

pub returns-clause-lost : goal.returns-clause-lost
returns-clause-lost g c =
    subst (λ e. IfErr c.try_replace.result
    (λ lost. LosesTo g.P.Kind.PayloadKind.fits (as_part g.P.Part.part c.args.domain.now)
    (g.D.Deed.next e (g.P.Part.part c.args.domain.now.protocol))
    (g.D.Deed.allows e (g.P.Part.part c.args.domain.now.protocol))
    (strong_place c.args.place) (named c.args.new) c.args.expected lost.now
    (seen_by g.P.Part.seen c.args.seat.now)
    (seen_by g.P.Part.seen c.try_replace.new.seat))) c.new.ensures
    (then_err _ _ c.try_replace.result
    (λ lost is. loses_seen g.P.Kind.PayloadKind.fits g.P.Part.part g.P.Part.seen c.args.domain.now
    (part_seen g.P.Part.seen g.P.Part.with_seen g.P.Part.reads
    (g.D.Deed.next c.new.result.deed (g.P.Part.part c.args.domain.now.protocol))
    (g.D.Deed.allows c.new.result.deed (g.P.Part.part c.args.domain.now.protocol)))
    (strong_place c.args.place) (named c.args.new) c.args.expected lost.now
    c.args.seat.now c.try_replace.new.seat is)
    c.try_replace.ensures.lost)

pub returns-clause-beside : goal.returns-clause-beside
returns-clause-beside g c =
    replace_beside g.P.Part.seen g.P.Part.with_seen g.Q.Protocol.gone g.P.Part.puts_over
    g.P.Kind.PayloadKind.fits c.args.domain.now
    (g.D.Deed.next c.new.result.deed (g.P.Part.part c.args.domain.now.protocol))
    (lifted_allows g.P.Part.seen
    (g.D.Deed.allows c.new.result.deed (g.P.Part.part c.args.domain.now.protocol)))
    c.args.seat.now c.try_replace.new.seat (strong_place c.args.place) (named c.args.new)
    c.args.expected c.try_replace.result
    (then_ok _ _ c.try_replace.result (λ done is. is.0) c.try_replace.ensures.replaced)
    c.try_replace.ensures.lost
