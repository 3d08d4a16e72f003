use Rattle.std.proofs.Common.{◌≡◌, sym, subst}
use Rattle.std.specs.Prelude.{Err, IfOk}
use Rattle.part_calls.specs.protocol_pairs.Parts.{Accepts}
use Rattle.part_calls.specs.protocol_pairs.Shares.{owned_of}
use Rattle.control_word.specs.core_events.declared.act.Act.TheVariants as act
use Rattle.control_word.specs.acquire_retire.Calls.{IsReady}
use Rattle.control_word.proofs.Below.acquire_retire_Wholes.{then_ok}
use Rattle.control_word.specs.declared.upgrading.UpgradeError.TheVariants as refused
use Rattle.control_word.specs.Calls.{FindsEnded, GainsStrong}
use Rattle.part_calls.specs.Parts.{as_part, seen_by}
use Rattle.part_calls.proofs.Seen.{lifted_allows, part_seen}
use Rattle.weak_part_calls.proofs.WeakCalls.{add_ready, counts_seen, ended_seen, upgrade_beside}
use Rattle.weak_part_calls.proofs.upgrading.upgrade.Goals as goal

pub upgrade-requires-clause-deed : goal.upgrade-requires-clause-deed
upgrade-requires-clause-deed g c =
    subst (λ e. IsReady (λ own v step. (g.D.Deed.ready e (g.P.Part.part c.args.domain.now.protocol))
    own (g.P.Part.seen v) step × g.P.Part.free c.args.domain.now.protocol own step
    × Accepts (g.P.Part.suits c.args.domain.now.protocol)
    (g.D.Deed.next e (g.P.Part.part c.args.domain.now.protocol)) g.P.Part.seen own v step)
    c.args.domain.now.shape (act.Add c.args.weak.now.slot) c.args.seat.now.view) (sym c.new.ensures)
    (add_ready g.P.Part.seen c.args.domain.now
    (owned_of (g.Q.Protocol.owns_cell (g.P.Part.part c.args.domain.now.protocol))
    (g.Q.Protocol.owns_weak_cell (g.P.Part.part c.args.domain.now.protocol))
    (g.Q.Protocol.owns_payload (g.P.Part.part c.args.domain.now.protocol))
    (g.Q.Protocol.owns_tickets (g.P.Part.part c.args.domain.now.protocol)))
    (g.P.Part.free c.args.domain.now.protocol) (g.met.P.Part.frees c.args.domain.now.protocol)
    (g.P.Part.suits c.args.domain.now.protocol)
    (g.D.Deed.ready c.args.deed (g.P.Part.part c.args.domain.now.protocol))
    (g.D.Deed.next c.args.deed (g.P.Part.part c.args.domain.now.protocol)) c.args.weak.now.slot
    c.args.seat.now c.requires.accepted c.requires.deed)

pub returns-clause-upgraded : goal.returns-clause-upgraded
returns-clause-upgraded g c =
    subst (λ e. IfOk c.upgrade.result
    (λ strong. (strong.slot ≡ c.args.weak.now.slot)
    × GainsStrong g.P.Kind.PayloadKind.fits (as_part g.P.Part.part c.args.domain.now)
    (g.D.Deed.next e (g.P.Part.part c.args.domain.now.protocol))
    (g.D.Deed.allows e (g.P.Part.part c.args.domain.now.protocol)) c.args.weak.now.slot
    (seen_by g.P.Part.seen c.args.seat.now) (seen_by g.P.Part.seen c.upgrade.new.seat)))
    c.new.ensures
    (then_ok _ _ c.upgrade.result
    (λ strong is. (
      is.0,
      counts_seen g.P.Kind.PayloadKind.fits g.P.Part.part g.P.Part.seen c.args.domain.now
          (part_seen g.P.Part.seen g.P.Part.with_seen g.P.Part.reads
          (g.D.Deed.next c.new.result.deed (g.P.Part.part c.args.domain.now.protocol))
          (g.D.Deed.allows c.new.result.deed (g.P.Part.part c.args.domain.now.protocol)))
          c.args.weak.now.slot c.args.seat.now c.upgrade.new.seat is.1,
    ))
    c.upgrade.ensures.upgraded)

pub returns-clause-ended : goal.returns-clause-ended
returns-clause-ended g c =
    subst (λ e. c.upgrade.result ≡ Err refused.Ended
    → FindsEnded g.P.Kind.PayloadKind.fits (as_part g.P.Part.part c.args.domain.now)
    (g.D.Deed.next e (g.P.Part.part c.args.domain.now.protocol))
    (g.D.Deed.allows e (g.P.Part.part c.args.domain.now.protocol)) c.args.weak.now.slot
    (seen_by g.P.Part.seen c.args.seat.now) (seen_by g.P.Part.seen c.upgrade.new.seat))
    c.new.ensures
    (λ is. ended_seen g.P.Kind.PayloadKind.fits g.P.Part.part g.P.Part.seen c.args.domain.now
    (part_seen g.P.Part.seen g.P.Part.with_seen g.P.Part.reads
    (g.D.Deed.next c.new.result.deed (g.P.Part.part c.args.domain.now.protocol))
    (g.D.Deed.allows c.new.result.deed (g.P.Part.part c.args.domain.now.protocol)))
    c.args.weak.now.slot c.args.seat.now c.upgrade.new.seat (c.upgrade.ensures.ended is))

pub returns-clause-beside : goal.returns-clause-beside
returns-clause-beside g c =
    upgrade_beside g.P.Part.seen g.P.Part.with_seen g.Q.Protocol.gone g.P.Part.puts_over
    g.P.Kind.PayloadKind.fits c.args.domain.now
    (g.D.Deed.next c.new.result.deed (g.P.Part.part c.args.domain.now.protocol))
    (lifted_allows g.P.Part.seen
    (g.D.Deed.allows c.new.result.deed (g.P.Part.part c.args.domain.now.protocol)))
    c.args.seat.now c.upgrade.new.seat c.args.weak.now.slot c.upgrade.result
    c.upgrade.ensures.refused c.upgrade.ensures.upgraded c.upgrade.ensures.ended
