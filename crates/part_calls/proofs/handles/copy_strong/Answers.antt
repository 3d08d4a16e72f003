use Rattle.std.proofs.Common.{ap}
use Rattle.control_word.proofs.Below.acquire_retire_Wholes.{then_ok}
use Rattle.part_calls.proofs.SeenCalls.{gains_seen}
use Rattle.part_calls.proofs.handles.copy_strong.Goals as goal

pub returns-clause-copied : goal.returns-clause-copied
returns-clause-copied g c =
    then_ok _ _ c.copy_strong.result
    (λ more is. (
      is.0,
      gains_seen g.P.Kind.PayloadKind.fits g.P.Part.part g.P.Part.seen
          c.args.domain.now
          c.args.handle.now.slot c.args.seat.now c.copy_strong.new.seat is.1,
    ))
    c.copy_strong.ensures.copied

pub returns-clause-seen : goal.returns-clause-seen
returns-clause-seen g c = ap g.P.Part.seen c.copy_strong.ensures.client

pub returns-clause-beside : goal.returns-clause-beside
returns-clause-beside g c = ap (λ v. g.P.Part.with_seen v g.Q.Protocol.gone)
    c.copy_strong.ensures.client
