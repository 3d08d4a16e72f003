use Rattle.std.proofs.Common.{ap}
use Rattle.control_word.proofs.Below.acquire_retire_Wholes.{then_ok}
use Rattle.weak_part_calls.proofs.WeakCalls.{gains_weak_seen}
use Rattle.weak_part_calls.proofs.handles.weaken.Goals as goal

pub returns-clause-gained : goal.returns-clause-gained
returns-clause-gained g c =
    then_ok _ _ c.weaken.result
    (λ more is. (
      is.0,
      gains_weak_seen g.P.Kind.PayloadKind.fits g.P.Part.part g.P.Part.seen c.args.domain.now
          c.args.handle.now.slot c.args.seat.now c.weaken.new.seat is.1,
    ))
    c.weaken.ensures.gained

pub returns-clause-seen : goal.returns-clause-seen
returns-clause-seen g c = ap g.P.Part.seen c.weaken.ensures.client

pub returns-clause-beside : goal.returns-clause-beside
returns-clause-beside g c = ap (λ v. g.P.Part.with_seen v g.Q.Protocol.gone) c.weaken.ensures.client
