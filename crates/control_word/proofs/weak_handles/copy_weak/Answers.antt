use Rattle.std.proofs.Common.{◌≡◌, subst}
use Rattle.std.specs.Prelude.{IfOk}
use Rattle.counted_handles.specs.plain_state.declared.slot.SlotId.{SlotId}
use Rattle.control_word.specs.Calls.{GainsWeak}
use Rattle.control_word.proofs.weak_handles.copy_weak.Goals as goal

pub returns-clause-gained : goal.returns-clause-gained
returns-clause-gained g c =
    subst (λ (s : SlotId). IfOk c.gain_weak.result (λ more. (more.slot ≡ s)
    × GainsWeak g.P.Kind.PayloadKind.fits c.args.domain.now s c.args.seat.now
    c.gain_weak.new.seat))
    c.slot.ensures c.gain_weak.ensures.gained
