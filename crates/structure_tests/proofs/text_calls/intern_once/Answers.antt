use Rattle.std.proofs.Common.{◌≡◌, subst}
use Rattle.part_calls.specs.plain_state.declared.slot.SlotId.{SlotId}
use Rattle.part_calls.specs.plain_state.Lists.{times}
use Rattle.weak_intern.specs.directory_calls.Steps.{handle_by, with_found}
use Rattle.weak_intern.proofs.Below.record_making_Dropped.{dropped}
use Rattle.structure_tests.proofs.Returned.{back_again}
use Rattle.structure_tests.proofs.text_calls.intern_once.Goals as goal

pub returns-clause-owns : goal.returns-clause-owns
returns-clause-owns g c =
    back_again c.args.seat.now.view.core.owned c.intern.new.seat.view.core.owned
    c.drop_strong.new.seat.view.core.owned c.in-Ok.record.slot
    (subst (λ r. (x : SlotId) → times x c.intern.new.seat.view.core.owned
    ≡ times x (with_found (handle_by r) c.args.seat.now.view.core.owned)) c.in-Ok.is
    c.intern.ensures.leaves.owns)
    (dropped c.intern.new.seat c.drop_strong.new.seat c.in-Ok.record.slot _ c.args.domain.now
    c.drop_strong.ensures.dropped c.drop_strong.ensures.objects).owns
