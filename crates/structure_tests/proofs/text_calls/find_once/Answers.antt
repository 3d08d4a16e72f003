use Rattle.std.proofs.Common.{◌≡◌, ap, subst, ◌∙◌}
use Rattle.part_calls.specs.plain_state.declared.slot.SlotId.{SlotId}
use Rattle.part_calls.specs.plain_state.Lists.{times}
use Rattle.hand_queues.specs.atomic_weak.Places.{named}
use Rattle.weak_intern.specs.directory_calls.Steps.{with_found}
use Rattle.weak_intern.proofs.Below.record_making_Dropped.{dropped}
use Rattle.weak_intern.specs.Walking.{found_by}
use Rattle.structure_tests.proofs.Returned.{back_again, has_one}
use Rattle.structure_tests.proofs.text_calls.find_once.Goals as goal

pub drop_strong-requires-clause-owned : goal.drop_strong-requires-clause-owned
drop_strong-requires-clause-owned g c =
    has_one c.args.seat.now.view.core.owned c.find.new.seat.view.core.owned c.in-Some.record.slot
    (subst (λ o. (x : SlotId) → times x c.find.new.seat.view.core.owned
    ≡ times x (with_found o c.args.seat.now.view.core.owned))
    (ap (λ r. found_by r) c.in_ok-found.was ∙ ap named c.in-Some.is) c.find.ensures.leaves.owns)

pub returns-clause-owns : goal.returns-clause-owns
returns-clause-owns g c =
    back_again c.args.seat.now.view.core.owned c.find.new.seat.view.core.owned
    c.drop_strong.new.seat.view.core.owned c.in-Some.record.slot
    (subst (λ o. (x : SlotId) → times x c.find.new.seat.view.core.owned
    ≡ times x (with_found o c.args.seat.now.view.core.owned))
    (ap (λ r. found_by r) c.in_ok-found.was ∙ ap named c.in-Some.is) c.find.ensures.leaves.owns)
    (dropped c.find.new.seat c.drop_strong.new.seat c.in-Some.record.slot _ c.args.domain.now
    c.drop_strong.ensures.dropped c.drop_strong.ensures.objects).owns
