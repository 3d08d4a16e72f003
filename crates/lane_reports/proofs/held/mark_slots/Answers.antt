use Rattle.std.proofs.Common.{◌+◌, List, take, ap, sym, subst, arith, Bool, false, get_or}
use Rattle.std.proofs.lemmas.List.{take_all}
use Rattle.law_lesson.specs.plain_state.declared.slot.SlotId.{SlotId}
use Rattle.domain_audit.specs.counted_handles.Handles.{Handle}
use Rattle.lane_reports.specs.Holders.{AreSlotsOf, has}
use Rattle.lane_reports.proofs.Slots.{no_slots, one_more, slots_more}
use Rattle.lane_reports.proofs.held.mark_slots.Goals as goal

pub loop-handle-init : goal.loop-handle-init
loop-handle-init c =
    no_slots (has c.new-held.result.items)
    (λ s. ap (λ (held : List Bool). get_or held s.0 false) c.new-held.ensures.items)

pub loop-handle-preserved : goal.loop-handle-preserved
loop-handle-preserved c =
    slots_more (take c.loop-handle.handle-index c.args.kept.now)
    (take (c.loop-handle.handle-index + 1) c.args.kept.now) c.handle-item.result c.slot.result.0
    (has c.loop-handle.held.items) (has c.mark.new.held.items)
    (one_more c.args.kept.now c.loop-handle.handle-index c.handle-item.result (omega arith)
    (sym c.handle-item.is))
    (ap (λ (s : SlotId). s.0) c.slot.ensures) c.loop-handle.invariant c.in_ok-mark.ensures

pub returns : goal.returns
returns c =
    subst (λ (kept : List Handle). AreSlotsOf kept (has c.loop-handle.held.items))
    (take_all c.loop-handle.handle-index c.args.kept.now (omega arith)) c.loop-handle.invariant
