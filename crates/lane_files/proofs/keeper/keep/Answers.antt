use Rattle.std.proofs.Common.{List, refl, ap, sym, subst}
use Rattle.std.specs.Prelude.{Option}
use Rattle.control_word.specs.plain_state.declared.slot.SlotId.{SlotId}
use Rattle.control_word.specs.core_events.Views.{without}
use Rattle.control_word.specs.counted_handles.Handles.{Handle}
use Rattle.lane_work.specs.Keeping.{Admits}
use Rattle.lane_files.specs.Ready.{Owns}
use Rattle.lane_files.proofs.SeatsKept.{owns_drop}
use Rattle.lane_files.proofs.Keeping.{gives_one, keeps_one}
use Rattle.lane_files.proofs.keeper.keep.Goals as goal

pub returns-in-Ok-None-clause-keeps : goal.returns-in-Ok-None-clause-keeps
returns-in-Ok-None-clause-keeps c =
    keeps_one c.args.handle c.args.keeper.now c.admit.new.self c.args.seat.now c.args.seat.now
    (subst (λ (o : Option Handle). Admits c.args.handle o c.args.keeper.now c.admit.new.self)
    c.in-Ok-None.field-0-is c.in-Ok-None.ensures.admits)
    c.requires.owned refl

pub returns-in-Ok-Some-clause-keeps : goal.returns-in-Ok-Some-clause-keeps
returns-in-Ok-Some-clause-keeps c =
    gives_one c.args.handle c.args.keeper.now c.admit.new.self c.args.seat.now c.drop_strong.new.seat
    c.in-Ok-Some.handle
    (subst (λ (o : Option Handle). Admits c.args.handle o c.args.keeper.now c.admit.new.self)
    c.in-Ok-Some.field-0-is c.in-Ok-Some.ensures.admits)
    (owns_drop _ c.args.domain.now c.in-Ok-Some.handle.slot c.args.seat.now c.drop_strong.new.seat
    c.drop_strong.ensures.dropped c.drop_strong.ensures.objects)

pub returns-in-Err-clause-gives : goal.returns-in-Err-clause-gives
returns-in-Err-clause-gives c =
    subst (λ (h : Handle). Owns (without h.slot c.args.seat.now.view.core.owned) c.args.seat.now
    c.drop_strong-in-Err.new.seat) c.in-Err.ensures.back
    (owns_drop _ c.args.domain.now c.in-Err.refused.back.slot c.args.seat.now
    c.drop_strong-in-Err.new.seat c.drop_strong-in-Err.ensures.dropped
    c.drop_strong-in-Err.ensures.objects)
