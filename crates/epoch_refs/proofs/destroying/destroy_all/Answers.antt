use Rattle.std.proofs.Common.{Some, ◌<◌}
use Rattle.epoch_domain.specs.plain_protocol.plain_state.Lists.{times}
use Rattle.epoch_refs.proofs.Destroyed.{first_stands, one_less, one_more}
use Rattle.epoch_refs.proofs.destroying.destroy_all.Goals as goal

pub destroy-requires-clause-ended : goal.destroy-requires-clause-ended
destroy-requires-clause-ended g c =
    first_stands (Some c.in-Some.slot) c.loop-slot.seat.view.core.dying c.in-Some.ensures.none c.in-Some.ensures.first

pub loop-slot-smaller : goal.loop-slot-smaller
loop-slot-smaller g c =
    let stands : 0 < times c.in-Some.slot c.loop-slot.seat.view.core.dying =
    first_stands (Some c.in-Some.slot) c.loop-slot.seat.view.core.dying c.in-Some.ensures.none c.in-Some.ensures.first in
    one_less _ c.args.domain.now _ c.loop-slot.weight c.destroy.result c.saturating_add-weight.result
    c.args.seat.now c.loop-slot.seat c.destroy.new.seat c.in-Some.slot c.loop-slot.invariant stands
    c.destroy.ensures.destroys c.destroy.ensures.core c.destroy.ensures.known c.destroy.ensures.dying
    c.destroy.ensures.room c.destroy.ensures.rest

pub loop-slot-preserved : goal.loop-slot-preserved
loop-slot-preserved g c =
    let stands : 0 < times c.in-Some.slot c.loop-slot.seat.view.core.dying =
    first_stands (Some c.in-Some.slot) c.loop-slot.seat.view.core.dying c.in-Some.ensures.none c.in-Some.ensures.first in
    one_more _ c.args.domain.now _ c.loop-slot.weight c.destroy.result c.saturating_add-weight.result
    c.args.seat.now c.loop-slot.seat c.destroy.new.seat c.in-Some.slot c.loop-slot.invariant stands
    c.destroy.ensures.destroys c.destroy.ensures.core c.destroy.ensures.known c.destroy.ensures.dying
    c.destroy.ensures.room c.destroy.ensures.rest c.saturating_add-weight.ensures
