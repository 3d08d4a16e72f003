use Rattle.std.proofs.Common.{◌≡◌, length, arith}
use Rattle.plain_audit.specs.plain_state.declared.slot.SlotId.{SlotId}
use Rattle.plain_audit.specs.heap_audit.Heaps.{slot}
use Rattle.taken_audit.specs.Placed.{at}
use Rattle.taken_audit.proofs.InPlace.{done_all}
use Rattle.taken_audit.proofs.auditing.name_slots.Goals as goal

pub returns : goal.returns
returns c =
    let past = c.loop-at-test.false in
    let size = c.loop-at.invariant.size in
    let most = c.loop-at.auto.at-end in
    let all : c.loop-at.at ≡ length c.loop-at.walk = omega (arith, past, size, most) in
    done_all (λ (s : SlotId). at c.args.taken.now s.0) (slot 0) c.args.walk.now c.loop-at.walk
    c.loop-at.at all c.loop-at.invariant
