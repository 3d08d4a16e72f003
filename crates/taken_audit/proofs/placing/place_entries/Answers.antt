use Rattle.std.proofs.Common.{◌≡◌, length, arith}
use Rattle.plain_audit.specs.plain_state.declared.slot.Kind.TheVariants.{Strong}
use Rattle.plain_audit.specs.heap_audit.Heaps.{slot}
use Rattle.taken_audit.specs.Placed.{placed_entry}
use Rattle.taken_audit.proofs.InPlace.{done_all}
use Rattle.taken_audit.proofs.placing.place_entries.Goals as goal

pub returns : goal.returns
returns c =
    let past = c.loop-at-test.false in
    let size = c.loop-at.invariant.size in
    let most = c.loop-at.auto.at-end in
    let all : c.loop-at.at ≡ length c.loop-at.entries = omega (arith, past, size, most) in
    done_all (placed_entry c.args.taken.now) (Strong, slot 0) c.args.entries.now c.loop-at.entries c.loop-at.at all
    c.loop-at.invariant
