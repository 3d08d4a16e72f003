use Rattle.std.proofs.Common.{◌+◌, ◌<◌, length, get_or, sym, ap, subst, arith}
use Rattle.heap_audit.specs.declared.marks.Marks.{Marks}
use Rattle.heap_audit.specs.Heaps.{slot}
use Rattle.heap_audit.specs.Marking.{IsRooted}
use Rattle.heap_audit.proofs.Lawfulness.{exceeds_root, root_exceeds}
use Rattle.heap_audit.proofs.Spreading.{rooted_none, rooted_adds, rooted_skips, rooted_all}
use Rattle.heap_audit.proofs.reach.roots.Goals as goal
use Rattle.heap_audit.proofs.reach.roots.Goals.{then-from-strong+in_ok-mark, else-from-strong}

pub mark-requires : goal.mark-requires
mark-requires c = omega (arith, ap length c.deref-count-items.ensures.value, c.in_ok-counts.ensures.size, c.loop-i.invariant.size)

pub loop-i-init : goal.loop-i-init
loop-i-init c = rooted_none c.args.heap.now _ _ c.len.result (omega arith) c.in_ok-marks.ensures.marked c.in_ok-marks.ensures.slots

pub loop-i-preserved : goal.loop-i-preserved
loop-i-preserved c =
    let heap = c.args.heap.now in
    let i = c.loop-i.i in
    let within : i < length heap.slots.items = omega (arith, ap length c.deref-count-items.ensures.value, c.in_ok-counts.ensures.size) in
    let counted = c.in_ok-counts.ensures.counted (slot i) within in
    let read = ap (λ xs. get_or xs i 0) c.deref-count-items.ensures.value in
    elim c.if-from-strong.branch [
      | then-from-strong+in_ok-mark w ↦
          (let root = exceeds_root heap (slot i) (omega (arith, counted, read, w.if-from-strong.true)) in
          subst (λ (m : Marks). IsRooted heap m.marked.items m.slots.items (i + 1)) (sym w.marks-is)
          (rooted_adds heap _ _ i _ _ c.loop-i.invariant within root w.in_ok-mark.ensures))
      | else-from-strong w ↦
          subst (λ (m : Marks). IsRooted heap m.marked.items m.slots.items (i + 1)) (sym w.marks-is)
          (rooted_skips heap _ _ i c.loop-i.invariant
          (λ root. let exceeds = root_exceeds heap (slot i) c.requires.lawful c.requires.range root in omega (arith, counted, read, w.if-from-strong.false, exceeds)))
    ]

pub returns : goal.returns
returns c = rooted_all c.args.heap.now _ _ c.loop-i.i c.requires.range
    (omega (arith, ap length c.deref-count-items.ensures.value, c.in_ok-counts.ensures.size)) c.loop-i.invariant
