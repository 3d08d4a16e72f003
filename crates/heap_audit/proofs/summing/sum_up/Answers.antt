use Rattle.std.proofs.Common.{◌+◌, ◌<◌, ◌≤◌, ◌^◌, Some, ap, length, subst, sym, ◌∙◌, arith}
use Rattle.std.proofs.lemmas.Bool.{false≢true}
use Rattle.deleter.specs.plain_state.declared.image.SlotImage.{SlotImage}
use Rattle.deleter.specs.plain_state.declared.slot.SlotId.{SlotId}
use Rattle.heap_audit.proofs.Adding.{IsCounted, IsWeighed, one_live, one_other, one_reached, one_unreached}
use Rattle.heap_audit.proofs.Weights.{not_live}
use Rattle.heap_audit.proofs.summing.sum_up.Goals as goal
use Rattle.heap_audit.proofs.summing.sum_up.Goals.{then-is_live, else-is_live, then-is_unreached, else-is_unreached}

pub loop-i-preserved : goal.loop-i-preserved
loop-i-preserved g c =
    let heap = c.args.heap.now in
    let rank = c.args.rank.now in
    let i = c.loop-i.i in
    let xs = c.args.heap.now.slots.items in
    let weight = g.W.PayloadKind.weight in
    let there : c.loop-i.i < length c.args.heap.now.slots.items =
    omega (arith, c.loop-i-test.true, c.len-i-end.ensures) in
    record {
      weighed = elim c.if-is_live.branch [
        | then-is_live w ↦
            (let lives = subst (λ (x : SlotImage). x.strong < 2 ^ 63) c.index-image.ensures
            (c.is_live.ensures.0 w.if-is_live.true) in
            let most = g.met.W.PayloadKind.bounded _ (c.requires.fits i _ there lives) in
            subst (λ n. IsWeighed weight xs (i + 1) n c.if-is_live.bytes) (sym w.live-is)
            (subst (λ n. IsWeighed weight xs (i + 1) (c.loop-i.live + 1) n)
            (sym (w.bytes-is ∙ ap (λ n. c.loop-i.bytes + n) (w.call-bytes.ensures.weight
            ∙ ap (λ (x : SlotImage). weight x.payload) c.index-image.ensures)))
            (one_live weight xs i _ c.loop-i.live c.loop-i.bytes c.loop-i.invariant.weighed there lives most)))
        | else-is_live w ↦
            (let dead = subst (λ (x : SlotImage). 2 ^ 63 ≤ x.strong) c.index-image.ensures
            (not_live _ _ c.is_live.ensures w.if-is_live.false) in
            subst (λ n. IsWeighed weight xs (i + 1) n c.if-is_live.bytes) (sym w.live-is)
            (subst (λ n. IsWeighed weight xs (i + 1) c.loop-i.live n) (sym w.bytes-is)
            (one_other weight xs i _ c.loop-i.live c.loop-i.bytes c.loop-i.invariant.weighed there dead)))
      ];
      counted = elim c.if-is_unreached.branch [
        | then-is_unreached w ↦
            subst (λ n. IsCounted heap rank (i + 1) n c.if-is_unreached.least) (sym w.unreached-is)
            (subst (λ o. IsCounted heap rank (i + 1) (c.loop-i.unreached + 1) o)
            (sym (w.least-is ∙ ap (λ (s : SlotId). Some s) w.lower.ensures))
            (one_unreached heap rank i c.loop-i.unreached c.loop-i.least c.loop-i.invariant.counted
            (c.is_unreached.ensures.0 w.if-is_unreached.true)))
        | else-is_unreached w ↦
            subst (λ n. IsCounted heap rank (i + 1) n c.if-is_unreached.least) (sym w.unreached-is)
            (subst (λ o. IsCounted heap rank (i + 1) c.loop-i.unreached o) (sym w.least-is)
            (one_reached heap rank i c.loop-i.unreached c.loop-i.least c.loop-i.invariant.counted
            (λ un. false≢true (sym w.if-is_unreached.false ∙ c.is_unreached.ensures.1 un))))
      ];
    }
