use Rattle.std.proofs.Common.{◌+◌, length, sym, ◌∙◌, subst, arith}
use Rattle.std.proofs.lemmas.Bool.{false≢true}
use Rattle.std.proofs.lemmas.List.{get_or_read}
use Rattle.deleter.specs.plain_state.Images.{free_image}
use Rattle.heap_audit.specs.Heaps.{slot}
use Rattle.heap_audit.specs.Reached.{IsUnreached}
use Rattle.heap_audit.proofs.Offering.{AreOffered, offered_none, offered_within, offered_skip, offered_more, offered_all}
use Rattle.heap_audit.proofs.search.offer_all.Goals as goal
use Rattle.heap_audit.proofs.search.offer_all.Goals.{then-is_unreached, else-is_unreached}

pub offer-requires-clause-within : goal.offer-requires-clause-within
offer-requires-clause-within c = offered_within c.args.heap.now c.args.rank.now c.loop-i.i c.loop-i.holders (length c.args.rank.now) (omega arith) (omega arith) c.loop-i.invariant

pub loop-i-init : goal.loop-i-init
loop-i-init c = offered_none c.args.heap.now c.args.rank.now 0 c.args.holders.now c.requires.none

pub loop-i-preserved : goal.loop-i-preserved
loop-i-preserved c =
    let heap = c.args.heap.now in
    let rank = c.args.rank.now in
    let i = c.loop-i.i in
    elim c.if-is_unreached.branch [
      | then-is_unreached w ↦
          (let un : IsUnreached heap (slot i) = c.is_unreached.ensures.0 w.if-is_unreached.true in
          let read = get_or_read heap.slots.items i w.index.result.now un.0.0 w.index.ensures free_image in
          subst (AreOffered heap rank (i + 1)) (sym w.holders-is)
          (offered_more heap rank i w.index.result.now c.loop-i.holders w.offer.new.holders _ (omega arith) (omega (arith, w.offer.auto.holders)) read un
          w.offer.ensures.offered w.offer-then-is_unreached.ensures.offered c.loop-i.invariant))
      | else-is_unreached w ↦
          subst (AreOffered heap rank (i + 1)) (sym w.holders-is)
          (offered_skip heap rank i c.loop-i.holders (λ un. false≢true (sym w.if-is_unreached.false ∙ c.is_unreached.ensures.1 un)) c.loop-i.invariant)
    ]

pub returns : goal.returns
returns c = offered_all c.args.heap.now c.args.rank.now c.loop-i.i c.loop-i.holders (omega arith) (omega arith) c.loop-i.invariant
