use Rattle.std.proofs.Common.{◌≡◌, ◌<◌, [], ◌∷◌, ◌++◌, List, length, false, sym, ap, ◌∙◌, arith}
use Rattle.std.proofs.lemmas.List.{get_or_read, length_push}
use Rattle.deleter.specs.plain_state.declared.slot.SlotId.{SlotId}
use Rattle.heap_audit.specs.Marking.{is_marked}
use Rattle.heap_audit.proofs.Marking.{added, fresh_marking, room_left}
use Rattle.heap_audit.proofs.Searching.{trail_first, trail_more, searched, added_last}
use Rattle.heap_audit.proofs.trails.search.Goals as goal

pub loop-marks-init : goal.loop-marks-init
loop-marks-init c =
    let old = c.in_ok-marks.marks in
    let new = c.mark.new.self in
    let fresh = fresh_marking old.marked.items old.slots.items _ c.in_ok-marks.ensures.marked c.in_ok-marks.ensures.slots in
    let now = added old.marked.items old.slots.items c.args.start new.marked.items new.slots.items fresh.0 (omega (arith, fresh.1)) c.in_ok-mark.ensures in
    let last = added_last old.marked.items old.slots.items c.args.start new.marked.items new.slots.items (fresh.2 c.args.start) c.in_ok-mark.ensures in
    let leads = c.holder_of-present.ensures in
    record {
      size = omega (arith, now.grown.size, fresh.1);
      marking = now.marking;
      trail = trail_first c.args.holders.now c.args.start new.slots.items c.holder_of-present.result
          (last ∙ ap (λ (ss : List SlotId). ss ++ c.args.start ∷ []) c.in_ok-marks.ensures.slots) leads;
      within = c.requires.within c.args.start c.holder_of-present.result leads;
      held = c.requires.on c.args.start c.holder_of-present.result leads;
    }

pub loop-marks-preserved : goal.loop-marks-preserved
loop-marks-preserved c =
    let is = c.loop-marks.invariant in
    let old = c.loop-marks.marks in
    let new = c.mark-in-loop-marks.new.self in
    let present = c.loop-marks.present in
    let within : present.0 < length old.marked.items = omega (arith, is.within, is.size) in
    let free : is_marked old.marked.items present ≡ false = sym (get_or_read old.marked.items present.0 c.index.result.now within c.index.ensures false) ∙ c.loop-marks-test.true in
    let now = added old.marked.items old.slots.items present new.marked.items new.slots.items is.marking within c.in_ok-mark-2.ensures in
    let last = added_last old.marked.items old.slots.items present new.marked.items new.slots.items free c.in_ok-mark-2.ensures in
    let leads = c.holder_of-present-in-loop-marks.ensures in
    record {
      size = omega (arith, now.grown.size, is.size);
      marking = now.marking;
      trail = trail_more c.args.holders.now c.args.start old.slots.items new.slots.items present c.holder_of-present-in-loop-marks.result last leads is.trail;
      within = c.requires.within present c.holder_of-present-in-loop-marks.result leads;
      held = c.requires.on present c.holder_of-present-in-loop-marks.result leads;
    }

pub loop-marks-smaller : goal.loop-marks-smaller
loop-marks-smaller c =
    let is = c.loop-marks.invariant in
    let old = c.loop-marks.marks in
    let new = c.mark-in-loop-marks.new.self in
    let present = c.loop-marks.present in
    let within : present.0 < length old.marked.items = omega (arith, is.within, is.size) in
    let free : is_marked old.marked.items present ≡ false = sym (get_or_read old.marked.items present.0 c.index.result.now within c.index.ensures false) ∙ c.loop-marks-test.true in
    let room = room_left old.marked.items old.slots.items present is.marking within free in
    let last = added_last old.marked.items old.slots.items present new.marked.items new.slots.items free c.in_ok-mark-2.ensures in
    omega (arith, room, is.size, ap length last, length_push old.slots.items present)

pub returns : goal.returns
returns c =
    let is = c.loop-marks.invariant in
    let old = c.loop-marks.marks in
    let present = c.loop-marks.present in
    let within : present.0 < length old.marked.items = omega (arith, is.within, is.size) in
    searched c.args.holders.now c.args.start old.marked.items old.slots.items present is.marking
    (sym (get_or_read old.marked.items present.0 c.index.result.now within c.index.ensures false) ∙ c.loop-marks-test.false) is.trail
