use Rattle.std.proofs.Common.{rules, count_by, ap, ◌∙◌, arith}
use Rattle.std.proofs.lemmas.List.{get_or_read}
use Rattle.deleter.specs.plain_state.declared.slot.Kind.TheVariants.{Strong}
use Rattle.deleter.specs.plain_state.Images.{free_image}
use Rattle.deleter.specs.plain_state.Lists.{entry_times}
use Rattle.heap_audit.specs.Heaps.{names, slot}
use Rattle.heap_audit.proofs.Lawfulness.{bare_decides, entered_obeys_not, live_decides}
use Rattle.heap_audit.proofs.obeying.obeys.Goals as goal

pub returns-then-image-lt-ZERO : goal.returns-then-image-lt-ZERO
returns-then-image-lt-ZERO c =
    let s = slot c.args.index in
    let read = get_or_read c.args.heap.now.slots.items s.0 c.index-image.result.now c.requires.slot
    c.index-image.ensures free_image in
    let cells = c.cells_with-cells.ensures ∙ ap (count_by (names s)) c.deref.ensures.value in
    let deferred = c.entries_with-deferred.ensures
    ∙ ap (entry_times Strong s) c.deref-2.ensures.value in
    live_decides c.args.heap.now s c.index-image.result.now _ _ _ read c.requires.slot
    (omega arith) cells c.requires.fields deferred c.covers.result c.covers.ensures

pub returns-then-are_none : goal.returns-then-are_none
returns-then-are_none c =
    let s = slot c.args.index in
    let read = get_or_read c.args.heap.now.slots.items s.0 c.index-image.result.now c.requires.slot
    c.index-image.ensures free_image in
    let cells = c.cells_with-cells.ensures ∙ ap (count_by (names s)) c.deref.ensures.value in
    let deferred = c.entries_with-deferred.ensures
    ∙ ap (entry_times Strong s) c.deref-2.ensures.value in
    bare_decides c.args.heap.now s c.index-image.result.now _ _ _ read (omega arith) cells
    c.requires.fields deferred (search rules) c.is_bare.result c.is_bare.ensures

pub returns-else-are_none : goal.returns-else-are_none
returns-else-are_none c =
    let s = slot c.args.index in
    let read = get_or_read c.args.heap.now.slots.items s.0 c.index-image.result.now c.requires.slot
    c.index-image.ensures free_image in
    let cells = c.cells_with-cells.ensures ∙ ap (count_by (names s)) c.deref.ensures.value in
    let deferred = c.entries_with-deferred.ensures
    ∙ ap (entry_times Strong s) c.deref-2.ensures.value in (
      λ t. cc (t, c.if-are_none.false),
      λ o. c.are_none.ensures.1
          (entered_obeys_not c.args.heap.now s c.index-image.result.now _ _ _ read (omega arith)
          cells c.requires.fields deferred o),
    )
