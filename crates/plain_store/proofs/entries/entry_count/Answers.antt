use Rattle.std.proofs.Common.{arith, ap, sym, ◌+◌, ℕ, ◌∙◌}
use Rattle.plain_store.proofs.SettlingEntries.{counts_none, counts_yes, counts_no, counts_few}
use Rattle.plain_store.proofs.entries.entry_count.Goals as goal
use Rattle.plain_store.proofs.entries.entry_count.Goals.{then-is_of, else-is_of}

pub loop-entry-init : goal.loop-entry-init
loop-entry-init c = counts_none c.args.kind c.args.slot

pub overflow_add-count : goal.overflow_add-count
overflow_add-count c =
    let a = counts_few c.args.kind c.args.slot c.args.list.now c.loop-entry.entry-index (omega arith) in
    omega (arith, c.loop-entry.invariant)

pub loop-entry-preserved : goal.loop-entry-preserved
loop-entry-preserved c =
    elim c.if-is_of.branch [
      | then-is_of w ↦
          w.count-is ∙ ap (λ (n : ℕ). n + 1) c.loop-entry.invariant
          ∙ sym (counts_yes c.args.kind c.args.slot c.args.list.now c.loop-entry.entry-index _ (omega arith) (sym c.is_of.ensures ∙ w.if-is_of.true))
      | else-is_of w ↦
          w.count-is ∙ c.loop-entry.invariant
          ∙ sym (counts_no c.args.kind c.args.slot c.args.list.now c.loop-entry.entry-index _ (omega arith) (sym c.is_of.ensures ∙ w.if-is_of.false))
    ]
