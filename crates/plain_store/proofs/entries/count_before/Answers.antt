use Rattle.std.proofs.Common.{arith, ap, sym, ◌+◌, ℕ, ◌∙◌}
use Rattle.plain_state.specs.Lists.{is_entry}
use Rattle.plain_store.proofs.SettlingEntries.{counts_none, counts_yes, counts_no, counts_few}
use Rattle.plain_store.proofs.entries.count_before.Goals as goal
use Rattle.plain_store.proofs.entries.count_before.Goals.{then-is_of, else-is_of}

pub loop-i-init : goal.loop-i-init
loop-i-init c = counts_none c.args.kind c.args.slot

pub overflow_add-count : goal.overflow_add-count
overflow_add-count c =
    let a = counts_few c.args.kind c.args.slot c.args.list.now.items c.loop-i.i (omega (arith, c.requires)) in
    omega (arith, c.loop-i.invariant)

pub loop-i-preserved : goal.loop-i-preserved
loop-i-preserved c =
    let is = ap (is_entry c.args.kind c.args.slot) (sym c.index.ensures) ∙ sym c.is_of.ensures in
    elim c.if-is_of.branch [
      | then-is_of w ↦
          w.count-is ∙ ap (λ (n : ℕ). n + 1) c.loop-i.invariant
          ∙ sym (counts_yes c.args.kind c.args.slot c.args.list.now.items c.loop-i.i c.index.result.now (omega (arith, c.requires)) (is ∙ w.if-is_of.true))
      | else-is_of w ↦
          w.count-is ∙ c.loop-i.invariant
          ∙ sym (counts_no c.args.kind c.args.slot c.args.list.now.items c.loop-i.i c.index.result.now (omega (arith, c.requires)) (is ∙ w.if-is_of.false))
    ]
