use Rattle.std.proofs.Common.{length, drop, sum_by, sym, ap, ◌∙◌, subst, arith}
use Rattle.std.proofs.lemmas.List.{take_at}
use Rattle.heap_audit.specs.Heaps.{fields_holding, in_fields}
use Rattle.heap_audit.specs.Tables.{AreFieldCounts}
use Rattle.heap_audit.proofs.fields.field_counts.Goals as goal

pub returns : goal.returns
unfolding in_fields
returns c =
    let whole = take_at c.count_all.new.counts (drop (length c.count_all.new.counts) c.in_ok-counts.counts.items) c.in_ok-counts.counts.len (omega arith) in
    subst (AreFieldCounts c.args.heap.now) (sym whole) (record {
      size = omega (arith, c.in_ok-counts.ensures.len, c.len.ensures, c.deref.ensures.len, ap length c.deref.ensures.value);
      counted = λ s h. c.count_all.ensures s (omega arith) ∙ ap (sum_by (fields_holding s)) c.deref.ensures.value;
    })
