use Rattle.std.proofs.Common.{◌∷◌, ◌++◌, [], List, length, length-append, append-nil, append_assoc, ap, sym, ◌∙◌, subst, arith}
use Rattle.domain_audit.proofs.Below.slot_store_Quieting.{no_items}
use Rattle.cell_records.specs.Rows.{AreRowsOf, IsIn}
use Rattle.cell_records.specs.declared.records.WordRecord.{WordRecord}
use Rattle.cell_records.proofs.RowsMade.{next_so, rows_push}
use Rattle.cell_records.proofs.rows.count_rows.Goals as goal

pub count_row-requires : goal.count_row-requires
count_row-requires c =
    next_so (IsIn c.args.image.now) c.args.records.items c.loop-of.yielded
    c.loop-of.of-iterator.rest.items c.next.new.self.rest.items c.in-Some.of c.requires
    (c.loop-of.invariant.all ∙ c.into_iter-of-iterator.ensures.into_iter_gives.0)
    c.in-Some.ensures.steps.0

pub loop-of-preserved : goal.loop-of-preserved
loop-of-preserved c = record {
  all = append_assoc c.loop-of.yielded (c.in-Some.of ∷ []) c.next.new.self.rest.items
      ∙ sym (ap (λ (rs : List WordRecord). c.loop-of.yielded ++ rs) c.in-Some.ensures.steps.0)
      ∙ c.loop-of.invariant.all;
  room = let room = c.loop-of.invariant.room in
      let left = ap length c.in-Some.ensures.steps.0 in
      let more = ap length c.push_reserved.ensures.items in
      let long = length-append c.loop-of.rows.items (c.count_row.result ∷ []) in
      let same = c.push_reserved.ensures.capacity in omega (arith, room, left, more, long, same);
  rows = subst (AreRowsOf c.args.image.now (c.loop-of.yielded ++ c.in-Some.of ∷ []))
      (sym c.push_reserved.ensures.items)
      (rows_push c.args.image.now c.loop-of.yielded c.loop-of.rows.items c.in-Some.of
      c.count_row.result c.loop-of.invariant.rows c.count_row.ensures);
}

pub returns : goal.returns
returns c =
    subst (λ (rs : List WordRecord). AreRowsOf c.args.image.now rs c.loop-of.rows.items)
    (sym (append-nil c.loop-of.yielded)
    ∙ sym (ap (λ (rs : List WordRecord). c.loop-of.yielded ++ rs)
    (no_items c.loop-of.of-iterator.rest.items
    (sym c.loop-of.of-iterator.rest.ok.0 ∙ c.in-None.ensures.steps.0)))
    ∙ c.loop-of.invariant.all ∙ c.into_iter-of-iterator.ensures.into_iter_gives.0)
    c.loop-of.invariant.rows
