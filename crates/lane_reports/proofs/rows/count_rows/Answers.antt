use Rattle.std.proofs.Common.{◌≡◌, ◌∷◌, ◌++◌, [], List, length, length-append, append-nil, append_assoc, ap, sym, ◌∙◌, subst, arith}
use Rattle.domain_audit.proofs.Below.slot_store_Quieting.{no_items}
use Rattle.lane_reports.specs.declared.records.WordRecord.{WordRecord}
use Rattle.lane_reports.specs.HolderCounts.{counts_of}
use Rattle.lane_reports.specs.Rows.{AreRowsOf, IsOwnedBy, slots_in}
use Rattle.lane_reports.proofs.Finding.{leaves_on}
use Rattle.lane_reports.proofs.RowsMade.{counts_more, next_so, rows_push}
use Rattle.lane_reports.proofs.rows.count_rows.Goals as goal

pub count_row-requires-clause-owned : goal.count_row-requires-clause-owned
count_row-requires-clause-owned c =
    let first = next_so (IsOwnedBy c.args.root.now) c.args.records.items c.loop-of.yielded
    c.loop-of.of-iterator.rest.items c.next.new.self.rest.items c.in-Some.of c.requires.owned
    (c.loop-of.invariant.all ∙ c.into_iter-of-iterator.ensures.into_iter_gives.0)
    c.in-Some.ensures.steps.0 in
    let same = c.loop-of.invariant.leaves.owns c.in-Some.of.slot in omega (arith, first, same)

pub loop-of-preserved : goal.loop-of-preserved
loop-of-preserved c = record {
  all = append_assoc c.loop-of.yielded (c.in-Some.of ∷ []) c.next.new.self.rest.items
      ∙ sym (ap (λ (rs : List WordRecord). c.loop-of.yielded ++ rs) c.in-Some.ensures.steps.0)
      ∙ c.loop-of.invariant.all;
  room = let room = c.loop-of.invariant.room in
      let left = ap length c.in-Some.ensures.steps.0 in
      let more = ap length c.push_reserved.ensures.items in
      let long = length-append c.loop-of.rows.items (c.count_row.result ∷ []) in
      let same = c.push_reserved.ensures.capacity in omega (arith, room, left, more, long, same);
  rows = λ p whole.
      subst (AreRowsOf p (c.loop-of.yielded ++ c.in-Some.of ∷ []))
      (sym c.push_reserved.ensures.items)
      (rows_push p c.loop-of.yielded c.loop-of.rows.items c.in-Some.of
      c.count_row.result (c.loop-of.invariant.rows p whole)
      (c.count_row.ensures.row p (c.loop-of.invariant.whole ∙ whole)));
  many = let so = c.loop-of.invariant.many in
      let first = length-append c.loop-of.yielded (c.in-Some.of ∷ []) in
      let more = ap length c.push_reserved.ensures.items in
      let long = length-append c.loop-of.rows.items (c.count_row.result ∷ []) in
      omega (arith, so, first, more, long);
  trail = counts_more c.args.root.now.view.core c.loop-of.root.view.core c.count_row.new.root.view.core
      c.loop-of.yielded c.loop-of.rows.items c.push_reserved.new.self.items c.in-Some.of
      c.count_row.result c.loop-of.invariant.many c.loop-of.invariant.trail
      c.count_row.ensures.trail c.push_reserved.ensures.items;
  whole = c.count_row.ensures.whole ∙ c.loop-of.invariant.whole;
  leaves = leaves_on c.args.root.now c.loop-of.root c.count_row.new.root
      c.loop-of.invariant.leaves c.count_row.ensures.leaves;
  client = c.count_row.ensures.client ∙ c.loop-of.invariant.client;
  ready = c.count_row.ensures.ready;
}

pub returns-clause-rows : goal.returns-clause-rows
returns-clause-rows c p whole =
    subst (λ (rs : List WordRecord). AreRowsOf p rs c.loop-of.rows.items)
    (sym (append-nil c.loop-of.yielded)
    ∙ sym (ap (λ (rs : List WordRecord). c.loop-of.yielded ++ rs)
    (no_items c.loop-of.of-iterator.rest.items
    (sym c.loop-of.of-iterator.rest.ok.0 ∙ c.in-None.ensures.steps.0)))
    ∙ c.loop-of.invariant.all ∙ c.into_iter-of-iterator.ensures.into_iter_gives.0)
    (c.loop-of.invariant.rows p whole)

pub returns-clause-trail : goal.returns-clause-trail
returns-clause-trail c =
    subst (λ (rs : List WordRecord). c.loop-of.root.view.core.trail
    ≡ c.args.root.now.view.core.trail ++ counts_of (slots_in rs) c.loop-of.rows.items)
    (sym (append-nil c.loop-of.yielded)
    ∙ sym (ap (λ (rs : List WordRecord). c.loop-of.yielded ++ rs)
    (no_items c.loop-of.of-iterator.rest.items
    (sym c.loop-of.of-iterator.rest.ok.0 ∙ c.in-None.ensures.steps.0)))
    ∙ c.loop-of.invariant.all ∙ c.into_iter-of-iterator.ensures.into_iter_gives.0)
    c.loop-of.invariant.trail
