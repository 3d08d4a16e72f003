use Rattle.std.proofs.Common.{rules, inr, ◌++◌, ◌∷◌, [], List, append-nil, append_assoc, sym, ap, subst, ◌∙◌, arith, length}
use Rattle.std.proofs.lemmas.Result.{err_from_is_err_and}
use Rattle.cell_records.proofs.Below.slot_store_Quieting.{no_items}
use Rattle.cell_domain.specs.declared.ending.LaneEnd.{LaneEnd}
use Rattle.cell_gathering.specs.declared.done.Done.{Done}
use Rattle.cell_reports.specs.Parting.{AllRan}
use Rattle.cell_reports.proofs.Ran.{ran_push}
use Rattle.cell_reports.proofs.parting.part_lanes.Goals as goal

pub loop-ended-init : goal.loop-ended-init
loop-ended-init c = record {
  all = c.into_iter-ended-iterator.ensures.into_iter_gives.0;
  ran = subst (AllRan []) (sym c.in_ok-done.ensures.items) tt;
  room = search rules;
}

pub loop-ended-preserved : goal.loop-ended-preserved
loop-ended-preserved c =
    let inv = c.loop-ended.invariant in let steps = c.in-Some.ensures.steps.0 in record {
      all = append_assoc c.loop-ended.yielded (c.in-Some.ended ∷ []) c.next.new.self.rest.items
          ∙ sym (ap (λ (es : List LaneEnd). c.loop-ended.yielded ++ es) steps) ∙ inv.all;
      ran = subst (AllRan (c.loop-ended.yielded ++ c.in-Some.ended ∷ []))
          (sym {A = List Done} c.push_reserved.ensures.items)
          (ran_push c.loop-ended.yielded c.loop-ended.done.items c.in-Some.ended
          c.in_ok-part_lane.field-0 inv.ran c.in_ok-part_lane.ensures.ran);
      room = let l = ap length steps in let e = c.push_reserved.ensures.len in
          let k = c.push_reserved.ensures.capacity in let i = inv.room in omega arith;
    }

pub returns-in_err-part_lane-clause-why : goal.returns-in_err-part_lane-clause-why
returns-in_err-part_lane-clause-why c =
    let inv = c.loop-ended.invariant in let steps = c.in-Some.ensures.steps.0 in
    let p = err_from_is_err_and c.from_residual-in_err-part_lane.result c.from_residual-in_err-part_lane.ensures.1 in
    rw (p.1, p.2)
    (inr (
      c.loop-ended.yielded,
      c.loop-ended.done.items,
      c.in-Some.ended,
      c.next.new.self.rest.items,
      sym inv.all ∙ ap (λ (es : List LaneEnd). c.loop-ended.yielded ++ es) steps,
      inv.ran,
      c.in_err-part_lane.ensures.why,
    ))

pub returns-clause-ran : goal.returns-clause-ran
returns-clause-ran c =
    let inv = c.loop-ended.invariant in
    subst (λ (es : List LaneEnd). AllRan es c.loop-ended.done.items)
    (sym (append-nil c.loop-ended.yielded)
    ∙ sym (ap (λ (es : List LaneEnd). c.loop-ended.yielded ++ es)
    (no_items c.loop-ended.ended-iterator.rest.items
    (sym c.loop-ended.ended-iterator.rest.ok.0 ∙ c.in-None.ensures.steps.0)))
    ∙ inv.all)
    inv.ran
