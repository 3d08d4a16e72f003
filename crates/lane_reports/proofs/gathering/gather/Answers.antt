use Rattle.std.proofs.Common.{rules, ◌≡◌, ◌+◌, ◌++◌, ◌∷◌, [], refl, sym, ap, subst, ◌∙◌, arith, length, vec_len}
use Rattle.std.specs.List.{sum_by}
use Rattle.std.proofs.lemmas.List.{length-append, length_push}
use Rattle.domain_audit.specs.core_events.declared.view.CoreView.{CoreView}
use Rattle.lane_reports.specs.declared.done.Done.{Done}
use Rattle.lane_reports.specs.Gathering.{EachDid, HasGathered, kept_by}
use Rattle.std.proofs.lemmas.List.Sums.{sum_by-cons}
use Rattle.lane_reports.proofs.Leaving.{core_beside, gathers_after, none_after, ready_after}
use Rattle.lane_reports.proofs.Starting.{alone_after, gathers_none}
use Rattle.lane_reports.proofs.gathering.gather.Goals as goal

pub loop-one-init : goal.loop-one-init
loop-one-init c = record {
  ready = c.requires.ready;
  none = c.requires.bare.none;
  first = c.requires.bare.first;
  did = search rules;
  gathers = subst
      (λ ts. HasGathered c.args.work.now [] c.args.root.now c.args.root.now ts c.in_ok-kept.kept.items)
      (sym c.in_ok-tallies.ensures.items)
      (subst (λ hs. HasGathered c.args.work.now [] c.args.root.now c.args.root.now [] hs)
      (sym c.in_ok-kept.ensures.items)
      (gathers_none c.args.work.now c.args.root.now c.requires.bare));
  left = let e = ap length c.into_iter-one-iterator.ensures.into_iter_gives.0 in omega arith;
  slots = search rules;
  room =
      let all = ap (sum_by (λ (one : Done). length (kept_by one)))
      c.into_iter-one-iterator.ensures.into_iter_gives.0 in
      let same = ap (sum_by (λ (one : Done). length (kept_by one))) c.deref.ensures.value in
      let many = c.in_ok-kept_in.ensures in let none = c.in_ok-kept.ensures.len in
      let size = c.in_ok-kept.ensures.exact in omega arith;
}

pub loop-one-preserved : goal.loop-one-preserved
loop-one-preserved c =
    let inv = c.loop-one.invariant in
    let steps = c.in-Some.ensures.steps.0 in
    let all = subst (EachDid c.args.work.now c.args.domain.now (1 + length c.loop-one.yielded)) steps
    inv.did in
    let root = c.loop-one.root in let seat = c.in-Some.one.seat in let new = c.leave.new.root in
    let n = 1 + length c.loop-one.yielded in
    record {
      ready = ready_after _ c.args.domain.now root seat new c.leave.ensures c.args.shared.now inv.ready
          c.args.work.now n c.in-Some.one.lane all.0;
      none = none_after _ c.args.domain.now root seat new c.leave.ensures inv.none;
      first = ap (λ (v : CoreView). v.seat)
          (core_beside _ c.args.domain.now root seat new c.leave.ensures) ∙ inv.first;
      did = subst (λ k. EachDid c.args.work.now c.args.domain.now k c.next.new.self.rest.items)
          (let l = length_push c.loop-one.yielded c.in-Some.one in omega arith) all.1;
      gathers = subst (λ ts. HasGathered c.args.work.now (c.loop-one.yielded ++ c.in-Some.one ∷ [])
          c.args.root.now new ts c.keep_all.new.kept.items) (sym c.push_reserved.ensures.items)
          (subst (λ hs. HasGathered c.args.work.now (c.loop-one.yielded ++ c.in-Some.one ∷ [])
          c.args.root.now new (c.loop-one.tallies.items ++ c.in-Some.one.lane.tally ∷ []) hs)
          (sym c.keep_all.ensures.kept)
          (gathers_after _ c.args.domain.now root seat new c.leave.ensures c.args.shared.now inv.ready
          c.args.work.now n c.in-Some.one.lane all.0 c.loop-one.yielded c.args.root.now
          c.loop-one.tallies.items c.loop-one.kept.items refl inv.gathers));
      left = let l = ap length steps in let e = length_push c.loop-one.yielded c.in-Some.one in
          let i = inv.left in omega arith;
      slots = let l = ap length steps in let e = c.push_reserved.ensures.len in
          let k = c.push_reserved.ensures.capacity in let i = inv.slots in omega arith;
      room =
          let s = ap (sum_by (λ (one : Done). length (kept_by one))) steps in
          let p = sum_by-cons (λ (one : Done). length (kept_by one)) c.in-Some.one
          c.next.new.self.rest.items in
          let old : vec_len c.loop-one.kept ≡ length c.loop-one.kept.items = search rules in
          let now : vec_len c.keep_all.new.kept ≡ length c.keep_all.new.kept.items = search rules in
          let e = ap length c.keep_all.ensures.kept in
          let a = length-append c.loop-one.kept.items (kept_by c.in-Some.one) in
          let k = c.keep_all.ensures.room in let i = inv.room in omega arith;
    }

pub returns-clause-alone : goal.returns-clause-alone
returns-clause-alone c =
    let inv = c.loop-one.invariant in
    let none = c.in-None.ensures.steps.0 in
    let size = c.loop-one.one-iterator.rest.ok.0 in
    let left = inv.left in
    λ many.
    alone_after c.args.work.now c.loop-one.yielded c.args.root.now c.loop-one.root
    c.loop-one.tallies.items c.loop-one.kept.items c.args.domain.now.shape inv.gathers inv.first
    inv.ready.rest.of_domain.1 (omega (arith, none, size, left, many))
