use Rattle.std.proofs.Common.{rules, ◌≡◌, ◌+◌, ◌++◌, ◌∷◌, [], List, sym, ap, subst, ◌∙◌, append_assoc, arith, length, vec_len}
use Rattle.std.specs.List.{sum_by}
use Rattle.std.proofs.lemmas.List.{length-append, length_push}
use Rattle.std.proofs.lemmas.List.Sums.{sum_by-cons}
use Rattle.cell_gathering.specs.declared.done.Done.{Done}
use Rattle.cell_gathering.specs.Gathering.{kept_by}
use Rattle.cell_gathering.proofs.Alone.{all_gathered, next_ran, none_more}
use Rattle.cell_gathering.proofs.Leaving.{ready_after, taken_more}
use Rattle.cell_gathering.proofs.Taken.{HasTaken, taken_none}
use Rattle.cell_gathering.proofs.gathering.gather.Goals as goal

pub loop-one-init : goal.loop-one-init
loop-one-init c = record {
  taken = subst
      (λ ts. HasTaken c.args.domain.now c.args.work.now (length c.args.done.items) 0 []
      c.args.root.now ts c.in_ok-kept.kept.items)
      (sym c.in_ok-tallies.ensures.items)
      (subst (λ hs. HasTaken c.args.domain.now c.args.work.now (length c.args.done.items) 0 []
      c.args.root.now [] hs)
      (sym c.in_ok-kept.ensures.items)
      (taken_none c.args.domain.now c.args.work.now (length c.args.done.items) c.args.root.now
      c.requires.bare));
  all = c.into_iter-one-iterator.ensures.into_iter_gives.0;
  slots = search rules;
  room =
      let all = ap (sum_by (λ (one : Done). length (kept_by one)))
      c.into_iter-one-iterator.ensures.into_iter_gives.0 in
      let same = ap (sum_by (λ (one : Done). length (kept_by one))) c.deref.ensures.value in
      let many = c.in_ok-kept_in.ensures in let none = c.in_ok-kept.ensures.len in
      let size = c.in_ok-kept.ensures.exact in omega arith;
}

pub loop-one-preserved : goal.loop-one-preserved
loop-one-preserved c =
    let inv = c.loop-one.invariant in
    let d = c.args.domain.now in let work = c.args.work.now in let all = c.args.done.items in
    let before = c.loop-one.yielded in let one = c.in-Some.one in
    let rest = c.next.new.self.rest.items in
    let root = c.loop-one.root in let new = c.e_leave.new.root in
    let steps = c.in-Some.ensures.steps.0 in
    let is = ap (λ (xs : List Done). before ++ xs) (sym steps) ∙ inv.all in
    let ready = ready_after _ d root one new c.e_leave.ensures.left inv.taken.ready
    (c.e_leave.ensures.free inv.taken.ready.free) in
    let taken = taken_more _ d root one new c.e_leave.ensures.left work (length all) (length before)
    (next_ran d work all before rest one c.requires.ran is) before c.loop-one.tallies.items
    c.loop-one.kept.items inv.taken ready in
    record {
      taken = subst (λ k. HasTaken d work (length all) k (before ++ one ∷ []) new
          c.push_reserved.new.self.items c.keep_all.new.kept.items) (sym (length_push before one))
          (subst (λ ts. HasTaken d work (length all) (length before + 1) (before ++ one ∷ []) new
          ts c.keep_all.new.kept.items) (sym c.push_reserved.ensures.items)
          (subst (λ hs. HasTaken d work (length all) (length before + 1) (before ++ one ∷ []) new
          (c.loop-one.tallies.items ++ one.lane.tally ∷ []) hs) (sym c.keep_all.ensures.kept)
          taken));
      all = append_assoc before (one ∷ []) rest ∙ is;
      slots = let l = ap length steps in let e = c.push_reserved.ensures.len in
          let k = c.push_reserved.ensures.capacity in let i = inv.slots in omega arith;
      room =
          let s = ap (sum_by (λ (one : Done). length (kept_by one))) steps in
          let p = sum_by-cons (λ (one : Done). length (kept_by one)) one rest in
          let old : vec_len c.loop-one.kept ≡ length c.loop-one.kept.items = search rules in
          let now : vec_len c.keep_all.new.kept ≡ length c.keep_all.new.kept.items = search rules in
          let e = ap length c.keep_all.ensures.kept in
          let a = length-append c.loop-one.kept.items (kept_by one) in
          let k = c.keep_all.ensures.room in let i = inv.room in omega arith;
    }

pub returns-clause-gathers : goal.returns-clause-gathers
returns-clause-gathers c =
    let inv = c.loop-one.invariant in
    let d = c.args.domain.now in let work = c.args.work.now in let all = c.args.done.items in
    let before = c.loop-one.yielded in
    let none = c.in-None.ensures.steps.0 in let size = c.loop-one.one-iterator.rest.ok.0 in
    let same = none_more all before c.loop-one.one-iterator.rest.items inv.all
    (omega (arith, none, size)) in
    all_gathered d work all c.loop-one.root c.loop-one.tallies.items c.loop-one.kept.items
    c.requires.ran.some c.requires.ran.seats
    (subst (λ xs. HasTaken d work (length all) (length xs) xs c.loop-one.root
    c.loop-one.tallies.items c.loop-one.kept.items) same inv.taken)
