use Rattle.std.proofs.Common.{◌≡◌, ◌-◌, ℕ, drop, ap, arith}
use Rattle.plain_state.specs.Lists.{times}
use Rattle.plain_store.proofs.Losing.{none_yet, none_more}
use Rattle.plain_store.proofs.store_hands.index_of.Goals as goal

pub loop-i-init : goal.loop-i-init
loop-i-init c = none_yet c.args.slot c.args.list.now

pub loop-i-preserved : goal.loop-i-preserved
loop-i-preserved c =
    none_more c.args.slot (record { 0 = 0 }) c.args.list.now (c.loop-i.i - 1) c.loop-i.i (omega arith) c.loop-i.invariant (omega arith) c.if-list-i.false

pub returns-clause-none : goal.returns-clause-none
returns-clause-none c =
    let z : c.loop-i.i ≡ 0 = omega arith in
    let all = ap (λ (k : ℕ). times c.args.slot (drop k c.args.list.now)) z in
    omega (arith, c.loop-i.invariant, all)
