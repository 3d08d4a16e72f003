use Rattle.std.proofs.Common.{sym, ◌∙◌}
use Rattle.epoch_refs.proofs.Payments.{fewer_left, none_so_far, one_so_far}
use Rattle.epoch_refs.proofs.paying.pay_due.Goals as goal

pub loop-paid-init : goal.loop-paid-init
loop-paid-init g c = none_so_far _ c.args.domain.now c.args.seat.now c.requires

pub loop-paid-smaller : goal.loop-paid-smaller
loop-paid-smaller g c =
    fewer_left _ c.args.domain.now c.loop-paid.seat c.pay.new.seat c.pay.result c.pay.ensures.paid
    (sym c.is_some.ensures ∙ c.loop-paid-test.true)

pub loop-paid-preserved : goal.loop-paid-preserved
loop-paid-preserved g c =
    one_so_far _ c.args.domain.now _ _ c.args.seat.now c.loop-paid.seat c.pay.new.seat c.pay.result
    c.loop-paid.invariant c.pay.ensures.paid (sym c.is_some.ensures ∙ c.loop-paid-test.true)
    c.saturating_add-paid.ensures
