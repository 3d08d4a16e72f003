use Rattle.std.proofs.Common.{subst}
use Rattle.epoch_domain.specs.epoch_rule.declared.view.EpochSeatView.{EpochSeatView}
use Rattle.epoch_refs.specs.Flushing.{IsFlushing}
use Rattle.epoch_refs.proofs.Payments.{flushing_then}
use Rattle.epoch_refs.proofs.flushing.flush.Goals as goal

pub returns-clause-flushed : goal.returns-clause-flushed
returns-clause-flushed g c =
    let swept = c.sweep.ensures.swept in
    let pays = c.pay_due-paid.ensures.pays in
    let ended = c.destroy_all-weight.ensures.destroys in
    let from_old : IsFlushing c.args.seat.now.view.core c.sweep.new.seat.view.core =
    subst (λ (v : EpochSeatView _). IsFlushing v.core c.sweep.new.seat.view.core)
    c.reserve.ensures.same.1 swept.core in
    let given = flushing_then c.args.seat.now.view.core c.sweep.new.seat.view.core
    c.pay_due-paid.new.seat.view.core from_old pays.2.core in
    record {
      ready = c.reserve.new.seat;
      swept = c.sweep.new.seat;
      given = c.pay_due-paid.new.seat;
      entries = pays.0;
      ended = ended.0;
      reserved = c.reserve.ensures.same;
      sweeps = swept;
      pays = pays.2;
      none_due = c.pay_due-paid.ensures.none;
      destroys = ended.2;
      none_dying = c.destroy_all-weight.ensures.none;
      core = flushing_then c.args.seat.now.view.core c.pay_due-paid.new.seat.view.core
          c.destroy_all-weight.new.seat.view.core given c.destroy_all-weight.ensures.core;
      epoch = c.known.ensures;
      paid = pays.1;
      weight = ended.1;
    }
