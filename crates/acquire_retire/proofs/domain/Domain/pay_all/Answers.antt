use Rattle.std.proofs.Common.{◌+◌, ap, sym, ◌∙◌}
use Rattle.std.specs.Prelude.{if◌then◌else◌}
use Rattle.acquire_retire.proofs.Collects.{is_of_after}
use Rattle.acquire_retire.proofs.Payments.{pays_for_more}
use Rattle.acquire_retire.proofs.domain.Domain.pay_all.Goals as goal
use Rattle.acquire_retire.proofs.domain.Domain.pay_all.Goals.{then-has_ended, else-has_ended}

pub pay_next-requires-clause-seat : goal.pay_next-requires-clause-seat
pay_next-requires-clause-seat g c = is_of_after c.args.self.now _ c.args.seat.now c.loop-entry.seat
    c.requires.seat c.loop-entry.invariant.1.goes

pub loop-entry-preserved : goal.loop-entry-preserved
loop-entry-preserved g c =
    let p = c.pay_next.result in
    let n = c.loop-entry.ended in
    pays_for_more c.args.self.now c.loop-entry._entry n _ p c.args.seat.now c.loop-entry.seat
    c.pay_next.new.seat c.loop-entry.invariant c.pay_next.ensures
    (elim c.if-has_ended.branch [
      | then-has_ended w ↦ w.ended-is
          ∙ sym (ap (λ b. if b then n + 1 else n) (sym c.has_ended.ensures ∙ w.if-has_ended.true))
      | else-has_ended w ↦ w.ended-is
          ∙ sym (ap (λ b. if b then n + 1 else n) (sym c.has_ended.ensures ∙ w.if-has_ended.false))
    ])
