use Rattle.std.proofs.Common.{refl, ap, arith}
use Rattle.epoch_rule.specs.epoch_core.declared.act.EpochAct.TheVariants as act
use Rattle.epoch_rule.specs.epoch_core.declared.outcome.EpochOutcome.TheVariants as outcome
use Rattle.epoch_domain.proofs.Calls.{call_tells, value_of}
use Rattle.epoch_domain.proofs.Entering.{small}
use Rattle.epoch_domain.proofs.domain.EpochDomain.open_region.Goals as goal

pub overflow_add-epoch : goal.overflow_add-epoch
overflow_add-epoch g c =
    let is = small _ c.args.self.now _ _ c.seat.inside.seat c.load_as-epoch.new.seat
    c.load_as-epoch.result c.load_as-epoch.ensures in
    omega (arith, is)

pub returns : goal.returns
returns g c =
    let mid = value_of c.load_as-epoch.new.seat c.args.seat.now.room in record {
      mid = mid;
      epoch = c.load_as-epoch.result;
      enters = call_tells c.args.self.now _ _ (act.Enter) c.seat.inside.seat
          c.load_as-epoch.new.seat c.load_as-epoch.result c.load_as-epoch.ensures _
          c.args.seat.now.room c.args.seat.now c.seat.view_is (outcome.Epoch c.load_as-epoch.result)
          refl (let same = ap (λ s. s.room) c.seat.view_is in omega (arith, same));
      opens = call_tells c.args.self.now _ _ (act.Open) c.load_as-epoch.new.seat
          c.store_as.new.seat c.store_as.ensures.0 c.store_as.ensures.1 c.args.seat.now.room _ mid
          refl outcome.Plain refl
          (let same = ap (λ s. s.room) c.seat.view_is in omega (arith, same));
    }
