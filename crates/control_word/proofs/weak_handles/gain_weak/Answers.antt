use Rattle.std.proofs.Common.{ap}
use Rattle.acquire_retire.specs.core_events.declared.view.CoreView.{CoreView}
use Rattle.control_word.proofs.Owning.{some_more}
use Rattle.control_word.proofs.Gaining.{gains_weak}
use Rattle.control_word.proofs.weak_handles.gain_weak.Goals as goal

pub returns-clause-gained : goal.returns-clause-gained
returns-clause-gained g c = (
  c.of.ensures,
  (gains_weak c.args.domain.now c.args.seat.now c.wadd.new.seat c.args.slot c.wadd.result
      c.wadd.ensures c.requires.rest).0,
)

pub returns-clause-owned : goal.returns-clause-owned
returns-clause-owned g c =
    let gained = returns-clause-gained g c in
    some_more c.args.slot c.of.result.slot gained.0 c.args.seat.now.view.core.weaks
    c.wadd.new.seat.view.core.weaks (ap (λ (v : CoreView). v.weaks) gained.1.core)
