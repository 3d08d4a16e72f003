use Rattle.acquire_retire.specs.core_events.declared.view.CoreView.{CoreView}
use Rattle.control_word.proofs.Owning.{more_owned, some_more}
use Rattle.std.proofs.Common.{ap, ◌∙◌, arith}
use Rattle.control_word.proofs.Gaining.{counted, up}
use Rattle.control_word.proofs.strong_handles.copy_strong.Goals as goal

pub returns-clause-copied : goal.returns-clause-copied
returns-clause-copied g c = (
  c.of.ensures ∙ c.slot-slot.ensures,
  (counted c.args.domain.now c.args.seat.now c.add.new.seat c.args.handle.now.slot
      c.slot-slot.result c.slot-slot.ensures c.add.result c.add.ensures c.requires.rest
      (up c.args.domain.now c.args.seat.now c.add.new.seat c.args.handle.now.slot c.slot-slot.result
      c.slot-slot.ensures c.add.result c.add.ensures c.requires.rest (omega arith))).0,
)

pub returns-clause-owned : goal.returns-clause-owned
returns-clause-owned g c =
    let copied = returns-clause-copied g c in
    some_more c.args.handle.now.slot c.of.result.slot copied.0 c.args.seat.now.view.core.owned
    c.add.new.seat.view.core.owned (ap (λ (v : CoreView). v.owned) copied.1.core)

pub returns-clause-others : goal.returns-clause-others
returns-clause-others g c s =
    let copied = returns-clause-copied g c in
    more_owned s c.args.handle.now.slot c.args.seat.now.view.core.owned
    c.add.new.seat.view.core.owned (ap (λ (v : CoreView). v.owned) copied.1.core)
