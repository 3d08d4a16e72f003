use Rattle.acquire_retire.specs.core_events.declared.view.CoreView.{CoreView}
use Rattle.control_word.proofs.Owning.{some_more}
use Rattle.std.proofs.Common.{ap, ◌∙◌, arith, subst, sym}
use Rattle.counted_handles.specs.plain_state.declared.slot.SlotId.{SlotId}
use Rattle.acquire_retire.specs.core_events.declared.act.Act.TheVariants as act
use Rattle.acquire_retire.specs.Calls.{IsReady}
use Rattle.control_word.proofs.Gaining.{counted, found_ended}
use Rattle.control_word.proofs.upgrading.upgrade.Goals as goal

pub add-requires-clause-deed : goal.add-requires-clause-deed
add-requires-clause-deed g c =
    subst (λ (s : SlotId). IsReady (g.D.Deed.ready c.args.deed c.args.domain.now.protocol)
    c.args.domain.now.shape (act.Add s) c.args.seat.now.view)
    (sym c.slot-slot.ensures) c.requires.deed

pub returns-in-Up-clause-upgraded : goal.returns-in-Up-clause-upgraded
returns-in-Up-clause-upgraded g c = (
  c.of.ensures ∙ c.slot-slot.ensures,
  (counted c.args.domain.now c.args.seat.now c.add.new.seat c.args.weak.now.slot
      c.slot-slot.result c.slot-slot.ensures c.add.result c.add.ensures c.requires.rest
      c.in-Up.is).0,
)

pub returns-clause-ended : goal.returns-clause-ended
returns-clause-ended g c =
    λ is. (found_ended c.args.domain.now c.args.seat.now c.add.new.seat c.args.weak.now.slot
    c.slot-slot.result c.slot-slot.ensures c.add.result c.add.ensures c.requires.rest
    c.in_default.not-Up (omega arith)).0

pub returns-in-Up-clause-owned : goal.returns-in-Up-clause-owned
returns-in-Up-clause-owned g c =
    let upgraded = returns-in-Up-clause-upgraded g c in
    some_more c.args.weak.now.slot c.of.result.slot upgraded.0 c.args.seat.now.view.core.owned
    c.add.new.seat.view.core.owned (ap (λ (v : CoreView). v.owned) upgraded.1.core)
