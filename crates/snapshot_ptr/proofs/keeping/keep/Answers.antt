use Rattle.std.proofs.Common.{ap, ◌∙◌, ◌++◌, ◌∷◌, [], arith, subst, sym}
use Rattle.protected_loads.specs.core_events.declared.view.CoreView.{CoreView}
use Rattle.protected_loads.specs.core_events.declared.act.Act.TheVariants as act
use Rattle.protected_loads.specs.core_events.declared.outcome.Outcome.TheVariants as outcome
use Rattle.protected_loads.specs.core_events.Views.{Holds}
use Rattle.protected_loads.specs.acquire_retire.Collecting.{move}
use Rattle.protected_loads.proofs.Below.control_word_Gaining.{counted, up}
use Rattle.protected_loads.proofs.Below.control_word_Owning.{some_more}
use Rattle.snapshot_ptr.specs.Handles.{StaysUnder}
use Rattle.snapshot_ptr.proofs.Staying.{stays_with_strong}
use Rattle.snapshot_ptr.proofs.Under.{has_strongly}
use Rattle.snapshot_ptr.proofs.keeping.keep.Goals as goal

pub add-requires-clause-may : goal.add-requires-clause-may
add-requires-clause-may g c =
    let strongly = has_strongly c.args.snapshot.now c.args.seat.now.view.core c.requires.under in
    let holds : Holds c.args.seat.now.view.core c.args.snapshot.now.slot = omega arith in (
      (c.requires.rest.idle),
      omega arith,
      subst (Holds c.args.seat.now.view.core) (sym c.slot-slot.ensures) holds,
    )

pub returns-clause-kept : goal.returns-clause-kept
returns-clause-kept g c = (
  c.of.ensures ∙ c.slot-slot.ensures,
  (counted c.args.domain.now c.args.seat.now c.add.new.seat c.args.snapshot.now.slot
      c.slot-slot.result c.slot-slot.ensures c.add.result c.add.ensures c.requires.rest
      (up c.args.domain.now c.args.seat.now c.add.new.seat c.args.snapshot.now.slot
      c.slot-slot.result c.slot-slot.ensures c.add.result c.add.ensures c.requires.rest
      (has_strongly c.args.snapshot.now c.args.seat.now.view.core c.requires.under))).0,
)

pub returns-clause-owned : goal.returns-clause-owned
returns-clause-owned g c =
    let kept = returns-clause-kept g c in
    some_more c.args.snapshot.now.slot c.of.result.slot kept.0 c.args.seat.now.view.core.owned
    c.add.new.seat.view.core.owned (ap (λ (v : CoreView). v.owned) kept.1.core)

pub returns-clause-under : goal.returns-clause-under
returns-clause-under g c =
    let kept = returns-clause-kept g c in
    subst (StaysUnder c.args.seat.now.view.core) (sym kept.1.core)
    (stays_with_strong c.args.seat.now.view.core
    (c.args.seat.now.view.core.trail ++ move (act.Add c.args.snapshot.now.slot) outcome.Up ∷ [])
    c.args.snapshot.now.slot)
