use Rattle.std.proofs.Common.{◌≡◌, ◌∙◌, ap, arith, Some}
use Rattle.std.proofs.lemmas.Bool.Decides.{nat_tests}
use Rattle.protected_loads.specs.plain_state.declared.slot.SlotId.{SlotId}
use Rattle.protected_loads.proofs.Below.plain_state_Kit.{slot_is}
use Rattle.lone_heap.proofs.words.protects.Goals as goal

pub returns-in-Some : goal.returns-in-Some
returns-in-Some c = (
  λ yes. c.in-Some.is ∙ ap Some (slot_is c.in-Some.held c.args.slot (grind (arith, nat_tests))),
  λ is.
      let same : c.in-Some.held ≡ c.args.slot = cc (c.in-Some.is, is) in
      let number = ap (λ (s : SlotId). s.0) same in grind (arith, nat_tests),
)
