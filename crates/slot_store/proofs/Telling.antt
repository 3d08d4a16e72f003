-- What a step tells of the state that it was made in.
use Rattle.std.proofs.Common.{ℕ, ◌<◌, List, arith, subst}
use Rattle.std.proofs.lemmas.Bool.Decides.{nat_tests}
use Rattle.protocol_pairs.specs.plain_state.declared.act.PlainAct.{PlainAct}
use Rattle.protocol_pairs.specs.plain_state.declared.slot.SlotId.{SlotId}
use Rattle.protocol_pairs.specs.plain_state.State.{Plain}
use Rattle.protocol_pairs.specs.plain_protocol.Owns.{HasSlot, OwnPart}
use Rattle.claim_law.specs.core_events.declared.act.Act.{Act}
use Rattle.claim_law.specs.core_events.declared.shape.Shape.{Shape}
use Rattle.claim_law.specs.core_events.declared.view.CoreView.{CoreView}
use Rattle.claim_law.specs.core_events.Shows.{show_seat}
use Rattle.claim_law.specs.core_events.Views.{Holds, Terms}
use Rattle.retiring_stores.specs.domain_rule.declared.view.SeatView.{SeatView}
use Rattle.retiring_stores.specs.domain_rule.Told.{Told}
use Rattle.retiring_stores.proofs.Below.domain_rule_Others.{has_there}
use Rattle.retiring_stores.proofs.Below.control_word_Finding.{sound_before}

-- what a seat holds is a slot of its own part
pub holds_has : (v : CoreView) (s : SlotId) → Holds v s → HasSlot (show_seat v) s
holds_has v s held = grind (arith, nat_tests)

module _ {V : Type 0} {fits : List ℕ → Type 0} {z : Shape} {ts : Terms}
    {next : OwnPart → OwnPart → V → PlainAct → ℕ → V}
    {allows : Plain → Plain → ℕ → V → V → Type 0} {a : Act} {v v' : SeatView V} {w : ℕ}
    (told : Told fits z ts next allows a v w v') where
  -- the slots that the seat has are there
  pub slot_there : (s : SlotId) → HasSlot (show_seat v.core) s → s.0 < z.slots
  slot_there s has =
      has_there z told.happened.before (sound_before told) v.core.seat s told.happened.enabled.0
      (subst (λ (u : CoreView). HasSlot (show_seat u) s) told.happened.view has)
