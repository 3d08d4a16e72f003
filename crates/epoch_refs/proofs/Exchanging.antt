-- An exchange takes something out of a place, and what it took is dated.
use Rattle.std.proofs.Common.{◌≡◌, ◌≢◌, ℕ, zero, suc, ◌+◌, Bool, true, false, List, refl, ap, sym, ◌∙◌, subst, arith}
use Rattle.std.specs.Prelude.{◌==◌, if◌then◌else◌, Option, Some, None}
use Rattle.std.proofs.lemmas.Bool.Decides.{nat_tests}
use Rattle.epoch_domain.specs.plain_protocol.plain_state.declared.act.EventPlace.{EventPlace}
use Rattle.epoch_domain.specs.plain_protocol.plain_state.declared.act.PlainAct.{PlainAct}
use Rattle.epoch_domain.specs.plain_protocol.plain_state.declared.slot.SlotId.{SlotId}
use Rattle.epoch_domain.specs.plain_protocol.plain_state.State.{Plain}
use Rattle.epoch_domain.specs.plain_protocol.plain_state.Steps.{word_of}
use Rattle.epoch_domain.specs.plain_protocol.Owns.{OwnPart}
use Rattle.epoch_domain.specs.epoch_core.core_events.Words.{slot_in}
use Rattle.epoch_domain.specs.epoch_core.declared.act.EpochAct.{EpochAct}
use Rattle.epoch_domain.specs.epoch_core.declared.act.EpochAct.TheVariants as act
use Rattle.epoch_domain.specs.epoch_core.declared.outcome.EpochOutcome.{EpochOutcome}
use Rattle.epoch_domain.specs.epoch_core.declared.outcome.EpochOutcome.TheVariants as outcome
use Rattle.epoch_domain.specs.epoch_core.declared.shape.EpochShape.{EpochShape}
use Rattle.epoch_domain.specs.epoch_core.declared.view.EpochPhase.TheVariants as phase
use Rattle.epoch_domain.specs.epoch_core.declared.view.EpochView.{EpochView}
use Rattle.epoch_domain.specs.epoch_core.Steps.{gave, moved, noted, took}
use Rattle.epoch_domain.specs.Calls.{Steps}
use Rattle.epoch_domain.specs.Domains.{DomainState}
use Rattle.epoch_domain.specs.Exchanging.{phase_taking}
use Rattle.epoch_domain.specs.Seats.{SeatState}

-- a word that a content is spelled by spells it
pub spelled : (o : Option SlotId) → slot_in (word_of o) ≡ o
spelled None = refl
spelled (Some s) = more s.0
  where
    more : (n : ℕ) → slot_in (n + 1) ≡ Some (record { 0 = n })
    more n = grind (arith, nat_tests)

pub word_back : (w : ℕ) → word_of (slot_in w) ≡ w
word_back zero = refl
word_back (suc n) = grind (arith, nat_tests)

-- the same step, told of an act and an answer that are other names of its own
pub renamed : {P V : Type 0} {fits : List ℕ → Type 0} {d : DomainState P}
    {next_view : OwnPart → OwnPart → V → PlainAct → ℕ → V}
    {allows : Plain → Plain → ℕ → V → V → Type 0} {a b : EpochAct} {old new : SeatState V}
    {o p : EpochOutcome} → Steps fits d next_view allows a old new o → a ≡ b → o ≡ p
    → Steps fits d next_view allows b old new p
renamed {fits = fits} {d = d} {next_view = next_view} {allows = allows} {old = old} {new = new} step acts says =
    subst (λ (x : EpochAct × EpochOutcome). Steps fits d next_view allows x.0 old new x.1)
    (λ i. (acts i, says i)) step

-- the phase once a content was taken
took_phase : (v : EpochView) → v.phase ≡ phase.Idle → (a : EpochAct) (o : EpochOutcome)
    → (c new : Option SlotId)
    → (noted a o (took c (gave new v))).phase ≡ phase_taking c
took_phase v idle a o None None = idle
took_phase v idle a o None (Some s) = idle
took_phase v idle a o (Some x) None = refl
took_phase v idle a o (Some x) (Some s) = refl

gave_left : (v : EpochView) → v.left ≡ false → (a : EpochAct) (o : EpochOutcome)
    → (c new : Option SlotId) → (noted a o (took c (gave new v))).left ≡ false
gave_left v here a o None None = here
gave_left v here a o None (Some s) = here
gave_left v here a o (Some x) None = here
gave_left v here a o (Some x) (Some s) = here

found_is : (a b : Option SlotId) → ◌≡◌ {A = EpochOutcome} (outcome.Found a) (outcome.Found b) → a ≡ b
found_is a b is = cc (is)

module _ (z : EpochShape) (v : EpochView) (idle : v.phase ≡ phase.Idle) (here : v.left ≡ false)
    (w : ℕ) where
  pub swapped : (p : EventPlace) (new held : Option SlotId) (u : EpochView)
      → u ≡ moved z (act.Swap p new) w v
      → ◌≡◌ {A = EpochOutcome} (outcome.Found held) (outcome.Found (slot_in w))
      → (u.phase ≡ phase_taking held) × (u.left ≡ false)
  swapped p new held u is answers = (
    ap (λ (x : EpochView). x.phase) is
        ∙ (took_phase v idle (act.Swap p new) (outcome.Found (slot_in w)) (slot_in w) new
        ∙ ap phase_taking (sym (found_is held (slot_in w) answers))),
    ap (λ (x : EpochView). x.left) is
        ∙ gave_left v here (act.Swap p new) (outcome.Found (slot_in w)) (slot_in w) new,
  )

module _ (w : ℕ) (old : Option SlotId) where
  abbrev said : EpochOutcome
  said = if w == word_of old then outcome.Done else outcome.LostTo (slot_in w)

  -- an exchange that lost found another word
  pub lost_word : (held : Option SlotId) → outcome.LostTo held ≡ said
      → (w ≢ word_of old) × (held ≡ slot_in w)
  lost_word held is = go (w == word_of old) refl
    where
      go : (b : Bool) → (w == word_of old) ≡ b → (w ≢ word_of old) × (held ≡ slot_in w)
      go true same =
          let wrong : outcome.LostTo held ≡ outcome.Done =
          is ∙ ap (λ (b : Bool). if b then outcome.Done else outcome.LostTo (slot_in w)) same in
          absurd (cc (wrong))
      go false other =
          let lost : outcome.LostTo held ≡ outcome.LostTo (slot_in w) =
          is ∙ ap (λ (b : Bool). if b then outcome.Done else outcome.LostTo (slot_in w)) other in
          ((λ same. absurd (grind (arith, nat_tests))), cc (lost))
