-- What a phase has of a slot, and which phases are neither an entry nor a scan.
use Rattle.std.proofs.Common.{◌≡◌, refl, sym, ◌∙◌}
use Rattle.core_law.specs.plain_state.declared.slot.SlotId.{SlotId}
use Rattle.core_law.specs.core_events.Counts.{one}
use Rattle.epoch_core.specs.declared.view.EpochPhase.{EpochPhase}
use Rattle.epoch_core.specs.declared.view.EpochPhase.TheVariants as phase
use Rattle.epoch_core.specs.Counts.{filling, undated}
use Rattle.epoch_core.proofs.Quiet.{IsQuiet}

pub quiet_idle : (p : EpochPhase) → p ≡ phase.Idle → IsQuiet p
quiet_idle p is = record {
  not_entering = λ x e. let no : phase.Entering x ≡ phase.Idle = sym e ∙ is in absurd cc;
  not_scanning = λ w e. let no : phase.Scan w ≡ phase.Idle = sym e ∙ is in absurd cc;
}

pub quiet_blank : (p : EpochPhase) (s : SlotId) → p ≡ phase.Blank s → IsQuiet p
quiet_blank p s is = record {
  not_entering = λ x e. let no : phase.Entering x ≡ phase.Blank s = sym e ∙ is in absurd cc;
  not_scanning = λ w e. let no : phase.Scan w ≡ phase.Blank s = sym e ∙ is in absurd cc;
}

pub quiet_undated : (p : EpochPhase) (s : SlotId) → p ≡ phase.Undated s → IsQuiet p
quiet_undated p s is = record {
  not_entering = λ x e. let no : phase.Entering x ≡ phase.Undated s = sym e ∙ is in absurd cc;
  not_scanning = λ w e. let no : phase.Scan w ≡ phase.Undated s = sym e ∙ is in absurd cc;
}

-- what a phase has of a slot
pub in_idle : (p : EpochPhase) (s : SlotId) → p ≡ phase.Idle → (undated s p ≡ 0) × (filling s p ≡ 0)
in_idle p s is = rw is (refl, refl)

pub in_blank : (p : EpochPhase) (x s : SlotId) → p ≡ phase.Blank s
    → (undated x p ≡ 0) × (filling x p ≡ one x s)
in_blank p x s is = rw is (refl, refl)

pub in_undated : (p : EpochPhase) (x s : SlotId) → p ≡ phase.Undated s
    → (undated x p ≡ one x s) × (filling x p ≡ 0)
in_undated p x s is = rw is (refl, refl)

-- a seat that fills or dates hasn't left
pub not_idle_blank : (p : EpochPhase) (s : SlotId) → p ≡ phase.Blank s → p ≡ phase.Idle → ⊥
not_idle_blank p s is e = let no : phase.Blank s ≡ phase.Idle = sym is ∙ e in absurd cc
