-- A region is opened.
use Rattle.std.proofs.Common.{◌≡◌, ℕ, ◌+◌, List, [], ◌∷◌, ◌++◌, append_assoc, refl, ap, sym, ◌∙◌}
use Rattle.epoch_domain.specs.epoch_core.declared.act.EpochAct.TheVariants as act
use Rattle.epoch_domain.specs.epoch_core.declared.outcome.EpochOutcome.{EpochOutcome}
use Rattle.epoch_domain.specs.epoch_core.declared.outcome.EpochOutcome.TheVariants as outcome
use Rattle.epoch_domain.specs.epoch_core.declared.shape.EpochShape.{EpochShape}
use Rattle.epoch_domain.specs.epoch_core.declared.view.EpochPhase.TheVariants as phase
use Rattle.epoch_domain.specs.epoch_core.declared.view.EpochView.{EpochView}
use Rattle.epoch_domain.specs.epoch_core.Steps.{moved}
use Rattle.epoch_domain.specs.epoch_core.Views.{IsIdle}
use Rattle.epoch_domain.specs.Domains.{DomainState}
use Rattle.epoch_domain.specs.Entering.{Opens}
use Rattle.epoch_domain.specs.Seats.{SeatState}
use Rattle.epoch_refs.specs.Calls.{Enters}
use Rattle.epoch_refs.specs.Walks.{move}

-- the view once a region is open
opens : (z : EpochShape) (v : EpochView) (e w : ℕ) → v.phase ≡ phase.Idle
    → moved z act.Open w (moved z act.Enter e v)
    ≡ record v {
      number = e + 1;
      seen = [];
      trail = v.trail ++ move act.Enter (outcome.Epoch e) ∷ move act.Open outcome.Plain ∷ [];
    }
opens z v e w idle =
    let all = append_assoc v.trail (move act.Enter (outcome.Epoch e) ∷ [])
    (move act.Open outcome.Plain ∷ []) in
    λ i. record v { number = e + 1; seen = []; phase = sym idle i; trail = all i }

epoch_in : (e w : ℕ) → ◌≡◌ {A = EpochOutcome} (outcome.Epoch e) (outcome.Epoch w) → e ≡ w
epoch_in e w is = cc (is)

pub entered : {P V : Type 0} (fits : List ℕ → Type 0) (d : DomainState P) (old new : SeatState V)
    → Opens fits d old new → IsIdle old.view.core → Enters fits d old new
entered fits d old new is idle =
    let v = old.view.core in
    let same = epoch_in is.epoch is.enters.word is.enters.answers in record {
      epoch = is.epoch;
      walks = (is.mid, is.enters, (new, is.opens, refl));
      core = is.opens.told.core
          ∙ (ap (moved d.shape act.Open is.opens.word) is.enters.told.core
          ∙ (opens d.shape v is.enters.word is.opens.word idle.0
          ∙ ap (λ (e : ℕ). record v {
            number = e + 1;
            seen = [];
            trail = v.trail ++ move act.Enter (outcome.Epoch e) ∷ move act.Open outcome.Plain ∷ [];
          }) (sym same)));
    }
