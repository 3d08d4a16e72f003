-- Walks follow one another.
use Rattle.std.proofs.Common.{◌≡◌, ℕ, List, [], ◌∷◌, ◌++◌, refl, ap, ◌∙◌, subst}
use Rattle.epoch_domain.specs.epoch_core.declared.act.EpochAct.{EpochAct}
use Rattle.epoch_domain.specs.epoch_core.declared.outcome.EpochOutcome.{EpochOutcome}
use Rattle.epoch_domain.specs.epoch_core.declared.view.EpochMove.{EpochMove}
use Rattle.epoch_domain.specs.epoch_core.declared.view.EpochView.{EpochView}
use Rattle.epoch_domain.specs.Calls.{IsSameView, Steps, same_view}
use Rattle.epoch_domain.specs.Domains.{DomainState}
use Rattle.epoch_domain.specs.Seats.{SeatState}
use Rattle.epoch_refs.specs.Flushing.{IsFlushing}
use Rattle.epoch_refs.specs.Walks.{IsAtRest, Walks, move}

module _ {P V : Type 0} (fits : List ℕ → Type 0) (d : DomainState P) where
  pub walks_then : (xs ys : List EpochMove) (a b c : SeatState V) → Walks fits d xs a b
      → Walks fits d ys b c → Walks fits d (xs ++ ys) a c
  walks_then [] ys a b c first second =
      subst (λ (s : SeatState V). Walks fits d ys s c) first second
  walks_then (x ∷ xs) ys a b c first second =
      (first.0, first.1, walks_then xs ys first.0 b c first.2 second)

  -- a walk stays in its table
  pub walks_table : (xs : List EpochMove) (a b : SeatState V) → Walks fits d xs a b
      → b.table ≡ a.table
  walks_table [] a b walk = ap (λ (s : SeatState V). s.table) walk
  walks_table (x ∷ xs) a b walk = walks_table xs walk.0 b walk.2 ∙ walk.1.table

  -- a seat at rest that a part of a flush has left as it was, but for what a flush changes, is at rest
  pub rest_after : (xs : List EpochMove) (a b : SeatState V) → Walks fits d xs a b → IsAtRest d a
      → IsFlushing a.view.core b.view.core → IsAtRest d b
  rest_after xs a b walk rest core = (
    (
      walks_table xs a b walk ∙ rest.0.0,
      ap (λ (v : EpochView). v.shape) core ∙ rest.0.1,
    ),
    (
      ap (λ (v : EpochView). v.phase) core ∙ rest.1.0,
      ap (λ (v : EpochView). v.left) core ∙ rest.1.1,
    ),
  )

  -- one event is a walk
  pub one_step : (a : EpochAct) (o : EpochOutcome) (old new : SeatState V)
      → Steps fits d same_view IsSameView a old new o → Walks fits d (move a o ∷ []) old new
  one_step a o old new step = (new, step, refl)
