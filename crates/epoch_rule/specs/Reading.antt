-- What a seat is told where it reads a word, which is no event.
use Rattle.std.specs.Prelude.{ℕ, ◌≡◌, ◌↔◌, List, slice_index, IsSome}
use Rattle.domain_rule.specs.plain_protocol.plain_state.Fits.{AllFit}
use Rattle.epoch_core.specs.core_events.declared.shape.Quota.{Quota}
use Rattle.epoch_core.specs.declared.act.EpochEvent.{EpochEvent}
use Rattle.epoch_core.specs.declared.shape.EpochShape.{EpochShape}
use Rattle.epoch_core.specs.Runs.{AreQuotas, Core, History, IsShape}
use Rattle.epoch_core.specs.Shows.{shows}
use Rattle.epoch_rule.specs.declared.view.EpochSeatView.{EpochSeatView}
use Rattle.epoch_rule.specs.Past.{GoesOnFrom}
use Rattle.epoch_rule.specs.Rule.{IsTrueOf}
use Rattle.epoch_rule.specs.Views.{IsAlone}

module _ {V : Type 0} (fits : List ℕ → Type 0) where
  -- A state that events reach, which go on from those that the view tells. All that the view says is so of it, and it
  -- has w in word i.
  pub record FoundIn (z : EpochShape) (qs : List Quota) (v : EpochSeatView V) (i w : ℕ)
      : Type 0 where
    pub shape : IsShape z
    pub quotas : AreQuotas z qs
    pub events : List EpochEvent
    pub core : Core
    pub history : History z qs events core
    pub since : GoesOnFrom v.past events
    pub fit : AllFit fits (shows z core)
    pub says : IsTrueOf z core v.core.seat v
    pub word : w ≡ slice_index core.words i

  -- The seat has read w in word i. Its view stays as it was, but that it knows the whole core now exactly where it is
  -- alone.
  pub record HasRead (z : EpochShape) (qs : List Quota) (i w : ℕ) (old new : EpochSeatView V)
      : Type 0 where
    pub same : new ≡ record old { whole = new.whole }
    pub stays : IsSome old.whole → new.whole ≡ old.whole
    pub knows : IsSome new.whole ↔ IsAlone new
    pub found : FoundIn z qs new i w
