-- What a seat is told where it reads a word, which is no event.
use Rattle.std.specs.Prelude.{ℕ, ◌≡◌, ◌↔◌, List, slice_index, IsSome}
use Rattle.plain_protocol.specs.plain_state.Fits.{AllFit}
use Rattle.core_law.specs.core_events.declared.act.Event.{Event}
use Rattle.core_law.specs.core_events.declared.shape.Shape.{Shape}
use Rattle.core_law.specs.core_events.Views.{Terms}
use Rattle.core_law.specs.core_events.Runs.{AreTerms, Core, History, IsShape}
use Rattle.core_law.specs.core_events.Shows.{shows}
use Rattle.domain_rule.specs.declared.view.SeatView.{SeatView}
use Rattle.domain_rule.specs.Past.{GoesOnFrom}
use Rattle.domain_rule.specs.Rule.{IsTrueOf}
use Rattle.domain_rule.specs.Views.{IsAlone}

module _ {V : Type 0} (fits : List ℕ → Type 0) where
  -- A state that events reach, which go on from those that the view tells. All that the view says is
  -- so of it, and it has w in word i.
  pub record FoundIn (z : Shape) (ts : Terms) (v : SeatView V) (i w : ℕ) : Type 0 where
    pub shape : IsShape z
    pub terms : AreTerms z ts
    pub events : List Event
    pub core : Core
    pub history : History z ts events core
    pub since : GoesOnFrom v.past events
    pub fit : AllFit fits (shows z core)
    pub says : IsTrueOf z core v.core.seat v
    pub word : w ≡ slice_index core.words i

  -- The seat has read w in word i. Its view stays as it was, but that it knows the whole core now
  -- exactly where it is alone.
  pub record HasRead (z : Shape) (ts : Terms) (i w : ℕ) (old new : SeatView V) : Type 0 where
    pub same : new ≡ record old { whole = new.whole }
    pub stays : IsSome old.whole → new.whole ≡ old.whole
    pub knows : IsSome new.whole ↔ IsAlone new
    pub found : FoundIn z ts new i w
