-- How a slot came to stand in a strong cell.
use Rattle.std.specs.Prelude.{ℕ, ◌≡◌, List, [], ◌∷◌, Some}
use Rattle.core_promises.specs.plain_state.declared.act.EventPlace.TheVariants.{Cell}
use Rattle.core_promises.specs.plain_state.declared.act.PlainAct.{PlainAct}
use Rattle.core_promises.specs.plain_state.declared.act.PlainAct.TheVariants as plain
use Rattle.core_promises.specs.plain_state.declared.slot.SlotId.{SlotId}
use Rattle.core_promises.specs.plain_state.Places.{content}
use Rattle.core_promises.specs.plain_state.State.{Plain, slot_at}
use Rattle.core_promises.specs.core_events.declared.act.Act.{Act}
use Rattle.core_promises.specs.core_events.declared.act.Event.{Event}
use Rattle.core_promises.specs.core_events.declared.shape.Shape.{Shape}
use Rattle.core_promises.specs.core_events.Runs.{Core, Step, after, found, view_at}
use Rattle.core_promises.specs.core_events.Shows.{shows}
use Rattle.core_promises.specs.core_events.ShownSteps.{shown_act}
use Rattle.core_promises.specs.core_events.Views.{Terms}
use Rattle.core_promises.specs.Trails.{HasEvent}

module _ (cell : ℕ) (s : SlotId) where
  -- the cell holds s, whose object has this payload
  abbrev pub HoldsAs : List ℕ → Plain → Type 0
  HoldsAs payload p = (content p (Cell cell) ≡ Some s) × ((slot_at p s).payload ≡ payload)

  -- from the state p the step puts s into the cell: it exchanges the content for s, whatever that is,
  -- or where it is what was expected
  abbrev pub Puts : Plain → PlainAct → Type 0
  Puts p (plain.Replace place new) = (place ≡ Cell cell) × (new ≡ Some s)
  Puts p (plain.TryReplace place old new) =
      (place ≡ Cell cell) × (new ≡ Some s) × (content p place ≡ old)
  Puts p _ = ⊥

-- These events, the latest first, lead from the core b to the core c. Of whatever the cores on the way
-- show, b and c among them, this is so.
abbrev pub LeadsAlong : Shape → (Plain → Type 0) → Core → List Event → Core → Type 0
LeadsAlong z Fact b [] c = (c ≡ b) × Fact (shows z c)
LeadsAlong z Fact b (e ∷ es) c =
    (d : Core) × LeadsAlong z Fact b es d × Step z d e.seat e.act c × Fact (shows z c)

-- Among the events that led to the core c, the latest first, one put s into the cell, where its object
-- had this payload. From then on the cell has held s, and the object has had that payload.
pub record WasPut (z : Shape) (ts : Terms) (events : List Event) (c : Core) (cell : ℕ) (s : SlotId)
    (payload : List ℕ) : Type 0 where
  pub seat : ℕ
  pub act : Act
  pub event : HasEvent z ts events seat act
  pub puts :
      Puts cell s (shows z event.core)
      (shown_act z act (found z event.core seat act) (view_at event.core seat))
  pub had : (slot_at (shows z event.core) s).payload ≡ payload
  pub stays :
      LeadsAlong z (HoldsAs cell s payload) (after z event.core seat act) event.since c
