-- Which steps of the plain state each event shows: none, one, or several in turn.
use Rattle.std.specs.Prelude.{ℕ, ◌≡◌, ◌==◌, List, [], ◌∷◌, map, Option, Some, None, if◌then◌else◌}
use Rattle.core_law.specs.plain_state.declared.act.EventPlace.{EventPlace}
use Rattle.core_law.specs.plain_state.declared.act.EventPlace.TheVariants.{Field}
use Rattle.core_law.specs.plain_state.declared.act.PlainAct.{PlainAct}
use Rattle.core_law.specs.plain_state.declared.act.PlainAct.TheVariants as plain
use Rattle.core_law.specs.plain_state.declared.slot.Kind.TheVariants.{Strong}
use Rattle.core_law.specs.plain_state.declared.slot.SlotId.{SlotId}
use Rattle.core_law.specs.plain_state.State.{Plain}
use Rattle.core_law.specs.plain_state.Steps.{Does}
use Rattle.core_law.specs.core_events.Words.{slot_in}
use Rattle.epoch_core.specs.declared.act.EpochAct.{EpochAct}
use Rattle.epoch_core.specs.declared.act.EpochAct.TheVariants as act
use Rattle.epoch_core.specs.declared.view.EpochView.{EpochView}
use Rattle.epoch_core.specs.Views.{slot_of}
use Rattle.epoch_core.specs.Words.{free_word}

-- a plain step, and the number that it finds: the word of a place, and else 0
abbrev pub PlainStep : Type 0
PlainStep = PlainAct × ℕ

abbrev pub step : PlainAct → PlainStep
step a = (a, 0)

abbrev pub on_place : PlainAct → ℕ → PlainStep
on_place a w = (a, w)

-- a step on a slot, where there is one
abbrev pub on_slot : (SlotId → PlainAct) → Option SlotId → List PlainStep
on_slot f None = []
on_slot f (Some s) = step (f s) ∷ []

-- the object in s ends where its count word was w, so that its last reference was given up
abbrev pub ends_with : ℕ → SlotId → List PlainStep
ends_with w s = if w == 1 then step (plain.End s) ∷ [] else []

-- a snapshot of the slot that a look found, if it found one
abbrev pub seen_in : EventPlace → ℕ → Option SlotId → List PlainStep
seen_in p w None = []
seen_in p w (Some s) = on_place (plain.Check 0 p) w ∷ []

-- The plain steps that an event shows, where it finds w. A look is followed by a snapshot of the slot that it finds,
-- and an exit ends all snapshots of the region. Events on the epoch, and on a region word but for an exit, show
-- nothing.
abbrev pub shown_steps : EpochAct → ℕ → EpochView → List PlainStep
shown_steps (act.Claim s) w v = if w == free_word then step (plain.Claim s) ∷ [] else []
shown_steps (act.Fill i x) w v = on_slot (λ s. plain.Fill s i x) (slot_of v.phase)
shown_steps act.Start w v = on_slot plain.Make (slot_of v.phase)
shown_steps (act.See s i) w v = step (plain.See s i) ∷ []
shown_steps (act.Add s) w v = step (plain.Add s) ∷ []
shown_steps (act.Drop s) w v = step (plain.Drop s) ∷ ends_with w s
shown_steps (act.Pay d) w v = step (plain.Eject Strong d.slot) ∷ ends_with w d.slot
shown_steps (act.Free s) w v = step (plain.Destroy s) ∷ step (plain.Give s) ∷ []
shown_steps (act.Look p) w v = on_place (plain.Look p) w ∷ seen_in p w (slot_in w)
shown_steps (act.Swap p new) w v = on_place (plain.Replace p new) w ∷ []
shown_steps (act.Cas p old new) w v = on_place (plain.TryReplace p old new) w ∷ []
shown_steps (act.Clear s i) w v = on_place (plain.Clear (Field s i)) w ∷ []
shown_steps act.Exit w v = map (λ (s : SlotId). step (plain.EndSnapshot Strong s)) v.seen
shown_steps (act.Leave j) w v = step (plain.Leave j) ∷ []
shown_steps a w v = []

-- these steps of seat n, in turn, lead from p to q
abbrev pub Chain : ℕ → Plain → List PlainStep → Plain → Type 0
Chain n p [] q = q ≡ p
Chain n p (a ∷ rest) q = (mid : Plain) × Does p n a.0 a.1 mid × Chain n mid rest q
