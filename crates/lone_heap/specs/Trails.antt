-- What the trail of a seat shows of a call: moves that stand among others, in their order.
use Rattle.std.specs.Prelude.{ℕ, ◌≡◌, Bool, true, false, List, [], ◌∷◌, ◌++◌, Option, Result, Ok, Err}
use Rattle.protected_loads.specs.plain_state.declared.act.EventPlace.{EventPlace}
use Rattle.protected_loads.specs.plain_state.declared.slot.SlotId.{SlotId}
use Rattle.protected_loads.specs.core_events.declared.act.Act.TheVariants as act
use Rattle.protected_loads.specs.core_events.declared.outcome.Outcome.TheVariants as outcome
use Rattle.protected_loads.specs.core_events.declared.view.CoreView.{CoreView}
use Rattle.protected_loads.specs.core_events.declared.view.Move.{Move}
use Rattle.protected_loads.specs.acquire_retire.Collecting.{move}
use Rattle.protected_loads.specs.counted_handles.Handles.{Handle}

-- the first moves stand among the second ones, in the same order
abbrev pub StandIn : List Move → List Move → Type 0
StandIn [] ms = Unit {0}
StandIn (mark ∷ marks) ms =
    (before : List Move) × (after : List Move) × (ms ≡ before ++ mark ∷ after) × StandIn marks after

-- the trail has gone on by moves, and these stand among them
abbrev pub Shows : List Move → CoreView → CoreView → Type 0
Shows marks v w = (ms : List Move) × (w.trail ≡ v.trail ++ ms) × StandIn marks ms

-- the start of a make that gave a reference
abbrev pub started_by : {E : Type 0} → Result Handle E → List Move
started_by (Ok handle) = move act.Start outcome.Plain ∷ []
started_by (Err error) = []

-- the add of an upgrade of s that gave a reference, and of one that found the zero mark
abbrev pub upgraded : SlotId → List Move
upgraded s = move (act.Add s) outcome.Up ∷ []

abbrev pub found_ended : SlotId → List Move
found_ended s = move (act.Add s) outcome.Dead ∷ []

-- the two counts of the references to s
abbrev pub counted : SlotId → ℕ × ℕ → List Move
counted s n =
    move (act.Count s) (outcome.Number n.0) ∷ move (act.Wcount s) (outcome.Word n.1) ∷ []

-- an exchange of the place, which held `held`
abbrev pub exchanged : EventPlace → Option SlotId → Option SlotId → List Move
exchanged place new held = move (act.Swap place new) (outcome.Found held) ∷ []

-- a compare and exchange that was done, and one that found something else
abbrev pub replaced : EventPlace → Option SlotId → Option SlotId → List Move
replaced place old new = move (act.Cas place old new) outcome.Done ∷ []

abbrev pub lost : EventPlace → Option SlotId → Option SlotId → Option SlotId → List Move
lost place old new found = move (act.Cas place old new) (outcome.LostTo found) ∷ []

-- the trail shows an exchange of the place, whatever it held
abbrev pub ShowsPut : EventPlace → Option SlotId → CoreView → CoreView → Type 0
ShowsPut place new v w = (held : Option SlotId) × Shows (exchanged place new held) v w

-- it shows a compare and exchange that was done, or one that found something else
abbrev pub ShowsTry : EventPlace → Option SlotId → Option SlotId → Bool → CoreView → CoreView
    → Type 0
ShowsTry place old new true v w = Shows (replaced place old new) v w
ShowsTry place old new false v w = (found : Option SlotId) × Shows (lost place old new found) v w
