-- That a call lost a race for a cell, and why a call ran out of adds.
use Rattle.std.specs.Prelude.{ℕ, ◌≡◌, ◌⊎◌, ◌+◌, ◌≤◌, List, [], ◌∷◌, ◌++◌, Some, None}
use Rattle.atomic_weak.specs.plain_state.declared.act.EventPlace.TheVariants.{WeakCell}
use Rattle.atomic_weak.specs.plain_state.declared.slot.SlotId.{SlotId}
use Rattle.atomic_weak.specs.core_events.declared.act.Act.TheVariants as act
use Rattle.atomic_weak.specs.core_events.declared.outcome.Outcome.TheVariants as outcome
use Rattle.atomic_weak.specs.core_events.declared.view.CoreView.{CoreView}
use Rattle.atomic_weak.specs.core_events.declared.view.Move.{Move}
use Rattle.atomic_weak.specs.acquire_retire.Collecting.{move}

-- a weak reference to s was counted, and weak cell i, which was to be null, held another slot
abbrev pub missed_by : ℕ → SlotId → SlotId → List Move
missed_by i s now =
    move (act.Wadd s) outcome.Plain
    ∷ move (act.Cas (WeakCell i) None (Some s)) (outcome.LostTo (Some now)) ∷ []

-- a seat did so, and then went on
abbrev pub MissesCell : ℕ → SlotId → CoreView → CoreView → Type 0
MissesCell i s v w =
    (now : SlotId) × (later : List Move) × (w.trail ≡ v.trail ++ (missed_by i s now ++ later))

-- A seat looked at weak cell i, which was null, and missed it at once: the cell showed null and then
-- another word, and no step of the seat changed it between.
pub record LosesRace (v w : CoreView) : Type 0 where
  pub cell : ℕ
  pub slot : SlotId
  pub now : SlotId
  pub earlier : List Move
  pub later : List Move
  pub trail :
      w.trail
      ≡ v.trail
      ++ (earlier
      ++ (move (act.Look (WeakCell cell)) (outcome.Found None) ∷ missed_by cell slot now ++ later))

-- why a call has run out of adds: at most n were left at its entry, or it lost a race
abbrev pub IsWhyShort : ℕ → CoreView → CoreView → Type 0
IsWhyShort n v w = (v.quota.adds ≤ v.adds + n) ⊎ LosesRace v w
