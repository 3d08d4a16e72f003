-- The counter events of the table beside the steps of a counter: which outcome of the
-- table the answer of a step is.
use Rattle.std.specs.Prelude.{ℕ, ◌≡◌, ◌==◌, Bool, List, ◌∷◌, if◌then◌else◌}
use Rattle.announce_slots.specs.counter_word.declared.outcome.Sub.{Sub}
use Rattle.announce_slots.specs.counter_word.declared.outcome.Sub.TheVariants as «sub»
use Rattle.announce_slots.specs.counter_word.declared.outcome.Fin.{Fin}
use Rattle.announce_slots.specs.counter_word.declared.outcome.Fin.TheVariants as «fin»
use Rattle.announce_slots.specs.counter_word.Words.{value}
use Rattle.announce_slots.specs.plain_state.declared.slot.Kind.TheVariants.{Strong}
use Rattle.announce_slots.specs.plain_state.declared.slot.SlotId.{SlotId}
use Rattle.announce_slots.specs.plain_state.Lists.{Entry}
use Rattle.core_events.specs.declared.act.Act.{Act}
use Rattle.core_events.specs.declared.act.Act.TheVariants as act
use Rattle.core_events.specs.declared.outcome.Outcome.{Outcome}
use Rattle.core_events.specs.declared.outcome.Outcome.TheVariants as outcome
use Rattle.core_events.specs.declared.shape.Shape.{Shape}
use Rattle.core_events.specs.declared.view.CoreView.{CoreView}
use Rattle.core_events.specs.Steps.{next, answer}

-- an add tells whether it counted
abbrev pub outcome_of_add : Bool → Outcome
outcome_of_add counted = if counted then outcome.Up else outcome.Dead

-- a subtraction tells whether its caller is to finish
abbrev pub outcome_of_sub : Sub → Outcome
outcome_of_sub «sub».Finish = outcome.Zeroed
outcome_of_sub «sub».Done = outcome.Left

-- a finish tells what it came to
abbrev pub outcome_of_finish : Fin → Outcome
outcome_of_finish «fin».Ended = outcome.Ended
outcome_of_finish «fin».Help = outcome.Help
outcome_of_finish «fin».Lost = outcome.Lost

-- a take of the help flag tells whether it stood
abbrev pub outcome_of_take : Bool → Outcome
outcome_of_take stood = if stood then outcome.Ended else outcome.NoHelp

-- a load tells the value, but of 0 that a mark is to follow
abbrev pub outcome_of_load : ℕ → Outcome
outcome_of_load w = if w == 0 then outcome.Again else outcome.Number (value w)

-- a mark tells the value of the word that it found
abbrev pub outcome_of_mark : ℕ → Outcome
outcome_of_mark w = outcome.Number (value w)

-- where act a finds w it leaves w' and answers o, in every shape and whatever else the seat has
abbrev pub Makes : Act → ℕ → ℕ → Outcome → Type 0
Makes a w w' o =
    ((v : CoreView) → next a v w ≡ w') × ((z : Shape) (v : CoreView) → answer z a w v ≡ o)

-- so does a payment where the first entry that is owed is a strong one
abbrev pub PaysStrong : ℕ → ℕ → Outcome → Type 0
PaysStrong w w' o =
    ((v : CoreView) → next act.Pay v w ≡ w')
    × ((z : Shape) (v : CoreView) (s : SlotId) (es : List Entry)
    → v.owed ≡ (Strong, s) ∷ es → answer z act.Pay w v ≡ o)
