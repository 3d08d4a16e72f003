-- What a core shows of its words and of its events.
use Rattle.std.specs.Prelude.{ℕ, ◌≡◌, ◌≢◌, ◌⊎◌, ◌<◌, false, List, [], ◌∷◌}
use Rattle.core_events.specs.plain_state.declared.slot.Kind.TheVariants.{Disposal}
use Rattle.core_events.specs.plain_state.declared.slot.SlotId.{SlotId}
use Rattle.core_events.specs.plain_state.declared.slot.Stage.TheVariants.{Free, Live, Ended}
use Rattle.core_events.specs.plain_state.Lists.{entry_times}
use Rattle.core_events.specs.plain_state.References.{strong_refs, weak_refs}
use Rattle.core_events.specs.plain_state.State.{slot_at, stage_at}
use Rattle.core_events.specs.plain_state.Steps.{Does}
use Rattle.core_events.specs.declared.act.Act.{Act}
use Rattle.core_events.specs.declared.act.Event.{Event}
use Rattle.core_events.specs.declared.shape.Shape.{Shape}
use Rattle.core_events.specs.counter_word.Words.{value}
use Rattle.core_events.specs.Views.{snapshots, Holds, HoldsStrongly}
use Rattle.core_events.specs.Counts.{strong, weak, barers}
use Rattle.core_events.specs.Runs.{Core, view_at, found, after}
use Rattle.core_events.specs.Shows.{shows}
use Rattle.core_events.specs.ShownSteps.{shown_act, shown_number}

-- seat n's act shows exactly its plain step
abbrev pub ShowsStep : Shape → Core → ℕ → Act → Type 0
ShowsStep z c n a =
    Does (shows z c) n (shown_act z a (found z c n a) (view_at c n))
    (shown_number a (found z c n a))
    (shows z (after z c n a))

-- so does each of these events in its turn
abbrev pub AllShow : Shape → Core → List Event → Type 0
AllShow z c [] = Unit {0}
AllShow z c (e ∷ es) = ShowsStep z c e.seat e.act × AllShow z (after z c e.seat e.act) es

-- a slot's words count the references of the plain state that the core shows, but for the own weak reference of a slot
-- that a seat has claimed and not yet armed
abbrev pub CountsShown : Shape → Core → SlotId → Type 0
CountsShown z c s =
    (value (strong z c s) ≡ strong_refs (shows z c) s)
    × ((weak z c s ≡ weak_refs (shows z c) s)
    ⊎ ((weak z c s ≡ 0) × (0 < barers c s) × (weak_refs (shows z c) s ≡ 1)))

-- what a seat holds strongly is live without a zero mark, what it holds at all isn't free, and what is under its weak
-- snapshot isn't destroyed
abbrev pub HeldStays : Shape → Core → ℕ → SlotId → Type 0
HeldStays z c n s =
    (HoldsStrongly (view_at c n) s
    → (stage_at (shows z c) s ≡ Live) × ((slot_at (shows z c) s).marked ≡ false))
    × (Holds (view_at c n) s → stage_at (shows z c) s ≢ Free)
    × (0 < entry_times Disposal s (snapshots (view_at c n))
    → (stage_at (shows z c) s ≡ Live) ⊎ (stage_at (shows z c) s ≡ Ended))
