-- What a call of one step or of several does, move by move, and what it leaves of the seat.
use Rattle.std.specs.Prelude.{ℕ, ◌≡◌, List, [], ◌∷◌, ◌++◌}
use Rattle.counted_handles.specs.plain_state.declared.act.PlainAct.{PlainAct}
use Rattle.counted_handles.specs.plain_state.declared.slot.SlotId.{SlotId}
use Rattle.counted_handles.specs.plain_state.State.{Plain}
use Rattle.acquire_retire.specs.plain_protocol.Owns.{HasSlot, OwnPart}
use Rattle.acquire_retire.specs.core_events.declared.view.CoreView.{CoreView}
use Rattle.acquire_retire.specs.core_events.declared.view.Move.{Move}
use Rattle.acquire_retire.specs.core_events.Runs.{Core}
use Rattle.acquire_retire.specs.core_events.Shows.{show_seat}
use Rattle.acquire_retire.specs.domain_rule.Views.{object_in}
use Rattle.acquire_retire.specs.Collecting.{WalksBy}
use Rattle.acquire_retire.specs.Domains.{DomainState}
use Rattle.acquire_retire.specs.Seats.{SeatState}

module _ {P V : Type 0} (fits : List ℕ → Type 0) (d : DomainState P)
    (next : OwnPart → OwnPart → V → PlainAct → ℕ → V)
    (allows : Plain → Plain → ℕ → V → V → Type 0) where
  -- By these moves the seat came to have v. They stand in its trail, and which fields it has left
  -- null is as before.
  pub record Becomes (ms : List Move) (v : CoreView) (old new : SeatState V) : Type 0 where
    pub walks : WalksBy fits d next allows ms old new
    pub core : new.view.core ≡ record v { trail = old.view.core.trail ++ ms }
    pub cleared : new.view.cleared ≡ old.view.cleared

  -- the state of the core in which the last move of a walk was made
  abbrev pub core_at_last : (ms : List Move) (old new : SeatState V)
      → WalksBy fits d next allows ms old new → Core
  core_at_last [] old new walks = record { words = []; views = [] }
  core_at_last (m ∷ []) old new walks = walks.1.told.happened.before
  core_at_last (m ∷ (k ∷ ms)) old new walks = core_at_last (k ∷ ms) walks.0 new walks.2

-- the same, of the moves by which a seat came to have what it has
abbrev pub last_core : {P V : Type 0} {fits : List ℕ → Type 0} {d : DomainState P}
    {next : OwnPart → OwnPart → V → PlainAct → ℕ → V}
    {allows : Plain → Plain → ℕ → V → V → Type 0} {ms : List Move} {v : CoreView}
    {old new : SeatState V} → Becomes fits d next allows ms v old new → Core
last_core {fits = fits} {d = d} {next = next} {allows = allows} {ms = ms} {old = old} {new = new} by =
    core_at_last fits d next allows ms old new by.walks

-- of the objects of the slots that it has by v, the seat knows what it knew
abbrev pub KnowsStill : {V : Type 0} → CoreView → SeatState V → SeatState V → Type 0
KnowsStill v old new =
    (s : SlotId) → HasSlot (show_seat v) s → object_in new.view s ≡ object_in old.view s
