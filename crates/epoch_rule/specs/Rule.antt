-- The rule of the table of a domain under epochs: its words and its views have a history, what each view says is so,
-- the payloads of all objects fit, and the client's law holds.
use Rattle.std.specs.Prelude.{ℕ, ◌≡◌, ◌-◌, ◌<◌, ◌≤◌, true, false, List, ◌++◌, length, map, slice_index, Some}
use Rattle.std.specs.Bool.{MatchBool}
use Rattle.std.specs.List.{range_with_len}
use mathlib.Core.Option.{some}
use lib.ListN.{get_elem?}
use Rattle.atomic_table.specs.Table.{State}
use Rattle.domain_rule.specs.plain_protocol.plain_state.declared.act.EventPlace.{EventPlace}
use Rattle.domain_rule.specs.plain_protocol.plain_state.declared.act.EventPlace.TheVariants.{Cell, Field, WeakCell, WeakField}
use Rattle.domain_rule.specs.plain_protocol.plain_state.declared.slot.SlotId.{SlotId}
use Rattle.domain_rule.specs.plain_protocol.plain_state.Lists.{times}
use Rattle.domain_rule.specs.plain_protocol.plain_state.Fits.{AllFit}
use Rattle.domain_rule.specs.plain_protocol.plain_state.State.{Plain, slot_at}
use Rattle.domain_rule.specs.plain_protocol.Owns.{HasSlot, object_of}
use Rattle.domain_rule.specs.Views.{Stands}
use Rattle.epoch_core.specs.core_events.declared.shape.Quota.{Quota}
use Rattle.epoch_core.specs.declared.act.EpochEvent.{EpochEvent}
use Rattle.epoch_core.specs.declared.shape.EpochShape.{EpochShape}
use Rattle.epoch_core.specs.declared.view.EpochView.{EpochView}
use Rattle.epoch_core.specs.Words.{field_at}
use Rattle.epoch_core.specs.Runs.{AreQuotas, Core, History, IsShape, view_at}
use Rattle.epoch_core.specs.Shows.{show_seat, shows}
use Rattle.epoch_core.specs.Views.{first_view}
use Rattle.epoch_rule.specs.declared.view.EpochWhole.{EpochWhole}
use Rattle.epoch_rule.specs.declared.view.EpochSeatView.{EpochSeatView}
use Rattle.epoch_rule.specs.Past.{GoesOnFrom}
use Rattle.epoch_rule.specs.Views.{core_in, object_in, quota_at}

-- every seat but seat 0 has left
abbrev pub OthersLeft : Core → Type 0
OthersLeft c = (n : ℕ) → 0 < n → n < length c.views → (view_at c n).left ≡ true

-- the place is a field of a slot that waits in the seat's dying list, and holds null
abbrev pub IsCleared : EpochShape → Core → EpochView → EventPlace → Type 0
IsCleared z c v (Cell i) = ⊥
IsCleared z c v (Field s i) =
    (i < 2) × (0 < times s v.dying) × (slice_index c.words (field_at z s i) ≡ 0)
IsCleared z c v (WeakCell i) = ⊥
IsCleared z c v (WeakField s) = ⊥

module _ {V : Type 0} where
  -- what the view of seat n says is so of the core c
  pub record IsTrueOf (z : EpochShape) (c : Core) (n : ℕ) (v : EpochSeatView V) : Type 0 where
    pub core : v.core ≡ view_at c n
    pub objects :
        (s : SlotId) → HasSlot (show_seat v.core) s
        → object_in v s ≡ object_of (slot_at (shows z c) s)
    pub cleared : (p : EventPlace) → Stands p v.cleared → IsCleared z c v.core p
    pub whole :
        (all : EpochWhole) → v.whole ≡ Some all
        → (core_in all ≡ c) × (n ≡ 0) × OthersLeft c

  -- of a seat that has left its view says no more
  abbrev pub Tells : EpochShape → Core → ℕ → EpochSeatView V → Type 0
  Tells z c n v = MatchBool v.gone ((view_at c n).left ≡ true) (IsTrueOf z c n v)

  -- a seat that is here hasn't left, and one that is gone has the last view of the client's
  abbrev pub IsHereOrGone : V → EpochSeatView V → Type 0
  IsHereOrGone gone v = (v.gone ≡ false → v.core.left ≡ false) × (v.gone ≡ true → v.client ≡ gone)

  -- the client's views of all seats: the first ones of those that are still to be opened
  abbrev pub clients : (ℕ → V) → ℕ → List (EpochSeatView V) → List V
  clients first seats views =
      map (λ v. v.client) views
      ++ map first (range_with_len (length views) (seats - length views))

  pub record Kept (law : Plain → List V → Type 0) (first : ℕ → V) (gone : V)
      (fits : List ℕ → Type 0) (z : EpochShape) (qs : List Quota)
      (s : State (Unit {0}) (EpochSeatView V)) : Type 0 where
    pub shape : IsShape z
    pub quotas : AreQuotas z qs
    pub events : List EpochEvent
    pub core : Core
    pub history : History z qs events core
    pub words : s.words ≡ core.words
    pub few : (1 ≤ length s.views) × (length s.views ≤ z.seats)
    pub tells :
        (n : ℕ) (v : EpochSeatView V) → get_elem? s.views n ≡ some v → Tells z core n v
    pub pasts :
        (n : ℕ) (v : EpochSeatView V) → get_elem? s.views n ≡ some v → GoesOnFrom v.past events
    pub left :
        (n : ℕ) (v : EpochSeatView V) → get_elem? s.views n ≡ some v → IsHereOrGone gone v
    pub root :
        (v : EpochSeatView V) → get_elem? s.views 0 ≡ some v
        → (v.gone ≡ false) × (v.opened ≡ length s.views)
    pub unopened :
        (n : ℕ) → length s.views ≤ n → n < z.seats
        → view_at core n ≡ first_view z n (quota_at qs n)
    pub fit : AllFit fits (shows z core)
    pub client : law (shows z core) (clients first z.seats s.views)
