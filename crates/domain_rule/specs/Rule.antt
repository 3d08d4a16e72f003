-- The rule of a domain's table: its words and its views have a history, what each view says is so,
-- the payloads of all objects fit, and the client's law holds.
use Rattle.std.specs.Prelude.{ℕ, ◌≡◌, ◌-◌, ◌<◌, ◌≤◌, true, false, List, ◌++◌, length, map, slice_index, Some}
use Rattle.std.specs.Bool.{MatchBool}
use Rattle.std.specs.List.{range_with_len}
use mathlib.Core.Option.{some}
use lib.ListN.{get_elem?}
use Rattle.atomic_table.specs.Table.{State}
use Rattle.plain_protocol.specs.plain_state.declared.act.EventPlace.{EventPlace}
use Rattle.plain_protocol.specs.plain_state.declared.act.EventPlace.TheVariants.{Cell, Field, WeakCell, WeakField}
use Rattle.plain_protocol.specs.plain_state.declared.slot.SlotId.{SlotId}
use Rattle.plain_protocol.specs.plain_state.Lists.{times}
use Rattle.plain_protocol.specs.plain_state.Fits.{AllFit}
use Rattle.plain_protocol.specs.plain_state.State.{Plain, slot_at}
use Rattle.plain_protocol.specs.Owns.{HasSlot, object_of}
use Rattle.core_law.specs.core_events.declared.act.Event.{Event}
use Rattle.core_law.specs.core_events.declared.shape.Shape.{Shape}
use Rattle.core_law.specs.core_events.declared.view.CoreView.{CoreView}
use Rattle.core_law.specs.core_events.Words.{field_at, weak_field_at}
use Rattle.core_law.specs.core_events.Views.{Terms}
use Rattle.core_law.specs.core_events.Runs.{Core, view_at, History, IsShape, AreTerms}
use Rattle.core_law.specs.core_events.Shows.{show_seat, shows}
use Rattle.core_law.specs.core_events.Views.{first_view}
use Rattle.domain_rule.specs.declared.view.Whole.{Whole}
use Rattle.domain_rule.specs.declared.view.SeatView.{SeatView}
use Rattle.domain_rule.specs.Past.{GoesOnFrom}
use Rattle.domain_rule.specs.Views.{Stands, core_in, object_in, quota_at}

-- every seat but seat 0 has left
abbrev pub OthersLeft : Core → Type 0
OthersLeft c = (n : ℕ) → 0 < n → n < length c.views → (view_at c n).left ≡ true

-- the place is a field of a slot that waits in the seat's dying list, and holds null
abbrev pub IsCleared : Shape → Core → CoreView → EventPlace → Type 0
IsCleared z c v (Cell i) = ⊥
IsCleared z c v (Field s i) =
    (i < 2) × (0 < times s v.dying) × (slice_index c.words (field_at z s i) ≡ 0)
IsCleared z c v (WeakCell i) = ⊥
IsCleared z c v (WeakField s) =
    (0 < times s v.dying) × (slice_index c.words (weak_field_at z s) ≡ 0)

module _ {V : Type 0} where
  -- what the view of seat n says is so of the core c
  pub record IsTrueOf (z : Shape) (c : Core) (n : ℕ) (v : SeatView V) : Type 0 where
    pub core : v.core ≡ view_at c n
    pub objects :
        (s : SlotId) → HasSlot (show_seat v.core) s
        → object_in v s ≡ object_of (slot_at (shows z c) s)
    pub cleared : (p : EventPlace) → Stands p v.cleared → IsCleared z c v.core p
    pub whole : (all : Whole) → v.whole ≡ Some all → (core_in all ≡ c) × (n ≡ 0) × OthersLeft c

  -- of a seat that has left its view says no more
  abbrev pub Tells : Shape → Core → ℕ → SeatView V → Type 0
  Tells z c n v = MatchBool v.gone ((view_at c n).left ≡ true) (IsTrueOf z c n v)

  -- a seat that is here hasn't left, and one that is gone has the last view of the client's
  abbrev pub IsHereOrGone : V → SeatView V → Type 0
  IsHereOrGone gone v = (v.gone ≡ false → v.core.left ≡ false) × (v.gone ≡ true → v.client ≡ gone)

  -- the client's views of all seats: the first ones of those that are still to be opened
  abbrev pub clients : (ℕ → V) → ℕ → List (SeatView V) → List V
  clients first seats views =
      map (λ v. v.client) views
      ++ map first (range_with_len (length views) (seats - length views))

  pub record Kept (law : Plain → List V → Type 0) (first : ℕ → V) (gone : V)
      (fits : List ℕ → Type 0) (z : Shape) (ts : Terms) (s : State (Unit {0}) (SeatView V))
      : Type 0 where
    pub shape : IsShape z
    pub terms : AreTerms z ts
    pub events : List Event
    pub core : Core
    pub history : History z ts events core
    pub words : s.words ≡ core.words
    pub few : (1 ≤ length s.views) × (length s.views ≤ z.seats)
    pub tells :
        (n : ℕ) (v : SeatView V) → get_elem? s.views n ≡ some v → Tells z core n v
    pub pasts :
        (n : ℕ) (v : SeatView V) → get_elem? s.views n ≡ some v → GoesOnFrom v.past events
    pub left : (n : ℕ) (v : SeatView V) → get_elem? s.views n ≡ some v → IsHereOrGone gone v
    pub root :
        (v : SeatView V) → get_elem? s.views 0 ≡ some v
        → (v.gone ≡ false) × (v.opened ≡ length s.views)
    pub unopened :
        (n : ℕ) → length s.views ≤ n → n < z.seats
        → view_at core n ≡ first_view z n (quota_at ts.quotas n) ts.grants
    pub fit : AllFit fits (shows z core)
    pub client : law (shows z core) (clients first z.seats s.views)
