-- The state of the core, one event, and the history of a state.
use Rattle.std.specs.Prelude.{ℕ, ◌≡◌, ◌<◌, ◌≤◌, true, List, [], ◌∷◌, ◌++◌, length, replicate, slice_index, slice_index_or, slice_set, All}
use Rattle.core_law.specs.plain_state.Limits.{most_seats, most_slots}
use Rattle.core_law.specs.plain_state.declared.slot.SlotId.{SlotId}
use Rattle.core_law.specs.core_events.declared.shape.Quota.{Quota}
use Rattle.core_law.specs.core_events.Runs.{IsQuota}
use Rattle.epoch_core.specs.declared.act.EpochAct.{EpochAct}
use Rattle.epoch_core.specs.declared.act.EpochAct.TheVariants as act
use Rattle.epoch_core.specs.declared.act.EpochEvent.{EpochEvent}
use Rattle.epoch_core.specs.declared.outcome.EpochOutcome.TheVariants as outcome
use Rattle.epoch_core.specs.declared.shape.EpochShape.{EpochShape}
use Rattle.epoch_core.specs.declared.view.EpochView.{EpochView}
use Rattle.epoch_core.specs.Words.{epoch_at, field_at, first_words}
use Rattle.epoch_core.specs.Views.{first_views, no_view}
use Rattle.epoch_core.specs.Steps.{place, next, May, moved, noted, CanLeave}

-- All words and all views; and of each seat the epoch at which its region was opened. A seat stores an epoch that it
-- has read before, and can't know which one stands when it stores, so no view has this number: the history alone tells
-- it.
pub record Core : Type 0 where
  pub words : List ℕ
  pub views : List EpochView
  pub opened : List ℕ

abbrev pub view_at : Core → ℕ → EpochView
view_at c n = slice_index_or c.views n no_view

-- the epoch at which seat n's region was opened
abbrev pub opened_at : Core → ℕ → ℕ
opened_at c n = slice_index c.opened n

abbrev pub epoch : Core → ℕ
epoch c = slice_index c.words epoch_at

-- the word that seat n finds
abbrev pub found : EpochShape → Core → ℕ → EpochAct → ℕ
found z c n a = slice_index c.words (place z a (view_at c n))

abbrev pub HasNullFields : EpochShape → List ℕ → SlotId → Type 0
HasNullFields z ws s =
    (slice_index ws (field_at z s 0) ≡ 0) × (slice_index ws (field_at z s 1) ≡ 0)

-- the part of a condition that the seat's own view doesn't tell
abbrev pub RestMay : EpochShape → Core → EpochAct → Type 0
RestMay z c (act.Free s) = HasNullFields z c.words s
RestMay z c (act.Leave j) = CanLeave (view_at c j)
RestMay z c a = Unit {0}

-- seat 0 takes over what a seat has that leaves
abbrev pub taken_over : EpochView → EpochView → EpochView
taken_over root v =
    record root {
      owned = root.owned ++ v.owned;
      pending = root.pending ++ v.pending;
      dying = root.dying ++ v.dying;
      made = root.made ++ v.made;
      left_seats = root.left_seats ++ record { seat = v.seat; trail = v.trail } ∷ [];
    }

-- what the seat has then
abbrev pub left_behind : EpochView → EpochView
left_behind v = record v { owned = []; pending = []; dying = []; made = []; trail = []; left = true }

-- all views after seat n's act
abbrev pub views_after : EpochShape → Core → ℕ → EpochAct → List EpochView
views_after z c n (act.Leave j) =
    slice_set
    (slice_set c.views 0 (noted (act.Leave j) outcome.Plain
    (taken_over (view_at c 0) (view_at c j))))
    j (left_behind (view_at c j))
views_after z c n a = slice_set c.views n (moved z a (found z c n a) (view_at c n))

-- a region is opened at the epoch that stands when its number is stored
abbrev pub opened_after : Core → ℕ → EpochAct → List ℕ
opened_after c n act.Open = slice_set c.opened n (epoch c)
opened_after c n a = c.opened

-- seat n may do it
abbrev pub Enabled : EpochShape → Core → ℕ → EpochAct → Type 0
Enabled z c n a = (n < length c.views) × May z a (view_at c n) × RestMay z c a

abbrev pub after : EpochShape → Core → ℕ → EpochAct → Core
after z c n a = record {
  words = slice_set c.words (place z a (view_at c n)) (next a (view_at c n) (found z c n a));
  views = views_after z c n a;
  opened = opened_after c n a;
}

-- seat n's act leads from c to d
abbrev pub Step : EpochShape → Core → ℕ → EpochAct → Core → Type 0
Step z c n a d = Enabled z c n a × (d ≡ after z c n a)

-- nothing has happened
abbrev pub start : EpochShape → List Quota → Core
start z qs = record {
  words = first_words z;
  views = first_views z 0 qs;
  opened = replicate z.seats 0;
}

-- these events lead to the state c, the newest first
abbrev pub History : EpochShape → List Quota → List EpochEvent → Core → Type 0
History z qs [] c = c ≡ start z qs
History z qs (e ∷ es) c = (b : Core) × History z qs es b × Step z b e.seat e.act c

abbrev pub most_cells : ℕ
most_cells = 4194304

-- a shape, and what its seats may use up, in their ranges
abbrev pub IsShape : EpochShape → Type 0
IsShape z =
    (1 ≤ z.seats) × (z.seats ≤ most_seats) × (1 ≤ z.slots) × (z.slots ≤ most_slots)
    × (z.cells ≤ most_cells)

abbrev pub AreQuotas : EpochShape → List Quota → Type 0
AreQuotas z qs = (length qs ≡ z.seats) × All IsQuota qs
