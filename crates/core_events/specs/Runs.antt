-- The state of the core, one event, lists of events, and the history of a state.
use Rattle.std.specs.Prelude.{ℕ, ◌≡◌, ◌+◌, ◌^◌, ◌<◌, ◌≤◌, true, List, [], ◌∷◌, ◌++◌, length, slice_index, slice_index_or, slice_set, sum, All, ◌==◌, if◌then◌else◌}
use Rattle.announce_slots.specs.plain_state.Limits.{most_batch, most_cells, most_seats, most_slots, most_weak_cells}
use Rattle.announce_slots.specs.plain_state.declared.slot.SlotId.{SlotId}
use Rattle.core_events.specs.declared.act.Act.{Act}
use Rattle.core_events.specs.declared.act.Act.TheVariants as act
use Rattle.core_events.specs.declared.act.Event.{Event}
use Rattle.core_events.specs.declared.outcome.Outcome.{Outcome}
use Rattle.core_events.specs.declared.outcome.Outcome.TheVariants as outcome
use Rattle.core_events.specs.declared.shape.Shape.{Shape}
use Rattle.core_events.specs.declared.shape.Quota.{Quota}
use Rattle.core_events.specs.declared.view.CoreView.{CoreView}
use Rattle.core_events.specs.declared.view.Move.{Move}
use Rattle.core_events.specs.Words.{first_words, field_at, weak_field_at}
use Rattle.core_events.specs.Views.{Terms, no_view, first_views, room_of}
use Rattle.core_events.specs.Steps.{place, next, May, answer, moved, noted, CanLeave}

pub record Core : Type 0 where
  pub words : List ℕ
  pub views : List CoreView

abbrev pub view_at : Core → ℕ → CoreView
view_at c n = slice_index_or c.views n no_view

-- the word that seat n finds
abbrev pub found : Shape → Core → ℕ → Act → ℕ
found z c n a = slice_index c.words (place z a (view_at c n))

abbrev pub HasNullFields : Shape → List ℕ → SlotId → Type 0
HasNullFields z ws s =
    (slice_index ws (field_at z s 0) ≡ 0) × (slice_index ws (field_at z s 1) ≡ 0)
    × (slice_index ws (weak_field_at z s) ≡ 0)

-- the part of a condition that the seat's own view doesn't tell
abbrev pub RestMay : Shape → Core → Act → Type 0
RestMay z c (act.Destroy s) = HasNullFields z c.words s
RestMay z c (act.Leave j) = CanLeave (view_at c j)
RestMay z c a = Unit {0}

-- seat 0 takes over what a seat has that leaves
abbrev pub taken_over : CoreView → CoreView → CoreView
taken_over root v =
    record root {
      room = root.room + room_of root.shape;
      owned = root.owned ++ v.owned;
      weaks = root.weaks ++ v.weaks;
      retired = root.retired ++ v.retired;
      dying = root.dying ++ v.dying;
      ripe = root.ripe ++ v.ripe;
      made = root.made ++ v.made;
      left_seats =
          root.left_seats ++ record { seat = v.seat; trail = v.trail; tickets = v.tickets } ∷ [];
    }

-- what the seat has then
abbrev pub left_behind : CoreView → CoreView
left_behind v =
    record v {
      owned = [];
      weaks = [];
      retired = [];
      dying = [];
      ripe = [];
      made = [];
      trail = [];
      tickets = [];
      left = true;
    }

-- all views after seat n's act
abbrev pub views_after : Shape → Core → ℕ → Act → List CoreView
views_after z c n (act.Leave j) =
    slice_set
    (slice_set c.views 0 (noted (act.Leave j) outcome.Plain
    (taken_over (view_at c 0) (view_at c j))))
    j (left_behind (view_at c j))
views_after z c n a = slice_set c.views n (moved z a (found z c n a) (view_at c n))

-- seat n may do it
abbrev pub Enabled : Shape → Core → ℕ → Act → Type 0
Enabled z c n a = (n < length c.views) × May z a (view_at c n) × RestMay z c a

abbrev pub after : Shape → Core → ℕ → Act → Core
after z c n a = record {
  words = slice_set c.words (place z a (view_at c n)) (next a (view_at c n) (found z c n a));
  views = views_after z c n a;
}

-- seat n's act leads from c to d
abbrev pub Step : Shape → Core → ℕ → Act → Core → Type 0
Step z c n a d = Enabled z c n a × (d ≡ after z c n a)

-- nothing has happened
abbrev pub start : Shape → Terms → Core
start z ts = record { words = first_words z; views = first_views z 0 ts.quotas ts.grants }

-- the state after these events in turn
abbrev pub run : Shape → Core → List Event → Core
run z c [] = c
run z c (e ∷ es) = run z (after z c e.seat e.act) es

-- each of them is enabled when its turn comes
abbrev pub AreEnabled : Shape → Core → List Event → Type 0
AreEnabled z c [] = Unit {0}
AreEnabled z c (e ∷ es) = Enabled z c e.seat e.act × AreEnabled z (after z c e.seat e.act) es

-- what an event answers
abbrev pub outcome_of : Shape → Core → Event → Outcome
outcome_of z c e = answer z e.act (found z c e.seat e.act) (view_at c e.seat)

abbrev pub outcomes : Shape → Core → List Event → List Outcome
outcomes z c [] = []
outcomes z c (e ∷ es) = outcome_of z c e ∷ outcomes z (after z c e.seat e.act) es

-- the events of seat n among these, with their answers, in order
abbrev pub moves_of : Shape → Core → ℕ → List Event → List Move
moves_of z c n [] = []
moves_of z c n (e ∷ es) =
    if e.seat == n
    then record { act = e.act; outcome = outcome_of z c e }
    ∷ moves_of z (after z c e.seat e.act) n es
    else moves_of z (after z c e.seat e.act) n es

-- these events lead to the state c, the newest first
abbrev pub History : Shape → Terms → List Event → Core → Type 0
History z ts [] c = c ≡ start z ts
History z ts (e ∷ es) c = (b : Core) × History z ts es b × Step z b e.seat e.act c

-- the events of es in turn, after those of hs, the newest first
abbrev pub newest_first : List Event → List Event → List Event
newest_first [] hs = hs
newest_first (e ∷ es) hs = newest_first es (e ∷ hs)

-- a shape, and what its seats may use up, in their ranges
abbrev pub IsShape : Shape → Type 0
IsShape z =
    (1 ≤ z.seats) × (z.seats ≤ most_seats) × (1 ≤ z.slots) × (z.slots ≤ most_slots) × (z.cells ≤ most_cells)
    × (z.weak_cells ≤ most_weak_cells) × (1 ≤ z.batch) × (z.batch ≤ most_batch)

abbrev pub IsQuota : Quota → Type 0
IsQuota q = (q.makes ≤ 2 ^ 40) × (q.adds ≤ 2 ^ 40)

abbrev pub AreTerms : Shape → Terms → Type 0
AreTerms z ts =
    (length ts.quotas ≡ z.seats) × All IsQuota ts.quotas × (sum ts.grants ≤ 2 ^ 40)
