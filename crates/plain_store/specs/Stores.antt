-- The plain state that a store stands for, and what a store keeps.
use Rattle.std.specs.Prelude.{ℕ, ◌≡◌, ◌<◌, ◌≤◌, ◌+◌, ◌^◌, false, List, [], ◌∷◌, length, slice_index, None}
use Rattle.plain_state.specs.Limits.{most_slots}
use Rattle.plain_state.specs.declared.slot.SlotId.{SlotId}
use Rattle.plain_store.specs.declared.store.Store.{Store}
use Rattle.plain_state.specs.State.{Plain}
use Rattle.plain_state.specs.References.{strong_refs, weak_refs}
use Rattle.plain_state.specs.Sound.{Sound}
use Rattle.plain_store.specs.Heaps.{NoDisposals}

-- the plain state of its one seat
abbrev pub plain_of : Store → Plain
plain_of h = record {
  seats = record {
    owned = h.owned.items;
    weaks = h.weaks.items;
    snapshots = h.snapshots.items;
    deferred = h.deferred.items;
    dying = h.dying.items;
    filling = None;
    adds = h.adds;
    left = false;
  } ∷ [];
  cells = h.cells.items;
  weak_cells = h.weak_cells.items;
  slots = h.slots.items;
  tickets = 0;
}

-- two lists have the strong and the weak references to each slot
pub record Tallied (p : Plain) (strongs weaks : List ℕ) : Type 0 where
  pub strong_size : length strongs ≡ length p.slots
  pub weak_size : length weaks ≡ length p.slots
  pub strong : (s : SlotId) → s.0 < length p.slots → slice_index strongs s.0 ≡ strong_refs p s
  pub weak : (s : SlotId) → s.0 < length p.slots → slice_index weaks s.0 ≡ weak_refs p s

-- what holds of a store between any two calls
pub record Kept (h : Store) : Type 0 where
  pub sound : Sound (plain_of h)
  pub disposals : NoDisposals (plain_of h)
  pub tallied : Tallied (plain_of h) h.strong.items h.weak.items
  -- so no count reaches the zero flag of its word
  pub adds : h.adds + 1 < 2 ^ 63
  pub slots : length h.slots.items ≤ most_slots
  pub next : h.next ≤ length h.slots.items
