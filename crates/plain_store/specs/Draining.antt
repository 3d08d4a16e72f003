-- What a store keeps true while it settles: room for what is yet to move, and no slot that could end or be given.
use Rattle.std.specs.Prelude.{ℕ, ◌≡◌, ◌⊎◌, ◌<◌, ◌≤◌, ◌+◌, ◌-◌, true, List, length, slice_index, slice_set, vec_capacity, None}
use Rattle.std.specs.VecDeque.{deque_capacity}
use Rattle.plain_state.specs.declared.slot.Kind.{Kind}
use Rattle.plain_state.specs.declared.slot.Kind.TheVariants.{Strong, Weak}
use Rattle.plain_state.specs.declared.slot.SlotId.{SlotId}
use Rattle.plain_state.specs.declared.slot.PlainSlot.{PlainSlot}
use Rattle.plain_state.specs.declared.slot.Stage.{Stage}
use Rattle.plain_state.specs.declared.slot.Stage.TheVariants.{Free, Blank, Live, Ended, Husk}
use Rattle.plain_store.specs.declared.store.Store.{Store}
use Rattle.plain_state.specs.Lists.{Entry, entry_times}
use Rattle.plain_state.specs.State.{Plain, stage_at}
use Rattle.plain_state.specs.References.{over_slots, strong_refs, weak_refs}
use Rattle.plain_store.specs.Stores.{Kept, plain_of}
use Rattle.plain_store.specs.Settling.{SettlesTo}

-- p settles to q and destroys nothing
abbrev pub SettlesFreely : Plain → Plain → Type 0
SettlesFreely p q = (weight : List ℕ → ℕ) → SettlesTo weight p 0 q

-- p settles to q and destroys one object, of this payload
abbrev pub Destroys : Plain → List ℕ → Plain → Type 0
Destroys p words q = (weight : List ℕ → ℕ) → SettlesTo weight p (weight words) q

-- the slot is no object that may end, and no husk that may be given
abbrev pub IsCalm : Plain → SlotId → Type 0
IsCalm p s = (stage_at p s ≡ Live → 0 < strong_refs p s) × (stage_at p s ≡ Husk → 0 < weak_refs p s)

-- n for an object that isn't destroyed, and n for one that hasn't ended
abbrev pub if_object : ℕ → Stage → ℕ
if_object n Free = 0
if_object n Blank = 0
if_object n Live = n
if_object n Ended = n
if_object n Husk = 0

abbrev pub if_live : ℕ → Stage → ℕ
if_live n Free = 0
if_live n Blank = 0
if_live n Live = n
if_live n Ended = 0
if_live n Husk = 0

abbrev pub per_object : ℕ → Plain → ℕ
per_object n p = over_slots (λ x. if_object n x.stage) p.slots

abbrev pub per_live : ℕ → Plain → ℕ
per_live n p = over_slots (λ x. if_live n x.stage) p.slots

-- each live slot may yet join the dying list, and each object's three places may yet be deferred
pub record HasRoom (h : Store) : Type 0 where
  pub dying : length h.dying.items + per_live 1 (plain_of h) ≤ vec_capacity h.dying
  pub deferred : length h.deferred.items + per_object 3 (plain_of h) ≤ deque_capacity h.deferred

-- A store settled at one slot: it did no more than settle, keeps what it must, and is calm at that slot now, and
-- elsewhere where it was. What waits and what is under a snapshot is as it was, and so is the number of slots.
pub record CalmsAt (s : SlotId) (old new : Store) : Type 0 where
  pub settles : SettlesFreely (plain_of old) (plain_of new)
  pub kept : Kept new
  pub room : HasRoom new
  pub calm : (x : SlotId) → (x ≡ s) ⊎ IsCalm (plain_of old) x → IsCalm (plain_of new) x
  pub deferred : new.deferred ≡ old.deferred
  pub snapshots : new.snapshots ≡ old.snapshots
  pub slots : length new.slots.items ≡ length old.slots.items

-- none of these entries is more than a snapshot needs
abbrev pub AllNeeded : List Entry → List Entry → Type 0
AllNeeded entries snapshots = (k : Kind) (s : SlotId) → entry_times k s entries ≤ entry_times k s snapshots

-- the sums of kind k, where a reference of kind j to a slot is gone
abbrev pub fewer : Kind → Kind → ℕ → List ℕ → List ℕ
fewer Strong Strong at sums = slice_set sums at (slice_index sums at - 1)
fewer Weak Weak at sums = slice_set sums at (slice_index sums at - 1)
fewer k j at sums = sums

-- what is left of an object that is destroyed
abbrev pub husk_of : PlainSlot → PlainSlot
husk_of x = record x { stage = Husk; first = None; second = None; weak_field = None }

abbrev pub ended_of : PlainSlot → PlainSlot
ended_of x = record x { stage = Ended; marked = true }

abbrev pub freed_of : PlainSlot → PlainSlot
freed_of x = record x { stage = Free }
