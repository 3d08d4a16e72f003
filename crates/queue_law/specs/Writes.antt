-- What one step does to the places that a queue reads.
use Rattle.std.specs.Prelude.{◌≡◌, ◌≢◌, ℕ, ◌+◌, ◌<◌}
use Rattle.plain_protocol.specs.plain_state.State.{Plain, no_payload}
use Rattle.queue_law.specs.Chain.{Ends}
use Rattle.queue_law.specs.Words.{slot_at, cell_at, Live, strong_refs, weak_refs, BLANK}

-- no slot changes its stage, life or payload
pub record SameObjects (p q : Plain) : Type 0 where
  pub stage : (s : ℕ) → (slot_at q s).stage ≡ (slot_at p s).stage
  pub life : (s : ℕ) → (slot_at q s).life ≡ (slot_at p s).life
  pub payload : (s : ℕ) → (slot_at q s).payload ≡ (slot_at p s).payload

pub record FirstSet (p q : Plain) (t new : ℕ) : Type 0 where
  pub objects : SameObjects p q
  pub here : (slot_at q t).first ≡ new
  pub other : (s : ℕ) → s ≢ t → (slot_at q s).first ≡ (slot_at p s).first
  pub second : (s : ℕ) → (slot_at q s).second ≡ (slot_at p s).second
  pub back : (s : ℕ) → (slot_at q s).back ≡ (slot_at p s).back
  pub cells : (c : ℕ) → cell_at q c ≡ cell_at p c

pub record SecondSet (p q : Plain) (t new : ℕ) : Type 0 where
  pub objects : SameObjects p q
  pub here : (slot_at q t).second ≡ new
  pub other : (s : ℕ) → s ≢ t → (slot_at q s).second ≡ (slot_at p s).second
  pub first : (s : ℕ) → (slot_at q s).first ≡ (slot_at p s).first
  pub back : (s : ℕ) → (slot_at q s).back ≡ (slot_at p s).back
  pub cells : (c : ℕ) → cell_at q c ≡ cell_at p c

pub record BackSet (p q : Plain) (t new : ℕ) : Type 0 where
  pub objects : SameObjects p q
  pub here : (slot_at q t).back ≡ new
  pub other : (s : ℕ) → s ≢ t → (slot_at q s).back ≡ (slot_at p s).back
  pub first : (s : ℕ) → (slot_at q s).first ≡ (slot_at p s).first
  pub second : (s : ℕ) → (slot_at q s).second ≡ (slot_at p s).second
  pub cells : (c : ℕ) → cell_at q c ≡ cell_at p c

pub record CellSet (p q : Plain) (k new : ℕ) : Type 0 where
  pub objects : SameObjects p q
  pub here : cell_at q k ≡ new
  pub other : (c : ℕ) → c ≢ k → cell_at q c ≡ cell_at p c
  pub first : (s : ℕ) → (slot_at q s).first ≡ (slot_at p s).first
  pub second : (s : ℕ) → (slot_at q s).second ≡ (slot_at p s).second
  pub back : (s : ℕ) → (slot_at q s).back ≡ (slot_at p s).back

-- what is referred to stays, nothing comes to life, no cell or field of a live slot changes, and what is referred to
-- weakly isn't filled
pub record Quiet (p q : Plain) : Type 0 where
  pub stays : (s : ℕ) → 0 < strong_refs p s → Live q s
  pub was : (s : ℕ) → Live q s → Live p s
  pub life : (s : ℕ) → (slot_at q s).life ≡ (slot_at p s).life
  pub payload : (s : ℕ) → Live p s → (slot_at q s).payload ≡ (slot_at p s).payload
  pub first : (s : ℕ) → Live q s → (slot_at q s).first ≡ (slot_at p s).first
  pub second : (s : ℕ) → Live q s → (slot_at q s).second ≡ (slot_at p s).second
  pub back : (s : ℕ) → Live q s → (slot_at q s).back ≡ (slot_at p s).back
  pub solid : (s : ℕ) → 0 < weak_refs p s → (slot_at p s).stage ≢ BLANK
      → (slot_at q s).stage ≢ BLANK
  pub cells : (c : ℕ) → cell_at q c ≡ cell_at p c

-- a blank slot comes to life
pub record Makes (p q : Plain) (s : ℕ) : Type 0 where
  pub blank : (slot_at p s).stage ≡ BLANK
  pub here : Live q s
  pub life : (slot_at q s).life ≡ (slot_at p s).life + 1
  pub payload : (slot_at q s).payload ≡ (slot_at p s).payload
  pub first : (slot_at q s).first ≡ 0
  pub back : (slot_at q s).back ≡ 0
  pub other : (j : ℕ) → j ≢ s → slot_at q j ≡ slot_at p j
  pub cells : (c : ℕ) → cell_at q c ≡ cell_at p c

-- nothing changes that a queue reads
pub record Aside (u : Ends) (p q : Plain) : Type 0 where
  pub objects : SameObjects p q
  pub first : (s : ℕ) → (slot_at p s).payload ≡ no_payload
      → (slot_at q s).first ≡ (slot_at p s).first
  pub second : (s : ℕ) → (slot_at p s).payload ≡ no_payload
      → (slot_at q s).second ≡ (slot_at p s).second
  pub back : (s : ℕ) → (slot_at p s).payload ≡ no_payload → (slot_at q s).back ≡ (slot_at p s).back
  pub head : cell_at q u.head ≡ cell_at p u.head
  pub tail : cell_at q u.tail ≡ cell_at p u.tail
