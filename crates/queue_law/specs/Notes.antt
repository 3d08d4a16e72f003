-- What seats know of the history. All of it stays true, whatever others do.
use Rattle.std.specs.Prelude.{◌≡◌, ◌≢◌, ℕ, ◌+◌, ◌<◌, ◌≤◌, true, ◌⊎◌, List, slice_index_or, length}
use Rattle.plain_protocol.specs.plain_state.State.{Plain, no_payload}
use Rattle.queue_law.specs.Words.{slot_at, cell_at, Live}
use Rattle.queue_law.specs.Views.{Double, Eyes, Load, Flight, View, no_flight, view_at}
use Rattle.queue_law.specs.Chain.{Ends, Sent, sent, Present, Leads, WasLinked}

-- the node that the seat saw is node i
pub record SeesAt (p : Plain) (h : List Sent) (k t : ℕ) (v : Eyes) (i : ℕ) : Type 0 where
  pub inside : i < length h
  pub node : (sent h i).node + 1 ≡ v.node
  pub life : (sent h i).life ≡ v.life
  pub was_head : v.was_head ≡ true → i ≤ k
  pub was_tail : v.was_tail ≡ true → i ≤ t
  pub next : v.following ≢ 0 → (i + 1 < length h) × ((sent h (i + 1)).node + 1 ≡ v.following)
  pub leads : v.following ≢ 0 → Present p (sent h i) → Leads p h i
  -- the item found is the next node's, for as long as the head hasn't passed node i
  pub item : v.following ≢ 0 → v.found ≢ 0 → k ≤ i → (sent h (i + 1)).item.slot + 1 ≡ v.found
  pub before : v.before ≢ 0 → (j : ℕ) × (j + 1 ≡ i) × ((sent h j).node + 1 ≡ v.before)
  pub helped : v.helped ≡ true → (j : ℕ) → j + 1 ≡ i → Present p (sent h j) → Leads p h j
  pub passed : v.passed ≡ true → i < t

abbrev pub Sees : Plain → List Sent → ℕ → ℕ → Eyes → Type 0
Sees p h k t v = v.node ≢ 0 → (i : ℕ) × SeesAt p h k t v i

-- the node that the seat made the dummy was the head's
abbrev pub Emptied : List Sent → ℕ → View → Type 0
Emptied h k v =
    v.dummy ≢ 0
    → (i : ℕ) × (i < length h) × (i ≤ k) × ((sent h i).node + 1 ≡ v.dummy)
    × ((sent h i).life ≡ v.dummy_life)

-- the seat's own node isn't linked, and has what was put into it
pub record Carries (p : Plain) (h : List Sent) (v : Load) : Type 0 where
  pub unlinked : (s : ℕ) → v.node ≡ s + 1 → ¬ (WasLinked h s v.life)
  pub known : (s : ℕ) → v.node ≡ s + 1 → v.life ≤ (slot_at p s).life
  pub node : (s : ℕ) → v.node ≡ s + 1 → Live p s → (slot_at p s).life ≡ v.life
      → (slot_at p s).payload ≡ no_payload
  pub carried :
      (s : ℕ) → v.node ≡ s + 1 → Live p s → (slot_at p s).life ≡ v.life → (x : ℕ) → v.item ≡ x + 1
      → ((slot_at p s).second ≡ x + 1) × ((slot_at p x).life ≡ v.item_life)
      × ((slot_at p x).payload ≡ v.item_payload)
  pub backed : (s : ℕ) → v.node ≡ s + 1 → Live p s → (slot_at p s).life ≡ v.life
      → (slot_at p s).back ≡ v.back

-- the push in flight is that of node i + 1
pub record FliesAt (h : List Sent) (f : Flight) (i : ℕ) : Type 0 where
  pub inside : i + 1 < length h
  pub prev : (sent h i).node + 1 ≡ f.prev
  pub prev_life : (sent h i).life ≡ f.prev_life
  pub node : (sent h (i + 1)).node + 1 ≡ f.node
  pub life : (sent h (i + 1)).life ≡ f.life

abbrev pub Flies : List Sent → Flight → Type 0
Flies h f = f.node ≢ 0 → (i : ℕ) × FliesAt h f i

abbrev pub IsFlight : Sent → Flight → Type 0
IsFlight e f = (e.node + 1 ≡ f.node) × (e.life ≡ f.life)

abbrev pub flown_at : List Flight → ℕ → Flight
flown_at fs j = slice_index_or fs j no_flight

-- a push of this node is in flight, by the seat or by one that left
abbrev pub HasFlight : Sent → View → Type 0
HasFlight e v = IsFlight e v.flight
    ⊎ ((j : ℕ) × (j < length v.flown) × IsFlight e (flown_at v.flown j))

-- where the last link is missing, a push of the last node is in flight
abbrev pub Flights : Ends → Plain → List Sent → List View → Type 0
Flights u p h views =
    u.form ≡ Double → (i : ℕ) → i + 2 ≡ length h → Present p (sent h i)
    → (slot_at p (sent h i).node).first ≡ 0 → (n : ℕ) × HasFlight (sent h (i + 1)) (view_at views n)

pub record Known (u : Ends) (p : Plain) (h : List Sent) (k t : ℕ) (views : List View) : Type 0 where
  pub sees : (n : ℕ) → Sees p h k t (view_at views n).eyes
  pub emptied : (n : ℕ) → Emptied h k (view_at views n)
  pub carries : (n : ℕ) → Carries p h (view_at views n).load
  pub flies : (n : ℕ) → Flies h (view_at views n).flight
  -- a node is one seat's own
  pub apart :
      (n m : ℕ) → (view_at views n).load.node ≢ 0
      → (view_at views n).load.node ≡ (view_at views m).load.node
      → (view_at views n).load.life ≡ (view_at views m).load.life → n ≡ m
  pub number :
      (n : ℕ) → (view_at views n).here ≡ true
      → ((view_at views n).number ≡ n) × ((view_at views n).form ≡ u.form)
  pub attached : (n : ℕ) → (view_at views n).attached ≡ true → cell_at p u.head ≢ 0
