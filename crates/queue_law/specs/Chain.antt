-- The history of a queue's nodes, and the chain that it leaves in the plain state.
use Rattle.std.specs.Prelude.{◌≡◌, ◌≢◌, ℕ, ◌+◌, ◌<◌, ◌≤◌, ◌⊎◌, List, slice_index_or, length}
use Rattle.plain_protocol.specs.plain_state.State.{Plain, no_payload}
use Rattle.queue_law.specs.Words.{slot_at, cell_at, Live, BLANK}
use Rattle.queue_law.specs.Views.{Form, Linked, Double, Item, no_item}

-- a queue: its form and its two cells
pub record Ends : Type 0 where
  pub form : Form
  pub head : ℕ
  pub tail : ℕ

abbrev pub ends : Form → ℕ → ℕ → Ends
ends form head tail = record { form = form; head = head; tail = tail }

-- a node that was linked, its item and the seat that pushed it
pub record Sent : Type 0 where
  pub node : ℕ
  pub life : ℕ
  pub item : Item
  pub sender : ℕ

abbrev pub no_sent : Sent
no_sent = record { node = 0; life = 0; item = no_item; sender = 0 }

-- node i of a history
abbrev pub sent : List Sent → ℕ → Sent
sent h i = slice_index_or h i no_sent

-- the slot is a live node, in this node's life
abbrev pub Present : Plain → Sent → Type 0
Present p e =
    Live p e.node × ((slot_at p e.node).life ≡ e.life) × ((slot_at p e.node).payload ≡ no_payload)

-- slot x is in this life, and isn't being filled for the next one
abbrev pub Solid : Plain → ℕ → ℕ → Type 0
Solid p x l = ((slot_at p x).life ≡ l) × ((slot_at p x).stage ≢ BLANK)

-- field 1 of slot s holds this item
abbrev pub HoldsItem : Plain → ℕ → Item → Type 0
HoldsItem p s x =
    ((slot_at p s).second ≡ x.slot + 1) × ((slot_at p x.slot).life ≡ x.life)
    × ((slot_at p x.slot).payload ≡ x.payload)

abbrev pub HasItem : Plain → Sent → Type 0
HasItem p e = HoldsItem p e.node e.item

-- the node's life is past or present
abbrev pub IsKnown : Plain → Sent → Type 0
IsKnown p e = e.life ≤ (slot_at p e.node).life

-- while the slot is live in this life, it is a node
abbrev pub IsNode : Plain → Sent → Type 0
IsNode p e = Live p e.node → (slot_at p e.node).life ≡ e.life
    → (slot_at p e.node).payload ≡ no_payload

-- slot s was linked in life l
abbrev pub WasLinked : List Sent → ℕ → ℕ → Type 0
WasLinked h s l = (i : ℕ) × (i < length h) × ((sent h i).node ≡ s) × ((sent h i).life ≡ l)

-- field 0 of node i leads to the next node, which is there
abbrev pub Leads : Plain → List Sent → ℕ → Type 0
Leads p h i =
    ((slot_at p (sent h i).node).first ≡ (sent h (i + 1)).node + 1) × Present p (sent h (i + 1))

-- the weak field of node i + 1 leads back to node i
abbrev pub BacksTo : Plain → List Sent → ℕ → Type 0
BacksTo p h i =
    ((slot_at p (sent h (i + 1)).node).back ≡ (sent h i).node + 1)
    × Solid p (sent h i).node (sent h i).life

-- the head cell holds node k, and each node after it holds its item
pub record HeadAt (u : Ends) (p : Plain) (h : List Sent) (k : ℕ) : Type 0 where
  pub inside : k < length h
  pub holds : cell_at p u.head ≡ (sent h k).node + 1
  pub is : Present p (sent h k)
  pub items : (i : ℕ) → k < i → i < length h → HasItem p (sent h i)

-- the tail cell holds node t
pub record TailAt (u : Ends) (p : Plain) (h : List Sent) (t : ℕ) : Type 0 where
  pub inside : t < length h
  pub holds : cell_at p u.tail ≡ (sent h t).node + 1
  pub is : Present p (sent h t)

-- how far the tail's node may be behind the last of so many: by one, or not at all
abbrev pub Lags : Form → ℕ → ℕ → Type 0
Lags Linked many t = many ≤ t + 2
Lags Double many t = many ≡ t + 1

-- the link behind node i is missing: in a doubly linked queue, behind the last node but one, and not behind a node
-- that the head has passed
pub record Missing (u : Ends) (p : Plain) (h : List Sent) (k i : ℕ) : Type 0 where
  pub double : u.form ≡ Double
  pub last : i + 2 ≡ length h
  pub ahead : k ≤ i
  pub null : (slot_at p (sent h i).node).first ≡ 0

-- h are all nodes that were ever linked, the first dummy first. The head cell holds node k, and the tail cell node t
pub record Chain (u : Ends) (p : Plain) (h : List Sent) (k t : ℕ) : Type 0 where
  pub head : (cell_at p u.head ≡ 0) ⊎ HeadAt u p h k
  pub tail : ((cell_at p u.tail ≡ 0) × (cell_at p u.head ≡ 0)) ⊎ TailAt u p h t
  pub lag : 0 < length h → Lags u.form (length h) t
  -- every node that is there leads on, on the chain or not
  pub links : (i : ℕ) → i + 1 < length h → Present p (sent h i) → Leads p h i ⊎ Missing u p h k i
  pub ends : (i : ℕ) → i + 1 ≡ length h → Present p (sent h i)
      → (slot_at p (sent h i).node).first ≡ 0
  pub backs : u.form ≡ Double → (i : ℕ) → i + 1 < length h → Present p (sent h (i + 1))
      → BacksTo p h i
  pub first_back :
      u.form ≡ Double → 0 < length h → Present p (sent h 0) → (slot_at p (sent h 0).node).back ≡ 0
  -- a node that wasn't linked leads nowhere
  pub strays :
      (s : ℕ) → Live p s → (slot_at p s).payload ≡ no_payload → ¬ (WasLinked h s (slot_at p s).life)
      → (slot_at p s).first ≡ 0
  -- an object is linked once
  pub apart :
      (i j : ℕ) → i < length h → j < length h → (sent h i).node ≡ (sent h j).node
      → (sent h i).life ≡ (sent h j).life → i ≡ j
  pub known : (i : ℕ) → i < length h → IsKnown p (sent h i)
  pub nodes : (i : ℕ) → i < length h → IsNode p (sent h i)
