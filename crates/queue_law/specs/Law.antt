-- The law of a queue.
use Rattle.std.specs.Prelude.{◌≡◌, ◌≢◌, ℕ, ◌+◌, ◌<◌, ◌≤◌, true, ◌⊎◌, List, drop, length}
use Rattle.plain_protocol.specs.plain_state.State.{Plain, seat_at}
use Rattle.queue_law.specs.Words.{cell_at}
use Rattle.queue_law.specs.Views.{Taken, View, first_view, view_at}
use Rattle.queue_law.specs.Chain.{Ends, Sent, Chain}
use Rattle.queue_law.specs.Notes.{Known, Flights}
use Rattle.queue_law.specs.Lists.{Counted, Ordered, sent_items}

-- how far seat 0 is: nothing is laid, or the dummy stands in the tail cell alone, or the head cell was cleared
pub record Phase (u : Ends) (p : Plain) (h : List Sent) (ts : List Taken)
    (root : View) : Type 0 where
  pub unlaid :
      root.stand.laid ≡ 0
      → (length h ≡ 0) × (length ts ≡ 0) × (cell_at p u.head ≡ 0) × (cell_at p u.tail ≡ 0)
  pub laying :
      root.stand.laid ≡ 1
      → (length h ≡ 1) × (length ts ≡ 0) × (cell_at p u.head ≡ 0) × (cell_at p u.tail ≢ 0)
  pub shut :
      3 ≤ root.stand.laid
      → (cell_at p u.head ≡ 0) × (0 < length h)
      × (root.stand.left ≡ sent_items (drop (length ts + 1) h))

-- the law, with its history: the nodes, the pops, and the tail's place
pub record Queue (u : Ends) (p : Plain) (views : List View) (h : List Sent) (ts : List Taken)
    (t : ℕ) : Type 0 where
  pub chain : Chain u p h (length ts) t
  pub known : Known u p h (length ts) t views
  pub flights : Flights u p h views
  pub counted : Counted h ts views
  pub ordered : Ordered h ts views
  pub phase : Phase u p h ts (view_at views 0)

abbrev pub QueueLaw : Ends → Plain → List View → Type 0
QueueLaw u p views = (h : List Sent) × (ts : List Taken) × (t : ℕ) × Queue u p views h ts t

-- a seat that has left knows nothing, and did nothing that its view tells
abbrev pub Gone : Plain → List View → Type 0
Gone p views = (m : ℕ) → (length p.seats ≤ m) ⊎ ((seat_at p m).left ≡ true)
    → view_at views m ≡ first_view

abbrev pub WholeLaw : Ends → Plain → List View → Type 0
WholeLaw u p views = QueueLaw u p views × Gone p views
