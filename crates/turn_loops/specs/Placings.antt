-- Which of a domain's seats each thread has.
use Rattle.std.specs.Prelude.{ℕ, ◌≡◌, ◌*◌, ◌-◌, ◌<◌, List, length, slice_index_or}
use Rattle.slot_store.specs.acquire_retire.Seats.{SeatState}
use Rattle.turn_loops.specs.declared.placing.Placing.{Placing}
use Rattle.turn_loops.specs.declared.placing.Placing.TheVariants.{Neighbours, Spaced}

-- the number of a thread's seat
abbrev pub number_of : Placing → ℕ → ℕ
number_of Spaced thread = 2 * thread
number_of Neighbours thread = thread

-- of these seats each of so many threads has taken the one at its number, the last thread first
pub record ArePlaced {X : Type 0} (placing : Placing) (threads : ℕ) (seats taken : List X)
    : Type 0 where
  pub count : length taken ≡ threads
  pub each :
      (k : ℕ) (other : X) → k < threads
      → slice_index_or taken k other ≡ slice_index_or seats (number_of placing (threads - k)) other

module _ {V : Type 0} where
  -- all n seats of a domain, by their numbers
  pub record AreSeats (n : ℕ) (seats : List (SeatState V)) : Type 0 where
    pub count : length seats ≡ n
    pub each :
        (k : ℕ) (other : SeatState V) → k < n
        → (slice_index_or seats k other).view.core.seat ≡ k

  -- the seats of so many threads, the last thread's first
  pub record AreOfThreads (placing : Placing) (threads : ℕ) (seats : List (SeatState V))
      : Type 0 where
    pub count : length seats ≡ threads
    pub each :
        (k : ℕ) (other : SeatState V) → k < threads
        → (slice_index_or seats k other).view.core.seat ≡ number_of placing (threads - k)
