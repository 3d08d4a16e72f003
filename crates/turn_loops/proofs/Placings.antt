-- How the seats of threads are taken off a list, one after the other.
use Rattle.std.proofs.Common.{◌≡◌, ◌∙◌, ℕ, ◌+◌, ◌-◌, ◌*◌, ◌<◌, ◌≤◌, List, [], ◌∷◌, ◌++◌, ◌⊎◌, inl, inr, ap, length, get_or, refl, sym, subst, arith, length-append, zero-add}
use Rattle.std.specs.List.{remove}
use Rattle.std.proofs.lemmas.Bool.{cases_lt}
use Rattle.std.proofs.lemmas.List.{get_or_append_left, get_or_default}
use Rattle.std.proofs.Math.Seq.{get_or-append_seam}
use Rattle.std.proofs.lemmas.List.Edits.{get_or-remove_below, length-remove}
use Rattle.turn_loops.specs.declared.placing.Placing.{Placing}
use Rattle.turn_loops.specs.declared.placing.Placing.TheVariants.{Neighbours, Spaced}
use Rattle.std.specs.Prelude.{All}
use Rattle.std.proofs.lemmas.List.Elements.{All-get_or}
use Rattle.slot_store.proofs.Below.core_law_Each.{get_each, length_each}
use Rattle.slot_store.specs.acquire_retire.Domains.{DomainState}
use Rattle.slot_store.specs.acquire_retire.Openings.{begun_seat, opened_seats}
use Rattle.slot_store.specs.acquire_retire.Seats.{SeatState}
use Rattle.turn_loops.specs.Placings.{AreOfThreads, ArePlaced, AreSeats, number_of}

-- n threads have their seats, and the seats up to the next thread's are left
pub record HaveTaken {X : Type 0} (placing : Placing) (threads n : ℕ) (seats taken left : List X)
    : Type 0 where
  pub count : length taken ≡ n
  pub each :
      (k : ℕ) (other : X) → k < n
      → get_or taken k other ≡ get_or seats (number_of placing (threads - k)) other
  pub there : number_of placing (threads - n) < length left
  pub kept :
      (k : ℕ) (other : X) → k ≤ number_of placing (threads - n)
      → get_or left k other ≡ get_or seats k other

pub at_most_double : (placing : Placing) (thread : ℕ) → number_of placing thread ≤ 2 * thread
at_most_double Spaced thread = omega arith
at_most_double Neighbours thread = omega arith

pub grows : (placing : Placing) (low high : ℕ) → low < high → number_of placing low < number_of placing high
grows Spaced low high less = omega arith
grows Neighbours low high less = omega arith

module _ {X : Type 0} (placing : Placing) (threads : ℕ) (seats : List X) where
  pub taken_none : 2 * threads < length seats → HaveTaken placing threads 0 seats [] seats
  taken_none enough =
      let most = at_most_double placing (threads - 0) in record {
        count = refl;
        each = λ k other low. absurd (omega arith);
        there = omega arith;
        kept = λ k other low. refl;
      }

  module _ (n : ℕ) (taken left : List X) (have : HaveTaken placing threads n seats taken left) where
    at_last : (number : ℕ) (x other : X) → number ≡ number_of placing (threads - n)
        → x ≡ get_or left number x
        → get_or (taken ++ x ∷ []) n other ≡ get_or seats (number_of placing (threads - n)) other
    at_last number x other is value =
        let in_left : number < length left = omega (arith, have.there) in
        let read : x ≡ get_or left number other = value ∙ get_or_default left number x other in_left in
        let from : get_or left number other ≡ get_or seats number other =
        have.kept number other (omega arith) in
        let end : get_or (taken ++ x ∷ []) n other ≡ x =
        subst (λ j. get_or (taken ++ x ∷ []) j other ≡ x) have.count
        (get_or-append_seam taken x [] other) in
        end ∙ read ∙ from ∙ ap (λ j. get_or seats j other) is

    at_new : (number k : ℕ) (x other : X) → number ≡ number_of placing (threads - n)
        → x ≡ get_or left number x → (k < n) ⊎ (n ≤ k) → k < n + 1
        → get_or (taken ++ x ∷ []) k other ≡ get_or seats (number_of placing (threads - k)) other
    at_new number k x other is value (inl below) low =
        get_or_append_left taken (x ∷ []) other k (omega (arith, have.count)) ∙ have.each k other below
    at_new number k x other is value (inr above) low =
        let same : n ≡ k = omega arith in
        subst
        (λ j. get_or (taken ++ x ∷ []) j other
        ≡ get_or seats (number_of placing (threads - j)) other)
        same (at_last number x other is value)

    pub taken_one : (number : ℕ) (x : X) → n < threads → number ≡ number_of placing (threads - n)
        → x ≡ get_or left number x
        → HaveTaken placing threads (n + 1) seats (taken ++ x ∷ []) (remove left number)
    taken_one number x more is value =
        let lower = grows placing (threads - (n + 1)) (threads - n) (omega arith) in
        let in_left : number < length left = omega (arith, have.there) in record {
          count = omega (arith, length-append taken (x ∷ []), have.count);
          each = λ k other low. at_new number k x other is value (cases_lt k n) low;
          there = omega (arith, length-remove left number in_left);
          kept = λ k other low.
              get_or-remove_below left number other k (omega arith) in_left ∙ have.kept k other (omega arith);
        }

  pub taken_all : (taken left : List X) (n : ℕ) → n ≡ threads → HaveTaken placing threads n seats taken left
      → ArePlaced placing threads seats taken
  taken_all taken left n is have = record {
    count = omega (arith, have.count);
    each = λ k other low. have.each k other (omega arith);
  }

module _ {X : Type 0} (placing : Placing) (threads : ℕ) (seats taken : List X)
    (placed : ArePlaced placing threads seats taken) (enough : 2 * threads < length seats) where
  low_enough : (k : ℕ) → number_of placing (threads - k) < length seats
  low_enough k = let most = at_most_double placing (threads - k) in omega arith

  -- what holds of all seats holds of those that are taken
  pub all_placed : (P : X → Type 0) → All P seats → All P taken
  all_placed P all k other low =
      let in_time : k < threads = omega (arith, placed.count) in
      subst P (sym (placed.each k other in_time))
      (all (number_of placing (threads - k)) other (low_enough k))

module _ {V : Type 0} (placing : Placing) (threads : ℕ) (seats taken : List (SeatState V)) where
  -- each thread has the seat of its number
  pub all_of_threads : AreSeats (2 * threads + 2) seats → ArePlaced placing threads seats taken
      → AreOfThreads placing threads taken
  all_of_threads are placed = record {
    count = placed.count;
    each = λ k other low.
        let most = at_most_double placing (threads - k) in
        ap (λ (s : SeatState V). s.view.core.seat) (placed.each k other low)
        ∙ are.each (number_of placing (threads - k)) other (omega arith);
  }

module _ {P V : Type 0} (first : ℕ → V) (d : DomainState P) where
  -- the seats of a domain that was just opened
  pub all_seats : (n : ℕ) → d.shape.seats ≡ n → AreSeats n (opened_seats first d)
  all_seats n is =
      let count = length_each 0 d.shape.seats (begun_seat first d) in record {
        count = count ∙ is;
        each = λ k other low.
            ap (λ (s : SeatState V). s.view.core.seat)
            (get_each 0 d.shape.seats k (begun_seat first d) other (omega arith))
            ∙ zero-add k;
      }

  module _ (threads : ℕ) (seats : List (SeatState V)) (is : seats ≡ opened_seats first d)
      (many : d.shape.seats ≡ 2 * threads + 2) where
    pub opened_are : AreSeats (2 * threads + 2) seats
    opened_are =
        subst (AreSeats {V = V} (2 * threads + 2)) (sym is) (all_seats (2 * threads + 2) many)

    pub opened_enough : 2 * threads < length seats
    opened_enough = omega (arith, opened_are.count)

    -- what holds of all seats holds of the root and of those of the threads
    module _ (free : SeatState V → Type 0) (all : All free (opened_seats first d)) where
      all_free : All free seats
      all_free = subst (All free) (sym is) all

      pub root_free : (root : SeatState V) → root ≡ get_or seats 0 root → free root
      root_free root same =
          subst free (sym same) (All-get_or free seats 0 root (omega (arith, opened_enough)) all_free)

      pub workers_free : (placing : Placing) (workers : List (SeatState V))
          → ArePlaced placing threads seats workers → All free workers
      workers_free placing workers placed =
          all_placed placing threads seats workers placed opened_enough free all_free
