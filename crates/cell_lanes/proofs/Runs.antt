-- Tickets that a lane takes or leaves, one after the other.
use Rattle.std.proofs.Common.{◌≡◌, ℕ, ◌+◌, ◌<◌, Bool, true, false, List, [], ◌∷◌, ◌++◌, sym, ap, subst, arith}
use Rattle.std.specs.Prelude.{length}
use Rattle.std.proofs.lemmas.List.{length-append}
use Rattle.cell_intern.specs.cell_calls.cell_law.declared.view.View.{View}
use Rattle.cell_intern.specs.cell_calls.cell_protocol.declared.law.CellLaw.{CellLaw}
use Rattle.cell_intern.specs.epoch_refs.epoch_domain.Domains.{DomainState}
use Rattle.cell_intern.specs.epoch_refs.epoch_domain.Seats.{SeatState}
use Rattle.lane_work.specs.Work.{all_tickets, words_of, words_of_all}
use Rattle.lane_work.specs.declared.lane.Lane.{Lane}
use Rattle.lane_work.specs.declared.work.Work.{Work}
use Rattle.cell_lanes.specs.Lanes.{CountsTickets, is_taken, lane_tickets, taken_of}
use Rattle.cell_lanes.specs.Ready.{CanCount}
use Rattle.cell_lanes.specs.Stopping.{Stops}
use Rattle.cell_lanes.specs.declared.refusal.LaneStop.{LaneStop}
use Rattle.cell_lanes.proofs.Counted.{can_then}
use Rattle.cell_lanes.proofs.Stopped.{stops_among}
use Rattle.cell_lanes.proofs.Tickets.{taken_next, taken_none, taken_same, taken_words, tickets_none, tickets_then}

module _ (d : DomainState CellLaw) (work : Work) (lanes number : ℕ) where
  pub runs_none : (a : SeatState View) (lane : Lane)
      → CountsTickets d work (taken_of work lanes number 0) a a lane lane
  runs_none a lane = subst (λ ts. CountsTickets d work ts a a lane lane)
      (sym (taken_none work lanes number)) (tickets_none d work a lane)

  -- after n tickets
  module _ (n : ℕ) (a b : SeatState View) (la lb : Lane)
      (run : CountsTickets d work (taken_of work lanes number n) a b la lb) where
    pub runs_past : is_taken work lanes number n ≡ false
        → CountsTickets d work (taken_of work lanes number (n + 1)) a b la lb
    runs_past is = subst (λ ts. CountsTickets d work ts a b la lb)
        (sym (taken_same work lanes number n is)) run

    pub runs_end : n ≡ all_tickets work
        → CountsTickets d work (lane_tickets work lanes number) a b la lb
    runs_end is = subst (λ m. CountsTickets d work (taken_of work lanes number m) a b la lb) is run

    -- the next one is taken
    module _ (is : is_taken work lanes number n ≡ true) where
      pub runs_on : (c : SeatState View) (lc : Lane) → CountsTickets d work (n ∷ []) b c lb lc
          → CountsTickets d work (taken_of work lanes number (n + 1)) a c la lc
      runs_on c lc next = subst (λ ts. CountsTickets d work ts a c la lc)
          (sym (taken_next work lanes number n is))
          (tickets_then d work (taken_of work lanes number n) (n ∷ []) a b c la lb lc run next)

      module _ (less : n < all_tickets work) where
        abbrev before : List (List ℕ)
        before = words_of_all work (taken_of work lanes number n)

        pub runs_room : CanCount (length (words_of_all work (lane_tickets work lanes number))) a la
            → CanCount (length (words_of work n)) b lb
        runs_room can =
            let front = taken_words work lanes number n (all_tickets work) less is in
            can_then d before (length (words_of_all work (lane_tickets work lanes number)))
            (length (words_of work n)) a b la lb run.counts can
            (let e = ap length front.1 in
            let p = length-append (before ++ words_of work n) front.0 in
            let q = length-append before (words_of work n) in omega arith)

        pub runs_stop : (stop : LaneStop) (c : SeatState View) (lc : Lane)
            → Stops d (words_of work n) stop b c lb lc
            → Stops d (words_of_all work (lane_tickets work lanes number)) stop a c la lc
        runs_stop stop c lc stops =
            let front = taken_words work lanes number n (all_tickets work) less is in
            stops_among d stop before (words_of work n) front.0
            (words_of_all work (lane_tickets work lanes number)) a b c la lb lc front.1 run.counts
            stops

-- the lane goes on to have its number
pub taken_as : (work : Work) (lanes m n t : ℕ) (x : Bool) → m ≡ n → x ≡ is_taken work lanes m t
    → is_taken work lanes n t ≡ x
taken_as work lanes m n t x same is =
    sym (subst (λ k. x ≡ is_taken work lanes k t) same is)
