-- What all tickets of all seats grant is at most what all grants make: as if one seat drew all.
use Rattle.std.proofs.Common.{◌≡◌, ℕ, ◌+◌, ◌≤◌, List, [], ◌∷◌, ◌++◌, refl, sum, ◌∙◌, arith}
use Rattle.std.specs.Prelude.{◌==◌, cond, slice_index_or, sum_by}
use Rattle.std.proofs.lemmas.List.Sums.{sum_by-append, sum_by-cons}
use Rattle.core_promises.specs.core_events.declared.shape.Shape.{Shape}
use Rattle.core_promises.specs.core_events.declared.view.CoreView.{CoreView}
use Rattle.core_promises.specs.core_events.declared.view.LeftSeat.{LeftSeat}
use Rattle.core_promises.specs.core_events.Counts.{adds_used, number_times, ticket_times, total}
use Rattle.core_promises.specs.core_events.Good.{TicketLaw}
use Rattle.core_promises.specs.core_events.Runs.{Core}
use Rattle.core_promises.specs.core_events.Views.{granted, no_view}
use Rattle.core_promises.proofs.Granted.{seat_granted}
use Rattle.claim_law.proofs.Counting.{total_cons, total_nil}

-- what the tickets of a seat grant, and those of the seats that left to it
abbrev pub all_granted : List ℕ → CoreView → ℕ
all_granted gs v =
    granted gs v.tickets + sum_by (λ (l : LeftSeat). granted gs l.tickets) v.left_seats

abbrev left_tickets : List LeftSeat → List ℕ
left_tickets [] = []
left_tickets (l ∷ ls) = l.tickets ++ left_tickets ls

-- all tickets that were drawn
abbrev pooled : List CoreView → List ℕ
pooled [] = []
pooled (v ∷ vs) = v.tickets ++ (left_tickets v.left_seats ++ pooled vs)

number_append : (t : ℕ) (xs ys : List ℕ)
    → number_times t (xs ++ ys) ≡ number_times t xs + number_times t ys
unfolding number_times
number_append t xs ys = sum_by-append (λ (x : ℕ). cond (x == t) 1 0) xs ys

no_number : (t : ℕ) → number_times t [] ≡ 0
unfolding number_times
no_number t = refl

granted_append : (gs xs ys : List ℕ) → granted gs (xs ++ ys) ≡ granted gs xs + granted gs ys
granted_append gs xs ys = sum_by-append (λ (t : ℕ). slice_index_or gs t 0) xs ys

left_times : (t : ℕ) (ls : List LeftSeat)
    → number_times t (left_tickets ls) ≡ sum_by (λ (l : LeftSeat). number_times t l.tickets) ls
left_times t [] = no_number t
left_times t (l ∷ ls) =
    let a = number_append t l.tickets (left_tickets ls) in
    let c = sum_by-cons (λ (x : LeftSeat). number_times t x.tickets) l ls in
    let r = left_times t ls in omega arith

left_granted : (gs : List ℕ) (ls : List LeftSeat)
    → granted gs (left_tickets ls) ≡ sum_by (λ (l : LeftSeat). granted gs l.tickets) ls
left_granted gs [] = refl
left_granted gs (l ∷ ls) =
    let a = granted_append gs l.tickets (left_tickets ls) in
    let c = sum_by-cons (λ (x : LeftSeat). granted gs x.tickets) l ls in
    let r = left_granted gs ls in omega arith

pooled_times : (t : ℕ) (vs : List CoreView) → number_times t (pooled vs) ≡ total (ticket_times t) vs
pooled_times t [] = let a = no_number t in let b = total_nil (ticket_times t) in omega arith
pooled_times t (v ∷ vs) =
    let a = number_append t v.tickets (left_tickets v.left_seats ++ pooled vs) in
    let b = number_append t (left_tickets v.left_seats) (pooled vs) in
    let l = left_times t v.left_seats in
    let c = total_cons (ticket_times t) v vs in
    let r = pooled_times t vs in omega arith

pooled_granted : (gs : List ℕ) (vs : List CoreView)
    → granted gs (pooled vs) ≡ total (all_granted gs) vs
pooled_granted gs [] = let b = total_nil (all_granted gs) in omega arith
pooled_granted gs (v ∷ vs) =
    let a = granted_append gs v.tickets (left_tickets v.left_seats ++ pooled vs) in
    let b = granted_append gs (left_tickets v.left_seats) (pooled vs) in
    let l = left_granted gs v.left_seats in
    let c = total_cons (all_granted gs) v vs in
    let r = pooled_granted gs vs in omega arith

pub grants_fit : (z : Shape) (c : Core) (gs : List ℕ) → TicketLaw z c
    → total (all_granted gs) c.views ≤ sum gs
grants_fit z c gs law =
    let e = pooled_granted gs c.views in
    let most = seat_granted z pool 0 pool_law (omega arith) in omega arith
  where
    owner : CoreView
    owner = record no_view { grants = gs; tickets = pooled c.views; adds = adds_used c }

    pool : Core
    pool = record { words = c.words; views = owner ∷ [] }

    pool_law : TicketLaw z pool
    pool_law = record {
      each = λ t.
          let a = total_cons (ticket_times t) owner [] in
          let n = total_nil (ticket_times t) in
          let p = pooled_times t c.views in
          let alone : total (ticket_times t) (owner ∷ []) ≡ total (ticket_times t) c.views =
          omega arith in
          alone ∙ law.each t;
      few =
          let a = total_cons (λ (v : CoreView). v.adds) owner [] in
          let few = law.few in omega arith;
    }
