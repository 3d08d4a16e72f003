-- The tickets that lanes take, one lane's after the other's, are all tickets, each once.
use Rattle.std.proofs.Common.{◌≡◌, ⊎_elim, ℕ, zero, suc, ◌+◌, ◌<◌, ◌≤◌, List, [], ◌∷◌, ◌++◌, refl, sym, ap, ◌∙◌, arith}
use Rattle.std.specs.Prelude.{◌==◌, cond, map}
use Rattle.std.specs.List.{range_with_len, sum_by}
use Rattle.std.proofs.lemmas.Bool.{cases_eq, cases_lt}
use Rattle.std.proofs.lemmas.List.{append-nil}
use Rattle.std.proofs.lemmas.List.Concat.{flat_map-append}
use Rattle.std.proofs.lemmas.List.FromFn.{map-range_with_len_more}
use Rattle.std.proofs.lemmas.List.Sums.{sum_by-append, sum_by-cons}
use Rattle.cell_lanes.specs.Lanes.{lane_tickets}
use Rattle.cell_lanes.proofs.Shares.{lanes_share}
use Rattle.cell_lanes.specs.lane_work.Work.{all_tickets}
use Rattle.cell_lanes.specs.lane_work.declared.work.Work.{Work}
use Rattle.ticket_shares.specs.Tickets.{IsEachOnce, ticket_times, together}
use Rattle.ticket_shares.proofs.Counts.{none_if, one_if, times_append, times_cons}
use Rattle.ticket_shares.proofs.Rounds.{none_past, one_below}
use Rattle.cell_gathering.specs.Shares.{tickets_of, tickets_upto}

-- THE FIRST NUMBERS
map_same : (xs : List ℕ) → map (λ x. x) xs ≡ xs
map_same [] = refl
map_same (x ∷ xs) = ap (λ ys. x ∷ ys) (map_same xs)

pub range_more : (a n k : ℕ) → a + n ≡ k → range_with_len a (n + 1) ≡ range_with_len a n ++ k ∷ []
range_more a n k is =
    sym (map_same (range_with_len a (n + 1)))
    ∙ map-range_with_len_more (λ x. x) a n k is
    ∙ ap (λ xs. xs ++ k ∷ []) (map_same (range_with_len a n))

range_once : (n : ℕ) → IsEachOnce n (range_with_len 0 n)
range_once zero t = sym (none_past t 0 (omega arith))
range_once (suc n) t =
    let more : suc n ≡ n + 1 = omega arith in
    let all = ap (λ m. ticket_times t (range_with_len 0 m)) more
    ∙ ap (ticket_times t) (range_more 0 n n (omega arith))
    ∙ times_append t (range_with_len 0 n) (n ∷ []) in
    let last = times_cons t n [] in
    let before = range_once n t in
    ⊎_elim
    (λ (e : t ≡ n).
    let a = one_if t n e in
    let b = none_past t n (omega arith) in
    let c = one_below t (suc n) (omega arith) in omega arith)
    (λ (e : t ≡ n → ⊥).
    let a = none_if t n e in
    ⊎_elim
    (λ (l : t < n).
    let b = one_below t n l in
    let c = one_below t (suc n) (omega arith) in omega arith)
    (λ (l : n ≤ t).
    let b = none_past t n l in
    let past : suc n ≤ t = omega arith in
    let c = none_past t (suc n) past in omega arith)
    (cases_lt t n))
    (cases_eq t n)

module _ (work : Work) (lanes : ℕ) where
  -- ONE LANE AFTER THE OTHER
  pub upto_none : tickets_upto work lanes 0 ≡ []
  unfolding tickets_upto
  upto_none = refl

  pub upto_more : (n : ℕ) → tickets_upto work lanes (n + 1)
      ≡ tickets_upto work lanes n ++ lane_tickets work lanes n
  unfolding tickets_upto
  upto_more n =
      ap together
      (map-range_with_len_more (lane_tickets work lanes) 0 n n (omega arith))
      ∙ flat_map-append (λ (ts : List ℕ). ts) (map (lane_tickets work lanes) (range_with_len 0 n))
      (lane_tickets work lanes n ∷ [])
      ∙ ap (λ ts. tickets_upto work lanes n ++ ts) (append-nil (lane_tickets work lanes n))

  -- EACH TICKET ONCE. How often one is among those of the first n lanes
  times_upto : (t n : ℕ) → ticket_times t (tickets_upto work lanes n)
      ≡ sum_by (λ i. ticket_times t (lane_tickets work lanes i)) (range_with_len 0 n)
  times_upto t zero = ap (ticket_times t) upto_none
  times_upto t (suc n) =
      let more : suc n ≡ n + 1 = omega arith in
      let same = ap (λ m. ticket_times t (tickets_upto work lanes m)) more in
      let all = ap (ticket_times t) (upto_more n)
      ∙ times_append t (tickets_upto work lanes n) (lane_tickets work lanes n) in
      let before = times_upto t n in
      let of_lane : ℕ → ℕ = λ i. ticket_times t (lane_tickets work lanes i) in
      let sums = ap (λ m. sum_by of_lane (range_with_len 0 m)) more
      ∙ ap (sum_by of_lane) (range_more 0 n n (omega arith))
      ∙ sum_by-append of_lane (range_with_len 0 n) (n ∷ []) in
      let last = sum_by-cons of_lane n [] in omega (arith, same, all, before, sums, last)

  pub each_ticket : 0 < lanes → IsEachOnce (all_tickets work) (tickets_of work lanes)
  each_ticket some t =
      times_upto t lanes
      ∙ lanes_share work lanes some (λ u. cond (t == u) 1 0)
      ∙ range_once (all_tickets work) t
