-- All lanes together take each ticket once.
use Rattle.std.proofs.Common.{◌≡◌, ℕ, zero, suc, ◌+◌, ◌%◌, ◌<◌, Bool, true, false, List, [], ◌∷◌, refl, sym, ap, ◌∙◌, mod-lt, arith}
use Rattle.std.specs.Prelude.{◌==◌, cond, nat_lt, sum_by}
use Rattle.std.specs.List.{range_with_len}
use Rattle.std.proofs.lemmas.Bool.{lt-ltb}
use Rattle.std.proofs.lemmas.Bool.Decides.{nat_tests}
use Rattle.std.proofs.lemmas.List.Sums.{sum_by-append, sum_by-cons}
use Rattle.lane_work.proofs.Sums.{sum_of_both}
use Rattle.lane_work.specs.Work.{all_tickets, files_in}
use Rattle.lane_work.specs.declared.work.Work.{Work}
use Rattle.cell_lanes.specs.Lanes.{is_taken, lane_tickets, taken_of}
use Rattle.cell_lanes.proofs.Tickets.{range_more, taken_more, taken_none}

sum_none : (xs : List ℕ) → sum_by (λ (x : ℕ). 0) xs ≡ 0
sum_none [] = refl
sum_none (x ∷ xs) =
    let c = sum_by-cons (λ (y : ℕ). 0) x xs in let r = sum_none xs in omega arith

sum_push : (f : ℕ → ℕ) (n : ℕ)
    → sum_by f (range_with_len 0 (n + 1)) ≡ sum_by f (range_with_len 0 n) + f n
sum_push f n =
    let r = ap (sum_by f) (range_more n) in
    let a = sum_by-append f (range_with_len 0 n) (n ∷ []) in
    let c = sum_by-cons f n [] in omega arith

-- one of the first n numbers
same_next : (k n x : ℕ) → cond (nat_lt k n) x 0 + cond (k == n) x 0 ≡ cond (nat_lt k (n + 1)) x 0
same_next k n x = grind (arith, nat_tests)

sum_one : (k x n : ℕ) → sum_by (λ i. cond (k == i) x 0) (range_with_len 0 n) ≡ cond (nat_lt k n) x 0
sum_one k x zero = ap (λ (b : Bool). cond b x 0) (sym (none_less k))
  where
    none_less : (k : ℕ) → nat_lt k 0 ≡ false
    none_less k = grind (arith, nat_tests)
sum_one k x (suc n) =
    ap (λ m. sum_by (λ i. cond (k == i) x 0) (range_with_len 0 m)) (next n)
    ∙ sum_push (λ i. cond (k == i) x 0) n
    ∙ ap (λ s. s + cond (k == n) x 0) (sum_one k x n)
    ∙ same_next k n x
    ∙ ap (λ m. cond (nat_lt k m) x 0) (sym (next n))
  where
    next : (n : ℕ) → suc n ≡ n + 1
    next n = omega arith

module _ (work : Work) (lanes : ℕ) (some : 0 < lanes) (g : ℕ → ℕ) where
  -- what lane i has of the first n tickets
  abbrev of_lane : ℕ → ℕ → ℕ
  of_lane n i = sum_by g (taken_of work lanes i n)

  if_taken : (b : Bool) (n : ℕ) → sum_by g (cond b (n ∷ []) []) ≡ cond b (g n) 0
  if_taken true n = let c = sum_by-cons g n [] in omega arith
  if_taken false n = refl

  of_lane_next : (n i : ℕ) → of_lane (n + 1) i
      ≡ of_lane n i + cond ((n % files_in work) % lanes == i) (g n) 0
  of_lane_next n i =
      ap (sum_by g) (taken_more work lanes i n)
      ∙ sum_by-append g (taken_of work lanes i n) (cond (is_taken work lanes i n) (n ∷ []) [])
      ∙ ap (λ s. of_lane n i + s) (if_taken (is_taken work lanes i n) n)

  of_lanes : (n : ℕ)
      → sum_by (of_lane n) (range_with_len 0 lanes) ≡ sum_by g (range_with_len 0 n)
  of_lanes zero =
      (λ j. sum_by (λ i. sum_by g (taken_none work lanes i j)) (range_with_len 0 lanes))
      ∙ sum_none (range_with_len 0 lanes)
  of_lanes (suc n) =
      ap (λ m. sum_by (of_lane m) (range_with_len 0 lanes)) (next n)
      ∙ (λ j. sum_by (λ i. of_lane_next n i j) (range_with_len 0 lanes))
      ∙ sum_of_both (of_lane n) (λ i. cond ((n % files_in work) % lanes == i) (g n) 0)
      (range_with_len 0 lanes)
      ∙ ap (λ s. s + sum_by (λ i. cond ((n % files_in work) % lanes == i) (g n) 0)
      (range_with_len 0 lanes)) (of_lanes n)
      ∙ ap (λ s. sum_by g (range_with_len 0 n) + s)
      (sum_one ((n % files_in work) % lanes) (g n) lanes
      ∙ ap (λ (b : Bool). cond b (g n) 0)
      (lt-ltb ((n % files_in work) % lanes) lanes (mod-lt (n % files_in work) some)))
      ∙ sym (sum_push g n)
      ∙ ap (λ m. sum_by g (range_with_len 0 m)) (sym (next n))
    where
      next : (n : ℕ) → suc n ≡ n + 1
      next n = omega arith

  pub lanes_share : sum_by (λ i. sum_by g (lane_tickets work lanes i)) (range_with_len 0 lanes)
      ≡ sum_by g (range_with_len 0 (all_tickets work))
  lanes_share = of_lanes (all_tickets work)
