-- Numbers of the words of each lane, added up ticket by ticket: together they are those of all tickets.
use Rattle.std.proofs.Common.{eqb, inl, inr, ◌∷◌, ◌≡◌, ◌≢◌, ◌⊎◌, ℕ, zero, suc, ◌+◌, ◌*◌, ◌^◌, ◌<◌, ◌≤◌, true, false, List, [], ◌++◌, get_or, set, refl, sym, ap, ◌∙◌, arith}
use Rattle.std.specs.Prelude.{length, map, replicate, sum}
use Rattle.std.specs.List.{range_with_len}
use Rattle.std.proofs.lemmas.Bool.{eq-eqb, ne_eqb}
use Rattle.std.proofs.lemmas.Bool.Decides.{eqb_tells}
use Rattle.std.proofs.lemmas.List.{ext_get_or, get_or_default, get_or-replicate, get_or-set_other, get_or-set_same, length-append, length-replicate, length-set}
use Rattle.std.proofs.lemmas.List.FromFn.{get_or-map-range_with_len, length-map-range_with_len}
use Rattle.std.proofs.lemmas.List.Sums.{get_or-le-sum_by, sum_by-append, sum_by-set}
use Rattle.std.proofs.lemmas.List.Folds.{sum_by-replicate}
use Rattle.std.proofs.lemmas.Nat.{mul-le}
use Rattle.cell_lanes.specs.Lanes.{taken_of}
use Rattle.cell_lanes.proofs.Tickets.{taken_next, taken_same, words_both, words_one}
use Rattle.lane_work.specs.cdrc_text.Fold.{File}
use Rattle.lane_work.specs.cdrc_text.Text.{slots_of_word}
use Rattle.lane_work.specs.Sizes.{all_parts, all_pieces, slots_of_words}
use Rattle.lane_work.specs.Work.{IsWork, all_tickets, files_in, words_of, words_of_all}
use Rattle.lane_work.specs.declared.work.Work.{Work}
use Rattle.lane_work.proofs.Sums.{at_most, of_none, of_rounds, of_tickets, one_more}
use Rattle.cell_domain.specs.Opened.{by_lane, taker}

module _ (g : File → ℕ) (work : Work) (lanes : ℕ) where
  -- of each lane, in the first n tickets
  abbrev pub numbers : ℕ → List ℕ
  numbers n = map (λ i. g (words_of_all work (taken_of work lanes i n))) (range_with_len 0 lanes)

  pub many : (n : ℕ) → length (numbers n) ≡ lanes
  many n = length-map-range_with_len (λ i. g (words_of_all work (taken_of work lanes i n))) 0 lanes

  at : (n i : ℕ) → i < lanes
      → get_or (numbers n) i 0 ≡ g (words_of_all work (taken_of work lanes i n))
  at n i less =
      get_or-map-range_with_len (λ j. g (words_of_all work (taken_of work lanes j n))) 0 lanes i i 0
      less (omega arith)

module _ (g : File → ℕ) (none : g [] ≡ 0) (both : (us vs : File) → g (us ++ vs) ≡ g us + g vs)
    (work : Work) (lanes : ℕ) where
  -- of the first n tickets
  abbrev so_far : ℕ → List ℕ
  so_far n = numbers g work lanes n

  nothing : (i : ℕ) → g (words_of_all work (taken_of work lanes i 0)) ≡ 0
  unfolding taken_of words_of_all
  nothing i = none

  pub begun : so_far 0 ≡ replicate lanes 0
  begun =
      ext_get_or 0 (so_far 0) (replicate lanes 0)
      (many g work lanes 0 ∙ sym (length-replicate lanes 0))
      (λ i less.
      let low : i < lanes = let m = many g work lanes 0 in omega arith in
      at g work lanes 0 i low ∙ nothing i ∙ sym (get_or-replicate lanes i 0 0 low))

  -- the ticket is the lane's, or another's
  taken : (n i : ℕ) → taker work lanes n ≡ i
      → g (words_of_all work (taken_of work lanes i (n + 1)))
      ≡ g (words_of_all work (taken_of work lanes i n)) + g (words_of work n)
  taken n i is =
      ap (λ ts. g (words_of_all work ts))
      (taken_next work lanes i n (eq-eqb (taker work lanes n) i is))
      ∙ ap g (words_both work (taken_of work lanes i n) (n ∷ []))
      ∙ both (words_of_all work (taken_of work lanes i n)) (words_of_all work (n ∷ []))
      ∙ ap (λ ws. g (words_of_all work (taken_of work lanes i n)) + g ws) (words_one work n)

  left : (n i : ℕ) → taker work lanes n ≢ i
      → g (words_of_all work (taken_of work lanes i (n + 1)))
      ≡ g (words_of_all work (taken_of work lanes i n))
  left n i other =
      ap (λ ts. g (words_of_all work ts))
      (taken_same work lanes i n (ne_eqb (taker work lanes n) i other))

  module _ (some' : 0 < lanes) where
    lane_there : (n : ℕ) → taker work lanes n < lanes
    lane_there n = omega arith

    -- one ticket more counts for the lane that takes it
    pub counted : (n : ℕ)
        → so_far (n + 1)
        ≡ set (so_far n) (taker work lanes n)
        (get_or (so_far n) (taker work lanes n) 0 + g (words_of work n))
    counted n =
        let j = taker work lanes n in let y = get_or (so_far n) j 0 + g (words_of work n) in
        ext_get_or 0 (so_far (n + 1)) (set (so_far n) j y)
        (let more = many g work lanes (n + 1) in let m = many g work lanes n in
        let s = length-set (so_far n) j y in omega arith)
        (λ i less.
        let low : i < lanes = let m = many g work lanes (n + 1) in omega arith in
        at g work lanes (n + 1) i low ∙ each n i low (eqb_tells j i))
      where
        each : (n i : ℕ) → i < lanes
            → ((eqb (taker work lanes n) i ≡ true) × (taker work lanes n ≡ i))
            ⊎ ((eqb (taker work lanes n) i ≡ false) × (taker work lanes n ≢ i))
            → g (words_of_all work (taken_of work lanes i (n + 1)))
            ≡ get_or (set (so_far n) (taker work lanes n)
            (get_or (so_far n) (taker work lanes n) 0 + g (words_of work n))) i 0
        each n i low (inl (test, is)) =
            let j = taker work lanes n in let y = get_or (so_far n) j 0 + g (words_of work n) in
            let there : j < length (so_far n) =
            let m = many g work lanes n in let l = lane_there n in omega arith in
            taken n i is
            ∙ ap (λ k. k + g (words_of work n))
            (sym (at g work lanes n i low) ∙ ap (λ k. get_or (so_far n) k 0) (sym is))
            ∙ sym (get_or-set_same (so_far n) j y 0 there)
            ∙ ap (λ k. get_or (set (so_far n) j y) k 0) is
        each n i low (inr (test, other)) =
            let j = taker work lanes n in let y = get_or (so_far n) j 0 + g (words_of work n) in
            let apart : i ≢ j = λ e. other (sym e) in
            left n i other ∙ sym (at g work lanes n i low)
            ∙ sym (get_or-set_other (so_far n) j i y 0 apart)

    -- all lanes together have what the tickets have
    pub together : (n : ℕ) → sum (so_far n) ≡ of_tickets g work n
    together zero =
        let b = ap sum begun in let r = sum_by-replicate (λ (x : ℕ). x) lanes 0 in
        let o = of_none g work in omega arith
    together (suc n) =
        let e : suc n ≡ n + 1 = omega arith in
        ap (λ m. sum (so_far m)) e ∙ further n (together n) ∙ ap (of_tickets g work) (sym e)
      where
        further : (n : ℕ) → sum (so_far n) ≡ of_tickets g work n
            → sum (so_far (n + 1)) ≡ of_tickets g work (n + 1)
        further n before =
            let j = taker work lanes n in let y = get_or (so_far n) j 0 + g (words_of work n) in
            let there : j < length (so_far n) =
            let m = many g work lanes n in let l = lane_there n in omega arith in
            let c = ap sum (counted n) in
            let s = sum_by-set (λ (x : ℕ). x) (so_far n) j y 0 there in
            let o = one_more g work n in
            omega arith

    pub within : (n i : ℕ) → i < lanes → get_or (so_far n) i 0 ≤ of_tickets g work n
    within n i less =
        let t = together n in
        let m = many g work lanes n in
        let l = get_or-le-sum_by (λ (x : ℕ). x) (so_far n) i 0 (omega arith) in
        omega arith

    -- THE LIST THAT COUNTS
    -- its number before a ticket of this lane
    module _ (n j x : ℕ) (old : List ℕ) (is : old ≡ so_far n) (same : j ≡ taker work lanes n)
        (value : x ≡ get_or old j x) where
      there : j < length old
      there =
          let m = many g work lanes n in let l = lane_there n in let e = ap length is in omega arith

      read : x ≡ get_or old j 0
      read = value ∙ get_or_default old j x 0 there

      pub few : (m : ℕ) → ((t : ℕ) → g (words_of work t) ≤ m) → x ≤ n * m
      few m most =
          let all = at_most g work m most n in let l = lane_there n in
          let w = within n j (omega (arith, same)) in
          let e = read ∙ ap (λ (xs : List ℕ). get_or xs j 0) is in
          omega arith

      pub next_list : (y : ℕ) → y ≡ g (words_of work n) → set old j (x + y) ≡ so_far (n + 1)
      next_list y own =
          ap (λ k. set old j (k + y)) read
          ∙ ap (λ k. set old j (get_or old j 0 + k)) own
          ∙ ap (λ (xs : List ℕ). set xs j (get_or xs j 0 + g (words_of work n))) is
          ∙ ap (λ k. set (so_far n) k (get_or (so_far n) k 0 + g (words_of work n))) same
          ∙ sym (counted n)

-- a number of one ticket fits beside those of the tickets before it
pub room : (work : Work) → IsWork work → (n x y : ℕ) → n < all_tickets work → x ≤ n * 36700160
    → y ≤ 36700160 → x + y < 2 ^ 64
room work is n x y less before own =
    let all = mul-le work.rounds (files_in work) 1000 4096 is.rounds is.few in
    let most : n * 36700160 ≤ 4096000 * 36700160 = omega arith in
    omega arith

-- PIECES AND SLOTS
module _ (work : Work) (lanes : ℕ) (some' : 0 < lanes) where
  pub pieces_together : sum (by_lane (λ words. length words) work lanes)
      ≡ work.rounds * all_pieces work
  pieces_together =
      together (λ (f : File). length f) refl (λ us vs. length-append us vs) work lanes some'
      (all_tickets work)
      ∙ of_rounds (λ (f : File). length f) work work.rounds

  pub parts_together : sum (by_lane slots_of_words work lanes) ≡ work.rounds * all_parts work
  parts_together =
      together slots_of_words refl (λ us vs. sum_by-append slots_of_word us vs) work lanes some'
      (all_tickets work)
      ∙ of_rounds slots_of_words work work.rounds
