-- Lists of lanes, with one lane more.
use Rattle.std.proofs.Common.{◌≡◌, ℕ, zero, suc, ◌+◌, List, [], ◌∷◌, ◌++◌, refl, sym, ap, ◌∙◌, arith, append_assoc}
use Rattle.std.specs.Prelude.{length}
use Rattle.std.specs.List.{range_with_len}
use Rattle.std.proofs.lemmas.List.{append-nil, map_push}
use Rattle.std.proofs.lemmas.List.Concat.{flat_map-append}
use Rattle.words_rest.specs.queue_law.declared.view.Item.{Item}
use Rattle.words_rest.specs.queue_law.declared.view.Taken.{Taken}
use Rattle.words_rest.specs.queue_law.Lists.{taken_items}
use Rattle.ticket_shares.specs.Tickets.{AreLanes, IsShare, together}
use Rattle.lane_domain.specs.lane_files.Passed.{by_seat}
use Rattle.lane_domain.specs.lane_files.lane_work.declared.work.Work.{Work}
use Rattle.lane_domain.specs.lane_files.Work.{words_of, words_of_all}
use Rattle.lane_reports.specs.Deeds.{IsTallyOf, LaneDeeds}
use Rattle.lane_reports.specs.Gathering.{AreTallies, each_by, shares_of, words_popped}

-- the items of what a seat did
pub items_by : (n : ℕ) (xs : List Item) → taken_items (by_seat n xs) ≡ xs
unfolding by_seat
items_by n [] = refl
items_by n (x ∷ xs) = ap (λ (l : List Item). x ∷ l) (items_by n xs)

pub each_none : (f : LaneDeeds → List Item) (n : ℕ) → each_by f n [] ≡ []
unfolding each_by
each_none f n = refl

pub each_push : (f : LaneDeeds → List Item) (n : ℕ) (xs : List LaneDeeds) (x : LaneDeeds)
    → each_by f n (xs ++ x ∷ []) ≡ each_by f n xs ++ by_seat (n + length xs) (f x)
unfolding each_by
each_push f n [] x =
    append-nil (by_seat n (f x)) ∙ ap (λ k. by_seat k (f x)) (omega arith)
each_push f n (y ∷ xs) x =
    ap (λ (l : List Taken). by_seat n (f y) ++ l) (each_push f (n + 1) xs x)
    ∙ sym (append_assoc (by_seat n (f y)) (each_by f (n + 1) xs) (by_seat (n + 1 + length xs) (f x)))
    ∙ ap (λ k. (by_seat n (f y) ++ each_by f (n + 1) xs) ++ by_seat k (f x)) (omega arith)

pub numbers_push : (n k : ℕ) → range_with_len n (k + 1) ≡ range_with_len n k ++ (n + k) ∷ []
numbers_push n zero = ap (λ (m : ℕ). m ∷ []) (omega arith)
numbers_push n (suc k) =
    let one : suc k + 1 ≡ suc (k + 1) = omega arith in
    ap (range_with_len n) one
    ∙ ap (λ (l : List ℕ). n ∷ l)
    (numbers_push (n + 1) k ∙ ap (λ (m : ℕ). range_with_len (n + 1) k ++ m ∷ []) (omega arith))

pub together_push : (xs : List LaneDeeds) (x : LaneDeeds)
    → together (shares_of (xs ++ x ∷ [])) ≡ together (shares_of xs) ++ x.tickets
together_push xs x =
    ap together (map_push (λ (y : LaneDeeds). y.tickets) xs x)
    ∙ flat_map-append (λ (ts : List ℕ). ts) (shares_of xs) (x.tickets ∷ [])
    ∙ ap (λ (l : List ℕ). together (shares_of xs) ++ l) (append-nil x.tickets)

pub words_push : (work : Work) (ts us : List ℕ)
    → words_of_all work (ts ++ us) ≡ words_of_all work ts ++ words_of_all work us
unfolding words_of_all
words_push work ts us = flat_map-append (words_of work) ts us

pub words_none : (work : Work) → words_of_all work [] ≡ []
unfolding words_of_all
words_none work = refl

pub popped_push : (xs : List LaneDeeds) (x : LaneDeeds)
    → words_popped (xs ++ x ∷ []) ≡ words_popped xs ++ x.words
popped_push xs x =
    flat_map-append (λ (y : LaneDeeds). y.words) xs (x ∷ [])
    ∙ ap (λ (l : List (List ℕ)). words_popped xs ++ l) (append-nil x.words)

pub lanes_push : (most : ℕ) (ds : List (List ℕ)) (d : List ℕ) (ss : List (List ℕ)) (s : List ℕ)
    → AreLanes most ds ss → IsShare most d s → AreLanes most (ds ++ d ∷ []) (ss ++ s ∷ [])
lanes_push most [] d [] s lanes one = (one, tt)
lanes_push most [] d (x ∷ ss) s lanes one = absurd lanes
lanes_push most (x ∷ ds) d [] s lanes one = absurd lanes
lanes_push most (x ∷ ds) d (y ∷ ss) s lanes one =
    (lanes.0, lanes_push most ds d ss s lanes.1 one)

pub tallies_push : (xs : List LaneDeeds) (x : LaneDeeds) (ts : List (List (List ℕ × ℕ)))
    (t : List (List ℕ × ℕ)) → AreTallies xs ts → IsTallyOf x.words t
    → AreTallies (xs ++ x ∷ []) (ts ++ t ∷ [])
tallies_push [] x [] t all one = (one, tt)
tallies_push [] x (u ∷ ts) t all one = absurd all
tallies_push (y ∷ xs) x [] t all one = absurd all
tallies_push (y ∷ xs) x (u ∷ ts) t all one = (all.0, tallies_push xs x ts t all.1 one)
