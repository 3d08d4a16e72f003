-- How many objects are made for words, and what the tickets of their files grant.
use Rattle.std.proofs.Common.{◌≡◌, suc, ℕ, ◌+◌, ◌<◌, ◌≤◌, List, [], ◌∷◌, ◌++◌, arith}
use Rattle.std.specs.Prelude.{All, length, slice_index_or, take}
use Rattle.std.specs.List.{flat_map}
use Rattle.std.proofs.lemmas.List.{length-append, length-take-le, take_more}
use Rattle.std.proofs.lemmas.List.Sums.{sum_by-append, sum_by-cons, sum_by-take-le}
use Rattle.control_word.specs.core_events.Views.{granted}
use Rattle.words_protocol.specs.cdrc_text.Text.{slots_of_word}
use Rattle.lane_files.specs.lane_work.declared.work.Work.{Work}
use Rattle.lane_files.specs.Makes.{GrantsMakes, makes_for}
use Rattle.lane_files.specs.Work.{all_tickets, words_of, words_of_all}

pub makes_none : makes_for [] ≡ 0
makes_none = omega arith

pub makes_both : (us ws : List (List ℕ)) → makes_for (us ++ ws) ≡ makes_for us + makes_for ws
makes_both us ws =
    let l = length-append us ws in let s = sum_by-append slots_of_word us ws in omega arith

pub makes_one : (w : List ℕ) → makes_for (w ∷ []) ≡ slots_of_word w + 1
makes_one w = let s = sum_by-cons slots_of_word w [] in omega arith

pub makes_more : (ws : List (List ℕ)) (w : List ℕ)
    → makes_for (ws ++ w ∷ []) ≡ makes_for ws + slots_of_word w + 1
makes_more ws w = let b = makes_both ws (w ∷ []) in let o = makes_one w in omega arith

-- some words, and the next one
pub makes_next : (words : List (List ℕ)) (n : ℕ) → n < length words
    → makes_for (take n words) + slots_of_word (slice_index_or words n []) + 1
    ≤ makes_for words
makes_next words n fewer =
    let next = take_more words n [] fewer in
    let more = makes_more (take n words) (slice_index_or words n []) in
    let slots = sum_by-take-le slots_of_word words (n + 1) in
    let many = length-take-le (n + 1) words (omega (arith, fewer)) in
    let same : makes_for (take (n + 1) words)
    ≡ makes_for (take n words ++ slice_index_or words n [] ∷ []) = cc in
    omega arith

-- TICKETS
pub tickets_grant : (grants : List ℕ) (work : Work) → GrantsMakes grants work → (ts : List ℕ)
    → All (λ ticket. ticket < all_tickets work) ts
    → makes_for (words_of_all work ts) ≤ granted grants ts
unfolding words_of_all
tickets_grant grants work enough [] inside = let n = makes_none in omega arith
tickets_grant grants work enough (t ∷ ts) inside =
    let first = enough t (inside 0 0 (omega arith)) in
    let others = tickets_grant grants work enough ts
    (λ k d less. inside (suc k) d (omega (arith, less))) in
    let both = makes_both (words_of work t) (flat_map (words_of work) ts) in
    let all = sum_by-cons (λ (x : ℕ). slice_index_or grants x 0) t ts in
    omega arith

pub granted_both : (grants ts us : List ℕ)
    → granted grants (ts ++ us) ≡ granted grants ts + granted grants us
granted_both grants ts us = sum_by-append (λ (x : ℕ). slice_index_or grants x 0) ts us
