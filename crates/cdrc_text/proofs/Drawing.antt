-- One word more of those that a seed draws.
use Rattle.std.proofs.Common.{◌≡◌, ℕ, suc, ◌+◌, List, [], ◌∷◌, ◌++◌, map, refl, sym, ap, ◌∙◌, arith, rules}
use Rattle.std.proofs.lemmas.Grind.{flat_map-append}
use Rattle.std.proofs.lemmas.List.Folds.{flat_map-map}
use Rattle.std.proofs.lemmas.List.FromFn.{map-range_with_len_more}
use Rattle.std.specs.List.{flat_map, range_with_len}
use Rattle.cdrc_text.specs.Generated.{draw, drawn_part, generated_text, next_draw}

pub drawn_first : (seed : ℕ) → draw seed 0 ≡ seed
unfolding draw
drawn_first seed = refl

pub drawn_next : (seed k : ℕ) → draw seed (k + 1) ≡ next_draw (draw seed k)
unfolding draw
drawn_next seed k = let next : k + 1 ≡ suc k = omega arith in ap (draw seed) next

single : {A : Type 0} (piece : List A) → flat_map (λ (xs : List A). xs) (piece ∷ []) ≡ piece
single piece = search rules

-- the parts of one number more
parts-more : (part : ℕ → List ℕ) (k : ℕ)
    → flat_map part (range_with_len 1 (k + 1)) ≡ flat_map part (range_with_len 1 k) ++ part (k + 1)
parts-more part k =
    let itself = λ (xs : List ℕ). xs in
    let before = map part (range_with_len 1 k) in
    sym (flat_map-map itself part (range_with_len 1 (k + 1)))
    ∙ ap (flat_map itself) (map-range_with_len_more part 1 k (k + 1) (omega arith))
    ∙ flat_map-append itself before (part (k + 1) ∷ [])
    ∙ ap (λ last. flat_map itself before ++ last) (single (part (k + 1)))
    ∙ ap (λ first. first ++ part (k + 1)) (flat_map-map itself part (range_with_len 1 k))

pub drawn_more : (seed many vocabulary k : ℕ)
    → flat_map (drawn_part seed many vocabulary) (range_with_len 1 (k + 1))
    ≡ flat_map (drawn_part seed many vocabulary) (range_with_len 1 k) ++ drawn_part seed many vocabulary (k + 1)
drawn_more seed many vocabulary k = parts-more (drawn_part seed many vocabulary) k

-- after the last word stands the whole text
pub drawn_all : (seed many vocabulary k : ℕ) → k ≡ many
    → flat_map (drawn_part seed many vocabulary) (range_with_len 1 k) ≡ generated_text seed many vocabulary
unfolding generated_text
drawn_all seed many vocabulary k is = ap (λ n. flat_map (drawn_part seed many vocabulary) (range_with_len 1 n)) is
