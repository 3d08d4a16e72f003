-- Sums over files, and the limits.
use Rattle.std.proofs.Common.{◌≡◌, ℕ, zero, suc, ◌+◌, ◌*◌, ◌≤◌, List, [], ◌∷◌, ◌++◌, length, map, get_or, refl, ap, ◌∙◌, arith}
use Rattle.std.proofs.Math.Nat.{mul-le-mul_left}
use Rattle.std.proofs.lemmas.List.Sums.{sum_by-append, sum_by-cons}
use Rattle.lane_work.specs.cdrc_text.Fold.{File}
use Rattle.lane_work.specs.Sizes.{all_parts, all_pieces, texts_in}
use Rattle.lane_work.specs.cdrc_text.Pieces.{pieces_of}
use Rattle.lane_work.specs.declared.work.Work.{Work}
use Rattle.file_work.specs.Limits.{IsWorkOn, most_of, pieces_in_all, slots_needed}

pub pieces_push : (files : List File) (file : File)
    → pieces_in_all (files ++ file ∷ []) ≡ pieces_in_all files + length file
pieces_push files file =
    let a = sum_by-append (λ (f : File). length f) files (file ∷ []) in
    let b = sum_by-cons (λ (f : File). length f) file [] in omega arith

pub pieces_front : (files more : List File)
    → pieces_in_all (files ++ more) ≡ pieces_in_all files + pieces_in_all more
pieces_front files more = sum_by-append (λ (f : File). length f) files more

-- each file has at most as many pieces as all
pub one_of_all : (files : List File) (n : ℕ) → length (get_or files n []) ≤ pieces_in_all files
one_of_all [] n = omega arith
one_of_all (f ∷ fs) zero =
    let a = sum_by-cons (λ (f : File). length f) f fs in omega arith
one_of_all (f ∷ fs) (suc n) =
    let a = sum_by-cons (λ (f : File). length f) f fs in
    let b = one_of_all fs n in omega arith

-- so many slots serve the work on some contents
pub most_is : (rounds : ℕ) (contents : List (List ℕ)) (work : Work) → IsWorkOn rounds contents work
    → most_of work ≡ slots_needed rounds (map pieces_of contents)
most_is rounds contents work on =
    ap (λ (n : ℕ). slots_needed n (texts_in work)) on.often ∙ ap (slots_needed rounds) on.texts

-- so they have one for each part of each piece in all rounds
pub parts_fit : (work : Work) → work.rounds * all_parts work ≤ most_of work
parts_fit work =
    let less : all_parts work ≤ all_pieces work + all_parts work = omega arith in
    let more = mul-le-mul_left work.rounds less in omega (arith, more)
