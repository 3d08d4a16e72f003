-- How many pieces and slots the files of some work have at most.
use Rattle.std.proofs.Common.{◌≡◌, ℕ, ◌+◌, ◌*◌, ◌%◌, ◌<◌, ◌≤◌, List, [], subst, arith}
use Rattle.std.specs.Prelude.{All, length, slice_index_or, sum_by, take}
use Rattle.std.proofs.lemmas.List.{get_or_default, length-map}
use Rattle.std.proofs.lemmas.List.Elements.{All-get_or, All-map}
use Rattle.std.proofs.lemmas.List.Sums.{sum_by-le, sum_by-take-le, sum_by_more}
use Rattle.std.proofs.lemmas.Nat.{mul-le}
use Rattle.cdrc_text.specs.Fold.{File}
use Rattle.cdrc_text.specs.Text.{slots_of_word}
use Rattle.lane_work.specs.declared.file.FileText.{FileText}
use Rattle.lane_work.specs.declared.work.Work.{Work}
use Rattle.lane_work.specs.FilePieces.{HasPieces, pieces_in}
use Rattle.lane_work.specs.Work.{IsWork, files_in, words_of}
use Rattle.lane_work.proofs.Pieces.{pieces_many, sized}
use Rattle.lane_work.specs.Sizes.{all_parts, all_pieces, parts_in, slots_of_words, texts_in}
use Rattle.lane_work.proofs.Sums.{at_most, of_files, of_tickets}

few_slots : (w : List ℕ) → length w ≤ 4096 → slots_of_word w ≤ 35
few_slots w less = omega arith

-- OF A FILE
module _ (file : FileText) (has : HasPieces file) where
  each_few : All (λ w. slots_of_word w ≤ 35) (pieces_in file)
  each_few k other low =
      let many = pieces_many file in
      subst (λ (w : List ℕ). slots_of_word w ≤ 35) (get_or_default (pieces_in file) k [] other low)
      (few_slots (slice_index_or (pieces_in file) k [])
      (sized file has k (omega (arith, many, low))).1)

  pub parts_few : parts_in file ≤ length (pieces_in file) * 35
  parts_few = sum_by-le slots_of_word 35 (pieces_in file) each_few

  module _ (n : ℕ) where
    pub parts_so_far : sum_by slots_of_word (take n (pieces_in file)) ≤ length (pieces_in file) * 35
    parts_so_far =
        let all = parts_few in let part = sum_by-take-le slots_of_word (pieces_in file) n in
        omega arith

    pub one_part : n < length file.pieces
        → sum_by slots_of_word (take (n + 1) (pieces_in file))
        ≡ sum_by slots_of_word (take n (pieces_in file))
        + slots_of_word (slice_index_or (pieces_in file) n [])
    one_part there =
        let many = pieces_many file in
        sum_by_more slots_of_word (pieces_in file) n [] (omega (arith, many, there))

-- OF ALL FILES
module _ (work : Work) (is : IsWork work) where
  pub ticket_slots : (t : ℕ) → slots_of_words (words_of work t) ≤ 36700160
  ticket_slots t =
      let many = length-map work.files.items pieces_in in let some = is.some in
      let there : t % files_in work < length (texts_in work) = omega (arith, many, some) in
      let few = All-get_or (λ (f : File). slots_of_words f ≤ length f * 35) (texts_in work)
      (t % files_in work) [] there
      (All-map (λ (f : File). slots_of_words f ≤ length f * 35) pieces_in work.files.items
      (λ k other low. parts_few (slice_index_or work.files.items k other) (is.pieces k other low)))
      in
      let most = is.sizes t in omega arith

  pub pieces_upto : (n : ℕ) → of_tickets (λ (f : File). length f) work n ≤ n * 1048576
  pieces_upto n =
      at_most (λ (f : File). length f) work 1048576 (λ t. let s = is.sizes t in omega arith) n

  pub slots_upto : (n : ℕ) → of_tickets slots_of_words work n ≤ n * 36700160
  slots_upto n = at_most slots_of_words work 36700160 ticket_slots n

  pub pieces_most : all_pieces work ≤ 4294967296
  pieces_most =
      let e = of_files (λ (f : File). length f) work in let most = pieces_upto (files_in work) in
      let few = is.few in omega arith

  pub slots_most : all_parts work ≤ 150323855360
  slots_most =
      let e = of_files slots_of_words work in let most = slots_upto (files_in work) in
      let few = is.few in omega arith

  pub interns_most : work.rounds * all_pieces work ≤ 4294967296000
  interns_most = mul-le work.rounds (all_pieces work) 1000 4294967296 is.rounds pieces_most

  pub makes_most : work.rounds * (all_pieces work + all_parts work) ≤ 154618822656000
  makes_most =
      let p = pieces_most in let s = slots_most in
      mul-le work.rounds (all_pieces work + all_parts work) 1000 154618822656 is.rounds
      (omega arith)
