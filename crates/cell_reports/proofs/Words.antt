-- The words that were counted: each is a word of the work, which the view of the seat that keeps their records tells.
use Rattle.std.proofs.Common.{◌≡◌, inl, inr, ℕ, ◌*◌, ◌<◌, ◌≤◌, Bool, true, false, List, [], ◌∷◌, refl, sym, ap, subst, arith, get_or, mul-le-mul_left}
use Rattle.std.specs.Prelude.{All, cond, length, nat_lt}
use Rattle.std.specs.Str.{bytes_eq}
use Rattle.std.specs.Cmp.Lexicographic.{bytes_decides}
use Rattle.std.proofs.lemmas.Bool.{cases_lt}
use Rattle.std.proofs.lemmas.List.{get_or_default}
use Rattle.std.proofs.lemmas.List.Elements.{All-head, All-map, All-tail}
use Rattle.std.proofs.lemmas.List.Sums.{count_by-le-length, sum_by-cons, sum_by-le-sum_by}
use Rattle.cell_gathering.proofs.Told.{word_is_told}
use Rattle.cell_gathering.specs.cdrc_text.Fold.{File, holders_in, times}
use Rattle.cell_records.specs.cell_law.declared.view.View.{View}
use Rattle.cell_records.specs.Records.{AreTold, AreWords}
use Rattle.cell_records.specs.epoch_refs.epoch_domain.Seats.{SeatState}
use Rattle.cell_records.specs.lane_work.FilePieces.{HasPieces, pieces_in}
use Rattle.cell_records.specs.lane_work.Keeping.{slots_of}
use Rattle.cell_records.specs.lane_work.Sizes.{IsWithinLimits, all_pieces, texts_in}
use Rattle.cell_records.specs.lane_work.Work.{IsWork}
use Rattle.cell_records.specs.lane_work.counted_handles.Handles.{Handle}
use Rattle.cell_records.specs.lane_work.declared.work.Work.{Work}
use Rattle.cell_records.proofs.Below.lane_work_Pieces.{pieces_many, sized}
use Rattle.cell_records.specs.tally_sums.Sums.{Tallies, counted_in}
use Rattle.cell_records.proofs.Below.cdrc_text_Listed.{occurs-held}
use Rattle.cell_reports.specs.Counted.{HasCounted}

-- 1 to 4,096 bytes
abbrev pub IsSized : List ℕ → Type 0
IsSized w = (1 ≤ length w) × (length w ≤ 4096)

abbrev AreSized : File → Type 0
AreSized words = All IsSized words

-- what is so of each word is so of one that is among them
sized_in : (w : List ℕ) (words : File) → AreSized words → 0 < times w words → IsSized w
sized_in w [] each some = absurd (omega (arith, some))
sized_in w (x ∷ words) each some =
    by_test (bytes_eq w x) refl (sized_in w words (All-tail IsSized x words each))
  where
    by_test : (b : Bool) → bytes_eq w x ≡ b → (0 < times w words → IsSized w) → IsSized w
    by_test true is rest =
        subst IsSized (sym ((bytes_decides w x).0 is)) (All-head IsSized x words each)
    by_test false is rest =
        let all = sum_by-cons (λ (y : List ℕ). cond (bytes_eq w y) 1 0) x words in
        let none = ap (λ (b : Bool). cond {A = ℕ} b 1 0) is in
        rest (omega (arith, some, all, none))

-- and so is what is so of each word of each file
sized_held : (w : List ℕ) (files : List File) → All AreSized files → 0 < holders_in w files
    → IsSized w
sized_held w [] each some = absurd (omega (arith, some))
sized_held w (f ∷ files) each some = elim (cases_lt 0 (times w f)) [
  | inl here ↦ sized_in w f (All-head AreSized f files each) here
  | inr none ↦
      let all = sum_by-cons (λ (g : File). cond (nat_lt 0 (times w g)) 1 0) f files in
      let first = no_holder (times w f) none in
      sized_held w files (All-tail AreSized f files each) (omega (arith, some, all, first))
]
  where
    no_holder : (n : ℕ) → n ≤ 0 → ◌≡◌ {A = ℕ} (cond (nat_lt 0 n) 1 0) 0
    no_holder n none = grind arith

module _ (work : Work) (is : IsWork work) where
  work_sized : All AreSized (texts_in work)
  work_sized = All-map AreSized pieces_in work.files.items (λ k d inside.
      let file = get_or work.files.items k d in
      let has : HasPieces file = is.pieces k d inside in
      λ n other less. let same = pieces_many file in
      subst IsSized (at_other (pieces_in file) n other less)
      (sized file has n (omega (arith, less, same))))
    where
      at_other : (xs : List (List ℕ)) (n : ℕ) (other : List ℕ) → n < length xs
          → get_or xs n [] ≡ get_or xs n other
      at_other xs n other less = get_or_default xs n [] other less

  pub word_sized : (w : List ℕ) → 0 < holders_in w (texts_in work) → IsSized w
  word_sized w held = sized_held w (texts_in work) work_sized held

  module _ (kept : List Handle) (tallies : Tallies) (root : SeatState View)
      (counted : HasCounted work kept tallies root) where
    -- what was counted has a file
    pub counted_held : (w : List ℕ) → 0 < counted_in tallies w → 0 < holders_in w (texts_in work)
    counted_held w some =
        let all = counted.counts w in
        occurs-held w work.rounds (texts_in work) (omega (arith, some, all))

    few_counted : (w : List ℕ) → counted_in tallies w ≤ work.rounds * all_pieces work
    few_counted w =
        let all = counted.counts w in
        let most = sum_by-le-sum_by (λ (f : File). times w f) (λ (f : File). length f)
        (texts_in work) (λ f. count_by-le-length (bytes_eq w) f) in
        let more = mul-le-mul_left work.rounds most in omega (arith, all, more)

    pub are_words : IsWithinLimits work → AreWords tallies
    are_words within w some =
        let size = word_sized w (counted_held w some) in
        let few = few_counted w in
        let most = within.interns in (size.0, size.1, omega (arith, few, most))

    pub are_told : AreTold tallies root.view.client
    are_told w some =
        let told = word_is_told work counted.lanes is.once counted.some (slots_of kept)
        root.view.client counted.tells w (counted_held w some) in
        (told.0, told.2)
