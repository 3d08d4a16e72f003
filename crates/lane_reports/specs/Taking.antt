-- What seat 0 pops that no lane popped.
use Rattle.std.specs.Prelude.{ℕ, ◌≡◌, ◌≤◌, ◌+◌, ◌*◌, List, [], ◌∷◌}
use Rattle.std.specs.List.{sum_by}
use Rattle.domain_audit.specs.acquire_retire.Seats.{SeatState}
use Rattle.words_rest.specs.words_law.Views.{View}
use Rattle.tally_sums.specs.cdrc_text.Tally.{count_of, total_of}
use Rattle.lane_domain.specs.lane_files.Passed.{Takes}
use Rattle.lane_domain.specs.lane_files.lane_work.declared.work.Work.{Work}
use Rattle.lane_domain.specs.Sizes.{all_pieces}
use Rattle.tally_sums.specs.Sums.{Tallies}

-- the seat popped so many items and nothing else, and a new tally counted their words
pub record CountsRest (most : ℕ) (old new : SeatState View) (tally : List (List ℕ × ℕ))
    : Type 0 where
  pub before : List (List ℕ × ℕ)
  pub none : (w : List ℕ) → count_of before w ≡ 0
  pub sum : total_of before ≡ 0
  pub takes : Takes [] most old.view.client new.view.client before tally

-- The tallies are that one and then these. Together with these it counts all pieces of all rounds, or more.
pub record TakesRest (work : Work) (old new : SeatState View) (lanes tallies : Tallies)
    : Type 0 where
  pub first : List (List ℕ × ℕ)
  pub most : ℕ
  pub rest : CountsRest most old new first
  pub are : tallies ≡ first ∷ lanes
  pub enough : work.rounds * all_pieces work ≤ most + sum_by total_of lanes
