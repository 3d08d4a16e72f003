-- How much tallies counted.
use Rattle.std.proofs.Common.{◌≡◌, ℕ, ◌+◌, List, [], ◌∷◌, ◌++◌, ap, ◌∙◌}
use Rattle.std.proofs.lemmas.List.Sums.{sum_by_push}
use Rattle.std.specs.List.{sum_by}
use Rattle.tally_sums.specs.cdrc_text.Tally.{total_of}
use Rattle.tally_sums.specs.Sums.{Tallies}

-- one tally more
pub tallies_push : (all front : Tallies) (t : List (List ℕ × ℕ)) → all ≡ front ++ t ∷ []
    → sum_by total_of all ≡ sum_by total_of front + total_of t
tallies_push all front t more = ap (sum_by total_of) more ∙ sum_by_push total_of front t
