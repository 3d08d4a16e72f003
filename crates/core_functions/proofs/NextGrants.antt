-- What the next ticket grants is among what all grant.
use Rattle.std.proofs.Common.{◌≡◌, ℕ, ◌+◌, ◌<◌, List, length, get_or, take, arith}
use Rattle.std.specs.Prelude.{slice_index_or}
use Rattle.std.proofs.lemmas.List.Sums.{sum_by_more_le}
use Rattle.core_events.specs.Views.{granted}

pub next_granted : (gs ts : List ℕ) (i left used : ℕ) → i < length ts
    → left + granted gs (take i ts) ≡ used → left < slice_index_or gs (get_or ts i 0) 0
    → used < granted gs ts
next_granted gs ts i left used h so less =
    omega (arith, sum_by_more_le (λ t. slice_index_or gs t 0) ts i 0 h)
