-- What a seat learns of its protocol's law.
use Rattle.std.specs.Prelude.{◌≡◌, ℕ, ◌<◌, List, length, slice_index_or}
use Rattle.plain_protocol.specs.plain_state.State.{Plain}
use Rattle.plain_protocol.specs.Laws.{Meets}

-- the law holds of the state and of the views of all seats, and seat n has this view
pub record HoldsOf {V : Type 0} (law : Plain → List V → Type 0) (gone : V) (p : Plain) (n : ℕ)
    (v : V) : Type 0 where
  pub views : List V
  pub meets : Meets law p views
  pub there : n < length views
  pub own : slice_index_or views n gone ≡ v
