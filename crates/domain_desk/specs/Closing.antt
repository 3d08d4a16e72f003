-- What a seat has when all handles were given up.
use Rattle.std.specs.Prelude.{◌≡◌, []}
use Rattle.script_desk.specs.plain_state.State.{PlainSeat}

-- it owns nothing, owns nothing weakly, and is under no snapshot
pub record HasNoHandles (v : PlainSeat) : Type 0 where
  pub owned : v.owned ≡ []
  pub weaks : v.weaks ≡ []
  pub snapshots : v.snapshots ≡ []
