-- What contracts see of a sink in memory whose calls can be made to fail.
use Rattle.std.specs.Prelude.{ℕ, List}

pub record FailingSink : Type 0 where
  -- all bytes that it took
  pub taken : List ℕ
  -- how many bytes one call takes at most
  pub most : ℕ
  -- the numbers of the calls that are to fail
  pub failing : List ℕ
  -- how many calls were made, which is the number of the next one
  pub calls : ℕ
  pub faults : ℕ
