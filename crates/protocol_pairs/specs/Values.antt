-- The value of an object is its payload.
use Rattle.std.specs.Prelude.{ℕ, List, [], ◌∷◌, Option, Some, None}
use Rattle.plain_protocol.specs.Owns.{Object}

-- the value of an object, if the seat has it
abbrev pub value_of : Option Object → List (List ℕ)
value_of None = []
value_of (Some o) = o.payload ∷ []
