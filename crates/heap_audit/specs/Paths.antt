-- Going on in steps of a relation.
use Rattle.std.specs.Prelude.{◌≡◌, ◌⊎◌, List, [], ◌∷◌}

-- in steps of R, from x by way of each of ys in turn, and then to z
abbrev pub Path : {A : Type 0} → (A → A → Type 0) → A → List A → A → Type 0
Path R x [] z = R x z
Path R x (y ∷ ys) z = R x y × Path R y ys z

-- in any number of steps, none among them
abbrev pub LeadsTo : {A : Type 0} → (A → A → Type 0) → A → A → Type 0
LeadsTo {A = A} R x z = (x ≡ z) ⊎ ((ys : List A) × Path R x ys z)
