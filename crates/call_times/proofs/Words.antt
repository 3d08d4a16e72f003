-- A list of two words.
use Rattle.std.proofs.Common.{◌≡◌, ◌<◌, ◌≤◌, List, [], ◌∷◌, get_or, length, map, arith}

pub two_items : {A B : Type 0} (f : A → B) (xs : List A) (a b : A) → 2 ≤ length xs
    → length xs < 3 → a ≡ get_or xs 0 a → b ≡ get_or xs 1 b → map f xs ≡ f a ∷ f b ∷ []
two_items f [] a b least most first second = absurd (omega arith)
two_items f (x ∷ []) a b least most first second = absurd (omega arith)
two_items f (x ∷ y ∷ []) a b least most first second = cc
two_items f (x ∷ y ∷ z ∷ rest) a b least most first second = absurd (omega arith)
