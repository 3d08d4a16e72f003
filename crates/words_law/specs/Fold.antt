-- Which pieces each lane takes of the files that lanes share, and what is added up over seats. A file is told by its
-- pieces.
use Rattle.std.specs.Prelude.{ℕ, zero, suc, ◌+◌, ◌==◌, cond, List, [], ◌++◌, ◌∷◌}
use Rattle.std.specs.List.{flat_map}
use Rattle.cdrc_text.specs.Fold.{File}

-- a list so many times over
unfoldable pub again : {A : Type 0} → ℕ → List A → List A
again zero xs = []
again (suc n) xs = xs ++ again n xs

-- of files from number k on, those that seat n takes
unfoldable pub taken_by : (ℕ → ℕ) → ℕ → ℕ → List File → List File
taken_by taker n k [] = []
taken_by taker n k (f ∷ fs) =
    cond (taker k == n) (f ∷ taken_by taker n (k + 1) fs) (taken_by taker n (k + 1) fs)

-- the pieces that seat n takes in so many rounds
abbrev pub taken_pieces : (ℕ → ℕ) → ℕ → List File → ℕ → List (List ℕ)
taken_pieces taker rounds files n =
    again rounds (flat_map (λ (f : File). f) (taken_by taker n 0 files))

-- a number of each of the first n seats, added up
unfoldable pub added : (ℕ → ℕ) → ℕ → ℕ
added f zero = 0
added f (suc n) = added f n + f n

-- a list of each of the first n seats, one after the other
unfoldable pub gathered : {A : Type 0} → (ℕ → List A) → ℕ → List A
gathered f zero = []
gathered f (suc n) = gathered f n ++ f n
