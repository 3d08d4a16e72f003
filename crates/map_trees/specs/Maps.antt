-- Maps as lists of pairs in ascending order of their keys: what a key has, changes, and many changes in order.
use Rattle.std.specs.Prelude.{◌≡◌, ℕ, ◌+◌, ◌-◌, ◌^◌, ◌==◌, List, [], ◌∷◌, min, nat_lt, if◌then◌else◌, Option, Some, None}
use Rattle.map_trees.specs.declared.change.Change.{Change}
use Rattle.map_trees.specs.declared.change.Entry.{Entry}
use Rattle.map_trees.specs.declared.change.Change.TheVariants as change
use Rattle.map_trees.specs.Trees.{Pair, pair}

-- the value of a key
abbrev pub get : ℕ → List Pair → Option ℕ
get k [] = None
get k (x ∷ xs) = if x.key == k then Some x.value else get k xs

-- the least pair with at least this key
abbrev pub next : ℕ → List Pair → Option Pair
next k [] = None
next k (x ∷ xs) = if nat_lt x.key k then next k xs else Some x

-- the first of two that is there
abbrev pub or_else : Option Pair → Option Pair → Option Pair
or_else None b = b
or_else (Some x) b = Some x

-- the map in which this key has this value
abbrev pub put : ℕ → ℕ → List Pair → List Pair
put k v [] = pair k v ∷ []
put k v (x ∷ xs) = if nat_lt k x.key
    then pair k v ∷ x ∷ xs
    else (if x.key == k then pair k v ∷ xs else x ∷ put k v xs)

-- the map without this key
abbrev pub take : ℕ → List Pair → List Pair
take k [] = []
take k (x ∷ xs) = if x.key == k then xs else x ∷ take k xs

-- the number of a key that may be absent
abbrev pub or_zero : Option ℕ → ℕ
or_zero None = 0
or_zero (Some v) = v

-- a key's number with d added, at most 2^64 - 1
abbrev pub bumped : ℕ → Option ℕ → ℕ
bumped d v = min (2 ^ 64 - 1) (or_zero v + d)

-- the map after one change of one key
abbrev pub changed : ℕ → Change → List Pair → List Pair
changed k (change.Put v) m = put k v m
changed k (change.Bump d) m = put k (bumped d (get k m)) m
changed k change.Take m = take k m

-- the map after the changes of some entries, the first one first
abbrev pub replayed : List Pair → List Entry → List Pair
replayed m [] = m
replayed m (e ∷ es) = replayed (changed e.key e.change m) es

-- each entry's answer is what its key had before its change
abbrev pub Answers : List Pair → List Entry → Type 0
Answers m [] = Unit {0}
Answers m (e ∷ es) = (e.answer ≡ get e.key m) × Answers (changed e.key e.change m) es
