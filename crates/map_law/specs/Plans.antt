-- What calls do with patterns: find a key, find the least pair from a key on, and join two subtrees. None where a
-- subtree would have to be read first.
use Rattle.std.specs.Prelude.{ℕ, suc, ◌==◌, max, nat_lt, if◌then◌else◌, Option, Some, None}
use Rattle.map_trees.specs.Trees.{Pair, pair}
use Rattle.map_law.specs.Patterns.{Pattern, null, hole, branch}

abbrev pub height_of : Pattern → ℕ
height_of null = 0
height_of (hole s h) = h
height_of (branch k v h l r) = h

-- the value of a key
abbrev pub look : ℕ → Pattern → Option (Option ℕ)
look k null = Some None
look k (hole s h) = None
look k (branch a d h l r) = if nat_lt k a
    then look k l
    else (if a == k then Some (Some d) else look k r)

-- the least pair with at least this key, or what was best so far
abbrev pub seek : ℕ → Option Pair → Pattern → Option (Option Pair)
seek k best null = Some best
seek k best (hole s h) = None
seek k best (branch a d h l r) = if nat_lt a k
    then seek k best r
    else seek k (Some (pair a d)) l

-- a node over two patterns
abbrev pub over_both : ℕ → ℕ → Pattern → Pattern → Pattern
over_both k v l r = branch k v (suc (max (height_of l) (height_of r))) l r

-- a pair between l and r, where l is higher by 2
abbrev pub inner_left : ℕ → ℕ → ℕ → ℕ → Pattern → Pattern → Pattern → Option Pattern
inner_left k v a b ll null r = None
inner_left k v a b ll (hole s h) r = None
inner_left k v a b ll (branch c d i ml mr) r =
    Some (over_both c d (over_both a b ll ml) (over_both k v mr r))

abbrev pub tilt_left : ℕ → ℕ → Pattern → Pattern → Option Pattern
tilt_left k v null r = None
tilt_left k v (hole s h) r = None
tilt_left k v (branch a b h ll lr) r = if nat_lt (height_of ll) (height_of lr)
    then inner_left k v a b ll lr r
    else Some (over_both a b ll (over_both k v lr r))

-- a pair between l and r, where r is higher by 2
abbrev pub inner_right : ℕ → ℕ → ℕ → ℕ → Pattern → Pattern → Pattern → Option Pattern
inner_right k v a b l null rr = None
inner_right k v a b l (hole s h) rr = None
inner_right k v a b l (branch c d i ml mr) rr =
    Some (over_both c d (over_both k v l ml) (over_both a b mr rr))

abbrev pub tilt_right : ℕ → ℕ → Pattern → Pattern → Option Pattern
tilt_right k v l null = None
tilt_right k v l (hole s h) = None
tilt_right k v l (branch a b h rl rr) = if nat_lt (height_of rr) (height_of rl)
    then inner_right k v a b l rl rr
    else Some (over_both a b (over_both k v l rl) rr)

-- the pattern of l, a pair and r, whose heights differ by at most 2
abbrev pub joins : ℕ → ℕ → Pattern → Pattern → Option Pattern
joins k v l r = if nat_lt (suc (height_of r)) (height_of l)
    then tilt_left k v l r
    else (if nat_lt (suc (height_of l)) (height_of r)
    then tilt_right k v l r
    else Some (over_both k v l r))
