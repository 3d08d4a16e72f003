-- Changes of a balanced tree as plain functions: each copies the nodes on one way down, and shares all others.
use Rattle.std.specs.Prelude.{ℕ, zero, suc, ◌+◌, Bool, ◌==◌, max, nat_lt, if◌then◌else◌}
use Rattle.map_trees.specs.declared.change.Change.TheVariants as change
use Rattle.map_trees.specs.Trees.{Tree, leaf, node, Pair, pair, pairs, height}
use Rattle.map_trees.specs.declared.change.Change.{Change}
use Rattle.map_trees.specs.Maps.{get, bumped}

-- a node over two subtrees
abbrev pub over : ℕ → ℕ → Tree → Tree → Tree
over k v l r = node k v (suc (max (height l) (height r))) l r

-- the first one is higher than the second by 2 or more
abbrev pub outgrows : Tree → Tree → Bool
outgrows a b = nat_lt (suc (height b)) (height a)

-- a pair between l and r, where l is higher by 2: the left node comes up, or the right one under it
abbrev pub lean_left : ℕ → ℕ → Tree → Tree → Tree
lean_left k v leaf r = over k v leaf r
lean_left k v (node a b h ll leaf) r = over a b ll (over k v leaf r)
lean_left k v (node a b h ll (node c d i ml mr)) r = if nat_lt (height ll) i
    then over c d (over a b ll ml) (over k v mr r)
    else over a b ll (over k v (node c d i ml mr) r)

-- a pair between l and r, where r is higher by 2
abbrev pub lean_right : ℕ → ℕ → Tree → Tree → Tree
lean_right k v l leaf = over k v l leaf
lean_right k v l (node a b h leaf rr) = over a b (over k v l leaf) rr
lean_right k v l (node a b h (node c d i ml mr) rr) = if nat_lt (height rr) i
    then over c d (over k v l ml) (over a b mr rr)
    else over a b (over k v l (node c d i ml mr)) rr

-- the balanced tree of l, a pair and r, whose heights differ by at most 2
abbrev pub join : ℕ → ℕ → Tree → Tree → Tree
join k v l r = if outgrows l r
    then lean_left k v l r
    else (if outgrows r l then lean_right k v l r else over k v l r)

-- the tree in which this key has this value
abbrev pub insert : ℕ → ℕ → Tree → Tree
insert k v leaf = over k v leaf leaf
insert k v (node a b h l r) = if nat_lt k a
    then join a b (insert k v l) r
    else (if a == k then node k v h l r else join a b l (insert k v r))

-- the least pair of a node over l and r, and the tree without it
abbrev pub first_of : ℕ → ℕ → Tree → Pair
first_of k v leaf = pair k v
first_of k v (node a b h l r) = first_of a b l

abbrev pub rest_of : ℕ → ℕ → Tree → Tree → Tree
rest_of k v leaf r = r
rest_of k v (node a b h l m) r = join k v (rest_of a b l m) r

-- one tree of two, the keys of which lie apart: the least pair of the right one comes up
abbrev pub glue : Tree → Tree → Tree
glue l leaf = l
glue l (node a b h x y) = join (first_of a b x).key (first_of a b x).value l (rest_of a b x y)

-- the tree without this key
abbrev pub remove : ℕ → Tree → Tree
remove k leaf = leaf
remove k (node a b h l r) = if nat_lt k a
    then join a b (remove k l) r
    else (if a == k then glue l r else join a b l (remove k r))

-- the tree after one change of one key
abbrev pub altered : ℕ → Change → Tree → Tree
altered k (change.Put v) t = insert k v t
altered k (change.Bump d) t = insert k (bumped d (get k (pairs t))) t
altered k change.Take t = remove k t

-- the fewest keys of a balanced tree of this height: 46,367 of height 22, and 75,024 of height 23
abbrev pub fewest : ℕ → ℕ
fewest zero = 0
fewest (suc zero) = 1
fewest (suc (suc n)) = suc (fewest (suc n) + fewest n)
