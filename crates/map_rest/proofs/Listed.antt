-- The slots of a tree's nodes as a list: as many as the tree has pairs, and each slot once.
use Rattle.std.proofs.Common.{◌≡◌, ◌≢◌, ◌⊎◌, inl, inr, ⊎_elim, ℕ, ◌+◌, ◌<◌, ◌≤◌, Bool, true, false, List, [], ◌∷◌, ◌++◌, length, length-append, refl, ap, sym, ◌∙◌, subst, arith, Option, Some, None}
use Rattle.std.specs.Prelude.{◌==◌, if◌then◌else◌, slice_index, sum_by}
use Rattle.std.proofs.lemmas.Bool.Decides.{nat_tests}
use Rattle.std.proofs.lemmas.List.Sums.{sum_by-cons}
use Rattle.plain_audit.specs.plain_state.declared.slot.SlotId.{SlotId}
use Rattle.plain_audit.specs.plain_state.Lists.{times}
use Rattle.plain_audit.specs.plain_state.References.{held_in}
use Rattle.plain_audit.specs.plain_state.State.{Plain, slot_at}
use Rattle.plain_audit.proofs.Below.plain_state_Kit.{held_is, held_none, held_once, held_self, none_or_some, times_append, times_cons, times_none}
use Rattle.map_law.specs.map_trees.Trees.{AllAbove, Ascends, Pair, Tree, leaf, node, pair, pairs}
use Rattle.map_law.specs.Nodes.{Inside, TreeAt, key_at, words}

-- HOW OFTEN A KEY STANDS IN A LIST
abbrev pub key_in : ℕ → Pair → ℕ
key_in k x = if x.key == k then 1 else 0

abbrev pub key_times : ℕ → List Pair → ℕ
key_times k [] = 0
key_times k (x ∷ xs) = key_in k x + key_times k xs

key_here : (k : ℕ) (x : Pair) → x.key ≡ k → key_in k x ≡ 1
key_here k x e = go (x.key == k) refl
  where
    go : (b : Bool) → (x.key == k) ≡ b → key_in k x ≡ 1
    go true is = ap (λ (b : Bool). if b then 1 else 0) is
    go false is = let apart : x.key ≢ k = grind (arith, nat_tests) in absurd (apart e)

key_once : (k : ℕ) (x : Pair) → (key_in k x ≡ 0) ⊎ ((key_in k x ≡ 1) × (x.key ≡ k))
key_once k x = go (x.key == k) refl
  where
    go : (b : Bool) → (x.key == k) ≡ b → (key_in k x ≡ 0) ⊎ ((key_in k x ≡ 1) × (x.key ≡ k))
    go true e = let same : x.key ≡ k = grind (arith, nat_tests) in inr (key_here k x same, same)
    go false e = inl (ap (λ (b : Bool). if b then 1 else 0) e)

key_append : (k : ℕ) (xs ys : List Pair) → key_times k (xs ++ ys) ≡ key_times k xs + key_times k ys
key_append k [] ys = omega arith
key_append k (x ∷ xs) ys = let rest = key_append k xs ys in omega arith

none_above : (n k : ℕ) (xs : List Pair) → k ≤ n → AllAbove n xs → key_times k xs ≡ 0
none_above n k [] low above = refl
none_above n k (x ∷ xs) low above =
    let rest = none_above n k xs low above.1 in
    let apart = above.0 in
    ⊎_elim
    (λ (none : key_in k x ≡ 0). omega arith)
    (λ one. let same = one.1 in absurd (omega (arith, low, apart, same)))
    (key_once k x)

pub keys_once : (k : ℕ) (xs : List Pair) → Ascends xs → key_times k xs ≤ 1
keys_once k [] up = omega arith
keys_once k (x ∷ xs) up = ⊎_elim
    (λ (none : key_in k x ≡ 0). let rest = keys_once k xs up.1 in omega arith)
    (λ one.
    let here = one.0 in let same = one.1 in
    let rest = none_above x.key k xs (omega arith) up.0 in omega arith)
    (key_once k x)

-- THE SLOTS of a tree's nodes, from the left to the right
module _ (p : Plain) where
  abbrev pub nodes : Option SlotId → Tree → List SlotId
  nodes w leaf = []
  nodes None (node k v h l r) = []
  nodes (Some s) (node k v h l r) =
      nodes (slot_at p s).first l ++ s ∷ nodes (slot_at p s).second r

  -- a place that leads to a node holds its slot
  record At (s : SlotId) (k : ℕ) (l r : Tree) : Type 0 where
    pub key : key_at p s ≡ k
    pub first : TreeAt p (slot_at p s).first l
    pub second : TreeAt p (slot_at p s).second r

  at_slot : (s : SlotId) (k v h : ℕ) (l r : Tree) → TreeAt p (Some s) (node k v h l r) → At s k l r
  at_slot s k v h l r t =
      let same : t.0 ≡ s = some_same t.0 s (sym t.1) in record {
        key = ap (λ (ws : List ℕ). slice_index ws 1)
            (subst (λ (x : SlotId). (slot_at p x).payload ≡ words k v h) same t.2);
        first = subst (λ (x : SlotId). TreeAt p (slot_at p x).first l) same t.3;
        second = subst (λ (x : SlotId). TreeAt p (slot_at p x).second r) same t.4;
      }
    where
      some_same : (x y : SlotId) → Some x ≡ Some y → x ≡ y
      some_same x y e = cc (e)

  pub as_many : (w : Option SlotId) (t : Tree) → TreeAt p w t
      → length (nodes w t) ≡ length (pairs t)
  as_many w leaf at = refl
  as_many None (node k v h l r) at = absurd (cc (at.1))
  as_many (Some s) (node k v h l r) at =
      let here = at_slot s k v h l r at in
      let a = as_many (slot_at p s).first l here.first in
      let b = as_many (slot_at p s).second r here.second in
      let one = length-append (nodes (slot_at p s).first l) (s ∷ nodes (slot_at p s).second r) in
      let two = length-append (pairs l) (pair k v ∷ pairs r) in omega arith

  times_split : (s x : SlotId) (xs ys : List SlotId)
      → times s (xs ++ x ∷ ys) ≡ times s xs + (held_in s (Some x) + times s ys)
  times_split s x xs ys = times_append s xs (x ∷ ys) ∙ ap (λ n. times s xs + n) (times_cons s x ys)

  -- each stands there at most as often as its key does
  pub as_keys : (w : Option SlotId) (t : Tree) (s : SlotId) → TreeAt p w t
      → times s (nodes w t) ≤ key_times (key_at p s) (pairs t)
  as_keys w leaf s at = let none = times_none s in omega arith
  as_keys None (node k v h l r) s at = absurd (cc (at.1))
  as_keys (Some x) (node k v h l r) s at =
      let here = at_slot x k v h l r at in
      let a = as_keys (slot_at p x).first l s here.first in
      let b = as_keys (slot_at p x).second r s here.second in
      let one = times_split s x (nodes (slot_at p x).first l) (nodes (slot_at p x).second r) in
      let two = key_append (key_at p s) (pairs l) (pair k v ∷ pairs r) in
      ⊎_elim
      (λ (none : held_in s (Some x) ≡ 0). omega arith)
      (λ (some : 0 < held_in s (Some x)).
      let same = held_is s x some in
      let key : k ≡ key_at p s = sym here.key ∙ ap (key_at p) same in
      let counted = key_here (key_at p s) (pair k v) key in
      let most = held_once s (Some x) in omega arith)
      (none_or_some (held_in s (Some x)))

  pub stands : (w : Option SlotId) (t : Tree) (s : SlotId) → TreeAt p w t → Inside p w t s
      → 0 < times s (nodes w t)
  stands w leaf s at inside = absurd inside
  stands None (node k v h l r) s at inside = absurd (cc (at.1))
  stands (Some x) (node k v h l r) s at (inl same) =
      let one = times_split s x (nodes (slot_at p x).first l) (nodes (slot_at p x).second r) in
      let held = ap (held_in s) same ∙ held_self s in omega arith
  stands (Some x) (node k v h l r) s at (inr below) =
      let here = at_slot x k v h l r at in
      let same : below.0 ≡ x = some_is below.0 (sym below.1) in
      let one = times_split s x (nodes (slot_at p x).first l) (nodes (slot_at p x).second r) in
      ⊎_elim
      (λ i.
      let a = stands (slot_at p x).first l s here.first
      (subst (λ (y : SlotId). Inside p (slot_at p y).first l s) same i) in omega arith)
      (λ i.
      let a = stands (slot_at p x).second r s here.second
      (subst (λ (y : SlotId). Inside p (slot_at p y).second r s) same i) in omega arith)
      below.2
    where
      some_is : (y : SlotId) → Some y ≡ Some x → y ≡ x
      some_is y e = cc (e)

  pub belongs : (w : Option SlotId) (t : Tree) (s : SlotId) → TreeAt p w t
      → 0 < times s (nodes w t) → Inside p w t s
  belongs w leaf s at some = absurd (omega (arith, some, times_none s))
  belongs None (node k v h l r) s at some = absurd (cc (at.1))
  belongs (Some x) (node k v h l r) s at some =
      let here = at_slot x k v h l r at in
      let one = times_split s x (nodes (slot_at p x).first l) (nodes (slot_at p x).second r) in
      ⊎_elim
      (λ (left : times s (nodes (slot_at p x).first l) ≡ 0). ⊎_elim
      (λ (right : times s (nodes (slot_at p x).second r) ≡ 0).
      inl (ap (λ (y : SlotId). Some y) (held_is s x (omega arith))))
      (λ (right : 0 < times s (nodes (slot_at p x).second r)).
      inr (x, refl, inr (belongs (slot_at p x).second r s here.second right)))
      (none_or_some (times s (nodes (slot_at p x).second r))))
      (λ (left : 0 < times s (nodes (slot_at p x).first l)).
      inr (x, refl, inl (belongs (slot_at p x).first l s here.first left)))
      (none_or_some (times s (nodes (slot_at p x).first l)))

-- one for each member
pub ones : (xs : List SlotId) → sum_by (λ (s : SlotId). 1) xs ≡ length xs
ones [] = refl
ones (x ∷ xs) =
    let all = sum_by-cons (λ (s : SlotId). 1) x xs in let rest = ones xs in omega arith
