-- Each key of a tree has one node of it.
use Rattle.std.proofs.Common.{◌≡◌, ◌⊎◌, inl, inr, ⊎_elim, ℕ, ◌<◌, List, [], ◌∷◌, ◌++◌, ap, sym, ◌∙◌, subst, arith}
use Rattle.std.specs.Prelude.{Option, Some, slice_index}
use Rattle.plain_protocol.specs.plain_state.declared.slot.SlotId.{SlotId}
use Rattle.plain_protocol.specs.plain_state.State.{Plain, slot_at}
use Rattle.map_trees.specs.Trees.{Tree, leaf, node, Pair, pair, pairs, AllBelow, AllAbove, Ascends}
use Rattle.map_trees.proofs.Lists.{parts}
use Rattle.map_law.specs.Nodes.{words, TreeAt, Inside, key_at, HasKey}
use Rattle.map_law.proofs.Kit.{some_same}

has_left : (k : ℕ) (xs ys : List Pair) → HasKey k xs → HasKey k (xs ++ ys)
has_left k [] ys h = absurd h
has_left k (x ∷ xs) ys h = ⊎_elim (λ (e : x.key ≡ k). inl e) (λ (i : HasKey k xs). inr (has_left k xs ys i)) h

has_right : (k : ℕ) (xs ys : List Pair) → HasKey k ys → HasKey k (xs ++ ys)
has_right k [] ys h = h
has_right k (x ∷ xs) ys h = inr (has_right k xs ys h)

has_either : (k : ℕ) (xs ys : List Pair) → HasKey k (xs ++ ys) → HasKey k xs ⊎ HasKey k ys
has_either k [] ys h = inr h
has_either k (x ∷ xs) ys h = ⊎_elim
    (λ (e : x.key ≡ k). inl (inl e))
    (λ (i : HasKey k (xs ++ ys)). ⊎_elim (λ (j : HasKey k xs). inl (inr j)) (λ (j : HasKey k ys). inr j)
    (has_either k xs ys i)) h

below_has : (n k : ℕ) (xs : List Pair) → AllBelow n xs → HasKey k xs → k < n
below_has n k [] b h = absurd h
below_has n k (x ∷ xs) b h = ⊎_elim (λ (e : x.key ≡ k). let a = b.0 in omega arith)
    (λ (i : HasKey k xs). below_has n k xs b.1 i) h

above_has : (n k : ℕ) (xs : List Pair) → AllAbove n xs → HasKey k xs → n < k
above_has n k [] b h = absurd h
above_has n k (x ∷ xs) b h = ⊎_elim (λ (e : x.key ≡ k). let a = b.0 in omega arith)
    (λ (i : HasKey k xs). above_has n k xs b.1 i) h

module _ (p : Plain) where
  -- the parts of a place's tree
  pub record Split (w : Option SlotId) (k v h : ℕ) (a b : Tree) (s : SlotId) : Type 0 where
    pub at : w ≡ Some s
    pub key : key_at p s ≡ k
    pub first : TreeAt p (slot_at p s).first a
    pub second : TreeAt p (slot_at p s).second b

  split : (w : Option SlotId) (k v h : ℕ) (a b : Tree) (s : SlotId) → TreeAt p w (node k v h a b) → w ≡ Some s
      → Split w k v h a b s
  split w k v h a b s r e =
      let same : r.0 ≡ s = some_same r.0 s (sym r.1 ∙ e) in record {
        at = e;
        key = ap (λ (l : List ℕ). slice_index l 1)
            (subst (λ (z : SlotId). (slot_at p z).payload ≡ words k v h) same r.2);
        first = subst (λ (z : SlotId). TreeAt p (slot_at p z).first a) same r.3;
        second = subst (λ (z : SlotId). TreeAt p (slot_at p z).second b) same r.4;
      }

  pub inside_has : (w : Option SlotId) (t : Tree) (s : SlotId) → TreeAt p w t → Inside p w t s
      → HasKey (key_at p s) (pairs t)
  inside_has w leaf s r i = absurd i
  inside_has w (node k v h a b) s r (inl e) = has_right (key_at p s) (pairs a) (pair k v ∷ pairs b)
      (inl (sym (split w k v h a b s r e).key))
  inside_has w (node k v h a b) s r (inr i) =
      let x = split w k v h a b i.0 r i.1 in
      ⊎_elim
      (λ j. has_left (key_at p s) (pairs a) (pair k v ∷ pairs b) (inside_has (slot_at p i.0).first a s x.first j))
      (λ j. has_right (key_at p s) (pairs a) (pair k v ∷ pairs b)
      (inr (inside_has (slot_at p i.0).second b s x.second j))) i.2

  -- a key's node is one
  pub one_slot : (w : Option SlotId) (t : Tree) → TreeAt p w t → Ascends (pairs t) → (s u : SlotId) → Inside p w t s
      → Inside p w t u → key_at p s ≡ key_at p u → s ≡ u
  one_slot w leaf r up s u i j e = absurd i
  one_slot w (node k v h a b) r up s u (inl i) (inl j) e = some_same s u (sym i ∙ j)
  one_slot w (node k v h a b) r up s u (inl i) (inr j) e =
      let ps = parts (pairs a) (pair k v) (pairs b) up in
      let x = split w k v h a b s r i in let y = split w k v h a b j.0 r j.1 in let z = x.key in
      absurd (⊎_elim
      (λ q. let n = below_has k (key_at p u) (pairs a) ps.below (inside_has (slot_at p j.0).first a u y.first q) in
      omega arith)
      (λ q. let n = above_has k (key_at p u) (pairs b) ps.above (inside_has (slot_at p j.0).second b u y.second q) in
      omega arith) j.2)
  one_slot w (node k v h a b) r up s u (inr i) (inl j) e =
      let ps = parts (pairs a) (pair k v) (pairs b) up in
      let x = split w k v h a b u r j in let y = split w k v h a b i.0 r i.1 in let z = x.key in
      absurd (⊎_elim
      (λ q. let n = below_has k (key_at p s) (pairs a) ps.below (inside_has (slot_at p i.0).first a s y.first q) in
      omega arith)
      (λ q. let n = above_has k (key_at p s) (pairs b) ps.above (inside_has (slot_at p i.0).second b s y.second q) in
      omega arith) i.2)
  one_slot w (node k v h a b) r up s u (inr i) (inr j) e =
      let ps = parts (pairs a) (pair k v) (pairs b) up in
      let x = split w k v h a b i.0 r i.1 in
      let same : j.0 ≡ i.0 = some_same j.0 i.0 (sym j.1 ∙ i.1) in
      let k2 = subst (λ (z : SlotId). Inside p (slot_at p z).first a u
      ⊎ Inside p (slot_at p z).second b u) same j.2 in
      ⊎_elim
      (λ m. ⊎_elim
      (λ n. one_slot (slot_at p i.0).first a x.first ps.before s u m n e)
      (λ n. let c = below_has k (key_at p s) (pairs a) ps.below (inside_has (slot_at p i.0).first a s x.first m) in
      let d = above_has k (key_at p u) (pairs b) ps.above (inside_has (slot_at p i.0).second b u x.second n) in
      absurd (omega arith)) k2)
      (λ m. ⊎_elim
      (λ n. let c = above_has k (key_at p s) (pairs b) ps.above (inside_has (slot_at p i.0).second b s x.second m) in
      let d = below_has k (key_at p u) (pairs a) ps.below (inside_has (slot_at p i.0).first a u x.first n) in
      absurd (omega arith))
      (λ n. one_slot (slot_at p i.0).second b x.second ps.after s u m n e) k2)
      i.2

  -- and each key has one
  pub slot_of : (w : Option SlotId) (t : Tree) (key : ℕ) → TreeAt p w t → HasKey key (pairs t) → (s : SlotId)
      × Inside p w t s × (key_at p s ≡ key)
  slot_of w leaf key r i = absurd i
  slot_of w (node k v h a b) key r i =
      let x = split w k v h a b r.0 r r.1 in
      ⊎_elim
      (λ (j : HasKey key (pairs a)). let o = slot_of (slot_at p r.0).first a key x.first j in
      (o.0, inr (r.0, r.1, inl o.1), o.2))
      (λ (j : HasKey key (pair k v ∷ pairs b)). ⊎_elim
      (λ (e : k ≡ key). (r.0, inl r.1, x.key ∙ e))
      (λ (q : HasKey key (pairs b)). let o = slot_of (slot_at p r.0).second b key x.second q in
      (o.0, inr (r.0, r.1, inr o.1), o.2)) j)
      (has_either key (pairs a) (pair k v ∷ pairs b) i)
