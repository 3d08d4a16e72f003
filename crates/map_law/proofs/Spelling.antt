-- What the notes spell is what stands in the state.
use Rattle.std.proofs.Common.{◌≡◌, inl, inr, ℕ, zero, suc, ◌≤◌, List, refl, ap, sym, ◌∙◌, subst, arith}
use Rattle.std.specs.Prelude.{Option, Some, None, slice_index}
use Rattle.plain_protocol.specs.plain_state.declared.slot.SlotId.{SlotId}
use Rattle.plain_protocol.specs.plain_state.declared.slot.Stage.TheVariants.{Live}
use Rattle.plain_protocol.specs.plain_state.State.{Plain, slot_at}
use Rattle.plain_protocol.specs.plain_state.Lawful.{Lawful}
use Rattle.plain_protocol.specs.Owns.{Object, own_part}
use Rattle.map_trees.specs.Trees.{Tree, leaf, node, depth, height}
use Rattle.map_law.specs.Views.{Kid, View, view_at}
use Rattle.map_law.specs.Nodes.{root, words, IsNode, TreeAt, Holds, side}
use Rattle.map_law.specs.Learnt.{IsLed}
use Rattle.map_law.specs.Law.{MapLaw}
use Rattle.map_law.specs.Patterns.{IsKid, Pattern, null, hole, branch, filled, Fits, Notes, Spells}
use Rattle.map_law.specs.Lessons.{KnowsMap}
use Rattle.map_law.proofs.Kit.{each_in, none_some, some_same}
use Rattle.map_law.proofs.Frame.{led_live, root_live}
use Rattle.map_law.proofs.Making.{object_is}
use Rattle.map_law.proofs.OneTree.{same_node}

-- the tree from a place on, down to so many levels
abbrev pub grown : Plain → ℕ → Option SlotId → Tree
grown p zero w = leaf
grown p (suc m) None = leaf
grown p (suc m) (Some s) = node (slice_index (slot_at p s).payload 1) (slice_index (slot_at p s).payload 2)
    (slice_index (slot_at p s).payload 3)
    (grown p m (slot_at p s).first) (grown p m (slot_at p s).second)

pub grown_is : (p : Plain) (m : ℕ) (w : Option SlotId) (t : Tree) → TreeAt p w t → depth t ≤ m → grown p m w ≡ t
grown_is p zero w leaf r le = refl
grown_is p zero w (node k v h a b) r le = absurd (omega arith)
grown_is p (suc m) w leaf r le = subst (λ (z : Option SlotId). grown p (suc m) z ≡ leaf) (sym r) refl
grown_is p (suc m) w (node k v h a b) r le =
    let s = r.0 in
    let pay = r.2 in
    subst (λ (z : Option SlotId). grown p (suc m) z ≡ node k v h a b) (sym r.1)
    (same_node (slice_index (slot_at p s).payload 1) k (slice_index (slot_at p s).payload 2) v
    (slice_index (slot_at p s).payload 3) h
    (grown p m (slot_at p s).first) a (grown p m (slot_at p s).second) b
    (ap (λ (l : List ℕ). slice_index l 1) pay) (ap (λ (l : List ℕ). slice_index l 2) pay)
    (ap (λ (l : List ℕ). slice_index l 3) pay)
    (grown_is p m (slot_at p s).first a r.3 (omega arith)) (grown_is p m (slot_at p s).second b r.4 (omega arith)))

module _ (c : ℕ) (p : Plain) (views : List View) (n : ℕ) (lawful : Lawful p) (law : MapLaw c p views) (m : ℕ) where
  led_is : (s : SlotId) (l i : ℕ) (k : Option Kid) → Notes (view_at views n) s l i k → (slot_at p s).life ≡ l
      → (slot_at p s).stage ≡ Live → Holds p k (side i (slot_at p s))
  led_is s l i k h life live =
      let e = h.0 in
      let a = (each_in (IsLed p views) e (view_at views n).led h.1 (law.learnt n).led).2 in
      let b : (slot_at p s).life ≡ e.life → (slot_at p s).stage ≡ Live → IsNode (slot_at p s).payload
      × Holds p e.kid (side e.side (slot_at p s)) =
      subst (λ (z : SlotId). (slot_at p z).life ≡ e.life → (slot_at p z).stage ≡ Live → IsNode (slot_at p z).payload
      × Holds p e.kid (side e.side (slot_at p z))) h.2 a in
      let d = (b (life ∙ sym h.3) live).1 in
      subst (λ (z : Option Kid). Holds p z (side i (slot_at p s))) h.5
      (subst (λ (z : ℕ). Holds p e.kid (side z (slot_at p s))) h.4 d)

  -- a pattern that the notes spell from a place on is the tree of that place
  pub spelt : (pat : Pattern) (k : Option Kid) (w : Option SlotId) (t : Tree) → Spells (view_at views n) k pat
      → Holds p k w
      → ((s : SlotId) → w ≡ Some s → (slot_at p s).stage ≡ Live) → TreeAt p w t → depth t ≤ m
      → filled (λ s. grown p m (Some s)) pat ≡ t
  spelt null k w t sp h live r le =
      let at : w ≡ None = subst (λ (z : Option Kid). Holds p z w) sp h in
      go t r at
    where
      go : (t : Tree) → TreeAt p w t → w ≡ None → leaf ≡ t
      go leaf r e = refl
      go (node a b d x y) r e = absurd (none_some r.0 (sym e ∙ r.1))
  spelt (hole s d) k w t sp h live r le =
      let at = subst (λ (z : Option Kid). Holds p z w) sp.1 h in
      let is : w ≡ Some s = at.0 ∙ ap (λ (z : SlotId). Some z) sp.2 in
      grown_is p m (Some s) t (subst (λ (z : Option SlotId). TreeAt p z t) is r) le
  spelt (branch key v d l u) k w leaf sp h live r le =
      let at = subst (λ (z : Option Kid). Holds p z w) sp.1 h in absurd (none_some sp.0.slot (sym r ∙ at.0))
  spelt (branch key v d l u) k w (node key' v' d' a b) sp h live r le =
      let x = sp.0 in
      let at = subst (λ (z : Option Kid). Holds p z w) sp.1 h in
      let s = x.slot in
      let lv = live s at.0 in
      let same : r.0 ≡ s = some_same r.0 s (sym r.1 ∙ at.0) in
      let pay : words key' v' d' ≡ words key v d =
      sym (subst (λ (z : SlotId). (slot_at p z).payload ≡ words key' v' d') same r.2) ∙ (at.2 ∙ sp.2) in
      let ra : TreeAt p (slot_at p s).first a = subst (λ (z : SlotId). TreeAt p (slot_at p z).first a) same r.3 in
      let rb : TreeAt p (slot_at p s).second b = subst (λ (z : SlotId). TreeAt p (slot_at p z).second b) same r.4 in
      let hl = led_is s x.life 0 sp.3.0 sp.3.1 at.1 lv in
      let hr = led_is s x.life 1 sp.4.0 sp.4.1 at.1 lv in
      same_node key key' v v' d d' (filled (λ z. grown p m (Some z)) l) a (filled (λ z. grown p m (Some z)) u) b
      (sym (ap (λ (z : List ℕ). slice_index z 1) pay)) (sym (ap (λ (z : List ℕ). slice_index z 2) pay))
      (sym (ap (λ (z : List ℕ). slice_index z 3) pay))
      (spelt l sp.3.0 (slot_at p s).first a sp.3.2 hl (λ y e. led_live p lawful s y (inl e)) ra (omega arith))
      (spelt u sp.4.0 (slot_at p s).second b sp.4.2 hr (λ y e. led_live p lawful s y (inr e)) rb (omega arith))

  -- and the heights are those that it tells
  pub spelt_fits : (pat : Pattern) (k : Option Kid) (w : Option SlotId) (t : Tree) → Spells (view_at views n) k pat
      → Holds p k w
      → ((s : SlotId) → w ≡ Some s → (slot_at p s).stage ≡ Live) → TreeAt p w t → depth t ≤ m
      → Fits (λ s. grown p m (Some s)) pat
  spelt_fits null k w t sp h live r le = tt
  spelt_fits (hole s d) k w leaf sp h live r le =
      let at = subst (λ (z : Option Kid). Holds p z w) sp.1 h in absurd (none_some sp.0.slot (sym r ∙ at.0))
  spelt_fits (hole s d) k w (node key' v' d' a b) sp h live r le =
      let at = subst (λ (z : Option Kid). Holds p z w) sp.1 h in
      let is : w ≡ Some s = at.0 ∙ ap (λ (z : SlotId). Some z) sp.2 in
      let same : r.0 ≡ sp.0.slot = some_same r.0 sp.0.slot (sym r.1 ∙ at.0) in
      let pay : words key' v' d' ≡ words sp.3.0 sp.3.1 d =
      sym (subst (λ (z : SlotId). (slot_at p z).payload ≡ words key' v' d') same r.2) ∙ (at.2 ∙ sp.3.2) in
      ap height (grown_is p m (Some s) (node key' v' d' a b)
      (subst (λ (z : Option SlotId). TreeAt p z (node key' v' d' a b)) is r) le)
      ∙ ap (λ (z : List ℕ). slice_index z 3) pay
  spelt_fits (branch key v d l u) k w leaf sp h live r le =
      let at = subst (λ (z : Option Kid). Holds p z w) sp.1 h in absurd (none_some sp.0.slot (sym r ∙ at.0))
  spelt_fits (branch key v d l u) k w (node key' v' d' a b) sp h live r le =
      let x = sp.0 in
      let at = subst (λ (z : Option Kid). Holds p z w) sp.1 h in
      let s = x.slot in
      let lv = live s at.0 in
      let same : r.0 ≡ s = some_same r.0 s (sym r.1 ∙ at.0) in
      let ra : TreeAt p (slot_at p s).first a = subst (λ (z : SlotId). TreeAt p (slot_at p z).first a) same r.3 in
      let rb : TreeAt p (slot_at p s).second b = subst (λ (z : SlotId). TreeAt p (slot_at p z).second b) same r.4 in
      let hl = led_is s x.life 0 sp.3.0 sp.3.1 at.1 lv in
      let hr = led_is s x.life 1 sp.4.0 sp.4.1 at.1 lv in (
        spelt_fits l sp.3.0 (slot_at p s).first a sp.3.2 hl (λ y e. led_live p lawful s y (inl e)) ra (omega arith),
        spelt_fits u sp.4.0 (slot_at p s).second b sp.4.2 hr (λ y e. led_live p lawful s y (inr e)) rb (omega arith),
      )

-- what a seat has in a place is as the place holds it
pub kid_holds : (p : Plain) (n : ℕ) (w : Option SlotId) (k : Option Kid) → IsKid (own_part p n) w k → Holds p k w
kid_holds p n None k h = subst (λ (z : Option Kid). Holds p z None) (sym h) refl
kid_holds p n (Some s) k h =
    let o = h.0 in
    let is = object_is p n s o h.1 in
    subst (λ (z : Option Kid). Holds p z (Some s)) (sym h.2)
    (refl, sym (ap (λ (x : Object). x.life) is), sym (ap (λ (x : Object). x.payload) is))

pub tells : (c : ℕ) (p : Plain) (views : List View) (n : ℕ) → Lawful p → MapLaw c p views
    → KnowsMap c p n (view_at views n)
tells c p views n lawful law k pat is sp =
    let m = depth law.tree in
    let e = spelt c p views n lawful law m pat k (root p c) law.tree sp (kid_holds p n (root p c) k is)
    (λ s h. root_live p lawful c s h) law.is (omega arith) in (
      (λ s. grown p m (Some s)),
      spelt_fits c p views n lawful law m pat k (root p c) law.tree sp (kid_holds p n (root p c) k is)
          (λ s h. root_live p lawful c s h) law.is (omega arith),
      subst (TreeAt p (root p c)) (sym e) law.is,
      subst Rattle.map_trees.specs.Trees.Shaped (sym e) law.shaped,
    )
