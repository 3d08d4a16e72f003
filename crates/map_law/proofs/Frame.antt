-- What a step leaves of trees and notes: all but the slots of X are as they were, as far as the law reads them.
use Rattle.std.proofs.Common.{◌≡◌, inl, inr, ⊎_elim, ℕ, ◌<◌, ◌≤◌, Bool, true, false, List, length, ap, sym, ◌∙◌, subst, arith}
use Rattle.std.specs.Prelude.{Option, Some, None, ◌==◌, if◌then◌else◌}
use Rattle.std.proofs.lemmas.List.{get_or_past}
use Rattle.std.proofs.lemmas.Bool.{cases_lt}
use Rattle.plain_protocol.specs.plain_state.declared.slot.PlainSlot.{PlainSlot}
use Rattle.plain_protocol.specs.plain_state.declared.slot.SlotId.{SlotId}
use Rattle.plain_protocol.specs.plain_state.declared.slot.Stage.TheVariants.{Live}
use Rattle.plain_protocol.specs.plain_state.References.{held_in, strong_fields, strong_refs}
use Rattle.plain_protocol.specs.plain_state.State.{Plain, new_slot, slot_at}
use Rattle.plain_protocol.specs.plain_state.Lawful.{Lawful}
use Rattle.plain_protocol.proofs.Below.plain_state_Kit.{cells_at, slots_at, held_self}
use Rattle.map_trees.specs.Trees.{Tree, leaf, node}
use Rattle.map_law.specs.Views.{Note, Kid, Raw, Led, View, fresh, Shown}
use Rattle.map_law.specs.Nodes.{root, IsNode, TreeAt, LiveNode, Leads, Holds, side}
use Rattle.map_law.specs.Learnt.{Built, Solid, IsLed, IsShown}
use Rattle.map_law.proofs.Kit.{none_some}

-- REFERENCES
held_where : (s : SlotId) (w : Option SlotId) → w ≡ Some s → held_in s w ≡ 1
held_where s w e = subst (λ (z : Option SlotId). held_in s z ≡ 1) (sym e) (held_self s)

refs_field : (p : Plain) (t s : SlotId) → Leads p t s → 0 < strong_refs p s
refs_field p t s l = ⊎_elim
    (λ (low : t.0 < length p.slots). let a = slots_at (strong_fields s) p.slots t.0 low in
    ⊎_elim
    (λ e. let b = held_where s (slot_at p t).first e in omega arith)
    (λ e. let b = held_where s (slot_at p t).second e in omega arith) l)
    (λ past. let new = get_or_past p.slots t.0 new_slot past in
    ⊎_elim
    (λ e. absurd (none_some s (sym (ap (λ (x : PlainSlot). x.first) new) ∙ e)))
    (λ e. absurd (none_some s (sym (ap (λ (x : PlainSlot). x.second) new) ∙ e))) l)
    (cases_lt t.0 (length p.slots))

refs_root : (p : Plain) (c : ℕ) (s : SlotId) → root p c ≡ Some s → 0 < strong_refs p s
refs_root p c s e = ⊎_elim
    (λ (low : c < length p.cells). let a = cells_at s p.cells c low in let b = held_where s (root p c) e in
    omega arith)
    (λ past. absurd (none_some s (sym (get_or_past p.cells c None past) ∙ e)))
    (cases_lt c (length p.cells))

pub led_live : (p : Plain) → Lawful p → (t s : SlotId) → Leads p t s → (slot_at p s).stage ≡ Live
led_live p lawful t s l = (lawful.strong s (refs_field p t s l)).0

pub root_live : (p : Plain) → Lawful p → (c : ℕ) (s : SlotId) → root p c ≡ Some s → (slot_at p s).stage ≡ Live
root_live p lawful c s e = (lawful.strong s (refs_root p c s e)).0

-- FRAMES
pub record Frame (X : SlotId → Type 0) (p q : Plain) : Type 0 where
  pub life : (s : SlotId) → (slot_at p s).life ≤ (slot_at q s).life
  pub live : (s : SlotId) → ¬ (X s) → (slot_at q s).stage ≡ Live → (slot_at p s).stage ≡ Live
  pub kept : (s : SlotId) → (slot_at p s).stage ≡ Live → ((slot_at q s).life ≡ (slot_at p s).life)
      × ((slot_at q s).payload ≡ (slot_at p s).payload)
  pub fields : (s : SlotId) → ¬ (X s) → (slot_at p s).stage ≡ Live → IsNode (slot_at p s).payload
      → ((slot_at q s).first ≡ (slot_at p s).first) × ((slot_at q s).second ≡ (slot_at p s).second)

pub side_same : (i : ℕ) (x y : PlainSlot) → y.first ≡ x.first → y.second ≡ x.second → side i y ≡ side i x
side_same i x y a b = go (i == 0)
  where
    go : (z : Bool) → (if z then y.first else y.second) ≡ (if z then x.first else x.second)
    go true = a
    go false = b

pub side_leads : (p : Plain) (i : ℕ) (t s : SlotId) → side i (slot_at p t) ≡ Some s → Leads p t s
side_leads p i t s e = go (i == 0) e
  where
    go : (z : Bool) → (if z then (slot_at p t).first else (slot_at p t).second) ≡ Some s → Leads p t s
    go true e = inl e
    go false e = inr e

module _ (X : SlotId → Type 0) (p q : Plain) (fr : Frame X p q) (lawful : Lawful p)
    (clear : (t s : SlotId) → LiveNode p t → Leads p t s → ¬ (X s)) where
  pub tree_at_on : (w : Option SlotId) → ((s : SlotId) → w ≡ Some s → ((slot_at p s).stage ≡ Live) × ¬ (X s))
      → (t : Tree) → TreeAt p w t → TreeAt q w t
  tree_at_on w ok leaf r = r
  tree_at_on w ok (node k v h a b) r =
      let s = r.0 in
      let o = ok s r.1 in
      let is : IsNode (slot_at p s).payload = (k, v, h, r.2) in
      let f = fr.fields s o.1 o.0 is in
      let below : (x : SlotId) → Leads p s x → ((slot_at p x).stage ≡ Live) × ¬ (X x) =
      λ x l. (led_live p lawful s x l, clear s x (o.0, is) l) in (
        s,
        r.1,
        (fr.kept s o.0).1 ∙ r.2,
        subst (λ (z : Option SlotId). TreeAt q z a) (sym f.0)
            (tree_at_on (slot_at p s).first (λ x e. below x (inl e)) a r.3),
        subst (λ (z : Option SlotId). TreeAt q z b) (sym f.1)
            (tree_at_on (slot_at p s).second (λ x e. below x (inr e)) b r.4),
      )

  -- what a live place holds
  pub holds_on : (k : Option Kid) (w z : Option SlotId) → z ≡ w
      → ((s : SlotId) → w ≡ Some s → (slot_at p s).stage ≡ Live) → Holds p k w → Holds q k z
  holds_on None w z e live h = e ∙ h
  holds_on (Some k) w z e live h = let g = fr.kept k.slot (live k.slot h.0) in (e ∙ h.0, g.0 ∙ h.1, g.1 ∙ h.2)

  pub built_on : (e : Raw) → ((slot_at q e.slot).life ≡ e.life → ¬ (X e.slot)) → Built p e → Built q e
  built_on e not h = (
    (let a = fr.life e.slot in let b : e.life ≤ (slot_at p e.slot).life = h.0 in omega arith),
    λ life live.
        let s = e.slot in
        let was = fr.live s (not life) live in
        let g = fr.kept s was in
        let b = h.1 (sym g.0 ∙ life) was in
        let f = fr.fields s (not life) was (subst IsNode (sym b.0) b.1) in (
          g.1 ∙ b.0,
          b.1,
          holds_on e.first (slot_at p s).first (slot_at q s).first f.0 (λ x i. led_live p lawful s x (inl i)) b.2,
          holds_on e.second (slot_at p s).second (slot_at q s).second f.1 (λ x i. led_live p lawful s x (inr i)) b.3,
        ),
  )

  module _ (views after : List View) (fresh_on : (s : SlotId) (l : ℕ) → l ≤ (slot_at p s).life → fresh views s l ≡ 0
      → fresh after s l ≡ 0) where
    pub solid_on : (e : Note) → Solid p views e → Solid q after e
    solid_on e h = (
      (let a = fr.life e.slot in let b : e.life ≤ (slot_at p e.slot).life = h.0 in omega arith),
      fresh_on e.slot e.life h.0 h.1,
    )

    pub led_on : (e : Led) → ((slot_at q e.slot).life ≡ e.life → e.life ≤ (slot_at p e.slot).life
        → fresh views e.slot e.life ≡ 0 → ¬ (X e.slot)) → IsLed p views e → IsLed q after e
    led_on e out h = (
      (let a = fr.life e.slot in let b : e.life ≤ (slot_at p e.slot).life = h.0 in omega arith),
      fresh_on e.slot e.life h.0 h.1,
      λ life live.
          let s = e.slot in
          let not = out life h.0 h.1 in
          let was = fr.live s not live in
          let g = fr.kept s was in
          let b = h.2 (sym g.0 ∙ life) was in
          let f = fr.fields s not was b.0 in (
            subst IsNode (sym g.1) b.0,
            holds_on e.kid (side e.side (slot_at p s)) (side e.side (slot_at q s))
                (side_same e.side (slot_at p s) (slot_at q s) f.0 f.1)
                (λ x i. led_live p lawful s x (side_leads p e.side s x i)) b.1,
          ),
    )

    pub shown_on : (e : Shown) → ((slot_at q e.slot).life ≡ e.life → e.life ≤ (slot_at p e.slot).life
        → fresh views e.slot e.life ≡ 0 → ¬ (X e.slot)) → IsShown p views e → IsShown q after e
    shown_on e out h = (
      (let a = fr.life e.slot in let b : e.life ≤ (slot_at p e.slot).life = h.0 in omega arith),
      fresh_on e.slot e.life h.0 h.1,
      λ life live.
          let s = e.slot in
          let not = out life h.0 h.1 in
          let was = fr.live s not live in
          let g = fr.kept s was in
          let b = h.2 (sym g.0 ∙ life) was in
          let f = fr.fields s not was b.0 in
          (subst IsNode (sym g.1) b.0, side_same e.side (slot_at p s) (slot_at q s) f.0 f.1 ∙ b.1),
    )
