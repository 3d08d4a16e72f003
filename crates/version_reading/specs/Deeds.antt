-- The deeds of a read keep the law.
use Rattle.std.proofs.Common.{◌≡◌, ℕ, zero, suc, Bool, true, false, List, [], ◌∷◌, refl, ap, sym, ◌∙◌, subst, inl, inr, arith}
use Rattle.std.specs.Prelude.{Option, Some, None, slice_index, if◌then◌else◌}
use Rattle.map_law.specs.plain_state.declared.slot.SlotId.{SlotId}
use Rattle.map_law.specs.plain_state.declared.slot.Stage.TheVariants.{Live}
use Rattle.map_law.specs.plain_state.Lawful.{Lawful}
use Rattle.map_law.specs.plain_state.State.{Plain, slot_at}
use Rattle.map_law.specs.plain_protocol.Laws.{Keeps}
use Rattle.map_law.specs.plain_protocol.Owns.{Object, OwnPart, own_part}
use Rattle.map_trees.specs.Trees.{Tree, leaf, node}
use Rattle.map_law.specs.declared.view.Kid.{Kid}
use Rattle.map_law.specs.declared.view.Raw.{Raw}
use Rattle.map_law.specs.declared.view.View.{View}
use Rattle.map_law.specs.Views.{gone, is_raw, note, raw_times, view_at, without}
use Rattle.map_law.specs.Nodes.{root, words, IsNode, TreeAt, Holds, side}
use Rattle.map_law.specs.Learnt.{IsLed, Solid}
use Rattle.map_law.specs.Law.{MapLaw}
use Rattle.map_law.specs.Patterns.{Notes}
use Rattle.map_law.specs.Making.{frozen}
use Rattle.map_law.specs.Lessons.{AnswerReady, answer_next, led_by, led_to, read_next, read_of}
use Rattle.map_law.proofs.Kit.{each_in, fresh_at, none_some, raw_cons, raw_is, some_same}
use Rattle.map_law.proofs.Frame.{led_live, root_live}
use Rattle.map_law.proofs.OneTree.{same_node}
use Rattle.map_law.proofs.Making.{object_is}
use Rattle.map_law.proofs.Others.{held_live}
use Rattle.map_law.proofs.Spelling.{kid_holds}
use Rattle.map_law.proofs.Clearing.{answer_keeps}
use Rattle.map_law.proofs.Lessons.{read_keeps}
use Rattle.version_reading.specs.Ways.{Way, ends, stops, left, right, Passes, Tells}
use Rattle.version_reading.specs.Lessons.{KnowsWays, LookTells, SideReady, SideTells, slot_of_kid}

-- THE WAYS that notes tell lead down the tree
module _ (c : ℕ) (p : Plain) (views : List View) (n : ℕ) (lawful : Lawful p) (law : MapLaw c p views)
  where
    led_is : (s : SlotId) (l i : ℕ) (k : Option Kid) → Notes (view_at views n) s l i k
        → (slot_at p s).life ≡ l → (slot_at p s).stage ≡ Live → Holds p k (side i (slot_at p s))
    led_is s l i k h life live =
        let e = h.0 in
        let a = (each_in (IsLed p views) e (view_at views n).led h.1 (law.learnt n).led).2 in
        let b : (slot_at p s).life ≡ e.life → (slot_at p s).stage ≡ Live
        → IsNode (slot_at p s).payload × Holds p e.kid (side e.side (slot_at p s)) =
        subst (λ (z : SlotId). (slot_at p z).life ≡ e.life → (slot_at p z).stage ≡ Live
        → IsNode (slot_at p z).payload × Holds p e.kid (side e.side (slot_at p z))) h.2 a in
        let d = (b (life ∙ sym h.3) live).1 in
        subst (λ (z : Option Kid). Holds p z (side i (slot_at p s))) h.5
        (subst (λ (z : ℕ). Holds p e.kid (side z (slot_at p s))) h.4 d)

    -- a node that is known by its payload is the tree's
    at_node : (k v d k' v' d' : ℕ) (x : Kid) (w : Option SlotId) (a b : Tree)
        → x.payload ≡ words k v d → Holds p (Some x) w
        → TreeAt p w (node k' v' d' a b) → (node k' v' d' a b ≡ node k v d a b)
        × TreeAt p (slot_at p x.slot).first a × TreeAt p (slot_at p x.slot).second b
    at_node k v d k' v' d' x w a b is at r =
        let same : r.0 ≡ x.slot = some_same r.0 x.slot (sym r.1 ∙ at.0) in
        let pay : words k' v' d' ≡ words k v d =
        sym (subst (λ (z : SlotId). (slot_at p z).payload ≡ words k' v' d') same r.2)
        ∙ (at.2 ∙ is) in (
          same_node k' k v' v d' d a a b b (ap (λ (z : List ℕ). slice_index z 1) pay)
              (ap (λ (z : List ℕ). slice_index z 2) pay)
              (ap (λ (z : List ℕ). slice_index z 3) pay) refl refl,
          subst (λ (z : SlotId). TreeAt p (slot_at p z).first a) same r.3,
          subst (λ (z : SlotId). TreeAt p (slot_at p z).second b) same r.4,
        )

    passes : (way : Way) (k : Option Kid) (w : Option SlotId) (t : Tree)
        → Tells (view_at views n) k way → Holds p k w
        → ((s : SlotId) → w ≡ Some s → (slot_at p s).stage ≡ Live) → TreeAt p w t → Passes way t
    passes ends k w leaf tells at live r = refl
    passes ends k w (node key' v' d' a b) tells at live r =
        let none = subst (λ (z : Option Kid). Holds p z w) tells at in
        absurd (none_some r.0 (sym none ∙ r.1))
    passes (stops key v d) k w leaf tells at live r =
        let some' = subst (λ (z : Option Kid). Holds p z w) tells.1 at in
        absurd (none_some tells.0.slot (sym r ∙ some'.0))
    passes (stops key v d) k w (node key' v' d' a b) tells at live r =
        let some' = subst (λ (z : Option Kid). Holds p z w) tells.1 at in
        (a, b, (at_node key v d key' v' d' tells.0 w a b tells.2 some' r).0)
    passes (left key v d way) k w leaf tells at live r =
        let some' = subst (λ (z : Option Kid). Holds p z w) tells.1 at in
        absurd (none_some tells.0.slot (sym r ∙ some'.0))
    passes (left key v d way) k w (node key' v' d' a b) tells at live r =
        let x = tells.0 in
        let some' = subst (λ (z : Option Kid). Holds p z w) tells.1 at in
        let is = at_node key v d key' v' d' x w a b tells.2 some' r in
        let holds = led_is x.slot x.life 0 tells.3.0 tells.3.1 some'.1 (live x.slot some'.0) in (
          a,
          b,
          is.0,
          passes way tells.3.0 (slot_at p x.slot).first a tells.3.2 holds
              (λ y e. led_live p lawful x.slot y (inl e)) is.1,
        )
    passes (right key v d way) k w leaf tells at live r =
        let some' = subst (λ (z : Option Kid). Holds p z w) tells.1 at in
        absurd (none_some tells.0.slot (sym r ∙ some'.0))
    passes (right key v d way) k w (node key' v' d' a b) tells at live r =
        let x = tells.0 in
        let some' = subst (λ (z : Option Kid). Holds p z w) tells.1 at in
        let is = at_node key v d key' v' d' x w a b tells.2 some' r in
        let holds = led_is x.slot x.life 1 tells.3.0 tells.3.1 some'.1 (live x.slot some'.0) in (
          a,
          b,
          is.0,
          passes way tells.3.0 (slot_at p x.slot).second b tells.3.2 holds
              (λ y e. led_live p lawful x.slot y (inr e)) is.2,
        )

    knows_ways : KnowsWays c p n (view_at views n)
    knows_ways = record {
      tree = law.tree;
      is = law.is;
      shaped = law.shaped;
      ways = λ k way is tells.
          passes way k (root p c) law.tree tells (kid_holds p n (root p c) k is)
          (λ s h. root_live p lawful c s h) law.is;
    }

pub look_keeps : (c : ℕ) → Keeps (MapLaw c) gone (AnswerReady c) answer_next (LookTells c)
look_keeps c p q views n step found meets low ready does =
    let kept = answer_keeps c p q views n step found meets low ready does in
    (kept.0, (kept.1.0, kept.1.1, knows_ways c p views n meets.lawful meets.law))

-- A FIELD IS READ. A node that isn't raw is none of the raw ones
without_none : (s : SlotId) (l : ℕ) (es : List Raw) → raw_times s l es ≡ 0 → without s l es ≡ es
without_none s l [] none = refl
without_none s l (e ∷ es) none =
    let sum = raw_cons s l e es in go (is_raw s l e) refl (without_none s l es (omega arith))
  where
    go : (b : Bool) → is_raw s l e ≡ b → without s l es ≡ es
        → (if b then without s l es else e ∷ without s l es) ≡ e ∷ es
    go true is rest = let one = raw_is s l e is in let sum = raw_cons s l e es in absurd (omega arith)
    go false is rest = ap (λ (xs : List Raw). e ∷ xs) rest

led_to_raw : (s : SlotId) (l i : ℕ) (r : SlotId) (o : Option Object) (v : View)
    → (led_to s l i r o v).raw ≡ v.raw
led_to_raw s l i r None v = refl
led_to_raw s l i r (Some o) v = refl

pub led_raw : (s : SlotId) (l i : ℕ) (after : OwnPart) (found : ℕ) (v : View)
    → (led_by s l i after found v).raw ≡ v.raw
led_raw s l i after zero v = refl
led_raw s l i after (suc r) v =
    led_to_raw s l i (record { 0 = r }) (after.objects (record { 0 = r })) v

kid_there : (p : Plain) (k : Option Kid) (w : Option SlotId) → Holds p k w → w ≡ slot_of_kid k
kid_there p None w h = h
kid_there p (Some x) w h = h.0

pub side_keeps : (c : ℕ) (s : SlotId) (i : ℕ)
    → Keeps (MapLaw c) gone (SideReady s i) (read_next s i) (SideTells c)
side_keeps c s i p q views n step found meets low ready does =
    let v = view_at views n in
    let o = ready.read.object in
    let kept = read_keeps c s i p q views n step found meets low ready.read does in
    let solid = each_in (Solid p views) (note s o.life) v.solid ready.solid (meets.law.learnt n).solid in
    let fresh = fresh_at views n s o.life low in
    let none : raw_times s o.life v.raw ≡ 0 = omega (arith, fresh, solid.1) in (
      kept.0,
      record {
        map = kept.1.0;
        raw = ap (λ (x : Option Object). (read_of s i x (own_part q n) v found).raw) ready.read.has
            ∙ (led_raw s o.life i (own_part q n) found (frozen s o.life v)
            ∙ without_none s o.life v.raw none);
        shown = kept.1.1;
        led = λ e x in' has life held.
            let is = object_is p n e.slot x has in
            let h = each_in (IsLed p views) e v.led in' (meets.law.learnt n).led in
            kid_there p e.kid (side e.side (slot_at p e.slot))
            (h.2 (sym (ap (λ (y : Object). y.life) is) ∙ life)
            (held_live p n e.slot meets.lawful does.0.0 held)).1;
      },
    )
