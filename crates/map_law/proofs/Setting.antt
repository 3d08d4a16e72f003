-- The write of a field of a node that stands in no tree keeps the law.
use Rattle.std.proofs.Common.{◌≡◌, ◌≢◌, ◌⊎◌, inl, inr, ⊎_elim, ℕ, ◌+◌, ◌<◌, ◌≤◌, Bool, true, false, List, [], ◌∷◌, ◌++◌, length, get_or, set, refl, ap, sym, ◌∙◌, subst, arith}
use Rattle.std.specs.Prelude.{Option, Some, None, if◌then◌else◌, ◌==◌}
use Rattle.std.proofs.lemmas.List.{length-set}
use Rattle.std.proofs.lemmas.Bool.{cases_lt}
use Rattle.plain_protocol.specs.plain_state.declared.slot.PlainSlot.{PlainSlot}
use Rattle.plain_protocol.specs.plain_state.declared.slot.SlotId.{SlotId}
use Rattle.plain_protocol.specs.plain_state.declared.slot.Stage.TheVariants.{Live}
use Rattle.plain_protocol.specs.plain_state.Places.{with_field}
use Rattle.plain_protocol.specs.plain_state.State.{Plain, slot_at}
use Rattle.plain_protocol.specs.plain_state.Lawful.{Lawful}
use Rattle.map_trees.specs.Trees.{Tree, leaf, node}
use Rattle.map_law.specs.Views.{Note, Kid, Raw, View, gone, view_at, In, note, kid, is_raw, raw_one, raw_times, without, fresh}
use Rattle.map_law.specs.Nodes.{words, IsNode, TreeAt, LiveNode, Leads, Holds}
use Rattle.map_law.specs.Learnt.{Built, Learnt}
use Rattle.map_law.specs.Law.{MapLaw}
use Rattle.map_law.specs.Making.{with_kid}
use Rattle.map_law.specs.Nodes.{KeepsMap}
use Rattle.map_law.specs.Views.{Each}
use Rattle.map_law.proofs.Kit.{cases_id, none_some, some_same, each_in, at_view, raw_cons, raw_none, raw_same, raw_like, in_times, fresh_set, fresh_at, total_both}
use Rattle.map_law.proofs.Left.{LeftSame}
use Rattle.map_law.proofs.Frame.{Frame, tree_at_on, holds_on, led_live}
use Rattle.map_law.proofs.Steps.{Only, slot_here, live_inside, frame_write}
use Rattle.map_law.proofs.Whole.{set_heads, learnt_on, raws_on, solids_on, leds_on, showns_on, law_on, map_on, below_on, clear}

-- a write twice in one place
pub set_twice : {A : Type 0} (xs : List A) (n : ℕ) (a b : A) → set (set xs n a) n b ≡ set xs n b
set_twice [] n a b = refl
set_twice (x ∷ xs) Rattle.std.proofs.Common.zero a b = refl
set_twice (x ∷ xs) (Rattle.std.proofs.Common.suc n) a b = ap (λ (l : List _). x ∷ l) (set_twice xs n a b)

-- one field of a slot, written: what the two fields hold then
pub record SideSet (i : ℕ) (r : SlotId) (x y : PlainSlot) : Type 0 where
  pub is : ((i ≡ 0) × (y.first ≡ Some r) × (y.second ≡ x.second))
      ⊎ ((i ≡ 1) × (y.first ≡ x.first) × (y.second ≡ Some r))

side_set : (i : ℕ) (r : SlotId) (x : PlainSlot) → (i ≡ 0) ⊎ (i ≡ 1) → SideSet i r x (with_field i (Some r) x)
side_set i r x at = ⊎_elim
    (λ (e : i ≡ 0). subst (λ (j : ℕ). SideSet j r x (with_field j (Some r) x)) (sym e)
    (record { is = inl (refl, refl, refl) }))
    (λ (e : i ≡ 1). subst (λ (j : ℕ). SideSet j r x (with_field j (Some r) x)) (sym e)
    (record { is = inr (refl, refl, refl) })) at

-- views in which the seat n has the node s first among those that are its own to change, and r is nobody's
module _ (c : ℕ) (p q : Plain) (i : ℕ) (s r : SlotId) (views : List View) (n : ℕ) (e : Raw) (es : List Raw) (k : Kid)
    (slots : q.slots ≡ set p.slots s.0 (with_field i (Some r) (slot_at p s))) (cells : q.cells ≡ p.cells)
    (at : (i ≡ 0) ⊎ (i ≡ 1))
    (left : LeftSame p q) (lawful : Lawful p) (law : MapLaw c p views) (low : n < length views)
    (here : (view_at views n).here ≡ true)
    (raw : (view_at views n).raw ≡ e ∷ es) (is_s : e.slot ≡ s) (life_s : e.life ≡ (slot_at p s).life)
    (live_s : (slot_at p s).stage ≡ Live)
    (other : s ≢ r) (live_r : LiveNode p r) (none_r : fresh views r (slot_at p r).life ≡ 0)
    (kid_r : Holds p (Some k) (Some r)) where
  f : Raw
  f = with_kid i (Some k) e

  w : View
  w = record (view_at views n) { raw = f ∷ es }

  y : PlainSlot
  y = with_field i (Some r) (slot_at p s)

  is_y : slot_at q s ≡ y
  unfolding y
  is_y = slot_here p q s _ slots (live_inside p s live_s)

  sides : SideSet i r (slot_at p s) (slot_at q s)
  unfolding y is_y
  sides = subst (SideSet i r (slot_at p s)) (sym is_y) (side_set i r (slot_at p s) at)

  like : (f.slot ≡ e.slot) × (f.life ≡ e.life) × (f.payload ≡ e.payload)
  unfolding f
  like = go (i == 0)
    where
      go : (z : Bool) → ((if z then record e { first = Some k } else record e { second = Some k }).slot ≡ e.slot)
          × ((if z then record e { first = Some k } else record e { second = Some k }).life ≡ e.life)
          × ((if z then record e { first = Some k } else record e { second = Some k }).payload ≡ e.payload)
      go true = (refl, refl, refl)
      go false = (refl, refl, refl)

  counted : (x : SlotId) (l : ℕ) → fresh (set views n w) x l ≡ fresh views x l
  unfolding w
  counted x l =
      let a = fresh_set views n w x l low in
      let b = raw_cons x l f es in
      let d = raw_cons x l e es in
      let g = ap (raw_times x l) raw in
      let h = raw_like x l e f like.0 like.1 in omega arith

  mine : 0 < fresh views s (slot_at p s).life
  mine =
      let a = fresh_at views n s (slot_at p s).life low in
      let g = ap (raw_times s (slot_at p s).life) raw in
      let d = raw_cons s (slot_at p s).life e es in
      let b = raw_same s (slot_at p s).life e is_s life_s in omega arith

  fr : Frame (Only s) p q
  fr = frame_write (Only s) p q s (with_field i (Some r) (slot_at p s)) slots (live_inside p s live_s)
      (kept (λ z. z.stage) (λ x. refl) (λ x. refl)) (kept (λ z. z.life) (λ x. refl) (λ x. refl))
      (kept (λ z. z.payload) (λ x. refl) (λ x. refl))
      (λ not. absurd (not refl))
    where
      kept : {A : Type 0} (g : PlainSlot → A)
          → ((x : Option SlotId) → g (record (slot_at p s) { first = x }) ≡ g (slot_at p s))
          → ((x : Option SlotId) → g (record (slot_at p s) { second = x }) ≡ g (slot_at p s))
          → g (with_field i (Some r) (slot_at p s)) ≡ g (slot_at p s)
      kept {A} g a b = go (i == 0)
        where
          go : (z : Bool) → g (if z then record (slot_at p s) { first = Some r }
              else record (slot_at p s) { second = Some r }) ≡ g (slot_at p s)
          go true = a (Some r)
          go false = b (Some r)

  xnew : (x : SlotId) → Only s x → (slot_at q x).life ≤ (slot_at p x).life → fresh views x (slot_at q x).life ≡ 0 → ⊥
  xnew x h le none =
      let a : fresh views s (slot_at q s).life ≡ 0 =
      subst (λ (z : SlotId). fresh views z (slot_at q z).life ≡ 0) h none in
      let b = (fr.kept s live_s).0 in
      let d : fresh views s (slot_at q s).life ≡ fresh views s (slot_at p s).life = ap (fresh views s) b in
      let g = mine in absurd (omega arith)

  fresh_on : (x : SlotId) (l : ℕ) → l ≤ (slot_at p x).life → fresh views x l ≡ 0 → fresh (set views n w) x l ≡ 0
  fresh_on x l le h = counted x l ∙ h

  clear_s : (t x : SlotId) → LiveNode p t → Leads p t x → ¬ (Only s x)
  clear_s = clear c (Only s) p q views (set views n w) fr lawful law xnew fresh_on

  not_r : ¬ (Only s r)
  not_r h = other (sym h)

  kid_tree_on : (t : Tree) → TreeAt p (Some r) t → TreeAt q (Some r) t
  kid_tree_on t h = tree_at_on (Only s) p q fr lawful clear_s (Some r)
      (λ x z. subst (λ (v : SlotId). ((slot_at p v).stage ≡ Live) × ¬ (Only s v)) (some_same r x z) (
        live_r.0,
        not_r,
      )) t h

  below : (x : Option SlotId) → ((v : SlotId) → x ≡ Some v → Leads p s v) → LiveNode p s → (t : Tree) → TreeAt p x t
      → TreeAt q x t
  below x leads is t h = below_on c (Only s) p q views (set views n w) fr lawful law xnew fresh_on s is x leads t h

  node_s : LiveNode q s → LiveNode p s
  node_s is = (live_s, subst IsNode (fr.kept s live_s).1 is.1)

  tree_s : LiveNode q s → (t : Tree) × TreeAt q (Some s) t
  tree_s is = let o = node_s is in
      go o (law.trees r live_r).0 (kid_tree_on (law.trees r live_r).0 (law.trees r live_r).1) (law.trees s o).0
      (law.trees s o).1
    where
      go : LiveNode p s → (tr : Tree) → TreeAt q (Some r) tr → (t : Tree) → TreeAt p (Some s) t → (t : Tree)
          × TreeAt q (Some s) t
      go o tr rr leaf h = absurd (none_some s (sym h))
      go o tr rr (node key v height a b) h =
          let same : h.0 ≡ s = sym (some_same s h.0 h.1) in
          let ra : TreeAt p (slot_at p s).first a = subst (λ (z : SlotId). TreeAt p (slot_at p z).first a) same h.3 in
          let rb : TreeAt p (slot_at p s).second b =
          subst (λ (z : SlotId). TreeAt p (slot_at p z).second b) same h.4 in
          let pay : (slot_at q s).payload ≡ words key v height = (fr.kept s live_s).1
          ∙ subst (λ (z : SlotId). (slot_at p z).payload ≡ words key v height) same h.2 in
          ⊎_elim
          (λ (x : (i ≡ 0) × ((slot_at q s).first ≡ Some r) × ((slot_at q s).second ≡ (slot_at p s).second)). (
            node key v height tr b,
            (
              s,
              refl,
              pay,
              subst (λ (z : Option SlotId). TreeAt q z tr) (sym x.1) rr,
              subst (λ (z : Option SlotId). TreeAt q z b) (sym x.2)
                  (below (slot_at p s).second (λ u z. inr z) o b rb),
            ),
          ))
          (λ (x : (i ≡ 1) × ((slot_at q s).first ≡ (slot_at p s).first) × ((slot_at q s).second ≡ Some r)). (
            node key v height a tr,
            (
              s,
              refl,
              pay,
              subst (λ (z : Option SlotId). TreeAt q z a) (sym x.1) (below (slot_at p s).first (λ u z. inl z) o a ra),
              subst (λ (z : Option SlotId). TreeAt q z tr) (sym x.2) rr,
            ),
          ))
          sides.is

  -- what a field of s holds now is nobody's to change
  loose_s : (x : SlotId) → LiveNode q s → Leads q s x → fresh (set views n w) x (slot_at q x).life ≡ 0
  loose_s x is l =
      let o = node_s is in
      let new : Some r ≡ Some x → fresh (set views n w) x (slot_at q x).life ≡ 0 = λ z.
      let z' = some_same r x z in
      subst (λ (v : SlotId). fresh (set views n w) v (slot_at q v).life ≡ 0) z' (counted r (slot_at q r).life
      ∙ (ap (fresh views r) (fr.kept r live_r.0).0 ∙ none_r)) in
      let old : Leads p s x → fresh (set views n w) x (slot_at q x).life ≡ 0 = λ z.
      counted x (slot_at q x).life ∙ (ap (fresh views x) (fr.kept x (led_live p lawful s x z)).0
      ∙ law.loose s x o z) in
      ⊎_elim
      (λ (z : (i ≡ 0) × ((slot_at q s).first ≡ Some r) × ((slot_at q s).second ≡ (slot_at p s).second)).
      ⊎_elim (λ (h : (slot_at q s).first ≡ Some x). new (sym z.1 ∙ h))
      (λ (h : (slot_at q s).second ≡ Some x). old (inr (sym z.2 ∙ h))) l)
      (λ (z : (i ≡ 1) × ((slot_at q s).first ≡ (slot_at p s).first) × ((slot_at q s).second ≡ Some r)).
      ⊎_elim (λ (h : (slot_at q s).first ≡ Some x). old (inl (sym z.1 ∙ h)))
      (λ (h : (slot_at q s).second ≡ Some x). new (sym z.2 ∙ h)) l)
      sides.is

  -- no other note is of this node
  not_s : (g : Raw) → In g es → (slot_at q g.slot).life ≡ g.life → ¬ (Only s g.slot)
  not_s g h life x =
      let l = (slot_at p s).life in
      let b = (fr.kept s live_s).0 in
      let y : (slot_at q s).life ≡ g.life = subst (λ (z : SlotId). (slot_at q z).life ≡ g.life) x life in
      let a = in_times s l g es x (omega arith) h in
      let d = raw_cons s l e es in
      let u = raw_same s l e is_s life_s in
      let v = ap (raw_times s l) raw in
      let t = fresh_at views n s l low in
      let o = law.once s l in absurd (omega arith)

  not_theirs : (m : ℕ) → m ≢ n → (g : Raw) → In g (view_at views m).raw → (slot_at q g.slot).life ≡ g.life
      → ¬ (Only s g.slot)
  not_theirs m ne g h life x =
      let l = (slot_at p s).life in
      let b = (fr.kept s live_s).0 in
      let y : (slot_at q s).life ≡ g.life = subst (λ (z : SlotId). (slot_at q z).life ≡ g.life) x life in
      let a = in_times s l g (view_at views m).raw x (omega arith) h in
      let d = raw_cons s l e es in
      let u = raw_same s l e is_s life_s in
      let v = ap (raw_times s l) raw in
      let o = law.once s l in
      ⊎_elim
      (λ (hm : m < length views). let t = total_both (λ (z : View). raw_times s l z.raw) views n m
      (raw_none s l) low hm ne in absurd (omega arith))
      (λ past. absurd (subst (λ (z : View). In g z.raw) (Rattle.std.proofs.lemmas.List.get_or_past views m gone past)
      h))
      (cases_lt m (length views))

  built : Built q f
  unfolding f
  built =
      let b = each_in (Built p) e (view_at views n).raw (subst (In e) (sym raw) (inl refl)) (law.learnt n).raw in
      let g = fr.kept s live_s in
      let h = subst (λ (z : SlotId). (slot_at p z).life ≡ e.life → (slot_at p z).stage ≡ Live
      → ((slot_at p z).payload ≡ e.payload) × IsNode e.payload × Holds p e.first (slot_at p z).first
      × Holds p e.second (slot_at p z).second) is_s b.1 (sym life_s) live_s in
      let kr : Holds q (Some k) (Some r) = holds_on (Only s) p q fr lawful clear_s (Some k) (Some r) (Some r) refl
      (λ x z. subst (λ (v : SlotId). (slot_at p v).stage ≡ Live) (some_same r x z) live_r.0) kid_r in
      ⊎_elim
      (λ (z : (i ≡ 0) × ((slot_at q s).first ≡ Some r) × ((slot_at q s).second ≡ (slot_at p s).second)).
      subst (λ (j : ℕ). Built q (with_kid j (Some k) e)) (sym z.0)
      (subst (λ (v : SlotId). Built q (record e { slot = v; first = Some k })) (sym is_s) (
        (omega arith),
        λ life live. (
          g.1 ∙ h.0,
          h.1,
          subst (λ (v : Option SlotId). Holds q (Some k) v) (sym z.1) kr,
          holds_on (Only s) p q fr lawful clear_s e.second (slot_at p s).second (slot_at q s).second z.2
              (λ x u. led_live p lawful s x (inr u)) h.3,
        ),
      )))
      (λ (z : (i ≡ 1) × ((slot_at q s).first ≡ (slot_at p s).first) × ((slot_at q s).second ≡ Some r)).
      subst (λ (j : ℕ). Built q (with_kid j (Some k) e)) (sym z.0)
      (subst (λ (v : SlotId). Built q (record e { slot = v; second = Some k })) (sym is_s) (
        (omega arith),
        λ life live. (
          g.1 ∙ h.0,
          h.1,
          holds_on (Only s) p q fr lawful clear_s e.first (slot_at p s).first (slot_at q s).first z.1
              (λ x u. led_live p lawful s x (inl u)) h.2,
          subst (λ (v : Option SlotId). Holds q (Some k) v) (sym z.2) kr,
        ),
      )))
      sides.is

  pub write_law : MapLaw c q (set views n (record (view_at views n) { raw = with_kid i (Some k) e ∷ es }))
  unfolding w f
  write_law =
      let o = law.learnt n in
      let after = set views n w in
      let raws = subst (λ (l : List Raw). Rattle.map_law.specs.Views.Each (Built p) l) raw o.raw in
      law_on c (Only s) p q views after fr lawful law xnew fresh_on
      (λ x. cases_id x s) (ap (λ (l : List (Option SlotId)). get_or l c None) cells)
      (λ x h is. subst (λ (z : SlotId). (t : Tree) × TreeAt q (Some z) t) (sym h) (tree_s (subst (LiveNode q) h is)))
      (λ t x h is l. loose_s x (subst (LiveNode q) h is) (subst (λ (z : SlotId). Leads q z x) h l))
      (λ x l. let a = counted x l in let b = law.once x l in omega arith)
      (λ x l h. let a = counted x l in let b = law.lives x l (omega arith) in let d = fr.life x in omega arith)
      (at_view views n w (Learnt q after) low
      (record {
        raw = (built, raws_on c (Only s) p q views after fr lawful law xnew fresh_on es not_s raws.1);
        solid = solids_on c (Only s) p q views after fr lawful law xnew fresh_on (view_at views n).solid o.solid;
        led = leds_on c (Only s) p q views after fr lawful law xnew fresh_on (view_at views n).led o.led;
        shown = showns_on c (Only s) p q views after fr lawful law xnew fresh_on (view_at views n).shown o.shown;
      })
      (λ m ne. learnt_on c (Only s) p q views after fr lawful law xnew fresh_on (view_at views m) (not_theirs m ne)
      (law.learnt m)))
      (set_heads views n w low here refl refl refl refl) left

  pub write_map : KeepsMap c p q
  write_map = map_on c (Only s) p q views (set views n w) fr lawful law xnew fresh_on
      (ap (λ (l : List (Option SlotId)). get_or l c None) cells)
