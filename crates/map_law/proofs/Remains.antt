-- Where nothing else holds a node, the live slots are the nodes of the root's tree, one for each key.
use Rattle.std.proofs.Common.{◌≡◌, ◌≢◌, ◌⊎◌, inl, inr, ⊎_elim, ℕ, zero, suc, ◌+◌, ◌<◌, ◌≤◌, List, [], ◌∷◌, length, get_or, refl, ap, sym, ◌∙◌, subst, arith}
use Rattle.std.specs.Prelude.{Option, Some, None, max}
use Rattle.std.proofs.lemmas.Bool.{cases_eq, cases_lt}
use Rattle.std.proofs.lemmas.List.Sums.{sum_by-cons}
use Rattle.plain_protocol.specs.plain_state.declared.slot.PlainSlot.{PlainSlot}
use Rattle.plain_protocol.specs.plain_state.declared.slot.SlotId.{SlotId}
use Rattle.plain_protocol.specs.plain_state.declared.slot.Stage.{Stage}
use Rattle.plain_protocol.specs.plain_state.declared.slot.Stage.TheVariants.{Free, Blank, Live, Ended, Husk}
use Rattle.plain_protocol.specs.plain_state.Lists.{cell_times}
use Rattle.plain_protocol.specs.plain_state.Lawful.{Lawful}
use Rattle.plain_protocol.specs.plain_state.References.{held_in, over_slots, strong_fields}
use Rattle.plain_protocol.specs.plain_state.State.{Plain, new_slot, slot_at}
use Rattle.plain_protocol.proofs.Below.plain_state_Kit.{held_is, held_none, cells_push, cells_none, cells_append}
use Rattle.map_trees.specs.Trees.{Tree, leaf, node, pairs, depth, Ascends}
use Rattle.map_law.specs.Views.{View}
use Rattle.map_law.specs.Nodes.{root, TreeAt, LiveNode, Leads, Inside}
use Rattle.map_law.specs.Law.{MapLaw}
use Rattle.map_law.specs.Promises.{Settled, Remains}
use Rattle.map_law.proofs.Unwritten.{inside_stays}
use Rattle.map_law.proofs.Kit.{none_some, some_same, number_same}
use Rattle.map_law.proofs.Steps.{live_inside}
use Rattle.map_law.proofs.OneTree.{one_tree}
use Rattle.map_law.proofs.Keys.{inside_has, one_slot, slot_of}

-- WHO REFERS
held_some : (s : SlotId) (w : Option SlotId) → 0 < held_in s w → w ≡ Some s
held_some s None h = let a = held_none s in absurd (omega arith)
held_some s (Some x) h = ap (λ (z : SlotId). Some z) (held_is s x h)

in_fields : (s : SlotId) (xs : List PlainSlot) → 0 < over_slots (strong_fields s) xs → (i : ℕ)
    × (0 < strong_fields s (get_or xs i new_slot))
unfolding over_slots
in_fields s [] h = absurd (omega arith)
in_fields s (x ∷ xs) h =
    let c = sum_by-cons (strong_fields s) x xs in
    ⊎_elim
    (λ (a : 0 < strong_fields s x). (0, a))
    (λ (a : strong_fields s x ≤ 0). let r = in_fields s xs (omega arith) in (suc r.0, r.1))
    (cases_lt 0 (strong_fields s x))

cells_one : (s : SlotId) (x : Option SlotId) (xs : List (Option SlotId))
    → cell_times s (x ∷ xs) ≡ held_in s x + cell_times s xs
cells_one s x xs = let a = cells_append s (x ∷ []) xs in let b = cells_push s x [] in let d = cells_none s in
    omega arith

in_cells : (s : SlotId) (cs : List (Option SlotId)) → 0 < cell_times s cs → (i : ℕ) × (get_or cs i None ≡ Some s)
in_cells s [] h = let a = cells_none s in absurd (omega arith)
in_cells s (x ∷ cs) h =
    let c = cells_one s x cs in
    ⊎_elim
    (λ (a : 0 < held_in s x). (0, held_some s x a))
    (λ (a : held_in s x ≤ 0). let r = in_cells s cs (omega arith) in (suc r.0, r.1))
    (cases_lt 0 (held_in s x))

stage_live : (x : Stage) → x ≢ Ended → (x ≡ Live) ⊎ ((x ≢ Live) × (x ≢ Ended))
stage_live Free e = inr ((λ h. absurd cc), (λ h. absurd cc))
stage_live Blank e = inr ((λ h. absurd cc), (λ h. absurd cc))
stage_live Live e = inl refl
stage_live Ended e = absurd (e refl)
stage_live Husk e = inr ((λ h. absurd cc), (λ h. absurd cc))

module _ (c : ℕ) (p : Plain) (views : List View) (lawful : Lawful p) (law : MapLaw c p views)
    (set : Settled c p) where
  is_node : (s : SlotId) → (slot_at p s).stage ≡ Live → LiveNode p s
  is_node s live = (live, set.nodes s live)

  -- what holds a live slot
  parent : (s : SlotId) → (slot_at p s).stage ≡ Live → (root p c ≡ Some s)
      ⊎ ((t : SlotId) × LiveNode p t × Leads p t s)
  parent s live =
      let a = set.live s live in let b = set.owned s in let d = set.deferred s in
      ⊎_elim
      (λ (h : 0 < cell_times s p.cells).
      let r = in_cells s p.cells h in
      ⊎_elim
      (λ (e : r.0 ≡ c). inl (subst (λ (i : ℕ). get_or p.cells i None ≡ Some s) e r.1))
      (λ ne. absurd (none_some s (sym (set.cells r.0 ne) ∙ r.1))) (cases_eq r.0 c))
      (λ (h : cell_times s p.cells ≤ 0).
      let r = in_fields s p.slots (omega arith) in
      let t : SlotId = record { 0 = r.0 } in
      let l : Leads p t s = ⊎_elim
      (λ (x : 0 < held_in s (slot_at p t).first). inl (held_some s (slot_at p t).first x))
      (λ (x : held_in s (slot_at p t).first ≤ 0). inr (held_some s (slot_at p t).second (let y = r.1 in omega arith)))
      (cases_lt 0 (held_in s (slot_at p t).first)) in
      ⊎_elim
      (λ (lv : (slot_at p t).stage ≡ Live). inr (t, is_node t lv, l))
      (λ (vacant : ((slot_at p t).stage ≢ Live) × ((slot_at p t).stage ≢ Ended)).
      let n = lawful.nulls t vacant in
      absurd (⊎_elim (λ e. none_some s (sym n.0 ∙ e)) (λ e. none_some s (sym n.1 ∙ e)) l))
      (stage_live (slot_at p t).stage (set.ended t)))
      (cases_lt 0 (cell_times s p.cells))

  -- a kid's tree is lower
  lower : (t s : SlotId) (tt' : Tree) (ts : Tree) → Leads p t s → TreeAt p (Some t) tt' → TreeAt p (Some s) ts
      → depth ts < depth tt'
  lower t s leaf ts l rt rs = absurd (none_some t (sym rt))
  lower t s (node k v h a b) ts l rt rs =
      let same : rt.0 ≡ t = sym (some_same t rt.0 rt.1) in
      let ra : TreeAt p (slot_at p t).first a = subst (λ (z : SlotId). TreeAt p (slot_at p z).first a) same rt.3 in
      let rb : TreeAt p (slot_at p t).second b = subst (λ (z : SlotId). TreeAt p (slot_at p z).second b) same rt.4 in
      ⊎_elim
      (λ (e : (slot_at p t).first ≡ Some s).
      let u = ap depth (one_tree p (Some s) ts a rs (subst (λ (z : Option SlotId). TreeAt p z a) e ra)) in
      omega arith)
      (λ (e : (slot_at p t).second ≡ Some s).
      let u = ap depth (one_tree p (Some s) ts b rs (subst (λ (z : Option SlotId). TreeAt p z b) e rb)) in
      omega arith) l

  -- the deepest tree
  bound : (n : ℕ) → (d : ℕ) × ((s : SlotId) → s.0 < n → (slot_at p s).stage ≡ Live → (t : Tree) → TreeAt p (Some s) t
      → depth t ≤ d)
  bound zero = (0, λ s low. absurd (omega arith))
  bound (suc n) = go (bound n) (stage_live (slot_at p (record { 0 = n })).stage (set.ended (record { 0 = n })))
    where
      x : SlotId
      x = record { 0 = n }

      go : (d : ℕ) × ((s : SlotId) → s.0 < n → (slot_at p s).stage ≡ Live → (t : Tree) → TreeAt p (Some s) t
          → depth t ≤ d)
          → ((slot_at p (record { 0 = n })).stage ≡ Live) ⊎ (((slot_at p (record { 0 = n })).stage ≢ Live)
          × ((slot_at p (record { 0 = n })).stage ≢ Ended))
          → (d : ℕ) × ((s : SlotId) → s.0 < suc n → (slot_at p s).stage ≡ Live → (t : Tree) → TreeAt p (Some s) t
          → depth t ≤ d)
      go i (inr not) = (
        i.0,
        λ s low live t r. ⊎_elim
            (λ (h : s.0 < n). i.1 s h live t r)
            (λ (h : n ≤ s.0). absurd
            (not.0 (subst (λ (z : SlotId). (slot_at p z).stage ≡ Live)
            (number_same s (record { 0 = n }) (omega arith)) live)))
            (cases_lt s.0 n),
      )
      go i (inl live0) =
          let o = law.trees (record { 0 = n }) (live0, set.nodes (record { 0 = n }) live0) in (
            max i.0 (depth o.0),
            λ s low live t r. ⊎_elim
                (λ (h : s.0 < n). let a = i.1 s h live t r in omega arith)
                (λ (h : n ≤ s.0). let e = number_same s (record { 0 = n }) (omega arith) in
                let u = ap depth (one_tree p (Some (record { 0 = n })) t o.0
                (subst (λ (z : SlotId). TreeAt p (Some z) t) e r) o.1) in omega arith)
                (cases_lt s.0 n),
          )

  -- a kid of a node of a tree is a node of it
  kid_inside : (w : Option SlotId) (t : Tree) (u s : SlotId) → TreeAt p w t → Inside p w t u → Leads p u s
      → Inside p w t s
  kid_inside w leaf u s r i l = absurd i
  kid_inside w (node k v h a b) u s r (inl at) l =
      let same : r.0 ≡ u = some_same r.0 u (sym r.1 ∙ at) in
      let ra : TreeAt p (slot_at p u).first a = subst (λ (z : SlotId). TreeAt p (slot_at p z).first a) same r.3 in
      let rb : TreeAt p (slot_at p u).second b = subst (λ (z : SlotId). TreeAt p (slot_at p z).second b) same r.4 in
      inr (
        u,
        at,
        ⊎_elim
            (λ (e : (slot_at p u).first ≡ Some s). inl (first_inside (slot_at p u).first a s ra e))
            (λ (e : (slot_at p u).second ≡ Some s). inr (first_inside (slot_at p u).second b s rb e)) l,
      )
    where
      first_inside : (w : Option SlotId) (t : Tree) (s : SlotId) → TreeAt p w t → w ≡ Some s → Inside p w t s
      first_inside w leaf s r e = absurd (none_some s (sym r ∙ e))
      first_inside w (node k v h a b) s r e = inl e
  kid_inside w (node k v h a b) u s r (inr i) l =
      let x = i.0 in
      let same : r.0 ≡ x = some_same r.0 x (sym r.1 ∙ i.1) in
      let ra : TreeAt p (slot_at p x).first a = subst (λ (z : SlotId). TreeAt p (slot_at p z).first a) same r.3 in
      let rb : TreeAt p (slot_at p x).second b = subst (λ (z : SlotId). TreeAt p (slot_at p z).second b) same r.4 in
      inr (
        x,
        i.1,
        ⊎_elim
            (λ j. inl (kid_inside (slot_at p x).first a u s ra j l))
            (λ j. inr (kid_inside (slot_at p x).second b u s rb j l)) i.2,
      )

  root_inside : (w : Option SlotId) (t : Tree) (s : SlotId) → TreeAt p w t → w ≡ Some s → Inside p w t s
  root_inside w leaf s r e = absurd (none_some s (sym r ∙ e))
  root_inside w (node k v h a b) s r e = inl e

  -- upwards from a slot, at most so many levels
  climb : (d m : ℕ) → ((s : SlotId) → (slot_at p s).stage ≡ Live → (t : Tree) → TreeAt p (Some s) t → depth t ≤ d)
      → (s : SlotId) → (slot_at p s).stage ≡ Live → (t : Tree) → TreeAt p (Some s) t → d ≤ depth t + m
      → Inside p (root p c) law.tree s
  climb d zero most s live t r le = ⊎_elim
      (λ (e : root p c ≡ Some s). root_inside (root p c) law.tree s law.is e)
      (λ (up : (u : SlotId) × LiveNode p u × Leads p u s).
      let o = law.trees up.0 up.1 in
      let a = lower up.0 s o.0 t up.2 o.1 r in
      let b = most up.0 up.1.0 o.0 o.1 in absurd (omega arith))
      (parent s live)
  climb d (suc m) most s live t r le = ⊎_elim
      (λ (e : root p c ≡ Some s). root_inside (root p c) law.tree s law.is e)
      (λ (up : (u : SlotId) × LiveNode p u × Leads p u s).
      let o = law.trees up.0 up.1 in
      let a = lower up.0 s o.0 t up.2 o.1 r in
      kid_inside (root p c) law.tree up.0 s law.is (climb d m most up.0 up.1.0 o.0 o.1 (omega arith)) up.2)
      (parent s live)

  pub all_inside : (s : SlotId) → (slot_at p s).stage ≡ Live → Inside p (root p c) law.tree s
  all_inside s live =
      let b = bound (length p.slots) in
      let o = law.trees s (is_node s live) in
      climb b.0 b.0 (λ x lv t r. b.1 x (live_inside p x lv) lv t r) s live o.0 o.1 (omega arith)

-- ALL OF IT
pub remains : (c : ℕ) (p : Plain) (views : List View) → Lawful p → MapLaw c p views → Settled c p → (t : Tree)
    → TreeAt p (root p c) t → Remains c p t
remains c p views lawful law settled t r = record {
  inside = inside;
  lives = λ s i. (inside_stays c p views lawful law t r s i).0;
  keys = λ s live. inside_has p (root p c) t s r (inside s live);
  each = λ key has. let o = slot_of p (root p c) t key r has in
      (o.0, (inside_stays c p views lawful law t r o.0 o.1).0, o.2);
  one = λ s u a b e. one_slot p (root p c) t r (subst (λ (z : Tree). Ascends (pairs z)) same law.shaped.0) s u
      (inside s a) (inside u b) e;
}
  where
    same : law.tree ≡ t
    same = one_tree p (root p c) law.tree t law.is r

    inside : (s : SlotId) → (slot_at p s).stage ≡ Live → Inside p (root p c) t s
    inside s live = subst (λ (z : Tree). Inside p (root p c) z s) same
        (all_inside c p views lawful law settled s live)
