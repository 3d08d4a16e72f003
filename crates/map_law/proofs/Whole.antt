-- The law after a step, from what the step leaves.
use Rattle.std.proofs.Common.{◌≡◌, ◌⊎◌, inl, inr, ⊎_elim, ℕ, ◌<◌, ◌≤◌, Bool, true, List, length, set, refl, ap, sym, ◌∙◌, subst, arith}
use Rattle.std.specs.Prelude.{Option, Some, cond, sum_by}
use Rattle.std.proofs.lemmas.Bool.{cases_eq, false≢true}
use Rattle.plain_protocol.specs.plain_state.declared.slot.SlotId.{SlotId}
use Rattle.plain_protocol.specs.plain_state.declared.slot.Stage.TheVariants.{Live}
use Rattle.plain_protocol.specs.plain_state.State.{Plain, slot_at}
use Rattle.plain_protocol.specs.plain_state.Lawful.{Lawful}
use Rattle.map_trees.specs.Trees.{Tree}
use Rattle.map_trees.specs.declared.change.Entry.{Entry}
use Rattle.map_law.specs.Views.{Note, Raw, Led, View, gone, view_at, In, Each, fresh, total, Shown}
use Rattle.map_law.specs.Nodes.{root, IsNode, TreeAt, LiveNode, Leads}
use Rattle.map_law.specs.Learnt.{Built, Solid, IsLed, IsShown, Learnt}
use Rattle.map_law.specs.Orders.{tagged, home, Kept}
use Rattle.map_law.specs.Law.{MapLaw}
use Rattle.map_law.proofs.Kit.{each_map, each_known, some_same, view_here, view_else, total_set}
use Rattle.map_law.proofs.Frame.{Frame, led_live, root_live, tree_at_on, built_on, solid_on, led_on, shown_on}
use Rattle.map_law.proofs.Left.{LeftSame}
use Rattle.map_law.proofs.OneTree.{one_tree}
use Rattle.map_law.specs.Nodes.{KeepsMap}

-- VIEWS: what the order, the numbers and the leaves read of them is the same
pub record Heads (views after : List View) : Type 0 where
  pub here : (m : ℕ) → (view_at after m).here ≡ (view_at views m).here
  pub number : (m : ℕ) → (view_at after m).number ≡ (view_at views m).number
  pub entries : (m : ℕ) → (view_at after m).entries ≡ (view_at views m).entries
  pub many : (f : Entry → ℕ) → total (λ v. sum_by f v.entries) after ≡ total (λ v. sum_by f v.entries) views
  pub cleared : (view_at after 0).cleared ≡ (view_at views 0).cleared
  pub none : (m : ℕ) → view_at views m ≡ gone → view_at after m ≡ gone

pub same_heads : (views : List View) → Heads views views
same_heads views = record {
  here = λ m. refl;
  number = λ m. refl;
  entries = λ m. refl;
  many = λ f. refl;
  cleared = refl;
  none = λ m e. e;
}

pub set_reads : {A : Type 0} (f : View → A) (views : List View) (n : ℕ) (w : View) → n < length views
    → f w ≡ f (view_at views n) → (m : ℕ) → f (view_at (set views n w) m) ≡ f (view_at views m)
set_reads f views n w low same m = ⊎_elim
    (λ (e : m ≡ n). ap (λ (z : ℕ). f (view_at (set views n w) z)) e
    ∙ (ap f (view_here views n w low) ∙ (same ∙ ap (λ (z : ℕ). f (view_at views z)) (sym e))))
    (λ ne. ap f (view_else views n m w ne)) (cases_eq m n)

pub not_gone : (v : View) → v.here ≡ true → v ≡ gone → ⊥
not_gone v here e = false≢true (sym (ap (λ (z : View). z.here) e) ∙ here)

pub set_heads : (views : List View) (n : ℕ) (w : View) → n < length views → (view_at views n).here ≡ true
    → w.here ≡ (view_at views n).here → w.number ≡ (view_at views n).number → w.entries ≡ (view_at views n).entries
    → w.cleared ≡ (view_at views n).cleared
    → Heads views (set views n w)
set_heads views n w low here a b d e = record {
  here = set_reads (λ (z : View). z.here) views n w low a;
  number = set_reads (λ (z : View). z.number) views n w low b;
  entries = set_reads (λ (z : View). z.entries) views n w low d;
  many = λ f. let t = total_set (λ (v : View). sum_by f v.entries) views n w low in let g =
      ap (λ (l : List Entry). sum_by f l) d in omega arith;
  cleared = set_reads (λ (z : View). z.cleared) views n w low e 0;
  none = λ m g. view_else views n m w (λ (is : m ≡ n). not_gone (view_at views n) here (ap (view_at views) (sym is)
      ∙ g)) ∙ g;
}

pub same_home : (views after : List View) → Heads views after → (n : ℕ) → home after n ≡ home views n
same_home views after h n = ap (λ (b : Bool). cond b n 0) (h.here n)

pub kept_on : (all : List Entry) (views after : List View) → Heads views after → Kept all views → Kept all after
kept_on all views after h k = record {
  own = λ n. ap (λ (m : ℕ). tagged n (view_at after m).entries) (same_home views after h n)
      ∙ (ap (tagged n) (h.entries (home views n)) ∙ k.own n);
  none = λ n m ne. ap (tagged n) (h.entries m) ∙ k.none n m (λ e. ne (e ∙ sym (same_home views after h n)));
}

module _ (c : ℕ) (X : SlotId → Type 0) (p q : Plain) (views after : List View) (fr : Frame X p q) (lawful : Lawful p)
    (law : MapLaw c p views)
    (xnew : (s : SlotId) → X s → (slot_at q s).life ≤ (slot_at p s).life → fresh views s (slot_at q s).life ≡ 0 → ⊥)
    (fresh_on : (s : SlotId) (l : ℕ) → l ≤ (slot_at p s).life → fresh views s l ≡ 0 → fresh after s l ≡ 0) where
  pub out : (s : SlotId) → (slot_at p s).stage ≡ Live → fresh views s (slot_at p s).life ≡ 0 → ¬ (X s)
  out s live none x = let g = (fr.kept s live).0 in xnew s x (omega arith) (ap (fresh views s) g ∙ none)

  pub clear : (t s : SlotId) → LiveNode p t → Leads p t s → ¬ (X s)
  clear t s is l = out s (led_live p lawful t s l) (law.loose t s is l)

  pub at_root : (s : SlotId) → root p c ≡ Some s → ((slot_at p s).stage ≡ Live) × ¬ (X s)
  at_root s e = let l = root_live p lawful c s e in (l, out s l (law.stands s e))

  pub tree_on : TreeAt q (root p c) law.tree
  tree_on = tree_at_on X p q fr lawful clear (root p c) at_root law.tree law.is

  pub map_on : root q c ≡ root p c → KeepsMap c p q
  map_on cell = (
    cell,
    λ t r. subst (λ (w : Option SlotId). TreeAt q w t) (sym cell)
        (subst (TreeAt q (root p c)) (one_tree p (root p c) law.tree t law.is r) tree_on),
  )

  pub below_on : (t : SlotId) → LiveNode p t → (w : Option SlotId) → ((s : SlotId) → w ≡ Some s → Leads p t s)
      → (a : Tree) → TreeAt p w a → TreeAt q w a
  below_on t is w leads a r =
      tree_at_on X p q fr lawful clear w (λ s e. (led_live p lawful t s (leads s e), clear t s is (leads s e))) a r

  pub tree_at_from : (w : Option SlotId) → ((s : SlotId) → w ≡ Some s → ((slot_at p s).stage ≡ Live) × ¬ (X s))
      → (a : Tree) → TreeAt p w a → TreeAt q w a
  tree_at_from w ok a r = tree_at_on X p q fr lawful clear w ok a r

  pub was : (s : SlotId) → ¬ (X s) → LiveNode q s → LiveNode p s
  was s not is = let l = fr.live s not is.0 in (l, subst IsNode (fr.kept s l).1 is.1)

  pub trees_on : (s : SlotId) → ¬ (X s) → LiveNode q s → (t : Tree) × TreeAt q (Some s) t
  trees_on s not is =
      let o = was s not is in
      let t = law.trees s o in (
        t.0,
        tree_at_on X p q fr lawful clear (Some s) (λ x e. subst (λ (z : SlotId). ((slot_at p z).stage ≡ Live)
            × ¬ (X z)) (some_same s x e) (o.0, not)) t.0 t.1,
      )

  pub loose_on : (t s : SlotId) → ¬ (X t) → LiveNode q t → Leads q t s → fresh after s (slot_at q s).life ≡ 0
  loose_on t s not is l =
      let o = was t not is in
      let f = fr.fields t not o.0 o.1 in
      let k : Leads p t s = ⊎_elim (λ e. inl (sym f.0 ∙ e)) (λ e. inr (sym f.1 ∙ e)) l in
      let g = (fr.kept s (led_live p lawful t s k)).0 in
      ap (fresh after s) g ∙ fresh_on s (slot_at p s).life (omega arith) (law.loose t s o k)

  pub stands_on : (s : SlotId) → root p c ≡ Some s → fresh after s (slot_at q s).life ≡ 0
  stands_on s e =
      let g = (fr.kept s (root_live p lawful c s e)).0 in
      ap (fresh after s) g ∙ fresh_on s (slot_at p s).life (omega arith) (law.stands s e)

  pub solids_on : (es : List Note) → Each (Solid p views) es → Each (Solid q after) es
  solids_on es h = each_map (Solid p views) (Solid q after) (solid_on X p q fr lawful clear views after fresh_on) es h

  pub leds_on : (es : List Led) → Each (IsLed p views) es → Each (IsLed q after) es
  leds_on es h = each_map (IsLed p views) (IsLed q after)
      (λ e i. led_on X p q fr lawful clear views after fresh_on e
      (λ life le none x. xnew e.slot x (omega arith) (ap (fresh views e.slot) life ∙ none)) i) es h

  pub showns_on : (es : List Shown) → Each (IsShown p views) es → Each (IsShown q after) es
  showns_on es h = each_map (IsShown p views) (IsShown q after)
      (λ e i. shown_on X p q fr lawful clear views after fresh_on e
      (λ life le none x. xnew e.slot x (omega arith) (ap (fresh views e.slot) life ∙ none)) i) es h

  pub raws_on : (es : List Raw) → ((e : Raw) → In e es → (slot_at q e.slot).life ≡ e.life → ¬ (X e.slot))
      → Each (Built p) es → Each (Built q) es
  raws_on es not h = each_known (Built p) (Built q) es (λ e i b. built_on X p q fr lawful clear e (not e i) b) h

  pub learnt_on : (v : View) → ((e : Raw) → In e v.raw → (slot_at q e.slot).life ≡ e.life → ¬ (X e.slot))
      → Learnt p views v → Learnt q after v
  learnt_on v not h = record {
    raw = raws_on v.raw not h.raw;
    solid = solids_on v.solid h.solid;
    led = leds_on v.led h.led;
    shown = showns_on v.shown h.shown;
  }

  pub law_on : ((s : SlotId) → X s ⊎ ¬ (X s)) → root q c ≡ root p c
      → ((s : SlotId) → X s → LiveNode q s → (t : Tree) × TreeAt q (Some s) t)
      → ((t s : SlotId) → X t → LiveNode q t → Leads q t s → fresh after s (slot_at q s).life ≡ 0)
      → ((s : SlotId) (l : ℕ) → fresh after s l ≤ 1) → ((s : SlotId) (l : ℕ) → 0 < fresh after s l
      → l ≤ (slot_at q s).life)
      → ((m : ℕ) → Learnt q after (view_at after m)) → Heads views after → LeftSame p q → MapLaw c q after
  law_on decide cell xtree xloose once lives learnt heads left = record {
    tree = law.tree;
    is = subst (λ (w : Option SlotId). TreeAt q w law.tree) (sym cell) tree_on;
    shaped = law.shaped;
    trees = λ s is. ⊎_elim (λ (x : X s). xtree s x is) (λ (not : ¬ (X s)). trees_on s not is) (decide s);
    loose = λ t s is l. ⊎_elim (λ (x : X t). xloose t s x is l) (λ (not : ¬ (X t)). loose_on t s not is l) (decide t);
    stands = λ s e. stands_on s (sym cell ∙ e);
    once = once;
    lives = lives;
    learnt = learnt;
    number = λ n h. heads.number n ∙ law.number n (sym (heads.here n) ∙ h);
    orders = let o = law.orders in record {
      all = o.all;
      kept = kept_on o.all views after heads o.kept;
      many = λ f. heads.many f ∙ o.many f;
      answers = o.answers;
      ends = λ e. o.ends (sym heads.cleared ∙ e);
    };
    left = λ m e. heads.none m
        (law.left m (⊎_elim (λ past. let z = left.seats in inl (omega arith)) (λ h. inr (sym (left.left m) ∙ h)) e));
    closed = λ e m ne. heads.none m (law.closed (sym heads.cleared ∙ e) m ne);
  }
