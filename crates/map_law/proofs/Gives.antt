-- What the law gives a caller.
use Rattle.std.proofs.Common.{◌≡◌, ◌≢◌, ⊎_elim, ℕ, zero, suc, ◌<◌, Bool, true, false, List, [], ◌∷◌, length, refl, ap, sym, ◌∙◌, subst, arith}
use Rattle.std.specs.Prelude.{◌^◌, Option, Some, None, cond, sum_by}
use Rattle.std.proofs.lemmas.List.Sums.{sum_by-cons}
use Rattle.std.proofs.lemmas.Bool.{cases_eq}
use Rattle.plain_protocol.specs.plain_state.declared.act.PlainAct.{PlainAct}
use Rattle.plain_protocol.specs.plain_state.declared.slot.SlotId.{SlotId}
use Rattle.plain_protocol.specs.plain_state.State.{Plain}
use Rattle.plain_protocol.specs.plain_state.Lawful.{Lawful}
use Rattle.plain_protocol.specs.plain_state.Steps.{Does}
use Rattle.plain_protocol.specs.Laws.{Meets}
use Rattle.plain_protocol.specs.Owns.{is_alone, own_part}
use Rattle.map_trees.specs.declared.change.Change.{Change}
use Rattle.map_trees.specs.Trees.{Pair, Shaped, Tree, pairs}
use Rattle.map_trees.specs.Balance.{altered}
use Rattle.map_trees.proofs.Changing.{alters}
use Rattle.map_trees.specs.Maps.{get, next, or_else, or_zero}
use Rattle.map_trees.specs.Counting.{AllBumps, bumps}
use Rattle.map_trees.proofs.Counting.{adds_none, adds_one, bumps_are, counted, long_is, of_key, one_each, other_change}
use Rattle.map_law.specs.Views.{Kid, View, gone, view_at, total}
use Rattle.map_law.specs.Nodes.{root, TreeAt, LiveNode}
use Rattle.map_law.specs.Orders.{tagged, home, Orders}
use Rattle.map_law.specs.Law.{MapLaw}
use Rattle.map_law.specs.Patterns.{Pattern, Fits, IsChange, IsKid, Spells, filled}
use Rattle.map_law.specs.Plans.{look, seek}
use Rattle.map_law.specs.Publishing.{PublishReady, PublishTells, publish_next}
use Rattle.map_law.specs.Promises.{HasTree, KnowsAll}
use Rattle.map_law.proofs.OneTree.{one_tree}
use Rattle.map_law.proofs.Spelling.{tells}
use Rattle.map_law.proofs.Plans.{look_is, seek_is}
use Rattle.map_law.proofs.Alone.{alone_at}
use Rattle.map_law.proofs.Start.{total_zero}
use Rattle.map_law.proofs.Publishing.{publish_keeps}

pub has_tree : (c : ℕ) (p : Plain) (views : List View) → MapLaw c p views → HasTree c p
has_tree c p views law = (law.tree, law.is, law.shaped, λ u r. one_tree p (root p c) u law.tree r law.is)

pub node_trees : (c : ℕ) (p : Plain) (views : List View) → MapLaw c p views → (s : SlotId) → LiveNode p s
    → (t : Tree) × TreeAt p (Some s) t
node_trees c p views law = law.trees

pub one_order : (c : ℕ) (p : Plain) (views : List View) → MapLaw c p views → (t : Tree) → TreeAt p (root p c) t
    → Orders views (pairs t) (view_at views 0).cleared
one_order c p views law t r = subst (λ (z : Tree). Orders views (pairs z) (view_at views 0).cleared)
    (one_tree p (root p c) law.tree t law.is r) law.orders

pub one_change : (c : ℕ) (old new : Option SlotId) (key : ℕ) (change : Change) (answer : Option ℕ)
    (p q : Plain) (views : List View) (n : ℕ) (step : PlainAct) (found : ℕ)
    → Meets (MapLaw c) p views → n < length views → PublishReady c old new key change answer (own_part p n)
    (view_at views n) step → Does p n step found q
    → PublishTells c key change answer p q n (view_at views n)
    (publish_next old new key change answer (own_part p n) (own_part q n) (view_at views n) step found)
one_change c old new key change answer p q views n step found meets low ready does =
    (publish_keeps c old new key change answer p q views n step found meets low ready does).1

-- WHAT A SEAT HAS READ
module _ (c : ℕ) (p : Plain) (views : List View) (n : ℕ) (lawful : Lawful p) (law : MapLaw c p views)
    (k : Option Kid) (pat : Pattern)
    (is : IsKid (own_part p n) (root p c) k) (spells : Spells (view_at views n) k pat) (t : Tree)
    (r : TreeAt p (root p c) t) where
  pub map_get : (key : ℕ) (x : Option ℕ) → look key pat ≡ Some x → get key (pairs t) ≡ x
  map_get key x e =
      let m = tells c p views n lawful law k pat is spells in
      subst (λ (z : Tree). get key (pairs z) ≡ x) (one_tree p (root p c) (filled m.0 pat) t m.2 r)
      (look_is m.0 key pat x e m.3)

  or_none : (a : Option Pair) → or_else a None ≡ a
  or_none None = refl
  or_none (Some a) = refl

  pub map_next : (key : ℕ) (x : Option Pair) → seek key None pat ≡ Some x → next key (pairs t) ≡ x
  map_next key x e =
      let m = tells c p views n lawful law k pat is spells in
      let found = seek_is m.0 key pat None x e m.3 in
      subst (λ (z : Tree). next key (pairs z) ≡ x) (one_tree p (root p c) (filled m.0 pat) t m.2 r)
      (sym (or_none (next key (pairs (filled m.0 pat)))) ∙ found)

-- SEAT 0 ALONE
total_one : (f : View → ℕ) (vs : List View) → f gone ≡ 0 → ((m : ℕ) → m ≢ 0 → view_at vs m ≡ gone)
    → total f vs ≡ f (view_at vs 0)
unfolding total
total_one f [] none others = sym none
total_one f (v ∷ vs) none others =
    let a = sum_by-cons f v vs in
    let b : total f vs ≡ 0 = total_zero f vs (λ m low. ap f (others (suc m) (λ e. absurd (omega arith))) ∙ none) in
    omega arith

pub knows_all : (c : ℕ) (p : Plain) (views : List View) → MapLaw c p views → is_alone p 0 ≡ true
    → (last : List Pair) (cleared : Bool)
    → (order : Orders views last cleared) → KnowsAll views order.all
knows_all c p views law alone last cleared order = record {
  own = λ n. ap (λ (m : ℕ). tagged n (view_at views m).entries) (sym (at_root n)) ∙ order.kept.own n;
  many = λ f. sym (total_one (λ (v : View). sum_by f v.entries) views refl others) ∙ order.many f;
}
  where
    whole : (own_part p 0).whole ≡ Some p
    whole = rw alone refl

    others : (m : ℕ) → m ≢ 0 → view_at views m ≡ gone
    others m ne = law.left m ((alone_at p 0 p whole).2 m ne)

    zero_home : Bool → ℕ
    zero_home b = cond b 0 0

    same : (b : Bool) → zero_home b ≡ zero
    same true = refl
    same false = refl

    at_root : (n : ℕ) → home views n ≡ 0
    at_root n = ⊎_elim
        (λ (e : n ≡ 0). subst (λ (m : ℕ). home views m ≡ 0) (sym e) (same (view_at views 0).here))
        (λ (ne : n ≢ 0). ap (λ (v : View). cond v.here n 0) (others n ne))
        (cases_eq n 0)

pub counts_all : (c : ℕ) (p : Plain) (views : List View) → MapLaw c p views → is_alone p 0 ≡ true
    → (view_at views 0).cleared ≡ false → AllBumps (view_at views 0).entries
    → length (view_at views 0).entries < 2 ^ 64
    → (t : Tree) → TreeAt p (root p c) t → (key : ℕ)
    → or_zero (get key (pairs t)) ≡ bumps key (view_at views 0).entries
counts_all c p views law alone opened all few t r key =
    let order = one_order c p views law t r in
    let knows = knows_all c p views law alone (pairs t) (view_at views 0).cleared order in
    let mine = (view_at views 0).entries in
    let adds : AllBumps order.all =
    adds_one order.all (sym (knows.many (λ e. other_change e.change)) ∙ adds_none mine all) in
    let a = long_is order.all in let b = long_is mine in let d = knows.many one_each in
    ap (λ (m : List Pair). or_zero (get key m)) (sym (order.ends opened))
    ∙ (counted order.all adds (omega arith) key
    ∙ (sym (bumps_are key order.all) ∙ (sym (knows.many (of_key key)) ∙ bumps_are key mine)))

-- a pattern that is always filled to the altered tree of another one
pub is_change_of : (old new : Pattern) (key : ℕ) (change : Change) (answer : Option ℕ) → look key old ≡ Some answer
    → ((trees : SlotId → Tree) → Fits trees old → filled trees new ≡ altered key change (filled trees old))
    → IsChange old new key change answer
is_change_of old new key change answer found same trees fits_old fits_new shaped =
    let made = alters key change (filled trees old) shaped in
    let e = sym (same trees fits_old) in (
      subst Shaped e made.0,
      sym (look_is trees key old answer found shaped),
      ap pairs (same trees fits_old) ∙ made.1,
    )
