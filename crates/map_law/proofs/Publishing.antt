-- The deciding exchange keeps the law, and tells its change.
use Rattle.std.proofs.Common.{◌≡◌, ◌≢◌, inl, inr, ⊎_elim, ℕ, ◌<◌, Bool, true, false, List, [], ◌∷◌, ◌++◌, length, set, refl, ap, sym, ◌∙◌, subst, arith}
use Rattle.std.specs.Prelude.{Option, Some, None, if◌then◌else◌, ◌==◌, max, sum_by}
use Rattle.std.proofs.lemmas.List.{length-set, get_or-set_same}
use Rattle.std.proofs.lemmas.List.Sums.{sum_by_push}
use Rattle.std.proofs.lemmas.Bool.{cases_eq, eqb-true, eq-eqb, false≢true}
use Rattle.plain_protocol.specs.plain_state.declared.act.EventPlace.TheVariants.{Cell}
use Rattle.plain_protocol.specs.plain_state.declared.act.PlainAct.{PlainAct}
use Rattle.plain_protocol.specs.plain_state.declared.act.PlainAct.TheVariants as act
use Rattle.plain_protocol.specs.plain_state.declared.slot.SlotId.{SlotId}
use Rattle.plain_protocol.specs.plain_state.declared.slot.Stage.TheVariants.{Live}
use Rattle.plain_protocol.specs.plain_state.State.{Plain, seat_at, slot_at}
use Rattle.plain_protocol.specs.plain_state.Lawful.{Lawful}
use Rattle.plain_protocol.specs.plain_state.Steps.{Does, word_of, GivesUp}
use Rattle.plain_protocol.specs.plain_state.declared.slot.Kind.TheVariants.{Strong}
use Rattle.plain_protocol.proofs.Below.plain_state_Kit.{times_lost}
use Rattle.plain_protocol.specs.Owns.{Object, own_part}
use Rattle.plain_protocol.specs.Laws.{Keeps}
use Rattle.map_trees.specs.Trees.{Tree, leaf, pairs, Shaped, depth}
use Rattle.map_trees.specs.Maps.{get, changed, replayed}
use Rattle.map_trees.specs.declared.change.Change.{Change}
use Rattle.map_trees.specs.declared.change.Entry.{Entry}
use Rattle.map_law.specs.Views.{Kid, View, gone, view_at}
use Rattle.map_law.specs.Nodes.{root, IsNode, TreeAt, Holds}
use Rattle.map_law.specs.Orders.{Orders}
use Rattle.map_law.specs.Law.{MapLaw}
use Rattle.map_law.specs.Patterns.{kid_of, IsKid, filled, Fits, Spells}
use Rattle.map_law.specs.Publishing.{frozen_in, PublishReady, entered, publish_next, entry_of, PublishTells}
use Rattle.map_law.proofs.Kit.{none_some, some_same, view_here, view_else, total_set}
use Rattle.map_law.proofs.Left.{LeftSame, does_left}
use Rattle.map_law.proofs.Frame.{root_live}
use Rattle.map_law.proofs.Making.{object_is}
use Rattle.map_law.proofs.Setting.{set_twice}
use Rattle.map_law.proofs.SetDeed.{owned_live}
use Rattle.map_law.proofs.Whole.{not_gone, set_reads}
use Rattle.map_law.proofs.Spelling.{grown, spelt, spelt_fits, kid_holds}
use Rattle.map_law.proofs.Orders.{kept_push, replayed_push, answers_push}
use Rattle.map_law.proofs.Turned.{turned_law, tree_at_same, frozen_reads, frozen_in_law, frozen_none, word_same}
use Rattle.map_law.proofs.OneTree.{one_tree}
use Rattle.map_law.specs.Nodes.{KeepsMap}

new_tree_of : (c : ℕ) (p : Plain) (views : List View) (n : ℕ) (new : Option SlotId) (k : Option Kid)
    → MapLaw c p views
    → IsKid (own_part p n) new k → ((x : Kid) → k ≡ Some x → IsNode x.payload)
    → ((s : SlotId) → new ≡ Some s → (slot_at p s).stage ≡ Live) → (t : Tree) × TreeAt p new t
new_tree_of c p views n None k law is nd live = (leaf, refl)
new_tree_of c p views n (Some r) k law is nd live =
    let o = is.0 in
    let pay : o.payload ≡ (slot_at p r).payload = ap (λ (x : Object). x.payload) (object_is p n r o is.1) in
    law.trees r (live r refl, subst IsNode pay (nd (kid_of r o) is.2))

module _ (c : ℕ) (old new : Option SlotId) (key : ℕ) (change : Change) (answer : Option ℕ) (p q : Plain)
    (views : List View) (n : ℕ) (step : PlainAct)
    (lawful : Lawful p) (law : MapLaw c p views) (low : n < length views)
    (ready : PublishReady c old new key change answer (own_part p n) (view_at views n) step) (at : root p c ≡ old)
    (slots : q.slots ≡ p.slots) (cell : root q c ≡ new) (left : LeftSame p q) (live_new : (s : SlotId) → new ≡ Some s
    → (slot_at p s).stage ≡ Live) where
  v : View
  v = view_at views n

  w0 : View
  w0 = frozen_in (own_part p n) new (view_at views n)

  abbrev pub views0 : List View
  views0 = set views n (frozen_in (own_part p n) new (view_at views n))

  law0 : MapLaw c p views0
  law0 = frozen_in_law c p views n new ready.new_kid lawful law low ready.here ready.new_is ready.new_known

  at0 : view_at views0 n ≡ w0
  unfolding w0
  at0 = view_here views n _ low

  low0 : n < length views0
  low0 = let z = length-set views n (frozen_in (own_part p n) new (view_at views n)) in omega arith

  here0 : (view_at views0 n).here ≡ true
  unfolding w0 at0
  here0 = ap (λ (x : View). x.here) at0
      ∙ (frozen_reads (λ (x : View). x.here) (λ r l x. refl) (own_part p n) new (view_at views n) ∙ ready.here)

  open0 : (view_at views0 n).cleared ≡ false
  unfolding w0 at0
  open0 = ap (λ (x : View). x.cleared) at0
      ∙ (frozen_reads (λ (x : View). x.cleared) (λ r l x. refl) (own_part p n) new (view_at views n) ∙ ready.opened)

  root_open : (view_at views0 0).cleared ≡ false
  root_open = ⊎_elim
      (λ (z : n ≡ 0). subst (λ (m : ℕ). (view_at views0 m).cleared ≡ false) z open0)
      (λ ne. go (view_at views0 0).cleared refl ne) (cases_eq n 0)
    where
      go : (b : Bool) → (view_at views0 0).cleared ≡ b → n ≢ 0 → (view_at views0 0).cleared ≡ false
      go false e ne = e
      go true e ne = absurd (not_gone (view_at views0 n) here0 (law0.closed e n ne))

  new_tree : (t : Tree) × TreeAt p new t
  new_tree = new_tree_of c p views n new ready.new_kid law ready.new_is ready.new_node live_new

  t1 : Tree
  t1 = new_tree.0

  m : ℕ
  m = max (depth law.tree) (depth t1)

  trees : SlotId → Tree
  trees s = grown p m (Some s)

  old_is : filled trees ready.old_pattern ≡ law.tree
  unfolding trees m
  old_is = spelt c p views n lawful law m ready.old_pattern ready.old_kid (root p c) law.tree ready.old_spells
      (subst (Holds p ready.old_kid) (sym at) (kid_holds p n old ready.old_kid ready.old_is))
      (λ s h. root_live p lawful c s h) law.is (omega arith)

  new_is : filled trees ready.new_pattern ≡ t1
  unfolding trees m t1 w0
  new_is = spelt c p views0 n lawful law0 m ready.new_pattern ready.new_kid new t1
      (subst (λ (x : View). Spells x ready.new_kid ready.new_pattern) (sym at0) ready.new_spells)
      (kid_holds p n new ready.new_kid ready.new_is) live_new new_tree.1 (omega arith)

  old_fits : Fits trees ready.old_pattern
  unfolding trees m
  old_fits = spelt_fits c p views n lawful law m ready.old_pattern ready.old_kid (root p c) law.tree ready.old_spells
      (subst (Holds p ready.old_kid) (sym at) (kid_holds p n old ready.old_kid ready.old_is))
      (λ s h. root_live p lawful c s h) law.is (omega arith)

  new_fits : Fits trees ready.new_pattern
  unfolding trees m t1 w0
  new_fits = spelt_fits c p views0 n lawful law0 m ready.new_pattern ready.new_kid new t1
      (subst (λ (x : View). Spells x ready.new_kid ready.new_pattern) (sym at0) ready.new_spells)
      (kid_holds p n new ready.new_kid ready.new_is) live_new new_tree.1 (omega arith)

  same_tree : law0.tree ≡ law.tree
  same_tree = one_tree p (root p c) law0.tree law.tree law0.is law.is

  turned : Shaped t1 × (answer ≡ get key (pairs law.tree)) × (pairs t1 ≡ changed key change (pairs law.tree))
  turned =
      let r = ready.is_change trees old_fits new_fits (subst Shaped (sym old_is) law.shaped) in (
        subst Shaped new_is r.0,
        r.1 ∙ ap (λ (t : Tree). get key (pairs t)) old_is,
        sym (ap pairs new_is) ∙ (r.2 ∙ ap (λ (t : Tree). changed key change (pairs t)) old_is),
      )

  entry : Entry
  entry = entry_of key change answer (view_at views0 n)

  w : View
  w = entered key change answer (view_at views0 n)

  orders : Orders (set views0 n w) (pairs t1) (view_at (set views0 n w) 0).cleared
  unfolding w entry
  orders =
      let o = law0.orders in
      let before : replayed [] o.all ≡ pairs law.tree = o.ends root_open ∙ ap pairs same_tree in
      record {
        all = o.all ++ entry ∷ [];
        kept = kept_push o.all views0 n w o.kept low0 refl entry here0 (law0.number n here0) refl;
        many = λ f.
            let t = total_set (λ (x : View). sum_by f x.entries) views0 n w low0 in
            let a = o.many f in
            let b = sum_by_push f (view_at views0 n).entries entry in
            let d = sum_by_push f o.all entry in omega arith;
        answers = answers_push [] o.all entry o.answers (turned.1 ∙ ap (get key) (sym before));
        ends = λ e. replayed_push [] o.all entry ∙ (ap (changed key change) before ∙ sym turned.2);
      }

  new_tree_at : TreeAt q new t1
  unfolding t1 w
  new_tree_at = tree_at_same c p q views0 n w lawful law0 low0 slots left refl refl refl refl new live_new t1
      new_tree.1

  pub publish_law : MapLaw c q (set views0 n (entered key change answer (view_at views0 n)))
  unfolding w
  publish_law = turned_law c p q views0 n w lawful law0 low0 slots left refl refl refl refl t1
      (subst (λ (x : Option SlotId). TreeAt q x t1) (sym cell) new_tree_at) turned.0
      (λ s e. frozen_none c p views n new ready.new_kid law low ready.new_is ready.new_known s (sym cell ∙ e))
      (λ k h. set_reads (λ (x : View). x.number) views0 n w low0 refl k
      ∙ law0.number k (sym (set_reads (λ (x : View). x.here) views0 n w low0 refl k) ∙ h))
      orders
      (λ k g. view_else views0 n k w (λ (is : k ≡ n). not_gone (view_at views0 n) here0 (ap (view_at views0) (sym is)
      ∙ g)) ∙ g)
      (λ e k ne. absurd (false≢true (sym (set_reads (λ (x : View). x.cleared) views0 n w low0 refl 0 ∙ root_open)
      ∙ e)))

  pub decided : (t : Tree) × (u : Tree) × TreeAt p (root p c) t × TreeAt q (root q c) u × Shaped u
      × (answer ≡ get key (pairs t)) × (pairs u ≡ changed key change (pairs t))
  decided = (
    law.tree,
    t1,
    law.is,
    subst (λ (x : Option SlotId). TreeAt q x t1) (sym cell) new_tree_at,
    turned.0,
    turned.1,
    turned.2,
  )

gives_new : (p : Plain) (n : ℕ) (new : Option SlotId) (v : _) → Lawful p → n < length p.seats
    → GivesUp Strong new (seat_at p n) v → (s : SlotId) → new ≡ Some s → (slot_at p s).stage ≡ Live
gives_new p n None v lawful low g s e = absurd (none_some s e)
gives_new p n (Some r) v lawful low g s e =
    subst (λ (z : SlotId). (slot_at p z).stage ≡ Live) (some_same r s e)
    (owned_live p n r lawful low (times_lost r (seat_at p n).owned g.0 g.1))

pub publish_keeps : (c : ℕ) (old new : Option SlotId) (key : ℕ) (change : Change) (answer : Option ℕ)
    → Keeps (MapLaw c) gone (PublishReady c old new key change answer) (publish_next old new key change answer)
    (PublishTells c key change answer)
publish_keeps c old new key change answer p q views n step found meets low ready does =
    let d = subst (λ (a : PlainAct). Does p n a found q) ready.is does in
    let v = view_at views n in
    let w0 = frozen_in (own_part p n) new v in
    let law0 = frozen_in_law c p views n new ready.new_kid meets.lawful meets.law low ready.here ready.new_is
    ready.new_known in
    let done0 = frozen_reads (λ (x : View). x.entries) (λ r l x. refl) (own_part p n) new v in
    let number0 = frozen_reads (λ (x : View). x.number) (λ r l x. refl) (own_part p n) new v in
    ⊎_elim
    (λ hit.
    let at : root p c ≡ old = hit.0 in
    let slots = ap (λ (z : Plain). z.slots) hit.1.2 in
    let cell : root q c ≡ new = ap (λ (z : Plain). root z c) hit.1.2 ∙ get_or-set_same p.cells c new None d.1.0 in
    let left = does_left p q n (act.TryReplace (Cell c) old new) found (λ j z. absurd cc) d in
    let live = gives_new p n new hit.1.0 meets.lawful d.0.0 hit.1.1 in
    let at0 = view_here views n w0 low in
    let law1 = publish_law c old new key change answer p q views n step meets.lawful meets.law low ready at slots
    cell left live in
    let told = decided c old new key change answer p q views n step meets.lawful meets.law low ready at slots cell
    left live in
    let law2 : MapLaw c q (set views n (entered key change answer w0)) =
    subst (MapLaw c q) (set_twice views n w0 _ ∙ ap (λ (x : View). set views n (entered key change answer x)) at0)
    law1 in
    let yes : (found == word_of old) ≡ true = eq-eqb found (word_of old) (d.1.1 ∙ ap word_of at) in
    let entries : (entered key change answer w0).entries ≡ v.entries ++ entry_of key change answer v ∷ [] =
    ap (λ (l : List Entry). l ++ entry_of key change answer w0 ∷ []) done0
    ∙ ap (λ (k : ℕ). v.entries ++ record { seat = k; key = key; change = change; answer = answer } ∷ []) number0 in
    subst (λ (b : Bool). MapLaw c q (set views n (if b then entered key change answer w0 else w0))
    × PublishTells c key change answer p q n v (if b then entered key change answer w0 else w0)) (sym yes)
    (law2, inr (entries, told)))
    (λ miss.
    let no : (found == word_of old) ≡ false = go (found == word_of old) refl
    (λ e. miss.0 (word_same (root p c) old (sym d.1.1 ∙ eqb-true found (word_of old) e))) in
    subst (λ (b : Bool). MapLaw c q (set views n (if b then entered key change answer w0 else w0))
    × PublishTells c key change answer p q n v (if b then entered key change answer w0 else w0)) (sym no) (
      subst (λ (z : Plain). MapLaw c z (set views n w0)) (sym miss.1) law0,
      inl (subst (KeepsMap c p) (sym miss.1) (refl, λ t r. r), done0),
    ))
    d.1.2
  where
    go : (b : Bool) → (found == word_of old) ≡ b → ((found == word_of old) ≡ true → ⊥)
        → (found == word_of old) ≡ false
    go true e not = absurd (not e)
    go false e not = e
