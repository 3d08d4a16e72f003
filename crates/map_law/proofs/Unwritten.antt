-- No node of the root's tree is raw, and all of them live.
use Rattle.std.proofs.Common.{◌≡◌, inl, inr, ⊎_elim, ℕ, ◌<◌, List, length, ap, sym, ◌∙◌, subst, arith}
use Rattle.std.specs.Prelude.{Option, Some}
use Rattle.plain_protocol.specs.plain_state.declared.act.PlainAct.{PlainAct}
use Rattle.plain_protocol.specs.plain_state.declared.slot.SlotId.{SlotId}
use Rattle.plain_protocol.specs.plain_state.declared.slot.Stage.TheVariants.{Live}
use Rattle.plain_protocol.specs.plain_state.State.{Plain, slot_at}
use Rattle.plain_protocol.specs.plain_state.Lawful.{Lawful}
use Rattle.plain_protocol.specs.Owns.{Object, own_part}
use Rattle.plain_protocol.specs.Laws.{Meets}
use Rattle.map_trees.specs.Trees.{Tree, leaf, node}
use Rattle.map_law.specs.Views.{View, view_at, raw_times, fresh}
use Rattle.map_law.specs.Nodes.{root, words, TreeAt, Inside, LiveNode, Leads}
use Rattle.map_law.specs.Law.{MapLaw}
use Rattle.map_law.specs.Making.{SetReady}
use Rattle.map_law.proofs.Kit.{some_same, raw_cons, raw_same, fresh_at}
use Rattle.map_law.proofs.Frame.{led_live, root_live}
use Rattle.map_law.proofs.Making.{object_is}

module _ (c : ℕ) (p : Plain) (views : List View) (lawful : Lawful p) (law : MapLaw c p views) where
  -- it lives, and is raw for nobody
  abbrev pub Stays : SlotId → Type 0
  Stays s = ((slot_at p s).stage ≡ Live) × (fresh views s (slot_at p s).life ≡ 0)

  below : (x : SlotId) → LiveNode p x → (y : SlotId) → Leads p x y → Stays y
  below x is y l = (led_live p lawful x y l, law.loose x y is l)

  stays_in : (w : Option SlotId) → ((s : SlotId) → w ≡ Some s → Stays s) → (t : Tree) → TreeAt p w t → (s : SlotId)
      → Inside p w t s → Stays s
  stays_in w ok leaf r s i = absurd i
  stays_in w ok (node k v h a b) r s (inl e) = ok s e
  stays_in w ok (node k v h a b) r s (inr i) =
      let x : SlotId = i.0 in
      let same : r.0 ≡ x = some_same r.0 x (sym r.1 ∙ i.1) in
      let is : LiveNode p x = (
        (ok x i.1).0,
        (k, v, h, subst (λ (z : SlotId). (slot_at p z).payload ≡ words k v h) same r.2),
      ) in
      ⊎_elim
      (λ j. stays_in (slot_at p x).first (λ y e. below x is y (inl e)) a
      (subst (λ (z : SlotId). TreeAt p (slot_at p z).first a) same r.3) s j)
      (λ j. stays_in (slot_at p x).second (λ y e. below x is y (inr e)) b
      (subst (λ (z : SlotId). TreeAt p (slot_at p z).second b) same r.4) s j)
      i.2

  pub inside_stays : (t : Tree) → TreeAt p (root p c) t → (s : SlotId) → Inside p (root p c) t s → Stays s
  inside_stays t r s i = stays_in (root p c) (λ x e. (root_live p lawful c x e, law.stands x e)) t r s i

pub inside_none : (c : ℕ) (p : Plain) (views : List View) → Lawful p → MapLaw c p views → (t : Tree)
    → TreeAt p (root p c) t
    → (s : SlotId) → Inside p (root p c) t s → fresh views s (slot_at p s).life ≡ 0
inside_none c p views lawful law t r s i = (inside_stays c p views lawful law t r s i).1

pub set_outside : (c : ℕ) (p : Plain) (views : List View) (n i : ℕ) (s r : SlotId) (step : PlainAct)
    → Meets (MapLaw c) p views → n < length views
    → SetReady s i r (own_part p n) (view_at views n) step → (t : Tree) → TreeAt p (root p c) t
    → ¬ (Inside p (root p c) t s)
set_outside c p views n i s r step meets low ready t at inside =
    let l = (slot_at p s).life in
    let none : fresh views s l ≡ 0 = inside_none c p views meets.lawful meets.law t at s inside in
    let life : ready.raw.0.life ≡ l = ready.raw.4 ∙ ap (λ (x : Object). x.life)
    (object_is p n s ready.first ready.has_first) in
    let a = fresh_at views n s l low in
    let b = ap (raw_times s l) ready.raw.2 in
    let d = raw_cons s l ready.raw.0 ready.raw.1 in
    let e = raw_same s l ready.raw.0 ready.raw.3 life in absurd (omega arith)
