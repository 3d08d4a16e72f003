-- The deeds by which a node is made, its fields are set, and nodes are opened.
use Rattle.std.proofs.Common.{◌≡◌, ⊎_elim, ℕ, Bool, true, false, List, refl, ap, sym, ◌∙◌, subst}
use Rattle.std.specs.Prelude.{◌⊎◌, ◌==◌, Option, Some, None, cond, if◌then◌else◌, slice_set}
use Rattle.std.proofs.lemmas.List.{set-get_or, get_or-set_same}
use Rattle.map_law.specs.plain_state.declared.act.EventPlace.{EventPlace}
use Rattle.map_law.specs.plain_state.declared.act.EventPlace.TheVariants.{Field}
use Rattle.map_law.specs.plain_state.declared.act.PlainAct.{PlainAct}
use Rattle.map_law.specs.plain_state.declared.act.PlainAct.TheVariants as act
use Rattle.map_law.specs.plain_state.declared.slot.PlainSlot.{PlainSlot}
use Rattle.map_law.specs.plain_state.declared.slot.SlotId.{SlotId}
use Rattle.map_law.specs.plain_state.declared.slot.Stage.TheVariants.{Live}
use Rattle.map_law.specs.plain_state.Places.{HoldsStrongly, content}
use Rattle.map_law.specs.plain_state.State.{Plain, seat_at, slot_at}
use Rattle.map_law.specs.plain_state.Steps.{Does}
use Rattle.map_law.specs.plain_protocol.Acts.{IsCalm}
use Rattle.map_law.specs.plain_protocol.Laws.{Keeps}
use Rattle.map_law.specs.plain_protocol.Owns.{Object, OwnPart, own_part}
use Rattle.map_law.specs.map_trees.Trees.{Tree, leaf, node}
use Rattle.map_law.specs.declared.view.Kid.{Kid}
use Rattle.map_law.specs.declared.view.Led.{Led}
use Rattle.map_law.specs.declared.view.View.{View}
use Rattle.map_law.specs.Views.{In, gone, view_at}
use Rattle.map_law.specs.Nodes.{Holds, IsNode, TreeAt, side}
use Rattle.map_law.specs.Learnt.{IsLed}
use Rattle.map_law.specs.Law.{MapLaw}
use Rattle.map_law.specs.Patterns.{HasObject}
use Rattle.map_law.specs.Making.{MakeReady, MakeTells, SetReady, make_next, set_next}
use Rattle.map_law.specs.Lessons.{ReadReady, ReadTells, Reads, read_next}
use Rattle.map_law.proofs.Kit.{each_in, none_some, some_same}
use Rattle.map_law.proofs.Making.{make_keeps, object_is}
use Rattle.map_law.proofs.SetDeed.{set_keeps}
use Rattle.map_law.proofs.Lessons.{read_keeps}
use Rattle.map_law.proofs.Others.{calm_keeps, held_live}
use Rattle.map_law.proofs.Steps.{same_slot}

-- A NODE IS MADE, in whichever slot is free
pub record NewReady (own : OwnPart) (v : View) (step : PlainAct) : Type 0 where
  pub slot : SlotId
  pub ready : MakeReady slot own v step

abbrev pub new_next : OwnPart → OwnPart → View → PlainAct → ℕ → View
new_next own after v (act.Make s) found = make_next s own after v (act.Make s) found
new_next own after v _ found = v

pub new_keeps : (c : ℕ) → Keeps (MapLaw c) gone NewReady new_next (MakeTells c)
new_keeps c p q views n step found meets low ready does =
    subst (λ (a : PlainAct).
    MapLaw c q (slice_set views n (new_next (own_part p n) (own_part q n) (view_at views n) a found))
    × MakeTells c p q n (view_at views n)
    (new_next (own_part p n) (own_part q n) (view_at views n) a found))
    (sym ready.ready.is)
    (make_keeps c ready.slot p q views n step found meets low ready.ready does)

-- A FIELD IS SET. The seat's own view can't tell that the slot isn't one that it is to destroy, where a store would
-- clear the field; the step would be calm then.
abbrev pub is_clear : PlainAct → Bool
is_clear (act.Clear p) = true
is_clear _ = false

abbrev pub KidReady : SlotId → ℕ → SlotId → OwnPart → View → PlainAct → Type 0
KidReady s i r own v step =
    ((p : EventPlace) × (step ≡ act.Clear p)) ⊎ SetReady s i r own v step

abbrev pub kid_next : ℕ → SlotId → OwnPart → OwnPart → View → PlainAct → ℕ → View
kid_next i r own after v step found = cond (is_clear step) v (set_next i r own after v step found)

abbrev pub KidTells : Plain → Plain → ℕ → View → View → Type 0
KidTells p q n v w = Unit {0}

clear_calm : (step : PlainAct) → is_clear step ≡ true → IsCalm step
clear_calm (act.Clear p) is = tt
clear_calm _ is = absurd (cc (is))

pub kid_keeps : (c : ℕ) (s : SlotId) (i : ℕ) (r : SlotId)
    → Keeps (MapLaw c) gone (KidReady s i r) (kid_next i r) KidTells
kid_keeps c s i r p q views n step found meets at able does = (of (is_clear step) refl, tt)
  where
    of : (b : Bool) → is_clear step ≡ b
        → MapLaw c q (slice_set views n
        (cond b (view_at views n)
        (set_next i r (own_part p n) (own_part q n) (view_at views n) step found)))
    of true is = subst (MapLaw c q) (sym (set-get_or views n gone))
        (calm_keeps c p q n step found views meets (clear_calm step is) does)
    of false is = ⊎_elim
        (λ clear. absurd (cc (is, clear.1)))
        (λ may. (set_keeps c s i r p q views n step found meets at may does).0)
        able

-- A FIELD IS READ of a node that the seat holds. Of each field of such a node that it has noted it is told that the
-- field holds what the note tells, which is one node at most.
abbrev pub slot_of_kid : Option Kid → Option SlotId
slot_of_kid None = None
slot_of_kid (Some x) = Some x.slot

pub record IsKnown (p : Plain) (w : View) (e : Led) : Type 0 where
  pub there : content p (Field e.slot e.side) ≡ slot_of_kid e.kid
  pub one :
      (f : Led) → In f w.led → f.slot ≡ e.slot → f.life ≡ e.life → f.side ≡ e.side → f.kid ≡ e.kid
  pub node : (x : Kid) → e.kid ≡ Some x → IsNode x.payload

abbrev pub KnowsSides : Plain → ℕ → View → Type 0
KnowsSides p n w =
    (e : Led) (o : Object) → In e w.led → HasObject (own_part p n) e.slot o → o.life ≡ e.life
    → HoldsStrongly (seat_at p n) e.slot → IsKnown p w e

abbrev pub OpenTells : ℕ → Plain → Plain → ℕ → View → View → Type 0
OpenTells c p q n v w = ReadTells c p q n v w × KnowsSides p n w

-- a look and a check leave all slots
reads_slots : (p q : Plain) (n : ℕ) (at : EventPlace) (step : PlainAct) (found : ℕ) → Reads at step
    → Does p n step found q → q.slots ≡ p.slots
reads_slots p q n at step found is does = ⊎_elim
    (λ (e : step ≡ act.Look at).
    let d = subst (λ (a : PlainAct). Does p n a found q) e does in
    ap (λ (z : Plain). z.slots) d.1.2)
    (λ (e : (j : ℕ) × (step ≡ act.Check j at)).
    let d = subst (λ (a : PlainAct). Does p n a found q) e.1 does in
    ⊎_elim
    (λ (same : q ≡ p). ap (λ (z : Plain). z.slots) same)
    (λ t. ap (λ (z : Plain). z.slots) t.2.2) d.1.2)
    is

-- what holds one slot holds one node
one_kid : (p : Plain) (a b : Option Kid) (x : Option SlotId) → Holds p a x → Holds p b x → b ≡ a
one_kid p None None x h k = refl
one_kid p None (Some b) x h k = absurd (none_some b.slot (sym h ∙ k.0))
one_kid p (Some a) None x h k = absurd (none_some a.slot (sym k ∙ h.0))
one_kid p (Some a) (Some b) x h k =
    let slots : b.slot ≡ a.slot = some_same b.slot a.slot (sym k.0 ∙ h.0) in
    let lives : b.life ≡ a.life =
    sym k.1 ∙ (ap (λ (s : SlotId). (slot_at p s).life) slots ∙ h.1) in
    let payloads : b.payload ≡ a.payload =
    sym k.2 ∙ (ap (λ (s : SlotId). (slot_at p s).payload) slots ∙ h.2) in
    λ i. Some (record { slot = slots i; life = lives i; payload = payloads i })

-- the field of a node holds nodes
kid_node : (p : Plain) (s : SlotId) (i : ℕ) (t : Tree) → IsNode (slot_at p s).payload
    → TreeAt p (Some s) t → (x : Kid) → Holds p (Some x) (side i (slot_at p s)) → IsNode x.payload
kid_node p s i leaf is at x holds = absurd (none_some s (sym at))
kid_node p s i (node k v h l r) is at x holds = go (i == 0) holds
  where
    same : at.0 ≡ s
    same = sym (some_same s at.0 at.1)

    from : (w : Option SlotId) (t : Tree) → TreeAt p w t → Holds p (Some x) w → IsNode x.payload
    from w leaf tree h = absurd (none_some x.slot (sym tree ∙ h.0))
    from w (node a b d y z) tree h =
        let e : tree.0 ≡ x.slot = some_same tree.0 x.slot (sym tree.1 ∙ h.0) in
        (a, b, d, sym h.2 ∙ (ap (λ (u : SlotId). (slot_at p u).payload) (sym e) ∙ tree.2))

    go : (b : Bool) → Holds p (Some x) (if b then (slot_at p s).first else (slot_at p s).second)
        → IsNode x.payload
    go true h = from (slot_at p s).first l
        (subst (λ (u : SlotId). TreeAt p (slot_at p u).first l) same at.3) h
    go false h = from (slot_at p s).second r
        (subst (λ (u : SlotId). TreeAt p (slot_at p u).second r) same at.4) h

holds_there : (p : Plain) (k : Option Kid) (x : Option SlotId) → Holds p k x → x ≡ slot_of_kid k
holds_there p None x h = h
holds_there p (Some k) x h = h.0

pub open_keeps : (c : ℕ) (s : SlotId) (i : ℕ)
    → Keeps (MapLaw c) gone (ReadReady s i) (read_next s i) (OpenTells c)
open_keeps c s i p q views n step found meets low ready does = (kept.0, (kept.1, knows))
  where
    kept : MapLaw c q (slice_set views n
        (read_next s i (own_part p n) (own_part q n) (view_at views n) step found))
        × ReadTells c p q n (view_at views n)
        (read_next s i (own_part p n) (own_part q n) (view_at views n) step found)
    kept = read_keeps c s i p q views n step found meets low ready does

    w : View
    w = read_next s i (own_part p n) (own_part q n) (view_at views n) step found

    all : List View
    all = slice_set views n w

    mine : view_at all n ≡ w
    mine = get_or-set_same views n w gone low

    slots : q.slots ≡ p.slots
    slots = reads_slots p q n (Field s i) step found ready.is does

    learnt : (e : Led) → In e w.led → IsLed q all e
    learnt e in' = each_in (IsLed q all) e w.led in'
        (subst (λ (v : View). Rattle.map_law.specs.Learnt.Learnt q all v) mine (kept.0.learnt n)).led

    knows : KnowsSides p n w
    knows e o in' has life held =
        let is = object_is p n e.slot o has in
        let live = held_live p n e.slot meets.lawful does.0.0 held in
        let same = same_slot p q slots e.slot in
        let lives : (slot_at q e.slot).life ≡ e.life =
        ap (λ (x : PlainSlot). x.life) same
        ∙ (sym (ap (λ (x : Object). x.life) is) ∙ life) in
        let stage : (slot_at q e.slot).stage ≡ Live = ap (λ (x : PlainSlot). x.stage) same ∙ live in
        let at = (learnt e in').2 lives stage in record {
          there = ap (side e.side) (sym same)
              ∙ holds_there q e.kid (side e.side (slot_at q e.slot)) at.1;
          one = λ f inf slot' life' side'.
              let other = (learnt f inf).2
              (ap (λ (x : SlotId). (slot_at q x).life) slot' ∙ (lives ∙ sym life'))
              (ap (λ (x : SlotId). (slot_at q x).stage) slot' ∙ stage) in
              one_kid q e.kid f.kid (side e.side (slot_at q e.slot)) at.1
              (subst (λ (x : Option SlotId). Holds q f.kid x)
              (λ j. side (side' j) (slot_at q (slot' j))) other.1);
          node = λ x kid.
              let tree = kept.0.trees e.slot (stage, at.0) in
              kid_node q e.slot e.side tree.0 at.0 tree.1 x
              (subst (λ (k : Option Kid). Holds q k (side e.side (slot_at q e.slot))) kid at.1);
        }
