-- The make of a node keeps the law.
use Rattle.std.proofs.Common.{◌≡◌, ◌⊎◌, inl, inr, ⊎_elim, ℕ, ◌+◌, ◌<◌, ◌≤◌, Bool, true, false, List, ◌∷◌, length, get_or, set, refl, ap, sym, ◌∙◌, subst, arith}
use Rattle.std.specs.Prelude.{Option, Some, None, if◌then◌else◌}
use Rattle.std.proofs.lemmas.Bool.{cases_eq}
use Rattle.plain_protocol.specs.plain_state.declared.act.PlainAct.{PlainAct}
use Rattle.plain_protocol.specs.plain_state.declared.act.PlainAct.TheVariants as act
use Rattle.plain_protocol.specs.plain_state.declared.slot.SlotId.{SlotId}
use Rattle.plain_protocol.specs.plain_state.State.{Plain, seat_at, slot_at}
use Rattle.plain_protocol.specs.plain_state.Lawful.{Lawful}
use Rattle.plain_protocol.specs.plain_state.Steps.{Does}
use Rattle.plain_protocol.specs.Owns.{Object, object_of, own_part, has_slot}
use Rattle.plain_protocol.specs.Laws.{Keeps}
use Rattle.map_law.specs.Views.{Raw, View, gone, view_at, In, raw_one, fresh}
use Rattle.map_law.specs.Nodes.{IsNode, TreeAt, LiveNode}
use Rattle.map_law.specs.Learnt.{Built, Learnt}
use Rattle.map_law.specs.Law.{MapLaw}
use Rattle.map_law.specs.Patterns.{HasObject}
use Rattle.map_law.specs.Making.{MakeReady, made, make_next}
use Rattle.map_law.proofs.Kit.{cases_id, none_some, each_in, at_view, raw_cons, raw_other, raw_later, raw_same, fresh_set}
use Rattle.map_law.proofs.Left.{LeftSame, does_left}
use Rattle.map_law.proofs.Steps.{Only, Makes, makes, frame_make}
use Rattle.map_law.proofs.Others.{new_tree}
use Rattle.map_law.proofs.Whole.{set_heads, learnt_on, law_on, map_on}
use Rattle.map_law.specs.Nodes.{KeepsMap}
use Rattle.map_law.specs.Making.{MakeTells}

-- an object that the seat has is the state's
pub object_is : (p : Plain) (n : ℕ) (s : SlotId) (o : Object) → HasObject (own_part p n) s o
    → o ≡ object_of (slot_at p s)
object_is p n s o has = go (has_slot (seat_at p n) s) has
  where
    go : (b : Bool) → (if b then Some (object_of (slot_at p s)) else None) ≡ Some o → o ≡ object_of (slot_at p s)
    go true e = cc
    go false e = absurd cc

abbrev new_raw : Plain → SlotId → Raw
new_raw p s = record {
  slot = s;
  life = (slot_at p s).life + 1;
  payload = (slot_at p s).payload;
  first = None;
  second = None;
}

module _ (c : ℕ) (p q : Plain) (s : SlotId) (views : List View) (n : ℕ) (m : Makes p q s) (left : LeftSame p q)
    (lawful : Lawful p) (law : MapLaw c p views)
    (low : n < length views) (here : (view_at views n).here ≡ true) (is : IsNode (slot_at p s).payload) where
  e : Raw
  e = new_raw p s

  w : View
  w = record (view_at views n) { raw = e ∷ (view_at views n).raw }

  counted : (r : SlotId) (l : ℕ) → fresh (set views n w) r l ≡ fresh views r l + raw_one r l e
  unfolding w
  counted r l = let a = fresh_set views n w r l low in let b = raw_cons r l e (view_at views n).raw in omega arith

  same : (r : SlotId) (l : ℕ) → l ≤ (slot_at p r).life → raw_one r l e ≡ 0
  unfolding e
  same r l le = ⊎_elim
      (λ (h : s ≡ r). raw_later r l e (λ k. let a : l ≤ (slot_at p s).life = subst
      (λ (z : SlotId). l ≤ (slot_at p z).life) (sym h) le in absurd (omega arith)))
      (λ ne. raw_other r l e ne) (cases_id s r)

  none_before : (r : SlotId) (l : ℕ) → (slot_at p r).life < l → fresh views r l ≡ 0
  none_before r l lt = ⊎_elim (λ (h : fresh views r l ≡ 0). h) (λ h. let a = law.lives r l (omega arith) in
      absurd (omega arith)) (cases_eq (fresh views r l) 0)

  fresh_on : (r : SlotId) (l : ℕ) → l ≤ (slot_at p r).life → fresh views r l ≡ 0 → fresh (set views n w) r l ≡ 0
  fresh_on r l le h = let a = counted r l in let b = same r l le in omega arith

  xnew : (r : SlotId) → Only s r → (slot_at q r).life ≤ (slot_at p r).life → fresh views r (slot_at q r).life ≡ 0 → ⊥
  xnew r h le k = let a = m.life in let b : (slot_at q s).life ≤ (slot_at p s).life =
      subst (λ (z : SlotId). (slot_at q z).life ≤ (slot_at p z).life) h le in absurd (omega arith)

  one_or_none : (r : SlotId) (l : ℕ) → ((r ≡ s) × (l ≡ (slot_at p s).life + 1)) ⊎ (raw_one r l e ≡ 0)
  unfolding e
  one_or_none r l = ⊎_elim
      (λ (h : s ≡ r). ⊎_elim (λ (k : (slot_at p s).life + 1 ≡ l). inl (sym h, sym k))
      (λ ne. inr (raw_later r l e ne)) (cases_eq ((slot_at p s).life + 1) l))
      (λ ne. inr (raw_other r l e ne)) (cases_id s r)

  at_most : (r : SlotId) (l : ℕ) → raw_one r l e ≤ 1
  unfolding e
  at_most r l = ⊎_elim
      (λ h. let a = raw_same r l e (sym h.0) (sym h.1) in omega arith)
      (λ z. omega arith) (one_or_none r l)

  not_mine : (v : View) → Learnt p views v → (f : Raw) → In f v.raw → (slot_at q f.slot).life ≡ f.life
      → ¬ (Only s f.slot)
  not_mine v h f i life x =
      let a = m.life in
      let b : (slot_at q s).life ≡ f.life = subst (λ (z : SlotId). (slot_at q z).life ≡ f.life) x life in
      let d : f.life ≤ (slot_at p s).life = subst (λ (z : SlotId). f.life ≤ (slot_at p z).life) x
      (each_in (Built p) f v.raw i h.raw).0 in absurd (omega arith)

  learnt : (v : View) → Learnt p views v → Learnt q (set views n w) v
  learnt v h = learnt_on c (Only s) p q views (set views n w) (frame_make p q s m) lawful law xnew fresh_on v
      (not_mine v h) h

  built : Built q e
  unfolding e
  built = ((let a = m.life in omega arith), λ life live. (m.payload, is, m.first, m.second))

  pub make_law : MapLaw c q (set views n (record (view_at views n) { raw = new_raw p s ∷ (view_at views n).raw }))
  unfolding w e
  make_law =
      let fr = frame_make p q s m in
      let o = learnt (view_at views n) (law.learnt n) in
      law_on c (Only s) p q views (set views n w) fr lawful law xnew fresh_on
      (λ r. cases_id r s) (ap (λ (l : List (Option SlotId)). get_or l c None) m.cells)
      (λ r h nd. subst (λ (z : SlotId). (t : _) × TreeAt q (Some z) t) (sym h)
      (new_tree p q s m (subst (LiveNode q) h nd)))
      (λ t r h nd l. absurd (⊎_elim
      (λ k. none_some r (sym m.first ∙ subst (λ (z : SlotId). (slot_at q z).first ≡ Some r) h k))
      (λ k. none_some r (sym m.second ∙ subst (λ (z : SlotId). (slot_at q z).second ≡ Some r) h k)) l))
      (λ r l. let a = counted r l in let k = law.once r l in ⊎_elim
      (λ h. let b = none_before r l (let z : (slot_at p r).life ≡ (slot_at p s).life = ap
      (λ (x : SlotId). (slot_at p x).life) h.0 in omega arith) in let d = at_most r l in omega arith)
      (λ z. omega arith) (one_or_none r l))
      (λ r l h. let a = counted r l in let d = fr.life r in ⊎_elim
      (λ (k : (r ≡ s) × (l ≡ (slot_at p s).life + 1)). let z : (slot_at q r).life ≡ (slot_at q s).life = ap
      (λ (x : SlotId). (slot_at q x).life) k.0 in let y = m.life in let x = k.1 in omega arith)
      (λ z. let b = law.lives r l (omega arith) in omega arith) (one_or_none r l))
      (at_view views n w (Learnt q (set views n w)) low
      (record { raw = (built, o.raw); solid = o.solid; led = o.led; shown = o.shown })
      (λ k ne. learnt (view_at views k) (law.learnt k)))
      (set_heads views n w low here refl refl refl refl) left

  pub make_map : KeepsMap c p q
  make_map = map_on c (Only s) p q views (set views n w) (frame_make p q s m) lawful law xnew fresh_on
      (ap (λ (l : List (Option SlotId)). get_or l c None) m.cells)

pub make_keeps : (c : ℕ) (s : SlotId) → Keeps (MapLaw c) gone (MakeReady s) (make_next s) (MakeTells c)
make_keeps c s p q views n step found meets low ready does =
    let d = subst (λ (a : PlainAct). Does p n a found q) ready.is does in
    let o : Object = ready.object.0 in
    let is = object_is p n s o ready.object.1 in
    let payload : o.payload ≡ (slot_at p s).payload = ap (λ (x : Object). x.payload) is in
    let a = make_law c p q s views n (makes p q n s found meets.lawful d)
    (does_left p q n (act.Make s) found (λ j z. absurd cc) d) meets.lawful meets.law low ready.here
    (subst IsNode payload ready.object.2) in
    let told = make_map c p q s views n (makes p q n s found meets.lawful d)
    (does_left p q n (act.Make s) found (λ j z. absurd cc) d) meets.lawful meets.law low ready.here
    (subst IsNode payload ready.object.2) in
    let b : make_next s (own_part p n) (own_part q n) (view_at views n) step found
    ≡ record (view_at views n) { raw = new_raw p s ∷ (view_at views n).raw } =
    ap (λ (x : Option Object). made s x (view_at views n)) (ready.object.1 ∙ ap (λ (x : Object). Some x) is) in
    (subst (λ (x : View). MapLaw c q (set views n x)) (sym b) a, told)
