-- What each kind of step leaves, as frames.
use Rattle.std.proofs.Common.{◌≡◌, ◌≢◌, ⊎_elim, ℕ, ◌+◌, ◌<◌, ◌≤◌, List, length, get_or, set, ap, sym, ◌∙◌, subst, arith}
use Rattle.std.specs.Prelude.{None}
use Rattle.std.proofs.lemmas.List.{get_or-set_same, get_or-set_other, get_or_past}
use Rattle.std.proofs.lemmas.Bool.{cases_lt}
use Rattle.plain_protocol.specs.plain_state.declared.act.PlainAct.TheVariants as act
use Rattle.plain_protocol.specs.plain_state.declared.slot.PlainSlot.{PlainSlot}
use Rattle.plain_protocol.specs.plain_state.declared.slot.SlotId.{SlotId}
use Rattle.plain_protocol.specs.plain_state.declared.slot.Stage.TheVariants.{Free, Blank, Live, Ended}
use Rattle.plain_protocol.specs.plain_state.State.{Plain, new_slot, slot_at}
use Rattle.plain_protocol.specs.plain_state.Lawful.{Lawful}
use Rattle.plain_protocol.specs.plain_state.Steps.{Does}
use Rattle.plain_protocol.specs.Calm.{IsCalmed}
use Rattle.map_law.specs.Nodes.{IsNode}
use Rattle.map_law.proofs.Kit.{cases_id, number_other}
use Rattle.map_law.proofs.Frame.{Frame}

abbrev pub Nowhere : SlotId → Type 0
Nowhere s = ⊥

abbrev pub Only : SlotId → SlotId → Type 0
Only x s = s ≡ x

pub frame_calm : (p q : Plain) → IsCalmed p q → Frame Nowhere p q
frame_calm p q calm = record {
  life = λ s. let e = (calm.slots s).life in omega arith;
  live = λ s not. (calm.slots s).live;
  kept = λ s live. ((calm.slots s).life, (calm.slots s).payload live);
  fields = λ s not live node. let f = (calm.slots s).fields live in (f.0, f.1);
}

pub same_slot : (p q : Plain) → q.slots ≡ p.slots → (s : SlotId) → slot_at q s ≡ slot_at p s
same_slot p q e s = ap (λ (l : List PlainSlot). get_or l s.0 new_slot) e

frame_slots : (X : SlotId → Type 0) (p q : Plain) → ((s : SlotId) → ((slot_at q s).stage ≡ (slot_at p s).stage)
    × ((slot_at q s).life ≡ (slot_at p s).life) × ((slot_at q s).payload ≡ (slot_at p s).payload))
    → ((s : SlotId) → ¬ (X s) → IsNode (slot_at p s).payload → ((slot_at q s).first ≡ (slot_at p s).first)
    × ((slot_at q s).second ≡ (slot_at p s).second))
    → Frame X p q
frame_slots X p q same fields = record {
  life = λ s. let e = (same s).1 in omega arith;
  live = λ s not live. sym (same s).0 ∙ live;
  kept = λ s live. ((same s).1, (same s).2);
  fields = λ s not live node. fields s not node;
}

-- no slot is written
pub frame_same : (p q : Plain) → q.slots ≡ p.slots → Frame Nowhere p q
frame_same p q e = frame_slots Nowhere p q
    (λ s. let w = same_slot p q e s in (
      ap (λ (x : PlainSlot). x.stage) w,
      ap (λ (x : PlainSlot). x.life) w,
      ap (λ (x : PlainSlot). x.payload) w,
    ))
    (λ s not node. let w = same_slot p q e s in (
      ap (λ (x : PlainSlot). x.first) w,
      ap (λ (x : PlainSlot). x.second) w,
    ))

pub slot_here : (p q : Plain) (x : SlotId) (y : PlainSlot) → q.slots ≡ set p.slots x.0 y → x.0 < length p.slots
    → slot_at q x ≡ y
slot_here p q x y e low = ap (λ (l : List PlainSlot). get_or l x.0 new_slot) e
    ∙ get_or-set_same p.slots x.0 y new_slot low

pub slot_else : (p q : Plain) (x : SlotId) (y : PlainSlot) → q.slots ≡ set p.slots x.0 y → (s : SlotId) → s ≢ x
    → slot_at q s ≡ slot_at p s
slot_else p q x y e s ne = ap (λ (l : List PlainSlot). get_or l s.0 new_slot) e
    ∙ get_or-set_other p.slots x.0 s.0 y new_slot (number_other s x ne)

-- one slot is written, in its fields alone
pub frame_write : (X : SlotId → Type 0) (p q : Plain) (x : SlotId) (y : PlainSlot) → q.slots ≡ set p.slots x.0 y
    → x.0 < length p.slots
    → y.stage ≡ (slot_at p x).stage → y.life ≡ (slot_at p x).life → y.payload ≡ (slot_at p x).payload
    → (¬ (X x) → IsNode (slot_at p x).payload → (y.first ≡ (slot_at p x).first) × (y.second ≡ (slot_at p x).second))
    → Frame X p q
frame_write X p q x y e low stage life payload fields = frame_slots X p q
    (λ s. ⊎_elim
    (λ (is : s ≡ x). subst (λ (z : SlotId). ((slot_at q z).stage ≡ (slot_at p z).stage)
    × ((slot_at q z).life ≡ (slot_at p z).life) × ((slot_at q z).payload ≡ (slot_at p z).payload)) (sym is)
    (let w = slot_here p q x y e low in (
      ap (λ (z : PlainSlot). z.stage) w ∙ stage,
      ap (λ (z : PlainSlot). z.life) w
          ∙ life,
      ap (λ (z : PlainSlot). z.payload) w ∙ payload,
    )))
    (λ ne. let w = slot_else p q x y e s ne in (
      ap (λ (z : PlainSlot). z.stage) w,
      ap (λ (z : PlainSlot). z.life) w,
      ap (λ (z : PlainSlot). z.payload) w,
    ))
    (cases_id s x))
    (λ s not node. ⊎_elim
    (λ (is : s ≡ x).
    let w = slot_here p q x y e low in
    let f = fields (subst (λ (z : SlotId). ¬ (X z)) is not)
    (subst (λ (z : SlotId). IsNode (slot_at p z).payload) is node) in
    subst (λ (z : SlotId). ((slot_at q z).first ≡ (slot_at p z).first)
    × ((slot_at q z).second ≡ (slot_at p z).second)) (sym is)
    (ap (λ (z : PlainSlot). z.first) w ∙ f.0, ap (λ (z : PlainSlot). z.second) w ∙ f.1))
    (λ ne. let w = slot_else p q x y e s ne in (
      ap (λ (z : PlainSlot). z.first) w,
      ap (λ (z : PlainSlot). z.second) w,
    ))
    (cases_id s x))

-- what is in no list of slots is Free
pub inside : (p : Plain) (s : SlotId) → (slot_at p s).stage ≢ Free → s.0 < length p.slots
inside p s not = ⊎_elim (λ (h : s.0 < length p.slots). h)
    (λ past. absurd (not (ap (λ (y : PlainSlot). y.stage) (get_or_past p.slots s.0 new_slot past))))
    (cases_lt s.0 (length p.slots))

free≢blank : Free ≡ Blank → ⊥
free≢blank e = cc

free≢live : Free ≡ Live → ⊥
free≢live e = cc

blank≢live : Blank ≡ Live → ⊥
blank≢live e = cc

blank≢ended : Blank ≡ Ended → ⊥
blank≢ended e = cc

pub live_inside : (p : Plain) (s : SlotId) → (slot_at p s).stage ≡ Live → s.0 < length p.slots
live_inside p s live = inside p s (λ e. free≢live (sym e ∙ live))

-- a blank slot comes to life
pub record Makes (p q : Plain) (s : SlotId) : Type 0 where
  pub blank : (slot_at p s).stage ≡ Blank
  pub life : (slot_at q s).life ≡ (slot_at p s).life + 1
  pub payload : (slot_at q s).payload ≡ (slot_at p s).payload
  pub first : (slot_at q s).first ≡ None
  pub second : (slot_at q s).second ≡ None
  pub other : (r : SlotId) → r ≢ s → slot_at q r ≡ slot_at p r
  pub cells : q.cells ≡ p.cells

pub makes : (p q : Plain) (n : ℕ) (s : SlotId) (found : ℕ) → Lawful p → Does p n (act.Make s) found q → Makes p q s
makes p q n s found lawful d =
    let blank = d.1.0 in
    let slots = ap (λ (z : Plain). z.slots) d.1.3 in
    let low = inside p s (λ e. free≢blank (sym e ∙ blank)) in
    let w = slot_here p q s _ slots low in
    let null = lawful.nulls s ((λ e. blank≢live (sym blank ∙ e)), (λ e. blank≢ended (sym blank ∙ e))) in
    record {
      blank = blank;
      life = ap (λ (z : PlainSlot). z.life) w;
      payload = ap (λ (z : PlainSlot). z.payload) w;
      first = ap (λ (z : PlainSlot). z.first) w ∙ null.0;
      second = ap (λ (z : PlainSlot). z.second) w ∙ null.1;
      other = slot_else p q s _ slots;
      cells = ap (λ (z : Plain). z.cells) d.1.3;
    }

pub frame_make : (p q : Plain) (s : SlotId) → Makes p q s → Frame (Only s) p q
frame_make p q s m = record {
  life = λ r. ⊎_elim
      (λ (is : r ≡ s). subst (λ (z : SlotId). (slot_at p z).life ≤ (slot_at q z).life) (sym is) (let e = m.life in
      omega arith))
      (λ ne. let e = ap (λ (z : PlainSlot). z.life) (m.other r ne) in omega arith) (cases_id r s);
  live = λ r not live. sym (ap (λ (z : PlainSlot). z.stage) (m.other r not)) ∙ live;
  kept = λ r live. let w =
      m.other r (λ is. blank≢live (sym m.blank ∙ (ap (λ (z : SlotId). (slot_at p z).stage) (sym is) ∙ live))) in
      (ap (λ (z : PlainSlot). z.life) w, ap (λ (z : PlainSlot). z.payload) w);
  fields = λ r not live node. let w = m.other r not in (
    ap (λ (z : PlainSlot). z.first) w,
    ap (λ (z : PlainSlot). z.second) w,
  );
}
