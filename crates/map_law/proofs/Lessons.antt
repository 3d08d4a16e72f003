-- What a seat learns of the root cell and of fields keeps the law.
use Rattle.std.proofs.Common.{◌≡◌, ⊎_elim, ℕ, zero, suc, ◌<◌, ◌≤◌, true, List, ◌∷◌, length, set, refl, ap, sym, ◌∙◌, subst, arith}
use Rattle.std.specs.Prelude.{Option, Some, None}
use Rattle.std.proofs.lemmas.List.{set-get_or, length-set}
use Rattle.plain_protocol.specs.plain_state.declared.act.EventPlace.{EventPlace}
use Rattle.plain_protocol.specs.plain_state.declared.act.EventPlace.TheVariants.{Cell, Field}
use Rattle.plain_protocol.specs.plain_state.declared.act.PlainAct.{PlainAct}
use Rattle.plain_protocol.specs.plain_state.declared.act.PlainAct.TheVariants as act
use Rattle.plain_protocol.specs.plain_state.declared.slot.SlotId.{SlotId}
use Rattle.plain_protocol.specs.plain_state.Places.{content, HoldsStrongly}
use Rattle.plain_protocol.specs.plain_state.State.{Plain, seat_at, slot_at}
use Rattle.plain_protocol.specs.plain_state.Steps.{Does, word_of}
use Rattle.plain_protocol.specs.Acts.{IsCalm}
use Rattle.plain_protocol.specs.Owns.{Object, object_of, own_part}
use Rattle.plain_protocol.specs.Laws.{Keeps, Meets}
use Rattle.map_law.specs.Views.{Note, Kid, Led, View, gone, view_at, In, Each, note, raw_times, fresh, Shown}
use Rattle.map_law.specs.Nodes.{root, IsNode, LiveNode, Holds, side}
use Rattle.map_law.specs.Learnt.{Solid, IsLed, IsShown}
use Rattle.map_law.specs.Law.{MapLaw}
use Rattle.map_law.specs.Patterns.{HasObject, kid_of}
use Rattle.map_law.specs.Lessons.{Reads, SeeReady, seen_root, see_next, ReadReady, led_to, led_by, read_of, read_next}
use Rattle.map_law.specs.Making.{frozen}
use Rattle.map_law.proofs.Kit.{each_in, each_map, view_here, number_same}
use Rattle.map_law.proofs.Frame.{side_leads}
use Rattle.map_law.proofs.Steps.{same_slot}
use Rattle.map_law.proofs.Others.{calm_keeps, calm_map, held_live}
use Rattle.map_law.specs.Lessons.{SeeTells, ReadTells}
use Rattle.map_law.proofs.Making.{object_is}
use Rattle.map_law.proofs.Setting.{set_twice}
use Rattle.map_law.proofs.Views.{view_law, old_learnt, still_none, frozen_law, known_none}

-- a read leaves every slot, and the cells
pub record ReadsOn (p q : Plain) (at : EventPlace) (found : ℕ) : Type 0 where
  pub slots : q.slots ≡ p.slots
  pub cells : q.cells ≡ p.cells
  pub shows : found ≡ word_of (content p at)

reads_on : (p q : Plain) (n : ℕ) (at : EventPlace) (step : PlainAct) (found : ℕ) → Reads at step
    → Does p n step found q → ReadsOn p q at found
reads_on p q n at step found is does = ⊎_elim
    (λ (e : step ≡ act.Look at). let d = subst (λ (a : PlainAct). Does p n a found q) e does in
    record { slots = ap (λ (z : Plain). z.slots) d.1.2; cells = ap (λ (z : Plain). z.cells) d.1.2; shows = d.1.1 })
    (λ (e : (j : ℕ) × (step ≡ act.Check j at)). let d = subst (λ (a : PlainAct). Does p n a found q) e.1 does in
    ⊎_elim
    (λ (same : q ≡ p). record {
      slots = ap (λ (z : Plain). z.slots) same;
      cells = ap (λ (z : Plain). z.cells) same;
      shows = d.1.1;
    })
    (λ t. record {
      slots = ap (λ (z : Plain). z.slots) t.2.2;
      cells = ap (λ (z : Plain). z.cells) t.2.2;
      shows = d.1.1;
    }) d.1.2)
    is

reads_calm : (at : EventPlace) (step : PlainAct) → Reads at step → IsCalm step
reads_calm at step is = ⊎_elim
    (λ (e : step ≡ act.Look at). subst IsCalm (sym e) tt)
    (λ (e : (j : ℕ) × (step ≡ act.Check j at)). subst IsCalm (sym e.1) tt) is

word_some : (o : Option SlotId) (s : ℕ) → word_of o ≡ suc s → o ≡ Some (record { 0 = s })
word_some None s e = absurd (omega arith)
word_some (Some x) s e = ap (λ (z : SlotId). Some z) (number_same x (record { 0 = s }) (omega arith))

word_none : (o : Option SlotId) → word_of o ≡ 0 → o ≡ None
word_none None e = refl
word_none (Some x) e = absurd (omega arith)

pub same_view : (c : ℕ) (q : Plain) (views : List View) (n : ℕ) → MapLaw c q views
    → MapLaw c q (set views n (view_at views n))
same_view c q views n law = subst (MapLaw c q) (sym (set-get_or views n gone)) law

-- the law with a view that has learnt more, and then after the calm step
module _ (c : ℕ) (p q : Plain) (views : List View) (n : ℕ) (step : PlainAct) (found : ℕ)
    (meets : Meets (MapLaw c) p views) (low : n < length views)
    (here : (view_at views n).here ≡ true) (calm : IsCalm step) (does : Does p n step found q) where
  after_calm : (w : View) → MapLaw c p (set views n w) → MapLaw c q (set views n w)
  after_calm w law = calm_keeps c p q n step found (set views n w)
      (record { lawful = meets.lawful; count = length-set views n w ∙ meets.count; law = law }) calm does

  pub nothing_learnt : MapLaw c q (set views n (view_at views n))
  nothing_learnt = after_calm (view_at views n) (same_view c p views n meets.law)

  pub learn : (solid : List Note) (led : List Led) (shown : List Shown)
      → (Each (Solid p views) (view_at views n).solid → Each (Solid p views) solid)
      → (Each (IsLed p views) (view_at views n).led → Each (IsLed p views) led)
      → (Each (IsShown p views) (view_at views n).shown → Each (IsShown p views) shown)
      → MapLaw c q (set views n (record (view_at views n) { solid = solid; led = led; shown = shown }))
  learn solid led shown f g k =
      let v = view_at views n in
      let w : View = record v { solid = solid; led = led; shown = shown } in
      let few : (x : SlotId) (k : ℕ) → raw_times x k w.raw ≤ raw_times x k v.raw = λ x k. omega arith in
      let now = meets.law.learnt n in
      let o = old_learnt c p views n w meets.lawful meets.law low few in
      let none = still_none c p views n w meets.lawful meets.law low few in
      after_calm w (view_law c p views n w meets.lawful meets.law low few here refl refl refl refl (record {
        raw = o.raw;
        solid = each_map (Solid p views) (Solid p (set views n w)) (λ e h. (h.0, none e.slot e.life h.0 h.1)) solid
            (f now.solid);
        led = each_map (IsLed p views) (IsLed p (set views n w)) (λ e h. (h.0, none e.slot e.life h.0 h.1, h.2)) led
            (g now.led);
        shown = each_map (IsShown p views) (IsShown p (set views n w))
            (λ e h. (h.0, none e.slot e.life h.0 h.1, h.2)) shown (k now.shown);
      }))

-- the object that the seat has after a read is that of the state before
after_is : (p q : Plain) (n : ℕ) (r : SlotId) (o : Object) → q.slots ≡ p.slots → HasObject (own_part q n) r o
    → o ≡ object_of (slot_at p r)
after_is p q n r o slots has = object_is q n r o has ∙ ap object_of (same_slot p q slots r)

solid_of : (c : ℕ) (p : Plain) (views : List View) (r : SlotId) (o : Object) → o ≡ object_of (slot_at p r)
    → fresh views r (slot_at p r).life ≡ 0 → Solid p views (note r o.life)
solid_of c p views r o is none =
    let life : o.life ≡ (slot_at p r).life = ap (λ (x : Object). x.life) is in
    ((omega arith), ap (fresh views r) life ∙ none)

pub see_keeps : (c : ℕ) → Keeps (MapLaw c) gone (SeeReady c) see_next (SeeTells c)
see_keeps c p q views n step zero meets low ready does = (
  nothing_learnt c p q views n step zero meets low ready.here (reads_calm (Cell c) step ready.is) does,
  calm_map c p q n step zero views meets (reads_calm (Cell c) step ready.is) does,
)
see_keeps c p q views n step (suc r) meets low ready does = (
  go (own_part q n).objects rid refl,
  calm_map c p q n step (suc r) views meets
      (reads_calm (Cell c) step ready.is) does,
)
  where
    rid : SlotId
    rid = record { 0 = r }

    go : (obs : SlotId → Option Object) (x : SlotId) → x ≡ x
        → MapLaw c q (set views n (see_next (own_part p n) (own_part q n) (view_at views n) step (suc r)))
    go obs x same = inner ((own_part q n).objects (record { 0 = r })) refl
      where
        inner : (o : Option Object) → (own_part q n).objects (record { 0 = r }) ≡ o
            → MapLaw c q (set views n (seen_root (record { 0 = r }) o (view_at views n)))
        inner None has = nothing_learnt c p q views n step (suc r) meets low ready.here
            (reads_calm (Cell c) step ready.is) does
        inner (Some o) has =
            let s : SlotId = record { 0 = r } in
            let on = reads_on p q n (Cell c) step (suc r) ready.is does in
            let at : root p c ≡ Some s = word_some (root p c) r (sym on.shows) in
            let is = after_is p q n s o on.slots has in
            learn c p q views n step (suc r) meets low ready.here (reads_calm (Cell c) step ready.is) does
            (note s o.life ∷ (view_at views n).solid) (view_at views n).led (view_at views n).shown
            (λ h. (solid_of c p views s o is (meets.law.stands s at), h)) (λ h. h) (λ h. h)

-- the same of a field of a node that stood in a tree
read_law : (c : ℕ) (s : SlotId) (i l : ℕ) (p q : Plain) (views : List View) (n : ℕ) (step : PlainAct) (found : ℕ)
    → Meets (MapLaw c) p views → n < length views
    → (view_at views n).here ≡ true → Reads (Field s i) step → LiveNode p s → (slot_at p s).life ≡ l
    → fresh views s l ≡ 0 → Does p n step found q
    → MapLaw c q (set views n (led_by s l i (own_part q n) found (view_at views n)))
read_law c s i l p q views n step found meets low here is nd life none does = by found refl
  where
    led_is : (k : Option Kid) → Holds p k (side i (slot_at p s))
        → IsLed p views (record { slot = s; life = l; side = i; kid = k })
    led_is k h = ((omega arith), none, λ e lv. (nd.1, h))

    by : (k : ℕ) → found ≡ k → MapLaw c q (set views n (led_by s l i (own_part q n) k (view_at views n)))
    by zero e =
        let r = reads_on p q n (Field s i) step found is does in
        let null : side i (slot_at p s) ≡ None = word_none (side i (slot_at p s)) (sym r.shows ∙ e) in
        learn c p q views n step found meets low here (reads_calm (Field s i) step is) does
        (view_at views n).solid (record { slot = s; life = l; side = i; kid = None } ∷ (view_at views n).led)
        (view_at views n).shown
        (λ h. h) (λ h. (led_is None null, h)) (λ h. h)
    by (suc r) e = inner ((own_part q n).objects (record { 0 = r })) refl
      where
        inner : (x : Option Object) → (own_part q n).objects (record { 0 = r }) ≡ x
            → MapLaw c q (set views n (led_to s l i (record { 0 = r }) x (view_at views n)))
        inner None has =
            let rd = reads_on p q n (Field s i) step found is does in
            let t : SlotId = record { 0 = r } in
            let at : side i (slot_at p s) ≡ Some t = word_some (side i (slot_at p s)) r (sym rd.shows ∙ e) in
            learn c p q views n step found meets low here (reads_calm (Field s i) step is) does
            (view_at views n).solid (view_at views n).led (record { slot = s; life = l; side = i; next = Some t } ∷
            (view_at views n).shown)
            (λ h. h) (λ h. h) (λ h. (((omega arith), none, λ x lv. (nd.1, at)), h))
        inner (Some x) has =
            let rd = reads_on p q n (Field s i) step found is does in
            let t : SlotId = record { 0 = r } in
            let at : side i (slot_at p s) ≡ Some t = word_some (side i (slot_at p s)) r (sym rd.shows ∙ e) in
            let isx = after_is p q n t x rd.slots has in
            learn c p q views n step found meets low here (reads_calm (Field s i) step is) does
            (note t x.life ∷ (view_at views n).solid)
            (record { slot = s; life = l; side = i; kid = Some (kid_of t x) } ∷ (view_at views n).led)
            (view_at views n).shown
            (λ h. (solid_of c p views t x isx (meets.law.loose s t nd (side_leads p i s t at)), h))
            (λ h. (
              led_is (Some (kid_of t x)) (
                at,
                sym (ap (λ (y : Object). y.life) isx),
                sym (ap (λ (y : Object). y.payload) isx),
              ),
              h,
            )) (λ h. h)

-- what was looked at before is there still
shown_is : (c : ℕ) (p : Plain) (views : List View) (n : ℕ) → Meets (MapLaw c) p views → n < length views
    → (e : Shown) (o : Object) → In e (view_at views n).shown
    → HasObject (own_part p n) e.slot o → o.life ≡ e.life → HoldsStrongly (seat_at p n) e.slot → n < length p.seats
    → content p (Field e.slot e.side) ≡ e.next
shown_is c p views n meets low e o i has life held there =
    let is = object_is p n e.slot o has in
    let h = each_in (IsShown p views) e (view_at views n).shown i (meets.law.learnt n).shown in
    (h.2 (sym (ap (λ (x : Object). x.life) is) ∙ life) (held_live p n e.slot meets.lawful there held)).1

pub read_keeps : (c : ℕ) (s : SlotId) (i : ℕ) → Keeps (MapLaw c) gone (ReadReady s i) (read_next s i) (ReadTells c)
read_keeps c s i p q views n step found meets low ready does =
    let v = view_at views n in
    let l = ready.object.life in
    let is = object_is p n s ready.object ready.has in
    let life : l ≡ (slot_at p s).life = ap (λ (x : Object). x.life) is in
    let nd : LiveNode p s = (
      held_live p n s meets.lawful does.0.0 ready.held,
      subst IsNode (ap (λ (x : Object). x.payload) is) ready.node,
    ) in
    let w0 = frozen s l v in
    let views0 : List View = set views n (frozen s l v) in
    let law0 = frozen_law c p views n s l meets.lawful meets.law low ready.here ready.known in
    let at0 : view_at views0 n ≡ w0 = view_here views n w0 low in
    let long = length-set views n w0 in
    let a = read_law c s i l p q views0 n step found (record {
      lawful = meets.lawful;
      count = long ∙ meets.count;
      law = law0;
    }) (omega arith)
    (ap (λ (x : View). x.here) at0 ∙ ready.here) ready.is nd (sym life)
    (known_none c p views n meets.law low s l ready.known) does in
    let b : set views0 n (led_by s l i (own_part q n) found (view_at views0 n))
    ≡ set views n (led_by s l i (own_part q n) found w0) =
    set_twice views n w0 _ ∙ ap (λ (x : View). set views n (led_by s l i (own_part q n) found x)) at0 in (
      subst (λ (x : Option Object). MapLaw c q (set views n (read_of s i x (own_part q n) v found))) (sym ready.has)
          (subst (MapLaw c q) b a),
      (
        calm_map c p q n step found views meets (reads_calm (Field s i) step ready.is) does,
        λ e o i has life held. shown_is c p views n meets low e o i has life held does.0.0,
      ),
    )
