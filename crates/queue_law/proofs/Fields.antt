-- The writes of field 1 and of the weak field.
use Rattle.std.proofs.Common.{◌≡◌, ◌≢◌, inr, ℕ, ◌+◌, ◌-◌, ◌<◌, List, length, set, refl, ap, sym, ◌∙◌, subst, arith, Some, None}
use Rattle.plain_protocol.specs.plain_state.State.{Plain, seat_at}
use Rattle.plain_protocol.specs.plain_state.Steps.{Does}
use Rattle.plain_protocol.specs.Owns.{own_part}
use Rattle.queue_law.specs.Words.{slot_at, cell_at, held_times, life_in, payload_in, id}
use Rattle.queue_law.specs.Views.{Taken, View, Load, view_at}
use Rattle.queue_law.specs.Chain.{Ends, Sent, sent, Chain}
use Rattle.queue_law.specs.Notes.{Sees, Emptied, Carries, Flies, Known}
use Rattle.queue_law.specs.Law.{Queue, QueueLaw}
use Rattle.queue_law.specs.Writes.{SameObjects, SecondSet, BackSet}
use Rattle.queue_law.specs.Owned.{Keeps}
use Rattle.queue_law.specs.Nodes.{given, CarryReady, carry_next, BackReady, back_next}
use Rattle.queue_law.specs.Pops.{EmptyReady, empty_next}
use Rattle.queue_law.proofs.Kit.{own_life, own_payload}
use Rattle.queue_law.proofs.Effects.{put_second, put_back}
use Rattle.queue_law.proofs.Chain.{chain_present}
use Rattle.queue_law.proofs.ChainWrites.{second_chain, back_chain}
use Rattle.queue_law.proofs.Notes.{unchanged, sees_on, CarryOn, carries_on, carry_same}
use Rattle.queue_law.proofs.Seen.{rewrite_keeps, flights_same, firsts_lead}

-- a write of a field of a node that isn't waiting, by a seat whose eyes and flights stay
module _ (u : Ends) (p q : Plain) (views : List View) (n : ℕ) (v : View) (h : List Sent) (ts : List Taken)
    (t : ℕ) (law : Queue u p views h ts t) (low : n < length views) (at : view_at views n ≡ v)
    (o : SameObjects p q) (first : (s : ℕ) → (slot_at q s).first ≡ (slot_at p s).first)
    (cells : (c : ℕ) → cell_at q c ≡ cell_at p c) (chain : Chain u q h (length ts) t)
    (others : (m : ℕ) → m ≢ n → CarryOn p q h h (view_at views m).load) where
  pub field_keeps : (load : Load) → Carries q h load → load.node ≡ v.load.node → load.life ≡ v.load.life
      → Queue u q (set views n (record v { load = load })) h ts t
  field_keeps load carries node life =
      let on = firsts_lead p q h o first in
      rewrite_keeps u p q views n v h ts t t law (omega arith) low at chain (cells u.head)
      (inr (cells u.tail)) on others (record v { load = load })
      (sees_on p q h h (length ts) (length ts) t t v.eyes (unchanged h) (omega arith) (omega arith) on
      (subst (λ (z : View). Sees p h (length ts) t z.eyes) at (law.known.sees n)))
      (subst (Emptied h (length ts)) at (law.known.emptied n)) carries
      (subst (λ (z : View). Flies h z.flight) at (law.known.flies n))
      (flights_same u p q h views n v (record v { load = load }) low at o first refl refl law.flights)
      node life refl refl refl refl (λ a z. law.known.attached n (ap (λ (y : View). y.attached) at ∙ a)
      (sym (cells u.head) ∙ z)) refl refl

-- no other seat's node is the one that this seat writes
another : (u : Ends) (p : Plain) (h : List Sent) (k t : ℕ) (views : List View) (n m : ℕ) (v : View)
    (node s : ℕ) → Known u p h k t views → view_at views n ≡ v → m ≢ n → v.load.node ≡ node + 1
    → (slot_at p node).life ≡ v.load.life
    → (view_at views m).load.node ≡ s + 1 → (slot_at p s).life ≡ (view_at views m).load.life → s ≢ node
another u p h k t views n m v node s o at ne fresh life e l same =
    ne (sym (o.apart n m (λ z. let b = ap (λ (y : View). y.load.node) at in omega arith)
    (ap (λ (y : View). y.load.node) at ∙ (fresh ∙ (ap (λ z. z + 1) (sym same) ∙ sym e)))
    (ap (λ (y : View). y.load.life) at ∙ (sym life ∙ (ap (λ z. (slot_at p z).life) (sym same) ∙ l)))))

-- CARRY: field 1 of the seat's own node gets an item
pub carry_deed : (u : Ends) → Keeps (QueueLaw u) CarryReady carry_next
carry_deed u p q views n v step found lawful law is stays_on ready d =
    let r = ready in
    let here = is in
    let h = law.0 in let ts = law.1 in let t = law.2 in let o = law.3.known in
    let st = put_second p q n r.node found (Some (id r.item)) lawful
    (subst (λ a. Does p n a found q) r.act_is d) in
    let held = st.0 in
    let w : SecondSet p q r.node (r.item + 1) = st.1 in
    let life : (slot_at p r.node).life ≡ v.load.life = sym (own_life p n r.node held) ∙ r.fresh_life in
    let c : Carries p h v.load = subst (λ (z : View). Carries p h z.load) here.1 (o.carries n) in
    let obj = w.objects in
    let e1 : given step ≡ r.item + 1 = ap given r.act_is in
    let e2 : given step - 1 ≡ r.item = omega arith in
    let owned : 0 < held_times r.item (seat_at p n) = let z = r.has_item in omega arith in (
      h,
      ts,
      t,
      field_keeps u p q views n v h ts t law.3 here.0 here.1 obj w.first w.cells
          (second_chain u p q h (length ts) t r.node (r.item + 1) law.3.chain w
          (λ a i after low e. let pr = chain_present u p h (length ts) t law.3.chain a i
          (omega arith) low in
          c.unlinked r.node r.fresh (i, low, e, sym pr.1 ∙ (ap (λ z. (slot_at p z).life) e ∙ life))))
          (λ m ne. carry_same p q h h (view_at views m).load obj (λ s e l. l)
          (λ s e l. w.other s (another u p h
          (length ts) t views n m v r.node s o here.1 ne r.fresh life e l)) (λ s e l. w.back s))
          (record v.load {
            item = given step;
            item_life = life_in (own_part p n)
                (given step - 1);
            item_payload = payload_in (own_part p n) (given step - 1);
          })
          (record {
            unlinked = c.unlinked;
            known = λ s e. let a = c.known s e in let b = obj.life s in omega arith;
            node = λ s e lv lf. obj.payload s ∙ c.node s e (sym (obj.stage s) ∙ lv)
                (sym (obj.life s) ∙ lf);
            carried = λ s e lv lf x ex.
                let same : s ≡ r.node = let f = r.fresh in omega arith in
                let ix : x ≡ r.item = omega arith in (
                  ap (λ z. (slot_at q z).second) same ∙ (w.here ∙ sym (ap (λ z. z + 1) ix)),
                  obj.life x ∙ (ap (λ z. (slot_at p z).life) ix
                      ∙ (sym (own_life p n r.item owned) ∙ ap (life_in (own_part p n)) (sym e2))),
                  obj.payload x ∙ (ap (λ z. (slot_at p z).payload) ix
                      ∙ (sym (own_payload p n r.item owned) ∙ ap (payload_in (own_part p n)) (sym e2))),
                );
            backed = λ s e lv lf. w.back s ∙ c.backed s e (sym (obj.stage s) ∙ lv)
                (sym (obj.life s) ∙ lf);
          }) refl refl,
    )

-- BACK: the weak field of the seat's own node gets a node
pub back_deed : (u : Ends) → Keeps (QueueLaw u) BackReady back_next
back_deed u p q views n v step found lawful law is stays_on ready d =
    let r = ready in
    let here = is in
    let h = law.0 in let ts = law.1 in let t = law.2 in let o = law.3.known in
    let st = put_back p q n r.node found (Some (id r.prev)) lawful
    (subst (λ a. Does p n a found q) r.act_is d) in
    let held = st.0 in
    let w : BackSet p q r.node (r.prev + 1) = st.1 in
    let life : (slot_at p r.node).life ≡ v.load.life = sym (own_life p n r.node held) ∙ r.fresh_life in
    let c : Carries p h v.load = subst (λ (z : View). Carries p h z.load) here.1 (o.carries n) in
    let obj = w.objects in
    let e1 : given step ≡ r.prev + 1 = ap given r.act_is in (
      h,
      ts,
      t,
      field_keeps u p q views n v h ts t law.3 here.0 here.1 obj w.first w.cells
          (back_chain u p q h (length ts) t r.node (r.prev + 1) law.3.chain w
          (λ i low pr e. c.unlinked r.node r.fresh
          (i, low, e, sym pr.1 ∙ (ap (λ z. (slot_at p z).life) e ∙ life))))
          (λ m ne. carry_same p q h h (view_at views m).load obj (λ s e l. l) (λ s e l. w.second s)
          (λ s e l. w.other s (another u p h
          (length ts) t views n m v r.node s o here.1 ne r.fresh life e l)))
          (record v.load { back = given step })
          (record {
            unlinked = c.unlinked;
            known = λ s e. let a = c.known s e in let b = obj.life s in omega arith;
            node = λ s e lv lf. obj.payload s ∙ c.node s e (sym (obj.stage s) ∙ lv)
                (sym (obj.life s) ∙ lf);
            carried = λ s e lv lf x ex. let b = c.carried s e (sym (obj.stage s) ∙ lv)
                (sym (obj.life s) ∙ lf) x ex in (w.second s ∙ b.0, obj.life x ∙ b.1, obj.payload x ∙ b.2);
            backed = λ s e lv lf.
                let same : s ≡ r.node = let f = r.fresh in omega arith in
                ap (λ z. (slot_at q z).back) same ∙ (w.here ∙ sym e1);
          }) refl refl,
    )

-- EMPTY: field 1 of a dummy is cleared; the view stays
pub empty_deed : (u : Ends) → Keeps (QueueLaw u) EmptyReady empty_next
empty_deed u p q views n v step found lawful law is stays_on ready d =
    let r = ready in
    let here = is in
    let h = law.0 in let ts = law.1 in let t = law.2 in let o = law.3.known in
    let st = put_second p q n r.node found None lawful (subst (λ a. Does p n a found q) r.act_is d) in
    let held = st.0 in
    let w : SecondSet p q r.node 0 = st.1 in
    let life : (slot_at p r.node).life ≡ v.dummy_life = sym (own_life p n r.node held) ∙ r.dummy_life in
    let em = subst (Emptied h (length ts)) here.1 (o.emptied n) (λ z. let e = r.dummy in omega arith) in
    let at_d : (sent h em.0).node ≡ r.node = let z = em.3 in let y = r.dummy in omega arith in
    let obj = w.objects in
    let on : (u : Load) → Carries p h u → CarryOn p q h h u = λ u c. carry_same p q h h u obj (λ s e l. l)
    (λ s e l. w.other s (λ same. c.unlinked s e (
      em.0,
      em.1,
      at_d ∙ sym same,
      em.4
          ∙ (sym life ∙ (ap (λ z. (slot_at p z).life) (sym same) ∙ l)),
    ))) (λ s e l. w.back s) in
    let c : Carries p h v.load = subst (λ (z : View). Carries p h z.load) here.1 (o.carries n) in (
      h,
      ts,
      t,
      field_keeps u p q views n v h ts t law.3 here.0 here.1 obj w.first w.cells
          (second_chain u p q h (length ts) t r.node 0 law.3.chain w
          (λ a i after low e. let pr = chain_present u p h (length ts) t law.3.chain a i
          (omega arith) low in
          let same = law.3.chain.apart i em.0 low em.1 (e ∙ sym at_d)
          (sym pr.1 ∙ (ap (λ z. (slot_at p z).life) e ∙ (life ∙ sym em.4))) in
          let z = em.2 in omega arith))
          (λ m ne. on (view_at views m).load (o.carries m)) v.load
          (carries_on p q h h v.load (on v.load c) c) refl refl,
    )
