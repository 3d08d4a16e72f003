-- An object is made: by another part of a client, or a node by the queue.
use Rattle.std.proofs.Common.{◌≡◌, ◌≢◌, inl, inr, ⊎_elim, ℕ, ◌+◌, ◌<◌, ◌≤◌, List, length, set, refl, ap, sym, ◌∙◌, subst, arith}
use Rattle.std.proofs.lemmas.Bool.{cases_eq}
use Rattle.plain_protocol.specs.plain_state.State.{Plain, seat_at}
use Rattle.plain_protocol.specs.plain_state.Lawful.{Lawful}
use Rattle.plain_protocol.specs.plain_state.Steps.{Does}
use Rattle.plain_protocol.specs.plain_state.declared.act.PlainAct.TheVariants as act
use Rattle.plain_protocol.specs.Owns.{own_part}
use Rattle.queue_law.specs.Words.{SlotPart, slot_at, Live, life_in, payload_in, id}
use Rattle.queue_law.specs.Views.{Taken, View, view_at}
use Rattle.queue_law.specs.Chain.{Ends, Sent, sent, Present, Leads, Solid, WasLinked, Chain}
use Rattle.queue_law.specs.Notes.{Sees, Emptied, Flies}
use Rattle.queue_law.specs.Law.{Queue, QueueLaw}
use Rattle.queue_law.specs.Writes.{Makes}
use Rattle.queue_law.specs.Owned.{Keeps}
use Rattle.queue_law.specs.Nodes.{MakeReady, make_next, made}
use Rattle.plain_protocol.specs.plain_state.References.{held_in}
use Rattle.plain_protocol.proofs.Below.plain_state_Kit.{held_same}
use Rattle.queue_law.proofs.Kit.{refs_second, referred, knows_times, knows_life, knows_payload}
use Rattle.queue_law.proofs.Effects.{makes}
use Rattle.queue_law.proofs.Chain.{chain_present}
use Rattle.queue_law.proofs.Notes.{unchanged, LeadsOn, leads_stay, sees_on, carries_on, carry_stay, IsNamed, known_set}
use Rattle.queue_law.proofs.Counts.{counted_same, laid_set, phase_same}
use Rattle.queue_law.proofs.Orders.{ordered_same}
use Rattle.queue_law.proofs.Seen.{flights_same, same_objects}

-- MAKE
module _ (u : Ends) (p q : Plain) (s : ℕ) (views : List View) (h : List Sent) (ts : List Taken) (t : ℕ)
    (lawful : Lawful p) (law : Queue u p views h ts t) (w : Makes p q s) where
  not_blank : (j : ℕ) → Live p j → j ≢ s
  not_blank j live e = let a = subst (Live p) e live in let b = w.blank in let c = sym b ∙ a in
      absurd (omega arith)

  same_slot : (j : ℕ) → Live p j → slot_at q j ≡ slot_at p j
  same_slot j live = w.other j (not_blank j live)

  keep : (e : Sent) → Present p e → Present q e
  keep e at = let same = same_slot e.node at.0 in (
    ap (λ (z : SlotPart). z.stage) same ∙ at.0,
    ap (λ (z : SlotPart). z.life) same
        ∙ at.1,
    ap (λ (z : SlotPart). z.payload) same ∙ at.2,
  )

  -- an old life isn't the new one
  old : (j l : ℕ) → l ≤ (slot_at p j).life → (slot_at q j).life ≡ l → j ≢ s
  old j l le is e = let a = ap (λ z. (slot_at q z).life) e in let b = ap (λ z. (slot_at p z).life) e in
      let c = w.life in absurd (omega arith)

  back : (i : ℕ) → i < length h → Present q (sent h i) → Present p (sent h i)
  back i low at = let e = sent h i in
      let same = w.other e.node (old e.node e.life (law.chain.known i low) at.1) in (
        ap (λ (z : SlotPart). z.stage) (sym same) ∙ at.0,
        ap (λ (z : SlotPart). z.life) (sym same)
            ∙ at.1,
        ap (λ (z : SlotPart). z.payload) (sym same) ∙ at.2,
      )

  grows : (j : ℕ) → (slot_at p j).life ≤ (slot_at q j).life
  grows j = ⊎_elim
      (λ e. let a = ap (λ z. (slot_at q z).life) e in let b = ap (λ z. (slot_at p z).life) e in
      let c = w.life in omega arith)
      (λ ne. let a = ap (λ (z : SlotPart). z.life) (w.other j ne) in omega arith) (cases_eq j s)

  lead : (i : ℕ) → Present p (sent h i) → Leads p h i → Leads q h i
  lead i at l = (
    ap (λ (z : SlotPart). z.first) (same_slot (sent h i).node at.0)
        ∙ l.0,
    keep (sent h (i + 1)) l.1,
  )

  -- a slot that isn't being filled
  keeps_solid : (x l : ℕ) → Solid p x l → Solid q x l
  keeps_solid x l so = let same = w.other x (λ e. so.1 (ap (λ z. (slot_at p z).stage) e ∙ w.blank)) in (
    ap (λ (z : SlotPart). z.life) same
        ∙ so.0,
    λ e. so.1 (ap (λ (z : SlotPart). z.stage) (sym same) ∙ e),
  )

  make_chain : Chain u q h (length ts) t
  make_chain =
      let c = law.chain in
      record {
        head = ⊎_elim
            (λ z. inl (w.cells u.head ∙ z))
            (λ a. inr (record {
              inside = a.inside;
              holds = w.cells u.head ∙ a.holds;
              is = keep (sent h (length ts)) a.is;
              items = λ i after low.
                  let x = a.items i after low in
                  let e = sent h i in
                  let at = chain_present u p h (length ts) t c a i (omega arith) low in
                  let node = same_slot e.node at.0 in
                  let item =
                  same_slot e.item.slot
                  (referred p lawful e.item.slot (refs_second p e.node e.item.slot x.0)).0 in (
                    ap (λ (z : SlotPart). z.second) node ∙ x.0,
                    ap (λ (z : SlotPart). z.life) item ∙ x.1,
                    ap (λ (z : SlotPart). z.payload) item ∙ x.2,
                  );
            }))
            c.head;
        tail = ⊎_elim
            (λ z. inl (w.cells u.tail ∙ z.0, w.cells u.head ∙ z.1))
            (λ b. inr (record {
              inside = b.inside;
              holds = w.cells u.tail ∙ b.holds;
              is = keep (sent h t) b.is;
            }))
            c.tail;
        lag = c.lag;
        links = λ i low at.
            let was = back i (omega arith) at in
            ⊎_elim
            (λ l. inl (lead i was l))
            (λ m. inr (record {
              double = m.double;
              last = m.last;
              ahead = m.ahead;
              null = ap (λ (z : SlotPart). z.first) (same_slot (sent h i).node was.0) ∙ m.null;
            }))
            (c.links i low was);
        ends = λ i low at.
            let was = back i (omega arith) at in
            ap (λ (z : SlotPart). z.first) (same_slot (sent h i).node was.0) ∙ c.ends i low was;
        backs = λ double i low at.
            let was = back (i + 1) low at in
            let b = c.backs double i low was in (
              ap (λ (z : SlotPart). z.back) (same_slot (sent h (i + 1)).node was.0)
                  ∙ b.0,
              keeps_solid _ _ b.1,
            );
        first_back = λ double low at.
            let was = back 0 low at in
            ap (λ (z : SlotPart). z.back) (same_slot (sent h 0).node was.0) ∙ c.first_back double low was;
        strays = λ j live node not. ⊎_elim
            (λ e. ap (λ z. (slot_at q z).first) e ∙ w.first)
            (λ ne.
            let same = w.other j ne in
            ap (λ (z : SlotPart). z.first) same
            ∙ c.strays j (ap (λ (z : SlotPart). z.stage) (sym same) ∙ live)
            (ap (λ (z : SlotPart). z.payload) (sym same) ∙ node)
            (λ l. not (subst (WasLinked h j) (ap (λ (z : SlotPart). z.life) (sym same)) l)))
            (cases_eq j s);
        apart = c.apart;
        known = λ i low. let x = c.known i low in let y = grows (sent h i).node in omega arith;
        nodes = λ i low live life.
            let e = sent h i in
            let same = w.other e.node (old e.node e.life (c.known i low) life) in
            ap (λ (z : SlotPart). z.payload) same
            ∙ c.nodes i low (ap (λ (z : SlotPart). z.stage) (sym same) ∙ live)
            (ap (λ (z : SlotPart). z.life) (sym same) ∙ life);
      }

  on : LeadsOn p q h h
  on i low l at = let was = back i (omega arith) at in lead i was (l was)

  pub make_queue : Queue u q views h ts t
  make_queue = let o = law.known in record {
    chain = make_chain;
    known = record {
      sees = λ m. sees_on p q h h (length ts) (length ts) t t (view_at views m).eyes (unchanged h)
          (omega arith) (omega arith) on (o.sees m);
      emptied = o.emptied;
      carries = λ m. let c = o.carries m in carries_on p q h h (view_at views m).load (record {
        unlinked = λ j e l. l;
        life = λ j e. grows j;
        payload = λ j e live life. ap (λ (z : SlotPart). z.payload)
            (w.other j (old j _ (c.known j e) life));
        was = λ j e live life. let same = w.other j (old j _ (c.known j e) life) in (
          ap (λ (z : SlotPart). z.stage) (sym same) ∙ live,
          ap (λ (z : SlotPart). z.life) (sym same) ∙ life,
          λ x ex at.
              let item = same_slot x (referred p lawful x (refs_second p j x at)).0 in (
                ap (λ (z : SlotPart). z.second) same ∙ at,
                ap (λ (z : SlotPart). z.life) item,
                ap
                    (λ (z : SlotPart). z.payload) item,
              ),
        );
        backed = λ j e live life. ap (λ (z : SlotPart). z.back) (w.other j (old j _ (c.known j e) life));
      }) c;
      flies = o.flies;
      apart = o.apart;
      number = o.number;
      attached = λ m e z. o.attached m e (sym (w.cells u.head) ∙ z);
    };
    flights = λ double i e at null. let was = back i (omega arith) at in
        law.flights double i e was (ap (λ (z : SlotPart). z.first) (sym (same_slot (sent h i).node was.0))
        ∙ null);
    counted = law.counted;
    ordered = law.ordered;
    phase = phase_same u p q h ts (view_at views 0) (view_at views 0) (w.cells u.head)
        (inr (w.cells u.tail)) refl law.phase;
  }

-- MAKE, the queue's own
pub make_deed : (u : Ends) → Keeps (QueueLaw u) MakeReady make_next
make_deed u p q views n v step found lawful law is stays_on ready d =
    let r = ready in
    let here = is in
    let h = law.0 in let ts = law.1 in let t = law.2 in
    let st : Does p n (act.Make (id r.node)) found q = subst (λ a. Does p n a found q) r.act_is d in
    let w = makes p q n (id r.node) found lawful st in
    let after = make_queue u p q r.node views h ts t lawful law.3 w in
    let o = after.known in
    let b = law.3.known in
    let filling : 0 < knows_times r.node (seat_at p n) = let z = ap (held_in (id r.node)) st.1.1 in
    let y = held_same (id r.node) (id r.node) refl in omega arith in
    let k_life : life_in (own_part p n) r.node ≡ (slot_at p r.node).life =
    knows_life p n r.node filling in
    let k_payload : payload_in (own_part p n) r.node ≡ (slot_at p r.node).payload =
    knows_payload p n r.node filling in
    let e1 : made step ≡ r.node = ap made r.act_is in
    let e2 : life_in (own_part p n) (made step) ≡ (slot_at p r.node).life = ap (life_in (own_part p n)) e1
    ∙ k_life in
    let new = make_next (own_part p n) (own_part q n) v step found in (
      h,
      ts,
      t,
      record {
        chain = after.chain;
        known = known_set u q q h h (length ts) (length ts) t t n views new o here.0 (unchanged h)
            (omega arith) (omega arith) (leads_stay q h) (λ m ne. carry_stay q h (view_at views m).load)
            (subst (λ (z : View). Sees q h (length ts) t z.eyes) here.1 (o.sees n))
            (subst (Emptied h (length ts)) here.1 (o.emptied n))
            (record {
              unlinked = λ s e l. let same : s ≡ r.node = omega arith in
                  let k = law.3.chain.known l.0 l.1 in let a = ap (λ z. (slot_at p z).life)
                  (l.2 ∙ same) in let y = l.3 in absurd (omega arith);
              known = λ s e. let same : s ≡ r.node = omega arith in
                  let a = ap (λ z. (slot_at q z).life) same in let y = w.life in omega arith;
              node = λ s e live life. let same : s ≡ r.node = omega arith in
                  ap (λ z. (slot_at q z).payload) same ∙ (w.payload ∙ (sym k_payload ∙ r.is_node));
              carried = λ s e live life x ex. absurd (omega arith);
              backed = λ s e live life. let same : s ≡ r.node = omega arith in
                  ap (λ z. (slot_at q z).back) same ∙ w.back;
            })
            (subst (λ (z : View). Flies h z.flight) here.1 (o.flies n))
            (λ m ne is_some same life. let e : (view_at views m).load.node ≡ r.node + 1 = omega arith in
            let k = (b.carries m).known r.node e in absurd (omega arith))
            (subst (IsNamed u n) here.1 (o.number n))
            (λ z. o.attached n (ap (λ (y : View). y.attached) here.1 ∙ z)) (λ z. z);
        flights = flights_same u q q h views n v new here.0 here.1 (same_objects q)
            (λ s. refl) refl refl after.flights;
        counted = counted_same h ts views n new after.counted here.0
            (ap (λ (y : View). y.popped) (sym here.1)) (ap (λ (y : View). y.pushed) (sym here.1));
        ordered = ordered_same h ts views n new after.ordered here.0
            (ap (λ (y : View). y.here) (sym here.1)) (ap (λ (y : View). y.popped) (sym here.1))
            (ap (λ (y : View). y.pushed) (sym here.1));
        phase = phase_same u q q h ts (view_at views 0) (view_at (set views n new) 0) refl (inr refl)
            (laid_set views n new here.0 (ap (λ (y : View). y.stand) (sym here.1))) after.phase;
      },
    )
