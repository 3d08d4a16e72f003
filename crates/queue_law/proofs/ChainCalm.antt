-- Calm steps keep the chain, and so does the setting of the missing link.
use Rattle.std.proofs.Common.{◌≡◌, ◌≢◌, ◌⊎◌, inl, inr, ⊎_elim, ℕ, ◌+◌, ◌-◌, ◌<◌, List, length, ap, sym, ◌∙◌, subst, arith}
use Rattle.std.proofs.lemmas.Bool.{cases_eq}
use Rattle.plain_protocol.specs.plain_state.State.{Plain}
use Rattle.queue_law.specs.Words.{slot_at, strong_refs}
use Rattle.queue_law.specs.Chain.{Ends, Sent, sent, Present, Leads, Solid, Missing, WasLinked, HeadAt, TailAt, Chain}
use Rattle.queue_law.specs.Writes.{FirstSet, Quiet}
use Rattle.queue_law.proofs.Kit.{refs_cell, refs_first, refs_second, refs_back}
use Rattle.queue_law.proofs.Chain.{present_on, the_tail, head_some, tail_last, missing_null, same_node, same_present, was_present, same_solid, same_known, same_is_node, same_head, same_tail}

-- CALM: what is referred to stays
module _ (u : Ends) (p q : Plain) (h : List Sent) (k t : ℕ) (c : Chain u p h k t) (w : Quiet p q) where
  -- a present node that is referred to stays present
  stays : (e : Sent) → Present p e → 0 < strong_refs p e.node → Present q e
  stays e at refs = (w.stays e.node refs, w.life e.node ∙ at.1, w.payload e.node at.0 ∙ at.2)

  pub quiet_back : (e : Sent) → Present q e → Present p e
  quiet_back e at =
      let live = w.was e.node at.0 in
      (live, sym (w.life e.node) ∙ at.1, sym (w.payload e.node live) ∙ at.2)

  pub quiet_leads : (i : ℕ) → Present q (sent h i) → Leads p h i → Leads q h i
  quiet_leads i at l = (w.first _ at.0 ∙ l.0, stays (sent h (i + 1)) l.1 (refs_first p _ _ l.0))

  quiet_link : (i : ℕ) → Present q (sent h i) → Leads p h i ⊎ Missing u p h k i
      → Leads q h i ⊎ Missing u q h k i
  quiet_link i at =
      ⊎_elim
      (λ l. inl (quiet_leads i at l))
      (λ m. inr (record {
        double = m.double;
        last = m.last;
        ahead = m.ahead;
        null = w.first _ at.0 ∙ m.null;
      }))

  tail_now : TailAt u p h t → TailAt u q h t
  tail_now b = record {
    inside = b.inside;
    holds = w.cells u.tail ∙ b.holds;
    is = stays (sent h t) b.is (refs_cell p u.tail _ b.holds);
  }

  -- from one node to the next: by its field, or by the tail cell
  next : TailAt u p h t → (i : ℕ) → i + 1 < length h → Present q (sent h i)
      → Present q (sent h (i + 1))
  next b i low at =
      ⊎_elim
      (λ l. (quiet_leads i at l).1)
      (λ m.
      let e = tail_last u p h k t c m.double (omega arith) in
      let l = m.last in
      subst (λ z. Present q (sent h z)) (omega arith) (tail_now b).is)
      (c.links i low (quiet_back (sent h i) at))

  calm_head : HeadAt u p h k → HeadAt u q h k
  calm_head a =
      let b = the_tail u p h k t c (head_some u p h k a) in
      let at : Present q (sent h k) = stays (sent h k) a.is (refs_cell p u.head _ a.holds) in
      record {
        inside = a.inside;
        holds = w.cells u.head ∙ a.holds;
        is = at;
        items = λ i after low.
            let x = a.items i after low in
            let here = subst (λ (z : ℕ). Present q (sent h z)) (omega arith)
            (present_on q h k at (λ j kj. next b j) (i - k) (omega arith)) in
            let live = w.was _ (w.stays _ (refs_second p _ _ x.0)) in
            (w.second _ here.0 ∙ x.0, w.life _ ∙ x.1, w.payload _ live ∙ x.2);
      }

  pub quiet_solid : (s x l : ℕ) → (slot_at p s).back ≡ x + 1 → Solid p x l → Solid q x l
  quiet_solid s x l e so = (w.life x ∙ so.0, w.solid x (refs_back p s x e) so.1)

  pub calm_chain : Chain u q h k t
  calm_chain = record {
    head = ⊎_elim (λ z. inl (w.cells u.head ∙ z)) (λ a. inr (calm_head a)) c.head;
    tail = ⊎_elim (λ z. inl (w.cells u.tail ∙ z.0, w.cells u.head ∙ z.1)) (λ b. inr (tail_now b)) c.tail;
    lag = c.lag;
    links = λ i low at. quiet_link i at (c.links i low (quiet_back (sent h i) at));
    ends = λ i low at. w.first _ at.0 ∙ c.ends i low (quiet_back (sent h i) at);
    backs = λ double i low at.
        let b = c.backs double i low (quiet_back (sent h (i + 1)) at) in
        (w.back _ at.0 ∙ b.0, quiet_solid (sent h (i + 1)).node (sent h i).node (sent h i).life b.0 b.1);
    first_back = λ double low at.
        w.back _ at.0 ∙ c.first_back double low (quiet_back (sent h 0) at);
    strays = λ s live node not.
        let was = w.was s live in
        w.first s live ∙ c.strays s was (sym (w.payload s was) ∙ node)
        (λ l. not (subst (WasLinked h s) (sym (w.life s)) l));
    apart = c.apart;
    known = λ i low. let x = c.known i low in let y = w.life (sent h i).node in omega arith;
    nodes = λ i low live life.
        let z = sent h i in
        let was = w.was z.node live in
        w.payload z.node was ∙ c.nodes i low was (sym (w.life z.node) ∙ life);
  }

-- THE MISSING LINK is set: where field 0 of a present node before the last is null, it gets the next node
module _ (u : Ends) (p q : Plain) (h : List Sent) (k t i : ℕ) (c : Chain u p h k t)
    (low : i + 1 < length h) (here : Present p (sent h i)) (null : (slot_at p (sent h i).node).first ≡ 0)
    (next_is : Present p (sent h (i + 1)))
    (w : FirstSet p q (sent h i).node ((sent h (i + 1)).node + 1)) where
  missing : Missing u p h k i
  missing = missing_null u p h k t c i low here null

  pub at_end : i + 2 ≡ length h
  at_end = missing.last

  -- the other present nodes are other slots
  other : (j : ℕ) → j < length h → j ≢ i → Present p (sent h j) → (sent h j).node ≢ (sent h i).node
  other j jl ne at e = ne (same_node u p h k t c j i jl (omega arith) at here e)

  was : (e : Sent) → Present q e → Present p e
  was e at = was_present p q w.objects e at

  pub leads_here : Leads q h i
  leads_here = (w.here, same_present p q w.objects (sent h (i + 1)) next_is)

  lead : (j : ℕ) → j + 1 < length h → Present q (sent h j) → (j ≢ i → Leads p h j) → Leads q h j
  lead j jl at l =
      ⊎_elim
      (λ e. subst (Leads q h) (sym e) leads_here)
      (λ ne.
      let pr = was (sent h j) at in
      let y = l ne in (
        w.other (sent h j).node (other j (omega arith) ne pr) ∙ y.0,
        same_present p q w.objects (sent h (j + 1)) y.1,
      ))
      (cases_eq j i)

  pub lead_set : (j : ℕ) → j + 1 < length h → (Present p (sent h j) → Leads p h j)
      → Present q (sent h j) → Leads q h j
  lead_set j jl l at = lead j jl at (λ ne. l (was (sent h j) at))

  pub set_chain : Chain u q h k t
  set_chain =
      let o = w.objects in
      record {
        head = same_head p q o u h k (w.cells u.head) (λ a j after jl. w.second (sent h j).node) c.head;
        tail = same_tail p q o u h t (w.cells u.tail) (w.cells u.head) c.tail;
        lag = c.lag;
        links = λ j jl at. inl (lead j jl at
            (λ ne. ⊎_elim
            (λ l. l)
            (λ m. let x = m.last in let y = at_end in absurd (ne (omega arith)))
            (c.links j jl (was (sent h j) at))));
        ends = λ j jl at.
            let pr = was (sent h j) at in
            w.other (sent h j).node (other j (omega arith) (λ e. omega arith) pr) ∙ c.ends j jl pr;
        backs = λ double j jl at.
            let b = c.backs double j jl (was (sent h (j + 1)) at) in
            (w.back _ ∙ b.0, same_solid p q o _ _ b.1);
        first_back = λ double lz at. w.back _ ∙ c.first_back double lz (was (sent h 0) at);
        strays = λ s live node not.
            w.other s
            (λ is. not (
              i,
              omega arith,
              sym is,
              sym here.1 ∙ (ap (λ z. (slot_at p z).life) (sym is) ∙ sym (o.life s)),
            ))
            ∙ c.strays s (sym (o.stage s) ∙ live) (sym (o.payload s) ∙ node)
            (λ l. not (subst (WasLinked h s) (sym (o.life s)) l));
        apart = c.apart;
        known = λ j jl. same_known p q o (sent h j) (c.known j jl);
        nodes = λ j jl. same_is_node p q o (sent h j) (c.nodes j jl);
      }
