-- Writes of cells, of fields 1 and of weak fields keep the chain.
use Rattle.std.proofs.Common.{◌≡◌, ◌≢◌, ◌⊎◌, inl, inr, ⊎_elim, ℕ, ◌+◌, ◌<◌, List, length, sym, ◌∙◌, subst, arith}
use Rattle.std.proofs.lemmas.Bool.{cases_eq}
use Rattle.plain_protocol.specs.plain_state.State.{Plain}
use Rattle.queue_law.specs.Words.{slot_at, cell_at}
use Rattle.queue_law.specs.Views.{Linked}
use Rattle.queue_law.specs.Chain.{Ends, Sent, sent, Present, Leads, Missing, Lags, WasLinked, HeadAt, TailAt, Chain}
use Rattle.queue_law.specs.Writes.{SameObjects, SecondSet, BackSet, CellSet}
use Rattle.queue_law.proofs.Chain.{the_tail, head_some, leads_linked, same_present, was_present, same_solid, same_has, same_known, same_is_node, same_head, same_tail_at, same_tail, lag_linked}

-- a write that leaves the first fields, and the weak fields of linked nodes
module _ (u : Ends) (p q : Plain) (h : List Sent) (k t k' t' : ℕ) (c : Chain u p h k t)
    (o : SameObjects p q) (first : (s : ℕ) → (slot_at q s).first ≡ (slot_at p s).first)
    (back : (i : ℕ) → i < length h → Present p (sent h i)
    → (slot_at q (sent h i).node).back ≡ (slot_at p (sent h i).node).back) where
  was_at : (i : ℕ) → Present q (sent h i) → Present p (sent h i)
  was_at i at = was_present p q o (sent h i) at

  pub lead_same : (i : ℕ) → Leads p h i → Leads q h i
  lead_same i l = (first (sent h i).node ∙ l.0, same_present p q o (sent h (i + 1)) l.1)

  pub same_firsts : (cell_at q u.head ≡ 0) ⊎ HeadAt u q h k'
      → ((cell_at q u.tail ≡ 0) × (cell_at q u.head ≡ 0)) ⊎ TailAt u q h t'
      → (0 < length h → Lags u.form (length h) t')
      → ((i : ℕ) → i + 1 < length h → Present p (sent h i) → Leads p h i ⊎ Missing u p h k' i)
      → Chain u q h k' t'
  same_firsts head tail lag links = record {
    head = head;
    tail = tail;
    lag = lag;
    links = λ i low at. ⊎_elim
        (λ l. inl (lead_same i l))
        (λ m. inr (record {
          double = m.double;
          last = m.last;
          ahead = m.ahead;
          null = first (sent h i).node ∙ m.null;
        }))
        (links i low (was_at i at));
    ends = λ i low at. first (sent h i).node ∙ c.ends i low (was_at i at);
    backs = λ double i low at.
        let was = was_at (i + 1) at in
        let b = c.backs double i low was in
        (back (i + 1) low was ∙ b.0, same_solid p q o (sent h i).node (sent h i).life b.1);
    first_back = λ double low at.
        let was = was_at 0 at in back 0 low was ∙ c.first_back double low was;
    strays = λ s live node not. first s
        ∙ c.strays s (sym (o.stage s) ∙ live) (sym (o.payload s) ∙ node)
        (λ l. not (subst (WasLinked h s) (sym (o.life s)) l));
    apart = c.apart;
    known = λ i low. same_known p q o (sent h i) (c.known i low);
    nodes = λ i low. same_is_node p q o (sent h i) (c.nodes i low);
  }

-- HEAD: the head cell gets the node after the first, which is the new dummy
module _ (u : Ends) (p q : Plain) (h : List Sent) (k t : ℕ) (c : Chain u p h k t) (a : HeadAt u p h k)
    (more : k + 1 < length h) (leads : Leads p h k) (cells : u.head ≢ u.tail)
    (w : CellSet p q u.head ((sent h (k + 1)).node + 1)) where
  pub head_chain : Chain u q h (k + 1) t
  head_chain =
      let o = w.objects in
      same_firsts u p q h k t (k + 1) t c o w.first (λ i low at. w.back (sent h i).node)
      (inr (record {
        inside = more;
        holds = w.here;
        is = same_present p q o (sent h (k + 1)) leads.1;
        items = λ i after low. same_has p q o (sent h i).node (sent h i).item (w.second (sent h i).node)
            (a.items i (omega arith) low);
      }))
      (inr (same_tail_at p q o u h t (w.other u.tail (λ e. cells (sym e)))
      (the_tail u p h k t c (head_some u p h k a))))
      c.lag
      (λ i low at. ⊎_elim
      (λ l. inl l)
      (λ m. ⊎_elim
      (λ same. inl (subst (Leads p h) same leads))
      (λ ne. inr (record {
        double = m.double;
        last = m.last;
        ahead = (let x = m.ahead in let y : i ≢ k = λ z. ne (sym z) in omega arith);
        null = m.null;
      }))
      (cases_eq k i))
      (c.links i low at))

-- TAIL: the tail cell of a linked queue gets the node after the one that it holds
module _ (u : Ends) (p q : Plain) (h : List Sent) (k t : ℕ) (c : Chain u p h k t) (b : TailAt u p h t)
    (linked : u.form ≡ Linked) (more : t + 1 < length h) (cells : u.head ≢ u.tail)
    (w : CellSet p q u.tail ((sent h (t + 1)).node + 1)) where
  pub tail_chain : Chain u q h k (t + 1)
  tail_chain =
      let o = w.objects in
      same_firsts u p q h k t k (t + 1) c o w.first (λ i low at. w.back (sent h i).node)
      (same_head p q o u h k (w.other u.head cells) (λ a i after low. w.second (sent h i).node) c.head)
      (inr (record {
        inside = more;
        holds = w.here;
        is = same_present p q o (sent h (t + 1)) (leads_linked u p h k t c linked t more b.is).1;
      }))
      (λ low. lag_linked u.form (length h) (t + 1) linked
      (let x = subst (λ z. Lags z (length h) t) linked (c.lag low) in omega arith))
      c.links

-- SECOND: a field 1 changes that no waiting node has
module _ (u : Ends) (p q : Plain) (h : List Sent) (k t s new : ℕ) (c : Chain u p h k t)
    (w : SecondSet p q s new)
    (not_waiting : HeadAt u p h k → (i : ℕ) → k < i → i < length h → (sent h i).node ≢ s) where
  pub second_chain : Chain u q h k t
  second_chain =
      let o = w.objects in
      same_firsts u p q h k t k t c o w.first (λ i low at. w.back (sent h i).node)
      (same_head p q o u h k (w.cells u.head)
      (λ a i after low. w.other (sent h i).node (not_waiting a i after low)) c.head)
      (same_tail p q o u h t (w.cells u.tail) (w.cells u.head) c.tail)
      c.lag c.links

-- BACK: the weak field of a node changes that isn't linked
module _ (u : Ends) (p q : Plain) (h : List Sent) (k t s new : ℕ) (c : Chain u p h k t)
    (w : BackSet p q s new)
    (unlinked : (i : ℕ) → i < length h → Present p (sent h i) → (sent h i).node ≢ s) where
  pub back_chain : Chain u q h k t
  back_chain =
      let o = w.objects in
      same_firsts u p q h k t k t c o w.first
      (λ i low at. w.other (sent h i).node (unlinked i low at))
      (same_head p q o u h k (w.cells u.head) (λ a i after low. w.second (sent h i).node) c.head)
      (same_tail p q o u h t (w.cells u.tail) (w.cells u.head) c.tail)
      c.lag c.links
