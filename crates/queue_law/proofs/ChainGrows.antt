-- A node is linked: by the exchange of the tail cell, or by field 0 of the last node.
use Rattle.std.proofs.Common.{◌≡◌, ◌≢◌, ◌⊎◌, inl, inr, ⊎_elim, ℕ, ◌+◌, ◌<◌, ◌≤◌, List, [], ◌∷◌, ◌++◌, length, refl, ap, sym, ◌∙◌, subst, arith}
use Rattle.std.proofs.lemmas.Bool.{cases_lt}
use Rattle.plain_protocol.specs.plain_state.State.{Plain}
use Rattle.queue_law.specs.Words.{slot_at, cell_at}
use Rattle.queue_law.specs.Views.{Linked, Double}
use Rattle.queue_law.specs.Chain.{Ends, Sent, sent, Present, Leads, Solid, BacksTo, HasItem, IsKnown, IsNode, WasLinked, HeadAt, Chain}
use Rattle.queue_law.specs.Writes.{SameObjects, FirstSet, CellSet}
use Rattle.queue_law.proofs.Chain.{lag_is, lag_double, lag_linked, leads_linked, is_last, same_node, old_node, new_node, longer, linked_more, same_present, was_present, same_solid, same_has, same_known, same_is_node, same_tail_at}

-- a write that changes no object and no field 1, with a node e that the history gains
module _ (u : Ends) (p q : Plain) (h : List Sent) (k t : ℕ) (e : Sent) (c : Chain u p h k t)
    (o : SameObjects p q) (second : (s : ℕ) → (slot_at q s).second ≡ (slot_at p s).second)
    (new : Present p e) (unlinked : ¬ (WasLinked h e.node e.life)) (item : HasItem p e) where
  abbrev grown : List Sent
  grown = h ++ e ∷ []

  pub keep : (j : ℕ) → j < length h → Present p (sent h j) → Present q (sent grown j)
  keep j jl at = subst (Present q) (sym (old_node h e j jl)) (same_present p q o (sent h j) at)

  pub was : (j : ℕ) → j < length h → Present q (sent grown j) → Present p (sent h j)
  was j jl at = was_present p q o (sent h j) (subst (Present q) (old_node h e j jl) at)

  pub new_at : (j : ℕ) → length h ≡ j → Present q (sent grown j)
  new_at j jl = subst (Present q) (sym (new_node h e j jl)) (same_present p q o e new)

  -- the new node led nowhere
  pub stray : (slot_at p e.node).first ≡ 0
  stray = c.strays e.node new.0 new.2 (λ l. unlinked (subst (WasLinked h e.node) new.1 l))

  -- it is none of the present ones
  pub another : (j : ℕ) → j < length h → Present p (sent h j) → (sent h j).node ≢ e.node
  another j jl at is =
      unlinked (j, jl, is, sym at.1 ∙ (ap (λ z. (slot_at p z).life) is ∙ new.1))

  -- a lead whose field stays
  pub lead_old : (j : ℕ) → j + 1 < length h
      → (slot_at q (sent h j).node).first ≡ (slot_at p (sent h j).node).first → Leads p h j
      → Leads q grown j
  lead_old j jl same l =
      let a = old_node h e j (omega arith) in
      let b = old_node h e (j + 1) jl in (
        ap (λ (z : Sent). (slot_at q z.node).first) a
            ∙ (same ∙ (l.0 ∙ ap (λ (z : Sent). z.node + 1) (sym b))),
        keep (j + 1) jl l.1,
      )

  pub head_grown : cell_at q u.head ≡ cell_at p u.head → (cell_at p u.head ≡ 0) ⊎ HeadAt u p h k
      → (cell_at q u.head ≡ 0) ⊎ HeadAt u q grown k
  head_grown cell =
      ⊎_elim
      (λ z. inl (cell ∙ z))
      (λ a. let n = longer h e in let kl = a.inside in inr (record {
        inside = omega arith;
        holds = cell ∙ (a.holds ∙ ap (λ (z : Sent). z.node + 1) (sym (old_node h e k kl)));
        is = keep k kl a.is;
        items = λ j after more. ⊎_elim
            (λ inner. subst (HasItem q) (sym (old_node h e j inner))
            (same_has p q o (sent h j).node (sent h j).item (second (sent h j).node)
            (a.items j after inner)))
            (λ past. subst (HasItem q) (sym (new_node h e j (omega arith)))
            (same_has p q o e.node e.item (second e.node) item))
            (cases_lt j (length h));
      }))

  pub apart_grown : (a b : ℕ) → a < length grown → b < length grown
      → (sent grown a).node ≡ (sent grown b).node → (sent grown a).life ≡ (sent grown b).life → a ≡ b
  apart_grown a b la lb sn sl =
      let n = longer h e in
      ⊎_elim
      (λ ia. ⊎_elim
      (λ ib. let oa = old_node h e a ia in let ob = old_node h e b ib in
      c.apart a b ia ib
      (ap (λ (z : Sent). z.node) (sym oa) ∙ (sn ∙ ap (λ (z : Sent). z.node) ob))
      (ap (λ (z : Sent). z.life) (sym oa) ∙ (sl ∙ ap (λ (z : Sent). z.life) ob)))
      (λ pb. let oa = old_node h e a ia in let ob = new_node h e b (omega arith) in
      absurd (unlinked (
        a,
        ia,
        ap (λ (z : Sent). z.node) (sym oa) ∙ (sn ∙ ap (λ (z : Sent). z.node) ob),
        ap (λ (z : Sent). z.life) (sym oa) ∙ (sl ∙ ap (λ (z : Sent). z.life) ob),
      )))
      (cases_lt b (length h)))
      (λ pa. ⊎_elim
      (λ ib. let oa = new_node h e a (omega arith) in let ob = old_node h e b ib in
      absurd (unlinked (
        b,
        ib,
        ap (λ (z : Sent). z.node) (sym ob) ∙ (sym sn ∙ ap (λ (z : Sent). z.node) oa),
        ap (λ (z : Sent). z.life) (sym ob) ∙ (sym sl ∙ ap (λ (z : Sent). z.life) oa),
      )))
      (λ pb. omega arith)
      (cases_lt b (length h)))
      (cases_lt a (length h))

  pub known_grown : (j : ℕ) → j < length grown → IsKnown q (sent grown j)
  known_grown j more =
      let n = longer h e in
      ⊎_elim
      (λ inner. subst (IsKnown q) (sym (old_node h e j inner))
      (same_known p q o (sent h j) (c.known j inner)))
      (λ past. let y = o.life e.node in let x = new.1 in
      subst (IsKnown q) (sym (new_node h e j (omega arith))) (omega arith))
      (cases_lt j (length h))

  pub nodes_grown : (j : ℕ) → j < length grown → IsNode q (sent grown j)
  nodes_grown j more =
      let n = longer h e in
      ⊎_elim
      (λ inner. subst (IsNode q) (sym (old_node h e j inner))
      (same_is_node p q o (sent h j) (c.nodes j inner)))
      (λ past. subst (IsNode q) (sym (new_node h e j (omega arith)))
      (λ live life. o.payload e.node ∙ new.2))
      (cases_lt j (length h))

-- EXCHANGE: the tail cell gets a node whose weak field leads back to the last one, where the last link isn't missing
module _ (u : Ends) (cells : u.head ≢ u.tail) (p q : Plain) (h : List Sent) (k t : ℕ) (e : Sent)
    (c : Chain u p h k t) (double : u.form ≡ Double) (at_last : t + 1 ≡ length h)
    (done : (i : ℕ) → i + 1 ≡ t → Present p (sent h i) → Leads p h i) (new : Present p e)
    (unlinked : ¬ (WasLinked h e.node e.life)) (item : HasItem p e)
    (backs : (slot_at p e.node).back ≡ (sent h t).node + 1)
    (solid : Solid p (sent h t).node (sent h t).life) (w : CellSet p q u.tail (e.node + 1)) where
  now_keep : (j : ℕ) → j < length h → Present q (sent (h ++ e ∷ []) j) → Present p (sent h j)
  now_keep = was u p q h k t e c w.objects w.second new unlinked item

  -- every node that is there leads on, but for the last
  all_lead : (j : ℕ) → j + 1 < length h → Present p (sent h j) → Leads p h j
  all_lead j jl at =
      ⊎_elim (λ l. l) (λ m. let x = m.last in done j (omega arith) at) (c.links j jl at)

  lead : (j : ℕ) → j + 1 < length h → Leads p h j → Leads q (h ++ e ∷ []) j
  lead j jl l = lead_old u p q h k t e c w.objects w.second new unlinked item j jl (w.first _) l

  pub lead_exchange : (j : ℕ) → j + 1 < length h → (Present p (sent h j) → Leads p h j)
      → Present q (sent (h ++ e ∷ []) j) → Leads q (h ++ e ∷ []) j
  lead_exchange j jl l at = lead j jl (l (now_keep j (omega arith) at))

  backs_now : (j : ℕ) → j + 1 < length (h ++ e ∷ []) → Present q (sent (h ++ e ∷ []) (j + 1))
      → BacksTo q (h ++ e ∷ []) j
  backs_now j more at =
      let n = longer h e in
      let a = old_node h e j (omega arith) in
      ⊎_elim
      (λ inner.
      let b = old_node h e (j + 1) inner in
      let x = c.backs double j inner (now_keep (j + 1) inner at) in (
        ap (λ (z : Sent). (slot_at q z.node).back) b
            ∙ (w.back (sent h (j + 1)).node ∙ (x.0 ∙ ap (λ (z : Sent). z.node + 1) (sym a))),
        subst (λ (z : Sent). Solid q z.node z.life) (sym a) (same_solid p q w.objects _ _ x.1),
      ))
      (λ past.
      let b = new_node h e (j + 1) (omega arith) in
      let is : t ≡ j = omega arith in (
        ap (λ (z : Sent). (slot_at q z.node).back) b
            ∙ (w.back e.node
            ∙ (backs ∙ (ap (λ z. (sent h z).node + 1) is ∙ ap (λ (z : Sent). z.node + 1) (sym a)))),
        subst (λ (z : Sent). Solid q z.node z.life) (sym a)
            (subst (λ z. Solid q (sent h z).node (sent h z).life) is
            (same_solid p q w.objects _ _ solid)),
      ))
      (cases_lt (j + 1) (length h))

  pub exchange_chain : k < length h → Chain u q (h ++ e ∷ []) k (length h)
  exchange_chain kl =
      let n = longer h e in
      let o = w.objects in
      let low : 0 < length h = omega arith in
      record {
        head = head_grown u p q h k t e c o w.second new unlinked item (w.other u.head cells) c.head;
        tail = inr (record {
          inside = omega arith;
          holds = w.here ∙ ap (λ (z : Sent). z.node + 1) (sym (new_node h e (length h) refl));
          is = new_at u p q h k t e c o w.second new unlinked item (length h) refl;
        });
        lag = λ z. lag_double u.form (length (h ++ e ∷ [])) (length h) double n;
        links = λ j more at. ⊎_elim
            (λ inner. inl (lead j inner (all_lead j inner (now_keep j (omega arith) at))))
            (λ past. inr (record {
              double = double;
              last = omega arith;
              ahead = omega arith;
              null =
                  let a = old_node h e j (omega arith) in
                  ap (λ (z : Sent). (slot_at q z.node).first) a
                  ∙ (w.first (sent h j).node ∙ c.ends j (omega arith) (now_keep j (omega arith) at));
            }))
            (cases_lt (j + 1) (length h));
        ends = λ j is at.
            let a = new_node h e j (omega arith) in
            ap (λ (z : Sent). (slot_at q z.node).first) a
            ∙ (w.first e.node ∙ stray u p q h k t e c o w.second new unlinked item);
        backs = λ d. backs_now;
        first_back = λ d z at.
            let a = old_node h e 0 low in
            ap (λ (z : Sent). (slot_at q z.node).back) a
            ∙ (w.back (sent h 0).node ∙ c.first_back double low (now_keep 0 low at));
        strays = λ s live node not.
            w.first s ∙ c.strays s (sym (o.stage s) ∙ live) (sym (o.payload s) ∙ node)
            (λ l. not (linked_more h e s _ (subst (WasLinked h s) (sym (o.life s)) l)));
        apart = apart_grown u p q h k t e c o w.second new unlinked item;
        known = known_grown u p q h k t e c o w.second new unlinked item;
        nodes = nodes_grown u p q h k t e c o w.second new unlinked item;
      }

-- LINK: field 0 of the last node gets a node, in a linked queue whose tail cell holds that node
module _ (u : Ends) (p q : Plain) (h : List Sent) (k t i : ℕ) (e : Sent) (c : Chain u p h k t)
    (linked : u.form ≡ Linked) (low : i < length h) (here : Present p (sent h i))
    (null : (slot_at p (sent h i).node).first ≡ 0) (near : i ≤ t) (new : Present p e)
    (unlinked : ¬ (WasLinked h e.node e.life)) (item : HasItem p e)
    (w : FirstSet p q (sent h i).node (e.node + 1)) where
  pub link_last : i + 1 ≡ length h
  link_last = is_last u p h k t c linked i low here null

  link_was : (j : ℕ) → j < length h → Present q (sent (h ++ e ∷ []) j) → Present p (sent h j)
  link_was = was u p q h k t e c w.objects w.second new unlinked item

  other : (j : ℕ) → j + 1 < length h → Present p (sent h j) → (sent h j).node ≢ (sent h i).node
  other j jl at is =
      let x = same_node u p h k t c j i (omega arith) low at here is in
      let y = link_last in absurd (omega arith)

  pub lead_link : (j : ℕ) → j + 1 < length h → (Present p (sent h j) → Leads p h j)
      → Present q (sent (h ++ e ∷ []) j) → Leads q (h ++ e ∷ []) j
  lead_link j jl l at =
      let was_j = link_was j (omega arith) at in
      lead_old u p q h k t e c w.objects w.second new unlinked item j jl
      (w.other (sent h j).node (other j jl was_j)) (l was_j)

  -- the last node leads to the new one
  pub lead_new : (j : ℕ) → j + 1 ≡ length h → Leads q (h ++ e ∷ []) j
  lead_new j is =
      let y = link_last in
      let same : j ≡ i = omega arith in
      let a = old_node h e j (omega arith) in
      let b = new_node h e (j + 1) (sym is) in (
        ap (λ (z : Sent). (slot_at q z.node).first) a
            ∙ (ap (λ z. (slot_at q (sent h z).node).first) same
            ∙ (w.here ∙ ap (λ (z : Sent). z.node + 1) (sym b))),
        new_at u p q h k t e c w.objects w.second new unlinked item (j + 1) (sym is),
      )

  pub link_chain : Chain u q (h ++ e ∷ []) k t
  link_chain =
      let n = longer h e in
      let o = w.objects in
      let y = link_last in
      record {
        head = head_grown u p q h k t e c o w.second new unlinked item (w.cells u.head) c.head;
        tail = ⊎_elim
            (λ z. inl (w.cells u.tail ∙ z.0, w.cells u.head ∙ z.1))
            (λ b. let tl = b.inside in inr (record {
              inside = omega arith;
              holds = w.cells u.tail ∙ (b.holds ∙ ap (λ (z : Sent). z.node + 1)
                  (sym (old_node h e t tl)));
              is = keep u p q h k t e c o w.second new unlinked item t tl b.is;
            }))
            c.tail;
        lag = λ z. lag_linked u.form (length (h ++ e ∷ [])) t linked (omega arith);
        links = λ j more at. inl (⊎_elim
            (λ inner. lead_link j inner (leads_linked u p h k t c linked j inner) at)
            (λ past. lead_new j (omega arith))
            (cases_lt (j + 1) (length h)));
        ends = λ j is at.
            let a = new_node h e j (omega arith) in
            ap (λ (z : Sent). (slot_at q z.node).first) a
            ∙ (w.other e.node
            (λ z. another u p q h k t e c o w.second new unlinked item i low here (sym z))
            ∙ stray u p q h k t e c o w.second new unlinked item);
        backs = λ d. absurd (Rattle.queue_law.proofs.Chain.one_form u.form linked d);
        first_back = λ d. absurd (Rattle.queue_law.proofs.Chain.one_form u.form linked d);
        strays = λ s live node not.
            let before : ¬ (WasLinked h s (slot_at p s).life) =
            λ l. not (linked_more h e s _ (subst (WasLinked h s) (sym (o.life s)) l)) in
            w.other s
            (λ is. before (i, low, sym is, sym here.1 ∙ ap (λ z. (slot_at p z).life) (sym is)))
            ∙ c.strays s (sym (o.stage s) ∙ live) (sym (o.payload s) ∙ node) before;
        apart = apart_grown u p q h k t e c o w.second new unlinked item;
        known = known_grown u p q h k t e c o w.second new unlinked item;
        nodes = nodes_grown u p q h k t e c o w.second new unlinked item;
      }
