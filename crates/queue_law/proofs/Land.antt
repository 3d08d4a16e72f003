-- The writes of a missing link: the end of a push, and the help.
use Rattle.std.proofs.Common.{◌≡◌, inr, ⊎_elim, ℕ, ◌+◌, ◌<◌, true, List, length, set, refl, ap, sym, ◌∙◌, subst, arith}
use Rattle.plain_protocol.specs.plain_state.State.{Plain}
use Rattle.plain_protocol.specs.plain_state.Steps.{Does}
use Rattle.queue_law.specs.Words.{slot_at, Live}
use Rattle.queue_law.specs.Views.{Taken, View, Eyes, Flight, no_flight, view_at}
use Rattle.queue_law.specs.Chain.{Ends, Sent, sent, Present, Leads}
use Rattle.queue_law.specs.Notes.{Sees, SeesAt, Emptied, Carries, Flies, HasFlight}
use Rattle.queue_law.specs.Law.{Queue, QueueLaw}
use Rattle.queue_law.specs.Writes.{FirstSet}
use Rattle.queue_law.specs.Owned.{Keeps}
use Rattle.queue_law.specs.Pushes.{LandReady, land_next, HelpReady, helped_view, help_next}
use Rattle.queue_law.proofs.Kit.{held_live, own_life}
use Rattle.queue_law.proofs.Effects.{tried_first}
use Rattle.queue_law.proofs.ChainCalm.{at_end, leads_here, lead_set, set_chain}
use Rattle.queue_law.proofs.Notes.{unchanged, LeadsOn, leads_stay, sees_at_on, sees_on, carries_on, carry_stay, carry_same}
use Rattle.queue_law.proofs.Counts.{flights_set}
use Rattle.queue_law.proofs.Seen.{rewrite_keeps, reseen, sees_it, before_here, before_present}

-- node i's field 0, null until now, gets the next node; the seat's view may change in what it sees and in its flights
module _ (u : Ends) (p q : Plain) (views : List View) (n : ℕ) (v : View) (h : List Sent) (ts : List Taken)
    (t : ℕ) (law : Queue u p views h ts t) (low : n < length views) (at : view_at views n ≡ v)
    (i : ℕ) (inside : i + 1 < length h) (here : Present p (sent h i))
    (null : (slot_at p (sent h i).node).first ≡ 0) (next_is : Present p (sent h (i + 1)))
    (w : FirstSet p q (sent h i).node ((sent h (i + 1)).node + 1)) where
  pub on : LeadsOn p q h h
  on = lead_set u p q h (length ts) t i law.chain inside here null next_is w

  pub led : Leads q h i
  led = leads_here u p q h (length ts) t i law.chain inside here null next_is w

  pub set_link : (eyes : Eyes) (flight : Flight) → Sees q h (length ts) t eyes → Flies h flight
      → Queue u q (set views n (record v { eyes = eyes; flight = flight })) h ts t
  set_link eyes flight sees flies =
      let o = law.known in
      let new : View = record v { eyes = eyes; flight = flight } in
      rewrite_keeps u p q views n v h ts t t law (omega arith) low at
      (set_chain u p q h (length ts) t i law.chain inside here null next_is w) (w.cells u.head)
      (inr (w.cells u.tail)) on
      (λ m ne. carry_same p q h h (view_at views m).load w.objects (λ s e l. l) (λ s e z. w.second s)
      (λ s e z. w.back s)) new sees
      (subst (Emptied h (length ts)) at (o.emptied n))
      (carries_on p q h h v.load (carry_same p q h h v.load w.objects (λ s e l. l) (λ s e z. w.second s)
      (λ s e z. w.back s)) (subst (λ (z : View). Carries p h z.load) at (o.carries n)))
      flies
      (λ d j is pr none. let end = at_end u p q h (length ts) t i law.chain inside here null next_is w in
      let same : i ≡ j = omega arith in
      let x = subst (λ z. (slot_at q (sent h z).node).first ≡
      (sent h (z + 1)).node + 1) same w.here in absurd (omega arith))
      refl refl refl refl refl refl
      (λ a z. o.attached n (ap (λ (y : View). y.attached) at ∙ a)
      (sym (w.cells u.head) ∙ z)) refl refl

  -- what the seat sees is as it was
  pub eyes_on : Sees q h (length ts) t v.eyes
  eyes_on = sees_on p q h h (length ts) (length ts) t t v.eyes (unchanged h) (omega arith)
      (omega arith) on (subst (λ (z : View). Sees p h (length ts) t z.eyes) at (law.known.sees n))

-- LAND
pub land_deed : (u : Ends) → Keeps (QueueLaw u) LandReady land_next
land_deed u p q views n v step found lawful law is stays_on ready d =
    let r = ready in
    let here = is in
    let h = law.0 in let ts = law.1 in let t = law.2 in let o = law.3.known in let c = law.3.chain in
    let st = tried_first p q n r.prev r.node found lawful (subst (λ a. Does p n a found q) r.act_is d) in
    let f = subst (λ (z : View). Flies h z.flight) here.1 (o.flies n)
    (λ z. let e = r.at_node in omega arith) in
    let i = f.0 in let a = f.1 in
    let at_prev : (sent h i).node ≡ r.prev = let z = a.prev in let y = r.at_prev in omega arith in
    let at_node : (sent h (i + 1)).node ≡ r.node = let z = a.node in let y = r.at_node in omega arith in
    ⊎_elim
    (λ hit.
    let open_at = st.1 in
    let owned = hit.1 in
    let live = held_live p n r.prev lawful open_at in
    let lv : Live p (sent h i).node = subst (Live p) (sym at_prev) live in
    let lf = ap (λ z. (slot_at p z).life) at_prev
    ∙ (sym (own_life p n r.prev open_at) ∙ (r.prev_life ∙ sym a.prev_life)) in
    let pr : Present p (sent h i) = (lv, lf, c.nodes i (let z = a.inside in omega arith) lv lf) in
    let lv' : Live p (sent h (i + 1)).node = subst (Live p) (sym at_node)
    (held_live p n r.node lawful (omega arith)) in
    let lf' = ap (λ z. (slot_at p z).life) at_node
    ∙ (sym (own_life p n r.node (omega arith)) ∙ (r.node_life ∙ sym a.life)) in
    let pr' : Present p (sent h (i + 1)) = (lv', lf', c.nodes (i + 1) a.inside lv' lf') in
    let null : (slot_at p (sent h i).node).first ≡ 0 = ap (λ z. (slot_at p z).first) at_prev
    ∙ (sym st.0 ∙ hit.0) in
    let w0 : FirstSet p q r.prev (r.node + 1) = hit.2 in
    let w1 : FirstSet p q (sent h i).node (r.node + 1) = subst (λ z. FirstSet p q z (r.node + 1))
    (sym at_prev) w0 in
    let w : FirstSet p q (sent h i).node ((sent h (i + 1)).node + 1) =
    subst (λ z. FirstSet p q (sent h i).node (z + 1)) (sym at_node) w1 in (
      h,
      ts,
      t,
      set_link u p q views n v h ts t law.3 here.0 here.1 i a.inside pr null pr' w v.eyes no_flight
          (eyes_on u p q views n v h ts t law.3 here.0 here.1 i a.inside pr null pr' w)
          (λ z. absurd (z refl)),
    ))
    (λ miss. subst (λ z. QueueLaw u z (set views n (record v { flight = no_flight }))) (sym miss.1) (
      h,
      ts,
      t,
      rewrite_keeps u p p views n v h ts t t law.3 (omega arith) here.0 here.1 c refl (inr refl)
          (leads_stay p h) (λ m ne. carry_stay p h (view_at views m).load)
          (record v { flight = no_flight })
          (subst (λ (z : View). Sees p h (length ts) t z.eyes) here.1 (o.sees n))
          (subst (Emptied h (length ts)) here.1 (o.emptied n))
          (subst (λ (z : View). Carries p h z.load) here.1 (o.carries n)) (λ z. absurd (z refl))
          (flights_set u p p h views n (record v { flight = no_flight }) here.0
          (λ j e pr null. (pr, null))
          (λ j e pr null g. ⊎_elim
          (λ own.
          let same = c.apart (i + 1) (j + 1) a.inside (omega arith) (let x = a.node in let y = own.0 in
          omega arith) (a.life ∙ sym own.1) in
          let ji : j ≡ i = omega arith in
          absurd (miss.0 (st.0 ∙ (ap (λ z. (slot_at p z).first) (sym at_prev)
          ∙ (ap (λ z. (slot_at p (sent h z).node).first) (sym ji) ∙ null)))))
          (λ left. inr left)
          (subst (HasFlight (sent h (j + 1))) here.1 g))
          law.3.flights)
          refl refl refl refl refl refl
          (λ b. o.attached n (ap (λ (y : View). y.attached) here.1 ∙ b)) refl refl,
    ))
    st.2

-- a view that saw a node whose predecessor leads on
pub helped_now : (p : Plain) (h : List Sent) (k t : ℕ) (v : Eyes) (i j : ℕ) → SeesAt p h k t v i
    → j + 1 ≡ i → (Present p (sent h j) → Leads p h j) → SeesAt p h k t (record v { helped = true }) i
helped_now p h k t v i j a e l = record {
  inside = a.inside;
  node = a.node;
  life = a.life;
  was_head = a.was_head;
  was_tail = a.was_tail;
  next = a.next;
  leads = a.leads;
  item = a.item;
  before = a.before;
  helped = λ is j' e'. let same : j ≡ j' = omega arith in
      subst (λ z. Present p (sent h z) → Leads p h z) same l;
  passed = a.passed;
}

-- HELP
pub help_deed : (u : Ends) → Keeps (QueueLaw u) (HelpReady u) help_next
help_deed u p q views n v step found lawful law is stays_on ready d =
    let r = ready in
    let here = is in
    let h = law.0 in let ts = law.1 in let t = law.2 in let o = law.3.known in let c = law.3.chain in
    let st = tried_first p q n r.before r.node found lawful
    (subst (λ a. Does p n a found q) r.act_is d) in
    let s = sees_it u p views n v r.before r.node h ts t lawful law.3 here.1 r.held r.seen r.seen_life r.at_before r.form in
    let b = before_here u p views n v r.before r.node h ts t lawful law.3 here.1 r.held r.seen r.seen_life r.at_before r.form in
    let live = held_live p n r.before lawful st.1 in
    let pr : Present p (sent h b.0) =
    before_present u p views n v r.before r.node h ts t lawful law.3 here.1 r.held r.seen r.seen_life r.at_before r.form live in
    let inside : b.0 + 1 < length h = let z = b.1 in let y = s.0.1.inside in omega arith in
    let at_node : (sent h (b.0 + 1)).node ≡ r.node = ap (λ z. (sent h z).node) b.1 ∙ s.1 in
    ⊎_elim
    (λ hit.
    let null : (slot_at p (sent h b.0).node).first ≡ 0 = ap (λ z. (slot_at p z).first) b.2
    ∙ (sym st.0 ∙ hit.0) in
    let w0 : FirstSet p q r.before (r.node + 1) = hit.2 in
    let w1 : FirstSet p q (sent h b.0).node (r.node + 1) = subst (λ z. FirstSet p q z (r.node + 1))
    (sym b.2) w0 in
    let w : FirstSet p q (sent h b.0).node ((sent h (b.0 + 1)).node + 1) =
    subst (λ z. FirstSet p q (sent h b.0).node (z + 1)) (sym at_node) w1 in
    let now = sees_at_on p q h h (length ts) (length ts) t t v.eyes s.0.0 (unchanged h) (omega arith)
    (omega arith) (on u p q views n v h ts t law.3 here.0 here.1 b.0 inside pr null b.4 w) s.0.1 in (
      h,
      ts,
      t,
      set_link u p q views n v h ts t law.3 here.0 here.1 b.0 inside pr null b.4 w
          (record v.eyes { helped = true }) v.flight
          (λ is_some. (
            s.0.0,
            helped_now q h (length ts) t v.eyes s.0.0 b.0 now b.1
                (λ z. led u p q views n v h ts t law.3 here.0 here.1 b.0 inside pr null b.4 w),
          ))
          (subst (λ (z : View). Flies h z.flight) here.1 (o.flies n)),
    ))
    (λ miss. subst (λ z. QueueLaw u z (set views n (helped_view v))) (sym miss.1) (
      h,
      ts,
      t,
      reseen u p views n v (record v.eyes { helped = true }) h ts t law.3 here.0 here.1
          (λ z. (
            s.0.0,
            helped_now p h (length ts) t v.eyes s.0.0 b.0 s.0.1 b.1
                (λ y. ⊎_elim (λ l. l) (λ m. absurd
                (miss.0 (st.0 ∙ (ap (λ z. (slot_at p z).first) (sym b.2) ∙ m.null))))
                (c.links b.0 inside pr)),
          )),
    ))
    st.2
