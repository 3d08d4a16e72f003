-- The advance of the tail, in a linked queue.
use Rattle.std.proofs.Common.{◌≡◌, ◌≢◌, inl, inr, ⊎_elim, ℕ, ◌+◌, ◌-◌, ◌<◌, ◌≤◌, true, List, length, set, refl, ap, sym, ◌∙◌, subst, arith}
use Rattle.std.proofs.lemmas.Bool.{cases_lt, false≢true}
use Rattle.plain_protocol.specs.plain_state.State.{Plain, seat_at}
use Rattle.plain_protocol.specs.plain_state.Lawful.{Lawful}
use Rattle.plain_protocol.specs.plain_state.Steps.{Does}
use Rattle.plain_protocol.specs.Owns.{own_part}
use Rattle.queue_law.specs.Words.{slot_at, cell_at, held_times, life_in}
use Rattle.queue_law.specs.Views.{Linked, Taken, View, Load, sees_node, view_at}
use Rattle.queue_law.specs.Chain.{Ends, Sent, sent, Present, TailAt}
use Rattle.queue_law.specs.Notes.{Sees, SeesAt, Emptied, Carries, Flies}
use Rattle.queue_law.specs.Law.{Queue, QueueLaw}
use Rattle.queue_law.specs.Writes.{CellSet}
use Rattle.queue_law.specs.Owned.{Keeps}
use Rattle.queue_law.specs.Pushes.{AdvanceReady, advance_next}
use Rattle.queue_law.proofs.Kit.{own_life}
use Rattle.queue_law.proofs.Effects.{tried_cell}
use Rattle.queue_law.proofs.Chain.{one_form, same_node}
use Rattle.queue_law.proofs.ChainWrites.{tail_chain}
use Rattle.queue_law.proofs.Notes.{leads_stay, CarryOn, carries_on, carry_stay, carry_same}
use Rattle.queue_law.proofs.Seen.{rewrite_keeps, seen_here, firsts_lead}

-- the seat holds a node that the tail cell held, and the node after it
module _ (u : Ends) (cells : u.head ≢ u.tail) (p q : Plain) (views : List View) (n : ℕ) (v : View)
    (old new : ℕ) (lawful : Lawful p) (h : List Sent) (ts : List Taken) (t : ℕ)
    (law : Queue u p views h ts t) (low : n < length views) (at : view_at views n ≡ v)
    (linked : u.form ≡ Linked) (held : 0 < held_times old (seat_at p n))
    (held_new : 0 < held_times new (seat_at p n)) (seen : v.eyes.node ≡ old + 1)
    (seen_life : life_in (own_part p n) old ≡ v.eyes.life) (following : v.eyes.following ≡ new + 1)
    (tailed : v.eyes.was_tail ≡ true) (attached : v.attached ≡ true) where
  abbrev now : View
  now = record v {
    eyes = record (sees_node v.eyes.following (life_in (own_part p n) (v.eyes.following - 1))) {
      was_tail = true;
    };
  }

  sees : (s : (i : ℕ) × SeesAt p h (length ts) t v.eyes i) × ((sent h s.0).node ≡ old)
      × Present p (sent h s.0)
  sees = seen_here u p views n v old h ts t lawful law at held seen seen_life

  more : sees.0.0 + 1 < length h
  more = (sees.0.1.next (λ z. omega arith)).0

  next_is : (sent h (sees.0.0 + 1)).node ≡ new
  next_is = let z = (sees.0.1.next (λ z. omega arith)).1 in omega arith

  next_here : Present p (sent h (sees.0.0 + 1))
  next_here = (sees.0.1.leads (λ z. omega arith) sees.2).1

  life_now : (sent h (sees.0.0 + 1)).life ≡ life_in (own_part p n) (v.eyes.following - 1)
  life_now =
      let less : v.eyes.following - 1 ≡ new = omega arith in
      sym next_here.1
      ∙ (ap (λ z. (slot_at p z).life) next_is
      ∙ (sym (own_life p n new held_new) ∙ ap (life_in (own_part p n)) (sym less)))

  -- the node is seen, where the tail has come to it
  sees_now : (r : Plain) (t' : ℕ) → sees.0.0 + 1 ≤ t' → Sees r h (length ts) t' now.eyes
  sees_now r t' le is_some = (
    sees.0.0 + 1,
    record {
      inside = more;
      node = (sees.0.1.next (λ z. omega arith)).1;
      life = life_now;
      was_head = λ f. absurd (false≢true f);
      was_tail = λ f. le;
      next = λ f. absurd (f refl);
      leads = λ f. absurd (f refl);
      item = λ f. absurd (f refl);
      before = λ f. absurd (f refl);
      helped = λ f. absurd (false≢true f);
      passed = λ f. absurd (false≢true f);
    },
  )

  pub advance_done : cell_at p u.tail ≡ old + 1 → CellSet p q u.tail (new + 1)
      → Queue u q (set views n now) h ts (t + 1)
  advance_done tail w =
      let o = w.objects in
      let k = law.known in
      let b : TailAt u p h t = ⊎_elim (λ z. let y = z.0 in absurd (omega arith))
      (λ x. x) law.chain.tail in
      let at_t : (sent h t).node ≡ old = let z = b.holds in omega arith in
      let same : sees.0.0 ≡ t =
      same_node u p h (length ts) t law.chain sees.0.0 t sees.0.1.inside b.inside sees.2 b.is
      (sees.1 ∙ sym at_t) in
      let e1 : sees.0.0 + 1 ≡ t + 1 = omega arith in
      let low_t : t + 1 < length h = let x = more in omega arith in
      let write = subst (λ z. CellSet p q u.tail (z + 1))
      (sym next_is ∙ ap (λ z. (sent h z).node) e1) w in
      let on = firsts_lead p q h o w.first in
      let carry : (m : Load) → CarryOn p q h h m =
      λ m. carry_same p q h h m o (λ s e l. l) (λ s e z. w.second s) (λ s e z. w.back s) in
      rewrite_keeps u p q views n v h ts t (t + 1) law (omega arith) low at
      (tail_chain u p q h (length ts) t law.chain b linked low_t cells write) (w.other u.head cells)
      (inl (omega arith, λ y. let x = w.here in omega arith)) on
      (λ m ne. carry (view_at views m).load) now
      (sees_now q (t + 1) (omega arith)) (subst (Emptied h (length ts)) at (k.emptied n))
      (carries_on p q h h v.load (carry v.load)
      (subst (λ (z : View). Carries p h z.load) at (k.carries n)))
      (subst (λ (z : View). Flies h z.flight) at (k.flies n)) (λ d. absurd (one_form u.form linked d))
      refl refl refl refl refl refl
      (λ a z. k.attached n (ap (λ (y : View). y.attached) at ∙ a)
      (sym (w.other u.head cells) ∙ z)) refl refl

  -- somebody else has advanced it
  pub advance_lost : cell_at p u.tail ≢ old + 1 → Queue u p (set views n now) h ts t
  advance_lost lost =
      let k = law.known in
      let past : sees.0.0 + 1 ≤ t =
      ⊎_elim
      (λ below. omega arith)
      (λ ge.
      let x = sees.0.1.was_tail tailed in
      let e : sees.0.0 ≡ t = omega arith in
      ⊎_elim
      (λ z. absurd (k.attached n (ap (λ (y : View). y.attached) at ∙ attached) z.1))
      (λ b. absurd (lost (b.holds ∙ ap (λ z. z + 1) (ap (λ z. (sent h z).node) (sym e) ∙ sees.1))))
      law.chain.tail)
      (cases_lt sees.0.0 t) in
      rewrite_keeps u p p views n v h ts t t law (omega arith) low at law.chain refl (inr refl)
      (leads_stay p h) (λ m ne. carry_stay p h (view_at views m).load) now (sees_now p t past)
      (subst (Emptied h (length ts)) at (k.emptied n))
      (subst (λ (z : View). Carries p h z.load) at (k.carries n))
      (subst (λ (z : View). Flies h z.flight) at (k.flies n)) (λ d. absurd (one_form u.form linked d))
      refl refl refl refl refl refl (λ a. k.attached n (ap (λ (y : View). y.attached) at ∙ a)) refl refl

pub advance_deed : (u : Ends) → u.head ≢ u.tail → Keeps (QueueLaw u) (AdvanceReady u) advance_next
advance_deed u cells p q views n v step found lawful law is stays_on r d =
    let st = tried_cell p q n u.tail r.old r.new found (subst (λ a. Does p n a found q) r.act_is d) in
    ⊎_elim
    (λ hit. (
      _,
      _,
      _,
      advance_done u cells p q views n v r.old r.new lawful law.0 law.1 law.2 law.3 is.0 is.1
          r.form r.held r.held_new r.seen r.seen_life r.following r.was_tail r.attached
          (sym st.0 ∙ hit.0) hit.2,
    ))
    (λ miss. subst (λ z. QueueLaw u z
    (set views n (advance_next (own_part p n) (own_part q n) v step found)))
    (sym miss.1) (
      _,
      _,
      _,
      advance_lost u cells p q views n v r.old r.new lawful law.0 law.1 law.2 law.3 is.0 is.1
          r.form r.held r.held_new r.seen r.seen_life r.following r.was_tail r.attached
          (λ e. miss.0 (st.0 ∙ e)),
    ))
    st.1
