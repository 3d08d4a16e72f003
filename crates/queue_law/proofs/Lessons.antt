-- Each lesson on the cells, and on the node after one that was seen, keeps the law.
use Rattle.std.proofs.Common.{◌≡◌, ◌≢◌, inr, ⊎_elim, ℕ, zero, suc, ◌+◌, ◌-◌, ◌<◌, ◌≤◌, Bool, true, false, List, length, set, refl, ap, sym, ◌∙◌, subst, arith}
use Rattle.std.specs.Prelude.{cond, nat_lt}
use Rattle.std.proofs.lemmas.Bool.{cases_lt, false≢true, ltb-true}
use Rattle.plain_protocol.specs.plain_state.State.{Plain, seat_at}
use Rattle.plain_protocol.specs.plain_state.Steps.{Does, word_of}
use Rattle.plain_protocol.specs.plain_state.Places.{content, IsReadable}
use Rattle.plain_protocol.specs.plain_state.declared.act.EventPlace.{EventPlace}
use Rattle.plain_protocol.specs.plain_state.declared.act.EventPlace.TheVariants.{Cell}
use Rattle.plain_protocol.specs.plain_state.declared.act.PlainAct.{PlainAct}
use Rattle.plain_protocol.specs.plain_state.declared.act.PlainAct.TheVariants as act
use Rattle.plain_protocol.specs.Owns.{OwnPart, own_part}
use Rattle.plain_protocol.specs.Acts.{IsCalm}
use Rattle.queue_law.specs.Words.{slot_at, cell_at, held_times, life_in, first_of, second_of}
use Rattle.queue_law.specs.Views.{Taken, View, first_view, view_at}
use Rattle.queue_law.specs.Chain.{Ends, Sent, sent, Present, Leads, Chain}
use Rattle.queue_law.specs.Notes.{Sees, Emptied, Carries, Flies}
use Rattle.queue_law.specs.Law.{Queue, QueueLaw}
use Rattle.queue_law.specs.Owned.{Keeps}
use Rattle.queue_law.specs.Lessons.{Reads, LearnReady, learnt, learn_next, NextReady, next_next, AheadReady, ahead_next, PassedReady, passed_next, ItemReady, item_next, AttachReady, attach_next}
use Rattle.std.proofs.lemmas.List.{set-get_or}
use Rattle.std.specs.Prelude.{not}
use Rattle.queue_law.proofs.Kit.{own_life}
use Rattle.queue_law.proofs.Effects.{calm_quiet}
use Rattle.queue_law.proofs.Chain.{lag_short, the_head, leads_some}
use Rattle.queue_law.proofs.ChainCalm.{quiet_leads}
use Rattle.queue_law.proofs.Notes.{unchanged, leads_stay, sees_at_on, carry_stay}
use Rattle.queue_law.proofs.Seen.{rewrite_keeps, flights_same, same_objects, reseen, seen_here}
use Rattle.queue_law.proofs.Calm.{quiet_on, calm_queue}

pub reads_calm : (at : EventPlace) (step : PlainAct) → Reads at step → IsCalm step
reads_calm at step r = ⊎_elim (λ e. subst IsCalm (sym e) tt) (λ e. subst IsCalm (sym e.1) tt) r

pub reads_found : (p q : Plain) (n found : ℕ) (at : EventPlace) (step : PlainAct) → Reads at step
    → Does p n step found q → (found ≡ word_of (content p at)) × IsReadable p n at
reads_found p q n found at step r d = ⊎_elim
    (λ e. let st : Does p n (act.Look at) found q = subst (λ a. Does p n a found q) e d in
    (st.1.1, st.1.0))
    (λ e. let st : Does p n (act.Check e.0 at) found q = subst (λ a. Does p n a found q) e.1 d in
    (st.1.1, st.1.0)) r

pub same_view : (u : Ends) (q : Plain) (views : List View) (n : ℕ) (v : View) → view_at views n ≡ v
    → QueueLaw u q views → QueueLaw u q (set views n v)
same_view u q views n v at law = subst (QueueLaw u q)
    (sym (ap (set views n) (sym at) ∙ set-get_or views n first_view)) law

-- what a cell of the queue holds, if the seat holds it
learn_case : (u : Ends) (head : Bool) (p : Plain) (views : List View) (n : ℕ) (v : View) (s : ℕ)
    → QueueLaw u p views → n < length views → view_at views n ≡ v
    → ((h : List Sent) (ts : List Taken) (t : ℕ) → Queue u p views h ts t
    → (i : ℕ) × (i < length h) × ((sent h i).node ≡ s) × Present p (sent h i)
    × (head ≡ true → i ≤ length ts)
    × (not head ≡ true → i ≤ t))
    → (b : Bool) → nat_lt 0 (held_times s (seat_at p n)) ≡ b
    → QueueLaw u p (set views n (cond b (record v { eyes = learnt head (own_part p n) (suc s) }) v))
learn_case u head p views n v s law low at is false e = same_view u p views n v at law
learn_case u head p views n v s law low at is true e =
    let h = law.0 in let ts = law.1 in let t = law.2 in
    let held : 0 < held_times s (seat_at p n) = ltb-true 0 (held_times s (seat_at p n)) e in
    let i = is h ts t law.3 in
    let less : suc s - 1 ≡ s = omega arith in (
      h,
      ts,
      t,
      reseen u p views n v (learnt head (own_part p n) (suc s)) h ts t law.3 low at
          (λ z. (
            i.0,
            record {
              inside = i.1;
              node = (let y = i.2 in omega arith);
              life =
                  sym i.3.1
                  ∙ (ap (λ z. (slot_at p z).life) i.2
                  ∙ (sym (own_life p n s held) ∙ ap (life_in (own_part p n)) (sym less)));
              was_head = i.4;
              was_tail = i.5;
              next = λ f. absurd (f refl);
              leads = λ f. absurd (f refl);
              item = λ f. absurd (f refl);
              before = λ f. absurd (f refl);
              helped = λ f. absurd (false≢true f);
              passed = λ f. absurd (false≢true f);
            },
          )),
    )

learn_at : (u : Ends) (c : ℕ) (head : Bool)
    → ((p : Plain) (views : List View) (s : ℕ) → cell_at p c ≡ suc s → (h : List Sent) (ts : List Taken)
    (t : ℕ)
    → Queue u p views h ts t
    → (i : ℕ) × (i < length h) × ((sent h i).node ≡ s) × Present p (sent h i)
    × (head ≡ true → i ≤ length ts)
    × (not head ≡ true → i ≤ t))
    → (p : Plain) (views : List View) (n : ℕ) (v : View) (own : OwnPart) (step : PlainAct) (found : ℕ)
    → QueueLaw u p views → n < length views → view_at views n ≡ v → found ≡ cell_at p c
    → QueueLaw u p (set views n (learn_next head own (own_part p n) v step found))
learn_at u c head is p views n v own step zero law low at e = same_view u p views n v at law
learn_at u c head is p views n v own step (suc s) law low at e =
    learn_case u head p views n v s law low at (is p views s (sym e))
    (nat_lt 0 (held_times s (seat_at p n))) refl

-- LEARN: what the head cell or the tail cell held
pub learn_head_deed : (u : Ends) → Keeps (QueueLaw u) (LearnReady u.head) (learn_next true)
learn_head_deed u p q views n v step found lawful law is stays_on r d =
    let f = reads_found p q n found (Cell u.head) step r d in
    let w = calm_quiet p q n step found lawful (reads_calm (Cell u.head) step r) d in
    learn_at u u.head true
    (λ p' views' s e h ts t o. ⊎_elim
    (λ z. absurd (omega arith))
    (λ a. (
      length ts,
      a.inside,
      (let z = a.holds in omega arith),
      a.is,
      λ y. omega arith,
      λ y. absurd
          (false≢true y),
    ))
    o.chain.head)
    q views n v (own_part p n) step found
    (law.0, law.1, law.2, calm_queue u p q views law.0 law.1 law.2 w law.3) is.0 is.1
    (f.0 ∙ sym (w.cells u.head))

pub learn_tail_deed : (u : Ends) → Keeps (QueueLaw u) (LearnReady u.tail) (learn_next false)
learn_tail_deed u p q views n v step found lawful law is stays_on r d =
    let f = reads_found p q n found (Cell u.tail) step r d in
    let w = calm_quiet p q n step found lawful (reads_calm (Cell u.tail) step r) d in
    learn_at u u.tail false
    (λ p' views' s e h ts t o. ⊎_elim
    (λ z. let y = z.0 in absurd (omega arith))
    (λ b. (
      t,
      b.inside,
      (let z = b.holds in omega arith),
      b.is,
      λ y. absurd (false≢true y),
      λ y. omega arith,
    ))
    o.chain.tail)
    q views n v (own_part p n) step found
    (law.0, law.1, law.2, calm_queue u p q views law.0 law.1 law.2 w law.3) is.0 is.1
    (f.0 ∙ sym (w.cells u.tail))

-- NEXT: what the first field of a seen node holds is the next node
pub next_deed : (u : Ends) → Keeps (QueueLaw u) NextReady next_next
next_deed u p q views n v step found lawful law is stays_on ready d =
    let r = ready in
    let here = is in
    let f = reads_found p q n found (first_of r.node) step r.reads d in
    let h = law.0 in let ts = law.1 in let t = law.2 in let c = law.3.chain in
    let w = calm_quiet p q n step found lawful (reads_calm (first_of r.node) step r.reads) d in
    let after = calm_queue u p q views h ts t w law.3 in
    let s = seen_here u p views n v r.node h ts t lawful law.3 here.1 r.held r.seen r.seen_life in
    let a0 = s.0.1 in
    let i = s.0.0 in
    let on = quiet_on u p q h (length ts) t c w in
    let a = sees_at_on p q h h (length ts) (length ts) t t v.eyes i (unchanged h) (omega arith)
    (omega arith) on a0 in
    let field : (slot_at p (sent h i).node).first ≡ found = ap (λ z. (slot_at p z).first) s.1 ∙ sym f.0 in
    let more : found ≢ 0 → i + 1 < length h = λ is_some. ⊎_elim (λ z. z)
    (λ past. let low = a0.inside in let e = c.ends i (omega arith) s.2 in
    absurd (is_some (sym field ∙ e))) (cases_lt (i + 1) (length h)) in
    let leads : found ≢ 0 → Leads p h i = λ is_some. leads_some u p h (length ts) t c i (more is_some) s.2
    (λ z. is_some (sym field ∙ z)) in (
      h,
      ts,
      t,
      reseen u q views n v (record v.eyes { following = found; found = 0 }) h ts t after here.0 here.1
          (λ z. (
            i,
            record {
              inside = a.inside;
              node = a.node;
              life = a.life;
              was_head = a.was_head;
              was_tail = a.was_tail;
              next = λ is_some. (more is_some, sym (leads is_some).0 ∙ field);
              leads = λ is_some at. quiet_leads u p q h (length ts) t c w i at (leads is_some);
              item = λ g k. absurd (k refl);
              before = a.before;
              helped = a.helped;
              passed = a.passed;
            },
          )),
    )

-- where something is linked behind the node after one that is there, the tail has gone past that one
tail_past : (u : Ends) (p : Plain) (h : List Sent) (k t i node : ℕ) → Chain u p h k t → i + 1 < length h → (sent h (i + 1)).node ≡ node → Present p (sent h (i + 1))
    → (slot_at p node).first ≢ 0 → i < t
tail_past u p h k t i node c low is there more =
    let past : i + 2 < length h =
    ⊎_elim
    (λ z. z)
    (λ le.
    absurd (more (ap (λ z. (slot_at p z).first) (sym is) ∙ c.ends (i + 1) (omega arith) there)))
    (cases_lt (i + 2) (length h)) in
    let lag = lag_short u.form (length h) t (c.lag (omega arith)) in
    omega arith

-- AHEAD: where field 0 of the next node isn't null, the tail has gone past the node that was seen
pub ahead_deed : (u : Ends) → Keeps (QueueLaw u) (AheadReady u) ahead_next
ahead_deed u p q views n v step found lawful law is stays_on ready d =
    let r = ready in
    let here = is in
    let f = reads_found p q n found (first_of r.node) step r.reads d in
    let h = law.0 in let ts = law.1 in let t = law.2 in let c = law.3.chain in
    let w = calm_quiet p q n step found lawful (reads_calm (first_of r.node) step r.reads) d in
    let after = calm_queue u p q views h ts t w law.3 in
    let s = seen_here u p views n v r.old h ts t lawful law.3 here.1 r.held r.seen r.seen_life in
    let i = s.0.0 in
    let on = quiet_on u p q h (length ts) t c w in
    let a = sees_at_on p q h h (length ts) (length ts) t t v.eyes i (unchanged h) (omega arith)
    (omega arith) on s.0.1 in
    let next = s.0.1.next (λ z. let y = r.following in omega arith) in
    let there = (s.0.1.leads (λ z. let y = r.following in omega arith) s.2).1 in
    let node : (sent h (i + 1)).node ≡ r.node = let y = r.following in let x = next.1 in omega arith in (
      h,
      ts,
      t,
      reseen u q views n v (record v.eyes { passed = nat_lt 0 found }) h ts t after here.0 here.1
          (λ z. (
            i,
            record {
              inside = a.inside;
              node = a.node;
              life = a.life;
              was_head = a.was_head;
              was_tail = a.was_tail;
              next = a.next;
              leads = a.leads;
              item = a.item;
              before = a.before;
              helped = a.helped;
              passed = λ more.
                  tail_past u p h (length ts) t i r.node c next.0 node there
                  (λ null. let y = ltb-true 0 found more in absurd (omega arith));
            },
          )),
    )

-- PASSED: the view stays
pub passed_deed : (u : Ends) → Keeps (QueueLaw u) (PassedReady u) passed_next
passed_deed u p q views n v step found lawful law is stays_on r d =
    let w = calm_quiet p q n step found lawful (reads_calm (Cell u.tail) step r.reads) d in
    same_view u q views n v is.1 (law.0, law.1, law.2, calm_queue u p q views law.0 law.1 law.2 w law.3)

-- ITEM: what field 1 of the next node holds is its item, for as long as it waits
pub item_deed : (u : Ends) → Keeps (QueueLaw u) ItemReady item_next
item_deed u p q views n v step found lawful law is stays_on ready d =
    let r = ready in
    let here = is in
    let f = reads_found p q n found (second_of r.node) step r.reads d in
    let h = law.0 in let ts = law.1 in let t = law.2 in let c = law.3.chain in
    let w = calm_quiet p q n step found lawful (reads_calm (second_of r.node) step r.reads) d in
    let after = calm_queue u p q views h ts t w law.3 in
    let at_head = the_head u p h (length ts) t c
    (law.3.known.attached n (ap (λ (y : View). y.attached) here.1 ∙ r.attached)) in
    let s = subst (λ (z : View). Sees p h (length ts) t z.eyes) here.1 (law.3.known.sees n)
    (λ z. let e = r.seen in omega arith) in
    let i = s.0 in
    let on = quiet_on u p q h (length ts) t c w in
    let a = sees_at_on p q h h (length ts) (length ts) t t v.eyes i (unchanged h) (omega arith)
    (omega arith) on s.1 in (
      h,
      ts,
      t,
      reseen u q views n v (record v.eyes { found = found }) h ts t after here.0 here.1
          (λ z. (
            i,
            record {
              inside = a.inside;
              node = a.node;
              life = a.life;
              was_head = a.was_head;
              was_tail = a.was_tail;
              next = a.next;
              leads = a.leads;
              item = λ follows is_some below.
                  let u = a.next follows in
                  let node : (sent h (i + 1)).node ≡ r.node = let y = r.following in let x = u.1 in
                  omega arith in
                  sym (at_head.items (i + 1) (omega arith) u.0).0
                  ∙ (ap (λ z. (slot_at p z).second) node ∙ sym f.0);
              before = a.before;
              helped = a.helped;
              passed = a.passed;
            },
          )),
    )

-- ATTACH: the head cell isn't null
attach_at : (u : Ends) (p : Plain) (views : List View) (n : ℕ) (v : View) (own after : OwnPart)
    (step : PlainAct)
    (found : ℕ)
    → QueueLaw u p views → n < length views → view_at views n ≡ v → found ≡ cell_at p u.head
    → QueueLaw u p (set views n (attach_next own after v step found))
attach_at u p views n v own after step zero law low at e = same_view u p views n v at law
attach_at u p views n v own after step (suc s) law low at e =
    let h = law.0 in let ts = law.1 in let t = law.2 in
    let o = law.3.known in
    let now : View = record v { attached = true } in (
      h,
      ts,
      t,
      rewrite_keeps u p p views n v h ts t t law.3 (omega arith) low at law.3.chain refl (inr refl)
          (leads_stay p h)
          (λ m ne. carry_stay p h (view_at views m).load) now
          (subst (λ (z : View). Sees p h (length ts) t z.eyes) at (o.sees n))
          (subst (Emptied h (length ts)) at (o.emptied n))
          (subst (λ (z : View). Carries p h z.load) at (o.carries n))
          (subst (λ (z : View). Flies h z.flight) at (o.flies n))
          (flights_same u p p h views n v now low at (same_objects p) (λ s. refl) refl refl law.3.flights)
          refl refl refl refl refl refl (λ x z. let y = e in omega arith) refl refl,
    )

pub attach_deed : (u : Ends) → Keeps (QueueLaw u) (AttachReady u) attach_next
attach_deed u p q views n v step found lawful law is stays_on ready d =
    let s0 : Does p n (act.Look (Cell u.head)) found q = subst (λ a. Does p n a found q) ready d in
    subst (λ z. QueueLaw u z (set views n (attach_next (own_part p n) (own_part q n) v step found)))
    (sym s0.1.2)
    (attach_at u p views n v (own_part p n) (own_part q n) step found law is.0 is.1 s0.1.1)
