-- Each lesson on the node before one that was seen keeps the law.
use Rattle.std.proofs.Common.{◌≡◌, ⊎_elim, ℕ, ◌+◌, ◌-◌, ◌<◌, ◌≤◌, true, List, length, set, ap, sym, ◌∙◌, subst, arith}
use Rattle.std.specs.Prelude.{◌==◌}
use Rattle.std.proofs.lemmas.Bool.{cases_eq, cases_lt, false≢true, eqb-true}
use Rattle.plain_protocol.specs.plain_state.State.{Plain, seat_at}
use Rattle.plain_protocol.specs.plain_state.Lawful.{Lawful}
use Rattle.plain_protocol.specs.plain_state.Steps.{Does}
use Rattle.plain_protocol.specs.plain_state.declared.act.PlainAct.TheVariants as act
use Rattle.plain_protocol.specs.Owns.{own_part}
use Rattle.queue_law.specs.Words.{slot_at, strong_refs, held_times, life_in, id, first_of, back_of}
use Rattle.queue_law.specs.Views.{Double, Taken, View, view_at}
use Rattle.queue_law.specs.Chain.{Ends, Sent, sent, Present, Leads, HeadAt, Chain}
use Rattle.queue_law.specs.Law.{Queue, QueueLaw}
use Rattle.queue_law.specs.Writes.{Quiet}
use Rattle.queue_law.specs.Owned.{Keeps}
use Rattle.queue_law.specs.Pushes.{helped_view}
use Rattle.queue_law.specs.Lessons.{BeforeReady, before_next, EndedReady, ended_next, SetReady, set_next}
use Rattle.queue_law.proofs.Kit.{refs_cell, refs_first, referred}
use Rattle.queue_law.proofs.Effects.{calm_quiet}
use Rattle.queue_law.proofs.Chain.{the_head, leads_inner, leads_passed, leads_some, chain_present}
use Rattle.queue_law.proofs.Notes.{unchanged, sees_at_on}
use Rattle.queue_law.proofs.Seen.{reseen, seen_here, sees_it, before_here}
use Rattle.queue_law.proofs.Calm.{quiet_on, calm_queue, to_true, to_false}
use Rattle.queue_law.proofs.Land.{helped_now}
use Rattle.queue_law.proofs.Lessons.{reads_calm, reads_found, same_view}

-- BEFORE: what the weak field of a seen node holds is the node before it
eqb_true : (a : ℕ) → (a == 0) ≡ true → a ≡ 0
eqb_true a e = eqb-true a 0 e

pub before_deed : (u : Ends) → Keeps (QueueLaw u) (BeforeReady u) before_next
before_deed u p q views n v step found lawful law is stays_on ready d =
    let r = ready in
    let here = is in
    let f = reads_found p q n found (back_of r.node) step r.reads d in
    let h = law.0 in let ts = law.1 in let t = law.2 in let c = law.3.chain in
    let w = calm_quiet p q n step found lawful (reads_calm (back_of r.node) step r.reads) d in
    let after = calm_queue u p q views h ts t w law.3 in
    let s = seen_here u p views n v r.node h ts t lawful law.3 here.1 r.held r.seen r.seen_life in
    let i = s.0.0 in
    let low = s.0.1.inside in
    let on = quiet_on u p q h (length ts) t c w in
    let a = sees_at_on p q h h (length ts) (length ts) t t v.eyes i (unchanged h) (omega arith)
    (omega arith) on s.0.1 in
    let field : (slot_at p (sent h i).node).back ≡ found = ap (λ z. (slot_at p z).back) s.1 ∙ sym f.0 in
    let leads_to : (j : ℕ) → j + 1 ≡ i → found ≡ (sent h j).node + 1 = λ j e.
    sym field ∙ (ap (λ z. (slot_at p (sent h z).node).back) (sym e)
    ∙ (c.backs r.form j (omega arith) (subst (λ z. Present p (sent h z)) (sym e) s.2)).0) in (
      h,
      ts,
      t,
      reseen u q views n v (record v.eyes {
        before = found;
        helped = found == 0;
      }) h ts t after here.0 here.1
          (λ z. (
            i,
            record {
              inside = a.inside;
              node = a.node;
              life = a.life;
              was_head = a.was_head;
              was_tail = a.was_tail;
              next = a.next;
              leads = a.leads;
              item = a.item;
              before = λ is_some. ⊎_elim
                  (λ first. absurd (is_some
                  (sym field ∙ (ap (λ z. (slot_at p (sent h z).node).back) first
                  ∙ c.first_back r.form (omega arith) (subst (λ z. Present p (sent h z)) first s.2)))))
                  (λ some_node. let e : i - 1 + 1 ≡ i = omega arith in
                  (i - 1, e, sym (leads_to (i - 1) e)))
                  (cases_eq i 0);
              helped = λ none j e. let x = leads_to j e in let y = eqb_true found none in
                  absurd (omega arith);
              passed = a.passed;
            },
          )),
    )

-- what the seat learns of the node before leaves the state as the queue sees it
module _ (u : Ends) (p q : Plain) (views : List View) (n : ℕ) (v : View) (before node : ℕ) (h : List Sent)
    (ts : List Taken) (t : ℕ) (lawful : Lawful p) (law : Queue u p views h ts t) (low : n < length views)
    (at : view_at views n ≡ v) (held : 0 < held_times node (seat_at p n))
    (seen : v.eyes.node ≡ node + 1) (life : life_in (own_part p n) node ≡ v.eyes.life)
    (at_before : v.eyes.before ≡ before + 1) (double : u.form ≡ Double) (w : Quiet p q) where
  abbrev j : ℕ
  j = (before_here u p views n v before node h ts t lawful law at held seen life at_before double).0

  pub learns_helped : (Present p (sent h j) → Leads p h j)
      → Queue u q (set views n (helped_view v)) h ts t
  learns_helped leads =
      let c = law.chain in
      let s = sees_it u p views n v before node h ts t lawful law at held seen life at_before double in
      let b = before_here u p views n v before node h ts t lawful law at held seen life at_before double in
      let on = quiet_on u p q h (length ts) t c w in
      let a = sees_at_on p q h h (length ts) (length ts) t t v.eyes s.0.0 (unchanged h) (omega arith)
      (omega arith) on s.0.1 in
      reseen u q views n v (record v.eyes { helped = true }) h ts t
      (calm_queue u p q views h ts t w law) low at
      (λ z. (
        s.0.0,
        helped_now q h (length ts) t v.eyes s.0.0 b.0 a b.1
            (on b.0 (let x = b.1 in let y = s.0.1.inside in omega arith) leads),
      ))

-- a node from the head's on, but for the last, is referred to
pub refs_waiting : (u : Ends) (p : Plain) (h : List Sent) (k t : ℕ) → Chain u p h k t → HeadAt u p h k
    → (j : ℕ) → k ≤ j → j + 1 < length h → 0 < strong_refs p (sent h j).node
refs_waiting u p h k t c a j le low = ⊎_elim
    (λ e. refs_cell p u.head (sent h j).node (a.holds ∙ ap (λ z. (sent h z).node + 1) (sym e)))
    (λ ne.
    let at = chain_present u p h k t c a (j - 1) (omega arith) (omega arith) in
    let l = (leads_inner u p h k t c (j - 1) (omega arith) at).0 in
    let e : j - 1 + 1 ≡ j = omega arith in
    refs_first p (sent h (j - 1)).node (sent h j).node (l ∙ ap (λ z. (sent h z).node + 1) e))
    (cases_eq j k)

-- ENDED: an upgrade of the node before that found the zero mark
pub ended_deed : (u : Ends) → Keeps (QueueLaw u) (EndedReady u) ended_next
ended_deed u p q views n v step found lawful law is stays_on ready d =
    let r = ready in
    let here = is in
    let h = law.0 in let ts = law.1 in let t = law.2 in let c = law.3.chain in
    let s0 : Does p n (act.Add (id r.before)) found q = subst (λ a. Does p n a found q) r.act_is d in
    let w = calm_quiet p q n (act.Add (id r.before)) found lawful tt s0 in
    let after = calm_queue u p q views h ts t w law.3 in
    let s = sees_it u p views n v r.before r.node h ts t lawful law.3 here.1 r.held r.seen r.seen_life r.at_before r.form in
    let b = before_here u p views n v r.before r.node h ts t lawful law.3 here.1 r.held r.seen r.seen_life r.at_before r.form in
    let inside : b.0 + 1 < length h = let z = b.1 in let y = s.0.1.inside in omega arith in
    let at_head = the_head u p h (length ts) t c
    (law.3.known.attached n (ap (λ (y : View). y.attached) here.1 ∙ r.attached)) in
    ⊎_elim
    (λ up. subst (λ z. QueueLaw u q (set views n z))
    (to_false found 1 v (helped_view v) (λ e. let z = up.0 in omega arith))
    (same_view u q views n v here.1 (h, ts, t, after)))
    (λ dead.
    let below : b.0 < length ts = ⊎_elim (λ z. z)
    (λ le. let refs = refs_waiting u p h (length ts) t c at_head b.0 le inside in
    absurd (false≢true (sym (referred p lawful r.before (subst (λ z. 0 < strong_refs p z) b.2 refs)).1
    ∙ dead.1))) (cases_lt b.0 (length ts)) in
    subst (λ z. QueueLaw u q (set views n z)) (to_true found 1 v (helped_view v) dead.0) (
      h,
      ts,
      t,
      learns_helped u p q views n v r.before r.node h ts t lawful law.3 here.0 here.1 r.held r.seen r.seen_life r.at_before r.form w
          (leads_passed u p h (length ts) t c b.0 below inside),
    ))
    s0.1.1

-- SET: field 0 of the node before was found set
pub set_deed : (u : Ends) → Keeps (QueueLaw u) (SetReady u) set_next
set_deed u p q views n v step found lawful law is stays_on ready d =
    let r = ready in
    let here = is in
    let h = law.0 in let ts = law.1 in let t = law.2 in let c = law.3.chain in
    let f = reads_found p q n found (first_of r.before) step r.reads d in
    let w = calm_quiet p q n step found lawful (reads_calm (first_of r.before) step r.reads) d in
    let after = calm_queue u p q views h ts t w law.3 in
    let s = sees_it u p views n v r.before r.node h ts t lawful law.3 here.1 r.held r.seen r.seen_life r.at_before r.form in
    let b = before_here u p views n v r.before r.node h ts t lawful law.3 here.1 r.held r.seen r.seen_life r.at_before r.form in
    let inside : b.0 + 1 < length h = let z = b.1 in let y = s.0.1.inside in omega arith in
    ⊎_elim
    (λ null. subst (λ z. QueueLaw u q (set views n z)) (to_true found 0 (helped_view v) v null)
    (same_view u q views n v here.1 (h, ts, t, after)))
    (λ is_some. subst (λ z. QueueLaw u q (set views n z)) (to_false found 0 (helped_view v) v is_some) (
      h,
      ts,
      t,
      learns_helped u p q views n v r.before r.node h ts t lawful law.3 here.0 here.1 r.held r.seen r.seen_life r.at_before r.form w
          (λ pr. leads_some u p h (length ts) t c b.0 inside pr
          (λ z. is_some (f.0 ∙ (ap (λ z. (slot_at p z).first) (sym b.2) ∙ z)))),
    ))
    (cases_eq found 0)
