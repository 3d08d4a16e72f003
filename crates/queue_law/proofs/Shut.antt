-- The queue is shut: the head cell is cleared, and then the tail cell.
use Rattle.std.proofs.Common.{◌≡◌, ◌≢◌, inl, inr, ℕ, ◌+◌, ◌-◌, ◌≤◌, true, List, ◌++◌, length, set, drop, refl, ap, sym, ◌∙◌, subst, arith, None}
use Rattle.std.proofs.lemmas.Bool.{false≢true}
use Rattle.plain_protocol.specs.plain_state.State.{Plain}
use Rattle.plain_protocol.specs.plain_state.Steps.{Does}
use Rattle.plain_protocol.specs.plain_state.declared.act.EventPlace.TheVariants.{Cell}
use Rattle.plain_protocol.specs.plain_state.declared.act.PlainAct.TheVariants as act
use Rattle.plain_protocol.specs.Owns.{own_part}
use Rattle.queue_law.specs.Words.{cell_at, whole_of}
use Rattle.queue_law.specs.Views.{View, Load, first_view, view_at}
use Rattle.queue_law.specs.Chain.{Ends, sent}
use Rattle.queue_law.specs.Notes.{Sees, Emptied, Carries, Flies, Known}
use Rattle.queue_law.specs.Lists.{item_times, sent_items, taken_items, sends}
use Rattle.queue_law.specs.Law.{QueueLaw, WholeLaw}
use Rattle.queue_law.specs.Writes.{CellSet}
use Rattle.queue_law.specs.Owned.{Keeps}
use Rattle.queue_law.specs.Opening.{walk, waiting_in, ShutHeadReady, shut_head_next, ShutTailReady, shut_tail_next}
use Rattle.queue_law.specs.Promises.{LeftOver}
use Rattle.queue_law.proofs.Effects.{null_cell}
use Rattle.queue_law.proofs.Chain.{the_tail, the_head, same_tail_at}
use Rattle.queue_law.proofs.ChainWrites.{same_firsts}
use Rattle.queue_law.proofs.Notes.{unchanged, sees_on, view_here, each_view, CarryOn, carries_on, carry_same, IsNamed, known_set}
use Rattle.queue_law.proofs.Counts.{counted_same}
use Rattle.queue_law.proofs.Orders.{ordered_same}
use Rattle.queue_law.proofs.Seen.{flights_same, firsts_lead, own_apart}
use Rattle.queue_law.proofs.Gives.{seg_all, send_items, all_items, times_append}
use Rattle.queue_law.proofs.Left.{gone_set}
use Rattle.queue_law.proofs.Alone.{total_root, alone_at}
use Rattle.queue_law.proofs.Walks.{walk_is}

-- THE HEAD CELL
pub shut_head_deed : (u : Ends) → u.head ≢ u.tail → Keeps (WholeLaw u) (ShutHeadReady u)
    (shut_head_next u)
shut_head_deed u cells p q views n v step found lawful whole is stays_on r d =
    let law = whole.0 in
    let o = is in
    let h = law.0 in let ts = law.1 in let t = law.2 in
    let ln = law.3.known in let c = law.3.chain in
    let sd : Does p n (act.Replace (Cell u.head) None) found q =
    subst (λ a. Does p n a found q) r.act_is d in
    let w : CellSet p q u.head 0 = null_cell p q n u.head found sd in
    let al = alone_at p n r.plain r.alone in
    let others : (m : ℕ) → m ≢ n → view_at views m ≡ first_view = λ m ne. whole.1 m
    (al.2 m (λ z. ne (z ∙ sym al.0))) in
    let is_some = ln.attached n (ap (λ (y : View). y.attached) o.1 ∙ r.attached) in
    let a = the_head u p h (length ts) t c is_some in
    let b = the_tail u p h (length ts) t c is_some in
    let tail_is = w.other u.tail (λ z. cells (sym z)) in
    let all : whole_of (own_part p n).whole ≡ p = ap whole_of r.alone ∙ al.1 in
    let new = shut_head_next u (own_part p n) (own_part q n) v step found in
    let on = firsts_lead p q h w.objects w.first in
    let carry : (m : Load) → CarryOn p q h h m = λ m. carry_same p q h h m w.objects (λ s e l. l)
    (λ z e y. w.second z) (λ z e y. w.back z) in
    let total = total_root (λ v. length v.pushed) views refl
    (λ m ne. ap (λ (z : View). length z.pushed) (others m (λ z. ne (z ∙ al.0)))) in
    let root : view_at views 0 ≡ v = ap (view_at views) (sym al.0) ∙ o.1 in
    let fuel : length h ≤ length v.pushed + 1 = let x = law.3.counted.many in
    let y = ap (λ (z : View). length z.pushed) root in omega arith in
    let inside = a.inside in
    let at_tail : cell_at p u.tail - 1 ≡ (sent h t).node = let x = b.holds in omega arith in
    let at_head : cell_at p u.head - 1 ≡ (sent h (length ts)).node = let x = a.holds in omega arith in
    let many = length h - 1 - length ts in
    let left_is : new.stand.left ≡ sent_items (drop (length ts + 1) h) =
    ap (waiting_in u (length v.pushed)) all
    ∙ (ap (λ z. walk (length v.pushed) u.form p z (cell_at p u.head - 1)) at_tail
    ∙ (ap (λ z. walk (length v.pushed) u.form p (sent h t).node z) at_head
    ∙ (walk_is u p h (length ts) t c a b (length h - 1 - length ts) (length ts) (length v.pushed)
    (omega arith) (omega arith) (omega arith)
    ∙ sym (seg_all (length ts) (length h - 1 - length ts) h (omega arith))))) in
    let now : view_at (set views n new) 0 ≡ new = ap (view_at (set views n new)) (sym al.0)
    ∙ view_here views n new o.0 in
    let open_cells : Ends = record u { head = u.tail } in
    let kn : Known open_cells p h (length ts) t views = record {
      sees = ln.sees;
      emptied = ln.emptied;
      carries = ln.carries;
      flies = ln.flies;
      apart = ln.apart;
      number = ln.number;
      attached = λ m e z. let x = b.holds in omega arith;
    } in
    let kq : Known open_cells q h (length ts) t (set views n new) =
    known_set open_cells p q h h (length ts) (length ts) t t n views new kn o.0 (unchanged h)
    (omega arith) (omega arith) on
    (λ m ne. carry (view_at views m).load)
    (sees_on p q h h (length ts) (length ts) t t v.eyes (unchanged h) (omega arith) (omega arith) on
    (subst (λ (z : View). Sees p h (length ts) t z.eyes) o.1 (ln.sees n)))
    (subst (Emptied h (length ts)) o.1 (ln.emptied n))
    (carries_on p q h h v.load (carry v.load)
    (subst (λ (z : View). Carries p h z.load) o.1 (ln.carries n)))
    (subst (λ (z : View). Flies h z.flight) o.1 (ln.flies n))
    (own_apart u p h (length ts) t views n v ln o.1)
    (subst (IsNamed u n) o.1 (ln.number n))
    (λ e. absurd (false≢true e)) (λ was z. was (sym tail_is ∙ z)) in (
      (
        h,
        ts,
        t,
        record {
          chain = same_firsts u p q h (length ts) t (length ts) t c w.objects w.first
              (λ i il at. w.back (sent h i).node) (inl w.here)
              (inr (same_tail_at p q w.objects u h t tail_is b)) c.lag c.links;
          known = record {
            sees = kq.sees;
            emptied = kq.emptied;
            carries = kq.carries;
            flies = kq.flies;
            apart = kq.apart;
            number = kq.number;
            attached = each_view (λ v. v.attached ≡ true → cell_at q u.head ≢ 0) views n new o.0
                (λ e. absurd (false≢true e))
                (λ m ne e. absurd (false≢true (sym (ap (λ (z : View). z.attached) (others m ne)) ∙ e)));
          };
          flights = flights_same u p q h views n v new o.0 o.1 w.objects w.first refl refl law.3.flights;
          counted = counted_same h ts views n new law.3.counted o.0
              (ap (λ (y : View). y.popped) (sym o.1)) (ap (λ (y : View). y.pushed) (sym o.1));
          ordered = ordered_same h ts views n new law.3.ordered o.0 (ap (λ (y : View). y.here) (sym o.1))
              (ap (λ (y : View). y.popped) (sym o.1)) (ap (λ (y : View). y.pushed) (sym o.1));
          phase =
              let is = ap (λ (z : View). z.stand.laid) now in
              record {
                unlaid = λ z. absurd (omega arith);
                laying = λ z. absurd (omega arith);
                shut = λ z. (w.here, omega arith, ap (λ (z : View). z.stand.left) now ∙ left_is);
              };
        },
      ),
      gone_set p q n step found views new (λ j e. let z = sym r.act_is ∙ e in absurd cc) d whole.1,
    )

-- THE TAIL CELL
pub shut_tail_deed : (u : Ends) → u.head ≢ u.tail → Keeps (WholeLaw u) (ShutTailReady u) shut_tail_next
shut_tail_deed u cells p q views n v step found lawful whole is stays_on r d =
    let law = whole.0 in
    let o = is in
    let h = law.0 in let ts = law.1 in let t = law.2 in
    let ln = law.3.known in let c = law.3.chain in
    let sd : Does p n (act.Replace (Cell u.tail) None) found q =
    subst (λ a. Does p n a found q) r.act_is d in
    let w : CellSet p q u.tail 0 = null_cell p q n u.tail found sd in
    let al = alone_at p n r.plain r.alone in
    let root : view_at views 0 ≡ v = ap (view_at views) (sym al.0) ∙ o.1 in
    let f = law.3.phase.shut (let x = ap (λ (z : View). z.stand.laid) root in let y = r.laid in
    omega arith) in
    let head_is = w.other u.head cells in
    let new = shut_tail_next (own_part p n) (own_part q n) v step found in
    let on = firsts_lead p q h w.objects w.first in
    let carry : (m : Load) → CarryOn p q h h m = λ m. carry_same p q h h m w.objects (λ s e l. l)
    (λ z e y. w.second z) (λ z e y. w.back z) in
    let now : view_at (set views n new) 0 ≡ new = ap (view_at (set views n new)) (sym al.0)
    ∙ view_here views n new o.0 in (
      (
        h,
        ts,
        t,
        record {
          chain = same_firsts u p q h (length ts) t (length ts) t c w.objects w.first
              (λ i il at. w.back (sent h i).node) (inl (head_is ∙ f.0))
              (inl (w.here, head_is ∙ f.0)) c.lag c.links;
          known = known_set u p q h h (length ts) (length ts) t t n views new ln o.0 (unchanged h)
              (omega arith) (omega arith) on
              (λ m ne. carry (view_at views m).load)
              (sees_on p q h h (length ts) (length ts) t t v.eyes (unchanged h) (omega arith)
              (omega arith) on
              (subst (λ (z : View). Sees p h (length ts) t z.eyes) o.1 (ln.sees n)))
              (subst (Emptied h (length ts)) o.1 (ln.emptied n))
              (carries_on p q h h v.load (carry v.load)
              (subst (λ (z : View). Carries p h z.load) o.1 (ln.carries n)))
              (subst (λ (z : View). Flies h z.flight) o.1 (ln.flies n))
              (own_apart u p h (length ts) t views n v ln o.1)
              (subst (IsNamed u n) o.1 (ln.number n))
              (λ e. absurd (ln.attached n (ap (λ (y : View). y.attached) o.1 ∙ e) f.0))
              (λ was z. was f.0);
          flights = flights_same u p q h views n v new o.0 o.1 w.objects w.first refl refl law.3.flights;
          counted = counted_same h ts views n new law.3.counted o.0
              (ap (λ (y : View). y.popped) (sym o.1)) (ap (λ (y : View). y.pushed) (sym o.1));
          ordered = ordered_same h ts views n new law.3.ordered o.0 (ap (λ (y : View). y.here) (sym o.1))
              (ap (λ (y : View). y.popped) (sym o.1)) (ap (λ (y : View). y.pushed) (sym o.1));
          phase =
              let is = ap (λ (z : View). z.stand.laid) now in
              record {
                unlaid = λ z. absurd (omega arith);
                laying = λ z. absurd (omega arith);
                shut = λ z. (
                  head_is ∙ f.0,
                  f.1,
                  ap (λ (z : View). z.stand.left) now
                      ∙ (ap (λ (z : View). z.stand.left) (sym root) ∙ f.2),
                );
              };
        },
      ),
      gone_set p q n step found views new (λ j e. let z = sym r.act_is ∙ e in absurd cc) d whole.1,
    )

-- what shut has noted stands in place of what waits
pub left_over : (u : Ends) (p : Plain) (views : List View) → QueueLaw u p views
    → 3 ≤ (view_at views 0).stand.laid → LeftOver views (view_at views 0).stand.left
left_over u p views law laid =
    let h = law.0 in let ts = law.1 in let t = law.2 in
    let f = law.3.phase.shut laid in
    record {
      even = λ x.
          let all = ap (item_times x) (all_items h ts f.1 law.3.counted.order)
          ∙ times_append x ts (sent_items (drop (length ts + 1) h)) in
          let e = ap (item_times x) f.2 in
          let b = law.3.counted.pushed x in
          let d = law.3.counted.popped x in omega arith;
      pushes = sends h;
      pops = ts;
      all = send_items (drop 1 h)
          ∙ (all_items h ts f.1 law.3.counted.order ∙ ap (λ z. taken_items ts ++ z) (sym f.2));
      pushed = law.3.ordered.pushed;
      popped = law.3.ordered.popped;
    }
