-- The deciding exchange of a push, in a doubly linked queue.
use Rattle.std.proofs.Common.{◌≡◌, ◌≢◌, inl, ⊎_elim, ℕ, ◌+◌, ◌<◌, true, List, [], ◌∷◌, ◌++◌, length, set, ap, sym, ◌∙◌, subst, arith}
use Rattle.plain_protocol.specs.plain_state.State.{Plain, seat_at}
use Rattle.plain_protocol.specs.plain_state.Lawful.{Lawful}
use Rattle.plain_protocol.specs.plain_state.Steps.{Does}
use Rattle.plain_protocol.specs.Owns.{own_part}
use Rattle.queue_law.specs.Words.{slot_at, cell_at, times, held_times}
use Rattle.queue_law.specs.Views.{Double, Taken, View, view_at}
use Rattle.queue_law.specs.Chain.{Ends, Sent, sent, Present, Leads, Solid, HasItem, WasLinked, TailAt}
use Rattle.queue_law.specs.Notes.{Sees, SeesAt, Flies, HasFlight, Flights}
use Rattle.queue_law.specs.Law.{Queue, QueueLaw}
use Rattle.queue_law.specs.Writes.{CellSet}
use Rattle.queue_law.specs.Owned.{Keeps}
use Rattle.queue_law.specs.Pushes.{PushReady, carried_item, ExchangeReady, takes_off, flying_view, exchange_next}
use Rattle.queue_law.proofs.Kit.{held_live, own_life}
use Rattle.queue_law.proofs.Effects.{tried_cell}
use Rattle.queue_law.proofs.Chain.{the_tail, the_head, tail_last, present_in, same_node, old_node, new_node, longer}
use Rattle.queue_law.proofs.ChainGrows.{lead_exchange, exchange_chain}
use Rattle.queue_law.proofs.Notes.{grows, LeadsOn, sees_on, view_here}
use Rattle.queue_law.proofs.Calm.{same_law, to_true, to_false}
use Rattle.queue_law.proofs.Pushing.{push_attached, push_sees, push_carries, push_live, push_life, push_new, push_unlinked, push_has, push_keeps}

-- the tail cell held the node that was seen, and gets the seat's own
module _ (u : Ends) (cells : u.head ≢ u.tail) (p q : Plain) (views : List View) (n : ℕ) (v : View)
    (old node : ℕ) (lawful : Lawful p) (h : List Sent) (ts : List Taken) (t : ℕ)
    (law : Queue u p views h ts t) (low : n < length views) (at : view_at views n ≡ v)
    (owned : 0 < times node (seat_at p n).owned) (r : PushReady (own_part p n) v node)
    (double : u.form ≡ Double) (held : 0 < held_times old (seat_at p n))
    (seen : v.eyes.node ≡ old + 1) (seen_life : (slot_at p old).life ≡ v.eyes.life)
    (helped : v.eyes.helped ≡ true) (backed : v.load.back ≡ v.eyes.node)
    (tail : cell_at p u.tail ≡ old + 1) (w : CellSet p q u.tail (node + 1)) where
  abbrev e : Sent
  e = record { node = node; life = v.load.life; item = carried_item v; sender = v.number }

  is_attached : cell_at p u.head ≢ 0
  is_attached = push_attached u p q views n v node lawful h ts t law low at owned r w.objects w.second

  at_tail : TailAt u p h t
  at_tail = the_tail u p h (length ts) t law.chain is_attached

  sees : (i : ℕ) × SeesAt p h (length ts) t v.eyes i
  sees =
      push_sees u p q views n v node lawful h ts t law low at owned r w.objects w.second
      (λ z. omega arith)

  at_old : (sent h sees.0).node ≡ old
  at_old = let a = sees.1.node in omega arith

  here : Present p (sent h sees.0)
  here =
      present_in u p h (length ts) t law.chain sees.0 old sees.1.inside at_old
      (held_live p n old lawful held) (seen_life ∙ sym sees.1.life)

  -- the node that was seen is the tail's, and so the last
  is_last_one : sees.0 ≡ t
  is_last_one =
      let b = at_tail in
      let is : (sent h t).node ≡ old = let z = b.holds in omega arith in
      same_node u p h (length ts) t law.chain sees.0 t sees.1.inside b.inside here b.is (at_old ∙ sym is)

  ends : t + 1 ≡ length h
  ends =
      let b = at_tail.inside in
      let x = tail_last u p h (length ts) t law.chain double (omega arith) in omega arith

  its_back : (slot_at p node).back ≡ (sent h t).node + 1
  its_back =
      let c = push_carries u p q views n v node lawful h ts t law low at owned r w.objects w.second in
      let live = push_live u p q views n v node lawful h ts t law low at owned r w.objects w.second in
      let life = push_life u p q views n v node lawful h ts t law low at owned r w.objects w.second in
      c.backed node r.fresh live life
      ∙ (backed ∙ (sym sees.1.node ∙ ap (λ z. (sent h z).node + 1) is_last_one))

  solid : Solid p (sent h t).node (sent h t).life
  solid = let b = at_tail in (b.is.1, λ z. let x = sym b.is.0 ∙ z in omega arith)

  done : (i : ℕ) → i + 1 ≡ t → Present p (sent h i) → Leads p h i
  done i is = sees.1.helped helped i (let x = is_last_one in omega arith)

  new : Present p e
  new = push_new u p q views n v node lawful h ts t law low at owned r w.objects w.second

  unlinked : ¬ (WasLinked h e.node e.life)
  unlinked = push_unlinked u p q views n v node lawful h ts t law low at owned r w.objects w.second

  has : HasItem p e
  has = push_has u p q views n v node lawful h ts t law low at owned r w.objects w.second

  on : LeadsOn p q h (h ++ e ∷ [])
  on = lead_exchange u cells p q h
      (length ts) t e law.chain double ends done new unlinked has its_back solid w

  flies_now : Flies (h ++ e ∷ []) (takes_off v)
  flies_now is_some =
      let s = sees.1 in
      let z = longer h e in
      let l = ends in
      let i = is_last_one in
      let f = r.fresh in
      let lows = s.inside in (
        t,
        record {
          inside = omega arith;
          prev =
              ap (λ (z : Sent). z.node + 1) (old_node h e t (omega arith))
              ∙ (ap (λ z. (sent h z).node + 1) (sym i) ∙ s.node);
          prev_life =
              ap (λ (z : Sent). z.life) (old_node h e t (omega arith))
              ∙ (ap (λ z. (sent h z).life) (sym i) ∙ s.life);
          node = ap (λ (z : Sent). z.node + 1) (new_node h e (t + 1) (sym l)) ∙ sym f;
          life = ap (λ (z : Sent). z.life) (new_node h e (t + 1) (sym l));
        },
      )

  flights_now : Flights u q (h ++ e ∷ []) (set views n (flying_view v))
  flights_now d i is at_i null =
      let z = longer h e in
      let is_new = new_node h e (i + 1) (omega arith) in (
        n,
        subst (HasFlight (sent (h ++ e ∷ []) (i + 1))) (sym (view_here views n (flying_view v) low))
            (inl (ap (λ (z : Sent). z.node + 1) is_new ∙ sym r.fresh, ap (λ (z : Sent). z.life) is_new)),
      )

  pub exchange_keeps : Queue u q (set views n (flying_view v)) (h ++ e ∷ []) ts (length h)
  exchange_keeps =
      let head = w.other u.head cells in
      let lows = at_tail.inside in
      let kl = (the_head u p h (length ts) t law.chain is_attached).inside in
      push_keeps u p q views n v node lawful h ts t law low at owned r w.objects w.second
      (length h) v.eyes
      (takes_off v) (omega arith) (omega arith) w.back head
      (exchange_chain u cells p q h (length ts) t e law.chain double ends done new unlinked has its_back
      solid w kl)
      on
      (sees_on p q h (h ++ e ∷ []) (length ts) (length ts) t (length h) v.eyes (grows h e) (omega arith)
      (omega arith) on (subst (λ (z : View). Sees p h (length ts) t z.eyes) at (law.known.sees n)))
      flies_now flights_now

pub exchange_deed : (u : Ends) → u.head ≢ u.tail → Keeps (QueueLaw u) (ExchangeReady u) exchange_next
exchange_deed u cells p q views n v step found lawful law is stays_on r d =
    let st = tried_cell p q n u.tail r.old r.node found (subst (λ a. Does p n a found q) r.act_is d) in
    ⊎_elim
    (λ hit.
    let tail : cell_at p u.tail ≡ r.old + 1 = sym st.0 ∙ hit.0 in
    let life = sym (own_life p n r.old r.held) ∙ r.seen_life in
    let k = exchange_keeps u cells p q views n v r.old r.node lawful law.0 law.1 law.2 law.3 is.0 is.1 hit.1
    r.push r.form r.held r.seen life r.helped r.backed tail hit.2 in
    subst (λ z. QueueLaw u q (set views n z))
    (to_true found v.eyes.node v (flying_view v) (hit.0 ∙ sym r.seen)) (_, _, _, k))
    (λ miss.
    subst (λ z. QueueLaw u q (set views n z))
    (to_false found v.eyes.node v (flying_view v) (λ e. miss.0 (e ∙ r.seen)))
    (same_law u p q views n v is.0 is.1 miss.1 law))
    st.1
