-- The exchange of the head cell: a pop takes an item.
use Rattle.std.proofs.Common.{◌≡◌, ◌≢◌, ⊎_elim, ℕ, ◌+◌, ◌-◌, ◌<◌, true, List, [], ◌∷◌, ◌++◌, length, set, refl, ap, sym, ◌∙◌, subst, arith}
use Rattle.plain_protocol.specs.plain_state.State.{Plain, seat_at}
use Rattle.plain_protocol.specs.plain_state.Lawful.{Lawful}
use Rattle.plain_protocol.specs.plain_state.Steps.{Does}
use Rattle.plain_protocol.specs.Owns.{own_part}
use Rattle.queue_law.specs.Words.{slot_at, cell_at, times, held_times, life_in, payload_in}
use Rattle.queue_law.specs.Views.{Item, Taken, View, view_at}
use Rattle.queue_law.specs.Chain.{Ends, Sent, sent, Present, Leads, HeadAt, Chain}
use Rattle.queue_law.specs.Notes.{Sees, SeesAt, Emptied, Carries, Flies}
use Rattle.queue_law.specs.Law.{Queue, QueueLaw}
use Rattle.queue_law.specs.Writes.{CellSet}
use Rattle.queue_law.specs.Owned.{Keeps}
use Rattle.queue_law.specs.Pops.{TakeReady, popped_item, popped_view, take_next}
use Rattle.std.proofs.lemmas.List.{length_push}
use Rattle.queue_law.proofs.Kit.{own_life, own_payload}
use Rattle.queue_law.proofs.Effects.{tried_cell}
use Rattle.queue_law.proofs.ChainWrites.{head_chain}
use Rattle.queue_law.proofs.Notes.{unchanged, LeadsOn, sees_on, carries_on, carry_same, IsNamed, known_set}
use Rattle.queue_law.proofs.Counts.{counted_pop, laid_set, phase_over}
use Rattle.queue_law.proofs.Orders.{ordered_pop}
use Rattle.queue_law.proofs.Seen.{flights_same, firsts_lead}
use Rattle.queue_law.proofs.Calm.{same_law, to_true, to_false}

item_is : (x y : Item) → x.slot ≡ y.slot → x.life ≡ y.life → x.payload ≡ y.payload → x ≡ y
item_is x y a b c = λ i. record { slot = a i; life = b i; payload = c i }

-- TAKE
module _ (u : Ends) (cells : u.head ≢ u.tail) (p q : Plain) (views : List View) (n : ℕ) (v : View)
    (old new item : ℕ) (lawful : Lawful p) (h : List Sent) (ts : List Taken) (t : ℕ)
    (law : Queue u p views h ts t)
    (low : n < length views) (at : view_at views n ≡ v) (held : 0 < held_times old (seat_at p n))
    (owns : 0 < times new (seat_at p n).owned) (has : 0 < times item (seat_at p n).owned)
    (seen : v.eyes.node ≡ old + 1) (seen_life : (slot_at p old).life ≡ v.eyes.life)
    (following : v.eyes.following ≡ new + 1) (found : v.eyes.found ≡ item + 1)
    (head : cell_at p u.head ≡ old + 1) (is_here : v.here ≡ true) (w : CellSet p q u.head (new + 1)) where
  at_head : HeadAt u p h (length ts)
  at_head = ⊎_elim (λ z. absurd (omega arith)) (λ a. a) law.chain.head

  sees : (i : ℕ) × SeesAt p h (length ts) t v.eyes i
  sees = subst (λ (z : View). Sees p h (length ts) t z.eyes) at (law.known.sees n) (λ z. omega arith)

  -- the node that was seen is the head's, in the same life
  is_first : sees.0 ≡ length ts
  is_first =
      let a = at_head in let s = sees.1 in
      let here : (sent h (length ts)).node ≡ old = let z = a.holds in omega arith in
      let there' : (sent h sees.0).node ≡ old = let z = s.node in omega arith in
      law.chain.apart sees.0 (length ts) s.inside a.inside (there' ∙ sym here)
      (s.life ∙ (sym seen_life ∙ (ap (λ z. (slot_at p z).life) (sym here) ∙ a.is.1)))

  next : (length ts + 1 < length h) × ((sent h (length ts + 1)).node ≡ new)
  next = let u = sees.1.next (λ z. omega arith) in let e = is_first in
      let e1 : sees.0 + 1 ≡ length ts + 1 = omega arith in (
        omega (arith, u.0),
        let z = subst (λ z. (sent h z).node + 1 ≡ v.eyes.following) e1 u.1 in
            omega arith,
      )

  leads : Leads p h (length ts)
  leads = subst (λ z. Present p (sent h z) → Leads p h z) is_first
      (sees.1.leads (λ z. omega arith)) at_head.is

  its_item : (sent h (length ts + 1)).item.slot ≡ item
  its_item = let e = is_first in
      let u = sees.1.item (λ z. omega arith) (λ z. omega arith) (omega arith) in
      let e1 : sees.0 + 1 ≡ length ts + 1 = omega arith in
      let z = subst (λ z. (sent h z).item.slot + 1 ≡ v.eyes.found) e1 u in omega arith

  abbrev got : Taken
  got = record { item = popped_item (own_part p n) v; taker = v.number }

  got_is : got.item ≡ (sent h (length ts + 1)).item
  got_is =
      let slot : v.eyes.found - 1 ≡ item = omega arith in
      let i = at_head.items (length ts + 1) (omega arith) next.0 in
      let same : v.eyes.found - 1 ≡ (sent h (length ts + 1)).item.slot = slot ∙ sym its_item in
      item_is got.item (sent h (length ts + 1)).item same
      (ap (life_in (own_part p n)) slot
      ∙ (own_life p n item (omega arith) ∙ (ap (λ z. (slot_at p z).life) (sym its_item) ∙ i.1)))
      (ap (payload_in (own_part p n)) slot
      ∙ (own_payload p n item (omega arith) ∙ (ap (λ z. (slot_at p z).payload) (sym its_item) ∙ i.2)))

  grown : length (ts ++ got ∷ []) ≡ length ts + 1
  grown = length_push ts got

  emptied_now : Emptied h (length (ts ++ got ∷ [])) (popped_view (own_part p n) v)
  emptied_now is_some =
      let b = leads.1 in
      let slot : v.eyes.following - 1 ≡ new = omega arith in
      let g = grown in (
        length ts + 1,
        next.0,
        omega arith,
        (let z = next.1 in omega arith),
        sym b.1 ∙ (ap (λ z. (slot_at p z).life) next.1
            ∙ (sym (own_life p n new (omega arith)) ∙ ap (life_in (own_part p n)) (sym slot))),
      )

  on : LeadsOn p q h h
  on = firsts_lead p q h w.objects w.first

  pub take_keeps : Queue u q (set views n (popped_view (own_part p n) v)) h (ts ++ got ∷ []) t
  take_keeps = record {
    chain = subst (λ z. Chain u q h z t) (sym grown)
        (head_chain u p q h (length ts) t law.chain at_head next.0 leads cells
        (subst (λ z. CellSet p q u.head (z + 1)) (sym next.1) w));
    known = known_set u p q h h (length ts) (length (ts ++ got ∷ [])) t t n views
        (popped_view (own_part p n) v) law.known low (unchanged h) (let g = grown in omega arith)
        (omega arith) on
        (λ m ne. carry_same p q h h (view_at views m).load w.objects (λ s e l. l) (λ s e z. w.second s)
        (λ s e z. w.back s))
        (sees_on p q h h (length ts) (length (ts ++ got ∷ [])) t t v.eyes (unchanged h)
        (let g = grown in omega arith) (omega arith) on
        (subst (λ (z : View). Sees p h (length ts) t z.eyes) at (law.known.sees n)))
        emptied_now
        (carries_on p q h h v.load (carry_same p q h h v.load w.objects (λ s e l. l) (λ s e z. w.second s)
        (λ s e z. w.back s)) (subst (λ (z : View). Carries p h z.load) at (law.known.carries n)))
        (subst (λ (z : View). Flies h z.flight) at (law.known.flies n))
        (λ m ne is_some same life. ne
        (sym (law.known.apart n m (λ z. is_some (ap (λ (y : View). y.load.node) (sym at) ∙ z))
        (ap (λ (y : View). y.load.node) at ∙ same) (ap (λ (y : View). y.load.life) at ∙ life))))
        (subst (IsNamed u n) at (law.known.number n))
        (λ is z. let a = w.here in omega arith)
        (λ was z. let a = w.here in omega arith);
    flights = flights_same u p q h views n v
        (popped_view (own_part p n) v) low at w.objects w.first refl refl law.flights;
    counted = counted_pop h ts views n (popped_view (own_part p n) v) got law.counted low
        (ap (λ (z : View). z.popped ++ got ∷ []) (sym at))
        (ap (λ (z : View). z.pushed) (sym at)) next.0 got_is;
    ordered = ordered_pop h ts views n (popped_view (own_part p n) v) got law.ordered low
        (ap (λ (z : View). z.here) at ∙ is_here) is_here (ap (λ (z : View). z.number) (sym at)
        ∙ (law.known.number n (ap (λ (z : View). z.here) at ∙ is_here)).0)
        (ap (λ (z : View). z.popped ++ got ∷ []) (sym at)) (ap (λ (z : View). z.pushed) (sym at));
    phase = phase_over u p q h h ts (ts ++ got ∷ []) (view_at views 0)
        (view_at (set views n (popped_view (own_part p n) v)) 0) (λ z. absurd (omega arith))
        (laid_set views n (popped_view (own_part p n) v) low
        (ap (λ (z : View). z.stand) (sym at))) law.phase;
  }

pub take_deed : (u : Ends) → u.head ≢ u.tail → Keeps (QueueLaw u) (TakeReady u) take_next
take_deed u cells p q views n v step found lawful law is stays_on ready d =
    let r = ready in
    let here = is in
    let st = tried_cell p q n u.head r.old r.new found (subst (λ a. Does p n a found q) r.act_is d) in
    ⊎_elim
    (λ hit.
    let owned = hit.1 in
    let head : cell_at p u.head ≡ r.old + 1 = sym st.0 ∙ hit.0 in
    let w = hit.2 in
    let k = take_keeps u cells p q views n v r.old r.new r.item lawful law.0 law.1 law.2 law.3 here.0 here.1 r.held owned r.has_item r.seen
    (sym (own_life p n r.old r.held) ∙ r.seen_life) r.following r.found head r.here w in
    subst (λ z. QueueLaw u q (set views n z))
    (to_true found v.eyes.node v (popped_view (own_part p n) v) (hit.0 ∙ sym r.seen)) (_, _, _, k))
    (λ miss. subst (λ z. QueueLaw u q (set views n z))
    (to_false found v.eyes.node v (popped_view (own_part p n) v) (λ e. miss.0 (e ∙ r.seen)))
    (same_law u p q views n v here.0 here.1 miss.1 law))
    st.1
