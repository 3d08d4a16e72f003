-- Steps that change no list, and what a seat that holds a node knows of it.
use Rattle.std.proofs.Common.{◌≡◌, ◌≢◌, ◌⊎◌, inr, ℕ, ◌+◌, ◌<◌, ◌≤◌, true, List, length, set, refl, ap, sym, ◌∙◌, subst, arith}
use Rattle.plain_protocol.specs.plain_state.State.{Plain, seat_at}
use Rattle.plain_protocol.specs.plain_state.Lawful.{Lawful}
use Rattle.plain_protocol.specs.Owns.{own_part}
use Rattle.queue_law.specs.Words.{slot_at, cell_at, Live, held_times, life_in}
use Rattle.queue_law.specs.Views.{Double, Taken, View, Eyes, view_at}
use Rattle.queue_law.specs.Chain.{Ends, Sent, sent, Present, Chain}
use Rattle.queue_law.specs.Notes.{Sees, SeesAt, Emptied, Carries, Flies, HasFlight, Flights, Known}
use Rattle.queue_law.specs.Law.{Queue}
use Rattle.queue_law.specs.Writes.{SameObjects}
use Rattle.queue_law.proofs.Kit.{held_live, own_life}
use Rattle.queue_law.proofs.Chain.{same_present, was_present}
use Rattle.queue_law.proofs.Notes.{unchanged, LeadsOn, leads_stay, CarryOn, carry_stay, IsNamed, known_set}
use Rattle.queue_law.proofs.Counts.{counted_same, laid_set, phase_same, flights_set, flight_as}
use Rattle.queue_law.proofs.Orders.{ordered_same}

-- a step that changes no list
module _ (u : Ends) (p q : Plain) (views : List View) (n : ℕ) (v : View) (h : List Sent) (ts : List Taken)
    (t t' : ℕ) (law : Queue u p views h ts t) (later : t ≤ t') (low : n < length views)
    (at : view_at views n ≡ v)
    (chain : Chain u q h (length ts) t') (head : cell_at q u.head ≡ cell_at p u.head)
    (tail : (0 < length h × (cell_at q u.tail ≢ 0)) ⊎ (cell_at q u.tail ≡ cell_at p u.tail))
    (on : LeadsOn p q h h)
    (others : (m : ℕ) → m ≢ n → CarryOn p q h h (view_at views m).load) where
  pub rewrite_keeps : (w : View) → Sees q h (length ts) t' w.eyes → Emptied h (length ts) w
      → Carries q h w.load → Flies h w.flight → Flights u q h (set views n w) → w.load.node ≡ v.load.node
      → w.load.life ≡ v.load.life
      → w.number ≡ v.number → w.here ≡ v.here → w.form ≡ v.form → w.stand ≡ v.stand
      → (w.attached ≡ true → cell_at q u.head ≢ 0) → w.popped ≡ v.popped → w.pushed ≡ v.pushed
      → Queue u q (set views n w) h ts t'
  rewrite_keeps w sees emptied carries flies flights fresh life number hh ff ll attached pops ups =
      record {
        chain = chain;
        known = known_set u p q h h (length ts) (length ts) t t' n views w law.known low (unchanged h)
            (omega arith) later on others sees emptied carries flies
            (λ m ne is_some same same_life. ne
            (sym (law.known.apart n m (λ z. is_some (fresh ∙ (ap (λ (y : View). y.load.node) (sym at) ∙ z)))
            (ap (λ (y : View). y.load.node) at ∙ (sym fresh ∙ same)) (ap (λ (y : View). y.load.life) at
            ∙ (sym life ∙ same_life)))))
            (λ is. let own = subst (IsNamed u n) at (law.known.number n) (sym hh ∙ is) in
            (number ∙ own.0, ff ∙ own.1))
            attached (λ was z. was (sym head ∙ z));
        flights = flights;
        counted = counted_same h ts views n w law.counted low (pops ∙ ap (λ (z : View). z.popped) (sym at))
            (ups ∙ ap (λ (z : View). z.pushed) (sym at));
        ordered = ordered_same h ts views n w law.ordered low (hh ∙ ap (λ (z : View). z.here) (sym at))
            (pops ∙ ap (λ (z : View). z.popped) (sym at)) (ups ∙ ap (λ (z : View). z.pushed) (sym at));
        phase = phase_same u p q h ts (view_at views 0) (view_at (set views n w) 0) head tail
            (laid_set views n w low (ll ∙ ap (λ (z : View). z.stand) (sym at))) law.phase;
      }

-- a write that is no write of a field 0, by a seat whose flights stay
pub flights_same : (u : Ends) (p q : Plain) (h : List Sent) (views : List View) (n : ℕ) (v w : View)
    → n < length views → view_at views n ≡ v → SameObjects p q
    → ((s : ℕ) → (slot_at q s).first ≡ (slot_at p s).first)
    → w.flight ≡ v.flight → w.flown ≡ v.flown → Flights u p h views → Flights u q h (set views n w)
flights_same u p q h views n v w low at o first a b f = flights_set u p q h views n w low
    (λ i e pr null. (was_present p q o (sent h i) pr, sym (first (sent h i).node) ∙ null))
    (λ i e pr null g. flight_as (sent h (i + 1)) v w a b (subst (HasFlight (sent h (i + 1))) at g)) f

pub same_objects : (p : Plain) → SameObjects p p
same_objects p = record { stage = λ s. refl; life = λ s. refl; payload = λ s. refl }

-- only what a seat sees changes in its view
pub reseen : (u : Ends) (q : Plain) (views : List View) (n : ℕ) (v : View) (w : Eyes) (h : List Sent)
    (ts : List Taken) (t : ℕ) → Queue u q views h ts t → n < length views → view_at views n ≡ v
    → Sees q h (length ts) t w → Queue u q (set views n (record v { eyes = w })) h ts t
reseen u q views n v w h ts t law low at sees =
    let o = law.known in
    rewrite_keeps u q q views n v h ts t t law (omega arith) low at law.chain refl (inr refl)
    (leads_stay q h) (λ m ne. carry_stay q h (view_at views m).load) (record v { eyes = w }) sees
    (subst (Emptied h (length ts)) at (o.emptied n))
    (subst (λ (z : View). Carries q h z.load) at (o.carries n))
    (subst (λ (z : View). Flies h z.flight) at (o.flies n))
    (flights_same u q q h views n v (record v { eyes = w }) low at (same_objects q)
    (λ s. refl) refl refl law.flights)
    refl refl refl refl refl refl (λ a. o.attached n (ap (λ (y : View). y.attached) at ∙ a)) refl refl

-- the seen node is there while the seat holds it
pub seen_here : (u : Ends) (p : Plain) (views : List View) (n : ℕ) (v : View) (node : ℕ) (h : List Sent)
    (ts : List Taken) (t : ℕ) → Lawful p → Queue u p views h ts t → view_at views n ≡ v
    → 0 < held_times node (seat_at p n) → v.eyes.node ≡ node + 1
    → life_in (own_part p n) node ≡ v.eyes.life
    → (s : (i : ℕ) × SeesAt p h (length ts) t v.eyes i) × ((sent h s.0).node ≡ node)
    × Present p (sent h s.0)
seen_here u p views n v node h ts t lawful law at held seen life =
    let s = subst (λ (z : View). Sees p h (length ts) t z.eyes) at (law.known.sees n)
    (λ z. omega arith) in
    let is : (sent h s.0).node ≡ node = let z = s.1.node in omega arith in
    let live : Live p (sent h s.0).node = subst (Live p) (sym is) (held_live p n node lawful held) in
    let lf = ap (λ z. (slot_at p z).life) is ∙ (sym (own_life p n node held) ∙ (life ∙ sym s.1.life)) in
    (s, is, (live, lf, law.chain.nodes s.0 s.1.inside live lf))

-- and so the slot of the one before is in the life in which it was linked
module _ (u : Ends) (p : Plain) (views : List View) (n : ℕ) (v : View) (before node : ℕ) (h : List Sent)
    (ts : List Taken) (t : ℕ) (lawful : Lawful p) (law : Queue u p views h ts t)
    (at : view_at views n ≡ v) (held : 0 < held_times node (seat_at p n))
    (seen : v.eyes.node ≡ node + 1) (life : life_in (own_part p n) node ≡ v.eyes.life)
    (at_before : v.eyes.before ≡ before + 1) (double : u.form ≡ Double) where
  pub sees_it : (s : (i : ℕ) × SeesAt p h (length ts) t v.eyes i) × ((sent h s.0).node ≡ node)
      × Present p (sent h s.0)
  sees_it = seen_here u p views n v node h ts t lawful law at held seen life

  pub before_here : (j : ℕ) × (j + 1 ≡ sees_it.0.0) × ((sent h j).node ≡ before)
      × ((slot_at p before).life ≡ (sent h j).life) × Present p (sent h (j + 1))
  before_here =
      let s = sees_it in
      let b = s.0.1.before (λ z. omega arith) in
      let low = s.0.1.inside in
      let pr : Present p (sent h (b.0 + 1)) = subst (λ z. Present p (sent h z)) (sym b.1) s.2 in
      let is : (sent h b.0).node ≡ before = let z = b.2 in omega arith in
      let so = (law.chain.backs double b.0 (let z = b.1 in omega arith) pr).1 in
      (b.0, b.1, is, ap (λ z. (slot_at p z).life) (sym is) ∙ so.0, pr)

  -- where it is live, it is the node before
  pub before_present : Live p before → Present p (sent h before_here.0)
  before_present live =
      let b = before_here in
      let lv : Live p (sent h b.0).node = subst (Live p) (sym b.2) live in
      let lf = ap (λ z. (slot_at p z).life) b.2 ∙ b.3 in
      (lv, lf, law.chain.nodes b.0 (let z = b.1 in let y = sees_it.0.1.inside in omega arith) lv lf)

-- a write that leaves every object and every field 0
pub firsts_lead : (p q : Plain) (h : List Sent) → SameObjects p q
    → ((s : ℕ) → (slot_at q s).first ≡ (slot_at p s).first) → LeadsOn p q h h
firsts_lead p q h o first i low l at =
    let a = l (was_present p q o (sent h i) at) in
    (first (sent h i).node ∙ a.0, same_present p q o (sent h (i + 1)) a.1)

-- no other seat has this seat's node
pub own_apart : (u : Ends) (p : Plain) (h : List Sent) (k t : ℕ) (views : List View) (n : ℕ) (v : View)
    → Known u p h k t views → view_at views n ≡ v → (m : ℕ) → m ≢ n → v.load.node ≢ 0
    → v.load.node ≡ (view_at views m).load.node → v.load.life ≡ (view_at views m).load.life → ⊥
own_apart u p h k t views n v o at m ne is_some same life =
    ne (sym (o.apart n m (λ z. is_some (ap (λ (y : View). y.load.node) (sym at) ∙ z))
    (ap (λ (y : View). y.load.node) at ∙ same) (ap (λ (y : View). y.load.life) at ∙ life)))
