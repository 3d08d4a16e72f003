-- What every push does to the law: the history gains the seat's own node.
use Rattle.std.proofs.Common.{◌≡◌, ◌≢◌, ⊎_elim, ℕ, ◌+◌, ◌-◌, ◌<◌, ◌≤◌, List, [], ◌∷◌, ◌++◌, length, set, refl, ap, sym, ◌∙◌, subst, arith}
use Rattle.plain_protocol.specs.plain_state.State.{Plain, seat_at}
use Rattle.plain_protocol.specs.plain_state.Lawful.{Lawful}
use Rattle.plain_protocol.specs.Owns.{own_part}
use Rattle.queue_law.specs.Words.{slot_at, cell_at, Live, times}
use Rattle.queue_law.specs.Views.{Taken, View, Eyes, Flight, no_load, view_at}
use Rattle.queue_law.specs.Chain.{Ends, Sent, Present, HasItem, WasLinked, Chain}
use Rattle.queue_law.specs.Notes.{Sees, SeesAt, Emptied, Carries, Flies, Flights}
use Rattle.queue_law.specs.Law.{Queue}
use Rattle.queue_law.specs.Writes.{SameObjects}
use Rattle.queue_law.specs.Pushes.{PushReady, carried_item, pushed_view}
use Rattle.queue_law.proofs.Kit.{held_live, own_life, own_payload}
use Rattle.queue_law.proofs.Chain.{linked_less}
use Rattle.queue_law.proofs.Notes.{grows, LeadsOn, emptied_on, CarryOn, carry_same, carries_none, IsNamed, known_set}
use Rattle.queue_law.proofs.Counts.{counted_push, laid_set, phase_over}
use Rattle.queue_law.proofs.Orders.{ordered_push}

-- the seat's own node, which it can push, and a step that changes no object and no field 1
module _ (u : Ends) (p q : Plain) (views : List View) (n : ℕ) (v : View) (node : ℕ) (lawful : Lawful p)
    (h : List Sent) (ts : List Taken) (t : ℕ) (law : Queue u p views h ts t) (low : n < length views)
    (at : view_at views n ≡ v) (owned : 0 < times node (seat_at p n).owned)
    (r : PushReady (own_part p n) v node) (o : SameObjects p q)
    (second : (s : ℕ) → (slot_at q s).second ≡ (slot_at p s).second) where
  abbrev entry : Sent
  entry = record { node = node; life = v.load.life; item = carried_item v; sender = v.number }

  pub push_attached : cell_at p u.head ≢ 0
  push_attached = law.known.attached n (ap (λ (z : View). z.attached) at ∙ r.attached)

  pub push_sees : v.eyes.node ≢ 0 → (i : ℕ) × SeesAt p h (length ts) t v.eyes i
  push_sees = subst (λ (z : View). Sees p h (length ts) t z.eyes) at (law.known.sees n)

  pub push_carries : Carries p h v.load
  push_carries = subst (λ (z : View). Carries p h z.load) at (law.known.carries n)

  pub push_live : Live p node
  push_live = held_live p n node lawful (omega arith)

  pub push_life : (slot_at p node).life ≡ v.load.life
  push_life = sym (own_life p n node (omega arith)) ∙ r.fresh_life

  pub push_new : Present p entry
  push_new = (push_live, push_life, sym (own_payload p n node (omega arith)) ∙ r.is_node)

  pub push_unlinked : ¬ (WasLinked h node v.load.life)
  push_unlinked = push_carries.unlinked node r.fresh

  pub push_has : HasItem p entry
  push_has =
      let b = push_carries.carried node r.fresh push_live push_life r.item r.carried in
      let c = r.carried in
      let slot : v.load.item - 1 ≡ r.item = omega arith in (
        b.0 ∙ omega arith,
        ap (λ z. (slot_at p z).life) slot ∙ b.1,
        ap (λ z. (slot_at p z).payload) slot ∙ b.2,
      )

  -- no other seat's node is this one
  pub push_others : ((s : ℕ) → (slot_at q s).back ≡ (slot_at p s).back) → (m : ℕ) → m ≢ n
      → CarryOn p q h (h ++ entry ∷ []) (view_at views m).load
  push_others back m ne =
      carry_same p q h (h ++ entry ∷ []) (view_at views m).load o
      (λ s es l. ⊎_elim
      (λ old. old)
      (λ x. absurd (ne (sym (law.known.apart n m
      (λ z. let b = ap (λ (y : View). y.load.node) at in let f = r.fresh in omega arith)
      (ap (λ (y : View). y.load.node) at ∙ (r.fresh ∙ (ap (λ z. z + 1) x.0 ∙ sym es)))
      (ap (λ (y : View). y.load.life) at ∙ x.1)))))
      (linked_less h entry s (view_at views m).load.life l))
      (λ s es z. second s) (λ s es z. back s)

  abbrev after : Eyes → Flight → View
  after eyes flight = record (pushed_view v) { eyes = eyes; flight = flight }

  -- the law goes on, with the node in the history and the item in the seat's list
  pub push_keeps : (t' : ℕ) (eyes : Eyes) (flight : Flight) → t ≤ t' → 0 < length h
      → ((s : ℕ) → (slot_at q s).back ≡ (slot_at p s).back)
      → cell_at q u.head ≡ cell_at p u.head → Chain u q (h ++ entry ∷ []) (length ts) t'
      → LeadsOn p q h (h ++ entry ∷ []) → Sees q (h ++ entry ∷ []) (length ts) t' eyes
      → Flies (h ++ entry ∷ []) flight → Flights u q (h ++ entry ∷ []) (set views n (after eyes flight))
      → Queue u q (set views n (after eyes flight)) (h ++ entry ∷ []) ts t'
  push_keeps t' eyes flight later some_node back head chain on sees flies flights =
      let w = after eyes flight in
      let here = ap (λ (z : View). z.here) at ∙ r.here in
      let named = subst (IsNamed u n) at (law.known.number n) in
      record {
        chain = chain;
        known = known_set u p q h (h ++ entry ∷ []) (length ts) (length ts) t t' n views w law.known low
            (grows h entry) (omega arith) later on (push_others back) sees
            (emptied_on h (h ++ entry ∷ []) (length ts) (length ts) w (grows h entry) (omega arith)
            (subst (Emptied h (length ts)) at (law.known.emptied n)))
            (carries_none q (h ++ entry ∷ []) no_load refl) flies (λ m ne is_some. absurd (is_some refl))
            named (λ is z. push_attached (sym head ∙ z)) (λ was z. was (sym head ∙ z));
        flights = flights;
        counted = counted_push h ts views n w entry v.number law.counted low (omega arith)
            (ap (λ (z : View). z.pushed ++ record { item = carried_item v; taker = v.number } ∷ [])
            (sym at))
            (ap (λ (z : View). z.popped) (sym at));
        ordered = ordered_push h ts views n w entry v.number law.ordered low (omega arith) here r.here
            (named r.here).0 refl
            (ap (λ (z : View). z.pushed ++ record { item = carried_item v; taker = v.number } ∷ [])
            (sym at))
            (ap (λ (z : View). z.popped) (sym at));
        phase = phase_over u p q h (h ++ entry ∷ []) ts ts (view_at views 0) (view_at (set views n w) 0)
            push_attached (laid_set views n w low (ap (λ (z : View). z.stand) (sym at))) law.phase;
      }
