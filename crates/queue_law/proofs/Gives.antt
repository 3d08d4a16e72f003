-- What the law gives: what waits, and in which order.
use Rattle.std.proofs.Common.{◌≡◌, ◌≢◌, inl, inr, ⊎_elim, ℕ, zero, suc, ◌+◌, ◌-◌, ◌<◌, ◌≤◌, List, [], ◌∷◌, ◌++◌, length, get_or, drop, map, refl, ap, sym, ◌∙◌, subst, arith}
use Rattle.std.specs.Prelude.{cond}
use Rattle.std.proofs.lemmas.Bool.{cases_lt}
use Rattle.plain_protocol.specs.plain_state.State.{Plain}
use Rattle.queue_law.specs.Words.{slot_at, cell_at}
use Rattle.queue_law.specs.Views.{Item, Taken, View, no_item, view_at}
use Rattle.queue_law.specs.Chain.{Ends, Sent, no_sent, sent, Leads, Missing, HeadAt, TailAt, Chain}
use Rattle.queue_law.specs.Notes.{HasFlight, Flights}
use Rattle.queue_law.specs.Lists.{taken, same_item, item_times, sent_items, taken_items, sends}
use Rattle.queue_law.specs.Law.{QueueLaw}
use Rattle.queue_law.specs.Promises.{Follows, Far, Waiting, Conserved, InOrder}
use Rattle.std.proofs.lemmas.List.{drop_more}
use Rattle.std.proofs.lemmas.List.Sums.{sum_by-cons}
use Rattle.queue_law.proofs.Chain.{the_tail, the_head, tail_last, leads_inner, chain_present, same_node}

past_all : {A : Type 0} (n : ℕ) (l : List A) → length l ≤ n → drop n l ≡ []
past_all zero [] e = refl
past_all (suc n) [] e = refl
past_all zero (x ∷ l) e = absurd (omega arith)
past_all (suc n) (x ∷ l) e = past_all n l (omega arith)

-- the items of m nodes behind node i
abbrev pub seg : ℕ → ℕ → List Sent → List Item
seg i zero h = []
seg i (suc m) h = (sent h (i + 1)).item ∷ seg (i + 1) m h

pub seg_all : (i m : ℕ) (h : List Sent) → i + 1 + m ≡ length h → sent_items (drop (i + 1) h) ≡ seg i m h
seg_all i zero h e = ap sent_items (past_all (i + 1) h (omega arith))
seg_all i (suc m) h e = ap sent_items (drop_more h (i + 1) no_sent (omega arith))
    ∙ ap (λ z. (sent h (i + 1)).item ∷ z) (seg_all (i + 1) m h (omega arith))

seg_last : (i m : ℕ) (h : List Sent) → seg i (suc m) h ≡ seg i m h ++ (sent h (i + m + 1)).item ∷ []
seg_last i zero h = let e : i + zero + 1 ≡ i + 1 = omega arith in ap (λ z. (sent h z).item ∷ []) (sym e)
seg_last i (suc m) h = let e : i + 1 + m + 1 ≡ i + suc m + 1 = omega arith in
    ap (λ z. (sent h (i + 1)).item ∷ z)
    (seg_last (i + 1) m h ∙ ap (λ z. seg (i + 1) m h ++ (sent h z).item ∷ []) e)

module _ (u : Ends) (p : Plain) (h : List Sent) (k t : ℕ) (c : Chain u p h k t) (a : HeadAt u p h k) where
  -- the chain from node i to node i + m, where all but the last lead on
  follows_from : (m i : ℕ) → i + m < length h → k ≤ i → ((j : ℕ) → i ≤ j → j < i + m → Leads p h j)
      → (slot_at p (sent h (i + m)).node).first ≡ 0 → Follows p (sent h i).node (seg i m h)
  follows_from zero i low le leads null = let e : i + zero ≡ i = omega arith in
      subst (λ z. (slot_at p (sent h z).node).first ≡ 0) e null
  follows_from (suc m) i low le leads null =
      let l = (leads i (omega arith) (omega arith)).0 in
      let x = a.items (i + 1) (omega arith) (omega arith) in
      let e : i + suc m ≡ i + 1 + m = omega arith in (
        (sent h (i + 1)).node,
        l,
        x,
        follows_from m (i + 1) (omega arith) (omega arith)
            (λ j ij jm. leads j (omega arith) (omega arith))
            (subst (λ z. (slot_at p (sent h z).node).first ≡ 0) e null),
      )

  far_from : (m i : ℕ) → ((j : ℕ) → i ≤ j → j < i + m → Leads p h j)
      → Far p m (sent h i).node (sent h (i + m)).node
  far_from zero i leads = let e : i ≡ i + zero = omega arith in ap (λ z. (sent h z).node) e
  far_from (suc m) i leads = let e : i + 1 + m ≡ i + suc m = omega arith in (
    (sent h (i + 1)).node,
    (leads i (omega arith) (omega arith)).0,
    subst
        (λ z. Far p m (sent h (i + 1)).node (sent h z).node) e
        (far_from m (i + 1) (λ j ij jm. leads j (omega arith) (omega arith))),
  )

  -- where the last link is missing, the walk ends before the last node
  far_short : (d i : ℕ) (b : ℕ) → k ≤ i → i + 1 < length h
      → ((j : ℕ) → j + 2 ≡ length h → (slot_at p (sent h j).node).first ≡ 0) → Far p d (sent h i).node b
      → (j : ℕ) × (k ≤ j) × (j + 1 < length h) × ((sent h j).node ≡ b)
  far_short zero i b le low null f = (i, le, low, f)
  far_short (suc d) i b le low null f =
      ⊎_elim
      (λ more.
      let at = chain_present u p h k t c a i le (omega arith) in
      let l = (leads_inner u p h k t c i more at).0 in
      let next : (sent h (i + 1)).node ≡ f.0 = let y = f.1 in omega arith in
      far_short d (i + 1) b (omega arith) (omega arith) null (subst (λ z. Far p d z b) (sym next) f.2))
      (λ past. let e = null i (omega arith) in let y = f.1 in absurd (omega arith))
      (cases_lt (i + 2) (length h))

  module _ (views : List View) (b : TailAt u p h t) (flights : Flights u p h views) where
    -- all links are there
    full : ((j : ℕ) → k ≤ j → j + 1 < length h → Leads p h j)
        → Waiting u p views (sent_items (drop (k + 1) h))
    full leads =
        let low = a.inside in
        let m = length h - 1 - k in
        let e : k + (length h - 1 - k) + 1 ≡ length h = omega arith in
        let all : (j : ℕ) → k ≤ j → j < k + (length h - 1 - k) → Leads p h j = λ j le l. leads j le
        (omega arith) in
        let at = chain_present u p h k t c a (k + (length h - 1 - k)) (omega arith) (omega arith) in
        record {
          first = (sent h k).node;
          head = a.holds;
          linked = seg k m h;
          follows = follows_from m k (omega arith) (omega arith) all (c.ends (k + m) e at);
          which = inl (record {
            same = seg_all k m h (omega arith);
            on = λ double.
                let x = tail_last u p h k t c double (omega arith) in
                let is : k + (length h - 1 - k) ≡ t = omega arith in (
                  (sent h t).node,
                  b.holds,
                  (m, subst (λ z. Far p m (sent h k).node (sent h z).node) is (far_from m k all)),
                );
          });
        }

    -- the last one is missing
    missing : (i : ℕ) → Missing u p h k i → Waiting u p views (sent_items (drop (k + 1) h))
    missing i m =
        let le = m.ahead in
        let ie = m.last in
        let x = tail_last u p h k t c m.double (omega arith) in
        let it : i + 1 ≡ t = omega arith in
        let e : k + (i - k) ≡ i = omega arith in
        let e' : k + (i - k) + 1 ≡ t = omega arith in
        let pr = chain_present u p h k t c a i le (omega arith) in
        record {
          first = (sent h k).node;
          head = a.holds;
          linked = seg k (i - k) h;
          follows = follows_from (i - k) k (omega arith) (omega arith)
              (λ j ij jm. leads_inner u p h k t c j (omega arith)
              (chain_present u p h k t c a j ij (omega arith)))
              (ap (λ z. (slot_at p (sent h z).node).first) e ∙ m.null);
          which = inr (record {
            double = m.double;
            last = (sent h t).node;
            tail = b.holds;
            off = λ on.
                let f = far_short on.0 k (sent h t).node (omega arith) (omega arith)
                (λ j je. let ji : j ≡ i = omega arith in ap (λ z. (slot_at p (sent h z).node).first) ji
                ∙ m.null)
                on.1 in
                let at = chain_present u p h k t c a f.0 f.1 (let z = f.2 in omega arith) in
                let low = f.2 in
                let same = same_node u p h k t c f.0 t (omega arith) b.inside at b.is f.3 in
                absurd (omega arith);
            item = (sent h t).item;
            has = a.items t (omega arith) b.inside;
            more =
                seg_all k (suc (i - k)) h (omega arith)
                ∙ (seg_last k (i - k) h ∙ ap (λ z. seg k (i - k) h ++ (sent h z).item ∷ []) e');
            flies =
                let g = flights m.double i ie pr m.null in (
                  g.0,
                  subst (λ z. HasFlight (record {
                    node = (sent h t).node;
                    life = z;
                    item = no_item;
                    sender = 0;
                  }) (view_at views g.0))
                      (sym b.is.1)
                      (subst (λ z. HasFlight (record {
                        node = (sent h z).node;
                        life = (sent h z).life;
                        item = no_item;
                        sender = 0;
                      }) (view_at views g.0))
                      it g.1),
                );
          });
        }

    pub waits : Waiting u p views (sent_items (drop (k + 1) h))
    waits =
        let low = a.inside in
        ⊎_elim
        (λ more.
        let i = length h - 2 in
        let ki : k ≤ length h - 2 = omega arith in
        let ie : length h - 2 + 2 ≡ length h = omega arith in
        ⊎_elim
        (λ lead. full (λ j le l. ⊎_elim
        (λ inner. leads_inner u p h k t c j inner (chain_present u p h k t c a j le (omega arith)))
        (λ past. let e : length h - 2 ≡ j = omega arith in subst (Leads p h) e lead)
        (cases_lt (j + 2) (length h))))
        (λ m. missing i m)
        (c.links i (omega arith) (chain_present u p h k t c a i ki (omega arith))))
        (λ past. full (λ j le l. absurd (omega arith)))
        (cases_lt (k + 1) (length h))

-- the pops are the first of the pushes
pops_first : (ts : List Taken) (l : List Sent)
    → ((i : ℕ) → i < length ts → (i < length l) × ((taken ts i).item ≡ (sent l i).item))
    → sent_items l ≡ taken_items ts ++ sent_items (drop (length ts) l)
pops_first [] l e = refl
pops_first (t ∷ ts) [] e = let z = (e 0 (omega arith)).0 in absurd (omega arith)
pops_first (t ∷ ts) (x ∷ l) e =
    let here : x.item ≡ t.item = sym (e 0 (omega arith)).1 in
    let rest = pops_first ts l (λ i low. let z = e (suc i) (omega arith) in
    ((let y = z.0 in omega arith), z.1)) in
    λ i. here i ∷ rest i

drop_one : (h : List Sent) (i : ℕ) → sent (drop 1 h) i ≡ sent h (i + 1)
drop_one [] i = refl
drop_one (x ∷ h) i = let e : suc i ≡ i + 1 = omega arith in ap (λ z. get_or (x ∷ h) z no_sent) e

drop_both : (n : ℕ) (h : List Sent) → drop n (drop 1 h) ≡ drop (n + 1) h
drop_both n [] = past_all n [] (omega arith) ∙ sym (past_all (n + 1) [] (omega arith))
drop_both n (x ∷ h) = let e : suc n ≡ n + 1 = omega arith in ap (λ z. drop z (x ∷ h)) e

less_one : (h : List Sent) → 0 < length h → length (drop 1 h) + 1 ≡ length h
less_one [] low = absurd (omega arith)
less_one (x ∷ h) low = omega arith

pub send_items : (l : List Sent)
    → taken_items (map (λ (e : Sent). record { item = e.item; taker = e.sender }) l) ≡ sent_items l
send_items [] = refl
send_items (x ∷ l) = ap (λ z. x.item ∷ z) (send_items l)

pub all_items : (h : List Sent) (ts : List Taken) → 0 < length h
    → ((i : ℕ) → i < length ts → (i + 1 < length h) × ((taken ts i).item ≡ (sent h (i + 1)).item))
    → sent_items (drop 1 h) ≡ taken_items ts ++ sent_items (drop (length ts + 1) h)
all_items h ts low o = pops_first ts (drop 1 h) (λ i l. let z = o i l in let y = less_one h low in
    (omega (arith, z.0), z.1 ∙ ap (λ (w : Sent). w.item) (sym (drop_one h i))))
    ∙ ap (λ l. taken_items ts ++ sent_items l) (drop_both (length ts) h)

pub times_append : (x : Item) (a : List Taken) (b : List Item)
    → item_times x (taken_items a ++ b) ≡ item_times x (taken_items a) + item_times x b
unfolding item_times
times_append x [] b = omega arith
times_append x (t ∷ a) b =
    let c = sum_by-cons (λ (z : Item). cond (same_item x z) 1 0) t.item (taken_items a ++ b) in
    let d = sum_by-cons (λ (z : Item). cond (same_item x z) 1 0) t.item (taken_items a) in
    let e = times_append x a b in omega arith

pub conserved : (u : Ends) (p : Plain) (views : List View) → QueueLaw u p views → cell_at p u.head ≢ 0
    → Conserved u p views
conserved u p views law is_some =
    let h = law.0 in let ts = law.1 in let t = law.2 in let c = law.3.chain in
    let a = the_head u p h (length ts) t c is_some in
    let low = a.inside in
    record {
      waiting = sent_items (drop (length ts + 1) h);
      waits = waits u p h (length ts) t c a views (the_tail u p h (length ts) t c is_some) law.3.flights;
      even = λ x.
          let all = ap (item_times x) (all_items h ts (omega arith) law.3.counted.order)
          ∙ times_append x ts (sent_items (drop (length ts + 1) h)) in
          let b = law.3.counted.pushed x in
          let d = law.3.counted.popped x in omega arith;
    }

pub in_order : (u : Ends) (p : Plain) (views : List View) → QueueLaw u p views → cell_at p u.head ≢ 0
    → InOrder u p views
in_order u p views law is_some =
    let h = law.0 in let ts = law.1 in let t = law.2 in let c = law.3.chain in
    let a = the_head u p h (length ts) t c is_some in
    let low = a.inside in
    record {
      pushes = sends h;
      pops = ts;
      waiting = sent_items (drop (length ts + 1) h);
      waits = waits u p h (length ts) t c a views (the_tail u p h (length ts) t c is_some) law.3.flights;
      all = send_items (drop 1 h) ∙ all_items h ts (omega arith) law.3.counted.order;
      pushed = law.3.ordered.pushed;
      popped = law.3.ordered.popped;
    }
