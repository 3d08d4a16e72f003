-- A seat leaves, and seat 0 takes over what it did.
use Rattle.std.proofs.Common.{◌≡◌, ◌≢◌, ◌⊎◌, inl, inr, ⊎_elim, ℕ, suc, ◌+◌, ◌<◌, Bool, true, false, List, [], ◌∷◌, ◌++◌, length, set, refl, ap, sym, ◌∙◌, subst, arith}
use Rattle.std.specs.Prelude.{cond}
use Rattle.std.proofs.lemmas.Bool.{cases_eq, false≢true}
use Rattle.plain_protocol.specs.plain_state.State.{Plain}
use Rattle.plain_protocol.specs.plain_state.Steps.{Does}
use Rattle.plain_protocol.specs.plain_state.declared.act.PlainAct.TheVariants as act
use Rattle.queue_law.specs.Words.{cell_at}
use Rattle.queue_law.specs.Views.{Item, Taken, View, no_load, no_flight, first_view, joined, view_at}
use Rattle.queue_law.specs.Chain.{Ends, Sent, sent}
use Rattle.queue_law.specs.Notes.{Sees, Emptied, Carries, Flies, IsFlight, HasFlight, Flights}
use Rattle.queue_law.specs.Lists.{same_item, item_times, views_total, taken_items, tagged, home, Kept, sends}
use Rattle.queue_law.specs.Law.{Queue, QueueLaw}
use Rattle.std.proofs.lemmas.List.{length-set, length-append, get_or_append_left, get_or-append-add}
use Rattle.std.proofs.lemmas.List.Sums.{sum_by-cons}
use Rattle.queue_law.proofs.Effects.{slots_of, cells_of}
use Rattle.queue_law.proofs.Notes.{view_here, view_else, carries_none, IsNamed}
use Rattle.queue_law.proofs.Counts.{views_set, phase_same}
use Rattle.queue_law.proofs.Orders.{tagged_append, tagged_none}
use Rattle.queue_law.proofs.Foreign.{aside_queue, none_aside}

-- LEAVE
module _ (views : List View) (j : ℕ) (v w gone : View) (low0 : 0 < length views) (low : j < length views)
    (at0 : view_at views 0 ≡ v) (at : view_at views j ≡ w) (apart : j ≢ 0) where
  -- a property of all views afterwards
  pub each_left : (P : ℕ → View → Type 0) → P 0 (joined v w) → P j gone
      → ((m : ℕ) → m ≢ 0 → m ≢ j → P m (view_at views m)) → (m : ℕ)
      → P m (view_at (set (set views 0 (joined v w)) j gone) m)
  each_left P root left others m = ⊎_elim
      (λ e. subst (λ z. P z (view_at (set (set views 0 (joined v w)) j gone) z)) (sym e)
      (subst (P j) (sym (view_here (set views 0 (joined v w)) j gone
      (let z = length-set views 0 (joined v w) in omega arith))) left))
      (λ ne. ⊎_elim
      (λ e. subst (λ z. P z (view_at (set (set views 0 (joined v w)) j gone) z)) (sym e)
      (subst (P 0) (sym (view_else (set views 0 (joined v w)) j 0 gone (λ z. apart (sym z))
      ∙ view_here views 0 (joined v w) low0)) root))
      (λ ne0. subst (P m) (sym (view_else (set views 0 (joined v w)) j m gone ne
      ∙ view_else views 0 m (joined v w) ne0)) (others m ne0 ne))
      (cases_eq m 0))
      (cases_eq m j)

  pub total_left : (f : View → ℕ) → f (joined v w) ≡ f v + f w → f gone ≡ 0
      → views_total f (set (set views 0 (joined v w)) j gone) ≡ views_total f views
  total_left f both none =
      let a = views_set f views 0 (joined v w) low0 in
      let b = views_set f (set views 0 (joined v w)) j gone (let z = length-set views 0 (joined v w) in
      omega arith) in
      let c = ap f at0 in
      let d = ap f (view_else views 0 j (joined v w) apart ∙ at) in
      omega arith

pub items_append : (x : Item) (a b : List Taken) → item_times x (taken_items (a ++ b)) ≡ item_times x
    (taken_items a) + item_times x (taken_items b)
unfolding item_times
items_append x [] b = omega arith
items_append x (t ∷ a) b =
    let c = sum_by-cons (λ (z : Item). cond (same_item x z) 1 0) t.item (taken_items (a ++ b)) in
    let d = sum_by-cons (λ (z : Item). cond (same_item x z) 1 0) t.item (taken_items a) in
    let e = items_append x a b in omega arith

pub items_none : (x : Item) → item_times x [] ≡ 0
unfolding item_times
items_none x = refl

append_nil : (l : List Item) → l ++ [] ≡ l
append_nil [] = refl
append_nil (x ∷ l) = ap (λ z. x ∷ z) (append_nil l)

module _ (u : Ends) (q : Plain) (views : List View) (j : ℕ) (v w : View) (h : List Sent) (ts : List Taken)
    (t : ℕ) (law : Queue u q views h ts t) (low0 : 0 < length views) (low : j < length views)
    (at0 : view_at views 0 ≡ v) (at : view_at views j ≡ w) (apart : j ≢ 0) where
  abbrev after : List View
  after = set (set views 0 (joined v w)) j first_view

  abbrev each : (P : ℕ → View → Type 0) → P 0 (joined v w) → P j first_view
      → ((m : ℕ) → m ≢ 0 → m ≢ j → P m (view_at views m)) → (m : ℕ) → P m (view_at after m)
  each = each_left views j v w first_view low0 low at0 at apart

  -- a list that both keep
  kept_leave : (f : View → List Taken) (all : List Taken) → f (joined v w) ≡ f v ++ f w
      → f first_view ≡ [] → Kept f all views → Kept f all after
  kept_leave f all both none k = record { own = own_now; none = none_now }
    where
      home_now : (n : ℕ) → ((n ≡ j) × (home after n ≡ 0)) ⊎ ((n ≢ j) × (home after n ≡ home views n))
      home_now n = each (λ m x. ((m ≡ j) × (cond x.here m 0 ≡ 0))
          ⊎ ((m ≢ j) × (cond x.here m 0 ≡ home views m)))
          (inr ((λ z. apart (sym z)), ap (λ (z : View). cond z.here 0 0) (sym at0))) (inl (refl, refl))
          (λ m ne0 ne. inr (ne, refl)) n

      -- the home of j before is j or 0
      home_j : (n : ℕ) → (home views n ≡ n) ⊎ (home views n ≡ 0)
      home_j n = go (view_at views n).here
        where
          go : (b : Bool) → (cond b n 0 ≡ n) ⊎ (cond b n 0 ≡ 0)
          go true = inl refl
          go false = inr refl

      root : (n : ℕ) → tagged n (f (joined v w)) ≡ tagged n (f (view_at views 0)) ++ tagged n
          (f (view_at views j))
      root n = ap (tagged n) both
          ∙ (tagged_append n (f v) (f w)
          ∙ (ap (λ z. tagged n (f z) ++ tagged n (f w)) (sym at0)
          ∙ ap (λ z. tagged n (f (view_at views 0)) ++ tagged n (f z)) (sym at)))

      at_root : view_at after 0 ≡ joined v w
      at_root = each (λ m x. m ≡ 0 → x ≡ joined v w) (λ e. refl) (λ e. absurd (apart e))
          (λ m ne0 ne e. absurd (ne0 e)) 0 refl

      -- where j isn't a seat's home and 0 is, the root has it all
      by_root : (n : ℕ) → home views n ≡ 0 → tagged n (f (joined v w)) ≡ tagged n all
      by_root n e = root n ∙ (ap (λ z. tagged n (f (view_at views 0)) ++ z)
          (k.none n j (λ z. apart (z ∙ e)))
          ∙ (append_nil _ ∙ (ap (λ z. tagged n (f (view_at views z))) (sym e) ∙ k.own n)))

      by_left : (n : ℕ) → home views n ≡ j → tagged n (f (joined v w)) ≡ tagged n all
      by_left n e = root n ∙ (ap (λ z. z ++ tagged n (f (view_at views j)))
          (k.none n 0 (λ z. apart (sym (z ∙ e))))
          ∙ (ap (λ z. tagged n (f (view_at views z))) (sym e) ∙ k.own n))

      own_now : (n : ℕ) → tagged n (f (view_at after (home after n))) ≡ tagged n all
      own_now n = ⊎_elim
          (λ left. ap (λ z. tagged n (f (view_at after z))) left.1
          ∙ (ap (λ z. tagged n (f z)) at_root ∙ ⊎_elim (λ e. by_left n (e ∙ left.0)) (λ e. by_root n e)
          (home_j n)))
          (λ stays. ap (λ z. tagged n (f (view_at after z))) stays.1 ∙ ⊎_elim
          (λ e. ⊎_elim
          (λ zero. ap (λ z. tagged n (f (view_at after z))) zero
          ∙ (ap (λ z. tagged n (f z)) at_root ∙ by_root n zero))
          (λ not. ap (tagged n) (each (λ m x. m ≡ home views n → f x ≡ f (view_at views m))
          (λ z. absurd (not (sym z))) (λ z. absurd (stays.0 (sym e ∙ sym z))) (λ m ne0 ne z. refl)
          (home views n) refl) ∙ k.own n)
          (cases_eq (home views n) 0))
          (λ e. ap (λ z. tagged n (f (view_at after z))) e
          ∙ (ap (λ z. tagged n (f z)) at_root ∙ by_root n e))
          (home_j n))
          (home_now n)

      none_now : (n m : ℕ) → m ≢ home after n → tagged n (f (view_at after m)) ≡ []
      none_now n m not = each (λ i x. i ≢ home after n → tagged n (f x) ≡ [])
          (λ ne. ⊎_elim (λ left. absurd (ne (sym left.1)))
          (λ stays. root n ∙ (ap (λ z. z ++ tagged n (f (view_at views j)))
          (k.none n 0 (λ z. ne (z ∙ sym stays.1)))
          ∙ k.none n j (λ z. ⊎_elim (λ e. stays.0 (sym (z ∙ e))) (λ e. apart (z ∙ e)) (home_j n))))
          (home_now n))
          (λ ne. ap (tagged n) none ∙ tagged_none n)
          (λ i ne0 nej ne. ⊎_elim (λ left. k.none n i
          (λ z. ⊎_elim (λ e. nej (z ∙ (e ∙ left.0))) (λ e. ne0 (z ∙ e)) (home_j n)))
          (λ stays. k.none n i (λ z. ne (z ∙ sym stays.1))) (home_now n))
          m not

  -- a flight of the root stays; one of the seat that leaves joins those of the root
  flight_joined : (e : Sent) → HasFlight e (view_at views 0) → HasFlight e (joined v w)
  flight_joined e g = ⊎_elim (λ z. inl z)
      (λ l. inr (
        l.0,
        (let a = l.1 in let b = length-append v.flown (w.flight ∷ w.flown) in omega arith),
        subst (IsFlight e) (sym (get_or_append_left v.flown (w.flight ∷ w.flown) no_flight l.0 l.1)) l.2,
      ))
      (subst (HasFlight e) at0 g)

  flight_left : (e : Sent) → HasFlight e (view_at views j) → HasFlight e (joined v w)
  flight_left e g = let b = length-append v.flown (w.flight ∷ w.flown) in ⊎_elim
      (λ z. inr (
        length v.flown + 0,
        omega arith,
        subst (IsFlight e)
            (sym (get_or-append-add v.flown (w.flight ∷ w.flown) 0 no_flight)) z,
      ))
      (λ l. inr (
        length v.flown + suc l.0,
        (let a = l.1 in omega arith),
        subst (IsFlight e)
            (sym (get_or-append-add v.flown (w.flight ∷ w.flown) (suc l.0) no_flight)) l.2,
      ))
      (subst (HasFlight e) at g)

  flights_left : Flights u q h after
  flights_left double i e pr null = let g = law.flights double i e pr null in ⊎_elim
      (λ is. (
        0,
        subst (HasFlight (sent h (i + 1))) (sym at_root')
            (flight_joined (sent h (i + 1))
            (subst (λ z. HasFlight (sent h (i + 1)) (view_at views z)) is g.1)),
      ))
      (λ ne0. ⊎_elim
      (λ is. (
        0,
        subst (HasFlight (sent h (i + 1))) (sym at_root')
            (flight_left (sent h (i + 1)) (subst (λ z. HasFlight (sent h (i + 1)) (view_at views z)) is g.1)),
      ))
      (λ ne. (
        g.0,
        each (λ m x. m ≡ g.0 → HasFlight (sent h (i + 1)) x) (λ z. absurd (ne0 (sym z)))
            (λ z. absurd (ne (sym z))) (λ m a b z. subst (λ y. HasFlight (sent h (i + 1)) (view_at views y))
            (sym z) g.1) g.0 refl,
      ))
      (cases_eq g.0 j))
      (cases_eq g.0 0)
    where
      at_root' : view_at after 0 ≡ joined v w
      at_root' = each (λ m x. m ≡ 0 → x ≡ joined v w) (λ e. refl) (λ e. absurd (apart e))
          (λ m ne0 ne e. absurd (ne0 e)) 0 refl

  pub leave_queue : Queue u q after h ts t
  leave_queue = let o = law.known in record {
    chain = law.chain;
    known = record {
      sees = each (λ m x. Sees q h (length ts) t x.eyes)
          (subst (λ (z : View). Sees q h (length ts) t z.eyes) at0 (o.sees 0)) (λ z. absurd (z refl))
          (λ m a b. o.sees m);
      emptied = each (λ m x. Emptied h (length ts) x) (subst (Emptied h (length ts)) at0 (o.emptied 0))
          (λ z. absurd (z refl)) (λ m a b. o.emptied m);
      carries = each (λ m x. Carries q h x.load)
          (subst (λ (z : View). Carries q h z.load) at0 (o.carries 0)) (carries_none q h no_load refl)
          (λ m a b. o.carries m);
      flies = each (λ m x. Flies h x.flight) (subst (λ (z : View). Flies h z.flight) at0 (o.flies 0))
          (λ z. absurd (z refl)) (λ m a b. o.flies m);
      apart = λ n m is_some same life.
          let old = each (λ i x. (x.load.node ≡ 0)
          ⊎ ((x.load.node ≡ (view_at views i).load.node)
          × (x.load.life ≡ (view_at views i).load.life)))
          (inr (ap (λ (z : View). z.load.node) (sym at0), ap (λ (z : View). z.load.life) (sym at0)))
          (inl refl) (λ i a b. inr (refl, refl)) in
          ⊎_elim (λ z. absurd (is_some z)) (λ a. ⊎_elim (λ z. absurd (is_some (same ∙ z)))
          (λ b. o.apart n m (λ z. is_some (a.0 ∙ z)) (sym a.0 ∙ (same ∙ b.0)) (sym a.1 ∙ (life ∙ b.1)))
          (old m)) (old n);
      number = each (λ m x. IsNamed u m x) (subst (IsNamed u 0) at0 (o.number 0))
          (λ e. absurd (false≢true e)) (λ m a b. o.number m);
      attached = each (λ m x. x.attached ≡ true → cell_at q u.head ≢ 0)
          (λ e. o.attached 0 (ap (λ (z : View). z.attached) at0 ∙ e)) (λ e. absurd (false≢true e))
          (λ m a b. o.attached m);
    };
    flights = flights_left;
    counted = record {
      pushed = λ x. total_left views j v w first_view low0 low at0 at apart
          (λ v. item_times x (taken_items v.pushed)) (items_append x v.pushed w.pushed) (items_none x)
          ∙ law.counted.pushed x;
      popped = λ x. total_left views j v w first_view low0 low at0 at apart
          (λ v. item_times x (taken_items v.popped)) (items_append x v.popped w.popped) (items_none x)
          ∙ law.counted.popped x;
      many = let e = total_left views j v w first_view low0 low at0 at apart
          (λ (v : View). length v.pushed) (length-append v.pushed w.pushed) refl in
          let b = law.counted.many in omega arith;
      order = law.counted.order;
    };
    ordered = record {
      pushed = kept_leave (λ v. v.pushed)
          (sends h) refl refl law.ordered.pushed;
      popped = kept_leave (λ v. v.popped) ts refl refl law.ordered.popped;
    };
    phase = phase_same u q q h ts (view_at views 0) (view_at after 0) refl (inr refl)
        (each (λ m x. m ≡ 0 → x.stand ≡ (view_at views 0).stand)
        (λ e. ap (λ (z : View). z.stand) (sym at0)) (λ e. absurd (apart e))
        (λ m ne0 ne e. absurd (ne0 e)) 0 refl) law.phase;
  }

pub leave : (u : Ends) (p q : Plain) (j found : ℕ) (views : List View) → length views ≡ length p.seats
    → Does p 0 (act.Leave j) found q → QueueLaw u p views
    → QueueLaw u q (set (set views 0 (joined (view_at views 0) (view_at views j))) j first_view)
leave u p q j found views count d law =
    let side = none_aside u p q (slots_of _ q d.1.8) (cells_of _ q d.1.8) in
    let there = d.0.0 in let low = d.1.2 in (
      law.0,
      law.1,
      law.2,
      leave_queue u q views j (view_at views 0) (view_at views j) law.0 law.1 law.2
          (aside_queue u p q views law.0 law.1 law.2 law.3 side) (omega arith) (omega arith) refl refl d.1.1,
    )
