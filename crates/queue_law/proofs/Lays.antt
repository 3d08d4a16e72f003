-- The dummy is laid into the tail cell, and then into the head cell.
use Rattle.std.proofs.Common.{◌≡◌, ◌≢◌, inl, inr, ⊎_elim, ℕ, zero, suc, ◌+◌, ◌<◌, List, [], ◌∷◌, length, set, refl, ap, sym, ◌∙◌, subst, arith}
use Rattle.std.proofs.lemmas.Bool.{false≢true}
use Rattle.plain_protocol.specs.plain_state.State.{Plain, seat_at, no_payload}
use Rattle.plain_protocol.specs.plain_state.Lawful.{Lawful}
use Rattle.plain_protocol.specs.plain_state.Steps.{Does}
use Rattle.plain_protocol.specs.Owns.{own_part}
use Rattle.queue_law.specs.Words.{slot_at, cell_at, Live, times}
use Rattle.queue_law.specs.Views.{Form, Linked, Double, View, Load, no_item, sees_node, no_load, view_at}
use Rattle.queue_law.specs.Chain.{Ends, Sent, sent, Present, Lags, IsKnown, IsNode, WasLinked}
use Rattle.queue_law.specs.Notes.{Sees, Emptied, Carries, Flies, Known}
use Rattle.queue_law.specs.Law.{Queue, QueueLaw}
use Rattle.queue_law.specs.Writes.{CellSet}
use Rattle.queue_law.specs.Owned.{Keeps}
use Rattle.queue_law.specs.Opening.{LayTailReady, lay_tail_next, LayHeadReady, lay_head_next}
use Rattle.queue_law.proofs.Kit.{held_live, own_life}
use Rattle.queue_law.proofs.Effects.{put_cell}
use Rattle.queue_law.proofs.Chain.{same_present, same_tail_at}
use Rattle.queue_law.proofs.ChainWrites.{same_firsts}
use Rattle.queue_law.proofs.Notes.{unchanged, LeadsOn, sees_on, view_here, CarryOn, carries_on, carry_same, carries_none, IsNamed, known_set}
use Rattle.queue_law.proofs.Counts.{counted_same}
use Rattle.queue_law.proofs.Orders.{ordered_same}
use Rattle.queue_law.proofs.Seen.{flights_same, seen_here, own_apart}

nothing : {A : Type 0} (l : List A) → length l ≡ 0 → l ≡ []
nothing [] e = refl
nothing (x ∷ l) e = absurd (omega arith)

module _ (u : Ends) (cells : u.head ≢ u.tail) (p q : Plain) (views : List View) (n : ℕ) (v : View)
    (node : ℕ) (lawful : Lawful p) (t : ℕ) (law : Queue u p views [] [] t)
    (low : n < length views) (at : view_at views n ≡ v) (root : n ≡ 0) (null : cell_at p u.head ≡ 0)
    (owns : 0 < times node (seat_at p n).owned) (fresh : v.load.node ≡ node + 1)
    (life : (slot_at p node).life ≡ v.load.life) (no_back : v.load.back ≡ 0)
    (w : CellSet p q u.tail (node + 1)) where
  abbrev e : Sent
  e = record { node = node; life = v.load.life; item = no_item; sender = v.number }

  abbrev now : View
  now = record v {
    load = no_load;
    stand = record { laid = 1; left = [] };
    eyes = sees_node v.load.node v.load.life;
  }

  carries : Carries p [] v.load
  carries = subst (λ (z : View). Carries p [] z.load) at (law.known.carries n)

  live : Live p node
  live = held_live p n node lawful (omega arith)

  here : Present q e
  here = same_present p q w.objects e (live, life, carries.node node fresh live life)

  its_back : (slot_at q node).back ≡ 0
  its_back = w.back node ∙ (carries.backed node fresh live life ∙ no_back)

  no_link : (s l : ℕ) → ¬ (WasLinked [] s l)
  no_link s l k = let z = k.1 in absurd (omega arith)

  strays_now : (s : ℕ) → Live q s → (slot_at q s).payload ≡ no_payload → (slot_at q s).first ≡ 0
  strays_now s lv nd = let o = w.objects in w.first s ∙ law.chain.strays s (sym (o.stage s) ∙ lv)
      (sym (o.payload s) ∙ nd) (no_link s _)

  -- with no node, the tail's place says nothing
  known_zero : Known u p [] 0 0 views
  known_zero =
      let o = law.known in
      record {
        sees = λ m is_some. let x = (o.sees m is_some).1.inside in absurd (omega arith);
        emptied = o.emptied;
        carries = o.carries;
        flies = o.flies;
        apart = o.apart;
        number = o.number;
        attached = o.attached;
      }

  lag_one : (f : Form) → Lags f 1 0
  lag_one Linked = omega arith
  lag_one Double = omega arith

  at_zero : (i : ℕ) → i < length (e ∷ []) → sent (e ∷ []) i ≡ e
  at_zero zero i = refl
  at_zero (suc i) z = absurd (omega arith)

  pub lay_tail_queue : Queue u q (set views n now) (e ∷ []) [] 0
  lay_tail_queue = record {
    chain = record {
      head = inl (w.other u.head cells ∙ null);
      tail = inr (record { inside = omega arith; holds = w.here; is = here });
      lag = λ z. lag_one u.form;
      links = λ i z. absurd (omega arith);
      ends = λ i z pr. let s = at_zero i (omega arith) in ap (λ (y : Sent). (slot_at q y.node).first) s
          ∙ strays_now node here.0 here.2;
      backs = λ double i z. absurd (omega arith);
      first_back = λ double z pr. its_back;
      strays = λ s lv nd not. strays_now s lv nd;
      apart = λ i j a b x y. omega arith;
      known = λ i z. subst (IsKnown q) (sym (at_zero i z)) (let y = here.1 in omega arith);
      nodes = λ i z. subst (IsNode q) (sym (at_zero i z)) (λ a b. here.2);
    };
    known = known_set u p q [] (e ∷ []) 0 0 0 0 n views now known_zero low
        (record { longer = omega arith; same = λ i z. absurd (omega arith) }) (omega arith) (omega arith)
        (λ i z. absurd (omega arith))
        (λ m ne. carry_same p q [] (e ∷ []) (view_at views m).load w.objects
        (λ s es l. let z = at_zero l.0 l.1 in
        absurd (ne (sym (law.known.apart n m (λ y. let b = ap (λ (y : View). y.load.node) at in
        omega arith)
        (ap (λ (y : View). y.load.node) at
        ∙ (fresh ∙ (ap (λ (y : Sent). y.node + 1) (sym z) ∙ (ap (λ y. y + 1) l.2 ∙ sym es))))
        (ap (λ (y : View). y.load.life) at ∙ (ap (λ (y : Sent). y.life) (sym z) ∙ l.3))))))
        (λ s es y. w.second s) (λ s es y. w.back s))
        (λ z. (
          0,
          record {
            inside = omega arith;
            node = sym fresh;
            life = refl;
            was_head = λ f. absurd (false≢true f);
            was_tail = λ f. absurd (false≢true f);
            next = λ f. absurd (f refl);
            leads = λ f. absurd (f refl);
            item = λ f. absurd (f refl);
            before = λ f. absurd (f refl);
            helped = λ f. absurd (false≢true f);
            passed = λ f. absurd (false≢true f);
          },
        ))
        (λ z. let y = (subst (Emptied [] 0) at (law.known.emptied n) z).1 in absurd (omega arith))
        (carries_none q (e ∷ []) no_load refl)
        (λ z. let y = (subst (λ (u : View). Flies [] u.flight) at (law.known.flies n) z).1.inside in
        absurd (omega arith))
        (λ m ne is_some. absurd (is_some refl))
        (subst (IsNamed u n) at (law.known.number n))
        (λ is z. law.known.attached n (ap (λ (y : View). y.attached) at ∙ is) null)
        (λ was z. was null);
    flights = λ double i z. absurd (omega arith);
    counted = let c = counted_same [] [] views n now law.counted low
        (ap (λ (z : View). z.popped) (sym at)) (ap (λ (z : View). z.pushed) (sym at)) in
        record {
          pushed = c.pushed;
          popped = c.popped;
          many = omega arith;
          order = λ i z. absurd (omega arith);
        };
    ordered = let o = ordered_same [] [] views n now law.ordered low (ap (λ (z : View). z.here) (sym at))
        (ap (λ (z : View). z.popped) (sym at)) (ap (λ (z : View). z.pushed) (sym at)) in
        record { pushed = o.pushed; popped = o.popped };
    phase = let is : (view_at (set views n now) 0).stand.laid ≡ 1 =
        ap (λ z. (view_at (set views n now) z).stand.laid) (sym root) ∙ ap (λ (z : View). z.stand.laid)
        (view_here views n now low) in
        record {
          unlaid = λ z. absurd (omega arith);
          shut = λ z. absurd (omega arith);
          laying =
              λ z. (refl, refl, w.other u.head cells ∙ null, λ y. let x = w.here in omega arith);
        };
  }

pub lay_tail_deed : (u : Ends) → u.head ≢ u.tail → Keeps (QueueLaw u) (LayTailReady u) lay_tail_next
lay_tail_deed u cells p q views n v step found lawful law is stays_on r d =
    let o = is in
    let st = put_cell p q n u.tail found r.node (subst (λ a. Does p n a found q) r.act_is d) in
    let w : CellSet p q u.tail (r.node + 1) = st.1 in
    let owned = st.0 in
    let t = law.2 in
    let root : n ≡ 0 =
    sym (law.3.known.number n (ap (λ (y : View). y.here) o.1 ∙ r.here)).0
    ∙ (ap (λ (y : View). y.number) o.1 ∙ r.root) in
    let f = law.3.phase.unlaid (ap (λ z. (view_at views z).stand.laid) (sym root)
    ∙ (ap (λ (y : View). y.stand.laid) o.1 ∙ r.unlaid)) in
    let empty : Queue u p views [] [] t =
    subst (λ z. Queue u p views [] z t) (nothing law.1 f.1)
    (subst (λ z. Queue u p views z law.1 t) (nothing law.0 f.0) law.3) in (
      _,
      _,
      _,
      lay_tail_queue u cells p q views n v r.node lawful t empty o.0 o.1 root f.2 owned r.fresh
          (sym (own_life p n r.node (omega arith)) ∙ r.fresh_life) r.no_back w,
    )

-- then the head cell
pub lay_head_deed : (u : Ends) → u.head ≢ u.tail → Keeps (QueueLaw u) (LayHeadReady u) lay_head_next
lay_head_deed u cells p q views n v step found lawful law is stays_on r d =
    let o = is in
    let h = law.0 in let ts = law.1 in let t = law.2 in
    let kn = law.3.known in
    let st = put_cell p q n u.head found r.node (subst (λ a. Does p n a found q) r.act_is d) in
    let w : CellSet p q u.head (r.node + 1) = st.1 in
    let owned = st.0 in
    let root : n ≡ 0 =
    sym (kn.number n (ap (λ (y : View). y.here) o.1 ∙ r.here)).0
    ∙ (ap (λ (y : View). y.number) o.1 ∙ r.root) in
    let f = law.3.phase.laying (ap (λ z. (view_at views z).stand.laid) (sym root)
    ∙ (ap (λ (y : View). y.stand.laid) o.1 ∙ r.laying)) in
    let s = seen_here u p views n v r.node h ts t lawful law.3 o.1 (omega arith) r.seen r.seen_life in
    let low = s.0.1.inside in
    let one_node = f.0 in
    let no_pops = f.1 in
    let first : s.0.0 ≡ length ts = omega arith in
    let new = lay_head_next (own_part p n) (own_part q n) v step found in
    let tail_is = w.other u.tail (λ z. cells (sym z)) in
    let on : LeadsOn p q h h = λ i il l at. absurd (omega arith) in
    let carry : (m : Load) → CarryOn p q h h m = λ m. carry_same p q h h m w.objects (λ s e l. l)
    (λ z e y. w.second z) (λ z e y. w.back z) in
    let is_laid : (view_at (set views n new) 0).stand.laid ≡ 2 =
    ap (λ z. (view_at (set views n new) z).stand.laid) (sym root) ∙ ap (λ (z : View). z.stand.laid)
    (view_here views n new o.0) in (
      h,
      ts,
      t,
      record {
        chain = same_firsts u p q h (length ts) t (length ts) t law.3.chain w.objects w.first
            (λ i il at. w.back (sent h i).node)
            (inr (record {
              inside = omega arith;
              holds = w.here ∙ ap (λ z. z + 1) (sym s.1 ∙ ap (λ z. (sent h z).node) first);
              is = subst (λ z. Present q (sent h z)) first
                  (same_present p q w.objects (sent h s.0.0) s.2);
              items = λ i after z. absurd (omega arith);
            }))
            (⊎_elim (λ z. absurd (f.3 z.0))
            (λ b. inr (same_tail_at p q w.objects u h t tail_is b)) law.3.chain.tail)
            law.3.chain.lag law.3.chain.links;
        known = known_set u p q h h (length ts) (length ts) t t n views new kn o.0 (unchanged h)
            (omega arith) (omega arith) on
            (λ m ne. carry (view_at views m).load)
            (sees_on p q h h (length ts) (length ts) t t v.eyes (unchanged h) (omega arith)
            (omega arith) on
            (subst (λ (z : View). Sees p h (length ts) t z.eyes) o.1 (kn.sees n)))
            (subst (Emptied h (length ts)) o.1 (kn.emptied n))
            (carries_on p q h h v.load (carry v.load)
            (subst (λ (z : View). Carries p h z.load) o.1 (kn.carries n)))
            (subst (λ (z : View). Flies h z.flight) o.1 (kn.flies n))
            (own_apart u p h (length ts) t views n v kn o.1)
            (subst (IsNamed u n) o.1 (kn.number n))
            (λ a z. let y = w.here in omega arith) (λ a z. let y = w.here in omega arith);
        flights = flights_same u p q h views n v new o.0 o.1 w.objects w.first refl refl law.3.flights;
        counted = counted_same h ts views n new law.3.counted o.0 (ap (λ (y : View). y.popped) (sym o.1))
            (ap (λ (y : View). y.pushed) (sym o.1));
        ordered = ordered_same h ts views n new law.3.ordered o.0 (ap (λ (y : View). y.here) (sym o.1))
            (ap (λ (y : View). y.popped) (sym o.1)) (ap (λ (y : View). y.pushed) (sym o.1));
        phase = record {
          unlaid = λ z. absurd (omega arith);
          laying = λ z. absurd (omega arith);
          shut = λ z. absurd (omega arith);
        };
      },
    )
