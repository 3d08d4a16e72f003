-- What seats know goes on to hold.
use Rattle.std.proofs.Common.{◌≡◌, ◌≢◌, ⊎_elim, ℕ, ◌+◌, ◌<◌, ◌≤◌, true, List, [], ◌∷◌, ◌++◌, length, set, refl, ap, sym, ◌∙◌, subst, arith}
use Rattle.std.proofs.lemmas.Bool.{cases_eq}
use Rattle.plain_protocol.specs.plain_state.State.{Plain}
use Rattle.queue_law.specs.Words.{slot_at, cell_at, Live}
use Rattle.queue_law.specs.Views.{View, Eyes, Load, Flight, first_view, view_at}
use Rattle.queue_law.specs.Chain.{Ends, Sent, sent, Present, Leads, WasLinked}
use Rattle.queue_law.specs.Notes.{Sees, SeesAt, Emptied, Carries, Flies, Known}
use Rattle.queue_law.specs.Writes.{SameObjects}
use Rattle.std.proofs.lemmas.List.{get_or-set_same, get_or-set_other}
use Rattle.queue_law.proofs.Chain.{old_node, longer}

-- the list of nodes grew
pub record Extends (h h' : List Sent) : Type 0 where
  pub longer : length h ≤ length h'
  pub same : (i : ℕ) → i < length h → sent h' i ≡ sent h i

pub grows : (h : List Sent) (e : Sent) → Extends h (h ++ e ∷ [])
grows h e = let n = longer h e in record { longer = omega arith; same = λ i low. old_node h e i low }

pub unchanged : (h : List Sent) → Extends h h
unchanged h = record { longer = omega arith; same = λ i low. refl }

-- what leads on does so afterwards
abbrev pub LeadsOn : Plain → Plain → List Sent → List Sent → Type 0
LeadsOn p q h h' = (i : ℕ) → i + 1 < length h → (Present p (sent h i) → Leads p h i)
    → Present q (sent h' i) → Leads q h' i

pub leads_stay : (p : Plain) (h : List Sent) → LeadsOn p p h h
leads_stay p h i low l at = l at

pub sees_at_on : (p q : Plain) (h h' : List Sent) (k k' t t' : ℕ) (v : Eyes) (i : ℕ) → Extends h h'
    → k ≤ k' → t ≤ t' → LeadsOn p q h h' → SeesAt p h k t v i → SeesAt q h' k' t' v i
sees_at_on p q h h' k k' t t' v i x le later on a =
    let more = x.longer in
    let low = a.inside in
    record {
      inside = omega arith;
      node = ap (λ (z : Sent). z.node + 1) (x.same i low) ∙ a.node;
      life = ap (λ (z : Sent). z.life) (x.same i low) ∙ a.life;
      was_head = λ e. let b = a.was_head e in omega arith;
      was_tail = λ e. let b = a.was_tail e in omega arith;
      next = λ follows. let u = a.next follows in
          (omega (arith, u.0), ap (λ (z : Sent). z.node + 1) (x.same (i + 1) u.0) ∙ u.1);
      leads = λ follows. on i (a.next follows).0 (a.leads follows);
      item = λ follows found below. ap (λ (z : Sent). z.item.slot + 1) (x.same (i + 1) (a.next follows).0)
          ∙ a.item follows found (omega arith);
      before = λ some_slot. let b = a.before some_slot in
          (b.0, b.1, ap (λ (z : Sent). z.node + 1) (x.same b.0 (let z = b.1 in omega arith)) ∙ b.2);
      helped = λ is j e. on j (omega arith) (a.helped is j e);
      passed = λ e. let b = a.passed e in omega arith;
    }

pub sees_on : (p q : Plain) (h h' : List Sent) (k k' t t' : ℕ) (v : Eyes) → Extends h h' → k ≤ k' → t ≤ t'
    → LeadsOn p q h h' → Sees p h k t v → Sees q h' k' t' v
sees_on p q h h' k k' t t' v x le later on s seen = let a = s seen in
    (a.0, sees_at_on p q h h' k k' t t' v a.0 x le later on a.1)

pub flies_on : (h h' : List Sent) (f : Flight) → Extends h h' → Flies h f → Flies h' f
flies_on h h' f x s some_slot =
    let t = s some_slot in
    let i = t.0 in
    let a = t.1 in
    let more = x.longer in
    let low = a.inside in (
      i,
      record {
        inside = omega arith;
        prev = ap (λ (z : Sent). z.node + 1) (x.same i (omega arith)) ∙ a.prev;
        prev_life = ap (λ (z : Sent). z.life) (x.same i (omega arith)) ∙ a.prev_life;
        node = ap (λ (z : Sent). z.node + 1) (x.same (i + 1) low) ∙ a.node;
        life = ap (λ (z : Sent). z.life) (x.same (i + 1) low) ∙ a.life;
      },
    )

pub emptied_on : (h h' : List Sent) (k k' : ℕ) (v : View) → Extends h h' → k ≤ k' → Emptied h k v
    → Emptied h' k' v
emptied_on h h' k k' v x le s some_slot =
    let t = s some_slot in
    let more = x.longer in (
      t.0,
      omega (arith, t.1),
      omega (arith, t.2),
      ap (λ (z : Sent). z.node + 1) (x.same t.0 t.1)
          ∙ t.3,
      ap (λ (z : Sent). z.life) (x.same t.0 t.1) ∙ t.4,
    )

-- the view after a write
pub view_here : (views : List View) (n : ℕ) (w : View) → n < length views → view_at (set views n w) n ≡ w
view_here views n w low = get_or-set_same views n w first_view low

pub view_else : (views : List View) (n m : ℕ) (w : View) → m ≢ n
    → view_at (set views n w) m ≡ view_at views m
view_else views n m w not = get_or-set_other views n m w first_view not

pub each_view : (P : View → Type 0) (views : List View) (n : ℕ) (w : View) → n < length views → P w
    → ((m : ℕ) → m ≢ n → P (view_at views m)) → (m : ℕ) → P (view_at (set views n w) m)
each_view P views n w low here others m = ⊎_elim
    (λ e. subst P (sym (ap (view_at (set views n w)) e ∙ view_here views n w low)) here)
    (λ ne. subst P (sym (view_else views n m w ne)) (others m ne)) (cases_eq m n)

-- what a view says of its own node holds on
pub record CarryOn (p q : Plain) (h h' : List Sent) (v : Load) : Type 0 where
  pub unlinked : (s : ℕ) → v.node ≡ s + 1 → WasLinked h' s v.life → WasLinked h s v.life
  pub life : (s : ℕ) → v.node ≡ s + 1 → (slot_at p s).life ≤ (slot_at q s).life
  pub payload : (s : ℕ) → v.node ≡ s + 1 → Live q s → (slot_at q s).life ≡ v.life
      → (slot_at q s).payload ≡ (slot_at p s).payload
  pub was : (s : ℕ) → v.node ≡ s + 1 → Live q s → (slot_at q s).life ≡ v.life
      → Live p s × ((slot_at p s).life ≡ v.life)
      × ((x : ℕ) → v.item ≡ x + 1 → (slot_at p s).second ≡ x + 1 → ((slot_at q s).second ≡ x + 1)
      × ((slot_at q x).life ≡ (slot_at p x).life) × ((slot_at q x).payload ≡ (slot_at p x).payload))
  pub backed : (s : ℕ) → v.node ≡ s + 1 → Live q s → (slot_at q s).life ≡ v.life
      → (slot_at q s).back ≡ (slot_at p s).back

pub carries_on : (p q : Plain) (h h' : List Sent) (v : Load) → CarryOn p q h h' v → Carries p h v
    → Carries q h' v
carries_on p q h h' v o c = record {
  unlinked = λ s e l. c.unlinked s e (o.unlinked s e l);
  known = λ s e. let a = c.known s e in let b = o.life s e in omega arith;
  node = λ s e live life. let t = o.was s e live life in o.payload s e live life ∙ c.node s e t.0 t.1;
  carried = λ s e live life x ex. let t = o.was s e live life in let b = c.carried s e t.0 t.1 x ex in
      let u = t.2 x ex b.0 in (u.0, u.1 ∙ b.1, u.2 ∙ b.2);
  backed = λ s e live life. let t = o.was s e live life in o.backed s e live life ∙ c.backed s e t.0 t.1;
}

pub carry_stay : (p : Plain) (h : List Sent) (v : Load) → CarryOn p p h h v
carry_stay p h v = record {
  unlinked = λ s e l. l;
  life = λ s e. omega arith;
  payload = λ s e live life. refl;
  was = λ s e live life. (live, life, λ x ex at. (at, refl, refl));
  backed = λ s e live life. refl;
}

-- what a write of one place leaves of the nodes that seats carry
pub carry_same : (p q : Plain) (h h' : List Sent) (v : Load) → SameObjects p q
    → ((s : ℕ) → v.node ≡ s + 1 → WasLinked h' s v.life → WasLinked h s v.life)
    → ((s : ℕ) → v.node ≡ s + 1 → (slot_at p s).life ≡ v.life
    → (slot_at q s).second ≡ (slot_at p s).second)
    → ((s : ℕ) → v.node ≡ s + 1 → (slot_at p s).life ≡ v.life → (slot_at q s).back ≡ (slot_at p s).back)
    → CarryOn p q h h' v
carry_same p q h h' v o un second back = record {
  unlinked = un;
  life = λ s e. let a = o.life s in omega arith;
  payload = λ s e live life. o.payload s;
  was = λ s e live life. (
    sym (o.stage s) ∙ live,
    sym (o.life s)
        ∙ life,
    λ x ex at. (second s e (sym (o.life s) ∙ life) ∙ at, o.life x, o.payload x),
  );
  backed = λ s e live life. back s e (sym (o.life s) ∙ life);
}

-- a view without a node of its own
pub carries_none : (p : Plain) (h : List Sent) (v : Load) → v.node ≡ 0 → Carries p h v
carries_none p h v none =
    record {
      unlinked = λ s e. absurd (omega arith);
      known = λ s e. absurd (omega arith);
      node = λ s e. absurd (omega arith);
      carried = λ s e. absurd (omega arith);
      backed = λ s e. absurd (omega arith);
    }

-- the view has the seat's number, while the seat is there, and the queue's form
abbrev pub IsNamed : Ends → ℕ → View → Type 0
IsNamed u n v = v.here ≡ true → (v.number ≡ n) × (v.form ≡ u.form)

-- KNOWN: after a step by n
module _ (u : Ends) (p q : Plain) (h h' : List Sent) (k k' t t' n : ℕ) (views : List View) (w : View)
    (o : Known u p h k t views) (low : n < length views) (x : Extends h h') (le : k ≤ k') (later : t ≤ t')
    (on : LeadsOn p q h h')
    (others : (m : ℕ) → m ≢ n → CarryOn p q h h' (view_at views m).load) (sees : Sees q h' k' t' w.eyes)
    (emptied : Emptied h' k' w) (carries : Carries q h' w.load) (flies : Flies h' w.flight)
    (fresh : (m : ℕ) → m ≢ n → w.load.node ≢ 0 → w.load.node ≡ (view_at views m).load.node
    → w.load.life ≡ (view_at views m).load.life → ⊥)
    (number : IsNamed u n w) (attached : w.attached ≡ true → cell_at q u.head ≢ 0)
    (cell_stays : cell_at p u.head ≢ 0 → cell_at q u.head ≢ 0) where
  now : ℕ → View
  now m = view_at (set views n w) m

  apart_now : (a b : ℕ) → (view_at (set views n w) a).load.node ≢ 0
      → (view_at (set views n w) a).load.node ≡ (view_at (set views n w) b).load.node
      → (view_at (set views n w) a).load.life ≡ (view_at (set views n w) b).load.life → a ≡ b
  apart_now a b some_slot same life = ⊎_elim
      (λ ea. ⊎_elim (λ eb. ea ∙ sym eb)
      (λ nb. let va = ap (view_at (set views n w)) ea ∙ view_here views n w low in
      let vb = view_else views n b w nb in
      absurd (fresh b nb (λ z. some_slot (ap (λ (z : View). z.load.node) va ∙ z))
      (ap (λ (z : View). z.load.node) (sym va) ∙ (same ∙ ap (λ (z : View). z.load.node) vb))
      (ap (λ (z : View). z.load.life) (sym va) ∙ (life ∙ ap (λ (z : View). z.load.life) vb))))
      (cases_eq b n))
      (λ na. let va = view_else views n a w na in ⊎_elim
      (λ eb. let vb = ap (view_at (set views n w)) eb ∙ view_here views n w low in
      absurd (fresh a na (λ z. some_slot (same ∙ (ap (λ (z : View). z.load.node) vb ∙ z)))
      (ap (λ (z : View). z.load.node) (sym vb) ∙ (sym same ∙ ap (λ (z : View). z.load.node) va))
      (ap (λ (z : View). z.load.life) (sym vb) ∙ (sym life ∙ ap (λ (z : View). z.load.life) va))))
      (λ nb. let vb = view_else views n b w nb in
      o.apart a b (λ z. some_slot (ap (λ (z : View). z.load.node) va ∙ z))
      (ap (λ (z : View). z.load.node) (sym va) ∙ (same ∙ ap (λ (z : View). z.load.node) vb))
      (ap (λ (z : View). z.load.life) (sym va) ∙ (life ∙ ap (λ (z : View). z.load.life) vb)))
      (cases_eq b n))
      (cases_eq a n)

  pub known_set : Known u q h' k' t' (set views n w)
  known_set = record {
    sees = each_view (λ v. Sees q h' k' t' v.eyes) views n w low sees
        (λ m ne. sees_on p q h h' k k' t t' (view_at views m).eyes x le later on (o.sees m));
    emptied = each_view (Emptied h' k') views n w low emptied
        (λ m ne. emptied_on h h' k k' (view_at views m) x le (o.emptied m));
    carries = each_view (λ v. Carries q h' v.load) views n w low carries
        (λ m ne. carries_on p q h h' (view_at views m).load (others m ne) (o.carries m));
    flies = each_view (λ v. Flies h' v.flight) views n w low flies
        (λ m ne. flies_on h h' (view_at views m).flight x (o.flies m));
    apart = apart_now;
    number = λ m is. ⊎_elim
        (λ e.
        let at = ap (view_at (set views n w)) e ∙ view_here views n w low in
        let own = number (ap (λ (z : View). z.here) (sym at) ∙ is) in
        (ap (λ (z : View). z.number) at ∙ (own.0 ∙ sym e), ap (λ (z : View). z.form) at ∙ own.1))
        (λ ne.
        let at = view_else views n m w ne in
        let own = o.number m (ap (λ (z : View). z.here) (sym at) ∙ is) in
        (ap (λ (z : View). z.number) at ∙ own.0, ap (λ (z : View). z.form) at ∙ own.1))
        (cases_eq m n);
    attached = each_view (λ v. v.attached ≡ true → cell_at q u.head ≢ 0) views n w low attached
        (λ m ne e. cell_stays (o.attached m e));
  }
