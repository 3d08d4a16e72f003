-- A seat that leaves keeps the law, and the map.
use Rattle.std.proofs.Common.{◌≡◌, ◌≢◌, ◌⊎◌, inl, inr, ⊎_elim, ℕ, ◌+◌, ◌<◌, ◌≤◌, Bool, true, false, List, [], ◌++◌, length, get_or, set, refl, ap, sym, ◌∙◌, subst, arith}
use Rattle.std.specs.Prelude.{Option, None, cond, sum_by}
use Rattle.std.proofs.lemmas.List.{length-set, get_or-set_same, get_or-set_other}
use Rattle.std.proofs.lemmas.List.Sums.{sum_by-append}
use Rattle.std.proofs.lemmas.Bool.{cases_eq, false≢true}
use Rattle.plain_protocol.specs.plain_state.declared.slot.PlainSlot.{PlainSlot}
use Rattle.plain_protocol.specs.plain_state.declared.slot.SlotId.{SlotId}
use Rattle.plain_protocol.specs.plain_state.State.{Plain, PlainSeat, seat_at, slot_at, new_seat, new_slot}
use Rattle.plain_protocol.specs.plain_state.Lawful.{Lawful}
use Rattle.plain_protocol.specs.plain_state.Steps.{Does}
use Rattle.plain_protocol.specs.plain_state.declared.act.PlainAct.TheVariants as act
use Rattle.plain_protocol.specs.Laws.{KeptByLeave, Meets}
use Rattle.map_trees.specs.declared.change.Entry.{Entry}
use Rattle.map_law.specs.Views.{View, gone, view_at, raw_times, total, fresh, joined}
use Rattle.map_law.specs.Nodes.{root, TreeAt}
use Rattle.map_law.specs.Learnt.{Built, Learnt}
use Rattle.map_law.specs.Orders.{tagged, home, Kept}
use Rattle.map_law.specs.Law.{MapLaw}
use Rattle.map_law.proofs.Kit.{total_set, raw_none, raw_append, each_append}
use Rattle.map_law.proofs.Left.{left_with}
use Rattle.map_law.proofs.Steps.{Nowhere, frame_same}
use Rattle.map_law.specs.Nodes.{KeepsMap}
use Rattle.map_law.proofs.Whole.{trees_on, loose_on, learnt_on, tree_on, stands_on, map_on}
use Rattle.map_law.proofs.Orders.{tagged_append, tagged_none, append_nil}

total_two : (f : View → ℕ) (vs : List View) (j : ℕ) (v u : View) → j < length vs → ¬ (j ≡ 0)
    → f v + f u ≡ f (view_at vs 0) + f (view_at vs j) → total f (set (set vs 0 v) j u) ≡ total f vs
total_two f vs j v u hj ne e =
    let l = length-set vs 0 v in
    let a = total_set f vs 0 v (omega arith) in
    let b = total_set f (set vs 0 v) j u (omega arith) in
    let g = ap f (get_or-set_other vs 0 j v gone ne) in omega arith

module _ (c : ℕ) (p q : Plain) (views : List View) (j : ℕ) (hj : j < length views) (apart : ¬ (j ≡ 0))
    (lawful : Lawful p) (law : MapLaw c p views)
    (slots : q.slots ≡ p.slots) (cells : q.cells ≡ p.cells) (root_here : (seat_at p 0).left ≡ false)
    (left_on : (m : ℕ) → m ≢ j → (length q.seats ≤ m) ⊎ ((seat_at q m).left ≡ true) → (length p.seats ≤ m)
    ⊎ ((seat_at p m).left ≡ true))
    (there : 0 < length p.seats) where
  new : View
  new = joined (view_at views 0) (view_at views j)

  abbrev pub after : List View
  after = set (set views 0 (joined (view_at views 0) (view_at views j))) j gone

  counted : (s : SlotId) (l : ℕ) → fresh after s l ≡ fresh views s l
  unfolding new
  counted s l = total_two (λ (v : View). raw_times s l v.raw) views j new gone hj apart
      (let a = raw_append s l (view_at views 0).raw (view_at views j).raw in let b = raw_none s l in omega arith)

  at_root : view_at after 0 ≡ joined (view_at views 0) (view_at views j)
  unfolding new
  at_root = get_or-set_other (set views 0 new) j 0 gone gone (λ e. apart (sym e))
      ∙ get_or-set_same views 0 new gone (omega arith)

  at_other : (m : ℕ) → m ≢ j → m ≢ 0 → view_at after m ≡ view_at views m
  at_other m nj n0 = get_or-set_other (set views 0 (joined (view_at views 0) (view_at views j))) j m gone gone nj
      ∙ get_or-set_other views 0 m (joined (view_at views 0) (view_at views j)) gone n0

  at_left : view_at after j ≡ gone
  at_left = let l = length-set views 0 (joined (view_at views 0) (view_at views j)) in
      get_or-set_same (set views 0 (joined (view_at views 0) (view_at views j))) j gone gone (omega arith)

  each_now : (P : ℕ → View → Type 0) → P 0 (joined (view_at views 0) (view_at views j)) → P j gone
      → ((m : ℕ) → m ≢ 0 → m ≢ j → P m (view_at views m)) → (m : ℕ) → P m (view_at after m)
  unfolding new at_root
  each_now P a b old m =
      ⊎_elim
      (λ (e : m ≡ j). subst (λ (k : ℕ). P k (view_at after k)) (sym e) (subst (P j) (sym at_left) b))
      (λ (nj : m ≢ j).
      ⊎_elim
      (λ (e : m ≡ 0). subst (λ (k : ℕ). P k (view_at after k)) (sym e) (subst (P 0) (sym at_root) a))
      (λ (n0 : m ≢ 0). subst (P m) (sym (at_other m nj n0)) (old m n0 nj))
      (cases_eq m 0))
      (cases_eq m j)

  still : (s : SlotId) (l : ℕ) → l ≤ (slot_at p s).life → fresh views s l ≡ 0 → fresh after s l ≡ 0
  still s l le h = counted s l ∙ h

  nothing : (s : SlotId) → Nowhere s → (slot_at q s).life ≤ (slot_at p s).life → fresh views s (slot_at q s).life ≡ 0
      → ⊥
  nothing s x le h = x

  learnt : (v : View) → Learnt p views v → Learnt q after v
  learnt v h = learnt_on c Nowhere p q views after (frame_same p q slots) lawful law nothing still v
      (λ e i life x. x) h

  -- a list that both keep
  kept_leave : (all : List Entry) → Kept all views → Kept all after
  unfolding at_root new
  kept_leave all k = record { own = own_now; none = none_now }
    where
      home_now : (n : ℕ) → ((n ≡ j) × (home after n ≡ 0)) ⊎ ((n ≢ j) × (home after n ≡ home views n))
      home_now n = each_now (λ m x. ((m ≡ j) × (cond x.here m 0 ≡ 0))
          ⊎ ((m ≢ j) × (cond x.here m 0 ≡ home views m)))
          (inr ((λ z. apart (sym z)), refl)) (inl (refl, refl))
          (λ m ne0 ne. inr (ne, refl)) n

      -- the home of j before is j or 0
      home_j : (n : ℕ) → (home views n ≡ n) ⊎ (home views n ≡ 0)
      home_j n = go (view_at views n).here
        where
          go : (b : Bool) → (cond b n 0 ≡ n) ⊎ (cond b n 0 ≡ 0)
          go true = inl refl
          go false = inr refl

      root : (n : ℕ) → tagged n (joined (view_at views 0) (view_at views j)).entries
          ≡ tagged n (view_at views 0).entries ++ tagged n (view_at views j).entries
      root n = tagged_append n (view_at views 0).entries (view_at views j).entries

      -- where j isn't a seat's home and 0 is, the root has it all
      by_root : (n : ℕ) → home views n ≡ 0 → tagged n (joined (view_at views 0) (view_at views j)).entries
          ≡ tagged n all
      by_root n e = root n ∙ (ap (λ (z : List Entry). tagged n (view_at views 0).entries ++ z)
          (k.none n j (λ z. apart (z ∙ e)))
          ∙ (append_nil _ ∙ (ap (λ (z : ℕ). tagged n (view_at views z).entries) (sym e) ∙ k.own n)))

      by_left : (n : ℕ) → home views n ≡ j → tagged n (joined (view_at views 0) (view_at views j)).entries
          ≡ tagged n all
      by_left n e = root n ∙ (ap (λ (z : List Entry). z ++ tagged n (view_at views j).entries)
          (k.none n 0 (λ z. apart (sym (z ∙ e))))
          ∙ (ap (λ (z : ℕ). tagged n (view_at views z).entries) (sym e) ∙ k.own n))

      own_now : (n : ℕ) → tagged n (view_at after (home after n)).entries ≡ tagged n all
      own_now n = ⊎_elim
          (λ left. ap (λ (z : ℕ). tagged n (view_at after z).entries) left.1
          ∙ (ap (λ (z : View). tagged n z.entries) at_root ∙ ⊎_elim (λ e. by_left n (e ∙ left.0)) (λ e. by_root n e)
          (home_j n)))
          (λ stays. ap (λ (z : ℕ). tagged n (view_at after z).entries) stays.1 ∙ ⊎_elim
          (λ e. ⊎_elim
          (λ zero. ap (λ (z : ℕ). tagged n (view_at after z).entries) zero
          ∙ (ap (λ (z : View). tagged n z.entries) at_root ∙ by_root n zero))
          (λ not. ap (tagged n) (each_now (λ m x. m ≡ home views n → x.entries ≡ (view_at views m).entries)
          (λ z. absurd (not (sym z))) (λ z. absurd (stays.0 (sym e ∙ sym z))) (λ m ne0 ne z. refl)
          (home views n) refl) ∙ k.own n)
          (cases_eq (home views n) 0))
          (λ e. ap (λ (z : ℕ). tagged n (view_at after z).entries) e
          ∙ (ap (λ (z : View). tagged n z.entries) at_root ∙ by_root n e))
          (home_j n))
          (home_now n)

      none_now : (n m : ℕ) → m ≢ home after n → tagged n (view_at after m).entries ≡ []
      none_now n m not = each_now (λ i x. i ≢ home after n → tagged n x.entries ≡ [])
          (λ ne. ⊎_elim (λ left. absurd (ne (sym left.1)))
          (λ stays. root n ∙ (ap (λ (z : List Entry). z ++ tagged n (view_at views j).entries)
          (k.none n 0 (λ z. ne (z ∙ sym stays.1)))
          ∙ k.none n j (λ z. ⊎_elim (λ e. stays.0 (sym (z ∙ e))) (λ e. apart (z ∙ e)) (home_j n))))
          (home_now n))
          (λ ne. tagged_none n)
          (λ i ne0 nej ne. ⊎_elim (λ left. k.none n i
          (λ z. ⊎_elim (λ e. nej (z ∙ (e ∙ left.0))) (λ e. ne0 (z ∙ e)) (home_j n)))
          (λ stays. k.none n i (λ z. ne (z ∙ sym stays.1))) (home_now n))
          m not

  learnt_root : Learnt q after (joined (view_at views 0) (view_at views j))
  learnt_root =
      let a = learnt (view_at views 0) (law.learnt 0) in
      let b = learnt (view_at views j) (law.learnt j) in
      record {
        raw = each_append (Built q) (view_at views 0).raw (view_at views j).raw a.raw b.raw;
        solid = a.solid;
        led = a.led;
        shown = a.shown;
      }

  life_same : (s : SlotId) → (slot_at q s).life ≡ (slot_at p s).life
  life_same s = ap (λ (l : List PlainSlot). (get_or l s.0 new_slot).life) slots

  cell_same : root q c ≡ root p c
  cell_same = ap (λ (l : List (Option SlotId)). get_or l c None) cells

  cleared_same : (view_at after 0).cleared ≡ (view_at views 0).cleared
  unfolding at_root new
  cleared_same = ap (λ (x : View). x.cleared) at_root

  pub leave_law : MapLaw c q (set (set views 0 (joined (view_at views 0) (view_at views j))) j gone)
  leave_law =
      let fr = frame_same p q slots in
      record {
        tree = law.tree;
        is = subst (λ (x : Option SlotId). TreeAt q x law.tree) (sym cell_same)
            (tree_on c Nowhere p q views after fr lawful law nothing still);
        shaped = law.shaped;
        trees = λ s nd. trees_on c Nowhere p q views after fr lawful law nothing still s (λ x. x) nd;
        loose = λ t s nd l. loose_on c Nowhere p q views after fr lawful law nothing still t s (λ x. x) nd l;
        stands = λ s e. stands_on c Nowhere p q views after fr lawful law nothing still s (sym cell_same ∙ e);
        once = λ s l. let a = counted s l in let b = law.once s l in omega arith;
        lives = λ s l h. let a = counted s l in let b = law.lives s l (omega arith) in let d = life_same s in
            omega arith;
        learnt = each_now (λ m v. Learnt q after v) learnt_root
            (record { raw = tt; solid = tt; led = tt; shown = tt })
            (λ m n0 nj. learnt (view_at views m) (law.learnt m));
        number = each_now (λ m v. v.here ≡ true → v.number ≡ m) (law.number 0) (λ h. absurd (false≢true h))
            (λ m n0 nj. law.number m);
        orders = let o = law.orders in record {
          all = o.all;
          kept = kept_leave o.all o.kept;
          many = λ f. total_two (λ (v : View). sum_by f v.entries) views j
              (joined (view_at views 0) (view_at views j)) gone hj apart
              (let a = sum_by-append f (view_at views 0).entries (view_at views j).entries in omega arith) ∙ o.many f;
          answers = o.answers;
          ends = λ e. o.ends (sym cleared_same ∙ e);
        };
        left = λ m e. each_now (λ i v. (length q.seats ≤ i) ⊎ ((seat_at q i).left ≡ true) → v ≡ gone)
            (λ h. absurd (⊎_elim (λ past. let z = there in absurd (omega arith))
            (λ l. false≢true (sym root_here ∙ l)) (left_on 0 (λ z. apart (sym z)) h)))
            (λ h. refl) (λ i n0 nj h. law.left i (left_on i nj h)) m e;
        closed = λ e m ne. each_now (λ i v. i ≢ 0 → v ≡ gone) (λ h. absurd (h refl)) (λ h. refl)
            (λ i n0 nj h. law.closed (sym cleared_same ∙ e) i h) m ne;
      }

  pub leave_map : KeepsMap c p q
  leave_map = map_on c Nowhere p q views after (frame_same p q slots) lawful law nothing still cell_same

leave_both : (c : ℕ) (p q : Plain) (j found : ℕ) (views : List View) → Meets (MapLaw c) p views
    → Does p 0 (act.Leave j) found q
    → MapLaw c q (set (set views 0 (joined (view_at views 0) (view_at views j))) j gone) × KeepsMap c p q
leave_both c p q j found views meets d =
    let count = meets.count in
    let inside = d.1.2 in
    let seats = ap (λ (z : Plain). z.seats) d.1.8 in (
      leave_law c p q views j (omega arith) d.1.1 meets.lawful meets.law (ap (λ (z : Plain). z.slots) d.1.8)
          (ap (λ (z : Plain). z.cells) d.1.8) d.0.1
          (λ m ne h.
          let l1 = length-set p.seats 0 _ in
          let l2 = length-set (set p.seats 0 _) j _ in
          let long : length q.seats ≡ length p.seats = ap (λ (l : List PlainSeat). length l) seats ∙ (l2 ∙ l1) in
          let e1 : (seat_at q m).left ≡ (seat_at p m).left =
          ap (λ (z : List PlainSeat). (get_or z m new_seat).left) seats
          ∙ (ap (λ (z : PlainSeat). z.left) (get_or-set_other (set p.seats 0 _) j m _ new_seat ne)
          ∙ left_with p.seats 0 _ refl m) in
          ⊎_elim (λ past. inl (omega arith)) (λ left. inr (sym e1 ∙ left)) h)
          d.0.0,
      leave_map c p q views j (omega arith) d.1.1 meets.lawful meets.law (ap (λ (z : Plain). z.slots) d.1.8)
          (ap (λ (z : Plain). z.cells) d.1.8) d.0.1
          (λ m ne h.
          let l1 = length-set p.seats 0 _ in
          let l2 = length-set (set p.seats 0 _) j _ in
          let long : length q.seats ≡ length p.seats = ap (λ (l : List PlainSeat). length l) seats ∙ (l2 ∙ l1) in
          let e1 : (seat_at q m).left ≡ (seat_at p m).left =
          ap (λ (z : List PlainSeat). (get_or z m new_seat).left) seats
          ∙ (ap (λ (z : PlainSeat). z.left) (get_or-set_other (set p.seats 0 _) j m _ new_seat ne)
          ∙ left_with p.seats 0 _ refl m) in
          ⊎_elim (λ past. inl (omega arith)) (λ left. inr (sym e1 ∙ left)) h)
          d.0.0,
    )

pub leave_keeps : (c : ℕ) → KeptByLeave (MapLaw c) joined gone
leave_keeps c p q j found views meets d = (leave_both c p q j found views meets d).0

pub leave_keeps_map : (c : ℕ) (p q : Plain) (j found : ℕ) (views : List View) → Meets (MapLaw c) p views
    → Does p 0 (act.Leave j) found q → KeepsMap c p q
leave_keeps_map c p q j found views meets d = (leave_both c p q j found views meets d).1
