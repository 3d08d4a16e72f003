-- The chain of nodes: what is there, what leads on, and what was linked.
use Rattle.std.proofs.Common.{◌≡◌, ◌≢◌, ◌⊎◌, inl, inr, ⊎_elim, ℕ, zero, suc, ◌+◌, ◌-◌, ◌<◌, ◌≤◌, List, [], ◌∷◌, ◌++◌, length, ap, sym, ◌∙◌, subst, arith}
use Rattle.std.proofs.lemmas.Bool.{cases_lt}
use Rattle.plain_protocol.specs.plain_state.State.{Plain}
use Rattle.queue_law.specs.Words.{slot_at, cell_at, Live}
use Rattle.queue_law.specs.Views.{Form, Linked, Double, Item}
use Rattle.queue_law.specs.Chain.{Ends, Sent, no_sent, sent, Present, Leads, Solid, Missing, Lags, HoldsItem, IsKnown, IsNode, WasLinked, HeadAt, TailAt, Chain}
use Rattle.queue_law.specs.Writes.{SameObjects}
use Rattle.std.proofs.lemmas.List.{get_or_append_left, get_or_push, length_push}

-- every node from a present one on is present
pub present_on : (p : Plain) (h : List Sent) (k : ℕ) → Present p (sent h k)
    → ((i : ℕ) → k ≤ i → i + 1 < length h → Present p (sent h i) → Present p (sent h (i + 1)))
    → (d : ℕ) → k + d < length h → Present p (sent h (k + d))
present_on p h k at more zero low = subst (λ (z : ℕ). Present p (sent h z)) (omega arith) at
present_on p h k at more (suc d) low =
    subst (λ (z : ℕ). Present p (sent h z)) (omega arith)
    (more (k + d) (omega arith) (omega arith) (present_on p h k at more d (omega arith)))

pub lag_is : (f : Form) (many t : ℕ) → f ≡ Double → Lags f many t → many ≡ t + 1
lag_is f many t e lag = subst (λ z. Lags z many t) e lag

pub lag_double : (f : Form) (many t : ℕ) → f ≡ Double → many ≡ t + 1 → Lags f many t
lag_double f many t e lag = subst (λ z. Lags z many t) (sym e) lag

pub lag_short : (f : Form) (many t : ℕ) → Lags f many t → many ≤ t + 2
lag_short Linked many t lag = lag
lag_short Double many t lag = omega arith

pub lag_linked : (f : Form) (many t : ℕ) → f ≡ Linked → many ≤ t + 2 → Lags f many t
lag_linked f many t e lag = subst (λ z. Lags z many t) (sym e) lag

-- a queue isn't of both forms
pub one_form : (f : Form) → f ≡ Linked → f ≡ Double → ⊥
one_form f a b = let e : Linked ≡ Double = sym a ∙ b in absurd cc

-- where the head cell isn't null, nor is the tail cell
pub the_tail : (u : Ends) (p : Plain) (h : List Sent) (k t : ℕ) → Chain u p h k t
    → cell_at p u.head ≢ 0 → TailAt u p h t
the_tail u p h k t c is_some = ⊎_elim (λ z. absurd (is_some z.1)) (λ b. b) c.tail

pub the_head : (u : Ends) (p : Plain) (h : List Sent) (k t : ℕ) → Chain u p h k t
    → cell_at p u.head ≢ 0 → HeadAt u p h k
the_head u p h k t c is_some = ⊎_elim (λ z. absurd (is_some z)) (λ a. a) c.head

pub head_some : (u : Ends) (p : Plain) (h : List Sent) (k : ℕ) → HeadAt u p h k
    → cell_at p u.head ≢ 0
head_some u p h k a z = let x = a.holds in absurd (omega arith)

module _ (u : Ends) (p : Plain) (h : List Sent) (k t : ℕ) (c : Chain u p h k t) where
  -- the tail's node of a doubly linked queue is the last
  pub tail_last : u.form ≡ Double → 0 < length h → length h ≡ t + 1
  tail_last double low = lag_is u.form (length h) t double (c.lag low)

  pub leads_inner : (i : ℕ) → i + 2 < length h → Present p (sent h i) → Leads p h i
  leads_inner i low at =
      ⊎_elim (λ l. l) (λ m. let e = m.last in absurd (omega arith)) (c.links i (omega arith) at)

  pub leads_passed : (i : ℕ) → i < k → i + 1 < length h → Present p (sent h i) → Leads p h i
  leads_passed i below low at =
      ⊎_elim (λ l. l) (λ m. let e = m.ahead in absurd (omega arith)) (c.links i low at)

  pub leads_linked : u.form ≡ Linked → (i : ℕ) → i + 1 < length h → Present p (sent h i) → Leads p h i
  leads_linked linked i low at =
      ⊎_elim (λ l. l) (λ m. absurd (one_form u.form linked m.double)) (c.links i low at)

  -- where field 0 isn't null, it leads on
  pub leads_some : (i : ℕ) → i + 1 < length h → Present p (sent h i)
      → (slot_at p (sent h i).node).first ≢ 0 → Leads p h i
  leads_some i low at is_some = ⊎_elim (λ l. l) (λ m. absurd (is_some m.null)) (c.links i low at)

  -- where it is null, the link is missing
  pub missing_null : (i : ℕ) → i + 1 < length h → Present p (sent h i)
      → (slot_at p (sent h i).node).first ≡ 0 → Missing u p h k i
  missing_null i low at null =
      ⊎_elim (λ l. let e = l.0 in absurd (omega arith)) (λ m. m) (c.links i low at)

  -- from one node to the next: by its field, or by the tail cell
  pub next_present : TailAt u p h t → (i : ℕ) → i + 1 < length h → Present p (sent h i)
      → Present p (sent h (i + 1))
  next_present b i low at =
      ⊎_elim
      (λ l. l.1)
      (λ m.
      let e = tail_last m.double (omega arith) in
      let l = m.last in subst (λ z. Present p (sent h z)) (omega arith) b.is)
      (c.links i low at)

  pub chain_present : HeadAt u p h k → (i : ℕ) → k ≤ i → i < length h → Present p (sent h i)
  chain_present a i le low =
      subst (λ (z : ℕ). Present p (sent h z)) (omega arith)
      (present_on p h k a.is
      (λ j kj. next_present (the_tail u p h k t c (head_some u p h k a)) j)
      (i - k) (omega arith))

  -- a slot that is live in a linked node's life is that node
  pub present_in : (i s : ℕ) → i < length h → (sent h i).node ≡ s → Live p s
      → (slot_at p s).life ≡ (sent h i).life → Present p (sent h i)
  present_in i s low is live life =
      let lv : Live p (sent h i).node = subst (Live p) (sym is) live in
      let lf = ap (λ z. (slot_at p z).life) is ∙ life in
      (lv, lf, c.nodes i low lv lf)

  -- two present nodes in one slot are the same node
  pub same_node : (i j : ℕ) → i < length h → j < length h → Present p (sent h i)
      → Present p (sent h j) → (sent h i).node ≡ (sent h j).node → i ≡ j
  same_node i j il jl at to e =
      c.apart i j il jl e (sym at.1 ∙ (ap (λ z. (slot_at p z).life) e ∙ to.1))

  -- where the slot is the last node and its field 0 is null, it is the last
  pub is_last : u.form ≡ Linked → (i : ℕ) → i < length h → Present p (sent h i)
      → (slot_at p (sent h i).node).first ≡ 0 → i + 1 ≡ length h
  is_last linked i low at null =
      ⊎_elim
      (λ more. let l = (leads_linked linked i more at).0 in absurd (omega arith))
      (λ past. omega arith) (cases_lt (i + 1) (length h))

pub old_node : (h : List Sent) (e : Sent) (i : ℕ) → i < length h → sent (h ++ e ∷ []) i ≡ sent h i
old_node h e i low = get_or_append_left h (e ∷ []) no_sent i low

pub new_node : (h : List Sent) (e : Sent) (i : ℕ) → length h ≡ i → sent (h ++ e ∷ []) i ≡ e
new_node h e i at = get_or_push h e no_sent i at

pub longer : (h : List Sent) (e : Sent) → length (h ++ e ∷ []) ≡ length h + 1
longer h e = length_push h e

-- a linked node stays linked
pub linked_more : (h : List Sent) (e : Sent) (s l : ℕ) → WasLinked h s l
    → WasLinked (h ++ e ∷ []) s l
linked_more h e s l k =
    let o = old_node h e k.0 k.1 in let n = longer h e in
    (k.0, omega arith, ap (λ (z : Sent). z.node) o ∙ k.2, ap (λ (z : Sent). z.life) o ∙ k.3)

-- what is linked afterwards was linked, or is the new one
pub linked_less : (h : List Sent) (e : Sent) (s l : ℕ) → WasLinked (h ++ e ∷ []) s l
    → WasLinked h s l ⊎ ((e.node ≡ s) × (e.life ≡ l))
linked_less h e s l k =
    let n = longer h e in
    ⊎_elim
    (λ low. let o = old_node h e k.0 low in
    inl (k.0, low, ap (λ (z : Sent). z.node) (sym o) ∙ k.2, ap (λ (z : Sent). z.life) (sym o) ∙ k.3))
    (λ past. let o = new_node h e k.0 (omega arith) in
    inr (ap (λ (z : Sent). z.node) (sym o) ∙ k.2, ap (λ (z : Sent). z.life) (sym o) ∙ k.3))
    (cases_lt k.0 (length h))

-- what a step that leaves all objects leaves
module _ (p q : Plain) (o : SameObjects p q) where
  pub same_present : (e : Sent) → Present p e → Present q e
  same_present e at = (o.stage e.node ∙ at.0, o.life e.node ∙ at.1, o.payload e.node ∙ at.2)

  pub was_present : (e : Sent) → Present q e → Present p e
  was_present e at =
      (sym (o.stage e.node) ∙ at.0, sym (o.life e.node) ∙ at.1, sym (o.payload e.node) ∙ at.2)

  pub same_solid : (x l : ℕ) → Solid p x l → Solid q x l
  same_solid x l s = (o.life x ∙ s.0, λ e. s.1 (sym (o.stage x) ∙ e))

  pub same_has : (s : ℕ) (x : Item) → (slot_at q s).second ≡ (slot_at p s).second
      → HoldsItem p s x → HoldsItem q s x
  same_has s x e has = (e ∙ has.0, o.life x.slot ∙ has.1, o.payload x.slot ∙ has.2)

  pub same_known : (e : Sent) → IsKnown p e → IsKnown q e
  same_known e x = let y = o.life e.node in omega arith

  pub same_is_node : (e : Sent) → IsNode p e → IsNode q e
  same_is_node e x live life =
      o.payload e.node ∙ x (sym (o.stage e.node) ∙ live) (sym (o.life e.node) ∙ life)

  -- what the head cell holds, where neither it nor a waiting node's field 1 changes
  pub same_head : (u : Ends) (h : List Sent) (k : ℕ) → cell_at q u.head ≡ cell_at p u.head
      → ((a : HeadAt u p h k) (i : ℕ) → k < i → i < length h
      → (slot_at q (sent h i).node).second ≡ (slot_at p (sent h i).node).second)
      → (cell_at p u.head ≡ 0) ⊎ HeadAt u p h k → (cell_at q u.head ≡ 0) ⊎ HeadAt u q h k
  same_head u h k cell second =
      ⊎_elim
      (λ z. inl (cell ∙ z))
      (λ a. inr (record {
        inside = a.inside;
        holds = cell ∙ a.holds;
        is = same_present (sent h k) a.is;
        items = λ i after low. same_has (sent h i).node (sent h i).item (second a i after low)
            (a.items i after low);
      }))

  pub same_tail_at : (u : Ends) (h : List Sent) (t : ℕ) → cell_at q u.tail ≡ cell_at p u.tail
      → TailAt u p h t → TailAt u q h t
  same_tail_at u h t cell b =
      record { inside = b.inside; holds = cell ∙ b.holds; is = same_present (sent h t) b.is }

  pub same_tail : (u : Ends) (h : List Sent) (t : ℕ) → cell_at q u.tail ≡ cell_at p u.tail
      → cell_at q u.head ≡ cell_at p u.head
      → ((cell_at p u.tail ≡ 0) × (cell_at p u.head ≡ 0)) ⊎ TailAt u p h t
      → ((cell_at q u.tail ≡ 0) × (cell_at q u.head ≡ 0)) ⊎ TailAt u q h t
  same_tail u h t cell head =
      ⊎_elim (λ z. inl (cell ∙ z.0, head ∙ z.1)) (λ b. inr (same_tail_at u h t cell b))
