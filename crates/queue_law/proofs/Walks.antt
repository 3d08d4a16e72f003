-- The walk that shut makes finds what waits.
use Rattle.std.proofs.Common.{◌≡◌, ◌≢◌, ⊎_elim, ℕ, zero, suc, ◌+◌, ◌-◌, ◌<◌, ◌≤◌, Bool, true, false, List, ◌∷◌, length, refl, ap, ◌∙◌, arith}
use Rattle.std.specs.Prelude.{cond, ◌==◌}
use Rattle.std.proofs.lemmas.Bool.{eq-eqb, eqb-true}
use Rattle.plain_protocol.specs.plain_state.State.{Plain}
use Rattle.queue_law.specs.Words.{slot_at}
use Rattle.queue_law.specs.Views.{Form, Linked, Double, Item}
use Rattle.queue_law.specs.Chain.{Ends, Sent, sent, HeadAt, TailAt, Chain}
use Rattle.queue_law.specs.Opening.{item_of, behind, is_end, walk}
use Rattle.queue_law.proofs.Chain.{tail_last, leads_linked, chain_present, same_node}
use Rattle.queue_law.proofs.Gives.{seg}

item_eq : (x y : Item) → x.slot ≡ y.slot → x.life ≡ y.life → x.payload ≡ y.payload → x ≡ y
item_eq x y a b c = λ i. record { slot = a i; life = b i; payload = c i }

pick : {A : Type 0} (a b : ℕ) (x y : A) → a ≡ b → cond (a == b) x y ≡ x
pick a b x y e = ap (λ z. cond z x y) (eq-eqb a b e)

pick_other : {A : Type 0} (a b : ℕ) (x y : A) → a ≢ b → cond (a == b) x y ≡ y
pick_other {A} a b x y ne = go (a == b) refl
  where
    go : (z : Bool) → (a == b) ≡ z → cond z x y ≡ y
    go true is = absurd (ne (eqb-true a b is))
    go false is = refl

ne_eqb : (a b : ℕ) → a ≢ b → (a == b) ≡ false
ne_eqb a b ne = go (a == b) refl
  where
    go : (z : Bool) → (a == b) ≡ z → (a == b) ≡ false
    go true is = absurd (ne (eqb-true a b is))
    go false is = is

when_true : {A : Type 0} (b : Bool) (x y : A) → b ≡ true → cond b x y ≡ x
when_true b x y e = ap (λ z. cond z x y) e

when_false : {A : Type 0} (b : Bool) (x y : A) → b ≡ false → cond b x y ≡ y
when_false b x y e = ap (λ z. cond z x y) e

-- the walk from the head's slot finds what waits
module _ (u : Ends) (p : Plain) (h : List Sent) (k t : ℕ) (c : Chain u p h k t) (a : HeadAt u p h k)
    (b : TailAt u p h t) where
  holds_item : (i : ℕ) → k < i → i < length h → item_of p (sent h i).node ≡ (sent h i).item
  holds_item i after low =
      let x = a.items i after low in
      let e : (slot_at p (sent h i).node).second - 1 ≡ (sent h i).item.slot = let z = x.0 in
      omega arith in
      item_eq (item_of p (sent h i).node) (sent h i).item e (ap (λ z. (slot_at p z).life) e ∙ x.1)
      (ap (λ z. (slot_at p z).payload) e ∙ x.2)

  behind_is : (i : ℕ) → k ≤ i → i + 1 < length h
      → behind p (sent h t).node (sent h i).node ≡ (sent h (i + 1)).node
  behind_is i le low =
      ⊎_elim
      (λ lead. pick_other (slot_at p (sent h i).node).first 0 _ _ (λ z. let x = lead.0 in omega arith)
      ∙ (let x = lead.0 in omega arith))
      (λ m.
      let x = tail_last u p h k t c m.double (omega arith) in
      let e : t ≡ i + 1 = let z = m.last in omega arith in
      pick (slot_at p (sent h i).node).first 0 _ _ m.null ∙ ap (λ z. (sent h z).node) e)
      (c.links i low (chain_present u p h k t c a i le (omega arith)))

  -- only the last node is the end
  end_last : (f : Form) → u.form ≡ f → (i : ℕ) → k ≤ i → i + 1 ≡ length h
      → is_end f p (sent h t).node (sent h i).node ≡ true
  end_last Linked is i le e =
      eq-eqb _ 0 (c.ends i e (chain_present u p h k t c a i le (omega arith)))
  end_last Double is i le e =
      let x = tail_last u p h k t c is (omega arith) in
      let same : i ≡ t = omega arith in eq-eqb _ _ (ap (λ z. (sent h z).node) same)

  end_not : (f : Form) → u.form ≡ f → (i : ℕ) → k ≤ i → i + 1 < length h
      → is_end f p (sent h t).node (sent h i).node ≡ false
  end_not Linked is i le low =
      let at = chain_present u p h k t c a i le (omega arith) in
      let l = (leads_linked u p h k t c is i low at).0 in
      ne_eqb _ 0 (λ z. omega arith)
  end_not Double is i le low =
      let x = tail_last u p h k t c is (omega arith) in
      let at = chain_present u p h k t c a i le (omega arith) in
      ne_eqb _ _
      (λ e. let same = same_node u p h k t c i t (omega arith) b.inside at b.is e in omega arith)

  pub walk_is : (m i f : ℕ) → i + m + 1 ≡ length h → m ≤ f → k ≤ i
      → walk f u.form p (sent h t).node (sent h i).node ≡ seg i m h
  walk_is zero i zero e le ki = refl
  walk_is zero i (suc f) e le ki = when_true _ _ _ (end_last u.form refl i ki (omega arith))
  walk_is (suc m) i zero e le ki = absurd (omega arith)
  walk_is (suc m) i (suc f) e le ki =
      let low : i + 1 < length h = omega arith in
      let next = behind_is i ki low in
      when_false _ _ _ (end_not u.form refl i ki low)
      ∙ (ap (λ z. item_of p z ∷ walk f u.form p (sent h t).node z) next
      ∙ (ap (λ z. z ∷ walk f u.form p (sent h t).node (sent h (i + 1)).node)
      (holds_item (i + 1) (omega arith) low)
      ∙ ap (λ z. (sent h (i + 1)).item ∷ z)
      (walk_is m (i + 1) f (omega arith) (omega arith) (omega arith))))
