-- No node reaches itself along field 0.
use Rattle.std.proofs.Common.{◌≡◌, ⊎_elim, ℕ, zero, suc, ◌+◌, ◌<◌, List, length, ap, sym, ◌∙◌, subst, arith}
use Rattle.std.proofs.lemmas.Bool.{cases_lt}
use Rattle.plain_protocol.specs.plain_state.State.{Plain, no_payload}
use Rattle.queue_law.specs.Words.{slot_at, Live}
use Rattle.queue_law.specs.Views.{View}
use Rattle.queue_law.specs.Chain.{Ends, Sent, sent, Present, WasLinked, Chain}
use Rattle.queue_law.specs.Law.{QueueLaw}
use Rattle.queue_law.specs.Promises.{Far}

-- no node reaches itself along field 0
module _ (u : Ends) (p : Plain) (h : List Sent) (k t : ℕ) (c : Chain u p h k t) where
  far_on : (d i : ℕ) (b : ℕ) → i < length h → Present p (sent h i) → Far p d (sent h i).node b
      → (j : ℕ) × (j < length h) × (j ≡ i + d) × ((sent h j).node ≡ b) × Present p (sent h j)
  far_on zero i b low at f = (i, low, omega arith, f, at)
  far_on (suc d) i b low at f = ⊎_elim
      (λ more. ⊎_elim
      (λ l.
      let next : (sent h (i + 1)).node ≡ f.0 = let x = l.0 in let y = f.1 in omega arith in
      let r = far_on d (i + 1) b more l.1 (subst (λ z. Far p d z b) (sym next) f.2) in
      (r.0, r.1, (let z = r.2 in omega arith), r.3, r.4))
      (λ m. let y = f.1 in let x = m.null in absurd (omega arith))
      (c.links i more at))
      (λ past. let e = c.ends i (omega arith) at in let y = f.1 in absurd (omega arith))
      (cases_lt (i + 1) (length h))

  linked_apart : (s d : ℕ) → Live p s → (slot_at p s).payload ≡ no_payload
      → WasLinked h s (slot_at p s).life → ¬ (Far p (suc d) s s)
  linked_apart s d live node l f =
      let at : Present p (sent h l.0) = (
        subst (Live p) (sym l.2) live,
        ap (λ z. (slot_at p z).life) l.2
            ∙ sym l.3,
        ap (λ z. (slot_at p z).payload) l.2 ∙ node,
      ) in
      let r = far_on (suc d) l.0 s l.1 at (subst (λ z. Far p (suc d) z s) (sym l.2) f) in
      let same = c.apart r.0 l.0 r.1 l.1 (r.3 ∙ sym l.2)
      (sym r.4.1 ∙ (ap (λ z. (slot_at p z).life) r.3 ∙ sym l.3)) in
      let z = r.2 in omega arith

  pub no_cycle : (s d : ℕ) → Live p s → (slot_at p s).payload ≡ no_payload → ¬ (Far p (suc d) s s)
  no_cycle s d live node f =
      let stray : ¬ (WasLinked h s (slot_at p s).life) = λ l. linked_apart s d live node l f in
      let e = c.strays s live node stray in
      let y = f.1 in absurd (omega arith)

pub law_no_cycle : (u : Ends) (p : Plain) (views : List View) → QueueLaw u p views → (s d : ℕ) → Live p s
    → (slot_at p s).payload ≡ no_payload → Far p (suc d) s s → ⊥
law_no_cycle u p views law s d live node f = no_cycle u p law.0
    (length law.1) law.2 law.3.chain s d live node f
