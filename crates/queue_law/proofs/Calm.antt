-- Calm steps keep the law, and so does a step that changes nothing.
use Rattle.std.proofs.Common.{◌≡◌, ◌≢◌, inr, ℕ, ◌<◌, Bool, true, false, List, length, set, refl, ap, sym, ◌∙◌, subst, arith}
use Rattle.std.specs.Prelude.{cond, ◌==◌}
use Rattle.std.proofs.lemmas.Bool.{eq-eqb, eqb-true}
use Rattle.plain_protocol.specs.plain_state.State.{Plain}
use Rattle.queue_law.specs.Views.{Taken, View, first_view, view_at}
use Rattle.queue_law.specs.Chain.{Ends, Sent, sent, Chain}
use Rattle.queue_law.specs.Law.{Queue, QueueLaw}
use Rattle.queue_law.specs.Writes.{Quiet}
use Rattle.std.proofs.lemmas.List.{set-get_or}
use Rattle.queue_law.proofs.Kit.{refs_second}
use Rattle.queue_law.proofs.ChainCalm.{quiet_back, quiet_leads, calm_chain}
use Rattle.queue_law.proofs.Notes.{unchanged, LeadsOn, sees_on}
use Rattle.queue_law.proofs.Counts.{phase_same}

-- what leads on goes on to do so
pub quiet_on : (u : Ends) (p q : Plain) (h : List Sent) (k t : ℕ) → Chain u p h k t → Quiet p q
    → LeadsOn p q h h
quiet_on u p q h k t c w i low l at =
    quiet_leads u p q h k t c w i at (l (quiet_back u p q h k t c w (sent h i) at))

-- CALM
pub calm_queue : (u : Ends) (p q : Plain) (views : List View) (h : List Sent) (ts : List Taken) (t : ℕ)
    → Quiet p q → Queue u p views h ts t → Queue u q views h ts t
calm_queue u p q views h ts t w law =
    let o = law.known in
    let on = quiet_on u p q h (length ts) t law.chain w in
    record {
      chain = calm_chain u p q h (length ts) t law.chain w;
      known = record {
        sees = λ m. sees_on p q h h (length ts) (length ts) t t (view_at views m).eyes (unchanged h)
            (omega arith) (omega arith) on (o.sees m);
        emptied = o.emptied;
        carries = λ m. let c = o.carries m in record {
          unlinked = c.unlinked;
          known = λ s e. let a = c.known s e in let b = w.life s in omega arith;
          node = λ s e live life. let was = w.was s live in w.payload s was
              ∙ c.node s e was (sym (w.life s) ∙ life);
          carried = λ s e live life x ex.
              let was = w.was s live in
              let b = c.carried s e was (sym (w.life s) ∙ life) x ex in
              let item = w.was x (w.stays x (refs_second p s x b.0)) in
              (w.second s live ∙ b.0, w.life x ∙ b.1, w.payload x item ∙ b.2);
          backed = λ s e live life.
              let was = w.was s live in
              w.back s live ∙ c.backed s e was (sym (w.life s) ∙ life);
        };
        flies = o.flies;
        apart = o.apart;
        number = o.number;
        attached = λ m e z. o.attached m e (sym (w.cells u.head) ∙ z);
      };
      flights = λ double i e at null. law.flights double i e
          (quiet_back u p q h (length ts) t law.chain w (sent h i) at) (sym (w.first _ at.0) ∙ null);
      counted = law.counted;
      ordered = law.ordered;
      phase = phase_same u p q h ts (view_at views 0) (view_at views 0) (w.cells u.head)
          (inr (w.cells u.tail)) refl law.phase;
    }

-- a step that changes neither the state nor the view
pub same_law : (u : Ends) (p q : Plain) (views : List View) (n : ℕ) (v : View) → n < length views
    → view_at views n ≡ v → q ≡ p → QueueLaw u p views → QueueLaw u q (set views n v)
same_law u p q views n v low at e law = subst (λ z. QueueLaw u z (set views n v)) (sym e)
    (subst (QueueLaw u p) (sym (ap (set views n) (sym at) ∙ set-get_or views n first_view)) law)

pub to_true : (a b : ℕ) (v w : View) → a ≡ b → w ≡ cond (a == b) w v
to_true a b v w e = sym (ap (λ z. cond z w v) (eq-eqb a b e))

pub to_false : (a b : ℕ) (v w : View) → a ≢ b → v ≡ cond (a == b) w v
to_false a b v w ne = go (a == b) refl
  where
    go : (z : Bool) → (a == b) ≡ z → v ≡ cond z w v
    go true is = absurd (ne (eqb-true a b is))
    go false is = refl
