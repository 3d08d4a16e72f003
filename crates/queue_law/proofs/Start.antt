-- The law holds at the start.
use Rattle.std.proofs.Common.{◌≡◌, ◌⊎◌, inl, ⊎_elim, ℕ, suc, false, List, [], ◌∷◌, refl, ap, sym, ◌∙◌, subst, arith}
use Rattle.std.proofs.lemmas.Bool.{false≢true}
use Rattle.plain_protocol.specs.plain_state.State.{Plain}
use Rattle.queue_law.specs.Words.{cell_at, Live}
use Rattle.queue_law.specs.Views.{View, no_load, first_view, view_of, view_at}
use Rattle.queue_law.specs.Chain.{Ends}
use Rattle.queue_law.specs.Notes.{Sees, Emptied, Carries, Flies}
use Rattle.queue_law.specs.Lists.{item_times, views_total, taken_items, tagged, home}
use Rattle.queue_law.specs.Law.{QueueLaw}
use Rattle.std.proofs.lemmas.List.Sums.{sum_by-cons}
use Rattle.queue_law.proofs.Notes.{carries_none}
use Rattle.queue_law.proofs.Orders.{tagged_none}
use Rattle.queue_law.proofs.Leave.{items_none}

-- START
pub zero_total : (f : View → ℕ) (vs : List View) → ((n : ℕ) → f (view_at vs n) ≡ 0) → views_total f vs ≡ 0
unfolding views_total
zero_total f [] k = refl
zero_total f (v ∷ vs) k = let a = sum_by-cons f v vs in let b = k 0 in
    let c = zero_total f vs (λ n. k (suc n)) in omega arith

-- the state with nothing in it
pub record Empty (p : Plain) : Type 0 where
  pub cells : (c : ℕ) → cell_at p c ≡ 0
  pub slots : (s : ℕ) → ¬ (Live p s)

pub start : (u : Ends) (p : Plain) (views : List View) → Empty p
    → ((n : ℕ) → (view_at views n ≡ view_of u.form n) ⊎ (view_at views n ≡ first_view))
    → QueueLaw u p views
start u p views empty each =
    let both : (P : View → Type 0) → ((n : ℕ) → P (view_of u.form n)) → P first_view → (n : ℕ)
    → P (view_at views n) =
    λ P a b n. ⊎_elim (λ e. subst P (sym e) (a n)) (λ e. subst P (sym e) b) (each n) in (
      [],
      [],
      0,
      record {
        chain = record {
          head = inl (empty.cells u.head);
          tail = inl (empty.cells u.tail, empty.cells u.head);
          lag = λ low. absurd (omega arith);
          links = λ i low. absurd (omega arith);
          ends = λ i e. absurd (omega arith);
          backs = λ double i low. absurd (omega arith);
          first_back = λ double low. absurd (omega arith);
          strays = λ s live. absurd (empty.slots s live);
          apart = λ i j low. absurd (omega arith);
          known = λ i low. absurd (omega arith);
          nodes = λ i low. absurd (omega arith);
        };
        known = record {
          sees = both (λ v. Sees p [] 0 0 v.eyes) (λ n z. absurd (z refl)) (λ z. absurd (z refl));
          emptied = both (Emptied [] 0) (λ n z. absurd (z refl)) (λ z. absurd (z refl));
          carries = both (λ v. Carries p [] v.load) (λ n. carries_none p [] no_load refl)
              (carries_none p [] no_load refl);
          flies = both (λ v. Flies [] v.flight) (λ n z. absurd (z refl)) (λ z. absurd (z refl));
          apart = λ n m is_some. absurd (is_some (both (λ v. v.load.node ≡ 0) (λ k. refl) refl n));
          number = λ n is. ⊎_elim
              (λ e. (ap (λ (z : View). z.number) e, ap (λ (z : View). z.form) e))
              (λ e. absurd (false≢true (ap (λ (z : View). z.here) (sym e) ∙ is)))
              (each n);
          attached = λ n is. absurd
              (false≢true (sym (both (λ v. v.attached ≡ false) (λ k. refl) refl n) ∙ is));
        };
        flights = λ double i e. absurd (omega arith);
        counted = record {
          pushed = λ x.
              zero_total (λ v. item_times x (taken_items v.pushed)) views
              (both (λ v. item_times x (taken_items v.pushed) ≡ 0) (λ n. items_none x) (items_none x))
              ∙ sym (items_none x);
          popped = λ x.
              zero_total (λ v. item_times x (taken_items v.popped)) views
              (both (λ v. item_times x (taken_items v.popped) ≡ 0) (λ n. items_none x) (items_none x))
              ∙ sym (items_none x);
          many = omega arith;
          order = λ i low. absurd (omega arith);
        };
        ordered = record {
          pushed = record {
            own = λ n. ap (tagged n) (both (λ v. v.pushed ≡ []) (λ k. refl) refl (home views n));
            none = λ n m ne. ap (tagged n) (both (λ v. v.pushed ≡ []) (λ k. refl) refl m) ∙ tagged_none n;
          };
          popped = record {
            own = λ n. ap (tagged n) (both (λ v. v.popped ≡ []) (λ k. refl) refl (home views n));
            none = λ n m ne. ap (tagged n) (both (λ v. v.popped ≡ []) (λ k. refl) refl m) ∙ tagged_none n;
          };
        };
        phase =
            let none = both (λ v. v.stand.laid ≡ 0) (λ k. refl) refl 0 in
            record {
              unlaid = λ e. (refl, refl, empty.cells u.head, empty.cells u.tail);
              laying = λ e. absurd (omega arith);
              shut = λ e. absurd (omega arith);
            };
      },
    )
