-- The last move of a seat's trail is an event of the history.
use Rattle.std.proofs.Common.{◌≡◌, ◌≢◌, ⊎_elim, ℕ, ◌<◌, false, List, [], ◌∷◌, ◌++◌, length, length-append, refl, ap, sym, ◌∙◌, subst, arith}
use Rattle.core_law.specs.core_events.declared.act.Act.{Act}
use Rattle.core_law.specs.core_events.declared.act.Event.{Event}
use Rattle.core_law.specs.core_events.declared.shape.Shape.{Shape}
use Rattle.core_law.specs.core_events.declared.view.CoreView.{CoreView}
use Rattle.core_law.specs.core_events.declared.view.Move.{Move}
use Rattle.core_law.specs.core_events.Views.{Terms}
use Rattle.core_law.specs.core_events.Runs.{AreTerms, Core, Enabled, History, IsShape, after, outcome_of, start, view_at}
use Rattle.core_law.specs.Sound.{Sound}
use Rattle.core_law.proofs.Always.{history_sound}
use Rattle.core_law.proofs.Starts.{first_trail}
use Rattle.core_law.proofs.Trails.{trail_after}
use Rattle.core_promises.specs.Trails.{HasEvent}

-- lists that end in these are one only where these are one
last_one : {A : Type 0} (xs ys : List A) (a b : A) → xs ++ a ∷ [] ≡ ys ++ b ∷ [] → a ≡ b
last_one [] [] a b e = cc (e)
last_one [] (y ∷ ys) a b e =
    let l = ap length e in let m = length-append ys (b ∷ []) in absurd (omega arith)
last_one (x ∷ xs) [] a b e =
    let l = ap length e in let m = length-append xs (a ∷ []) in absurd (omega arith)
last_one (x ∷ xs) (y ∷ ys) a b e = let rest : xs ++ a ∷ [] ≡ ys ++ b ∷ [] = cc (e) in
    last_one xs ys a b rest

never_empty : {A : Type 0} (xs : List A) (a : A) → [] ≡ xs ++ a ∷ [] → ⊥
never_empty xs a e = let l = ap length e in let m = length-append xs (a ∷ []) in omega arith

same_event : (e : Event) (n : ℕ) (a : Act) → e.seat ≡ n → e.act ≡ a
    → e ≡ record { seat = n; act = a }
same_event e n a seat is = λ i. record { seat = seat i; act = is i }

pub last_move : (z : Shape) (ts : Terms) (es : List Event) (c : Core) (n : ℕ) (ms : List Move)
    (m : Move) → IsShape z → AreTerms z ts → History z ts es c → n < z.seats
    → (view_at c n).left ≡ false → (view_at c n).trail ≡ ms ++ m ∷ [] → HasEvent z ts es n m.act
last_move z ts [] c n ms m shape terms h hn here trail = absurd (never_empty ms m
    (sym (ap (λ (d : Core). (view_at d n).trail) h ∙ first_trail z ts n terms hn) ∙ trail))
last_move z ts (e ∷ es) c n ms m shape terms h hn here trail =
    let is : c ≡ after z h.0 e.seat e.act = h.2.1 in
    let so : Sound z h.0 = history_sound z ts es h.0 shape terms h.1 in
    let left = sym (ap (λ (d : Core). (view_at d n).left) is) ∙ here in
    let told = trail_after z h.0 n e so h.2.0 left in
    let now = sym (ap (λ (d : Core). (view_at d n).trail) is) ∙ trail in
    ⊎_elim
    (λ (own : (e.seat ≡ n) × ((view_at (after z h.0 e.seat e.act) n).trail
    ≡ (view_at h.0 n).trail ++ record { act = e.act; outcome = outcome_of z h.0 e } ∷ [])).
    let last = ap (λ (x : Move). x.act) (last_one (view_at h.0 n).trail ms
    (record { act = e.act; outcome = outcome_of z h.0 e }) m (sym own.1 ∙ now)) in
    found e own.0 last h.1 h.2.0)
    (λ (other : (e.seat ≢ n) × ((view_at (after z h.0 e.seat e.act) n).trail
    ≡ (view_at h.0 n).trail)).
    let r = last_move z ts es h.0 n ms m shape terms h.1 hn told.0 (sym other.1 ∙ now) in record {
      since = e ∷ r.since;
      before = r.before;
      core = r.core;
      are = ap (λ (xs : List Event). e ∷ xs) r.are;
      history = r.history;
      enabled = r.enabled;
    })
    told.1
  where
    found : (x : Event) → x.seat ≡ n → x.act ≡ m.act → History z ts es h.0
        → Enabled z h.0 x.seat x.act → HasEvent z ts (x ∷ es) n m.act
    found x seat is history on =
        let same = same_event x n m.act seat is in record {
          since = [];
          before = es;
          core = h.0;
          are = ap (λ (y : Event). y ∷ es) same;
          history = history;
          enabled = subst (λ (y : Event). Enabled z h.0 y.seat y.act) same on;
        }
