-- The trail of a seat is its events with their answers.
use Rattle.std.proofs.Common.{◌≡◌, ◌≢◌, ◌⊎◌, inl, inr, ⊎_elim, ℕ, ◌<◌, Bool, true, false, List, [], ◌∷◌, ◌++◌, get_or, set, refl, ap, sym, ◌∙◌, subst, arith, append_assoc}
use Rattle.std.specs.Prelude.{◌==◌, if◌then◌else◌}
use Rattle.std.proofs.lemmas.List.{append-nil, length-set, get_or-set_same, get_or-set_other}
use Rattle.std.proofs.lemmas.Bool.{cases_eq}
use Rattle.std.proofs.lemmas.Bool.Decides.{nat_tests}
use Rattle.core_events.specs.declared.act.Act.{Act}
use Rattle.core_events.specs.declared.act.Act.TheVariants as act
use Rattle.core_events.specs.declared.act.Event.{Event}
use Rattle.core_events.specs.declared.outcome.Outcome.TheVariants as outcome
use Rattle.core_events.specs.declared.shape.Shape.{Shape}
use Rattle.core_events.specs.Views.{Terms, no_view}
use Rattle.core_events.specs.declared.view.CoreView.{CoreView}
use Rattle.core_events.specs.declared.view.Move.{Move}
use Rattle.core_events.specs.Steps.{May, changed, moved, noted}
use Rattle.core_events.specs.Runs.{Core, view_at, found, Enabled, after, views_after, run, AreEnabled, outcome_of, moves_of, start, taken_over, left_behind, IsShape, AreTerms}
use Rattle.core_law.specs.Sound.{Sound}
use Rattle.core_law.proofs.Always.{step_keeps, is_leave}
use Rattle.core_law.proofs.Put.{at_seat}
use Rattle.core_law.proofs.Starts.{start_sound, first_trail}

-- the two views have the same trail and the same trails of seats that left, and both have left or neither has
pub record SameTrail (v u : CoreView) : Type 0 where
  pub trail : u.trail ≡ v.trail
  pub left : u.left ≡ v.left
  pub left_seats : u.left_seats ≡ v.left_seats

-- nothing but the noting changes a trail
pub changed_trail : (z : Shape) (a : Act) (w : ℕ) (v : CoreView) → SameTrail v (changed z a w v)
changed_trail z a w v = grind arith

-- an act that isn't a leave changes one view
pub views_plain : (z : Shape) (c : Core) (n : ℕ) (a : Act) → ((j : ℕ) → a ≡ act.Leave j → ⊥)
    → views_after z c n a ≡ set c.views n (moved z a (found z c n a) (view_at c n))
views_plain z c n (act.Leave j) stays = absurd (stays j refl)
views_plain z c n a stays = refl

-- what one event of seat m adds to seat n's trail
abbrev added : Shape → Core → ℕ → Event → List Move
added z c n e = if e.seat == n then record { act = e.act; outcome = outcome_of z c e } ∷ [] else []

pub record Longer (z : Shape) (c : Core) (n : ℕ) (e : Event) : Type 0 where
  pub before : (view_at c n).left ≡ false
  pub trail : (view_at (after z c e.seat e.act) n).trail ≡ (view_at c n).trail ++ added z c n e

own : (z : Shape) (c : Core) (n : ℕ) (e : Event) → e.seat ≡ n
    → added z c n e ≡ record { act = e.act; outcome = outcome_of z c e } ∷ []
own z c n e same = let t : (e.seat == n) ≡ true = grind (arith, nat_tests) in rw t refl

others : (z : Shape) (c : Core) (n : ℕ) (e : Event) → e.seat ≢ n → added z c n e ≡ []
others z c n e ne = let t : (e.seat == n) ≡ false = grind (arith, nat_tests) in rw t refl

own_longer : (z : Shape) (c : Core) (e : Event) → Sound z c → e.seat < z.seats
    → ((j : ℕ) → e.act ≡ act.Leave j → ⊥) → (view_at (after z c e.seat e.act) e.seat).left ≡ false
    → Longer z c e.seat e
own_longer z c e so hm stays still =
    let w : ℕ = found z c e.seat e.act in
    let v : CoreView = view_at c e.seat in
    let s = changed_trail z e.act w v in
    let at : view_at (after z c e.seat e.act) e.seat ≡ moved z e.act w v =
    ap (λ (vs : List CoreView). get_or vs e.seat no_view) (views_plain z c e.seat e.act stays)
    ∙ get_or-set_same c.views e.seat (moved z e.act w v) no_view (at_seat z c e.seat so hm) in
    record {
      before = sym s.left ∙ (sym (ap (λ (u : CoreView). u.left) at) ∙ still);
      trail = ap (λ (u : CoreView). u.trail) at
          ∙ (ap (λ (ms : List Move). ms ++ record { act = e.act; outcome = outcome_of z c e } ∷ [])
          s.trail
          ∙ ap (λ (ms : List Move). v.trail ++ ms) (sym (own z c e.seat e refl)));
    }

-- another seat's view stays
other_longer : (z : Shape) (c : Core) (n : ℕ) (e : Event) → e.seat ≢ n
    → view_at (after z c e.seat e.act) n ≡ view_at c n → (view_at (after z c e.seat e.act) n).left
    ≡ false
    → Longer z c n e
other_longer z c n e ne at still = record {
  before = sym (ap (λ (u : CoreView). u.left) at) ∙ still;
  trail = ap (λ (u : CoreView). u.trail) at ∙ (sym (append-nil (view_at c n).trail)
      ∙ ap (λ (ms : List Move). (view_at c n).trail ++ ms) (sym (others z c n e ne)));
}

plain_longer : (z : Shape) (c : Core) (n : ℕ) (e : Event) → Sound z c → e.seat < z.seats
    → ((j : ℕ) → e.act ≡ act.Leave j → ⊥) → (view_at (after z c e.seat e.act) n).left ≡ false
    → Longer z c n e
plain_longer z c n e so hm stays still = ⊎_elim
    (λ (same : e.seat ≡ n). subst (λ (k : ℕ). Longer z c k e) same
    (own_longer z c e so hm stays
    (subst (λ (k : ℕ). (view_at (after z c e.seat e.act) k).left ≡ false) (sym same) still)))
    (λ (ne : e.seat ≢ n). other_longer z c n e ne
    (ap (λ (vs : List CoreView). get_or vs n no_view) (views_plain z c e.seat e.act stays)
    ∙ get_or-set_other c.views e.seat n (moved z e.act (found z c e.seat e.act) (view_at c e.seat))
    no_view
    (λ f. ne (sym f))) still)
    (cases_eq e.seat n)

abbrev of : ℕ → Act → Event
of m a = record { seat = m; act = a }

-- the event of a leave
abbrev leaving : ℕ → Event
leaving j = record { seat = 0; act = act.Leave j }

leave_longer : (z : Shape) (c : Core) (n j : ℕ) → Sound z c → j < z.seats → j ≢ 0
    → (view_at (after z c 0 (act.Leave j)) n).left ≡ false → Longer z c n (leaving j)
leave_longer z c n j so hj other still = ⊎_elim
    (λ (is_j : n ≡ j). absurd (cc (ap (λ (u : CoreView). u.left) (gone is_j), still)))
    (λ (not_j : n ≢ j). ⊎_elim
    (λ (same : 0 ≡ n). subst (λ (k : ℕ). Longer z c k (leaving j)) same (root
    (subst (λ (k : ℕ). (view_at (after z c 0 (act.Leave j)) k).left ≡ false) (sym same) still)))
    (λ (ne : 0 ≢ n). other_longer z c n (leaving j) ne
    (get_or-set_other (set c.views 0 rooted) j n (left_behind (view_at c j)) no_view not_j
    ∙ get_or-set_other c.views 0 n rooted no_view (λ f. ne (sym f))) still)
    (cases_eq 0 n))
    (cases_eq n j)
  where
    rooted : CoreView
    rooted = noted (act.Leave j) outcome.Plain (taken_over (view_at c 0) (view_at c j))

    gone : n ≡ j → view_at (after z c 0 (act.Leave j)) n ≡ left_behind (view_at c j)
    gone e =
        let l = length-set c.views 0 rooted in
        let a = at_seat z c j so hj in
        subst (λ (k : ℕ). view_at (after z c 0 (act.Leave j)) k ≡ left_behind (view_at c j)) (sym e)
        (get_or-set_same (set c.views 0 rooted) j (left_behind (view_at c j)) no_view (omega arith))

    root : (view_at (after z c 0 (act.Leave j)) 0).left ≡ false → Longer z c 0 (leaving j)
    root stays =
        let first = so.shape.0 in
        let at : view_at (after z c 0 (act.Leave j)) 0 ≡ rooted =
        get_or-set_other (set c.views 0 rooted) j 0 (left_behind (view_at c j)) no_view
        (λ f. other (sym f))
        ∙ get_or-set_same c.views 0 rooted no_view (at_seat z c 0 so (omega arith)) in
        record {
          before = sym (ap (λ (u : CoreView). u.left) at) ∙ stays;
          trail = ap (λ (u : CoreView). u.trail) at
              ∙ ap (λ (ms : List Move). (view_at c 0).trail ++ ms)
              (sym (own z c 0 (leaving j) refl));
        }

same_event : (m m' : ℕ) (a a' : Act) → m ≡ m' → a ≡ a' → of m a ≡ of m' a'
same_event m m' a a' e f = cc

longer : (z : Shape) (c : Core) (n : ℕ) (e : Event) → Sound z c → Enabled z c e.seat e.act
    → (view_at (after z c e.seat e.act) n).left ≡ false → Longer z c n e
longer z c n e so on still =
    let sv = so.views in
    let h = on.0 in
    let hm : e.seat < z.seats = omega arith in
    ⊎_elim
    (λ (l : (j : ℕ) × (e.act ≡ act.Leave j)).
    let may : May z (act.Leave l.0) (view_at c e.seat) = subst
    (λ (a : Act). May z a (view_at c e.seat)) l.1 on.1 in
    let number = (so.seats e.seat hm).number in
    let first = may.0 in
    let root : e.seat ≡ 0 = omega arith in
    let same : e ≡ leaving l.0 = same_event e.seat 0 e.act (act.Leave l.0) root l.1 in
    subst (λ (x : Event). Longer z c n x) (sym same)
    (leave_longer z c n l.0 so may.2 may.1
    (subst (λ (x : Event). (view_at (after z c x.seat x.act) n).left ≡ false) same still)))
    (λ (stays : (j : ℕ) → e.act ≡ act.Leave j → ⊥). plain_longer z c n e so hm stays still)
    (is_leave e.act)

-- What an event leaves of the trail of a seat that is still there: its own event comes last, and
-- those of other seats leave it as it was.
pub trail_after : (z : Shape) (c : Core) (n : ℕ) (e : Event) → Sound z c → Enabled z c e.seat e.act
    → (view_at (after z c e.seat e.act) n).left ≡ false
    → ((view_at c n).left ≡ false)
    × (((e.seat ≡ n) × ((view_at (after z c e.seat e.act) n).trail
    ≡ (view_at c n).trail ++ record { act = e.act; outcome = outcome_of z c e } ∷ []))
    ⊎ ((e.seat ≢ n) × ((view_at (after z c e.seat e.act) n).trail ≡ (view_at c n).trail)))
trail_after z c n e so on still =
    let l = longer z c n e so on still in (
      l.before,
      ⊎_elim
          (λ (same : e.seat ≡ n). inl (
            same,
            l.trail ∙ ap (λ (ms : List Move). (view_at c n).trail ++ ms) (own z c n e same),
          ))
          (λ (ne : e.seat ≢ n). inr (
            ne,
            l.trail
                ∙ (ap (λ (ms : List Move). (view_at c n).trail ++ ms) (others z c n e ne)
                ∙ append-nil (view_at c n).trail),
          ))
          (cases_eq e.seat n),
    )

run_trail : (z : Shape) (c : Core) (n : ℕ) (es : List Event) → Sound z c → AreEnabled z c es
    → (view_at (run z c es) n).left ≡ false
    → ((view_at c n).left ≡ false) × ((view_at (run z c es) n).trail ≡ (view_at c n).trail
    ++ moves_of z c n es)
run_trail z c n [] so on still = (still, sym (append-nil (view_at c n).trail))
run_trail z c n (e ∷ es) so on still =
    let d : Core = after z c e.seat e.act in
    let r = run_trail z d n es (step_keeps z c e.seat e.act so on.0) on.1 still in
    let l = longer z c n e so on.0 r.0 in (
      l.before,
      r.1 ∙ (ap (λ (ms : List Move). ms ++ moves_of z d n es) l.trail
          ∙ (append_assoc (view_at c n).trail (added z c n e) (moves_of z d n es)
          ∙ ap (λ (ms : List Move). (view_at c n).trail ++ ms) (join (e.seat == n)))),
    )
  where
    join : (b : Bool)
        → (if b then record { act = e.act; outcome = outcome_of z c e } ∷ [] else [])
        ++ moves_of z (after z c e.seat e.act) n es
        ≡ (if b
        then record { act = e.act; outcome = outcome_of z c e }
        ∷ moves_of z (after z c e.seat e.act) n es
        else moves_of z (after z c e.seat e.act) n es)
    join true = refl
    join false = refl

pub trails_tell : (z : Shape) (ts : Terms) (es : List Event) (n : ℕ) → IsShape z
    → AreTerms z ts
    → AreEnabled z (start z ts) es → n < z.seats → (view_at (run z (start z ts) es) n).left ≡ false
    → (view_at (run z (start z ts) es) n).trail ≡ moves_of z (start z ts) n es
trails_tell z ts es n shape terms on hn still =
    (run_trail z (start z ts) n es (start_sound z ts shape terms) on still).1
    ∙ ap (λ (ms : List Move). ms ++ moves_of z (start z ts) n es) (first_trail z ts n terms hn)
