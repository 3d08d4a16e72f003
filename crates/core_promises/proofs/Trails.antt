-- The trail of every seat is its events, with their answers, in order.
use Rattle.std.proofs.Common.{◌≡◌, ◌≢◌, ⊎_elim, ℕ, ◌<◌, Bool, true, false, List, [], ◌∷◌, ◌++◌, get_or, refl, ap, sym, ◌∙◌, ◌+◌, subst, arith, append_assoc}
use Rattle.std.specs.Prelude.{◌==◌, if◌then◌else◌}
use Rattle.std.proofs.lemmas.List.{append-nil, get_or-set_same, get_or-set_other}
use Rattle.std.proofs.lemmas.Bool.{cases_eq}
use Rattle.std.proofs.lemmas.Bool.Decides.{nat_tests}
use Rattle.core_law.specs.plain_state.State.{PlainSeat}
use Rattle.core_law.specs.core_events.declared.act.Act.{Act}
use Rattle.core_law.specs.core_events.declared.act.Act.TheVariants as act
use Rattle.core_law.specs.core_events.declared.act.Event.{Event}
use Rattle.core_law.specs.core_events.declared.outcome.Outcome.TheVariants as outcome
use Rattle.core_law.specs.core_events.declared.shape.Shape.{Shape}
use Rattle.core_law.specs.core_events.declared.shape.Quota.{Quota}
use Rattle.core_law.specs.core_events.declared.view.CoreView.{CoreView}
use Rattle.core_law.specs.core_events.declared.view.LeftSeat.{LeftSeat}
use Rattle.core_law.specs.core_events.declared.view.Move.{Move}
use Rattle.core_law.specs.core_events.Steps.{May, moved, noted}
use Rattle.core_law.specs.core_events.Views.{Terms, first_view, no_view}
use Rattle.core_law.specs.core_events.Runs.{AreEnabled, AreTerms, Core, Enabled, IsShape, after, found, left_behind, moves_of, outcome_of, run, start, taken_over, view_at}
use Rattle.core_law.specs.Sound.{Sound}
use Rattle.core_law.proofs.Joined.{is_0, is_j, is_m}
use Rattle.core_law.proofs.Starts.{first_at, first_trail, start_sound}
use Rattle.core_law.proofs.Always.{is_leave, step_keeps}
use Rattle.core_law.proofs.Trails.{changed_trail, views_plain}
use Rattle.core_law.proofs.Bridge.{shown_seat}
use Rattle.core_law.proofs.Seats.{enabled_seat}
use Rattle.core_promises.specs.Trails.{left_trail, trail_of}
use Rattle.core_promises.proofs.Records.{Has, found_last, found_still, has_more}

-- of whom a record is kept has left
abbrev Recorded : Core → Type 0
Recorded c = (n : ℕ) → Has n (view_at c 0).left_seats → (view_at c n).left ≡ true

abbrev added : Shape → Core → ℕ → Event → List Move
added z c n e = if e.seat == n then record { act = e.act; outcome = outcome_of z c e } ∷ [] else []

own : (z : Shape) (c : Core) (n : ℕ) (e : Event) → e.seat ≡ n
    → added z c n e ≡ record { act = e.act; outcome = outcome_of z c e } ∷ []
own z c n e same = let t : (e.seat == n) ≡ true = grind (arith, nat_tests) in rw t refl

others : (z : Shape) (c : Core) (n : ℕ) (e : Event) → e.seat ≢ n → added z c n e ≡ []
others z c n e ne = let t : (e.seat == n) ≡ false = grind (arith, nat_tests) in rw t refl

-- by whether the seat has left
trail_here : (c : Core) (n : ℕ) → (view_at c n).left ≡ false → trail_of c n ≡ (view_at c n).trail
trail_here c n here = rw here refl

trail_kept : (c : Core) (n : ℕ) → (view_at c n).left ≡ true
    → trail_of c n ≡ left_trail n (view_at c 0).left_seats
trail_kept c n left = rw left refl

-- one event adds to each trail what it is
abbrev Grows : Shape → Core → Event → ℕ → Type 0
Grows z c e n = trail_of (after z c e.seat e.act) n ≡ trail_of c n ++ added z c n e

module _ (z : Shape) (c : Core) (so : Sound z c) (kept : Recorded c) where
  module _ (e : Event) (on : Enabled z c e.seat e.act) where
    -- the seat that makes it hasn't left
    maker_here : (view_at c e.seat).left ≡ false
    maker_here = sym (ap (λ (u : PlainSeat). u.left) (shown_seat z c e.seat on.0))
        ∙ (enabled_seat z c e.seat e.act so on).1

  module _ (e : Event) (on : Enabled z c e.seat e.act) (stays : (j : ℕ) → e.act ≡ act.Leave j → ⊥)
    where
      abbrev d : Core
      d = after z c e.seat e.act

      abbrev new : CoreView
      new = moved z e.act (found z c e.seat e.act) (view_at c e.seat)

      maker_then : view_at (after z c e.seat e.act) e.seat ≡ new
      maker_then = ap (λ (vs : List CoreView). get_or vs e.seat no_view)
          (views_plain z c e.seat e.act stays)
          ∙ get_or-set_same c.views e.seat new no_view on.0

      other_then : (n : ℕ) → n ≢ e.seat → view_at (after z c e.seat e.act) n ≡ view_at c n
      other_then n ne = ap (λ (vs : List CoreView). get_or vs n no_view)
          (views_plain z c e.seat e.act stays)
          ∙ get_or-set_other c.views e.seat n new no_view ne

      -- who has left, and what is kept of them, stays
      left_then : (n : ℕ) → (view_at (after z c e.seat e.act) n).left ≡ (view_at c n).left
      left_then n = ⊎_elim
          (λ (is : n ≡ e.seat). subst (λ (m : ℕ). (view_at d m).left ≡ (view_at c m).left) (sym is)
          (ap (λ (u : CoreView). u.left) maker_then
          ∙ (changed_trail z e.act (found z c e.seat e.act) (view_at c e.seat)).left))
          (λ ne. ap (λ (u : CoreView). u.left) (other_then n ne))
          (cases_eq n e.seat)

      records_then : (n : ℕ)
          → (view_at (after z c e.seat e.act) n).left_seats ≡ (view_at c n).left_seats
      records_then n = ⊎_elim
          (λ (is : n ≡ e.seat). subst
          (λ (m : ℕ). (view_at d m).left_seats ≡ (view_at c m).left_seats) (sym is)
          (ap (λ (u : CoreView). u.left_seats) maker_then
          ∙ (changed_trail z e.act (found z c e.seat e.act) (view_at c e.seat)).left_seats))
          (λ ne. ap (λ (u : CoreView). u.left_seats) (other_then n ne))
          (cases_eq n e.seat)

      plain_recorded : Recorded (after z c e.seat e.act)
      plain_recorded n has = left_then n ∙ kept n (subst (Has n) (records_then 0) has)

      plain_grows : (n : ℕ) → Grows z c e n
      plain_grows n = go (view_at c n).left refl
        where
          mine : n ≡ e.seat → (view_at (after z c e.seat e.act) n).trail
              ≡ (view_at c n).trail ++ added z c n e
          mine is = subst (λ (m : ℕ). (view_at (after z c e.seat e.act) m).trail
              ≡ (view_at c m).trail ++ added z c m e) (sym is)
              (ap (λ (u : CoreView). u.trail) maker_then
              ∙ (ap (λ (ms : List Move). ms ++ record { act = e.act; outcome = outcome_of z c e } ∷ [])
              (changed_trail z e.act (found z c e.seat e.act) (view_at c e.seat)).trail
              ∙ ap (λ (ms : List Move). (view_at c e.seat).trail ++ ms) (sym (own z c e.seat e refl))))

          theirs : n ≢ e.seat → (view_at (after z c e.seat e.act) n).trail
              ≡ (view_at c n).trail ++ added z c n e
          theirs ne = ap (λ (u : CoreView). u.trail) (other_then n ne)
              ∙ (sym (append-nil (view_at c n).trail)
              ∙ ap (λ (ms : List Move). (view_at c n).trail ++ ms)
              (sym (others z c n e (λ f. ne (sym f)))))

          go : (b : Bool) → (view_at c n).left ≡ b → Grows z c e n
          go true left =
              let ne : e.seat ≢ n = λ f. let h = maker_here e on in
              let g = ap (λ (m : ℕ). (view_at c m).left) f in absurd (cc (g, h, left)) in
              trail_kept (after z c e.seat e.act) n (left_then n ∙ left)
              ∙ (ap (left_trail n) (records_then 0)
              ∙ (sym (trail_kept c n left)
              ∙ (sym (append-nil (trail_of c n))
              ∙ ap (λ (ms : List Move). trail_of c n ++ ms) (sym (others z c n e ne)))))
          go false here =
              trail_here (after z c e.seat e.act) n (left_then n ∙ here)
              ∙ (⊎_elim mine theirs (cases_eq n e.seat)
              ∙ ap (λ (ms : List Move). ms ++ added z c n e) (sym (trail_here c n here)))

  -- the event of a leave
  abbrev leaving : ℕ → Event
  leaving j = record { seat = 0; act = act.Leave j }

  module _ (j : ℕ) (other : j ≢ 0) (hj : j < z.seats) (still : (view_at c j).left ≡ false)
      (root : (view_at c 0).left ≡ false) where
    abbrev past : LeftSeat
    past = record {
      seat = (view_at c j).seat;
      trail = (view_at c j).trail;
      tickets = (view_at c j).tickets;
    }

    past_is : (view_at c j).seat ≡ j
    past_is = (so.seats j hj).number

    root_then : view_at (after z c 0 (act.Leave j)) 0
        ≡ noted (act.Leave j) outcome.Plain (taken_over (view_at c 0) (view_at c j))
    root_then = is_0 z c so j other hj

    gone_then : view_at (after z c 0 (act.Leave j)) j ≡ left_behind (view_at c j)
    gone_then = is_j z c so j other hj

    rest_then : (n : ℕ) → n ≢ 0 → n ≢ j → view_at (after z c 0 (act.Leave j)) n ≡ view_at c n
    rest_then = is_m z c so j other hj

    no_record : Has j (view_at c 0).left_seats → ⊥
    no_record has = let left = kept j has in absurd (cc (left, still))

    leave_recorded : Recorded (after z c 0 (act.Leave j))
    leave_recorded n has = ⊎_elim
        (λ (is : n ≡ j). subst (λ (m : ℕ). (view_at (after z c 0 (act.Leave j)) m).left ≡ true)
        (sym is) (ap (λ (u : CoreView). u.left) gone_then))
        (λ (not_j : n ≢ j). ⊎_elim
        (λ (before : Has n (view_at c 0).left_seats). ⊎_elim
        (λ (is : n ≡ 0). let left = kept n before in
        let g = ap (λ (m : ℕ). (view_at c m).left) is in absurd (cc (g, root, left)))
        (λ (not_0 : n ≢ 0). ap (λ (u : CoreView). u.left) (rest_then n not_0 not_j) ∙ kept n before)
        (cases_eq n 0))
        (λ (is : (view_at c j).seat ≡ n). absurd (not_j (sym is ∙ past_is)))
        (has_more n (view_at c 0).left_seats past
        (subst (λ (u : CoreView). Has n u.left_seats) root_then has)))
        (cases_eq n j)

    gone_grows : Grows z c (leaving j) j
    gone_grows =
        trail_kept (after z c 0 (act.Leave j)) j (ap (λ (u : CoreView). u.left) gone_then)
        ∙ (ap (λ (u : CoreView). left_trail j u.left_seats) root_then
        ∙ (found_last j (view_at c 0).left_seats past no_record past_is
        ∙ (sym (trail_here c j still)
        ∙ (sym (append-nil (trail_of c j))
        ∙ ap (λ (ms : List Move). trail_of c j ++ ms)
        (sym (others z c j (leaving j) (λ f. other (sym f))))))))

    root_grows : Grows z c (leaving j) 0
    root_grows =
        trail_here (after z c 0 (act.Leave j)) 0 (ap (λ (u : CoreView). u.left) root_then ∙ root)
        ∙ (ap (λ (u : CoreView). u.trail) root_then
        ∙ (ap (λ (ms : List Move). (view_at c 0).trail ++ ms) (sym (own z c 0 (leaving j) refl))
        ∙ ap (λ (ms : List Move). ms ++ added z c 0 (leaving j)) (sym (trail_here c 0 root))))

    rest_grows : (n : ℕ) → n ≢ 0 → n ≢ j → Grows z c (leaving j) n
    rest_grows n not_0 not_j = same (view_at c n).left refl
        ∙ (sym (append-nil (trail_of c n))
        ∙ ap (λ (ms : List Move). trail_of c n ++ ms)
        (sym (others z c n (leaving j) (λ f. not_0 (sym f)))))
      where
        same : (b : Bool) → (view_at c n).left ≡ b
            → trail_of (after z c 0 (act.Leave j)) n ≡ trail_of c n
        same true left =
            trail_kept (after z c 0 (act.Leave j)) n
            (ap (λ (u : CoreView). u.left) (rest_then n not_0 not_j) ∙ left)
            ∙ (ap (λ (u : CoreView). left_trail n u.left_seats) root_then
            ∙ (found_still n (view_at c 0).left_seats past (λ f. not_j (sym f ∙ past_is))
            ∙ sym (trail_kept c n left)))
        same false here =
            trail_here (after z c 0 (act.Leave j)) n
            (ap (λ (u : CoreView). u.left) (rest_then n not_0 not_j) ∙ here)
            ∙ (ap (λ (u : CoreView). u.trail) (rest_then n not_0 not_j) ∙ sym (trail_here c n here))

    leave_grows : (n : ℕ) → Grows z c (leaving j) n
    leave_grows n = ⊎_elim
        (λ (is : n ≡ j). subst (Grows z c (leaving j)) (sym is) gone_grows)
        (λ (not_j : n ≢ j). ⊎_elim
        (λ (is : n ≡ 0). subst (Grows z c (leaving j)) (sym is) root_grows)
        (λ (not_0 : n ≢ 0). rest_grows n not_0 not_j)
        (cases_eq n 0))
        (cases_eq n j)

  same_event : (m m' : ℕ) (a a' : Act) → m ≡ m' → a ≡ a'
      → ◌≡◌ {A = Event} (record { seat = m; act = a }) (record { seat = m'; act = a' })
  same_event m m' a a' e f = cc

  -- both, of every event
  step : (e : Event) → Enabled z c e.seat e.act
      → Recorded (after z c e.seat e.act) × ((n : ℕ) → Grows z c e n)
  step e on = ⊎_elim
      (λ (l : (j : ℕ) × (e.act ≡ act.Leave j)).
      let may : May z (act.Leave l.0) (view_at c e.seat) =
      subst (λ (a : Act). May z a (view_at c e.seat)) l.1 on.1 in
      let sv = so.views in
      let h = on.0 in
      let number = (so.seats e.seat (omega arith)).number in
      let first = may.0 in
      let root : e.seat ≡ 0 = omega arith in
      let same : e ≡ leaving l.0 = same_event e.seat 0 e.act (act.Leave l.0) root l.1 in
      let enabled = subst (λ (x : Event). Enabled z c x.seat x.act) same on in
      let here = maker_here (leaving l.0) enabled in
      let gone = enabled.2.0.1 in
      subst (λ (x : Event). Recorded (after z c x.seat x.act) × ((n : ℕ) → Grows z c x n)) (sym same)
      (leave_recorded l.0 may.1 may.2 gone here, leave_grows l.0 may.1 may.2 gone here))
      (λ (stays : (j : ℕ) → e.act ≡ act.Leave j → ⊥).
      (plain_recorded e on stays, plain_grows e on stays))
      (is_leave e.act)

run_trails : (z : Shape) (c : Core) (n : ℕ) (es : List Event) → Sound z c → Recorded c
    → AreEnabled z c es → trail_of (run z c es) n ≡ trail_of c n ++ moves_of z c n es
run_trails z c n [] so kept on = sym (append-nil (trail_of c n))
run_trails z c n (e ∷ es) so kept on =
    let d : Core = after z c e.seat e.act in
    let s = step z c so kept e on.0 in
    run_trails z d n es (step_keeps z c e.seat e.act so on.0) s.0 on.1
    ∙ (ap (λ (ms : List Move). ms ++ moves_of z d n es) (s.1 n)
    ∙ (append_assoc (trail_of c n) (added z c n e) (moves_of z d n es)
    ∙ ap (λ (ms : List Move). trail_of c n ++ ms) (join (e.seat == n))))
  where
    join : (b : Bool)
        → (if b then record { act = e.act; outcome = outcome_of z c e } ∷ [] else [])
        ++ moves_of z (after z c e.seat e.act) n es
        ≡ (if b
        then record { act = e.act; outcome = outcome_of z c e }
        ∷ moves_of z (after z c e.seat e.act) n es
        else moves_of z (after z c e.seat e.act) n es)
    join true = refl
    join false = refl

no_quota : Quota
no_quota = record { makes = 0; adds = 0 }

pub trails_tell : (z : Shape) (ts : Terms) (es : List Event) (n : ℕ) → IsShape z → AreTerms z ts
    → AreEnabled z (start z ts) es → n < z.seats
    → trail_of (run z (start z ts) es) n ≡ moves_of z (start z ts) n es
trails_tell z ts es n shape terms on hn =
    run_trails z (start z ts) n es (start_sound z ts shape terms) none_recorded on
    ∙ (ap (λ (ms : List Move). ms ++ moves_of z (start z ts) n es)
    (trail_here (start z ts) n here ∙ first_trail z ts n terms hn))
  where
    first : (m : ℕ) → m < z.seats
        → view_at (start z ts) m ≡ first_view z (0 + m) (get_or ts.quotas m no_quota) ts.grants
    first m hm = let l = terms.0 in first_at z 0 m ts.quotas ts.grants no_quota (omega arith)

    here : (view_at (start z ts) n).left ≡ false
    here = ap (λ (u : CoreView). u.left) (first n hn)

    none_recorded : Recorded (start z ts)
    none_recorded m has =
        let h = shape.0 in
        absurd (subst (λ (u : CoreView). Has m u.left_seats) (first 0 (omega arith)) has)
