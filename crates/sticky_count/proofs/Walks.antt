-- The trail after some steps, and what a call has made.
use Rattle.std.proofs.Common.{◌≡◌, ◌≢◌, ℕ, ◌-◌, ◌≤◌, ◌<◌, ⊎_elim, Bool, List, [], ◌∷◌, ◌++◌, append_assoc, length, length-set, get_or, get_or-set_same, set, replicate, if◌then◌else◌, ◌==◌, sym, ap, ◌∙◌, subst, refl, arith}
use Rattle.std.proofs.lemmas.Bool.Decides.{nat_tests}
use Rattle.std.proofs.lemmas.List.{append-nil, get_or-set_other}
use Rattle.std.proofs.lemmas.List.Elements.{All-cons, All-replicate}
use mathlib.Core.Logic.{dite}
use native.Mathlib.Decide.{ℕ_discrete}
use Rattle.std.specs.List.{All}
use Rattle.atomic_table.specs.Seated.{TableId}
use Rattle.sticky_count.specs.declared.view.Act.{Act}
use Rattle.sticky_count.specs.declared.view.Act.TheVariants as act
use Rattle.sticky_count.specs.declared.view.Knows.{Knows}
use Rattle.sticky_count.specs.declared.view.Move.{Move}
use Rattle.sticky_count.specs.declared.view.Event.{Event}
use Rattle.sticky_count.specs.declared.view.View.{View}
use Rattle.sticky_count.specs.Views.{fresh, noted, moved}
use Rattle.sticky_count.specs.History.{Possible, event, moves_of, opened, run, view_at}
use Rattle.sticky_count.specs.Running.{Does}
use Rattle.sticky_count.specs.Calls.{move, walked, Increments, Decrements, Reads}
use Rattle.sticky_count.specs.Seats.{SeatState, Lengthens, Made}

trail_moved : (a : Act) (w : ℕ) (v : View) → (moved a w v).trail ≡ noted a w v.trail
trail_moved act.Add w v = refl
trail_moved act.Sub w v = refl
trail_moved act.Finish w v = refl
trail_moved act.Take w v = refl
trail_moved act.Load w v = refl
trail_moved act.Mark w v = refl

trail_walked : (ms : List Move) (v : View) → (walked ms v).trail ≡ v.trail ++ ms
trail_walked [] v = sym (append-nil v.trail)
trail_walked (m ∷ ms) v =
    trail_walked ms (moved m.act m.found v)
    ∙ ap (λ (t : List Move). t ++ ms) (trail_moved m.act m.found v)
    ∙ append_assoc v.trail (m ∷ []) ms

-- these steps lead from what the table kept of a seat to what it keeps now
pub record Walk (ms : List Move) (k k' : Knows) : Type 0 where
  pub seat : k'.seat ≡ k.seat
  pub seats : k'.seats ≡ k.seats
  pub past : Lengthens k.seats k.seat ms k.past k'.past
  pub view : k'.view ≡ walked ms k.view

pub one_step : (a : Act) (w : ℕ) (k k' : Knows) → Does a k w k' → Walk (move a w ∷ []) k k'
one_step a w k k' d = record { seat = d.seat; seats = d.seats; past = (d.since, d.found, d.past); view = d.view }

-- a step whose word is known
pub found_as : (a : Act) (w n : ℕ) (k k' : Knows) → w ≡ n → Does a k w k' → Does a k n k'
found_as a w n k k' e d = subst (λ (m : ℕ). Does a k m k') e d

pub one_more : (a : Act) (w : ℕ) (ms : List Move) (k k' k'' : Knows) → Does a k w k' → Walk ms k' k'' → Walk (move a w ∷ ms) k k''
one_more a w ms k k' k'' d r = record {
  seat = r.seat ∙ d.seat;
  seats = r.seats ∙ d.seats;
  past = (
    d.since,
    d.found,
    subst (λ (n : ℕ). Lengthens n k.seat ms (event k.seat a ∷ d.since ++ k.past) k''.past) d.seats
        (subst (λ (n : ℕ). Lengthens k'.seats n ms (event k.seat a ∷ d.since ++ k.past) k''.past) d.seat
        (subst (λ (l : List Event). Lengthens k'.seats k'.seat ms l k''.past) d.past r.past)),
  );
  view = r.view ∙ ap (walked ms) d.view;
}

-- a seat as callers see it
abbrev pub state_of : TableId → ℕ → Knows → SeatState
state_of t q k = record { counter = t; quota = q; seat = k.seat; seats = k.seats; past = k.past; view = k.view }

-- a seat that was old, and has made these steps
pub makes : (ms : List Move) (t t' : TableId) (q : ℕ) (k k' : Knows) (old : SeatState)
    → ◌≡◌ {A = SeatState} (state_of t q k) old → t' ≡ t → Walk ms k k' → Made ms old (state_of t' q k')
makes ms t t' q k k' old was same r = subst (λ (o : SeatState). Made ms o (state_of t' q k')) was
    (record {
      counter = same;
      quota = refl;
      seat = r.seat;
      seats = r.seats;
      past = r.past;
      view = r.view;
      trail = ap (λ (u : View). u.trail) r.view ∙ trail_walked ms k.view;
    })

-- the trail of a seat is its events
trail_first : (seats i : ℕ) → i < length (opened seats).seats → (view_at (opened seats) i).trail ≡ []
trail_first seats i h =
    let none : All (λ (v : View). v.trail ≡ []) (opened seats).seats =
    All-cons (λ (v : View). v.trail ≡ []) (fresh 1) (replicate (seats - 1) (fresh 0)) refl
    (All-replicate (λ (v : View). v.trail ≡ []) (seats - 1) (fresh 0) refl) in
    none i (fresh 0) h

choose_same : (i j : ℕ) (a b : List Move) → i ≡ j → (if i == j then a else b) ≡ a
choose_same i j a b e = grind (arith, nat_tests)

choose_other : (i j : ℕ) (a b : List Move) → i ≢ j → (if i == j then a else b) ≡ b
choose_other i j a b e = grind (arith, nat_tests)

pub trail_run : (seats : ℕ) (es : List Event) (i : ℕ) → Possible seats es → i < length (run seats es).seats
    → (view_at (run seats es) i).trail ≡ moves_of seats es i
trail_run seats [] i p h = trail_first seats i h
trail_run seats (e ∷ es) i p h =
    let c = run seats es in
    let v' = moved e.act c.word (view_at c e.seat) in
    let here : i < length c.seats = omega (arith, length-set c.seats e.seat v') in
    let before = trail_run seats es i p.0 here in
    dite (ℕ_discrete e.seat i)
    (λ same.
    ap (λ (k : ℕ). (get_or (set c.seats e.seat v') k (fresh 0)).trail) (sym same)
    ∙ ap (λ (v : View). v.trail) (get_or-set_same c.seats e.seat v' (fresh 0) p.1.there)
    ∙ trail_moved e.act c.word (view_at c e.seat)
    ∙ ap (λ (k : ℕ). noted e.act c.word (view_at c k).trail) same
    ∙ ap (noted e.act c.word) before
    ∙ sym (choose_same e.seat i (noted e.act c.word (moves_of seats es i)) (moves_of seats es i) same))
    (λ other.
    ap (λ (v : View). v.trail) (get_or-set_other c.seats e.seat i v' (fresh 0) (λ q. other (sym q)))
    ∙ before
    ∙ sym (choose_other e.seat i (noted e.act c.word (moves_of seats es i)) (moves_of seats es i) other))

-- how many steps a call makes
pub steps_increment : (ms : List Move) (b : Bool) → Increments ms b → length ms ≡ 1
steps_increment ms b h = ap length h.1

pub steps_decrement : (ms : List Move) (b : Bool) → Decrements ms b → (1 ≤ length ms) × (length ms ≤ 3)
steps_decrement ms b h =
    let within : (n : ℕ) → length ms ≡ n → 1 ≤ n → n ≤ 3 → (1 ≤ length ms) × (length ms ≤ 3) = λ n e f g. (omega arith, omega arith) in
    ⊎_elim
    (λ t. within 1 (ap length t.2) (omega arith) (omega arith))
    (λ r. ⊎_elim
    (λ t. within 2 (ap length t.0) (omega arith) (omega arith))
    (λ r. ⊎_elim
    (λ t. within 2 (ap length t.3) (omega arith) (omega arith))
    (λ t. within 3 (ap length t.4) (omega arith) (omega arith))
    r)
    r)
    h

pub steps_read : (ms : List Move) (n : ℕ) → Reads ms n → (1 ≤ length ms) × (length ms ≤ 2)
steps_read ms n h =
    let within : (k : ℕ) → length ms ≡ k → 1 ≤ k → k ≤ 2 → (1 ≤ length ms) × (length ms ≤ 2) = λ k e f g. (omega arith, omega arith) in
    ⊎_elim
    (λ t. within 1 (ap length t.2) (omega arith) (omega arith))
    (λ t. within 2 (ap length t.1) (omega arith) (omega arith))
    h
