-- A seat that has left keeps nothing.
use Rattle.std.proofs.Common.{◌≡◌, ◌≢◌, ◌⊎◌, inl, inr, ⊎_elim, ℕ, ◌<◌, ◌≤◌, false, true, List, length, get_or, set, refl, ap, sym, ◌∙◌, arith}
use Rattle.std.proofs.lemmas.Bool.{cases_eq, cases_lt, false≢true}
use Rattle.std.proofs.lemmas.List.{get_or-set_same, get_or-set_other, get_or_past, get_or-replicate, length-replicate, length-set}
use Rattle.plain_protocol.specs.plain_state.declared.act.PlainAct.TheVariants as act
use Rattle.plain_protocol.specs.plain_state.State.{Plain, PlainSeat, empty, new_seat, seat_at}
use Rattle.plain_protocol.specs.plain_state.Steps.{Does}
use Rattle.queue_law.proofs.Left.{LeftSame, left_with, seats_of}
use Rattle.watch_law.specs.declared.view.View.{View}
use Rattle.watch_law.specs.Views.{no_view as gone, view_at, joined}
use Rattle.watch_law.specs.News.{Gone}

pub gone_same : (p q : Plain) (views : List View) → LeftSame p q → Gone p views → Gone q views
gone_same p q views same left m e =
    left m (⊎_elim (λ past. let l = same.seats in inl (omega arith))
    (λ is. inr (sym (same.left m) ∙ is)) e)

-- a seat that is there gets another view
pub gone_set : (p : Plain) (n : ℕ) (views : List View) (w : View) → n < length p.seats
    → (seat_at p n).left ≡ false → Gone p views → Gone p (set views n w)
gone_set p n views w there here left m e = ⊎_elim
    (λ (is : m ≡ n). ⊎_elim (λ past. absurd (omega arith))
    (λ is_left. absurd (false≢true
    (sym here ∙ (ap (λ (k : ℕ). (seat_at p k).left) (sym is) ∙ is_left)))) e)
    (λ (ne : m ≢ n). get_or-set_other views n m w gone ne ∙ left m e)
    (cases_eq m n)

pub gone_leave : (p q : Plain) (j found : ℕ) (views : List View) → length views ≡ length p.seats
    → Does p 0 (act.Leave j) found q → Gone p views
    → Gone q (set (set views 0 (joined (view_at views 0) (view_at views j))) j gone)
gone_leave p q j found views count does left m e =
    let one = joined (view_at views 0) (view_at views j) in
    let seats = seats_of _ q does.1.8 in
    ⊎_elim
    (λ (is : m ≡ j). ap (view_at (set (set views 0 one) j gone)) is
    ∙ get_or-set_same (set views 0 one) j gone gone (let l = length-set views 0 one in
    let there = does.1.2 in omega arith))
    (λ (ne : m ≢ j).
    let first_long = length-set p.seats 0 _ in
    let both_long = length-set (set p.seats 0 _) j _ in
    let long : length q.seats ≡ length p.seats =
    ap (λ (l : List PlainSeat). length l) seats ∙ (both_long ∙ first_long) in
    let same : (seat_at q m).left ≡ (seat_at p m).left =
    ap (λ (l : List PlainSeat). (get_or l m new_seat).left) seats
    ∙ (ap (λ (v : PlainSeat). v.left) (get_or-set_other (set p.seats 0 _) j m _ new_seat ne)
    ∙ left_with p.seats 0 _ refl m) in
    let was : (length p.seats ≤ m) ⊎ ((seat_at p m).left ≡ true) =
    ⊎_elim (λ past. inl (omega arith)) (λ is. inr (sym same ∙ is)) e in
    ⊎_elim
    (λ (is : m ≡ 0). ⊎_elim (λ past. let there = does.0.0 in absurd (omega arith))
    (λ is_left. absurd (false≢true
    (sym does.0.1 ∙ (ap (λ (k : ℕ). (seat_at p k).left) (sym is) ∙ is_left)))) was)
    (λ (some : m ≢ 0). get_or-set_other (set views 0 one) j m gone gone ne
    ∙ (get_or-set_other views 0 m one gone some ∙ left m was))
    (cases_eq m 0))
    (cases_eq m j)

pub gone_start : (seats slots cells weak_cells : ℕ) (views : List View) → length views ≡ seats
    → Gone (empty seats slots cells weak_cells) views
gone_start seats slots cells weak_cells views count m e =
    let long = length-replicate seats new_seat in
    ⊎_elim (λ past. get_or_past views m gone (omega arith))
    (λ is_left. ⊎_elim
    (λ low. absurd (false≢true (sym (ap (λ (v : PlainSeat). v.left)
    (get_or-replicate seats m new_seat new_seat low)) ∙ is_left)))
    (λ past. get_or_past views m gone (omega arith)) (cases_lt m seats))
    e
