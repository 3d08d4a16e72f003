-- Seats that have left: their views are gone, and who clears is alone.
use Rattle.std.proofs.Common.{◌≡◌, ◌≢◌, inl, inr, ⊎_elim, ℕ, ◌<◌, true, false, List, length, get_or, set, refl, ap, sym, ◌∙◌, arith}
use Rattle.std.proofs.lemmas.Bool.{cases_eq, false≢true}
use Rattle.std.proofs.lemmas.List.{get_or-set_same, get_or-set_other, length-set}
use Rattle.plain_protocol.specs.plain_state.declared.act.PlainAct.TheVariants as act
use Rattle.plain_protocol.specs.plain_state.State.{Plain, PlainSeat, new_seat, seat_at}
use Rattle.plain_protocol.specs.plain_state.Steps.{Does}
use Rattle.queue_law.proofs.Left.{LeftSame, left_with, seats_of}
use Rattle.cell_law.specs.Views.{View, gone, joined, view_at}
use Rattle.cell_law.specs.Law.{HasLeft}
use Rattle.cell_law.proofs.Kit.{view_here, view_else}

-- each seat that has left has a gone view
abbrev pub Gone : Plain → List View → Type 0
Gone p views = (m : ℕ) → HasLeft p m → view_at views m ≡ gone

pub left_back : (p q : Plain) (m : ℕ) → LeftSame p q → HasLeft q m → HasLeft p m
left_back p q m same e =
    ⊎_elim (λ past. let l = same.seats in inl (omega arith))
    (λ is. inr (sym (same.left m) ∙ is)) e

pub left_on : (p q : Plain) (m : ℕ) → LeftSame p q → HasLeft p m → HasLeft q m
left_on p q m same e =
    ⊎_elim (λ past. let l = same.seats in inl (omega arith))
    (λ is. inr (same.left m ∙ is)) e

-- a seat that acts hasn't left
pub here_not : (p : Plain) (n : ℕ) → n < length p.seats → (seat_at p n).left ≡ false → HasLeft p n
    → ⊥
here_not p n there here e =
    ⊎_elim (λ past. omega arith) (λ is. false≢true (sym here ∙ is)) e

pub gone_set : (p q : Plain) (n : ℕ) (views : List View) (w : View) → LeftSame p q
    → n < length p.seats → (seat_at p n).left ≡ false → Gone p views → Gone q (set views n w)
gone_set p q n views w same there here left m e =
    let was = left_back p q m same e in
    ⊎_elim
    (λ (is : m ≡ n). absurd (here_not p n there here
    (⊎_elim (λ past. inl (omega arith))
    (λ gone_is. inr (ap (λ (k : ℕ). (seat_at p k).left) (sym is) ∙ gone_is)) was)))
    (λ (ne : m ≢ n). view_else views n m w ne ∙ left m was)
    (cases_eq m n)

second_set : (xs : List PlainSeat) (j : ℕ) (a b : PlainSeat) → j < length xs
    → get_or (set (set xs 0 a) j b) j new_seat ≡ b
second_set xs j a b there =
    let l = length-set xs 0 a in get_or-set_same (set xs 0 a) j b new_seat (omega arith)

-- a leave: who had left before has, and the seat itself
module _ (p q : Plain) (j found : ℕ) (does : Does p 0 (act.Leave j) found q) where
  long : length q.seats ≡ length p.seats
  long =
      let l1 = length-set p.seats 0 _ in
      let l2 = length-set (set p.seats 0 _) j _ in
      ap (λ (l : List PlainSeat). length l) (seats_of _ q does.1.8) ∙ (l2 ∙ l1)

  others_same : (m : ℕ) → m ≢ j → (seat_at q m).left ≡ (seat_at p m).left
  others_same m ne =
      ap (λ (l : List PlainSeat). (get_or l m new_seat).left) (seats_of _ q does.1.8)
      ∙ (ap (λ (v : PlainSeat). v.left) (get_or-set_other (set p.seats 0 _) j m _ new_seat ne)
      ∙ left_with p.seats 0 _ refl m)

  before : (m : ℕ) → m ≢ j → HasLeft q m → HasLeft p m
  before m ne e =
      let l = long in
      ⊎_elim (λ past. inl (omega arith)) (λ is. inr (sym (others_same m ne) ∙ is)) e

  leaver : (seat_at q j).left ≡ true
  leaver =
      ap (λ (l : List PlainSeat). (get_or l j new_seat).left) (seats_of _ q does.1.8)
      ∙ ap (λ (v : PlainSeat). v.left) (second_set p.seats j _ _ does.1.2)

  pub left_after : (m : ℕ) → HasLeft p m → HasLeft q m
  left_after m e =
      ⊎_elim
      (λ (is : m ≡ j). inr (ap (λ (k : ℕ). (seat_at q k).left) is ∙ leaver))
      (λ (ne : m ≢ j). let l = long in
      ⊎_elim (λ past. inl (omega arith)) (λ is. inr (others_same m ne ∙ is)) e)
      (cases_eq m j)

  pub gone_leave : (views : List View) → length views ≡ length p.seats → Gone p views
      → Gone q (set (set views 0 (joined (view_at views 0) (view_at views j))) j gone)
  gone_leave views count left m e =
      let root = joined (view_at views 0) (view_at views j) in
      let l = length-set views 0 root in
      let there = does.1.2 in
      ⊎_elim
      (λ (is : m ≡ j). ap (view_at (set (set views 0 root) j gone)) is
      ∙ view_here (set views 0 root) j gone (omega arith))
      (λ (ne : m ≢ j).
      let was = before m ne e in
      ⊎_elim
      (λ (is : m ≡ 0). absurd (here_not p 0 does.0.0 does.0.1
      (⊎_elim (λ past. inl (omega arith))
      (λ gone_is. inr (ap (λ (k : ℕ). (seat_at p k).left) (sym is) ∙ gone_is)) was)))
      (λ (some : m ≢ 0). view_else (set views 0 root) j m gone ne
      ∙ (view_else views 0 m root some ∙ left m was))
      (cases_eq m 0))
      (cases_eq m j)
