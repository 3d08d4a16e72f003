-- A seat that is alone: it is seat 0, and every other seat has left.
use Rattle.std.proofs.Common.{◌≡◌, ◌≢◌, ◌⊎◌, inl, inr, ⊎_elim, ℕ, zero, suc, ◌+◌, ◌-◌, ◌<◌, ◌≤◌, Bool, true, false, List, [], ◌∷◌, length, get_or, drop, refl, ap, sym, ◌∙◌, arith, Some, None}
use Rattle.std.specs.Prelude.{◌==◌, ◌&&◌, if◌then◌else◌}
use Rattle.std.proofs.lemmas.Bool.{cases_lt, false≢true, eqb-true}
use Rattle.plain_protocol.specs.plain_state.State.{Plain, PlainSeat, seat_at, new_seat}
use Rattle.plain_protocol.specs.Owns.{own_part, is_alone}
use Rattle.std.specs.List.{list_all}

-- ALONE
and_left : (a b : Bool) → (a && b) ≡ true → (a ≡ true) × (b ≡ true)
and_left true b e = (refl, e)
and_left false b e = absurd (false≢true e)

drop_first : (vs : List PlainSeat) (i : ℕ) → get_or (drop 1 vs) i new_seat ≡ get_or vs (i + 1) new_seat
drop_first [] i = refl
drop_first (x ∷ vs) i = let e : suc i ≡ i + 1 = omega arith in ap (λ z. get_or (x ∷ vs) z new_seat) e

drop_long : (vs : List PlainSeat) → length vs ≤ length (drop 1 vs) + 1
drop_long [] = omega arith
drop_long (x ∷ vs) = omega arith

all_left_at : (vs : List PlainSeat) → list_all (λ (v : PlainSeat). v.left) vs ≡ true → (i : ℕ)
    → i < length vs → (get_or vs i new_seat).left ≡ true
all_left_at [] e i low = absurd (omega arith)
all_left_at (v ∷ vs) e zero low = (and_left v.left _ e).0
all_left_at (v ∷ vs) e (suc i) low = all_left_at vs (and_left v.left _ e).1 i (omega arith)

pub alone_at : (p : Plain) (n : ℕ) (w : Plain) → (own_part p n).whole ≡ Some w → (n ≡ 0) × (w ≡ p)
    × ((m : ℕ) → m ≢ 0 → (length p.seats ≤ m) ⊎ ((seat_at p m).left ≡ true))
alone_at p n w e = go (is_alone p n) refl e
  where
    some_is : (a b : Plain) → Some a ≡ Some b → b ≡ a
    some_is a b e = sym (cc e)

    go : (b : Bool) → is_alone p n ≡ b → (if b then Some p else None) ≡ Some w → (n ≡ 0) × (w ≡ p)
        × ((m : ℕ) → m ≢ 0 → (length p.seats ≤ m) ⊎ ((seat_at p m).left ≡ true))
    go false is e = absurd cc
    go true is e =
        let both = and_left (n == 0) _ is in (
          eqb-true n 0 both.0,
          some_is p w e,
          λ m ne. ⊎_elim
              (λ low. let k : m - 1 + 1 ≡ m = omega arith in let l = drop_long p.seats in
              inr (ap (λ z. (seat_at p z).left) (sym k)
              ∙ (ap (λ (z : PlainSeat). z.left) (sym (drop_first p.seats (m - 1)))
              ∙ all_left_at (drop 1 p.seats) both.1 (m - 1) (omega arith))))
              (λ past. inl past) (cases_lt m (length p.seats)),
        )
