-- Where every other seat has left, the client's view of each of them is the last one.
use Rattle.std.proofs.Common.{◌≡◌, ⊎_elim, ℕ, suc, ◌-◌, ◌<◌, ◌≤◌, Bool, true, false, List, [], ◌∷◌, ◌++◌, length, refl, ap, sym, ◌∙◌, subst, arith, append-nil}
use Rattle.std.specs.Prelude.{map, replicate}
use Rattle.std.specs.List.{range_with_len}
use Rattle.std.proofs.lemmas.Bool.{cases_lt}
use mathlib.Core.Option.{some, some-injective, some-ne-none}
use lib.ListN.{get_elem?}
use Rattle.atomic_table.specs.Table.{State}
use Rattle.plain_protocol.specs.plain_state.State.{Plain}
use Rattle.epoch_core.specs.declared.shape.EpochShape.{EpochShape}
use Rattle.epoch_core.specs.declared.view.EpochView.{EpochView}
use Rattle.core_law.specs.core_events.declared.shape.Quota.{Quota}
use Rattle.epoch_rule.specs.declared.view.EpochSeatView.{EpochSeatView}
use Rattle.epoch_rule.specs.Rule.{Kept, OthersLeft, clients}
use Rattle.epoch_rule.proofs.Telling.{in_seats, is_root, kept_sound, true_of}

split_first : {A : Type 0} (xs : List A) (a : A) → get_elem? xs 0 ≡ some a
    → (rest : List A) × (xs ≡ a ∷ rest)
split_first [] a e = absurd (some-ne-none a (sym e))
split_first (x ∷ xs) a e = (xs, ap (λ y. y ∷ xs) (some-injective x a e))

all_alike : {V : Type 0} (gone : V) (views : List (EpochSeatView V))
    → ((n : ℕ) (u : EpochSeatView V) → get_elem? views n ≡ some u → u.client ≡ gone)
    → map (λ u. u.client) views ≡ replicate (length views) gone
all_alike gone [] each = refl
all_alike gone (u ∷ us) each =
    let first = each 0 u refl in
    let rest = all_alike gone us (λ n w at. each (suc n) w at) in λ i. first i ∷ rest i

module _ {V : Type 0} (law : Plain → List V → Type 0) (first : ℕ → V) (gone : V)
    (fits : List ℕ → Type 0) (z : EpochShape) (qs : List Quota) (s : State (Unit {0}) (EpochSeatView V))
    (k : Kept law first gone fits z qs s) (id : ℕ) (v : EpochSeatView V)
    (at : get_elem? s.views id ≡ some v) (here : v.gone ≡ false) (root : v.core.seat ≡ 0)
    (others : OthersLeft k.core) where
  in_core : (n : ℕ) → n < z.seats → n < length k.core.views
  in_core n inside = let views = (kept_sound z qs s k).views in omega arith

  all_opened : length s.views ≡ z.seats
  all_opened = ⊎_elim
      (λ (fewer : length s.views < z.seats).
      let some_seat = k.few.0 in
      let new = ap (λ (u : EpochView). u.left) (k.unopened (length s.views) (omega arith) fewer) in
      let left = others (length s.views) (omega arith) (in_core (length s.views) fewer) in
      absurd (cc (new, left)))
      (λ (all : z.seats ≤ length s.views). let most = k.few.1 in omega arith)
      (cases_lt (length s.views) z.seats)

  others_gone : (n : ℕ) (u : EpochSeatView V) → 0 < n → get_elem? s.views n ≡ some u
      → u.client ≡ gone
  others_gone n u later there = go u.gone refl
    where
      go : (b : Bool) → u.gone ≡ b → u.client ≡ gone
      go true is = (k.left n u there).1 is
      go false is =
          let says = ap (λ (w : EpochView). w.left) (true_of z qs s k n u there is).core in
          let stays = (k.left n u there).0 is in
          let left = others n later (in_core n (in_seats z qs s k n u there)) in
          absurd (cc (says, stays, left))

  pub alone_clients : clients first z.seats s.views ≡ v.client ∷ replicate (z.seats - 1) gone
  alone_clients =
      let first_seat = is_root z qs s k id v at here root in
      let split = split_first s.views v
      (subst (λ (n : ℕ). get_elem? s.views n ≡ some v) first_seat at) in
      let count = ap length split.1 in
      let opened = all_opened in
      let none : z.seats - length s.views ≡ 0 = omega arith in
      let rest : length split.0 ≡ z.seats - 1 = omega arith in
      ap (λ (n : ℕ). map (λ u. u.client) s.views
      ++ map first (range_with_len (length s.views) n)) none
      ∙ (append-nil (map (λ u. u.client) s.views)
      ∙ (ap (map (λ u. u.client)) split.1
      ∙ ap (λ (us : List V). v.client ∷ us) (all_alike gone split.0
      (λ n u there. others_gone (suc n) u (omega arith)
      (ap (λ (us : List (EpochSeatView V)). get_elem? us (suc n)) split.1 ∙ there))
      ∙ ap (λ (n : ℕ). replicate n gone) rest)))
