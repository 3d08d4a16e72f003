-- The seats of a new counter, as they are split off one after another.
use Rattle.std.proofs.Common.{◌≡◌, ℕ, zero, suc, ◌+◌, ◌-◌, ◌<◌, List, [], ◌∷◌, ◌++◌, map, add-one, sym, ap, ◌∙◌, refl, arith}
use Rattle.std.specs.List.{range_with_len}
use Rattle.std.proofs.lemmas.List.{length-replicate, get_or-replicate}
use Rattle.std.proofs.lemmas.List.FromFn.{map-range_with_len_more}
use Rattle.atomic_table.specs.Seated.{TableId}
use Rattle.sticky_count.specs.Views.{fresh}
use Rattle.sticky_count.specs.Running.{InHistory}
use Rattle.sticky_count.specs.Seats.{SeatState, opened_seat, opened_seats}

-- the count that a seat begins with: the first one holds one
abbrev pub count_at : ℕ → ℕ
count_at zero = 1
count_at (suc n) = 0

pub count_later : (n : ℕ) → count_at (n + 1) ≡ 0
count_later n = rw add-one refl

-- seat i of the counter
abbrev pub seat_at : TableId → ℕ → ℕ → ℕ → SeatState
seat_at counter seats adds i = opened_seat counter seats adds (count_at i) i

-- the first n seats
abbrev pub front : TableId → ℕ → ℕ → ℕ → List SeatState
front counter seats adds zero = []
front counter seats adds (suc n) = opened_seat counter seats adds 1 0 ∷ map (opened_seat counter seats adds 0) (range_with_len 1 n)

pub front_push : (counter : TableId) (seats adds n : ℕ) (s : SeatState) → s ≡ seat_at counter seats adds n
    → front counter seats adds n ++ s ∷ [] ≡ front counter seats adds (suc n)
front_push counter seats adds zero s is = ap (λ (x : SeatState). x ∷ []) is
front_push counter seats adds (suc n) s is =
    let one : SeatState = opened_seat counter seats adds 1 0 in
    let others : List SeatState = map (opened_seat counter seats adds 0) (range_with_len 1 n) in
    ap (λ (x : SeatState). one ∷ (others ++ x ∷ [])) is
    ∙ ap (λ (l : List SeatState). one ∷ l) (sym (map-range_with_len_more (opened_seat counter seats adds 0) 1 n (suc n) (omega arith)))
    ∙ ap (λ (m : ℕ). one ∷ map (opened_seat counter seats adds 0) (range_with_len 1 m)) (add-one n)

pub front_all : (counter : TableId) (seats adds n : ℕ) → suc n ≡ seats → front counter seats adds (suc n) ≡ opened_seats counter seats adds
front_all counter seats adds n e =
    let same : n ≡ seats - 1 = omega arith in
    ap (λ (m : ℕ). opened_seat counter seats adds 1 0 ∷ map (opened_seat counter seats adds 0) (range_with_len 1 m)) same

-- the view of each seat of a new counter
pub opened_history : (seats i : ℕ) → i < seats → InHistory seats i [] (fresh (count_at i))
opened_history seats zero h = record { possible = tt; there = omega arith; view = refl }
opened_history seats (suc i) h =
    let n = length-replicate (seats - 1) (fresh 0) in
    record {
      possible = tt;
      there = omega arith;
      view = sym (get_or-replicate (seats - 1) i (fresh 0) (fresh 0) (omega arith));
    }
