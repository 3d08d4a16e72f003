-- Sums over the seats and slots of a plain state, and over the words of its image.
use Rattle.std.proofs.Common.{◌≡◌, ℕ, suc, ◌+◌, ◌<◌, List, [], ◌∷◌, length, get_or, map, count_by, sum_by, refl, ap, sym, ◌∙◌, arith, inl, inr, Option, Some, None}
use Rattle.std.specs.Prelude.{if◌then◌else◌}
use Rattle.std.proofs.lemmas.Bool.{cases_eq}
use Rattle.std.proofs.lemmas.List.Sums.{sum_by-cons}
use Rattle.heap_audit.specs.plain_state.declared.image.SlotImage.{SlotImage}
use Rattle.heap_audit.specs.plain_state.declared.slot.SlotId.{SlotId}
use Rattle.heap_audit.specs.plain_state.declared.slot.PlainSlot.{PlainSlot}
use Rattle.heap_audit.specs.plain_state.Images.{free_image}
use Rattle.heap_audit.specs.plain_state.Lists.{holds, cell_times}
use Rattle.heap_audit.specs.plain_state.State.{Plain, PlainSeat, new_seat, new_slot, seat_at}
use Rattle.heap_audit.specs.plain_state.References.{held_in, over_seats, over_slots}
use Rattle.heap_audit.specs.plain_state.Steps.{word_of}
use Rattle.heap_audit.proofs.Below.plain_state_Kit.{held_none, held_same, held_other}
use Rattle.heap_audit.specs.Heaps.{names, held}
use Rattle.heap_audit.proofs.Holding.{held_here, held_not}

-- a number read off the one seat
seat_alone_in : (f : PlainSeat → ℕ) (vs : List PlainSeat) → length vs ≡ 1 → over_seats f vs ≡ f (get_or vs 0 new_seat)
unfolding over_seats
seat_alone_in f [] e = absurd (omega arith)
seat_alone_in f (v ∷ []) e = omega (arith, sum_by-cons f v [])
seat_alone_in f (v ∷ u ∷ vs) e = absurd (omega arith)

pub seat_alone : (f : PlainSeat → ℕ) (p : Plain) → length p.seats ≡ 1 → over_seats f p.seats ≡ f (seat_at p 0)
seat_alone f p e = seat_alone_in f p.seats e

-- the word of a place holds s where the place does
pub held_word : (s : SlotId) (o : Option SlotId) → held s (word_of o) ≡ held_in s o
held_word s None = held_not s 0 (λ e. omega arith) ∙ sym (held_none s)
held_word s (Some x) =
    elim (cases_eq x.0 s.0) [
      | inl e ↦ held_here s (x.0 + 1) (omega (arith, e)) ∙ sym (held_same s x e)
      | inr n ↦ held_not s (x.0 + 1) (λ e. n (omega (arith, e))) ∙ sym (held_other s x n)
    ]

-- two sums that agree slot by slot
pub same_sums : (f : SlotImage → ℕ) (g : PlainSlot → ℕ) (xs : List SlotImage) (ys : List PlainSlot) → length xs ≡ length ys
    → ((k : ℕ) → k < length ys → f (get_or xs k free_image) ≡ g (get_or ys k new_slot)) → sum_by f xs ≡ over_slots g ys
unfolding over_slots
same_sums f g [] [] e each = refl
same_sums f g [] (y ∷ ys) e each = absurd (omega arith)
same_sums f g (x ∷ xs) [] e each = absurd (omega arith)
same_sums f g (x ∷ xs) (y ∷ ys) e each =
    let here : f x ≡ g y = each 0 (omega arith) in
    let rest : sum_by f xs ≡ sum_by g ys = same_sums f g xs ys (omega arith) (λ k lt. each (suc k) (omega arith)) in
    omega (arith, sum_by-cons f x xs, sum_by-cons g y ys)

-- the words of some cells hold s as often as the cells do
pub cell_words : (s : SlotId) (cs : List (Option SlotId)) → count_by (names s) (map word_of cs) ≡ cell_times s cs
unfolding cell_times held held_in
cell_words s [] = refl
cell_words s (c ∷ cs) =
    let here : (if names s (word_of c) then 1 else 0) ≡ (if holds s c then 1 else 0) = held_word s c in
    let rest : count_by (names s) (map word_of cs) ≡ count_by (holds s) cs = cell_words s cs in
    let words = sum_by-cons (λ (w : ℕ). if names s w then 1 else 0) (word_of c) (map word_of cs) in
    let cells = sum_by-cons (λ (d : Option SlotId). if holds s d then 1 else 0) c cs in
    words ∙ (ap (λ (n : ℕ). n + count_by (names s) (map word_of cs)) here ∙ (ap (λ (n : ℕ). (if holds s c then 1 else 0) + n) rest ∙ sym cells))
