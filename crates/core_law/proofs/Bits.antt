-- The bits of the free slots: what a claim and a return do to them, and that other writes leave them.
use Rattle.std.proofs.Common.{◌≡◌, ◌≢◌, ⊎_elim, ℕ, ◌+◌, ◌-◌, ◌*◌, ◌/◌, ◌%◌, ◌^◌, ◌<◌, ◌≤◌, List, length, set, ap, sym, ◌∙◌, bit_and, arith, w64}
use Rattle.std.specs.Prelude.{slice_index}
use Rattle.std.specs.Int.{bit_at}
use Rattle.std.specs.Int.Bits.{bit_or, or_add_and}
use Rattle.std.proofs.lemmas.Nat.{and_le_l, or_lt, one_shl}
use native.Mathlib.Nat.{zero-mul}
use Rattle.std.proofs.lemmas.Nat.Bits.{and_pow, bit_at_or, bit_at-lt, bit_at-pow_same, bit_at-pow_other, bit_at_clear_same, bit_at_clear_other, same_from_bits_below}
use Rattle.std.proofs.lemmas.List.{get_or-set_same, get_or-set_other}
use Rattle.std.proofs.lemmas.Bool.{cases_eq}
use Rattle.core_events.specs.plain_state.declared.slot.SlotId.{SlotId}
use Rattle.core_events.specs.declared.shape.Shape.{Shape}
use Rattle.core_events.specs.Words.{bits_at, bit_alone, bit_in, ticket_at}
use Rattle.core_law.proofs.Writes.{OffBits}

place_in : (s : SlotId) → s.0 % 64 < 64
place_in s = omega arith

pub bit_most : (s : SlotId) (w : ℕ) → bit_in s w ≤ 1
bit_most s w = let l = bit_at-lt w (s.0 % 64) in omega arith

-- a claim takes the slot's bit
pub taken_bit : (s : SlotId) (w : ℕ) → bit_in s (bit_and w (2 ^ 64 - 1 - bit_alone s)) ≡ 0
taken_bit s w =
    ap (λ (m : ℕ). bit_at (bit_and w (2 ^ 64 - 1 - m)) (s.0 % 64)) (sym (one_shl (s.0 % 64) 64 (place_in s)))
    ∙ bit_at_clear_same w64 w (s.0 % 64) (place_in s)

pub taken_other : (s x : SlotId) (w : ℕ) → x.0 % 64 ≢ s.0 % 64
    → bit_in x (bit_and w (2 ^ 64 - 1 - bit_alone s)) ≡ bit_in x w
taken_other s x w ne =
    ap (λ (m : ℕ). bit_at (bit_and w (2 ^ 64 - 1 - m)) (x.0 % 64)) (sym (one_shl (s.0 % 64) 64 (place_in s)))
    ∙ bit_at_clear_other w64 w (s.0 % 64) (place_in s) (x.0 % 64) (place_in x) ne

-- and leaves the word where it is clear already
pub clear_stays : (s : SlotId) (w : ℕ) → w < 2 ^ 64 → bit_in s w ≡ 0
    → bit_and w (2 ^ 64 - 1 - bit_alone s) ≡ w
clear_stays s w fits clear =
    let le = and_le_l w (2 ^ 64 - 1 - bit_alone s) in
    same_from_bits_below 64 (bit_and w (2 ^ 64 - 1 - bit_alone s)) w (omega arith) fits each
  where
    each : (i : ℕ) → i < 64 → bit_at (bit_and w (2 ^ 64 - 1 - bit_alone s)) i ≡ bit_at w i
    each i h = ⊎_elim
        (λ (e : i ≡ s.0 % 64).
        ap (bit_at (bit_and w (2 ^ 64 - 1 - bit_alone s))) e
        ∙ (taken_bit s w ∙ (sym clear ∙ ap (bit_at w) (sym e))))
        (λ (ne : i ≢ s.0 % 64).
        ap (λ (m : ℕ). bit_at (bit_and w (2 ^ 64 - 1 - m)) i) (sym (one_shl (s.0 % 64) 64 (place_in s)))
        ∙ bit_at_clear_other w64 w (s.0 % 64) (place_in s) i h ne)
        (cases_eq i (s.0 % 64))

-- where the bit is clear, the sum with it sets it
given_sum : (s : SlotId) (w : ℕ) → w < 2 ^ 64 → bit_in s w ≡ 0
    → (w + bit_alone s) % 2 ^ 64 ≡ bit_or w (bit_alone s)
given_sum s w fits clear =
    let k : ℕ = s.0 % 64 in
    let none : bit_and w (2 ^ k) ≡ 0 = and_pow w k ∙ (ap (λ (b : ℕ). b * 2 ^ k) clear ∙ zero-mul (2 ^ k)) in
    let sum : bit_or w (2 ^ k) + bit_and w (2 ^ k) ≡ w + 2 ^ k = or_add_and w (2 ^ k) in
    let small : 2 ^ k < 2 ^ 64 = one_small k (place_in s) in
    let less = or_lt 64 w (2 ^ k) fits small in
    omega arith
  where
    one_small : (k : ℕ) → k < 64 → 2 ^ k < 2 ^ 64
    one_small k h = let e = one_shl k 64 h in omega arith

pub given_bit : (s : SlotId) (w : ℕ) → w < 2 ^ 64 → bit_in s w ≡ 0
    → bit_in s ((w + bit_alone s) % 2 ^ 64) ≡ 1
given_bit s w fits clear =
    let o = bit_at_or w (bit_alone s) (s.0 % 64) in
    let p = bit_at-pow_same (s.0 % 64) in
    ap (bit_in s) (given_sum s w fits clear) ∙ omega arith

pub given_other : (s x : SlotId) (w : ℕ) → w < 2 ^ 64 → bit_in s w ≡ 0 → x.0 % 64 ≢ s.0 % 64
    → bit_in x ((w + bit_alone s) % 2 ^ 64) ≡ bit_in x w
given_other s x w fits clear ne =
    let o = bit_at_or w (bit_alone s) (x.0 % 64) in
    let p = bit_at-pow_other (s.0 % 64) (x.0 % 64) ne in
    ap (bit_in x) (given_sum s w fits clear) ∙ omega arith

-- slots in the same word have other bits
pub apart : (s x : SlotId) → x.0 ≢ s.0 → x.0 / 64 ≡ s.0 / 64 → x.0 % 64 ≢ s.0 % 64
apart s x ne same = λ e. ne (omega arith)

pub bits_bound : (z : Shape) (s : SlotId) → s.0 < z.slots → bits_at z s < ticket_at z
bits_bound z s h = omega arith

-- the bits of all slots after a write before them
pub bits_off : (z : Shape) (ws : List ℕ) (p w : ℕ) (x : SlotId) → OffBits z p
    → bit_in x (slice_index (set ws p w) (bits_at z x)) ≡ bit_in x (slice_index ws (bits_at z x))
bits_off z ws p w x off = ap (bit_in x) (get_or-set_other ws p (bits_at z x) w 0 (omega arith))

pub ticket_off : (z : Shape) (ws : List ℕ) (p w : ℕ) → p < ticket_at z
    → slice_index (set ws p w) (ticket_at z) ≡ slice_index ws (ticket_at z)
ticket_off z ws p w off = get_or-set_other ws p (ticket_at z) w 0 (omega arith)

-- the bit of another slot after a write of the word that has the bit of s, which leaves the other bits
pub bits_other : (z : Shape) (ws : List ℕ) (s x : SlotId) (w : ℕ) → bits_at z s < length ws → x.0 ≢ s.0
    → (x.0 % 64 ≢ s.0 % 64 → bit_in x w ≡ bit_in x (slice_index ws (bits_at z s)))
    → bit_in x (slice_index (set ws (bits_at z s) w) (bits_at z x))
    ≡ bit_in x (slice_index ws (bits_at z x))
bits_other z ws s x w there ne keeps = ⊎_elim
    (λ (e : x.0 / 64 ≡ s.0 / 64).
    let at : bits_at z x ≡ bits_at z s = omega arith in
    ap (λ (i : ℕ). bit_in x (slice_index (set ws (bits_at z s) w) i)) at
    ∙ (ap (bit_in x) (get_or-set_same ws (bits_at z s) w 0 there)
    ∙ (keeps (apart s x ne e) ∙ ap (λ (i : ℕ). bit_in x (slice_index ws i)) (sym at))))
    (λ (d : x.0 / 64 ≢ s.0 / 64).
    ap (bit_in x) (get_or-set_other ws (bits_at z s) (bits_at z x) w 0 (omega arith)))
    (cases_eq (x.0 / 64) (s.0 / 64))
