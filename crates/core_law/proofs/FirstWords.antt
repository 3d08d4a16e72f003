-- The words of a domain in which nothing has happened.
use Rattle.std.proofs.Common.{◌≡◌, ⊎_elim, ℕ, zero, suc, ◌+◌, ◌-◌, ◌*◌, ◌/◌, ◌%◌, ◌^◌, ◌<◌, ◌≤◌, min, List, [], ◌∷◌, ◌++◌, length, get_or, replicate, refl, ap, sym, subst, ◌∙◌, arith, length-append}
use Rattle.std.specs.Prelude.{slice_index}
use Rattle.std.specs.List.{All}
use Rattle.std.proofs.lemmas.List.{length-replicate, get_or-replicate, get_or_append_left, get_or-append-add, get_or_past, append_assoc}
use Rattle.std.proofs.lemmas.List.Elements.{All-append, All-replicate, All-from_get_or}
use Rattle.std.proofs.lemmas.Nat.Bits.{bit_at_ones, bit_at_ones_above}
use Rattle.std.proofs.Math.Pow.{pow-lt}
use Rattle.std.proofs.lemmas.Bool.{cases_lt}
use Rattle.core_events.specs.plain_state.declared.slot.Kind.{Kind}
use Rattle.core_events.specs.plain_state.declared.slot.Kind.TheVariants.{Strong, Weak, Disposal}
use Rattle.core_events.specs.plain_state.declared.slot.SlotId.{SlotId}
use Rattle.core_events.specs.declared.shape.Shape.{Shape}
use Rattle.core_events.specs.Words.{slot_at, cell_at, weak_cell_at, field_at, weak_field_at, strong_at, weak_at, bits_at, bit_in, bitmaps, ticket_at, word_count, each_from, full_bits, free_words, all_free, first_words}
use Rattle.core_events.specs.counter_word.Words.{ZERO}
use Rattle.core_events.specs.Counts.{in_word, places, fields_holding}
use Rattle.core_law.proofs.Each.{length_each, get_each}
use Rattle.core_law.proofs.Kit.{below_none, in_word_null}
use Rattle.core_law.proofs.Writes.{weak_holding}

length_free : (n : ℕ) → length (all_free n) ≡ 21 * n
length_free zero = refl
length_free (suc n) =
    let l = length-append free_words (all_free n) in
    let r = length_free n in omega arith

-- word k of slot x
free_at : (n x k : ℕ) → x < n → k < 21 → get_or (all_free n) (21 * x + k) 0 ≡ get_or free_words k 0
free_at zero x k hx hk = absurd (omega arith)
free_at (suc n) zero k hx hk =
    let e : 21 * 0 + k ≡ k = omega arith in
    rw e (get_or_append_left free_words (all_free n) 0 k hk)
free_at (suc n) (suc x) k hx hk =
    let e : 21 * suc x + k ≡ 21 + (21 * x + k) = omega arith in
    rw e (get_or-append-add free_words (all_free n) (21 * x + k) 0 ∙ free_at n x k (omega arith) hk)

zeros_at : (k : ℕ) → 1 ≤ k → k < 21 → get_or free_words k 0 ≡ 0
zeros_at zero a b = absurd (omega arith)
zeros_at (suc k) a b = get_or-replicate 20 k 0 0 (omega arith)

free_fit : (n : ℕ) → All (λ (w : ℕ). w < 2 ^ 64) (all_free n)
free_fit zero = λ k d h. absurd (omega arith)
free_fit (suc n) = All-append (λ (w : ℕ). w < 2 ^ 64) free_words (all_free n)
    (All-from_get_or (λ (w : ℕ). w < 2 ^ 64) free_words 0 one) (free_fit n)
  where
    one : (i : ℕ) → i < 21 → get_or free_words i 0 < 2 ^ 64
    one zero h = omega arith
    one (suc k) h =
        let e : get_or free_words (suc k) 0 ≡ 0 = get_or-replicate 20 k 0 0 (omega arith) in
        omega arith

module _ (z : Shape) where
  abbrev low_words : List ℕ
  low_words = replicate (slot_at z 0) 0

  abbrev bit_words : List ℕ
  bit_words = each_from 0 (bitmaps z) (full_bits z)

  abbrev last_words : List ℕ
  last_words = each_from 0 (bitmaps z) (full_bits z) ++ 0 ∷ []

  abbrev in_order : List ℕ
  in_order = low_words ++ (all_free z.slots ++ last_words)

  first_is : first_words z ≡ low_words ++ (all_free z.slots ++ last_words)
  first_is =
      append_assoc (low_words ++ all_free z.slots) bit_words (0 ∷ [])
      ∙ append_assoc low_words (all_free z.slots) last_words

  low_length : length low_words ≡ slot_at z 0
  low_length = length-replicate {A = ℕ} (slot_at z 0) 0

  last_length : length last_words ≡ bitmaps z + 1
  last_length =
      let a = length-append bit_words (0 ∷ []) in
      let b = length_each 0 (bitmaps z) (full_bits z) in omega arith

  pub length_first : length (first_words z) ≡ word_count z
  length_first =
      let a = length-append low_words (all_free z.slots ++ last_words) in
      let e = length-append (all_free z.slots) last_words in
      let b = low_length in
      let d = length_free z.slots in
      let l = last_length in
      let f = ap length first_is in omega arith

  -- below the slots' words all are 0
  pub low_at : (i : ℕ) → i < slot_at z 0 → slice_index (first_words z) i ≡ 0
  low_at i h =
      let b = low_length in
      ap (λ (xs : List ℕ). slice_index xs i) first_is
      ∙ get_or_append_left low_words (all_free z.slots ++ last_words) 0 i (omega arith)
      ∙ get_or-replicate (slot_at z 0) i 0 0 h

  after_low : (k : ℕ)
      → slice_index (first_words z) (slot_at z 0 + k) ≡ get_or (all_free z.slots ++ last_words) k 0
  after_low k =
      let e : slot_at z 0 + k ≡ length low_words + k = let b = low_length in omega arith in
      ap (λ (xs : List ℕ). slice_index xs (slot_at z 0 + k)) first_is
      ∙ (ap (λ (m : ℕ). get_or in_order m 0) e
      ∙ get_or-append-add low_words (all_free z.slots ++ last_words) k 0)

  slot_word : (x k : ℕ) → x < z.slots → k < 21 → slice_index (first_words z) (slot_at z x + k)
      ≡ get_or free_words k 0
  slot_word x k hx hk =
      let e : slot_at z x + k ≡ slot_at z 0 + (21 * x + k) = omega arith in
      let l = length_free z.slots in
      rw e (after_low (21 * x + k)
      ∙ (get_or_append_left (all_free z.slots) last_words 0 (21 * x + k) (omega arith)
      ∙ free_at z.slots x k hx hk))

  -- behind them stand the bits, and the tickets
  last_at : (k : ℕ) → slice_index (first_words z) (slot_at z z.slots + k) ≡ get_or last_words k 0
  last_at k =
      let l = length_free z.slots in
      let e : slot_at z z.slots + k ≡ slot_at z 0 + (21 * z.slots + k) = omega arith in
      let f : 21 * z.slots + k ≡ length (all_free z.slots) + k = omega arith in
      rw e (after_low (21 * z.slots + k)
      ∙ (ap (λ (m : ℕ). get_or (all_free z.slots ++ last_words) m 0) f
      ∙ get_or-append-add (all_free z.slots) last_words k 0))

  bit_word : (k : ℕ) → k < bitmaps z → slice_index (first_words z) (slot_at z z.slots + k) ≡ full_bits z k
  bit_word k h =
      let b = length_each 0 (bitmaps z) (full_bits z) in
      let e : 0 + k ≡ k = omega arith in
      last_at k
      ∙ (get_or_append_left bit_words (0 ∷ []) 0 k (omega arith)
      ∙ (get_each 0 (bitmaps z) k (full_bits z) 0 h ∙ ap (full_bits z) e))

  pub ticket_first : slice_index (first_words z) (ticket_at z) ≡ 0
  ticket_first =
      let b = length_each 0 (bitmaps z) (full_bits z) in
      let e : bitmaps z ≡ length bit_words + 0 = omega arith in
      last_at (bitmaps z) ∙ (ap (λ (m : ℕ). get_or last_words m 0) e
      ∙ get_or-append-add bit_words (0 ∷ []) 0 0)

  -- a slot's bit is set, and no other one
  pub bit_first : (s : SlotId) → s.0 < z.slots → bit_in s (slice_index (first_words z) (bits_at z s)) ≡ 1
  bit_first s h =
      ap (bit_in s) (bit_word (s.0 / 64) (omega arith))
      ∙ bit_at_ones (min 64 (z.slots - 64 * (s.0 / 64))) (s.0 % 64) (omega arith)

  pub bit_spare : (s : SlotId) → z.slots ≤ s.0 → s.0 < 64 * bitmaps z
      → bit_in s (slice_index (first_words z) (bits_at z s)) ≡ 0
  bit_spare s a b =
      ap (bit_in s) (bit_word (s.0 / 64) (omega arith))
      ∙ bit_at_ones_above (min 64 (z.slots - 64 * (s.0 / 64))) (s.0 % 64) (omega arith)

  full_fits : (i : ℕ) → full_bits z i < 2 ^ 64
  full_fits i = ⊎_elim
      (λ (lt : min 64 (z.slots - 64 * i) < 64). let p = pow-lt lt in omega arith)
      (λ (le : 64 ≤ min 64 (z.slots - 64 * i)).
      let e : min 64 (z.slots - 64 * i) ≡ 64 = omega arith in
      let p : 2 ^ min 64 (z.slots - 64 * i) ≡ 2 ^ 64 = ap (λ (k : ℕ). 2 ^ k) e in omega arith)
      (cases_lt (min 64 (z.slots - 64 * i)) 64)

  pub words_fit : (i : ℕ) → slice_index (first_words z) i < 2 ^ 64
  words_fit i = ⊎_elim
      (λ lt. all i 0 lt)
      (λ le. let e = get_or_past (first_words z) i 0 le in omega arith)
      (cases_lt i (length (first_words z)))
    where
      Fits : ℕ → Type 0
      Fits w = w < 2 ^ 64

      bits : All (λ (w : ℕ). w < 2 ^ 64) bit_words
      bits = All-from_get_or (λ (w : ℕ). w < 2 ^ 64) bit_words 0 (λ k h.
          let b = length_each 0 (bitmaps z) (full_bits z) in
          let e = get_each 0 (bitmaps z) k (full_bits z) 0 (omega arith) in
          let f = full_fits (0 + k) in omega arith)

      ordered : All (λ (w : ℕ). w < 2 ^ 64) in_order
      ordered = All-append (λ (w : ℕ). w < 2 ^ 64) low_words (all_free z.slots ++ last_words)
          (All-replicate (λ (w : ℕ). w < 2 ^ 64) (slot_at z 0) 0 (omega arith))
          (All-append (λ (w : ℕ). w < 2 ^ 64) (all_free z.slots) last_words (free_fit z.slots)
          (All-append (λ (w : ℕ). w < 2 ^ 64) bit_words (0 ∷ []) bits
          (All-replicate (λ (w : ℕ). w < 2 ^ 64) 1 0 (omega arith))))

      all : All (λ (w : ℕ). w < 2 ^ 64) (first_words z)
      all = subst (All (λ (w : ℕ). w < 2 ^ 64)) (sym first_is) ordered

  pub strong_first : (s : SlotId) → s.0 < z.slots → slice_index (first_words z) (strong_at z s) ≡ ZERO
  strong_first s h = let e : strong_at z s ≡ slot_at z s.0
      + 0 = omega arith in rw e (slot_word s.0 0 h (omega arith))

  pub field_first : (s : SlotId) (k : ℕ) → s.0 < z.slots → 1 ≤ k → k < 21
      → slice_index (first_words z) (slot_at z s.0 + k) ≡ 0
  field_first s k h a b = slot_word s.0 k h b ∙ zeros_at k a b

  pub weak_first : (s : SlotId) → s.0 < z.slots → slice_index (first_words z) (weak_at z s) ≡ 0
  weak_first s h = field_first s 1 h (omega arith) (omega arith)

  pub field0 : (s : SlotId) → s.0 < z.slots → slice_index (first_words z) (field_at z s 0) ≡ 0
  field0 s h = let e : field_at z s 0 ≡ slot_at z s.0 + 2 = omega arith in rw e
      (field_first s 2 h (omega arith) (omega arith))

  pub field1 : (s : SlotId) → s.0 < z.slots → slice_index (first_words z) (field_at z s 1) ≡ 0
  field1 s h = let e : field_at z s 1 ≡ slot_at z s.0 + 3 = omega arith in rw e
      (field_first s 3 h (omega arith) (omega arith))

  pub weak_field : (s : SlotId) → s.0 < z.slots → slice_index (first_words z) (weak_field_at z s) ≡ 0
  weak_field s h = field_first s 4 h (omega arith) (omega arith)

  in_null : (s : SlotId) (w : ℕ) → w ≡ 0 → in_word s w ≡ 0
  in_null s w e = ap (in_word s) e ∙ in_word_null s

  -- no place holds anything
  pub places_first : (k : Kind) (s : SlotId) → places k z (first_words z) s ≡ 0
  places_first Strong s =
      let a = below_none z.cells (λ i. in_word s (slice_index (first_words z) (cell_at z i)))
      (λ i h. in_null s _ (low_at (cell_at z i) (omega arith))) in
      let b = below_none z.slots (fields_holding z (first_words z) s)
      (λ x h.
      let f = in_null s _ (field0 (record { 0 = x }) h) in
      let g = in_null s _ (field1 (record { 0 = x }) h) in omega arith) in omega arith
  places_first Weak s =
      let a = below_none z.weak_cells (λ i. in_word s (slice_index (first_words z)
      (weak_cell_at z i)))
      (λ i h. in_null s _ (low_at (weak_cell_at z i) (omega arith))) in
      let b = below_none z.slots (weak_holding z (first_words z) s)
      (λ x h. in_null s _ (weak_field (record { 0 = x }) h)) in omega arith
  places_first Disposal s = omega arith
