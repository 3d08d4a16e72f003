-- What a write of one word leaves of the places.
use Rattle.std.proofs.Common.{◌≡◌, ◌≢◌, ℕ, zero, suc, ◌+◌, ◌*◌, ◌<◌, ◌≤◌, List, length, set, ap, arith}
use Rattle.std.specs.Prelude.{slice_index}
use Rattle.std.proofs.lemmas.List.{get_or-set_same, get_or-set_other}
use Rattle.core_law.specs.plain_state.declared.act.EventPlace.{EventPlace}
use Rattle.core_law.specs.plain_state.declared.act.EventPlace.TheVariants.{Cell, Field, WeakCell, WeakField}
use Rattle.core_law.specs.plain_state.declared.slot.SlotId.{SlotId}
use Rattle.core_law.specs.core_events.Counts.{in_word, sum_below}
use Rattle.core_law.proofs.Kit.{below_same, below_but, below_at}
use Rattle.epoch_core.specs.declared.shape.EpochShape.{EpochShape}
use Rattle.epoch_core.specs.Words.{cell_at, count_at, field_at, payload_at, place_at, word_count}
use Rattle.epoch_core.specs.Counts.{fields_holding, places}
use Rattle.epoch_core.specs.Slots.{fields_sum}

-- word p is not of a place
pub record OffPlaces (z : EpochShape) (p : ℕ) : Type 0 where
  pub cells : (i : ℕ) → i < z.cells → cell_at z i ≢ p
  pub fields : (x : SlotId) (i : ℕ) → x.0 < z.slots → i < 2 → field_at z x i ≢ p

pub count_off : (z : EpochShape) (s : SlotId) → OffPlaces z (count_at z s)
count_off z s = omega arith

pub payload_off : (z : EpochShape) (s : SlotId) (k : ℕ) → k < 16 → OffPlaces z (payload_at z s k)
payload_off z s k hk = omega arith

-- a word before those of the cells
pub low_off : (z : EpochShape) (p : ℕ) → p < 8 + 8 * z.seats → OffPlaces z p
low_off z p h = omega arith

abbrev pub in_cells : EpochShape → List ℕ → SlotId → ℕ
in_cells z ws s = sum_below z.cells (λ i. in_word s (slice_index ws (cell_at z i)))

abbrev pub in_fields : EpochShape → List ℕ → SlotId → ℕ
in_fields z ws s = sum_below z.slots (fields_holding z ws s)

module _ (z : EpochShape) (ws : List ℕ) (p w : ℕ) where
  field_off : (x : SlotId) (i : ℕ) → field_at z x i ≢ p
      → slice_index (set ws p w) (field_at z x i) ≡ slice_index ws (field_at z x i)
  field_off x i ne = get_or-set_other ws p (field_at z x i) w 0 ne

  cells_off : (s : SlotId) → ((i : ℕ) → i < z.cells → cell_at z i ≢ p)
      → in_cells z (set ws p w) s ≡ in_cells z ws s
  cells_off s off = below_same z.cells (λ i. in_word s (slice_index ws (cell_at z i)))
      (λ i. in_word s (slice_index (set ws p w) (cell_at z i)))
      (λ i h. ap (in_word s) (get_or-set_other ws p (cell_at z i) w 0 (off i h)))

  holding_off : (s x : SlotId) → ((i : ℕ) → i < 2 → field_at z x i ≢ p)
      → fields_holding z (set ws p w) s x.0 ≡ fields_holding z ws s x.0
  holding_off s x off =
      let f = ap (in_word s) (field_off x 0 (off 0 (omega arith))) in
      let g = ap (in_word s) (field_off x 1 (off 1 (omega arith))) in omega arith

  fields_off : (s : SlotId) → ((x : SlotId) (i : ℕ) → x.0 < z.slots → i < 2 → field_at z x i ≢ p)
      → in_fields z (set ws p w) s ≡ in_fields z ws s
  fields_off s off = below_same z.slots (fields_holding z ws s) (fields_holding z (set ws p w) s)
      (λ x h. holding_off s (record { 0 = x }) (λ i l. off (record { 0 = x }) i h l))

  -- a write off the places leaves them
  pub places_off : OffPlaces z p → (s : SlotId) → places z (set ws p w) s ≡ places z ws s
  places_off off s =
      let a = cells_off s off.cells in let b = fields_off s off.fields in omega arith

  pub fields_sum_off : (s : SlotId) → ((i : ℕ) → i < 2 → field_at z s i ≢ p)
      → fields_sum z (set ws p w) s ≡ fields_sum z ws s
  fields_sum_off s off =
      let a = field_off s 0 (off 0 (omega arith)) in
      let b = field_off s 1 (off 1 (omega arith)) in omega arith

  pub count_other : (s : SlotId) → count_at z s ≢ p
      → slice_index (set ws p w) (count_at z s) ≡ slice_index ws (count_at z s)
  count_other s ne = get_or-set_other ws p (count_at z s) w 0 ne

-- a place that is there
abbrev pub IsPlace : EpochShape → EventPlace → Type 0
IsPlace z (Cell i) = i < z.cells
IsPlace z (Field s i) = (s.0 < z.slots) × (i < 2)
IsPlace z (WeakCell i) = ⊥
IsPlace z (WeakField s) = ⊥

pub place_bound : (z : EpochShape) (q : EventPlace) → IsPlace z q → place_at z q < word_count z
place_bound z q h = grind arith

-- it stands past the region words
pub place_high : (z : EpochShape) (q : EventPlace) → IsPlace z q → 8 + 8 * z.seats ≤ place_at z q
place_high z q h = grind arith

-- no count word is that of a place
pub place_not_count : (z : EpochShape) (q : EventPlace) (s : SlotId) → IsPlace z q → count_at z s ≢ place_at z q
place_not_count z (Cell i) s h = omega arith
place_not_count z (Field x i) s h = omega arith
place_not_count z (WeakCell i) s h = absurd h
place_not_count z (WeakField x) s h = absurd h

holding_put : (z : EpochShape) (ws : List ℕ) (w : ℕ) (s x : SlotId) (i : ℕ) → i < 2
    → field_at z x i < length ws
    → fields_holding z (set ws (field_at z x i) w) s x.0 + in_word s (slice_index ws (field_at z x i))
    ≡ fields_holding z ws s x.0 + in_word s w
holding_put z ws w s x zero h len =
    let a = ap (in_word s) (get_or-set_same ws (field_at z x 0) w 0 len) in
    let b = ap (in_word s) (get_or-set_other ws (field_at z x 0) (field_at z x 1) w 0 (omega arith)) in
    omega arith
holding_put z ws w s x (suc zero) h len =
    let a = ap (in_word s) (get_or-set_same ws (field_at z x 1) w 0 len) in
    let b = ap (in_word s) (get_or-set_other ws (field_at z x 1) (field_at z x 0) w 0 (omega arith)) in
    omega arith
holding_put z ws w s x (suc (suc i)) h len = absurd (omega arith)

-- a place is written: what it held goes, and what is put there comes
pub places_put : (z : EpochShape) (ws : List ℕ) (q : EventPlace) (w : ℕ) (s : SlotId) → IsPlace z q
    → word_count z ≤ length ws
    → places z (set ws (place_at z q) w) s + in_word s (slice_index ws (place_at z q))
    ≡ places z ws s + in_word s w
places_put z ws (Cell i) w s h len =
    let f = λ (j : ℕ). in_word s (slice_index ws (cell_at z j)) in
    let g = λ (j : ℕ). in_word s (slice_index (set ws (cell_at z i) w) (cell_at z j)) in
    let b = below_but z.cells i f g h
    (λ j l ne. ap (in_word s) (get_or-set_other ws (cell_at z i) (cell_at z j) w 0 (omega arith))) in
    let e = ap (in_word s) (get_or-set_same ws (cell_at z i) w 0 (omega arith)) in
    let a = fields_off z ws (cell_at z i) w s (λ x j b l. omega arith) in omega arith
places_put z ws (Field x i) w s h len =
    let f = fields_holding z ws s in
    let g = fields_holding z (set ws (field_at z x i) w) s in
    let b = below_but z.slots x.0 f g h.0
    (λ y l ne. holding_off z ws (field_at z x i) w s (record { 0 = y }) (λ j hj. omega arith)) in
    let e = holding_put z ws w s x i h.1 (omega arith) in
    let a = cells_off z ws (field_at z x i) w s (λ j l. omega arith) in omega arith
places_put z ws (WeakCell i) w s h len = absurd h
places_put z ws (WeakField x) w s h len = absurd h

-- a place that is there holds what places hold
pub places_at : (z : EpochShape) (ws : List ℕ) (q : EventPlace) (s : SlotId) → IsPlace z q
    → in_word s (slice_index ws (place_at z q)) ≤ places z ws s
places_at z ws (Cell i) s h =
    let b = below_at z.cells i (λ (j : ℕ). in_word s (slice_index ws (cell_at z j))) h in omega arith
places_at z ws (Field x i) s h =
    let b = below_at z.slots x.0 (fields_holding z ws s) h.0 in
    let t = one_of i h.1 in omega arith
  where
    one_of : (j : ℕ) → j < 2
        → in_word s (slice_index ws (field_at z x j)) ≤ fields_holding z ws s x.0
    one_of zero l = omega arith
    one_of (suc zero) l = omega arith
    one_of (suc (suc j)) l = absurd (omega arith)
places_at z ws (WeakCell i) s h = absurd h
places_at z ws (WeakField x) s h = absurd h
