-- What a write of one word leaves of the other words.
use Rattle.std.proofs.Common.{◌≡◌, ◌≢◌, ℕ, zero, suc, ◌+◌, ◌<◌, ◌≤◌, List, length, set, ap, arith}
use Rattle.std.specs.Prelude.{slice_index}
use Rattle.std.proofs.lemmas.List.{get_or-set_same, get_or-set_other}
use Rattle.core_events.specs.plain_state.declared.act.EventPlace.{EventPlace}
use Rattle.core_events.specs.plain_state.declared.act.EventPlace.TheVariants.{Cell, Field, WeakCell, WeakField}
use Rattle.core_events.specs.plain_state.declared.slot.Kind.{Kind}
use Rattle.core_events.specs.plain_state.declared.slot.Kind.TheVariants.{Strong, Weak, Disposal}
use Rattle.core_events.specs.plain_state.declared.slot.SlotId.{SlotId}
use Rattle.core_events.specs.plain_state.Places.{place_kind}
use Rattle.core_events.specs.declared.shape.Shape.{Shape}
use Rattle.core_events.specs.Words.{note_at, cell_at, weak_cell_at, strong_at, weak_at, field_at, weak_field_at, payload_at, place_at, slot_at, word_count}
use Rattle.core_events.specs.Counts.{in_word, sum_below, fields_holding, places}
use Rattle.core_law.proofs.Kit.{kind_one, below_same, below_but, below_at}

-- the three field words of a slot, added up
abbrev pub fields_sum : Shape → List ℕ → SlotId → ℕ
fields_sum z ws s =
    slice_index ws (field_at z s 0) + slice_index ws (field_at z s 1)
    + slice_index ws (weak_field_at z s)

-- word p is not of a place
pub record OffPlaces (z : Shape) (p : ℕ) : Type 0 where
  pub cells : (i : ℕ) → i < z.cells → cell_at z i ≢ p
  pub weak_cells : (i : ℕ) → i < z.weak_cells → weak_cell_at z i ≢ p
  pub fields : (x : SlotId) (i : ℕ) → x.0 < z.slots → i < 2 → field_at z x i ≢ p
  pub weak_fields : (x : SlotId) → x.0 < z.slots → weak_field_at z x ≢ p

-- nor of an announcement
abbrev pub OffNotes : Shape → ℕ → Type 0
OffNotes z p = (n j : ℕ) → n < z.seats → j < 4 → note_at n j ≢ p

-- it stands before the bits and the tickets
abbrev pub OffBits : Shape → ℕ → Type 0
OffBits z p = p < slot_at z z.slots

pub strong_off : (z : Shape) (s : SlotId) → OffPlaces z (strong_at z s) × OffNotes z (strong_at z s)
strong_off z s = omega arith

pub weak_off : (z : Shape) (s : SlotId) → OffPlaces z (weak_at z s) × OffNotes z (weak_at z s)
weak_off z s = omega arith

pub payload_off : (z : Shape) (s : SlotId) (k : ℕ) → k < 16
    → OffPlaces z (payload_at z s k) × OffNotes z (payload_at z s k)
payload_off z s k hk = omega arith

-- a word behind those of the slots
pub past_off : (z : Shape) (p : ℕ) → slot_at z z.slots ≤ p → OffPlaces z p × OffNotes z p
past_off z p le = omega arith

pub note_off : (z : Shape) (n j : ℕ) → n < z.seats → j < 4 → OffPlaces z (note_at n j)
note_off z n j hn hj = omega arith

-- the four kinds of place, each added up
abbrev pub in_cells : Shape → List ℕ → SlotId → ℕ
in_cells z ws s = sum_below z.cells (λ i. in_word s (slice_index ws (cell_at z i)))

abbrev pub in_fields : Shape → List ℕ → SlotId → ℕ
in_fields z ws s = sum_below z.slots (fields_holding z ws s)

abbrev pub in_weak_cells : Shape → List ℕ → SlotId → ℕ
in_weak_cells z ws s = sum_below z.weak_cells (λ i. in_word s (slice_index ws (weak_cell_at z i)))

abbrev pub weak_holding : Shape → List ℕ → SlotId → ℕ → ℕ
weak_holding z ws s x = in_word s (slice_index ws (weak_field_at z (record { 0 = x })))

abbrev pub in_weak_fields : Shape → List ℕ → SlotId → ℕ
in_weak_fields z ws s = sum_below z.slots (weak_holding z ws s)

module _ (z : Shape) (ws : List ℕ) (p w : ℕ) where
  abbrev written : List ℕ
  written = set ws p w

  field_off : (x : SlotId) (i : ℕ) → field_at z x i ≢ p
      → slice_index (set ws p w) (field_at z x i) ≡ slice_index ws (field_at z x i)
  field_off x i ne = get_or-set_other ws p (field_at z x i) w 0 ne

  weak_field_off : (x : SlotId) → weak_field_at z x ≢ p
      → slice_index (set ws p w) (weak_field_at z x) ≡ slice_index ws (weak_field_at z x)
  weak_field_off x ne = get_or-set_other ws p (weak_field_at z x) w 0 ne

  cells_off : (s : SlotId) → ((i : ℕ) → i < z.cells → cell_at z i ≢ p)
      → in_cells z (set ws p w) s ≡ in_cells z ws s
  cells_off s off = below_same z.cells (λ i. in_word s (slice_index ws (cell_at z i)))
      (λ i. in_word s (slice_index (set ws p w) (cell_at z i)))
      (λ i h. ap (in_word s) (get_or-set_other ws p (cell_at z i) w 0 (off i h)))

  weak_cells_off : (s : SlotId) → ((i : ℕ) → i < z.weak_cells → weak_cell_at z i ≢ p)
      → in_weak_cells z (set ws p w) s ≡ in_weak_cells z ws s
  weak_cells_off s off = below_same z.weak_cells (λ i. in_word s
      (slice_index ws (weak_cell_at z i)))
      (λ i. in_word s (slice_index (set ws p w) (weak_cell_at z i)))
      (λ i h. ap (in_word s) (get_or-set_other ws p (weak_cell_at z i) w 0 (off i h)))

  holding_off : (s x : SlotId) → ((i : ℕ) → i < 2 → field_at z x i ≢ p)
      → fields_holding z (set ws p w) s x.0 ≡ fields_holding z ws s x.0
  holding_off s x off =
      let f = ap (in_word s) (field_off x 0 (off 0 (omega arith))) in
      let g = ap (in_word s) (field_off x 1 (off 1 (omega arith))) in omega arith

  fields_off : (s : SlotId) → ((x : SlotId) (i : ℕ) → x.0 < z.slots → i < 2 → field_at z x i ≢ p)
      → in_fields z (set ws p w) s ≡ in_fields z ws s
  fields_off s off = below_same z.slots (fields_holding z ws s) (fields_holding z (set ws p w) s)
      (λ x h. holding_off s (record { 0 = x }) (λ i l. off (record { 0 = x }) i h l))

  weak_fields_off : (s : SlotId) → ((x : SlotId) → x.0 < z.slots → weak_field_at z x ≢ p)
      → in_weak_fields z (set ws p w) s ≡ in_weak_fields z ws s
  weak_fields_off s off = below_same z.slots (weak_holding z ws s) (weak_holding z (set ws p w) s)
      (λ x h. ap (in_word s) (weak_field_off (record { 0 = x }) (off (record { 0 = x }) h)))

  -- a write off the places leaves them
  pub places_off : OffPlaces z p → (k : Kind) (s : SlotId) → places k z (set ws p w) s
      ≡ places k z ws s
  places_off off Strong s =
      let a = cells_off s off.cells in let b = fields_off s off.fields in omega arith
  places_off off Weak s =
      let a = weak_cells_off s off.weak_cells in
      let b = weak_fields_off s off.weak_fields in omega arith
  places_off off Disposal s = omega arith

  pub fields_sum_off : (s : SlotId) → ((i : ℕ) → i < 2 → field_at z s i ≢ p) → weak_field_at z s ≢ p
      → fields_sum z (set ws p w) s ≡ fields_sum z ws s
  fields_sum_off s off weak_off' =
      let a = field_off s 0 (off 0 (omega arith)) in
      let b = field_off s 1 (off 1 (omega arith)) in
      let d = weak_field_off s weak_off' in omega arith

-- a place that is there
abbrev pub IsPlace : Shape → EventPlace → Type 0
IsPlace z (Cell i) = i < z.cells
IsPlace z (Field s i) = (s.0 < z.slots) × (i < 2)
IsPlace z (WeakCell i) = i < z.weak_cells
IsPlace z (WeakField s) = s.0 < z.slots

pub place_bound : (z : Shape) (q : EventPlace) → IsPlace z q → place_at z q < word_count z
place_bound z q h = grind arith

pub place_off_bits : (z : Shape) (q : EventPlace) → IsPlace z q → OffBits z (place_at z q)
place_off_bits z q h = grind arith

pub place_off_notes : (z : Shape) (q : EventPlace) → IsPlace z q → OffNotes z (place_at z q)
place_off_notes z q h = grind arith

pub place_off_strong : (z : Shape) (q : EventPlace) (s : SlotId) → IsPlace z q
    → strong_at z s ≢ place_at z q
place_off_strong z q s h = grind arith

pub place_off_weak : (z : Shape) (q : EventPlace) (s : SlotId) → IsPlace z q
    → weak_at z s ≢ place_at z q
place_off_weak z q s h = grind arith

-- the strong fields of slot x, one of which is written
holding_put : (z : Shape) (ws : List ℕ) (w : ℕ) (s x : SlotId) (i : ℕ) → i < 2
    → field_at z x i < length ws
    → fields_holding z (set ws (field_at z x i) w) s x.0
    + in_word s (slice_index ws (field_at z x i))
    ≡ fields_holding z ws s x.0 + in_word s w
holding_put z ws w s x zero h l =
    let a = ap (in_word s) (get_or-set_same ws (field_at z x 0) w 0 l) in
    let b = ap (in_word s) (field_off z ws (field_at z x 0) w x 1 (omega arith)) in omega arith
holding_put z ws w s x (suc zero) h l =
    let a = ap (in_word s) (get_or-set_same ws (field_at z x 1) w 0 l) in
    let b = ap (in_word s) (field_off z ws (field_at z x 1) w x 0 (omega arith)) in omega arith
holding_put z ws w s x (suc (suc i)) h l = absurd (omega arith)

-- what a write of a place does to the references that places hold
pub places_put : (z : Shape) (ws : List ℕ) (q : EventPlace) (w : ℕ) (k : Kind) (s : SlotId)
    → IsPlace z q
    → length ws ≡ word_count z
    → places k z (set ws (place_at z q) w) s
    + kind_one k (place_kind q) (in_word s (slice_index ws (place_at z q)))
    ≡ places k z ws s + kind_one k (place_kind q) (in_word s w)
places_put z ws (Cell i) w Strong s h len =
    let f = λ (j : ℕ). in_word s (slice_index ws (cell_at z j)) in
    let g = λ (j : ℕ). in_word s (slice_index (set ws (cell_at z i) w) (cell_at z j)) in
    let b = below_but z.cells i f g h
    (λ j l ne. ap (in_word s) (get_or-set_other ws (cell_at z i) (cell_at z j) w 0
    (omega arith))) in
    let e = ap (in_word s) (get_or-set_same ws (cell_at z i) w 0 (omega arith)) in
    let a = fields_off z ws (cell_at z i) w s (λ x j b l. omega arith) in omega arith
places_put z ws (Field x i) w Strong s h len =
    let f = fields_holding z ws s in
    let g = fields_holding z (set ws (field_at z x i) w) s in
    let b = below_but z.slots x.0 f g h.0
    (λ y l ne. holding_off z ws (field_at z x i) w s (record { 0 = y }) (λ j hj. omega arith))
    in
    let e = holding_put z ws w s x i h.1 (omega arith) in
    let a = cells_off z ws (field_at z x i) w s (λ j l. omega arith) in omega arith
places_put z ws (WeakCell i) w Strong s h len =
    let a = cells_off z ws (weak_cell_at z i) w s (λ j l. omega arith) in
    let b = fields_off z ws (weak_cell_at z i) w s (λ x j b l. omega arith) in omega arith
places_put z ws (WeakField x) w Strong s h len =
    let a = cells_off z ws (weak_field_at z x) w s (λ j l. omega arith) in
    let b = fields_off z ws (weak_field_at z x) w s (λ y j b l. omega arith) in omega arith
places_put z ws (Cell i) w Weak s h len =
    let a = weak_cells_off z ws (cell_at z i) w s (λ j l. omega arith) in
    let b = weak_fields_off z ws (cell_at z i) w s (λ x b. omega arith) in omega arith
places_put z ws (Field x i) w Weak s h len =
    let a = weak_cells_off z ws (field_at z x i) w s (λ j l. omega arith) in
    let b = weak_fields_off z ws (field_at z x i) w s (λ y b. omega arith) in omega arith
places_put z ws (WeakCell i) w Weak s h len =
    let f = λ (j : ℕ). in_word s (slice_index ws (weak_cell_at z j)) in
    let g = λ (j : ℕ). in_word s (slice_index (set ws (weak_cell_at z i) w) (weak_cell_at z j)) in
    let b = below_but z.weak_cells i f g h
    (λ j l ne. ap (in_word s)
    (get_or-set_other ws (weak_cell_at z i) (weak_cell_at z j) w 0 (omega arith))) in
    let e = ap (in_word s) (get_or-set_same ws (weak_cell_at z i) w 0 (omega arith)) in
    let a = weak_fields_off z ws (weak_cell_at z i) w s (λ x b. omega arith) in omega arith
places_put z ws (WeakField x) w Weak s h len =
    let f = weak_holding z ws s in
    let g = weak_holding z (set ws (weak_field_at z x) w) s in
    let b = below_but z.slots x.0 f g h
    (λ y l ne. ap (in_word s)
    (weak_field_off z ws (weak_field_at z x) w (record { 0 = y }) (omega arith))) in
    let e = ap (in_word s) (get_or-set_same ws (weak_field_at z x) w 0 (omega arith)) in
    let a = weak_cells_off z ws (weak_field_at z x) w s (λ j l. omega arith) in omega arith
places_put z ws q w Disposal s h len = grind arith

-- a place that is there holds what places hold
pub places_at : (z : Shape) (ws : List ℕ) (q : EventPlace) (s : SlotId) → IsPlace z q
    → in_word s (slice_index ws (place_at z q)) ≤ places (place_kind q) z ws s
places_at z ws (Cell i) s h =
    let b = below_at z.cells i (λ (j : ℕ). in_word s (slice_index ws (cell_at z j))) h in omega
    arith
places_at z ws (Field x i) s h =
    let b = below_at z.slots x.0 (fields_holding z ws s) h.0 in
    let t = one_of i h.1 in omega arith
  where
    one_of : (j : ℕ) → j < 2 → in_word s (slice_index ws (field_at z x j)) ≤ fields_holding z ws s
        x.0
    one_of zero l = omega arith
    one_of (suc zero) l = omega arith
    one_of (suc (suc j)) l = absurd (omega arith)
places_at z ws (WeakCell i) s h =
    let b = below_at z.weak_cells i (λ (j : ℕ). in_word s (slice_index ws (weak_cell_at z j))) h in
    omega arith
places_at z ws (WeakField x) s h =
    let b = below_at z.slots x.0 (weak_holding z ws s) h in omega arith
