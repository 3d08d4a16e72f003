-- What the law of a heap says of roots, of reached slots and of unreached ones.
use Rattle.std.proofs.Common.{◌≡◌, ℕ, ◌+◌, ◌<◌, ◌≤◌, ◌^◌, ◌⊎◌, List, [], ◌∷◌, length, get_or, Bool, false, cond, slice_index, sum_by, count_by, nat_lt, All, IsTrue, ◌↔◌, arith, ap, subst, sym, inl, inr, refl, suc}
use Rattle.std.proofs.lemmas.Bool.{cond-true, cond-false, cases_lt, lt-ltb, le-ltb, ne_eqb, and_right}
use Rattle.std.proofs.lemmas.List.{get_or_past}
use Rattle.std.proofs.lemmas.List.Sums.{sum_by-le, sum_by-cons, get_or-le-sum_by}
use Rattle.deleter.specs.plain_state.declared.slot.Kind.TheVariants.{Strong}
use Rattle.deleter.specs.plain_state.declared.slot.SlotId.{SlotId}
use Rattle.deleter.specs.plain_state.declared.image.SlotImage.{SlotImage}
use Rattle.deleter.specs.plain_state.declared.image.Heap.{Heap}
use Rattle.deleter.specs.plain_state.Images.{free_image}
use Rattle.deleter.specs.plain_state.Lists.{entry_times, is_entry, is_slot, same_kind}
use Rattle.heap_audit.specs.Heaps.{slot, IsLive, image_of, names, held, fields_holding, in_fields, in_cells, in_deferred, entries, strong_count, HasNullFields, ObeysAt, IsLawful, IsInRange, HasFieldsWithin}
use Rattle.heap_audit.specs.Paths.{Path}
use Rattle.heap_audit.specs.Reached.{HasField, IsRoot, IsReached, IsUnreached}
use Rattle.heap_audit.proofs.Going.{leads_on}
use Rattle.heap_audit.proofs.Holding.{held_named, held_not}

-- a test that fails everywhere counts nothing
counts_nothing : {X : Type 0} (p : X → Bool) (xs : List X) → All (λ x. p x ≡ false) xs → count_by p xs ≡ 0
counts_nothing p xs h =
    let none = sum_by-le (λ x. cond (p x) 1 0) 0 xs (λ k d l. omega (arith, cond-false {A = ℕ} (p (get_or xs k d)) 1 0 (h k d l))) in
    omega (arith, none)

-- a sum that isn't 0 has a term that isn't
some_term : {X : Type 0} (f : X → ℕ) (d : X) (xs : List X) → 0 < sum_by f xs → (k : ℕ) × (k < length xs) × (0 < f (get_or xs k d))
some_term f d [] h = absurd (omega (arith, h))
some_term f d (x ∷ xs) h =
    elim (cases_lt 0 (f x)) [
      | inl l ↦ (0, omega arith, l)
      | inr g ↦
          (let more = some_term f d xs (omega (arith, h, g, sum_by-cons f x xs)) in
          (suc more.0, omega (arith, more.1), more.2))
    ]

pub live_or_not : (heap : Heap) (s : SlotId) → s.0 < length heap.slots.items → IsLive heap s ⊎ (IsLive heap s → ⊥)
live_or_not heap s h = elim (cases_lt (image_of heap s).strong (2 ^ 63)) [ inl l ↦ inl (h, l) | inr g ↦ inr (λ live. omega (arith, live.1, g)) ]

module _ (heap : Heap) (s : SlotId) where
  count_of_other : 2 ^ 63 ≤ (image_of heap s).strong → strong_count heap s ≡ 0
  count_of_other g = cond-false _ _ 0 (le-ltb (image_of heap s).strong (2 ^ 63) g)

  -- a slot with a count is Live
  counted_live : 0 < strong_count heap s → IsLive heap s
  counted_live h =
      elim (cases_lt (image_of heap s).strong (2 ^ 63)) [
        | inl l ↦
            elim (cases_lt s.0 (length heap.slots.items)) [
              | inl within ↦ (within, l)
              | inr g ↦ absurd (let strong : (image_of heap s).strong ≡ 2 ^ 63 = ap (λ (x : SlotImage). x.strong) (get_or_past heap.slots.items s.0 free_image g) in omega (arith, l, strong))
            ]
        | inr g ↦ absurd (omega (arith, h, count_of_other g))
      ]

  -- a slot that fields of slots hold is there
  held_within : (n : ℕ) (x : SlotImage) → HasFieldsWithin n x → 0 < fields_holding s x → s.0 < n
  unfolding fields_holding
  held_within n x within h =
      elim (cases_lt 0 (held s (slice_index x.fields 0))) [
        | inl l ↦ omega (arith, held_named s (slice_index x.fields 0) l, within.first)
        | inr g ↦ omega (arith, held_named s (slice_index x.fields 1) (omega (arith, h, g)), within.second)
      ]

  pub field_within : (a : SlotId) → IsInRange heap → HasField heap a s → s.0 < length heap.slots.items
  field_within a range f = held_within (length heap.slots.items) (image_of heap a) (range.fields a.0 free_image f.0.0) f.1

  cell_within : IsInRange heap → 0 < in_cells heap s → s.0 < length heap.slots.items
  unfolding in_cells
  cell_within range h =
      elim (cases_lt s.0 (length heap.slots.items)) [
        | inl within ↦ within
        | inr g ↦ absurd (let none = counts_nothing (names s) heap.cells.items
            (λ k d l. ne_eqb (get_or heap.cells.items k d) (s.0 + 1) (λ e. omega (arith, e, range.cells k d l, g))) in omega (arith, h, none))
      ]

  entry_within : IsInRange heap → 0 < in_deferred heap s → s.0 < length heap.slots.items
  unfolding in_deferred entry_times
  entry_within range h =
      elim (cases_lt s.0 (length heap.slots.items)) [
        | inl within ↦ within
        | inr g ↦ absurd (let none = counts_nothing (is_entry Strong s) heap.deferred.items
            (λ k d l. and_right (same_kind Strong (get_or heap.deferred.items k d).0) (is_slot s (get_or heap.deferred.items k d).1)
            (ne_eqb (get_or heap.deferred.items k d).1.0 s.0 (λ e. omega (arith, e, range.deferred k d l, g)))) in omega (arith, h, none))
      ]

  pub root_within : IsInRange heap → IsRoot heap s → s.0 < length heap.slots.items
  root_within range root =
      elim root [
        | inl o ↦ (counted_live (omega (arith, o))).0
        | inr r ↦ elim r [ inl c ↦ cell_within range c | inr d ↦ entry_within range d ]
      ]

  -- a slot with an entry is Live
  entered_live : IsLawful heap → s.0 < length heap.slots.items → 0 < entries heap s → IsLive heap s
  entered_live law within h = elim (live_or_not heap s within) [ inl live ↦ live | inr dead ↦ absurd (omega (arith, h, (law s within).alone dead)) ]

  pub root_live : IsLawful heap → IsInRange heap → IsRoot heap s → IsLive heap s
  root_live law range root =
      let within = root_within range root in
      elim root [
        | inl o ↦ counted_live (omega (arith, o))
        | inr r ↦ entered_live law within (elim r [ inl c ↦ omega (arith, c) | inr d ↦ omega (arith, d) ])
      ]

  -- a field counts among the fields of all
  field_counts_once : (a : SlotId) → HasField heap a s → 0 < in_fields heap s
  unfolding in_fields
  field_counts_once a f = omega (arith, f.1, get_or-le-sum_by (fields_holding s) heap.slots.items a.0 free_image f.0.0)

  pub field_live : (a : SlotId) → IsLawful heap → IsInRange heap → HasField heap a s → IsLive heap s
  field_live a law range f = entered_live law (field_within a range f) (omega (arith, field_counts_once a f))

  -- a root is a slot with a greater count than its entries in fields
  pub root_exceeds : IsLawful heap → IsInRange heap → IsRoot heap s → in_fields heap s < strong_count heap s
  root_exceeds law range root =
      let covered = (law s (root_within range root)).covered (root_live law range root) in
      elim root [ inl o ↦ omega (arith, o) | inr r ↦ elim r [ inl c ↦ omega (arith, c, covered) | inr d ↦ omega (arith, d, covered) ] ]

  pub exceeds_root : in_fields heap s < strong_count heap s → IsRoot heap s
  exceeds_root h =
      elim (cases_lt 0 (in_cells heap s)) [
        | inl c ↦ inr (inl c)
        | inr cells ↦ elim (cases_lt 0 (in_deferred heap s)) [ inl d ↦ inr (inr d) | inr deferred ↦ inl (omega (arith, h, cells, deferred)) ]
      ]

  -- a slot with null fields holds none
  null_holds_none : (x : SlotImage) → HasNullFields x → fields_holding s x ≡ 0
  unfolding fields_holding
  null_holds_none x null =
      omega (arith, held_not s (slice_index x.fields 0) (λ e. omega (arith, e, null.first)), held_not s (slice_index x.fields 1) (λ e. omega (arith, e, null.second)))

  -- what a reached slot holds is reached
  pub reached_on : (a : SlotId) → IsReached heap a → HasField heap a s → IsReached heap s
  reached_on a reached f = (reached.0, reached.1, leads_on (HasField heap) reached.0 a s reached.2 f)

  -- an unreached slot is held by a field of another
  pub unreached_held : IsLawful heap → IsUnreached heap s → (a : SlotId) × IsUnreached heap a × HasField heap a s
  unfolding in_fields
  unreached_held law un =
      let not_root = λ (root : IsRoot heap s). un.1 (s, root, inl refl) in
      let counted = (law s un.0.0).counted un.0 in
      let fields : 0 < in_fields heap s = elim (cases_lt (in_fields heap s) (strong_count heap s)) [ inl l ↦ absurd (not_root (exceeds_root l)) | inr g ↦ omega (arith, g, counted) ] in
      let term = some_term (fields_holding s) free_image heap.slots.items fields in
      let a = slot term.0 in
      let live : IsLive heap a = elim (live_or_not heap a term.1) [ inl l ↦ l | inr dead ↦ absurd (omega (arith, term.2, null_holds_none (image_of heap a) ((law a term.1).bare dead))) ] in
      (a, (live, λ reached. un.1 (reached_on a reached (live, term.2))), (live, term.2))

-- what is reached is Live
path_live : (heap : Heap) → IsLawful heap → IsInRange heap → (x : SlotId) (ys : List SlotId) (z : SlotId) → Path (HasField heap) x ys z → IsLive heap z
path_live heap law range x [] z p = field_live heap z x law range p
path_live heap law range x (y ∷ ys) z p = path_live heap law range y ys z p.1

pub reached_live : (heap : Heap) (s : SlotId) → IsLawful heap → IsInRange heap → IsReached heap s → IsLive heap s
reached_live heap s law range reached =
    elim reached.2 [
      | inl e ↦ subst (IsLive heap) e (root_live heap reached.0 law range reached.1)
      | inr p ↦ path_live heap law range reached.0 p.0 s p.1
    ]

-- a slot that was looked at obeys the law
module _ (heap : Heap) (s : SlotId) (x : SlotImage) (cells fields deferred : ℕ) (read : x ≡ image_of heap s) where
  pub obeys_live : s.0 < length heap.slots.items → x.strong < 2 ^ 63 → 0 < x.strong
      → cells ≡ count_by (names s) heap.cells.items → fields ≡ in_fields heap s → deferred ≡ entry_times Strong s heap.deferred.items
      → cells + fields + deferred ≤ x.strong → ObeysAt heap s
  unfolding in_cells in_deferred
  obeys_live within below some c f d few =
      let strong = ap (λ (y : SlotImage). y.strong) read in
      let live : IsLive heap s = (within, omega (arith, below, strong)) in
      let count = cond-true (nat_lt (image_of heap s).strong (2 ^ 63)) (image_of heap s).strong 0 (lt-ltb (image_of heap s).strong (2 ^ 63) live.1) in
      record {
        counted = λ _. omega (arith, count, strong, some);
        covered = λ _. omega (arith, count, strong, few, c, f, d);
        bare = λ dead. absurd (dead live);
        alone = λ dead. absurd (dead live);
      }

  pub obeys_other : 2 ^ 63 ≤ x.strong → HasNullFields x
      → cells ≡ count_by (names s) heap.cells.items → fields ≡ in_fields heap s → deferred ≡ entry_times Strong s heap.deferred.items
      → cells + fields + deferred ≡ 0 → ObeysAt heap s
  unfolding in_cells in_deferred
  obeys_other above null c f d none =
      let strong = ap (λ (y : SlotImage). y.strong) read in
      let not_live : IsLive heap s → ⊥ = λ live. omega (arith, live.1, above, strong) in
      record {
        counted = λ live. absurd (not_live live);
        covered = λ live. absurd (not_live live);
        bare = λ _. subst HasNullFields read null;
        alone = λ _. omega (arith, none, c, f, d);
      }

  -- what was looked at decides whether it does
  pub live_decides : s.0 < length heap.slots.items → x.strong < 2 ^ 63
      → cells ≡ count_by (names s) heap.cells.items → fields ≡ in_fields heap s → deferred ≡ entry_times Strong s heap.deferred.items
      → (found : Bool) → IsTrue found ↔ ((1 ≤ x.strong) × (cells + fields + deferred ≤ x.strong))
      → IsTrue found ↔ ObeysAt heap s
  unfolding in_cells in_deferred
  live_decides within below c f d found covers =
      let strong = ap (λ (y : SlotImage). y.strong) read in
      let live : IsLive heap s = (within, omega (arith, below, strong)) in
      let count = cond-true (nat_lt (image_of heap s).strong (2 ^ 63)) (image_of heap s).strong 0 (lt-ltb (image_of heap s).strong (2 ^ 63) live.1) in (
        λ t. obeys_live within below (omega (arith, (covers.0 t).0)) c f d (covers.0 t).1,
        λ o. covers.1 (omega (arith, o.counted live, count, strong), omega (arith, o.covered live, count, strong, c, f, d)),
      )

  not_live : 2 ^ 63 ≤ x.strong → IsLive heap s → ⊥
  not_live above live = let strong = ap (λ (y : SlotImage). y.strong) read in omega (arith, live.1, above, strong)

  pub bare_decides : 2 ^ 63 ≤ x.strong
      → cells ≡ count_by (names s) heap.cells.items → fields ≡ in_fields heap s → deferred ≡ entry_times Strong s heap.deferred.items
      → cells + fields + deferred ≡ 0 → (found : Bool) → IsTrue found ↔ HasNullFields x
      → IsTrue found ↔ ObeysAt heap s
  bare_decides above c f d none found null = (
    λ t. obeys_other above (null.0 t) c f d none,
    λ o. null.1 (subst HasNullFields (sym read) (o.bare (not_live above))),
  )

  pub entered_obeys_not : 2 ^ 63 ≤ x.strong
      → cells ≡ count_by (names s) heap.cells.items → fields ≡ in_fields heap s → deferred ≡ entry_times Strong s heap.deferred.items
      → ObeysAt heap s → cells + fields + deferred ≡ 0
  unfolding in_cells in_deferred
  entered_obeys_not above c f d o = omega (arith, o.alone (not_live above), c, f, d)

-- the first fields and the second ones that hold a slot
pub both_fields : (s : SlotId) (xs : List SlotImage)
    → count_by (λ (x : SlotImage). names s (slice_index x.fields 0)) xs
    + count_by (λ (x : SlotImage). names s (slice_index x.fields 1)) xs ≡ sum_by (fields_holding s) xs
unfolding fields_holding held
both_fields s [] = refl
both_fields s (x ∷ xs) =
    let first = sum_by-cons (λ (y : SlotImage). cond (names s (slice_index y.fields 0)) 1 0) x xs in
    let second = sum_by-cons (λ (y : SlotImage). cond (names s (slice_index y.fields 1)) 1 0) x xs in
    let both = sum_by-cons (fields_holding s) x xs in let rest = both_fields s xs in
    omega (arith, first, second, both, rest)
