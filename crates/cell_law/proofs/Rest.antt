-- Where the state is settled, what lives is owned or stands behind what is: what isn't owned is led to by what lives and
-- reads one slot further, and so on; and the slots are finitely many.
use Rattle.std.specs.List.{AllByRecursion, IsDistinct, list_any}
use Rattle.std.proofs.Common.{◌≡◌, ◌≢◌, ◌⊎◌, ◌||◌, inl, inr, ⊎_elim, ℕ, zero, suc, ◌+◌, ◌<◌, ◌≤◌, Bool, true, false, eqb, List, [], ◌∷◌, length, get_or, refl, ap, sym, ◌∙◌, subst, arith}
use Rattle.std.specs.Prelude.{Option, Some, None}
use Rattle.std.proofs.lemmas.Bool.{cases_eq, ne_eqb}
use Rattle.std.proofs.lemmas.List.Sums.{sum_by-cons}
use Rattle.std.proofs.lemmas.Map.Keys.{IsDistinct-cons}
use Rattle.std.proofs.lemmas.Map.Steps.{length-le_from_distinct_below}
use Rattle.plain_protocol.specs.plain_state.declared.slot.PlainSlot.{PlainSlot}
use Rattle.plain_protocol.specs.plain_state.declared.slot.SlotId.{SlotId}
use Rattle.plain_protocol.specs.plain_state.declared.slot.Stage.TheVariants.{Free, Live}
use Rattle.plain_protocol.specs.plain_state.Lawful.{Lawful}
use Rattle.plain_protocol.specs.plain_state.References.{held_in, over_slots, strong_fields}
use Rattle.plain_protocol.specs.plain_state.State.{Plain, new_slot, slot_at, stage_at}
use Rattle.plain_protocol.proofs.Below.plain_state_Kit.{held_is, held_none, none_or_some}
use Rattle.directory_law.specs.Chains.{Along}
use Rattle.directory_law.specs.Payloads.{Text}
use Rattle.directory_law.specs.Views.{Each}
use Rattle.directory_law.specs.Cells.{Area}
use Rattle.directory_law.specs.Promises.{Reaches}
use Rattle.directory_law.proofs.Chains.{along_same, pointed_part}
use Rattle.directory_law.proofs.Notes.{each_map}
use Rattle.directory_law.proofs.Owns.{inside_if}
use Rattle.directory_law.specs.Steps.{id}
use Rattle.cell_law.specs.Views.{View, makers}
use Rattle.cell_law.specs.Cells.{no_cells}
use Rattle.cell_law.specs.Law.{CellLaw}
use Rattle.cell_law.specs.Promises.{IsOwnedBehind, IsSettled, owned_times}
use Rattle.cell_law.proofs.Held.{has_or_not, own_slot}

-- a sum that isn't 0 has a term that isn't
some_term : (f : PlainSlot → ℕ) (xs : List PlainSlot) → 0 < over_slots f xs
    → (i : ℕ) × (0 < f (get_or xs i new_slot))
unfolding over_slots
some_term f [] some = absurd (omega arith)
some_term f (x ∷ xs) some =
    let a = sum_by-cons f x xs in
    ⊎_elim
    (λ (none : f x ≡ 0). let o = some_term f xs (omega arith) in (suc o.0, o.1))
    (λ (here : 0 < f x). (0, here))
    (none_or_some (f x))

holds_it : (s : SlotId) (place : Option SlotId) → 0 < held_in s place → place ≡ Some s
holds_it s None some = let a = held_none s in absurd (omega arith)
holds_it s (Some x) some = ap Some (held_is s x some)

-- behind s there are d parts
abbrev Deep : Plain → SlotId → ℕ → Type 0
Deep p s d = (ts : Text) × Along p (slot_at p s).second ts × (length ts ≡ d)

-- a slot that has at most d parts behind it
abbrev IsLow : Plain → ℕ → ℕ → Type 0
IsLow p d i = (i < length p.slots) × ((k : ℕ) × Deep p (id i) k × (k ≤ d))

-- a slot with more parts behind it is none of them
not_low : (p : Plain) (t : SlotId) (d e : ℕ) (xs : List ℕ) → Deep p t e → d < e
    → Each (IsLow p d) xs → AllByRecursion (λ (y : ℕ). eqb t.0 y ≡ false) xs
not_low p t d e [] deep more low = tt
not_low p t d e (x ∷ xs) deep more low = (
  ne_eqb t.0 x (λ same.
      let k = low.0.1 in
      let there = subst (λ (i : ℕ). (ts : Text) × Along p (slot_at p (id i)).second ts
      × (length ts ≡ k.0)) (sym same) k.1 in
      let one = along_same p (slot_at p t).second deep.0 there.0 deep.1 there.1 in
      let a = ap length one in let b = deep.2 in let c = there.2 in let l = k.2 in omega arith),
  not_low p t d e xs deep more low.1,
)

low_below : (p : Plain) (d : ℕ) (xs : List ℕ) → Each (IsLow p d) xs → (q : ℕ)
    → list_any (eqb q) xs ≡ true → q < length p.slots
low_below p d [] low q is = absurd cc
low_below p d (x ∷ xs) low q is = ⊎_elim
    (λ (e : q ≡ x). let l = low.0.0 in omega arith)
    (λ ne. low_below p d xs low.1 q
    (sym (ap (λ (b : Bool). b || list_any (eqb q) xs) (ne_eqb q x ne)) ∙ is))
    (cases_eq q x)

none_distinct : IsDistinct eqb []
unfolding IsDistinct
none_distinct = tt

module _ (z : Area) (p : Plain) (views : List View) (lawful : Lawful p) (law : CellLaw z p views)
    (settled : IsSettled p) where
  -- what lives is owned, or led to by what lives
  led_by : (s : SlotId) → stage_at p s ≡ Live
      → (0 < owned_times p s)
      ⊎ ((t : SlotId) × (stage_at p t ≡ Live) × ((slot_at p t).second ≡ Some s))
  led_by s live =
      ⊎_elim
      (λ (none : owned_times p s ≡ 0).
      let a = settled.cells s in
      let c = settled.deferred s in
      let d = settled.held s live in
      let o = some_term (strong_fields s) p.slots (omega arith) in
      inr (field_lives s (id o.0) o.1))
      (λ (some : 0 < owned_times p s). inl some)
      (none_or_some (owned_times p s))
    where
      field_lives : (s t : SlotId) → 0 < strong_fields s (slot_at p t)
          → (t : SlotId) × (stage_at p t ≡ Live) × ((slot_at p t).second ≡ Some s)
      field_lives s t some =
          ⊎_elim
          (λ has.
          let own = own_slot p t settled.fit has in
          let first = (law.records.shape t own).0 in
          let none : held_in s (slot_at p t).first ≡ 0 = ap (held_in s) first ∙ held_none s in
          let second : 0 < held_in s (slot_at p t).second = omega arith in
          ⊎_elim
          (λ (is : stage_at p t ≡ Live). (t, is, holds_it s (slot_at p t).second second))
          (λ over. absurd (settled.ended t over))
          has)
          (λ vacant.
          let nulls = lawful.nulls t vacant in
          let x : held_in s (slot_at p t).first ≡ 0 = ap (held_in s) nulls.0 ∙ held_none s in
          let y : held_in s (slot_at p t).second ≡ 0 = ap (held_in s) nulls.1 ∙ held_none s in
          absurd (omega arith))
          (has_or_not (slot_at p t))

  inside : (s : SlotId) → stage_at p s ≡ Live → s.0 < length p.slots
  inside s live = inside_if p s (λ free. let e : Live ≡ Free = sym live ∙ free in cc)

  -- what stands behind s stands behind what leads to s
  further : (t s r : SlotId) → (slot_at p t).second ≡ Some s
      → (s ≡ r) ⊎ ((n : ℕ) × Reaches p s r n) → (t ≡ r) ⊎ ((n : ℕ) × Reaches p t r n)
  further t s r at behind =
      ⊎_elim
      (λ (e : s ≡ r). inr (0, at ∙ ap Some e))
      (λ more. inr (suc more.0, (s, at, more.1)))
      behind

  climb : (fuel : ℕ) (r s : SlotId) (d : ℕ) (xs : List ℕ) → stage_at p s ≡ Live → Deep p s d
      → Each (IsLow p d) xs → IsDistinct eqb xs → length p.slots < fuel + length xs
      → (s ≡ r) ⊎ ((n : ℕ) × Reaches p s r n) → IsOwnedBehind p r
  climb zero r s d xs live deep low distinct enough behind =
      let few = length-le_from_distinct_below xs (length p.slots) distinct (low_below p d xs low) in
      absurd (omega arith)
  climb (suc fuel) r s d xs live deep low distinct enough behind =
      ⊎_elim
      (λ (some : 0 < owned_times p s).
      record { head = s; live = live; owned = some; behind = behind })
      (λ t.
      let part = pointed_part no_cells p (makers views) s law.records
      (t.0, own_slot p t.0 settled.fit (inl t.1), t.2) in
      let up : Deep p t.0 (d + 1) = (
        (slot_at p s).payload ∷ deep.0,
        (s, t.2, refl, part, deep.1),
        (let e = deep.2 in omega arith),
      ) in
      let more : Each (IsLow p (d + 1)) xs =
      each_map (IsLow p d) (IsLow p (d + 1))
      (λ i h. (h.0, (h.1.0, h.1.1, (let l = h.1.2 in omega arith)))) xs low in
      climb fuel r t.0 (d + 1) (t.0.0 ∷ xs) t.1 up
      ((inside t.0 t.1, (d + 1, up, (omega arith))), more)
      (IsDistinct-cons eqb t.0.0 xs (not_low p t.0 d (d + 1) xs up (omega arith) low) distinct)
      (omega arith) (further t.0 s r t.2 behind))
      (led_by s live)

  pub lives_owned : (s : SlotId) → stage_at p s ≡ Live → IsOwnedBehind p s
  lives_owned s live =
      let shape = (law.records.shape s (own_slot p s settled.fit (inl live))).1 in
      let deep : Deep p s (length shape.0) = (shape.0, shape.1, refl) in
      climb (length p.slots) s s (length shape.0) (s.0 ∷ []) live deep
      ((inside s live, (length shape.0, deep, (omega arith))), tt)
      (IsDistinct-cons eqb s.0 [] tt none_distinct) (omega arith) (inl refl)

pub nothing_lives : (z : Area) (p : Plain) (views : List View) → Lawful p → CellLaw z p views
    → IsSettled p → ((s : SlotId) → owned_times p s ≡ 0) → (s : SlotId) → stage_at p s ≢ Live
nothing_lives z p views lawful law settled none s live =
    let o = lives_owned z p views lawful law settled s live in
    let a = o.owned in let b = none o.head in omega arith
