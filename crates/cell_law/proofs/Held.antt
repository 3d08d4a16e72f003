-- What refers to a head.
use Rattle.std.proofs.Common.{◌≡◌, ◌≢◌, ◌⊎◌, inl, inr, ⊎_elim, ℕ, suc, ◌+◌, ◌<◌, ◌≤◌, List, [], ◌∷◌, length, get_or, refl, ap, sym, ◌∙◌, arith}
use Rattle.std.specs.Prelude.{Option, Some, None}
use Rattle.std.proofs.lemmas.Bool.{cases_lt}
use Rattle.std.proofs.lemmas.List.{get_or_past}
use Rattle.std.proofs.lemmas.List.Sums.{sum_by-cons}
use Rattle.plain_protocol.specs.plain_state.declared.slot.PlainSlot.{PlainSlot}
use Rattle.plain_protocol.specs.plain_state.declared.slot.SlotId.{SlotId}
use Rattle.plain_protocol.specs.plain_state.declared.slot.Stage.{Stage}
use Rattle.plain_protocol.specs.plain_state.declared.slot.Stage.TheVariants.{Free, Blank, Live, Ended, Husk}
use Rattle.plain_protocol.specs.plain_state.Fits.{AllFit}
use Rattle.plain_protocol.specs.plain_state.Lawful.{Lawful, IsVacant}
use Rattle.plain_protocol.specs.plain_state.Lists.{cell_times}
use Rattle.plain_protocol.specs.plain_state.References.{held_in, over_slots, strong_fields}
use Rattle.plain_protocol.specs.plain_state.State.{Plain, new_slot, slot_at, stage_at}
use Rattle.plain_protocol.specs.Calm.{IsMade}
use Rattle.plain_protocol.proofs.Below.plain_state_Kit.{cases_slot, cells_append, cells_none, cells_push, held_is, held_none, held_once as held_at_most, held_other, none_or_some}
use Rattle.directory_law.specs.Bytes.{IsPiece}
use Rattle.directory_law.specs.Chains.{OwnSlot}
use Rattle.directory_law.specs.Payloads.{IsHead}
use Rattle.directory_law.specs.Cells.{Area}
use Rattle.directory_law.proofs.Bytes.{piece_own}
use Rattle.directory_law.proofs.Chains.{pointed_part}
use Rattle.directory_law.proofs.Kit.{none_some}
use Rattle.directory_law.proofs.Quiet.{cell_held}
use Rattle.cell_law.specs.Views.{View, makers}
use Rattle.cell_law.specs.Cells.{cell, no_cells, Stands}
use Rattle.cell_law.specs.Law.{CellLaw}
use Rattle.cell_law.specs.Promises.{HeldByCells}

-- an object or none
abbrev Has : PlainSlot → Type 0
Has x = ((x.stage ≡ Live) ⊎ (x.stage ≡ Ended)) ⊎ IsVacant x

pub has_or_not : (x : PlainSlot) → Has x
has_or_not x = go x.stage refl
  where
    go : (g : Stage) → x.stage ≡ g → Has x
    go Free is = inr (
      (λ e. let f : Free ≡ Live = sym is ∙ e in cc),
      (λ e. let f : Free ≡ Ended = sym is ∙ e in cc),
    )
    go Blank is = inr (
      (λ e. let f : Blank ≡ Live = sym is ∙ e in cc),
      (λ e. let f : Blank ≡ Ended = sym is ∙ e in cc),
    )
    go Live is = inl (inl is)
    go Ended is = inl (inr is)
    go Husk is = inr (
      (λ e. let f : Husk ≡ Live = sym is ∙ e in cc),
      (λ e. let f : Husk ≡ Ended = sym is ∙ e in cc),
    )

made_is : (g h : Stage) → g ≡ h → IsMade h → IsMade g
made_is g h e made = ((λ f. made.0 (sym e ∙ f)), (λ f. made.1 (sym e ∙ f)))

-- an object that is a head or a part
pub own_slot : (p : Plain) (t : SlotId) → AllFit IsPiece p
    → (stage_at p t ≡ Live) ⊎ (stage_at p t ≡ Ended) → OwnSlot p t
own_slot p t fit has = record {
  made = ⊎_elim
      (λ (e : stage_at p t ≡ Live).
      made_is (stage_at p t) Live e ((λ (f : Live ≡ Free). cc), (λ (f : Live ≡ Blank). cc)))
      (λ (e : stage_at p t ≡ Ended).
      made_is (stage_at p t) Ended e ((λ (f : Ended ≡ Free). cc), (λ (f : Ended ≡ Blank). cc)))
      has;
  own = piece_own (slot_at p t).payload (fit t has);
}

-- a place that holds another slot, or null
not_held : (s : SlotId) (place : Option SlotId) → place ≢ Some s → held_in s place ≡ 0
not_held s None not = held_none s
not_held s (Some x) not =
    ⊎_elim
    (λ (e : x ≡ s). absurd (not (ap Some e)))
    (λ (ne : x.0 ≢ s.0). held_other s x ne)
    (cases_slot x s)

null_not : (s : SlotId) (place : Option SlotId) → place ≡ None → place ≢ Some s
null_not s place null e = none_some s (sym null ∙ e)

slots_zero : (f : PlainSlot → ℕ) (xs : List PlainSlot)
    → ((i : ℕ) → i < length xs → f (get_or xs i new_slot) ≡ 0) → over_slots f xs ≡ 0
unfolding over_slots
slots_zero f [] none = refl
slots_zero f (x ∷ xs) none =
    let a = sum_by-cons f x xs in
    let b = none 0 (omega arith) in
    let c = slots_zero f xs (λ i h. none (suc i) (omega arith)) in omega arith

module _ (z : Area) (p : Plain) (views : List View) (lawful : Lawful p) (law : CellLaw z p views)
    (fit : AllFit IsPiece p) (s : SlotId) (head : IsHead (slot_at p s).payload) where
  -- no field of a slot holds a head
  unled : (t : SlotId) → strong_fields s (slot_at p t) ≡ 0
  unled t =
      ⊎_elim
      (λ has.
      let own = own_slot p t fit has in
      let shape = law.records.shape t own in
      let a = not_held s (slot_at p t).first (null_not s (slot_at p t).first shape.0) in
      let b = not_held s (slot_at p t).second (λ at.
      let part = pointed_part no_cells p (makers views) s law.records (t, own, at) in
      let h = head.1 in absurd (omega arith)) in omega arith)
      (λ vacant.
      let nulls = lawful.nulls t vacant in
      let a = not_held s (slot_at p t).first (null_not s (slot_at p t).first nulls.0) in
      let b = not_held s (slot_at p t).second (null_not s (slot_at p t).second nulls.1) in
      omega arith)
      (has_or_not (slot_at p t))

  no_fields : over_slots (strong_fields s) p.slots ≡ 0
  no_fields = slots_zero (strong_fields s) p.slots (λ i h. unled (record { 0 = i }))

pub held_by_cells : (z : Area) (p : Plain) (views : List View) → Lawful p → CellLaw z p views
    → AllFit IsPiece p → (s : SlotId) → stage_at p s ≡ Live → IsHead (slot_at p s).payload
    → HeldByCells p s
held_by_cells z p views lawful law fit s live head =
    let none = no_fields z p views lawful law fit s head in omega arith

-- CELLS. Those that hold a slot, where no two do
cells_cons : (s : SlotId) (x : Option SlotId) (xs : List (Option SlotId))
    → cell_times s (x ∷ xs) ≡ held_in s x + cell_times s xs
cells_cons s x xs =
    let a = cells_append s (x ∷ []) xs in
    let b = cells_push s x [] in
    let c = cells_none s in omega arith

cells_without : (s : SlotId) (xs : List (Option SlotId))
    → ((d : ℕ) → get_or xs d None ≢ Some s) → cell_times s xs ≡ 0
cells_without s [] none = cells_none s
cells_without s (x ∷ xs) none =
    let a = cells_cons s x xs in
    let b = not_held s x (none 0) in
    let c = cells_without s xs (λ d. none (suc d)) in omega arith

cells_few : (s : SlotId) (xs : List (Option SlotId))
    → ((c d : ℕ) → get_or xs c None ≡ Some s → get_or xs d None ≡ Some s → c ≡ d)
    → cell_times s xs ≤ 1
cells_few s [] one = let a = cells_none s in omega arith
cells_few s (x ∷ xs) one =
    let a = cells_cons s x xs in
    let b = held_at_most s x in
    let c = cells_few s xs (λ i j hi hj. let e = one (suc i) (suc j) hi hj in omega arith) in
    ⊎_elim
    (λ (none : held_in s x ≡ 0). omega arith)
    (λ (some : 0 < held_in s x).
    let rest = cells_without s xs (λ d at. let e = one 0 (suc d) (holds_it s x some) at in
    absurd (omega arith)) in omega arith)
    (none_or_some (held_in s x))
  where
    holds_it : (s : SlotId) (x : Option SlotId) → 0 < held_in s x → x ≡ Some s
    holds_it s None some = let a = held_none s in absurd (omega arith)
    holds_it s (Some y) some = ap Some (held_is s y some)

pub held_once : (z : Area) (p : Plain) (views : List View) → CellLaw z p views → z.first ≡ 0
    → length p.cells ≤ z.cells → (s : SlotId) → Stands z p s → cell_times s p.cells ≡ 1
held_once z p views law first all s stands =
    let in_range : (d : ℕ) → get_or p.cells d None ≡ Some s → d < z.cells =
    λ d is. ⊎_elim
    (λ (h : d < length p.cells). omega arith)
    (λ (past : length p.cells ≤ d). absurd (none_some s (sym (get_or_past p.cells d None past) ∙ is)))
    (cases_lt d (length p.cells)) in
    let at : (d : ℕ) → get_or p.cells d None ≡ Some s → cell z p d ≡ Some s =
    λ d is. ap (λ (k : ℕ). get_or p.cells k None) (let e : z.first + d ≡ d = omega arith in e) ∙ is in
    let few = cells_few s p.cells (λ c d hc hd.
    law.single c d s (in_range c hc) (in_range d hd) (at c hc) (at d hd)) in
    let some = cell_held p.cells (z.first + stands.0) s stands.2 in omega arith
