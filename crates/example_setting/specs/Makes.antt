-- The steps of the deeds keep the law.
use Rattle.std.proofs.Common.{◌≡◌, ◌⊎◌, inl, inr, ⊎_elim, ℕ, suc, ◌<◌, Bool, true, false, List, [], ◌∷◌, ◌++◌, length, get_or, refl, sym, ap, subst, ◌∙◌, arith, Option, Some, None}
use Rattle.std.specs.Prelude.{Contains, slice_set, if◌then◌else◌}
use Rattle.std.proofs.lemmas.Bool.{cases_eq}
use Rattle.std.proofs.lemmas.List.{get_or-set_same, set-get_or}
use Rattle.std.proofs.lemmas.List.Elements.{Contains-append_left, Contains-append_cases, Contains-push, Contains-push_cases}
use Rattle.cdrc.specs.plain_state.declared.act.EventPlace.TheVariants.{Cell}
use Rattle.cdrc.specs.plain_state.declared.act.PlainAct.{PlainAct}
use Rattle.cdrc.specs.plain_state.declared.act.PlainAct.TheVariants as act
use Rattle.cdrc.specs.plain_state.declared.slot.SlotId.{SlotId}
use Rattle.cdrc.specs.plain_state.State.{Plain, new_slot, seat_at, slot_at}
use Rattle.cdrc.specs.plain_state.Steps.{Does, word_of}
use Rattle.cdrc.proofs.Below.plain_state_Kit.{times_lost}
use Rattle.cdrc.specs.plain_protocol.Acts.{IsCalm}
use Rattle.cdrc.specs.plain_protocol.Laws.{Meets, Keeps}
use Rattle.cdrc.specs.plain_protocol.Owns.{HasSlot, has_slot, object_of, own_part}
use Rattle.cdrc.proofs.Below.protocol_pairs_Held.{has_object, held_has}
use Rattle.cdrc.proofs.Below.protocol_pairs_Leaves.{calm_is_foreign, foreign_leaves}
use Rattle.cdrc.specs.protocol_pairs.Untouched.{IsUntouched}
use Rattle.example_setting.specs.Views.{View, no_view, view_at}
use Rattle.example_setting.specs.Setting.{WasStored, Holds, Setting, owns}
use Rattle.example_setting.specs.Deeds.{value_of, StoreReady, value_put, store_next, StoreTells, ReadReady, read_next, ReadTells}
use Rattle.example_setting.specs.Kept.{none_in, stored_more, untouched_keeps, view_else, view_here}

-- a seat's view grows, by values that it stored and by values that were stored
grown : (cell : ℕ) (p q : Plain) (views : List View) (n : ℕ) (w : View) → n < length views
    → Setting cell p views
    → ((value : List ℕ) → Contains (view_at views n).stored value → Contains w.stored value)
    → ((s : SlotId) → Holds q cell s
    → Contains w.stored (slot_at q s).payload ⊎ WasStored views (slot_at q s).payload)
    → ((value : List ℕ) → Contains w.read value
    → Contains (view_at views n).read value ⊎ WasStored views value)
    → Setting cell q (slice_set views n w)
grown cell p q views n w low law more held read =
    let still = stored_more views n w low more in
    let here = view_here views n w low in
    record {
      held = λ s holds. ⊎_elim
          (λ own. (n, subst (λ (z : View). Contains z.stored (slot_at q s).payload) (sym here) own))
          (λ was. still _ was)
          (held s holds);
      read = λ m value has. ⊎_elim
          (λ is. still value (⊎_elim (λ old. law.read n value old) (λ was. was)
          (read value (subst (λ (z : View). Contains z.read value)
          (ap (view_at (slice_set views n w)) is ∙ here) has))))
          (λ ne. still value (law.read m value
          (subst (λ (z : View). Contains z.read value) (view_else views n m w ne) has)))
          (cases_eq m n);
    }

-- what is put has the value that the seat knows
put_value : (p : Plain) (n : ℕ) (s : SlotId) → HasSlot (seat_at p n) s
    → value_of ((own_part p n).objects s) ≡ (slot_at p s).payload ∷ []
put_value p n s has = ap value_of (has_object p n s has)

module _ (cell : ℕ) (p q : Plain) (views : List View) (n found : ℕ)
    (meets : Meets (Setting cell) p views) (low : n < length views) where
  abbrev v : View
  v = view_at views n

  stores : (new : Option SlotId) → Does p n (act.Replace (Cell cell) new) found q
      → let w = store_next (own_part p n) (own_part q n) v (act.Replace (Cell cell) new) found in
      Setting cell q (slice_set views n w) × StoreTells cell p q n v w
  stores new does =
      let w = store_next (own_part p n) (own_part q n) v (act.Replace (Cell cell) new) found in
      let slots : q.slots ≡ p.slots = ap (λ (z : Plain). z.slots) does.1.2.2 in
      let now : get_or q.cells cell None ≡ new =
      ap (λ (z : Plain). get_or z.cells cell None) does.1.2.2
      ∙ get_or-set_same p.cells cell new None does.1.0 in
      let put : (s : SlotId) → Holds q cell s → w.stored ≡ v.stored ++ (slot_at q s).payload ∷ [] =
      λ s holds. put_is new does s (sym now ∙ holds)
      ∙ ap (λ l. v.stored ++ (get_or l s.0 new_slot).payload ∷ []) (sym slots) in (
        grown cell p q views n w low meets.law
            (λ value has. Contains-append_left v.stored _ value has)
            (λ s holds. inl (subst (λ l. Contains l (slot_at q s).payload) (sym (put s holds))
            (Contains-push v.stored (slot_at q s).payload)))
            (λ value has. inl has),
        put,
      )
    where
      put_is : (new : Option SlotId) → Does p n (act.Replace (Cell cell) new) found q → (s : SlotId)
          → new ≡ Some s
          → v.stored ++ value_put (own_part p n) (act.Replace (Cell cell) new)
          ≡ v.stored ++ (slot_at p s).payload ∷ []
      put_is None does s is = absurd cc
      put_is (Some x) does s is =
          let same : x ≡ s = cc in
          let gives = times_lost x (seat_at p n).owned does.1.2.1.0 does.1.2.1.1 in
          ap (λ l. v.stored ++ l) (put_value p n x (held_has p n x (omega arith)))
          ∙ ap (λ z. v.stored ++ (slot_at p z).payload ∷ []) same

  reads : (step : PlainAct) → IsCalm step → Does p n step found q
      → found ≡ word_of (get_or p.cells cell None)
      → let w = read_next (own_part p n) (own_part q n) v step found in
      Setting cell q (slice_set views n w) × ReadTells cell p q n v w
  reads step is does at = by_content (get_or p.cells cell None) refl found at
    where
      same : IsUntouched (owns cell) p q
      same = foreign_leaves (owns cell) p q n step found meets.lawful
          (calm_is_foreign (owns cell) p step is) does

      kept : Setting cell q views
      kept = untouched_keeps cell p q views meets.lawful meets.law same

      by_has : (s : SlotId) → Holds p cell s → (b : Bool) → has_slot (seat_at q n) s ≡ b
          → let more = value_of (if b then Some (object_of (slot_at q s)) else None) in
          let w : View = record v { read = v.read ++ more } in
          Setting cell q (slice_set views n w) × ReadTells cell p q n v w
      by_has s holds true has = (
        grown cell p q views n _ low meets.law (λ value old. old)
            (λ x now. inr (kept.held x now))
            (λ value all. ⊎_elim (λ old. inl old)
            (λ new. inr (subst (WasStored views) new (kept.held s (same.cells cell refl ∙ holds))))
            (Contains-push_cases v.read (slot_at q s).payload value all)),
        λ x now own. let is : s ≡ x = let e : Some s ≡ Some x = sym holds ∙ now in cc in
            ap (λ z. v.read ++ (slot_at q z).payload ∷ []) is,
      )
      by_has s holds false has = (
        grown cell p q views n _ low meets.law (λ value old. old)
            (λ x now. inr (kept.held x now))
            (λ value all. ⊎_elim (λ old. inl old) (λ none. absurd (none_in value none))
            (Contains-append_cases v.read [] value all)),
        λ x now own. let is : x ≡ s = let e : Some x ≡ Some s = sym now ∙ holds in cc in
            let e : false ≡ true = sym has ∙ (ap (has_slot (seat_at q n)) (sym is) ∙ own) in
            absurd cc,
      )

      by_content : (o : Option SlotId) → get_or p.cells cell None ≡ o → (word : ℕ)
          → word ≡ word_of o
          → let w = read_next (own_part p n) (own_part q n) v step word in
          Setting cell q (slice_set views n w) × ReadTells cell p q n v w
      by_content None is word e =
          subst (λ z. let w = read_next (own_part p n) (own_part q n) v step z in
          Setting cell q (slice_set views n w) × ReadTells cell p q n v w) (sym e) (
            subst (Setting cell q) (sym (set-get_or views n no_view)) kept,
            λ x now own. let none : None ≡ Some x = sym is ∙ now in absurd cc,
          )
      by_content (Some s) is word e =
          let next : word ≡ suc s.0 = omega arith in
          subst (λ z. let w = read_next (own_part p n) (own_part q n) v step z in
          Setting cell q (slice_set views n w) × ReadTells cell p q n v w) (sym next)
          (by_has s is (has_slot (seat_at q n) s) refl)

pub store_keeps : (cell : ℕ)
    → Keeps (Setting cell) no_view (StoreReady cell) store_next (StoreTells cell)
store_keeps cell p q views n step found meets low is does =
    subst (λ a. let v = view_at views n in
    let w = store_next (own_part p n) (own_part q n) v a found in
    Setting cell q (slice_set views n w) × StoreTells cell p q n v w) (sym is.1)
    (stores cell p q views n found meets low is.0 (subst (λ a. Does p n a found q) is.1 does))

pub read_keeps : (cell : ℕ)
    → Keeps (Setting cell) no_view (ReadReady cell) read_next (ReadTells cell)
read_keeps cell p q views n step found meets low is does = ⊎_elim
    (λ look. let d = subst (λ a. Does p n a found q) look does in
    reads cell p q views n found meets low step (subst IsCalm (sym look) tt) does d.1.1)
    (λ check. let d = subst (λ a. Does p n a found q) check.1 does in
    reads cell p q views n found meets low step (subst IsCalm (sym check.1) tt) does d.1.1)
    is
