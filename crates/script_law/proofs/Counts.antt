-- Counts of references by the new names of slots.
use Rattle.std.proofs.Common.{◌≡◌, ◌≢◌, ⊎_elim, ◌+◌, List, [], ◌∷◌, ◌++◌, length, refl, ap, sym, ◌∙◌, arith, Option, Some, None}
use Rattle.std.specs.Prelude.{map, if◌then◌else◌}
use Rattle.std.proofs.lemmas.List.{length-append}
use Rattle.std.proofs.lemmas.List.Sums.{sum_by-cons}
use Rattle.script_desk.specs.plain_state.declared.slot.Kind.{Kind}
use Rattle.script_desk.specs.plain_state.declared.slot.SlotId.{SlotId}
use Rattle.script_desk.specs.plain_state.Lists.{Entry, Loses, cell_times, entry_times, holds, times}
use Rattle.script_desk.specs.plain_state.References.{held_in}
use Rattle.script_desk.proofs.Below.plain_state_Kit.{cases_slot, cells_none, entries_in, entry_cons, entry_in, entry_loses, entry_none, entry_self, held_none, held_other, held_same, of_kind, slot_is, times_loses, times_push}
use Rattle.script_law.specs.Renamings.{renamed}

pub cells_cons : (s : SlotId) (c : Option SlotId) (cs : List (Option SlotId))
    → cell_times s (c ∷ cs) ≡ held_in s c + cell_times s cs
unfolding cell_times held_in
cells_cons s c cs = sum_by-cons (λ (d : Option SlotId). if holds s d then 1 else 0) c cs

-- a list is one longer than what it is when it has lost something
loses_length : {A : Type 0} (xs ys : List A) (x : A) → Loses xs x ys → length xs ≡ length ys + 1
loses_length xs ys x (front, back, e, f) =
    let a = ap length e ∙ length-append front (x ∷ back) in
    let b = ap length f ∙ length-append front back in omega arith

module _ (to from : SlotId → SlotId) (back : (s : SlotId) → from (to s) ≡ s) (forth : (s : SlotId) → to (from s) ≡ s) where
  pub apart : (s t : SlotId) → s.0 ≢ t.0 → (to s).0 ≢ (to t).0
  apart s t ne e =
      ne (ap (λ (x : SlotId). x.0) (sym (back s) ∙ ap from (slot_is (to s) (to t) e) ∙ back t))

  pub held_renamed : (s : SlotId) (o : Option SlotId) → held_in (to s) (renamed to o) ≡ held_in s o
  held_renamed s None = held_none (to s) ∙ sym (held_none s)
  held_renamed s (Some x) =
      ⊎_elim
      (λ (e : x ≡ s).
      held_same (to s) (to x) (ap (λ (y : SlotId). (to y).0) e) ∙ sym (held_same s x (ap (λ (y : SlotId). y.0) e)))
      (λ (ne : x.0 ≢ s.0). held_other (to s) (to x) (apart x s ne) ∙ sym (held_other s x ne))
      (cases_slot x s)

  entry_renamed : (k j : Kind) (s x : SlotId) → entry_in k (to s) (j, to x) ≡ entry_in k s (j, x)
  entry_renamed k j s x = ap (of_kind k j) (held_renamed s (Some x))

  pub cells_renamed : (s : SlotId) (cs : List (Option SlotId))
      → cell_times (to s) (map (renamed to) cs) ≡ cell_times s cs
  cells_renamed s [] = cells_none (to s) ∙ sym (cells_none s)
  cells_renamed s (c ∷ cs) =
      let a = cells_cons (to s) (renamed to c) (map (renamed to) cs) in
      let b = cells_cons s c cs in
      let h = held_renamed s c in
      let more = cells_renamed s cs in omega arith

  -- lists of the same references, by the new names
  abbrev pub Slots : List SlotId → List SlotId → Type 0
  Slots xs ys = (s : SlotId) → times (to s) ys ≡ times s xs

  abbrev pub Entries : List Entry → List Entry → Type 0
  Entries es fs = (k : Kind) (s : SlotId) → entry_times k (to s) fs ≡ entry_times k s es

  pub slots_push : (xs ys : List SlotId) (x : SlotId) → Slots xs ys → Slots (xs ++ x ∷ []) (ys ++ to x ∷ [])
  slots_push xs ys x same s =
      let a = times_push (to s) (to x) ys in
      let b = times_push s x xs in
      let h = held_renamed s (Some x) in
      let e = same s in omega arith

  pub slots_lose : (xs ys vs ws : List SlotId) (x : SlotId) → Slots xs ys → Loses xs x vs → Loses ys (to x) ws
      → Slots vs ws
  slots_lose xs ys vs ws x same l m s =
      let a = times_loses s x xs vs l in
      let b = times_loses (to s) (to x) ys ws m in
      let h = held_renamed s (Some x) in
      let e = same s in omega arith

  pub entries_lose : (es fs gs hs : List Entry) (j : Kind) (x : SlotId) → Entries es fs → Loses es (j, x) gs
      → Loses fs (j, to x) hs → Entries gs hs
  entries_lose es fs gs hs j x same l m k s =
      let a = entry_loses k s (j, x) es gs l in
      let b = entry_loses k (to s) (j, to x) fs hs m in
      let h = entry_renamed k j s x in
      let e = same k s in omega arith

  pub entries_gain : (es fs gs hs : List Entry) (j : Kind) (x : SlotId) → Entries es fs → Loses gs (j, x) es
      → Loses hs (j, to x) fs → Entries gs hs
  entries_gain es fs gs hs j x same l m k s =
      let a = entry_loses k s (j, x) gs es l in
      let b = entry_loses k (to s) (j, to x) hs fs m in
      let h = entry_renamed k j s x in
      let e = same k s in omega arith

  -- so they are equally long
  pub entries_length : (es fs : List Entry) → Entries es fs → length fs ≡ length es
  entries_length [] [] same = refl
  entries_length [] ((k, x) ∷ fs) same =
      let e = same k (from x) in
      let n = entry_none k (from x) in
      let at : entry_times k (to (from x)) ((k, x) ∷ fs) ≡ entry_times k x ((k, x) ∷ fs)
      = ap (λ (s : SlotId). entry_times k s ((k, x) ∷ fs)) (forth x) in
      let c = entry_cons k x (k, x) fs in
      let o = entry_self k x in absurd (omega arith)
  entries_length ((k, x) ∷ es) fs same =
      let c = entry_cons k x (k, x) es in
      let o = entry_self k x in
      let e = same k x in
      let found = entries_in k (to x) fs (omega arith) in
      let rest = found.0 in
      let here : Loses ((k, x) ∷ es) (k, x) es = ([], es, refl, refl) in
      let more = entries_length es rest (entries_lose ((k, x) ∷ es) fs es rest k x same here found.1) in
      let l = loses_length fs rest (k, to x) found.1 in omega arith
