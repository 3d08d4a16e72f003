-- Lists that lose or gain an element.
use Rattle.std.proofs.Common.{◌≡◌, ◌≢◌, ℕ, zero, suc, ◌<◌, Bool, true, false, List, [], ◌∷◌, length, get_or, set, refl, ap, sym, ◌∙◌, arith}
use Rattle.std.specs.Prelude.{if◌then◌else◌}
use Rattle.std.proofs.lemmas.Bool.Decides.{nat_tests}
use Rattle.core_events.specs.plain_state.declared.slot.Kind.{Kind}
use Rattle.core_events.specs.plain_state.declared.slot.SlotId.{SlotId}
use Rattle.core_events.specs.plain_state.Lists.{Entry, times, is_slot, Loses, Gains}
use Rattle.core_events.specs.declared.view.Note.{Note}
use Rattle.core_events.specs.declared.view.Note.TheVariants as note
use Rattle.core_events.specs.Views.{valid_of, without}
use Rattle.core_law.proofs.Kit.{slot_eq, times_none, times_cons, one_other}

pub loses_without : (s : SlotId) (xs : List SlotId) → 0 < times s xs → Loses xs s (without s xs)
loses_without s [] h = let e = times_none s in absurd (omega arith)
loses_without s (x ∷ xs) h = go (is_slot s x) refl (loses_without s xs)
  where
    go : (b : Bool) → is_slot s x ≡ b → (0 < times s xs → Loses xs s (without s xs))
        → Loses (x ∷ xs) s (if b then xs else x ∷ without s xs)
    go true is more =
        let same : x.0 ≡ s.0 = grind (arith, nat_tests) in
        ([], xs, ap (λ (y : SlotId). y ∷ xs) (slot_eq x s same), refl)
    go false is more =
        let other : x.0 ≢ s.0 = grind (arith, nat_tests) in
        let none = one_other s x other in
        let c = times_cons s x xs in
        let r = more (omega arith) in
        (x ∷ r.0, r.1, ap (λ (ys : List SlotId). x ∷ ys) r.2, ap (λ (ys : List SlotId). x ∷ ys) r.3)

-- a note that isn't valid
abbrev pub IsNotValid : Note → Type 0
IsNotValid n = (k : Kind) (s : SlotId) → n ≡ note.Valid k s → ⊥

valid_skip : (n : Note) (ns : List Note) → IsNotValid n → valid_of (n ∷ ns) ≡ valid_of ns
valid_skip note.Idle ns off = refl
valid_skip (note.Announced k s) ns off = refl
valid_skip (note.Valid k s) ns off = absurd (off k s refl)

valid_first : (n : Note) (ns ms : List Note) → valid_of ns ≡ valid_of ms → valid_of (n ∷ ns)
    ≡ valid_of (n ∷ ms)
valid_first note.Idle ns ms e = e
valid_first (note.Announced k s) ns ms e = e
valid_first (note.Valid k s) ns ms e = ap (λ (es : List Entry). (k, s) ∷ es) e

-- a write that makes nothing valid where nothing was
pub valid_same : (ns : List Note) (j : ℕ) (y : Note) → j < length ns → IsNotValid y
    → IsNotValid (get_or ns j note.Idle)
    → valid_of (set ns j y) ≡ valid_of ns
valid_same [] j y h a b = absurd (omega arith)
valid_same (n ∷ ns) zero y h a b = valid_skip y ns a ∙ sym (valid_skip n ns b)
valid_same (n ∷ ns) (suc j) y h a b = valid_first n (set ns j y) ns
    (valid_same ns j y (omega arith) a b)

loses_first : (n : Note) (ns ms : List Note) (e : Entry) → Loses (valid_of ns) e (valid_of ms)
    → Loses (valid_of (n ∷ ns)) e (valid_of (n ∷ ms))
loses_first note.Idle ns ms e l = l
loses_first (note.Announced k s) ns ms e l = l
loses_first (note.Valid k s) ns ms e l = (
  (k, s) ∷ l.0,
  l.1,
  ap (λ (es : List Entry). (k, s) ∷ es)
      l.2,
  ap (λ (es : List Entry). (k, s) ∷ es) l.3,
)

-- a valid note that is released
pub valid_loses : (ns : List Note) (j : ℕ) (k : Kind) (s : SlotId) → j < length ns
    → get_or ns j note.Idle ≡ note.Valid k s
    → Loses (valid_of ns) (k, s) (valid_of (set ns j note.Idle))
valid_loses [] j k s h e = absurd (omega arith)
valid_loses (n ∷ ns) zero k s h e = ([], valid_of ns, ap (λ (m : Note). valid_of (m ∷ ns)) e, refl)
valid_loses (n ∷ ns) (suc j) k s h e = loses_first n ns (set ns j note.Idle) (k, s)
    (valid_loses ns j k s (omega arith) e)

-- a note that becomes valid
pub valid_gains : (ns : List Note) (j : ℕ) (k : Kind) (s : SlotId) → j < length ns
    → IsNotValid (get_or ns j note.Idle)
    → Gains (valid_of ns) (k, s) (valid_of (set ns j (note.Valid k s)))
valid_gains [] j k s h off = absurd (omega arith)
valid_gains (n ∷ ns) zero k s h off = ([], valid_of ns, refl, valid_skip n ns off)
valid_gains (n ∷ ns) (suc j) k s h off = loses_first n (set ns j (note.Valid k s)) ns (k, s)
    (valid_gains ns j k s (omega arith) off)
