-- What seat 0 has when it has taken over what another seat had: the slots, what is known of their objects, and the
-- fields that are known to be null.
use Rattle.std.proofs.Common.{◌≡◌, ◌≢◌, ◌⊎◌, inl, inr, ⊎_elim, ℕ, ◌+◌, ◌<◌, ◌≤◌, Bool, true, false, List, [], ◌∷◌, ◌++◌, length, get_or, refl, ap, sym, ◌∙◌, subst, arith}
use Rattle.std.specs.Prelude.{slice_index, if◌then◌else◌}
use Rattle.std.proofs.lemmas.List.{get_or_past}
use Rattle.std.proofs.lemmas.Bool.{cases_eq, eq-eqb, ne_eqb}
use Rattle.std.proofs.lemmas.Bool.Decides.{nat_tests}
use Rattle.plain_protocol.specs.plain_state.declared.act.EventPlace.{EventPlace}
use Rattle.plain_protocol.specs.plain_state.declared.act.EventPlace.TheVariants.{Cell, Field, WeakCell, WeakField}
use Rattle.plain_protocol.specs.plain_state.declared.slot.SlotId.{SlotId}
use Rattle.plain_protocol.specs.plain_state.Lists.{times}
use Rattle.plain_protocol.specs.plain_state.References.{held_in}
use Rattle.plain_protocol.specs.Owns.{HasSlot, Object, has_slot}
use Rattle.plain_protocol.proofs.Below.plain_state_Kit.{held_none}
use Rattle.core_law.proofs.Each.{get_each, length_each}
use Rattle.core_law.proofs.Kit.{times_append, times_none}
use Rattle.epoch_core.specs.declared.shape.EpochShape.{EpochShape}
use Rattle.epoch_core.specs.declared.view.EpochView.{EpochView}
use Rattle.epoch_core.specs.Runs.{Core, taken_over}
use Rattle.epoch_core.specs.Shows.{filled, show_seat}
use Rattle.epoch_core.specs.Steps.{CanLeave}
use Rattle.epoch_core.specs.Words.{field_at}
use Rattle.domain_rule.specs.declared.view.Known.{Known}
use Rattle.domain_rule.specs.Opening.{same_object, same_words}
use Rattle.domain_rule.specs.Views.{Stands, known_of, no_object}
use Rattle.epoch_rule.specs.declared.view.EpochSeatView.{EpochSeatView}
use Rattle.epoch_rule.specs.Opening.{merged_object, merged_objects}
use Rattle.epoch_rule.specs.Rule.{IsCleared}
use Rattle.epoch_rule.specs.Views.{object_in}
use Rattle.epoch_rule.proofs.Others.{held_counts}

-- THE SLOTS
module _ (root v : EpochView) (s : SlotId) where
  -- a slot that seat 0 has then was had by one of the two
  pub other_has : HasSlot (show_seat (taken_over root v)) s → has_slot (show_seat root) s ≡ false
      → HasSlot (show_seat v) s
  other_has has not_root =
      let o = times_append s root.owned v.owned in
      let d = times_append s root.dying v.dying in
      let b = held_counts s (taken_over root v) in
      let r = held_counts s root in
      let h = held_counts s v in grind (arith, nat_tests)

  -- and what either had it has then: what seat 0 had,
  pub root_has : HasSlot (show_seat root) s → HasSlot (show_seat (taken_over root v)) s
  root_has has =
      let o = times_append s root.owned v.owned in
      let d = times_append s root.dying v.dying in
      let b = held_counts s (taken_over root v) in
      let r = held_counts s root in grind (arith, nat_tests)

  -- and what the other had, which is in the middle of nothing and has seen nothing
  pub other_had : CanLeave v → v.seen ≡ [] → HasSlot (show_seat v) s
      → HasSlot (show_seat (taken_over root v)) s
  other_had can unseen has =
      let o = times_append s root.owned v.owned in
      let d = times_append s root.dying v.dying in
      let b = held_counts s (taken_over root v) in
      let h = held_counts s v in
      let n = ap (times s) unseen in
      let z = times_none s in
      let f = ap (λ x. held_in s (filled x)) can.0.0 ∙ held_none s in grind (arith, nat_tests)

-- THE OBJECTS
-- two payloads that are found to be one are one
words_one : (xs ys : List ℕ) → same_words xs ys ≡ true → xs ≡ ys
unfolding same_words
words_one [] [] e = refl
words_one [] (y ∷ ys) e = absurd (cc (e))
words_one (x ∷ xs) [] e = absurd (cc (e))
words_one (x ∷ xs) (y ∷ ys) e = ⊎_elim
    (λ (same : x ≡ y).
    let rest = words_one xs ys (subst (λ (b : Bool). (if b then same_words xs ys else false) ≡ true)
    (eq-eqb x y same) e) in λ i. same i ∷ rest i)
    (λ (apart : x ≢ y).
    let no : false ≡ true = subst (λ (b : Bool). (if b then same_words xs ys else false) ≡ true)
    (ne_eqb x y apart) e in absurd (cc (no)))
    (cases_eq x y)

-- of one object that two seats knew sixteen words are left only where they knew it alike
known_alike : (mine other : Object) → length (same_object mine other).payload ≡ 16 → mine ≡ other
known_alike mine other words = ⊎_elim
    (λ (same : mine.life ≡ other.life). words_left same (same_words mine.payload other.payload) refl)
    (λ (apart : mine.life ≢ other.life).
    let none : (same_object mine other).payload ≡ [] =
    rw (ne_eqb mine.life other.life apart) refl in absurd (none_left (ap length none) words))
    (cases_eq mine.life other.life)
  where
    none_left : {n : ℕ} → n ≡ 0 → n ≡ 16 → ⊥
    none_left e f = omega arith

    words_left : mine.life ≡ other.life → (b : Bool)
        → same_words mine.payload other.payload ≡ b → mine ≡ other
    words_left life true is =
        let payload = words_one mine.payload other.payload is in
        λ i. record { life = life i; payload = payload i }
    words_left life false is =
        let none : (same_object mine other).payload ≡ [] =
        rw (eq-eqb mine.life other.life life) (rw is refl) in
        absurd (none_left (ap length none) words)

module _ {V : Type 0} (root v : EpochSeatView V) (z : EpochShape) (same : root.core.shape ≡ z)
    (s : SlotId) where
  abbrev known : ℕ → Known
  known x = known_of (merged_object root v (record { 0 = x }))

  -- what seat 0 has of each slot's object then
  pub merged_at : s.0 < z.slots → get_or (merged_objects root v) s.0 no_object ≡ known s.0
  merged_at hs =
      let n = ap (λ (y : EpochShape). y.slots) same in
      let e : 0 + s.0 ≡ s.0 = omega arith in
      get_each 0 root.core.shape.slots s.0 known no_object (omega arith) ∙ ap known e

  -- seat 0 has 16 payload words of what both had only where both knew it alike
  pub alike : s.0 < z.slots → HasSlot (show_seat root.core) s → HasSlot (show_seat v.core) s
      → length (get_or (merged_objects root v) s.0 no_object).payload ≡ 16
      → object_in root s ≡ object_in v s
  alike hs mine others words =
      let both : known s.0 ≡ known_of (same_object (object_in root s) (object_in v s)) =
      rw mine (rw others refl) in
      known_alike (object_in root s) (object_in v s)
      (sym (ap (λ (o : Known). length o.payload) (merged_at hs ∙ both)) ∙ words)

  pub merged_past : z.slots ≤ s.0 → get_or (merged_objects root v) s.0 no_object ≡ no_object
  merged_past le =
      let n = ap (λ (y : EpochShape). y.slots) same in
      let l = length_each 0 root.core.shape.slots known in
      get_or_past (merged_objects root v) s.0 no_object (omega arith)

-- THE FIELDS
-- what stands in two lists together stands in one of them
pub stands_in : (ps qs : List EventPlace) (p : EventPlace) → Stands p (ps ++ qs)
    → Stands p ps ⊎ Stands p qs
stands_in [] qs p there = inr there
stands_in (x ∷ ps) qs p (inl first) = inl (inl first)
stands_in (x ∷ ps) qs p (inr rest) = ⊎_elim (λ l. inl (inr l)) inr (stands_in ps qs p rest)

-- a field that a view knows to be null is null for a view with a longer dying list, over the same words
pub cleared_moves : (z : EpochShape) (c d : Core) (v u : EpochView)
    → ((s : SlotId) → times s v.dying ≤ times s u.dying)
    → ((i : ℕ) → slice_index d.words i ≡ slice_index c.words i) → (p : EventPlace)
    → IsCleared z c v p → IsCleared z d u p
cleared_moves z c d v u grows same (Cell i) cl = absurd cl
cleared_moves z c d v u grows same (Field s i) cl =
    let g = grows s in let h = cl.1 in (cl.0, omega arith, same (field_at z s i) ∙ cl.2)
cleared_moves z c d v u grows same (WeakCell i) cl = absurd cl
cleared_moves z c d v u grows same (WeakField s) cl = absurd cl
