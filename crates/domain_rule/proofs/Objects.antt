-- What a plain step does to the object in a slot: only a fill and a make change it.
use Rattle.std.proofs.Common.{◌≡◌, ◌≢◌, ⊎_elim, ℕ, ◌+◌, ◌<◌, Bool, true, false, List, length, get_or, set, refl, ap, sym, ◌∙◌, subst, arith}
use Rattle.std.specs.Prelude.{◌==◌, if◌then◌else◌, Option, None}
use Rattle.std.proofs.lemmas.List.{get_or-set_same, get_or-set_other, set_past}
use Rattle.std.proofs.lemmas.Bool.{cases_lt}
use Rattle.std.proofs.lemmas.Bool.Decides.{nat_tests}
use Rattle.plain_protocol.specs.plain_state.declared.act.EventPlace.{EventPlace}
use Rattle.plain_protocol.specs.plain_state.declared.act.EventPlace.TheVariants.{Cell, Field, WeakCell, WeakField}
use Rattle.plain_protocol.specs.plain_state.declared.act.PlainAct.{PlainAct}
use Rattle.plain_protocol.specs.plain_state.declared.act.PlainAct.TheVariants as plain
use Rattle.plain_protocol.specs.plain_state.declared.slot.PlainSlot.{PlainSlot}
use Rattle.plain_protocol.specs.plain_state.declared.slot.SlotId.{SlotId}
use Rattle.plain_protocol.specs.plain_state.Lists.{is_slot}
use Rattle.plain_protocol.specs.plain_state.Places.{with_content, with_field}
use Rattle.plain_protocol.specs.plain_state.State.{Plain, new_slot, slot_at, with_slot}
use Rattle.plain_protocol.specs.plain_state.Steps.{Does, Replaces, Clears}
use Rattle.plain_protocol.proofs.Below.plain_state_Kit.{cases_slot}
use Rattle.plain_protocol.specs.Owns.{Object, object_of}
use Rattle.domain_rule.specs.Told.{changed_object}

-- the object in a slot
abbrev pub object_at : Plain → SlotId → Object
object_at p s = object_of (slot_at p s)

module _ (p : Plain) (s : SlotId) where
  -- a slot is written, and has its object still
  slot_keeps : (x : SlotId) (y : PlainSlot) → object_of y ≡ object_at p x
      → object_at (with_slot p x y) s ≡ object_at p s
  slot_keeps x y same = ⊎_elim
      (λ (below : x.0 < length p.slots). ⊎_elim
      (λ (here : s ≡ x). subst (λ (r : SlotId). object_at (with_slot p x y) r ≡ object_at p r)
      (sym here) (ap object_of (get_or-set_same p.slots x.0 y new_slot below) ∙ same))
      (λ (ne : s.0 ≢ x.0). ap object_of (get_or-set_other p.slots x.0 s.0 y new_slot ne))
      (cases_slot s x))
      (λ past. ap (λ (xs : List PlainSlot). object_of (get_or xs s.0 new_slot))
      (set_past p.slots x.0 y past))
      (cases_lt x.0 (length p.slots))

  -- a slot is written, and its object changes
  slot_changes : (f : Object → Object) (x : SlotId) (y : PlainSlot) → s.0 < length p.slots
      → object_of y ≡ f (object_at p x)
      → object_at (with_slot p x y) s
      ≡ (if is_slot x s then f (object_at p s) else object_at p s)
  slot_changes f x y there is = ⊎_elim
      (λ (here : s ≡ x).
      let e : s.0 ≡ x.0 = ap (λ (r : SlotId). r.0) here in
      let t : (s.0 == x.0) ≡ true = grind (arith, nat_tests) in
      rw t (subst (λ (r : SlotId). r.0 < length p.slots → object_at (with_slot p x y) r
      ≡ f (object_at p r)) (sym here)
      (λ below. ap object_of (get_or-set_same p.slots x.0 y new_slot below) ∙ is) there))
      (λ (ne : s.0 ≢ x.0).
      let t : (s.0 == x.0) ≡ false = grind (arith, nat_tests) in
      rw t (ap object_of (get_or-set_other p.slots x.0 s.0 y new_slot ne)))
      (cases_slot s x)

  -- a place is written
  content_keeps : (place : EventPlace) (new : Option SlotId)
      → object_at (with_content p place new) s ≡ object_at p s
  content_keeps (Cell i) new = refl
  content_keeps (Field x i) new = slot_keeps x (with_field i new (slot_at p x)) (go (i == 0))
    where
      go : (first : Bool)
          → object_of (if first then record (slot_at p x) { first = new }
          else record (slot_at p x) { second = new }) ≡ object_at p x
      go true = refl
      go false = refl
  content_keeps (WeakCell i) new = refl
  content_keeps (WeakField x) new =
      slot_keeps x (record (slot_at p x) { weak_field = new }) refl

module _ (p q : Plain) (n : ℕ) (s : SlotId) where
  -- q has the slots of p
  becomes : (r : Plain) → q ≡ r → object_at r s ≡ object_at p s → object_at q s ≡ object_at p s
  becomes r is same = ap (λ (x : Plain). object_at x s) is ∙ same

  replaces_keeps : (place : EventPlace) (new : Option SlotId) → Replaces p n place new q
      → object_at q s ≡ object_at p s
  replaces_keeps place new is = becomes _ is.2 (content_keeps _ s place new)

  clears_keeps : (place : EventPlace) → Clears p n place q → object_at q s ≡ object_at p s
  clears_keeps place is = becomes _ is (content_keeps _ s place None)

  -- what becomes of the object in a slot that is there
  pub object_changes : (step : PlainAct) (found : ℕ) → s.0 < length p.slots
      → Does p n step found q
      → object_at q s ≡ changed_object step s (object_at p s)
  object_changes (plain.Claim x) found there d = becomes _ d.1.4 (slot_keeps p s x _ refl)
  object_changes (plain.Fill x i word) found there d =
      ap (λ (r : Plain). object_at r s) d.1.4
      ∙ slot_changes p s (λ (o : Object). record o { payload = set o.payload i word }) x _ there
      refl
  object_changes (plain.Make x) found there d =
      ap (λ (r : Plain). object_at r s) d.1.3
      ∙ slot_changes p s (λ (o : Object). record o { life = o.life + 1 }) x _ there refl
  object_changes (plain.Add x) found there d =
      ⊎_elim (λ up. becomes _ up.2 refl) (λ refused. becomes _ refused.2 refl) d.1.1
  object_changes (plain.Drop x) found there d = becomes _ d.1.3 refl
  object_changes (plain.WeakGain x) found there d = becomes _ d.1.2 refl
  object_changes (plain.WeakDrop x) found there d = becomes _ d.1.3 refl
  object_changes (plain.Look place) found there d = becomes _ d.1.2 refl
  object_changes (plain.Check j place) found there d =
      ⊎_elim (λ same. becomes _ same refl) (λ taken. becomes _ taken.2.2 refl) d.1.2
  object_changes (plain.Alive j) found there d =
      ⊎_elim (λ none. becomes _ none.1 refl) (λ up. becomes _ up.2.2 refl) d.1.3
  object_changes (plain.EndSnapshot k x) found there d = becomes _ d.1.3 refl
  object_changes (plain.Replace place new) found there d = replaces_keeps place new d.1.2
  object_changes (plain.TryReplace place old new) found there d =
      ⊎_elim (λ done. replaces_keeps place new done.1) (λ lost. becomes _ lost.1 refl) d.1.2
  object_changes (plain.Count x) found there d = becomes _ d.1.2 refl
  object_changes (plain.Mark x) found there d =
      ⊎_elim
      (λ same. becomes _ same.0 refl)
      (λ zero. becomes _ zero.2 (slot_keeps p s x _ refl))
      d.1.1
  object_changes (plain.WeakCount x) found there d = becomes _ d.1.2 refl
  object_changes (plain.See x i) found there d = becomes _ d.1.3 refl
  object_changes (plain.Eject k x) found there d = becomes _ d.1.3 refl
  object_changes (plain.End x) found there d = becomes _ d.1.3 (slot_keeps p s x _ refl)
  object_changes (plain.Clear place) found there d = clears_keeps place d.1.2
  object_changes (plain.Destroy x) found there d = becomes _ d.1.3.2 (slot_keeps p s x _ refl)
  object_changes (plain.Give x) found there d = becomes _ d.1.3 (slot_keeps p s x _ refl)
  object_changes (plain.Leave j) found there d = becomes _ d.1.8 refl
  object_changes plain.Split found there d = becomes _ d.1.1.2 refl
  object_changes plain.Ticket found there d = becomes _ d.1.1 refl
  object_changes plain.Still found there d = becomes _ d.1.1 refl
