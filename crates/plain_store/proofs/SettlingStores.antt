-- A store is kept, and has its room, after each part of a settle.
use Rattle.std.proofs.Common.{◌≡◌, ◌≢◌, ◌⊎◌, inl, inr, ⊎_elim, ℕ, ◌+◌, ◌*◌, ◌<◌, ◌≤◌, List, length, get_or, refl, ap, ◌∙◌, arith, lit≤}
use Rattle.std.specs.Prelude.{slice_set}
use Rattle.std.proofs.lemmas.List.{length-set, get_or-set_same, get_or-set_other, get_or_past}
use Rattle.std.proofs.lemmas.Bool.{cases_eq}
use Rattle.std.proofs.lemmas.List.Sums.{sum_by-le}
use Rattle.plain_state.specs.declared.slot.SlotId.{SlotId}
use Rattle.plain_state.specs.declared.slot.PlainSlot.{PlainSlot}
use Rattle.plain_state.specs.declared.slot.Stage.{Stage}
use Rattle.plain_state.specs.declared.slot.Stage.TheVariants.{Free, Blank, Live, Ended, Husk}
use Rattle.plain_store.specs.declared.store.Store.{Store}
use Rattle.plain_state.specs.State.{Plain, PlainSeat, new_slot, seat_at, slot_at, stage_at}
use Rattle.plain_state.specs.References.{over_slots, strong_refs, weak_refs}
use Rattle.plain_store.specs.Stores.{plain_of, Tallied, Kept}
use Rattle.plain_store.specs.Draining.{SettlesFreely, Destroys, IsCalm, if_object, if_live, per_object, per_live, ended_of, freed_of}
use Rattle.plain_state.proofs.Kit.{slot_is, cases_slot, slots_set}
use Rattle.plain_state.proofs.SeatRows.{is_there}
use Rattle.plain_store.proofs.Disposals.{settles_disposals}
use Rattle.plain_store.proofs.Settlings.{settles_sound}
use Rattle.plain_store.proofs.SettlingSteps.{one, ends, gives}
use Rattle.plain_store.proofs.SettlingRefs.{tallied_same, calm_same, calm_other, ends_refs, gives_refs}

-- the one seat of a store
abbrev pub seat_of : Store → PlainSeat
seat_of h = seat_at (plain_of h) 0

-- what no part of a settle touches
pub record IsSameBook (h h' : Store) : Type 0 where
  pub adds : h'.adds ≡ h.adds
  pub slots : length h'.slots.items ≡ length h.slots.items
  pub next : h'.next ≡ h.next

pub kept_after : (h h' : Store) → Kept h → SettlesFreely (plain_of h) (plain_of h') → Tallied (plain_of h') h'.strong.items h'.weak.items
    → IsSameBook h h' → Kept h'
kept_after h h' k settles tallied same = record {
  sound = (let by = settles (λ words. 0) in settles_sound (λ words. 0) by.0 (plain_of h) (plain_of h') 0 k.sound by.1);
  disposals = (let by = settles (λ words. 0) in settles_disposals (λ words. 0) by.0 (plain_of h) (plain_of h') 0 k.disposals by.1);
  tallied = tallied;
  adds = omega (arith, same.adds, k.adds);
  slots = omega (arith, same.slots, k.slots);
  next = omega (arith, same.slots, same.next, k.next);
}

pub kept_destroyed : (h h' : Store) (words : List ℕ) → Kept h → Destroys (plain_of h) words (plain_of h') → Tallied (plain_of h') h'.strong.items h'.weak.items
    → IsSameBook h h' → Kept h'
kept_destroyed h h' words k destroys tallied same = record {
  sound = (let by = destroys (λ words. 0) in settles_sound (λ words. 0) by.0 (plain_of h) (plain_of h') 0 k.sound by.1);
  disposals = (let by = destroys (λ words. 0) in settles_disposals (λ words. 0) by.0 (plain_of h) (plain_of h') 0 k.disposals by.1);
  tallied = tallied;
  adds = omega (arith, same.adds, k.adds);
  slots = omega (arith, same.slots, k.slots);
  next = omega (arith, same.slots, same.next, k.next);
}

-- the plain state of h as a state of one seat
abbrev pub with : Store → PlainSeat → List PlainSlot → Plain
with h v xs = one v h.cells.items h.weak_cells.items xs

-- a live slot counts as one more that may yet end, and an object as three entries that may yet be deferred
pub live_room : (h : Store) (n : ℕ) (x : SlotId) (y : PlainSlot) → x.0 < length h.slots.items
    → over_slots (λ z. if_live n z.stage) (slice_set h.slots.items x.0 y) + if_live n (stage_at (plain_of h) x) ≡ per_live n (plain_of h) + if_live n y.stage
live_room h n x y at = slots_set (λ (z : PlainSlot). if_live n z.stage) h.slots.items x.0 y at

pub object_room : (h : Store) (n : ℕ) (x : SlotId) (y : PlainSlot) → x.0 < length h.slots.items
    → over_slots (λ z. if_object n z.stage) (slice_set h.slots.items x.0 y) + if_object n (stage_at (plain_of h) x) ≡ per_object n (plain_of h) + if_object n y.stage
object_room h n x y at = slots_set (λ (z : PlainSlot). if_object n z.stage) h.slots.items x.0 y at

-- an object ends
module _ (h : Store) (x : SlotId) (k : Kept h) (live : stage_at (plain_of h) x ≡ Live) (none : strong_refs (plain_of h) x ≡ 0) where
  pub live_there : x.0 < length h.slots.items
  live_there = is_there (plain_of h) x (λ f. cc)

  abbrev pub after_end : Plain
  after_end = ends (seat_of h) h.cells.items h.weak_cells.items refl h.slots.items x

  pub end_tallied : Tallied after_end h.strong.items h.weak.items
  end_tallied = tallied_same (plain_of h) after_end h.strong.items h.weak.items k.tallied (length-set h.slots.items x.0 (ended_of (slot_at (plain_of h) x)))
      (λ s. ends_refs (seat_of h) h.cells.items h.weak_cells.items h.slots.items refl x live_there s live)

  pub end_calm : (s : SlotId) → (s ≡ x) ⊎ IsCalm (plain_of h) s → IsCalm after_end s
  end_calm s either =
      let y = ended_of (slot_at (plain_of h) x) in
      ⊎_elim
      (λ (e : s ≡ x).
      let f : stage_at after_end s ≡ Ended = ap (λ (z : SlotId). stage_at after_end z) e ∙ ap (λ (z : PlainSlot). z.stage) (get_or-set_same h.slots.items x.0 y new_slot live_there) in
      calm_other after_end s (λ q. (cc)) (λ q. (cc)))
      (λ (ne : s.0 ≢ x.0).
      calm_same (plain_of h) after_end s (ap (λ (z : PlainSlot). z.stage) (get_or-set_other h.slots.items x.0 s.0 y new_slot ne))
      (ends_refs (seat_of h) h.cells.items h.weak_cells.items h.slots.items refl x live_there s live)
      (⊎_elim (λ e. absurd (ne (ap (λ (z : SlotId). z.0) e))) (λ c. c) either))
      (cases_slot s x)

-- a husk is given again
module _ (h : Store) (x : SlotId) (k : Kept h) (husk : stage_at (plain_of h) x ≡ Husk) (none : weak_refs (plain_of h) x ≡ 0) where
  pub husk_there : x.0 < length h.slots.items
  husk_there = is_there (plain_of h) x (λ f. cc)

  abbrev pub after_give : Plain
  after_give = gives (seat_of h) h.cells.items h.weak_cells.items refl h.slots.items x

  pub give_tallied : Tallied after_give h.strong.items h.weak.items
  give_tallied = tallied_same (plain_of h) after_give h.strong.items h.weak.items k.tallied (length-set h.slots.items x.0 (freed_of (slot_at (plain_of h) x)))
      (λ s. gives_refs (seat_of h) h.cells.items h.weak_cells.items h.slots.items refl x husk_there s husk)

  pub give_calm : (s : SlotId) → (s ≡ x) ⊎ IsCalm (plain_of h) s → IsCalm after_give s
  give_calm s either =
      let y = freed_of (slot_at (plain_of h) x) in
      ⊎_elim
      (λ (e : s ≡ x).
      let f : stage_at after_give s ≡ Free = ap (λ (z : SlotId). stage_at after_give z) e ∙ ap (λ (z : PlainSlot). z.stage) (get_or-set_same h.slots.items x.0 y new_slot husk_there) in
      calm_other after_give s (λ q. (cc)) (λ q. (cc)))
      (λ (ne : s.0 ≢ x.0).
      calm_same (plain_of h) after_give s (ap (λ (z : PlainSlot). z.stage) (get_or-set_other h.slots.items x.0 s.0 y new_slot ne))
      (gives_refs (seat_of h) h.cells.items h.weak_cells.items h.slots.items refl x husk_there s husk)
      (⊎_elim (λ e. absurd (ne (ap (λ (z : SlotId). z.0) e))) (λ c. c) either))
      (cases_slot s x)

-- a slot that isn't there is calm
pub past_calm : (p : Plain) (s : SlotId) → length p.slots ≤ s.0 → IsCalm p s
past_calm p s le =
    let f : stage_at p s ≡ Free = ap (λ (z : PlainSlot). z.stage) (get_or_past p.slots s.0 new_slot le) in
    calm_other p s (λ q. (cc)) (λ q. (cc))

-- slots 0 to i are calm, if those below i were and i is
pub calm_next : (p q : Plain) (i : ℕ) (s : SlotId) → ((t : SlotId) → t.0 < i → IsCalm p t)
    → ((t : SlotId) → (t ≡ record { 0 = i }) ⊎ IsCalm p t → IsCalm q t) → s.0 < i + 1 → IsCalm q s
calm_next p q i s below calm lt =
    ⊎_elim
    (λ (e : s.0 ≡ i). calm s (inl (slot_is s (record { 0 = i }) e)))
    (λ (ne : s.0 ≢ i). calm s (inr (below s (omega arith))))
    (cases_eq s.0 i)

-- how many slots are live, and objects, at most
live_once : (stage : Stage) → if_live 1 stage ≤ 1
live_once Free = lit≤ tt
live_once Blank = lit≤ tt
live_once Live = lit≤ tt
live_once Ended = lit≤ tt
live_once Husk = lit≤ tt

object_once : (n : ℕ) (stage : Stage) → if_object n stage ≤ n
object_once n Free = omega arith
object_once n Blank = omega arith
object_once n Live = omega arith
object_once n Ended = omega arith
object_once n Husk = omega arith

pub live_few : (p : Plain) → per_live 1 p ≤ length p.slots
unfolding over_slots
live_few p =
    let a = sum_by-le (λ (x : PlainSlot). if_live 1 x.stage) 1 p.slots (λ i d lt. live_once (get_or p.slots i d).stage) in omega arith

pub object_few : (n : ℕ) (p : Plain) → per_object n p ≤ length p.slots * n
unfolding over_slots
object_few n p = sum_by-le (λ (x : PlainSlot). if_object n x.stage) n p.slots (λ i d lt. object_once n (get_or p.slots i d).stage)
