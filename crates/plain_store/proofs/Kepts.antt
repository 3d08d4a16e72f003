-- A store is kept by each step of its seat.
use Rattle.std.proofs.Common.{◌≡◌, ℕ, ◌+◌, ◌-◌, ◌^◌, ◌<◌, List, [], ◌∷◌, ◌++◌, length, refl, ap, sym, subst, arith, lit<}
use Rattle.std.proofs.lemmas.List.{length-set}
use Rattle.std.specs.Prelude.{slice_index, slice_set}
use Rattle.plain_state.specs.declared.act.PlainAct.TheVariants as act
use Rattle.plain_state.specs.declared.slot.SlotId.{SlotId}
use Rattle.plain_store.specs.declared.store.Store.{Store}
use Rattle.plain_state.specs.declared.act.PlainAct.{PlainAct}
use Rattle.plain_state.specs.declared.slot.Stage.TheVariants.{Free}
use Rattle.plain_state.specs.State.{Plain, seat_at, slot_at, stage_at}
use Rattle.plain_state.specs.Runs.{Runs}
use Rattle.plain_state.specs.Sound.{Sound}
use Rattle.plain_store.specs.Heaps.{Owns, made_slot, fills, Makes}
use Rattle.plain_state.specs.Steps.{Does}
use Rattle.plain_store.specs.Stores.{plain_of, Tallied, Kept}
use Rattle.plain_store.proofs.Stores.{owned_there, free_strong, free_weak, payload_words}
use Rattle.plain_store.proofs.Disposals.{same_disposals}
use Rattle.plain_store.proofs.Tallies.{tallied_drop, tallied_make}
use Rattle.plain_state.proofs.EveryStep.{step_sound}
use Rattle.plain_store.proofs.Making.{made, makes}

-- several steps keep what one step keeps
pub run_sound : (p q : Plain) (n : ℕ) (acts : List PlainAct) → Sound p → Runs p n acts q → Sound q
run_sound p q n [] so e = subst Sound (sym e) so
run_sound p q n (act ∷ acts) so (m, found, d, more) = run_sound m q n acts (step_sound p m n act found so d) more

pub makes_sound : (p q : Plain) (s : SlotId) (payload : List ℕ) → Sound p → Makes p s payload q → Sound q
makes_sound p q s payload so m = run_sound p q 0 (act.Claim s ∷ fills s 0 payload ++ act.Make s ∷ []) so m

-- what isn't a list of references stays
pub record IsSameRest (h h' : Store) : Type 0 where
  pub adds : h'.adds ≡ h.adds
  pub slots : length h'.slots.items ≡ length h.slots.items
  pub next : h'.next ≡ h.next

pub kept_drop : (h h' : Store) (x : SlotId) → Kept h → Owns (plain_of h) x → Does (plain_of h) 0 (act.Drop x) 0 (plain_of h')
    → IsSameRest h h' → h'.strong.items ≡ slice_set h.strong.items x.0 (slice_index h.strong.items x.0 - 1) → h'.weak.items ≡ h.weak.items → Kept h'
kept_drop h h' x k o d same e f = record {
  sound = step_sound (plain_of h) (plain_of h') 0 (act.Drop x) 0 k.sound d;
  disposals =
      let e = d.1.3 in
      same_disposals (plain_of h) (plain_of h') (ap (λ (r : Plain). (seat_at r 0).snapshots) e) (ap (λ (r : Plain). (seat_at r 0).deferred) e) k.disposals;
  tallied = rw (e, f) (tallied_drop (plain_of h) (plain_of h') 0 0 x h.strong.items h.weak.items k.tallied (owned_there h x k o) d);
  adds = omega (arith, same.adds, k.adds);
  slots = omega (arith, same.slots, k.slots);
  next = omega (arith, same.slots, same.next, k.next);
}

-- h' is h with an object of this payload in s
pub record IsMade (h h' : Store) (s : SlotId) (payload : List ℕ) : Type 0 where
  pub owned : h'.owned.items ≡ h.owned.items ++ s ∷ []
  pub weaks : h'.weaks.items ≡ h.weaks.items
  pub snapshots : h'.snapshots.items ≡ h.snapshots.items
  pub deferred : h'.deferred.items ≡ h.deferred.items
  pub dying : h'.dying.items ≡ h.dying.items
  pub adds : h'.adds ≡ h.adds + 1
  pub cells : h'.cells.items ≡ h.cells.items
  pub weak_cells : h'.weak_cells.items ≡ h.weak_cells.items
  pub slots : h'.slots.items ≡ slice_set h.slots.items s.0 (made_slot (slot_at (plain_of h) s) payload)
  pub strong : h'.strong.items ≡ slice_set h.strong.items s.0 1
  pub weak : h'.weak.items ≡ slice_set h.weak.items s.0 1
  pub next : h'.next ≡ s.0

pub made_is : (h h' : Store) (s : SlotId) (payload : List ℕ) → IsMade h h' s payload → plain_of h' ≡ made (plain_of h) s payload
made_is h h' s payload m =
    let a = m.owned in let b = m.weaks in let c = m.snapshots in let d = m.deferred in let e = m.dying in
    let f = m.adds in let g = m.cells in let i = m.weak_cells in let j = m.slots in
    cc

-- what a make asks
pub record MayMake (h : Store) (s : SlotId) (payload : List ℕ) : Type 0 where
  pub kept : Kept h
  pub there : s.0 < length h.slots.items
  pub free : stage_at (plain_of h) s ≡ Free
  pub words : length payload ≡ 16
  pub adds : h.adds + 2 < 2 ^ 63

pub made_makes : (h h' : Store) (s : SlotId) (payload : List ℕ) → MayMake h s payload → IsMade h h' s payload → Makes (plain_of h) s payload (plain_of h')
made_makes h h' s payload may m =
    subst (λ (q : Plain). Makes (plain_of h) s payload q) (sym (made_is h h' s payload m))
    (makes (plain_of h) s (lit< tt, refl) may.there payload may.free refl may.words (payload_words (plain_of h) s may.kept.sound may.there))

pub kept_make : (h h' : Store) (s : SlotId) (payload : List ℕ) → MayMake h s payload → IsMade h h' s payload → Kept h'
kept_make h h' s payload may m = record {
  sound = run_sound (plain_of h) (plain_of h') 0 (act.Claim s ∷ fills s 0 payload ++ act.Make s ∷ []) may.kept.sound (made_makes h h' s payload may m);
  disposals = same_disposals (plain_of h) (plain_of h') m.snapshots m.deferred may.kept.disposals;
  tallied = subst (λ (q : Plain). Tallied q h'.strong.items h'.weak.items) (sym (made_is h h' s payload m)) (
      rw (m.strong, m.weak) (tallied_make (plain_of h) s payload (lit< tt) may.there may.free h.strong.items h.weak.items may.kept.tallied
      (free_strong (plain_of h) s may.kept.sound may.free) (free_weak (plain_of h) s may.kept.sound may.free)));
  adds = omega (arith, m.adds, may.adds);
  slots = omega (arith, ap length m.slots, length-set h.slots.items s.0 (made_slot (slot_at (plain_of h) s) payload), may.kept.slots);
  next = omega (arith, ap length m.slots, length-set h.slots.items s.0 (made_slot (slot_at (plain_of h) s) payload), m.next, may.there);
}
