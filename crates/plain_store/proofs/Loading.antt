-- What a place holds, loaded or under a snapshot.
use Rattle.std.proofs.Common.{◌≡◌, ℕ, ◌+◌, ◌<◌, List, [], ◌∷◌, ◌++◌, length, refl, ap, sym, subst, arith, lit<, inl, inr, false, Some, append-nil}
use Rattle.plain_state.specs.declared.act.EventPlace.{EventPlace}
use Rattle.plain_state.specs.declared.act.EventPlace.TheVariants.{Cell, Field, WeakCell, WeakField}
use Rattle.plain_state.specs.declared.act.PlainAct.TheVariants as act
use Rattle.plain_state.specs.declared.slot.Kind.{Kind}
use Rattle.plain_state.specs.declared.slot.Kind.TheVariants.{Strong, Weak, Disposal}
use Rattle.plain_state.specs.declared.slot.SlotId.{SlotId}
use Rattle.plain_store.specs.declared.store.Store.{Store}
use Rattle.plain_state.specs.Lists.{Loses, entry_times}
use Rattle.plain_state.specs.State.{Plain, PlainSeat, seat_at, slot_at}
use Rattle.plain_state.specs.Places.{IsOpen, IsReadable, Holds, place_kind, content}
use Rattle.plain_state.specs.References.{held_in, places}
use Rattle.plain_state.specs.Steps.{Does, word_of}
use Rattle.plain_state.specs.Runs.{Runs}
use Rattle.plain_state.specs.Sound.{Sound}
use Rattle.plain_store.specs.Calls.{gained, weakly_gained, snapped, Loads, WeaklyLoads}
use Rattle.plain_store.specs.Stores.{plain_of, Kept}
use Rattle.plain_state.proofs.Kit.{held_self, entry_in, entry_self, entry_push}
use Rattle.plain_state.proofs.Changes.{seat_change, place_part}
use Rattle.plain_state.proofs.EveryStep.{step_sound}
use Rattle.plain_store.proofs.Disposals.{end_disposals}
use Rattle.plain_store.proofs.Kepts.{run_sound}
use Rattle.plain_state.proofs.SeatRows.{is_there, held_there}
use Rattle.plain_store.proofs.Gains.{kept_by, tallied_same}
use Rattle.plain_store.proofs.Placing.{opened_there}

-- what is under a snapshot is held
entry_held : (k : Kind) (s : SlotId) (v : PlainSeat) → 0 < entry_times k s v.snapshots → Holds v s
entry_held Strong s v h = omega arith
entry_held Weak s v h = omega arith
entry_held Disposal s v h = omega arith

-- an open place may be read
pub open_readable : (p : Plain) (n : ℕ) (place : EventPlace) → IsOpen p n place → IsReadable p n place
open_readable p n (Cell i) opened = opened
open_readable p n (Field s i) opened = (opened.0, omega (arith, opened.1))
open_readable p n (WeakCell i) opened = opened
open_readable p n (WeakField s) opened = omega (arith, opened)

-- no place is held by a weak snapshot
no_snapshot : (place : EventPlace) (t s : SlotId) → entry_in Disposal t (place_kind place, s) ≡ 0
no_snapshot (Cell i) t s = refl
no_snapshot (Field x i) t s = refl
no_snapshot (WeakCell i) t s = refl
no_snapshot (WeakField x) t s = refl

last_lost : {A : Type 0} (xs : List A) (x : A) → Loses (xs ++ x ∷ []) x xs
last_lost xs x = (xs, [], refl, sym (append-nil xs))

module _ (h : Store) (place : EventPlace) (s : SlotId) (k : Kept h) (opened : IsOpen (plain_of h) 0 place) (holds : content (plain_of h) place ≡ Some s) where
  pub check_does : Does (plain_of h) 0 (act.Check 0 place) (s.0 + 1) (snapped (plain_of h) place s)
  check_does = (
    (lit< tt, refl),
    (open_readable (plain_of h) 0 place opened, sym (ap word_of holds), inr (s, holds, (_, last_lost h.snapshots.items (place_kind place, s), refl))),
  )

  pub snapped_sound : Sound (snapped (plain_of h) place s)
  snapped_sound = step_sound (plain_of h) (snapped (plain_of h) place s) 0 (act.Check 0 place) (s.0 + 1) k.sound check_does

  snapped_held : Holds (seat_at (snapped (plain_of h) place s) 0) s
  snapped_held =
      entry_held (place_kind place) s (seat_at (snapped (plain_of h) place s) 0)
      (omega (arith, entry_push (place_kind place) s (place_kind place, s) h.snapshots.items, entry_self (place_kind place) s))

  pub placed_unmarked : place_kind place ≡ Strong → (slot_at (plain_of h) s).marked ≡ false
  placed_unmarked strong =
      let part = place_part (plain_of h) place s (opened_there h place k opened) in
      let here : held_in s (content (plain_of h) place) ≡ held_in s (Some s) = ap (held_in s) holds in
      let same : places (place_kind place) (plain_of h) s ≡ places Strong (plain_of h) s = ap (λ (j : Kind). places j (plain_of h) s) strong in
      (k.sound.lawful.strong s (omega (arith, part, here, same, held_self s))).1

  pub load_runs : place_kind place ≡ Strong → Runs (plain_of h) 0 (act.Check 0 place ∷ act.Add s ∷ act.EndSnapshot (place_kind place) s ∷ []) (gained (plain_of h) s)
  load_runs strong = (
    snapped (plain_of h) place s,
    s.0 + 1,
    check_does,
    (
      gained (snapped (plain_of h) place s) s,
      0,
      ((lit< tt, refl), (snapped_held, inl (refl, placed_unmarked strong, refl))),
      (gained (plain_of h) s, 0, ((lit< tt, refl), (h.snapshots.items, last_lost h.snapshots.items (place_kind place, s), refl, refl)), refl),
    ),
  )

  pub load_weak_runs : Runs (plain_of h) 0 (act.Check 0 place ∷ act.WeakGain s ∷ act.EndSnapshot (place_kind place) s ∷ []) (weakly_gained (plain_of h) s)
  load_weak_runs = (
    snapped (plain_of h) place s,
    s.0 + 1,
    check_does,
    (
      weakly_gained (snapped (plain_of h) place s) s,
      0,
      ((lit< tt, refl), (snapped_held, refl, refl)),
      (weakly_gained (plain_of h) s, 0, ((lit< tt, refl), (h.snapshots.items, last_lost h.snapshots.items (place_kind place, s), refl, refl)), refl),
    ),
  )

  pub load_sound : place_kind place ≡ Strong → Sound (gained (plain_of h) s)
  load_sound strong = run_sound (plain_of h) (gained (plain_of h) s) 0 (act.Check 0 place ∷ act.Add s ∷ act.EndSnapshot (place_kind place) s ∷ []) k.sound (load_runs strong)

  pub load_weak_sound : Sound (weakly_gained (plain_of h) s)
  load_weak_sound = run_sound (plain_of h) (weakly_gained (plain_of h) s) 0 (act.Check 0 place ∷ act.WeakGain s ∷ act.EndSnapshot (place_kind place) s ∷ []) k.sound load_weak_runs

  -- the slot is there
  pub placed_there : s.0 < length h.slots.items
  placed_there = is_there (snapped (plain_of h) place s) s (held_there (snapped (plain_of h) place s) 0 s snapped_sound (lit< tt) snapped_held)

  -- the calls, by what they lead to
  pub loads_some : (q : Plain) (handle : SlotId) → place_kind place ≡ Strong → handle ≡ s → q ≡ gained (plain_of h) s → Loads (plain_of h) place (Some handle) q
  loads_some q handle strong e f =
      subst (λ (x : SlotId). Loads (plain_of h) place (Some x) q) (sym e)
      (holds, f, subst (Runs (plain_of h) 0 (act.Check 0 place ∷ act.Add s ∷ act.EndSnapshot (place_kind place) s ∷ [])) (sym f) (load_runs strong))

  pub weakly_loads_some : (q : Plain) (handle : SlotId) → handle ≡ s → q ≡ weakly_gained (plain_of h) s → WeaklyLoads (plain_of h) place (Some handle) q
  weakly_loads_some q handle e f =
      subst (λ (x : SlotId). WeaklyLoads (plain_of h) place (Some x) q) (sym e)
      (holds, f, subst (Runs (plain_of h) 0 (act.Check 0 place ∷ act.WeakGain s ∷ act.EndSnapshot (place_kind place) s ∷ [])) (sym f) load_weak_runs)

  -- a snapshot more leaves the sums
  pub kept_snapped : (h' : Store) → plain_of h' ≡ snapped (plain_of h) place s → h'.adds ≡ h.adds → h'.strong.items ≡ h.strong.items → h'.weak.items ≡ h.weak.items → h'.next ≡ h.next → Kept h'
  kept_snapped h' e adds f g next =
      let q = snapped (plain_of h) place s in
      let c = λ (t : SlotId). seat_change (plain_of h) 0 (seat_at q 0) t (lit< tt) in
      kept_by h h' q k e snapped_sound refl
      (rw (f, g) (tallied_same (plain_of h) q h.strong.items h.weak.items k.tallied refl (λ t. omega (arith, (c t).strong)) (λ t. omega (arith, (c t).weak))))
      (record {
        snapshots = λ t. (let more = entry_push Disposal t (place_kind place, s) h.snapshots.items in omega (arith, k.disposals.snapshots t, no_snapshot place t s));
        deferred = k.disposals.deferred;
      })
      (omega (arith, adds, k.adds)) next

-- the end of a snapshot leaves the sums too
pub kept_end : (h h' : Store) (s : SlotId) → Kept h → Does (plain_of h) 0 (act.EndSnapshot Strong s) 0 (plain_of h')
    → h'.adds ≡ h.adds → h'.strong.items ≡ h.strong.items → h'.weak.items ≡ h.weak.items → h'.next ≡ h.next → Kept h'
kept_end h h' s k d adds f g next =
    let p = plain_of h in
    let q : Plain = record p { seats = record (seat_at p 0) { snapshots = d.1.0 } ∷ [] } in
    let c = λ (t : SlotId). seat_change p 0 (seat_at q 0) t (lit< tt) in
    kept_by h h' q k d.1.3 (subst Sound d.1.3 (step_sound p (plain_of h') 0 (act.EndSnapshot Strong s) 0 k.sound d)) refl
    (rw (f, g) (tallied_same p q h.strong.items h.weak.items k.tallied refl (λ t. omega (arith, (c t).strong)) (λ t. omega (arith, (c t).weak))))
    (end_disposals p q 0 s k.disposals (subst (λ (r : Plain). Does p 0 (act.EndSnapshot Strong s) 0 r) d.1.3 d)) (omega (arith, adds, k.adds)) next
