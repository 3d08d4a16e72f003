-- A store whose seat gains a reference, or gives a weak one up.
use Rattle.std.proofs.Common.{◌≡◌, ℕ, ◌+◌, ◌-◌, ◌^◌, ◌<◌, List, [], ◌∷◌, false, length, ap, sym, ◌∙◌, subst, arith, lit<, refl, Some, inl, ⊎_elim}
use Rattle.std.specs.Prelude.{slice_index, slice_set}
use Rattle.std.proofs.lemmas.List.{length-set}
use Rattle.std.proofs.lemmas.List.Sums.{sum_by-cons}
use Rattle.plain_state.specs.declared.slot.SlotId.{SlotId}
use Rattle.plain_store.specs.declared.store.Store.{Store}
use Rattle.plain_state.specs.State.{Plain, PlainSeat, seat_at, slot_at}
use Rattle.plain_state.specs.References.{held_in, over_seats, snapshot_times, strong_refs, weak_refs}
use Rattle.plain_state.specs.Sound.{Sound, all_adds}
use Rattle.plain_state.specs.declared.act.PlainAct.TheVariants as act
use Rattle.plain_state.specs.declared.slot.Kind.TheVariants.{Strong}
use Rattle.plain_state.specs.Places.{Holds, HoldsStrongly}
use Rattle.plain_state.specs.Steps.{Does}
use Rattle.plain_state.specs.Fits.{AllFit}
use Rattle.plain_store.specs.Heaps.{OwnsWeakly, IsHeap, NoDisposals}
use Rattle.plain_store.specs.Stores.{plain_of, Tallied, Kept}
use Rattle.plain_store.specs.Calls.{gained, weakly_gained, spent}
use Rattle.plain_state.proofs.Kit.{times_push, times_loses, none_by, none_or_some}
use Rattle.plain_state.proofs.Changes.{seat_change, seat_part}
use Rattle.plain_state.proofs.EveryStep.{step_sound}
use Rattle.plain_store.proofs.Stores.{held_slot}
use Rattle.plain_state.proofs.SeatRows.{add_refused_sound, add_sound, weak_gain_sound}
use Rattle.plain_store.proofs.Disposals.{same_disposals}
use Rattle.plain_store.proofs.Tallies.{one_less, one_more}

-- the adds of all seats are those of the one
pub one_seat : (h : Store) → all_adds (plain_of h) ≡ h.adds
unfolding over_seats
one_seat h = omega (arith, sum_by-cons (λ (v : PlainSeat). v.adds) (seat_at (plain_of h) 0) [])

-- a count has room for one more
pub strong_room : (h : Store) (s : SlotId) → Kept h → s.0 < length h.slots.items → h.adds + 2 < 2 ^ 63 → slice_index h.strong.items s.0 + 1 < 2 ^ 64
strong_room h s k at lt = omega (arith, one_seat h, k.sound.strong_few s, k.tallied.strong s at)

pub weak_room : (h : Store) (s : SlotId) → Kept h → s.0 < length h.slots.items → h.adds + 2 < 2 ^ 63 → slice_index h.weak.items s.0 + 1 < 2 ^ 64
weak_room h s k at lt = omega (arith, one_seat h, k.sound.weak_few s, k.tallied.weak s at)

-- the sums stay, or one of them grows or falls by a reference to x
module _ (p q : Plain) (ss ws : List ℕ) (t : Tallied p ss ws) (size : length q.slots ≡ length p.slots) where
  pub tallied_same : ((s : SlotId) → strong_refs q s ≡ strong_refs p s) → ((s : SlotId) → weak_refs q s ≡ weak_refs p s) → Tallied q ss ws
  tallied_same e f = record {
    strong_size = t.strong_size ∙ sym size;
    weak_size = t.weak_size ∙ sym size;
    strong = λ s at. t.strong s (omega (arith, size)) ∙ sym (e s);
    weak = λ s at. t.weak s (omega (arith, size)) ∙ sym (f s);
  }

  module _ (x : SlotId) (at : x.0 < length p.slots) where
    pub tallied_more : ((s : SlotId) → strong_refs q s ≡ strong_refs p s + held_in s (Some x)) → ((s : SlotId) → weak_refs q s ≡ weak_refs p s)
        → Tallied q (slice_set ss x.0 (slice_index ss x.0 + 1)) ws
    tallied_more e f = record {
      strong_size = length-set ss x.0 (slice_index ss x.0 + 1) ∙ t.strong_size ∙ sym size;
      weak_size = t.weak_size ∙ sym size;
      strong = λ s lt. one_more ss (strong_refs p) (strong_refs q) x (omega (arith, t.strong_size)) (λ y h. t.strong y (omega (arith, t.strong_size))) e s
          (omega (arith, size, t.strong_size, length-set ss x.0 (slice_index ss x.0 + 1)));
      weak = λ s lt. t.weak s (omega (arith, size)) ∙ sym (f s);
    }

    pub tallied_weak_more : ((s : SlotId) → strong_refs q s ≡ strong_refs p s) → ((s : SlotId) → weak_refs q s ≡ weak_refs p s + held_in s (Some x))
        → Tallied q ss (slice_set ws x.0 (slice_index ws x.0 + 1))
    tallied_weak_more e f = record {
      strong_size = t.strong_size ∙ sym size;
      weak_size = length-set ws x.0 (slice_index ws x.0 + 1) ∙ t.weak_size ∙ sym size;
      strong = λ s lt. t.strong s (omega (arith, size)) ∙ sym (e s);
      weak = λ s lt. one_more ws (weak_refs p) (weak_refs q) x (omega (arith, t.weak_size)) (λ y h. t.weak y (omega (arith, t.weak_size))) f s
          (omega (arith, size, t.weak_size, length-set ws x.0 (slice_index ws x.0 + 1)));
    }

    pub tallied_weak_less : ((s : SlotId) → strong_refs q s ≡ strong_refs p s) → ((s : SlotId) → weak_refs q s + held_in s (Some x) ≡ weak_refs p s)
        → Tallied q ss (slice_set ws x.0 (slice_index ws x.0 - 1))
    tallied_weak_less e f = record {
      strong_size = t.strong_size ∙ sym size;
      weak_size = length-set ws x.0 (slice_index ws x.0 - 1) ∙ t.weak_size ∙ sym size;
      strong = λ s lt. t.strong s (omega (arith, size)) ∙ sym (e s);
      weak = λ s lt. one_less ws (weak_refs p) (weak_refs q) x (omega (arith, t.weak_size)) (λ y h. t.weak y (omega (arith, t.weak_size))) f s
          (omega (arith, size, t.weak_size, length-set ws x.0 (slice_index ws x.0 - 1)));
    }

-- a store in a state that is sound, with its sums, and with room for adds
pub kept_by : (h h' : Store) (q : Plain) → Kept h → plain_of h' ≡ q → Sound q → length q.slots ≡ length h.slots.items → Tallied q h'.strong.items h'.weak.items
    → NoDisposals q → h'.adds + 1 < 2 ^ 63 → h'.next ≡ h.next → Kept h'
kept_by h h' q k e so size t none adds next =
    let size' : length h'.slots.items ≡ length h.slots.items = ap (λ (r : Plain). length r.slots) e ∙ size in
    record {
      sound = subst Sound (sym e) so;
      disposals = subst NoDisposals (sym e) none;
      tallied = subst (λ (r : Plain). Tallied r h'.strong.items h'.weak.items) (sym e) t;
      adds = adds;
      slots = omega (arith, size', k.slots);
      next = omega (arith, size', next, k.next);
    }

pub kept_own : (h h' : Store) (x : SlotId) → Kept h → x.0 < length h.slots.items → Sound (gained (plain_of h) x) → plain_of h' ≡ gained (plain_of h) x → h.adds + 2 < 2 ^ 63
    → h'.strong.items ≡ slice_set h.strong.items x.0 (slice_index h.strong.items x.0 + 1) → h'.weak.items ≡ h.weak.items → h'.next ≡ h.next → Kept h'
kept_own h h' x k at so e adds f g next =
    let p = plain_of h in
    let adds' : h'.adds ≡ h.adds + 1 = ap (λ (r : Plain). (seat_at r 0).adds) e in
    let c = λ (s : SlotId). seat_change p 0 (seat_at (gained p x) 0) s (lit< tt) in
    let u = λ (s : SlotId). times_push s x h.owned.items in
    kept_by h h' (gained p x) k e so refl
    (rw (f, g) (tallied_more p (gained p x) h.strong.items h.weak.items k.tallied refl x at
    (λ s. omega (arith, (c s).strong, u s)) (λ s. omega (arith, (c s).weak))))
    (same_disposals p _ refl refl k.disposals) (omega (arith, adds')) next

pub kept_own_weakly : (h h' : Store) (x : SlotId) → Kept h → x.0 < length h.slots.items → Sound (weakly_gained (plain_of h) x) → plain_of h' ≡ weakly_gained (plain_of h) x → h.adds + 2 < 2 ^ 63
    → h'.strong.items ≡ h.strong.items → h'.weak.items ≡ slice_set h.weak.items x.0 (slice_index h.weak.items x.0 + 1) → h'.next ≡ h.next → Kept h'
kept_own_weakly h h' x k at so e adds f g next =
    let p = plain_of h in
    let adds' : h'.adds ≡ h.adds + 1 = ap (λ (r : Plain). (seat_at r 0).adds) e in
    let c = λ (s : SlotId). seat_change p 0 (seat_at (weakly_gained p x) 0) s (lit< tt) in
    let u = λ (s : SlotId). times_push s x h.weaks.items in
    kept_by h h' (weakly_gained p x) k e so refl
    (rw (f, g) (tallied_weak_more p (weakly_gained p x) h.strong.items h.weak.items k.tallied refl x at
    (λ s. omega (arith, (c s).strong)) (λ s. omega (arith, (c s).weak, u s))))
    (same_disposals p _ refl refl k.disposals) (omega (arith, adds')) next

pub kept_spend : (h h' : Store) → Kept h → plain_of h' ≡ spent (plain_of h) → h.adds + 2 < 2 ^ 63 → h'.strong.items ≡ h.strong.items → h'.weak.items ≡ h.weak.items → h'.next ≡ h.next → Kept h'
kept_spend h h' k e adds f g next =
    let p = plain_of h in
    let adds' : h'.adds ≡ h.adds + 1 = ap (λ (r : Plain). (seat_at r 0).adds) e in
    let c = λ (s : SlotId). seat_change p 0 (seat_at (spent p) 0) s (lit< tt) in
    kept_by h h' (spent p) k e (add_refused_sound p 0 k.sound (lit< tt)) refl
    (rw (f, g) (tallied_same p (spent p) h.strong.items h.weak.items k.tallied refl
    (λ s. omega (arith, (c s).strong)) (λ s. omega (arith, (c s).weak))))
    (same_disposals p _ refl refl k.disposals) (omega (arith, adds')) next

-- what the seat holds strongly is alive
module _ (h : Store) (s : SlotId) (k : Kept h) (held : HoldsStrongly (seat_at (plain_of h) 0) s) where
  pub held_strong : 0 < strong_refs (plain_of h) s
  held_strong =
      let part = seat_part (plain_of h) 0 s (lit< tt) in
      let covered = k.sound.lawful.covered Strong s in
      ⊎_elim
      (λ (z : strong_refs (plain_of h) s ≡ 0).
      let none : snapshot_times Strong (plain_of h) s ≡ 0 = none_by (snapshot_times Strong (plain_of h) s) (λ some. let c = covered some in omega arith) in
      absurd (omega arith))
      (λ some. some)
      (none_or_some (strong_refs (plain_of h) s))

  pub strong_unmarked : (slot_at (plain_of h) s).marked ≡ false
  strong_unmarked = (k.sound.lawful.strong s held_strong).1

  pub strong_held : Holds (seat_at (plain_of h) 0) s
  strong_held = omega arith

  pub strong_there : s.0 < length h.slots.items
  strong_there = held_slot h s k strong_held

  pub gain_does : (q : Plain) → q ≡ gained (plain_of h) s → Does (plain_of h) 0 (act.Add s) 0 q
  gain_does q e = ((lit< tt, refl), (strong_held, inl (refl, strong_unmarked, e)))

-- an object without zero mark gains
pub unmarked_sound : (h : Store) (s : SlotId) → Kept h → (slot_at (plain_of h) s).marked ≡ false → Sound (gained (plain_of h) s)
unmarked_sound h s k e = add_sound (plain_of h) 0 s k.sound (lit< tt) e

pub weakly_sound : (h : Store) (s : SlotId) → Kept h → Holds (seat_at (plain_of h) 0) s → Sound (weakly_gained (plain_of h) s)
weakly_sound h s k held = weak_gain_sound (plain_of h) 0 s k.sound (lit< tt) held

pub weak_owned_held : (h : Store) (s : SlotId) → OwnsWeakly (plain_of h) s → Holds (seat_at (plain_of h) 0) s
weak_owned_held h s o = omega arith

pub weak_owned_there : (h : Store) (s : SlotId) → Kept h → OwnsWeakly (plain_of h) s → s.0 < length h.slots.items
weak_owned_there h s k o = held_slot h s k (weak_owned_held h s o)

pub weak_owned_counted : (h : Store) (s : SlotId) → Kept h → OwnsWeakly (plain_of h) s → 0 < slice_index h.weak.items s.0
weak_owned_counted h s k o = omega (arith, seat_part (plain_of h) 0 s (lit< tt), k.tallied.weak s (weak_owned_there h s k o))

pub kept_weak_drop : (h h' : Store) (x : SlotId) → Kept h → OwnsWeakly (plain_of h) x → Does (plain_of h) 0 (act.WeakDrop x) 0 (plain_of h')
    → h'.adds ≡ h.adds → h'.strong.items ≡ h.strong.items → h'.weak.items ≡ slice_set h.weak.items x.0 (slice_index h.weak.items x.0 - 1) → h'.next ≡ h.next → Kept h'
kept_weak_drop h h' x k o d adds f g next =
    let p = plain_of h in
    let xs = d.1.0 in
    let q : Plain = record p { seats = record (seat_at p 0) { weaks = xs } ∷ [] } in
    let c = λ (s : SlotId). seat_change p 0 (seat_at q 0) s (lit< tt) in
    let u = λ (s : SlotId). times_loses s x h.weaks.items xs d.1.1 in
    kept_by h h' q k d.1.3 (subst Sound d.1.3 (step_sound p (plain_of h') 0 (act.WeakDrop x) 0 k.sound d)) refl
    (rw (f, g) (tallied_weak_less p q h.strong.items h.weak.items k.tallied refl x (weak_owned_there h x k o)
    (λ s. omega (arith, (c s).strong)) (λ s. omega (arith, (c s).weak, u s))))
    (same_disposals p q refl refl k.disposals) (omega (arith, adds, k.adds)) next

-- a store that is kept stands for a heap
pub kept_heap : (fits : List ℕ → Type 0) (h : Store) → Kept h → AllFit fits (plain_of h) → IsHeap fits (plain_of h)
kept_heap fits h k all = record {
  sound = k.sound;
  seats = refl;
  slots = k.slots;
  adds = omega (arith, one_seat h, k.adds);
  payloads = all;
  tickets = refl;
  filling = refl;
  disposals = k.disposals;
}
