-- What the plain state shows of a place.
use Rattle.std.proofs.Common.{◌≡◌, ◌≢◌, ℕ, zero, suc, ◌+◌, ◌-◌, ◌<◌, Bool, true, false, refl, ap, sym, ◌∙◌, subst, arith}
use Rattle.std.specs.Prelude.{slice_index, ◌==◌, if◌then◌else◌, Option, Some, None}
use Rattle.std.proofs.lemmas.Bool.Decides.{nat_tests}
use Rattle.core_events.specs.plain_state.declared.act.EventPlace.{EventPlace}
use Rattle.core_events.specs.plain_state.declared.act.EventPlace.TheVariants.{Cell, Field, WeakCell, WeakField}
use Rattle.core_events.specs.plain_state.declared.slot.SlotId.{SlotId}
use Rattle.core_events.specs.plain_state.declared.slot.PlainSlot.{PlainSlot}
use Rattle.core_events.specs.plain_state.Lists.{times}
use Rattle.core_events.specs.plain_state.Places.{content, field_of, HoldsStrongly as PlainHoldsStrongly, CanReadFields as PlainCanReadFields, CanDispose, IsOpen as PlainIsOpen, IsReadable as PlainIsReadable, IsDyingField as PlainIsDyingField}
use Rattle.core_events.specs.plain_state.Steps.{word_of}
use Rattle.core_events.specs.plain_state.State.{PlainSeat}
use Rattle.core_events.specs.declared.shape.Shape.{Shape}
use Rattle.core_events.specs.Words.{slot_in, place_at, cell_at, weak_cell_at, field_at}
use Rattle.core_events.specs.Views.{IsOpen, IsReadable, IsRipeField}
use Rattle.core_events.specs.Runs.{Core, view_at}
use Rattle.core_events.specs.Shows.{shows, show_slot}
use Rattle.core_law.specs.Sound.{Sound}
use Rattle.core_law.proofs.Put.{at_seat}
use Rattle.core_law.proofs.Writes.{IsPlace}
use Rattle.core_law.proofs.Bridge.{shown_seat, shown_slot}
use Rattle.core_law.proofs.Each.{length_each, get_each}
use Rattle.core_law.proofs.Covered.{undisposed}

pub word_slot : (w : ℕ) → word_of (slot_in w) ≡ w
word_slot w = go (w == 0) refl
  where
    go : (b : Bool) → (w == 0) ≡ b → word_of (if b then None else Some (record { 0 = w - 1 })) ≡ w
    go true is = grind (arith, nat_tests)
    go false is = let some' : w ≢ 0 = grind (arith, nat_tests) in omega arith

pub slot_word : (o : Option SlotId) → slot_in (word_of o) ≡ o
slot_word None = refl
slot_word (Some s) = go (s.0 + 1 == 0) refl
  where
    go : (b : Bool) → (s.0 + 1 == 0) ≡ b → (if b then None else Some (record { 0 = s.0 + 1 - 1 }))
        ≡ Some s
    go true is = absurd (grind (arith, nat_tests))
    go false is = let e : s.0 + 1 - 1 ≡ s.0 = omega arith in ap (λ (m : ℕ). Some (record { 0 = m }))
        e

pub shown_content : (z : Shape) (c : Core) (q : EventPlace) → IsPlace z q
    → content (shows z c) q ≡ slot_in (slice_index c.words (place_at z q))
shown_content z c (Cell i) h =
    let e : 0 + i ≡ i = omega arith in
    get_each 0 z.cells i (λ k. slot_in (slice_index c.words (cell_at z k))) None h
    ∙ ap (λ (k : ℕ). slot_in (slice_index c.words (cell_at z k))) e
shown_content z c (Field s i) h = ap (field_of i) (shown_slot z c s h.0) ∙ of i h.1
  where
    of : (k : ℕ) → k < 2 → field_of k (show_slot z c s)
        ≡ slot_in (slice_index c.words (field_at z s k))
    of zero l = refl
    of (suc zero) l = refl
    of (suc (suc k)) l = absurd (omega arith)
shown_content z c (WeakCell i) h =
    let e : 0 + i ≡ i = omega arith in
    get_each 0 z.weak_cells i (λ k. slot_in (slice_index c.words (weak_cell_at z k))) None h
    ∙ ap (λ (k : ℕ). slot_in (slice_index c.words (weak_cell_at z k))) e
shown_content z c (WeakField s) h = ap (λ (x : PlainSlot). x.weak_field) (shown_slot z c s h)

pub shown_word : (z : Shape) (c : Core) (q : EventPlace) → IsPlace z q
    → slice_index c.words (place_at z q) ≡ word_of (content (shows z c) q)
shown_word z c q h = sym (ap word_of (shown_content z c q h)
    ∙ word_slot (slice_index c.words (place_at z q)))

pub shown_open : (z : Shape) (c : Core) (n : ℕ) (q : EventPlace) → Sound z c → n < z.seats
    → IsOpen z (view_at c n) q
    → PlainIsOpen (shows z c) n q
shown_open z c n (Cell i) so hn h =
    let l = length_each 0 z.cells (λ k. slot_in (slice_index c.words (cell_at z k))) in omega arith
shown_open z c n (Field s i) so hn h = (
  h.0,
  subst (λ (y : PlainSeat). PlainHoldsStrongly y s)
      (sym (shown_seat z c n (at_seat z c n so hn))) h.1,
)
shown_open z c n (WeakCell i) so hn h =
    let l = length_each 0 z.weak_cells (λ k. slot_in (slice_index c.words (weak_cell_at z k))) in
    omega arith
shown_open z c n (WeakField s) so hn h =
    subst (λ (y : PlainSeat). PlainHoldsStrongly y s) (sym (shown_seat z c n (at_seat z c n so hn)))
    h

pub shown_readable : (z : Shape) (c : Core) (n : ℕ) (q : EventPlace) → Sound z c → n < z.seats
    → IsReadable z (view_at c n) q
    → PlainIsReadable (shows z c) n q
shown_readable z c n (Cell i) so hn h =
    let l = length_each 0 z.cells (λ k. slot_in (slice_index c.words (cell_at z k))) in omega arith
shown_readable z c n (Field s i) so hn h = (
  h.0,
  subst (λ (y : PlainSeat). PlainCanReadFields y s)
      (sym (shown_seat z c n (at_seat z c n so hn))) h.1,
)
shown_readable z c n (WeakCell i) so hn h =
    let l = length_each 0 z.weak_cells (λ k. slot_in (slice_index c.words (weak_cell_at z k))) in
    omega arith
shown_readable z c n (WeakField s) so hn h =
    subst (λ (y : PlainSeat). PlainCanReadFields y s) (sym (shown_seat z c n (at_seat z c n so hn)))
    h

-- a ripe slot waits to be destroyed, and is under no weak snapshot
can_dispose : (z : Shape) (c : Core) (n : ℕ) (s : SlotId) → Sound z c → n < z.seats
    → 0 < times s (view_at c n).ripe → CanDispose (shows z c) n s
can_dispose z c n s so hn ripe =
    let le = (so.seats n hn).ripe s in (
      subst (λ (y : PlainSeat). 0 < times s y.dying) (sym (shown_seat z c n (at_seat z c n so hn)))
          (omega arith),
      undisposed z c so n s hn ripe,
    )

pub shown_dying_field : (z : Shape) (c : Core) (n : ℕ) (q : EventPlace) → Sound z c → n < z.seats
    → IsRipeField (view_at c n) q
    → PlainIsDyingField (shows z c) n q
shown_dying_field z c n (Cell i) so hn h = absurd h
shown_dying_field z c n (Field s i) so hn h = (h.0, can_dispose z c n s so hn h.1)
shown_dying_field z c n (WeakCell i) so hn h = absurd h
shown_dying_field z c n (WeakField s) so hn h = can_dispose z c n s so hn h
