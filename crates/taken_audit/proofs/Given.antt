-- What a place or a deferred entry of a sound state names isn't free, so it stands in the list.
use Rattle.std.proofs.Common.{◌≡◌, ◌≢◌, ℕ, zero, suc, ◌+◌, ◌<◌, ◌≤◌, List, [], ◌∷◌, length, get_or, map, refl, ap, ◌∙◌, sym, arith, inl, inr, Option, Some, None}
use Rattle.plain_audit.specs.plain_state.declared.act.EventPlace.{EventPlace}
use Rattle.plain_audit.specs.plain_state.declared.act.EventPlace.TheVariants.{Cell, Field, WeakCell, WeakField}
use Rattle.plain_audit.specs.plain_state.declared.slot.Kind.{Kind}
use Rattle.plain_audit.specs.plain_state.declared.slot.Kind.TheVariants.{Strong, Weak, Disposal}
use Rattle.plain_audit.specs.plain_state.declared.slot.SlotId.{SlotId}
use Rattle.plain_audit.specs.plain_state.declared.slot.Stage.TheVariants.{Free}
use Rattle.plain_audit.specs.plain_state.Lists.{Entry, entry_times}
use Rattle.plain_audit.specs.plain_state.State.{Plain, seat_at, slot_at, stage_at}
use Rattle.plain_audit.specs.plain_state.Places.{content, place_kind}
use Rattle.plain_audit.specs.plain_state.References.{deferrals, held_in, places}
use Rattle.plain_audit.specs.plain_state.Sound.{Sound}
use Rattle.plain_audit.specs.plain_state.Steps.{word_of}
use Rattle.heap_audit.proofs.Below.plain_state_Changes.{IsThere, place_part, seat_part}
use Rattle.heap_audit.proofs.Below.plain_state_Kit.{entry_cons, entry_self, held_self}
use Rattle.heap_audit.proofs.Below.plain_state_SeatRows.{is_there}
use Rattle.plain_audit.specs.plain_store.Heaps.{NoDisposals}
use Rattle.plain_audit.proofs.Numbers.{seat_alone}
use Rattle.taken_audit.specs.Parts.{IsNamed, Stands}
use Rattle.acquire_retire.specs.Taken.{taken_slots}
use Rattle.taken_audit.proofs.Listed.{not_free, stands}
use Rattle.taken_audit.proofs.Named.{Every}

pub every : {A : Type 0} (P : A → Type 0) (d : A) (xs : List A)
    → ((i : ℕ) → i < length xs → P (get_or xs i d)) → Every P xs
every P d [] each = tt
every P d (x ∷ xs) each =
    (each zero (omega arith), every P d xs (λ i lt. each (suc i) (omega (arith, lt))))

entry_stands : (es : List Entry) (i : ℕ) (d : Entry) → i < length es
    → 0 < entry_times (get_or es i d).0 (get_or es i d).1 es
entry_stands [] i d lt = absurd (omega arith)
entry_stands (e ∷ es) zero d lt = omega (arith, entry_cons e.0 e.1 e es, entry_self e.0 e.1)
entry_stands (e ∷ es) (suc i) d lt =
    let f = get_or es i d in
    omega (arith, entry_cons f.0 f.1 e es, entry_stands es i d (omega (arith, lt)))

module _ (p : Plain) where
  pub stands_here : (s : SlotId) → stage_at p s ≢ Free → Stands (taken_slots p) s
  stands_here s other =
      stands p (length p.slots) s (is_there p s other) (not_free (stage_at p s) other)

  module _ (so : Sound p) (alone : length p.seats ≡ 1) (none : NoDisposals p) where
    seat : 0 < length p.seats
    seat = omega (arith, alone)

    given : (k : Kind) (s : SlotId) → 0 < places k p s + deferrals k p s → stage_at p s ≢ Free
    given Strong s h =
        let live = (so.lawful.strong s (omega (arith, h))).0 in λ free. cc
    given Weak s h = so.lawful.weak s (omega (arith, h))
    given Disposal s h = absurd (omega (
      arith,
      h,
      seat_alone (λ v. entry_times Disposal s v.deferred) p alone,
      none.deferred s,
    ))

    pub place_named : (place : EventPlace) (held : Option SlotId) → IsThere p place
        → content p place ≡ held → IsNamed (taken_slots p) (word_of held)
    place_named place None there e = inl refl
    place_named place (Some s) there e =
        let one : held_in s (content p place) ≡ 1 = ap (held_in s) e ∙ held_self s in
        let is = given (place_kind place) s (omega (arith, one, place_part p place s there)) in
        inr (s, stands_here s is, refl)

    words_named : (cells : List (Option SlotId)) → ((i : ℕ) → i < length cells
        → IsNamed (taken_slots p) (word_of (get_or cells i None)))
        → Every (IsNamed (taken_slots p)) (map word_of cells)
    words_named [] each = tt
    words_named (c ∷ cs) each =
        (each zero (omega arith), words_named cs (λ i lt. each (suc i) (omega (arith, lt))))

    pub cells_named : Every (IsNamed (taken_slots p)) (map word_of p.cells)
    cells_named = words_named p.cells
        (λ i lt. place_named (Cell i) (get_or p.cells i None) lt refl)

    pub weak_cells_named : Every (IsNamed (taken_slots p)) (map word_of p.weak_cells)
    weak_cells_named = words_named p.weak_cells
        (λ i lt. place_named (WeakCell i) (get_or p.weak_cells i None) lt refl)

    pub entries_stand : Every (λ (e : Entry). Stands (taken_slots p) e.1) (seat_at p 0).deferred
    entries_stand =
        every (λ (e : Entry). Stands (taken_slots p) e.1) (Strong, record { 0 = 0 })
        (seat_at p 0).deferred (λ i lt. stands_here _ (entry_given i lt))
      where
        by_kind : (k : Kind) (s : SlotId) → 0 < entry_times k s (seat_at p 0).deferred
            → stage_at p s ≢ Free
        by_kind Strong s h = given Strong s (omega (arith, h, seat_part p 0 s seat))
        by_kind Disposal s h = absurd (omega (arith, h, none.deferred s))
        by_kind Weak s h = given Weak s (omega (arith, h, seat_part p 0 s seat))

        entry_given : (i : ℕ) → i < length (seat_at p 0).deferred
            → stage_at p (get_or (seat_at p 0).deferred i (Strong, record { 0 = 0 })).1 ≢ Free
        entry_given i lt =
            let e = get_or (seat_at p 0).deferred i (Strong, record { 0 = 0 }) in
            by_kind e.0 e.1
            (entry_stands (seat_at p 0).deferred i (Strong, record { 0 = 0 }) lt)
