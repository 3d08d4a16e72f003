-- By which a seat can ask, and what it is under once it has.
use Rattle.std.proofs.Common.{◌≡◌, ℕ, ◌<◌, Bool, true, false, List, length, refl, ap, sym, ◌∙◌, subst, arith}
use Rattle.std.specs.Prelude.{Option, Some, None, if◌then◌else◌}
use Rattle.protected_loads.specs.plain_state.declared.act.EventPlace.{EventPlace}
use Rattle.protected_loads.specs.plain_state.declared.act.PlainAct.{PlainAct}
use Rattle.protected_loads.specs.plain_state.declared.slot.Kind.TheVariants.{Disposal}
use Rattle.protected_loads.specs.plain_state.declared.slot.SlotId.{SlotId}
use Rattle.protected_loads.specs.plain_state.State.{Plain}
use Rattle.protected_loads.specs.plain_protocol.Owns.{OwnPart}
use Rattle.protected_loads.specs.core_events.declared.view.CoreView.{CoreView}
use Rattle.protected_loads.specs.core_events.declared.view.Note.{Note}
use Rattle.protected_loads.specs.core_events.declared.view.Note.TheVariants as note
use Rattle.protected_loads.specs.core_events.Steps.{HasAdd, HasRoom}
use Rattle.protected_loads.specs.core_events.Views.{Holds, note_of}
use Rattle.protected_loads.specs.acquire_retire.Domains.{DomainState}
use Rattle.protected_loads.specs.acquire_retire.Notes.{is_free, least_free}
use Rattle.protected_loads.specs.acquire_retire.Seats.{SeatState}
use Rattle.protected_loads.proofs.Below.control_word_Owning.{some_more}
use Rattle.protected_loads.proofs.Noting.{written}
use Rattle.protected_loads.proofs.Telling.{four_notes}
use Rattle.atomic_weak.specs.Taking.{Finds, IsUnderWhereHeld, Takes}
use Rattle.atomic_weak.specs.Questions.{CanUse}
use Rattle.atomic_weak.specs.WeakSnapshots.{IsGuardedBy}
use Rattle.atomic_weak.specs.declared.snapshots.WeakSnap.{WeakSnap as WeakAnswer}
use Rattle.atomic_weak.specs.declared.snapshots.WeakSnap.TheVariants as answer
use Rattle.atomic_weak.proofs.Noted.{holds_disposal}

free_idle : (n : Note) → is_free n ≡ true → n ≡ note.Idle
free_idle note.Idle is = refl
free_idle (note.Announced k s) is = absurd (cc (is))
free_idle (note.Valid k s) is = absurd (cc (is))

-- the least free word is one of the words 1 to 3, and stands for nothing
least_is_free : (v : CoreView) (j : ℕ) → least_free v ≡ Some j → CanUse (Some j) v
least_is_free v j =
    go (is_free (note_of v 1)) (is_free (note_of v 2)) (is_free (note_of v 3)) refl refl refl
  where
    named : (i : ℕ) → 0 < i → i < 4 → is_free (note_of v i) ≡ true → Some i ≡ Some j
        → CanUse (Some j) v
    named i least most free is =
        subst (λ (n : ℕ). CanUse (Some n) v) (cc (is)) (least, most, free_idle (note_of v i) free)

    go : (a b c : Bool) → is_free (note_of v 1) ≡ a → is_free (note_of v 2) ≡ b
        → is_free (note_of v 3) ≡ c
        → (if a then Some 1 else if b then Some 2 else if c then Some 3 else None) ≡ Some j
        → CanUse (Some j) v
    go true b c first second third is = named 1 (omega arith) (omega arith) first is
    go false true c first second third is = named 2 (omega arith) (omega arith) second is
    go false false true first second third is = named 3 (omega arith) (omega arith) third is
    go false false false first second third is = absurd (cc (is))

pub least_used : (v : CoreView) (word : Option ℕ) → word ≡ least_free v
    → (word ≡ None → HasAdd v) → CanUse word v
least_used v None is add = add refl
least_used v (Some j) is add = least_is_free v j (sym is)

pub holds_guarded : (word : Option ℕ) (s : SlotId) (v : CoreView) → IsGuardedBy word s v.owned v.notes
    → Holds v s
holds_guarded None s v owned = omega arith
holds_guarded (Some j) s v noted = holds_disposal v j s noted.2

module _ {P V : Type 0} (fits : List ℕ → Type 0) (d : DomainState P) (place : EventPlace)
    (next : OwnPart → OwnPart → V → PlainAct → ℕ → V)
    (allows : Plain → Plain → ℕ → V → V → Type 0) (old new : SeatState V) where
  guarded : (word : Option ℕ) (s : SlotId) → CanUse word old.view.core
      → Takes fits d place next allows word s old new
      → IsGuardedBy word s new.view.core.owned new.view.core.notes
  guarded None s free g =
      some_more s s refl old.view.core.owned new.view.core.owned
      (ap (λ (v : CoreView). v.owned) g.core)
  guarded (Some j) s free g = (
    free.0,
    free.1,
    ap (λ (v : CoreView). note_of v j) g.core
        ∙ written old.view.core j there (note.Valid Disposal s),
  )
    where
      there : j < length old.view.core.notes
      there =
          let four = four_notes g.protects.by.announces.becomes.walks.1.told in
          let small = free.1 in omega arith

  -- where it answers a snapshot, the seat is under it
  pub under_held : (word : Option ℕ) (a : WeakAnswer) → CanUse word old.view.core
      → Finds fits d place next allows word a old new → IsUnderWhereHeld a new.view.core
  under_held word answer.Null free found = tt
  under_held word answer.Zero free found = tt
  under_held word (answer.Held snap) free found =
      let under = subst (λ (w : Option ℕ). IsGuardedBy w snap.slot
      new.view.core.owned new.view.core.notes) (sym found.0)
      (guarded word snap.slot free found.1) in
      (under, holds_guarded snap.word snap.slot new.view.core under)

  -- and has as much room as it had
  pub room_after : (word : Option ℕ) (a : WeakAnswer)
      → Finds fits d place next allows word a old new → HasRoom old.view.core
      → HasRoom new.view.core
  room_after word answer.Null null = subst HasRoom (sym null.becomes.core)
  room_after None answer.Zero found = subst HasRoom (sym found.core)
  room_after (Some j) answer.Zero found = subst HasRoom (sym found.core)
  room_after None (answer.Held snap) found = subst HasRoom (sym found.1.core)
  room_after (Some j) (answer.Held snap) found = subst HasRoom (sym found.1.core)
