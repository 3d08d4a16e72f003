-- What a step on a counter word of a slot that the seat holds finds there: the count of all references.
use Rattle.std.proofs.Common.{◌≡◌, ⊎_elim, ℕ, ◌<◌, ◌≤◌, Bool, true, false, List, refl, ap, sym, ◌∙◌, subst, arith}
use Rattle.std.specs.Prelude.{nat_lt, if◌then◌else◌}
use Rattle.std.proofs.lemmas.Bool.Decides.{nat_tests}
use Rattle.counted_handles.specs.plain_state.declared.act.PlainAct.{PlainAct}
use Rattle.counted_handles.specs.plain_state.declared.slot.SlotId.{SlotId}
use Rattle.counted_handles.specs.plain_state.References.{strong_refs, weak_refs}
use Rattle.counted_handles.specs.plain_state.State.{Plain}
use Rattle.acquire_retire.specs.plain_protocol.Owns.{OwnPart}
use Rattle.acquire_retire.specs.core_events.declared.act.Act.{Act}
use Rattle.acquire_retire.specs.core_events.declared.outcome.Outcome.TheVariants as outcome
use Rattle.acquire_retire.specs.core_events.declared.shape.Shape.{Shape}
use Rattle.acquire_retire.specs.core_events.declared.view.CoreView.{CoreView}
use Rattle.acquire_retire.specs.core_events.Counts.{strong, weak}
use Rattle.acquire_retire.specs.core_events.Runs.{view_at}
use Rattle.acquire_retire.specs.core_events.Shows.{shows}
use Rattle.acquire_retire.specs.core_events.Views.{Holds, HoldsStrongly, Terms}
use Rattle.counted_handles.specs.counter_word.Words.{ZERO, value}
use Rattle.acquire_retire.specs.core_law.Sound.{Sound}
use Rattle.acquire_retire.proofs.Below.core_law_Held.{held_named, held_taken, strongly_refs}
use Rattle.acquire_retire.proofs.Below.core_law_Steady.{named_in_range}
use Rattle.acquire_retire.proofs.Below.core_law_Always.{history_sound}
use Rattle.acquire_retire.proofs.Below.core_law_Bridge.{shown_strong}
use Rattle.acquire_retire.proofs.Below.core_law_Told.{counts_shown}
use Rattle.acquire_retire.specs.domain_rule.declared.view.SeatView.{SeatView}
use Rattle.acquire_retire.specs.domain_rule.Told.{Told}

module _ {V : Type 0} {fits : List ℕ → Type 0} {z : Shape} {ts : Terms}
    {next : OwnPart → OwnPart → V → PlainAct → ℕ → V}
    {allows : Plain → Plain → ℕ → V → V → Type 0} {a : Act} {v v' : SeatView V} {w : ℕ}
    (told : Told fits z ts next allows a v w v') where
  -- the state that a step was made in is one that events reach
  pub sound_before : Sound z told.happened.before
  sound_before =
      history_sound z ts told.happened.events told.happened.before told.happened.shape
      told.happened.terms told.happened.history

  pub seat_there : v.core.seat < z.seats
  seat_there =
      let there = told.happened.enabled.0 in
      let views = sound_before.views in omega arith

module _ {V : Type 0} {fits : List ℕ → Type 0} {z : Shape} {ts : Terms}
    {next : OwnPart → OwnPart → V → PlainAct → ℕ → V}
    {allows : Plain → Plain → ℕ → V → V → Type 0} {a : Act} {v v' : SeatView V} {w : ℕ}
    (told : Told fits z ts next allows a v w v') (s : SlotId) where
  abbrev mine : CoreView
  mine = view_at told.happened.before v.core.seat

  held_there : Holds v.core s → Holds mine s
  held_there = subst (λ (u : CoreView). Holds u s) told.happened.view

  pub slot_there : Holds v.core s → s.0 < z.slots
  slot_there held =
      named_in_range z v.core.seat mine s ((sound_before told).seats v.core.seat (seat_there told))
      (held_named s mine (held_there held))

  -- the strong word has the number of all strong references
  pub strong_word : Holds v.core s → w ≡ strong z told.happened.before s
      → value w ≡ strong_refs (shows z told.happened.before) s
  strong_word held is =
      ap value is ∙ (counts_shown z told.happened.before s (sound_before told) (slot_there held)).0

  -- and some, where the seat holds the slot strongly
  pub strong_some : HoldsStrongly v.core s → 0 < strong_refs (shows z told.happened.before) s
  strong_some held =
      let some = strongly_refs z told.happened.before v.core.seat s (sound_before told) (seat_there told)
      (subst (λ (u : CoreView). HoldsStrongly u s) told.happened.view held) in
      let same = shown_strong z told.happened.before s in omega arith

  -- the weak word has the number of all weak references and the slot's own
  pub weak_word : Holds v.core s → w ≡ weak z told.happened.before s
      → weak_refs (shows z told.happened.before) s ≡ w
  weak_word held is =
      let taken = held_taken z told.happened.before v.core.seat s (sound_before told) (seat_there told) (slot_there held)
      (held_there held) in
      ⊎_elim
      (λ (counts : weak z told.happened.before s ≡ weak_refs (shows z told.happened.before) s).
      sym (is ∙ counts))
      (λ bare. let some = bare.1 in absurd (omega arith))
      (counts_shown z told.happened.before s (sound_before told) (slot_there held)).1

-- a word that counts references hasn't the zero flag, and one that has it counts none
pub counting : (w n : ℕ) → value w ≡ n → 0 < n → nat_lt w ZERO ≡ true
counting w n is some = go (nat_lt w ZERO) refl
  where
    go : (b : Bool) → nat_lt w ZERO ≡ b → nat_lt w ZERO ≡ true
    go true below = below
    go false below =
        let none : value w ≡ 0 = rw below refl in absurd (omega arith)

pub flagged : (w n : ℕ) → value w ≡ n
    → (if nat_lt w ZERO then outcome.Up else outcome.Dead) ≡ outcome.Dead
    → (ZERO ≤ w) × (n ≡ 0)
flagged w n is dead = go (nat_lt w ZERO) refl
  where
    go : (b : Bool) → nat_lt w ZERO ≡ b → (ZERO ≤ w) × (n ≡ 0)
    go true below =
        let up : outcome.Up ≡ outcome.Dead = rw below at dead in absurd (cc (up))
    go false below =
        let none : value w ≡ 0 = rw below refl in (grind (arith, nat_tests), omega arith)
