-- Which snapshots a seat stays under.
use Rattle.std.proofs.Common.{◌≡◌, ℕ, ◌<◌, ◌≤◌, List, length, ap, ◌∙◌, arith}
use Rattle.std.specs.Prelude.{Option, Some, None}
use Rattle.protected_loads.specs.plain_state.declared.slot.Kind.{Kind}
use Rattle.protected_loads.specs.plain_state.declared.slot.Kind.TheVariants.{Strong, Weak, Disposal}
use Rattle.protected_loads.specs.plain_state.declared.slot.SlotId.{SlotId}
use Rattle.protected_loads.specs.plain_state.Lists.{times}
use Rattle.protected_loads.specs.core_events.declared.view.CoreView.{CoreView}
use Rattle.protected_loads.specs.core_events.declared.view.Note.{Note}
use Rattle.protected_loads.specs.core_events.declared.view.Note.TheVariants as note
use Rattle.protected_loads.specs.core_events.declared.view.Move.{Move}
use Rattle.protected_loads.specs.core_events.Steps.{with_note}
use Rattle.protected_loads.specs.core_events.Views.{note_of}
use Rattle.protected_loads.proofs.Below.core_law_Kit.{times_push}
use Rattle.protected_loads.specs.control_word.Calls.{with_strong}
use Rattle.protected_loads.specs.References.{with_reference}
use Rattle.protected_loads.proofs.Noting.{beside}
use Rattle.snapshot_ptr.specs.Handles.{IsHeldBy, StaysUnder}

-- a seat with w owns what one with v owned, and its snapshots stand in the same words
pub record Grows (v w : CoreView) : Type 0 where
  pub owned : (s : SlotId) → times s v.owned ≤ times s w.owned
  pub noted : (j : ℕ) (s : SlotId) → note_of v j ≡ note.Valid Strong s
      → note_of w j ≡ note.Valid Strong s

pub stays_grown : (v w : CoreView) → Grows v w → StaysUnder v w
stays_grown v w grows snap under = go snap.word under
  where
    go : (word : Option ℕ) → IsHeldBy word snap.slot v.owned v.notes
        → IsHeldBy word snap.slot w.owned w.notes
    go None owned = let more = grows.owned snap.slot in omega arith
    go (Some j) noted = (noted.0, noted.1, grows.noted j snap.slot noted.2)

module _ (v : CoreView) (t : List Move) where
  pub stays_longer : StaysUnder v (record v { trail = t })
  stays_longer snap under = under

  pub stays_with_strong : (s : SlotId) → StaysUnder v (record (with_strong s v) { trail = t })
  stays_with_strong s =
      stays_grown v (record (with_strong s v) { trail = t })
      (record {
        owned = λ x. let more = times_push x s v.owned in omega arith;
        noted = λ j x is. is;
      })

  pub stays_with_reference : (k : Kind) (s : SlotId)
      → StaysUnder v (record (with_reference k s v) { trail = t })
  stays_with_reference Strong s snap under = stays_with_strong s snap under
  stays_with_reference Weak s snap under = under
  stays_with_reference Disposal s snap under = under

  -- a word that stood for nothing was no snapshot's
  pub stays_beside : (j : ℕ) (n : Note) → j < length v.notes → note_of v j ≡ note.Idle
      → StaysUnder v (record (with_note j n v) { trail = t })
  stays_beside j n there idle =
      stays_grown v (record (with_note j n v) { trail = t })
      (record {
        owned = λ x. omega arith;
        noted = λ i x is. beside v j there n i
            (λ (same : i ≡ j). absurd (cc (idle, ap (note_of v) same, is)))
            ∙ is;
      })
