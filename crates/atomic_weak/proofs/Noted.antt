-- What notes tell of the slots that a seat has, and what a note that is written leaves of these.
use Rattle.std.proofs.Common.{◌≡◌, ⊎_elim, ℕ, ◌<◌, ◌≤◌, List, length, arith}
use Rattle.std.specs.Prelude.{slice_index_or, slice_set}
use Rattle.std.proofs.lemmas.Bool.{cases_lt}
use Rattle.std.proofs.lemmas.Bool.Decides.{nat_tests}
use Rattle.std.proofs.lemmas.List.{get_or_past}
use Rattle.protected_loads.specs.plain_state.declared.slot.Kind.{Kind}
use Rattle.protected_loads.specs.plain_state.declared.slot.Kind.TheVariants.{Strong, Weak, Disposal}
use Rattle.protected_loads.specs.plain_state.declared.slot.SlotId.{SlotId}
use Rattle.protected_loads.proofs.Below.plain_state_Kit.{entry_loses}
use Rattle.protected_loads.specs.plain_protocol.Owns.{HasSlot}
use Rattle.protected_loads.specs.core_events.declared.view.CoreView.{CoreView}
use Rattle.protected_loads.specs.core_events.declared.view.Note.{Note}
use Rattle.protected_loads.specs.core_events.declared.view.Note.TheVariants as note
use Rattle.protected_loads.specs.core_events.Shows.{show_seat}
use Rattle.protected_loads.specs.core_events.Steps.{with_note}
use Rattle.protected_loads.specs.core_events.Views.{Holds, note_of, valid_of}
use Rattle.protected_loads.proofs.Below.core_functions_Snapshots.{snapshot_at}
use Rattle.protected_loads.proofs.Below.core_law_Losing.{valid_loses}
use Rattle.protected_loads.proofs.Noting.{announced_not_valid, announced_same, more_has, same_has, snapshot_gains}

-- a note that stands for something is there
pub noted_there : (ns : List Note) (j : ℕ) (k : Kind) (s : SlotId)
    → slice_index_or ns j note.Idle ≡ note.Valid k s → j < length ns
noted_there ns j k s is = ⊎_elim
    (λ (below : j < length ns). below)
    (λ (past : length ns ≤ j). absurd (cc (get_or_past ns j note.Idle past, is)))
    (cases_lt j (length ns))

-- a slot that is protected weakly is held, and so is one under a weak snapshot
pub holds_weak : (v : CoreView) (j : ℕ) (s : SlotId) → note_of v j ≡ note.Valid Weak s → Holds v s
holds_weak v j s noted =
    let some = snapshot_at Weak s v.notes j (noted_there v.notes j Weak s noted) noted in
    omega arith

pub holds_disposal : (v : CoreView) (j : ℕ) (s : SlotId) → note_of v j ≡ note.Valid Disposal s
    → Holds v s
holds_disposal v j s noted =
    let some = snapshot_at Disposal s v.notes j (noted_there v.notes j Disposal s noted) noted in
    omega arith

-- what a seat has without a snapshot it has with it
pub has_released : (v : CoreView) (j : ℕ) (k : Kind) (s x : SlotId) → note_of v j ≡ note.Valid k s
    → HasSlot (show_seat (with_note j note.Idle v)) x → HasSlot (show_seat v) x
has_released v j k s x noted has =
    let less = valid_loses v.notes j k s (noted_there v.notes j k s noted) noted in
    let ns = valid_of v.notes in
    let ms = valid_of (slice_set v.notes j note.Idle) in
    let a = entry_loses Strong x (k, s) ns ms less in
    let b = entry_loses Weak x (k, s) ns ms less in
    let c = entry_loses Disposal x (k, s) ns ms less in grind (arith, nat_tests)

-- what it has before a free word announces or protects a slot it has afterwards
module _ (v : CoreView) (j : ℕ) (there : j < length v.notes) (free : note_of v j ≡ note.Idle)
    (k : Kind) (s x : SlotId) (has : HasSlot (show_seat v) x) where
  pub has_announced : HasSlot (show_seat (with_note j (note.Announced k s) v)) x
  has_announced =
      same_has v (slice_set v.notes j (note.Announced k s)) v.trail
      (announced_same v j there (note.Announced k s) (announced_not_valid k s) free) x has

  pub has_protected : HasSlot (show_seat (with_note j (note.Valid k s) v)) x
  has_protected =
      more_has v (slice_set v.notes j (note.Valid k s)) v.trail k s
      (snapshot_gains v j there k s free) x has
