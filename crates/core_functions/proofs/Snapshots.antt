-- Searches through the notes of a seat, and what it is under a snapshot of.
use Rattle.std.proofs.Common.{◌≡◌, ◌≢◌, ⊎_elim, ℕ, zero, suc, ◌<◌, List, [], ◌∷◌, length, get_or, ap, arith}
use Rattle.std.proofs.lemmas.List.{get_or_past}
use Rattle.std.proofs.lemmas.Bool.{cases_lt}
use Rattle.core_events.specs.plain_state.declared.slot.Kind.{Kind}
use Rattle.core_events.specs.plain_state.declared.slot.SlotId.{SlotId}
use Rattle.core_events.specs.plain_state.Lists.{entry_times}
use Rattle.core_events.proofs.Below.plain_state_Kit.{entry_none, entry_cons, entry_self, entry_is, none_by}
use Rattle.core_events.specs.declared.view.Note.{Note}
use Rattle.core_events.specs.declared.view.Note.TheVariants as note
use Rattle.core_events.specs.Views.{valid_of}

-- a valid note is a snapshot
pub snapshot_at : (k : Kind) (s : SlotId) (ns : List Note) (i : ℕ) → i < length ns
    → get_or ns i note.Idle ≡ note.Valid k s → 0 < entry_times k s (valid_of ns)
snapshot_at k s [] i h e = absurd (omega arith)
snapshot_at k s (n ∷ ns) zero h e =
    rw e (let c = entry_cons k s (k, s) (valid_of ns) in let o = entry_self k s in omega arith)
snapshot_at k s (note.Idle ∷ ns) (suc i) h e = snapshot_at k s ns i (omega arith) e
snapshot_at k s (note.Announced l x ∷ ns) (suc i) h e = snapshot_at k s ns i (omega arith) e
snapshot_at k s (note.Valid l x ∷ ns) (suc i) h e =
    let c = entry_cons k s (l, x) (valid_of ns) in
    let r = snapshot_at k s ns i (omega arith) e in omega arith

-- where there is no such note, there is no such snapshot
pub snapshot_none : (k : Kind) (s : SlotId) (ns : List Note)
    → ((i : ℕ) → i < length ns → get_or ns i note.Idle ≢ note.Valid k s)
    → entry_times k s (valid_of ns) ≡ 0
snapshot_none k s [] none = entry_none k s
snapshot_none k s (note.Idle ∷ ns) none =
    snapshot_none k s ns (λ i lt. none (suc i) (omega arith))
snapshot_none k s (note.Announced l x ∷ ns) none =
    snapshot_none k s ns (λ i lt. none (suc i) (omega arith))
snapshot_none k s (note.Valid l x ∷ ns) none =
    let c = entry_cons k s (l, x) (valid_of ns) in
    let r = snapshot_none k s ns (λ i lt. none (suc i) (omega arith)) in
    let z = none_by _
    (λ h. none 0 (omega arith)
    (ap (λ (e : Kind × SlotId). note.Valid e.0 e.1) (entry_is k s (l, x) h))) in
    omega arith

-- a search for a valid note
pub ruleset snapshot_search = (snapshot_at, snapshot_none)

-- every note past those that are there is an idle one
pub all_idle : (ns : List Note) → ((i : ℕ) → i < length ns → get_or ns i note.Idle ≡ note.Idle)
    → (j : ℕ) → get_or ns j note.Idle ≡ note.Idle
all_idle ns each j = ⊎_elim (each j) (get_or_past ns j note.Idle) (cases_lt j (length ns))
