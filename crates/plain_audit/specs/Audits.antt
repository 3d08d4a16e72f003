-- What an audit of a plain state finds.
use Rattle.std.specs.Prelude.{ℕ, ◌≡◌, ◌<◌, List, [], length}
use Rattle.heap_audit.specs.plain_state.declared.slot.SlotId.{SlotId}
use Rattle.heap_audit.specs.plain_state.declared.slot.Stage.{Stage}
use Rattle.heap_audit.specs.plain_state.declared.slot.Stage.TheVariants.{Free, Blank, Live, Ended, Husk}
use Rattle.heap_audit.specs.plain_state.State.{Plain, stage_at}
use Rattle.heap_audit.specs.plain_state.References.{over_seats, over_slots}
use Rattle.heap_audit.specs.declared.finding.Audit.{Audit}
use Rattle.heap_audit.specs.Heaps.{slot}
use Rattle.heap_audit.specs.Reached.{HowMany}
use Rattle.heap_audit.specs.Walks.{IsFoundAmong, GoesRound, rank_of}
use Rattle.plain_audit.specs.Reached.{HasField, IsUnreached}

-- n for a slot that holds an object, else 0
abbrev pub if_live : ℕ → Stage → ℕ
if_live n Free = 0
if_live n Blank = 0
if_live n Live = n
if_live n Ended = 0
if_live n Husk = 0

-- how many slots are Live, and what their objects weigh together
abbrev pub live_slots : Plain → ℕ
live_slots p = over_slots (λ x. if_live 1 x.stage) p.slots

abbrev pub live_bytes : (List ℕ → ℕ) → Plain → ℕ
live_bytes weight p = over_slots (λ x. if_live (weight x.payload) x.stage) p.slots

-- how many entries are deferred
abbrev pub deferred_entries : Plain → ℕ
deferred_entries p = over_seats (λ v. length v.deferred) p.seats

-- the audit finds this, where the rank of each slot stands at its number
pub record IsAudit (weight : List ℕ → ℕ) (ranks : List ℕ) (p : Plain) (found : Audit) : Type 0 where
  pub live : found.live ≡ live_slots p
  pub deferred : found.deferred ≡ deferred_entries p
  pub bytes : found.bytes ≡ live_bytes weight p
  -- just so many slots are unreached
  pub cyclic : HowMany (λ n. IsUnreached p (slot n)) (length p.slots) found.cyclic
  -- where none is, the walk is empty
  pub none : found.cyclic ≡ 0 → found.walk.items ≡ []
  -- else it is what the search among them finds, beginning with the least rank
  pub walk : 0 < found.cyclic → IsFoundAmong (IsUnreached p) (HasField p) ranks found.walk.items
  -- so it goes round a cycle of strong fields
  pub round : 0 < found.cyclic → GoesRound (HasField p) found.walk.items

-- no two Live slots have one rank
abbrev pub HasDistinctRanks : Plain → List ℕ → Type 0
HasDistinctRanks p ranks =
    (s t : SlotId) → stage_at p s ≡ Live → stage_at p t ≡ Live → rank_of ranks s ≡ rank_of ranks t → s ≡ t

-- two audits found the same
pub record FindsSame (one other : Audit) : Type 0 where
  pub live : one.live ≡ other.live
  pub deferred : one.deferred ≡ other.deferred
  pub cyclic : one.cyclic ≡ other.cyclic
  pub bytes : one.bytes ≡ other.bytes
  pub walk : one.walk.items ≡ other.walk.items
