-- The records that seat 0 owns, their words, and what an audit finds then.
use Rattle.std.specs.Prelude.{ℕ, ◌≡◌, ◌⊎◌, ◌<◌, ◌≤◌, ◌↔◌, List, length, map, sum_by, Some}
use Rattle.plain_audit.specs.plain_state.declared.slot.SlotId.{SlotId}
use Rattle.plain_audit.specs.plain_state.declared.slot.Stage.TheVariants.{Live}
use Rattle.plain_audit.specs.plain_state.Lists.{times}
use Rattle.plain_audit.specs.plain_state.State.{Plain, seat_at, slot_at, stage_at}
use Rattle.directory_law.specs.Bytes.{IsPiece, text_bytes}
use Rattle.directory_law.specs.Chains.{Reads}
use Rattle.directory_law.specs.Payloads.{IsText, Text}
use Rattle.plain_audit.specs.heap_audit.declared.finding.Audit.{Audit}
use Rattle.plain_audit.specs.Reached.{IsUnreached}
use Rattle.cdrc_text.specs.Text.{slots_of_word}

-- Each slot that lives is a head or a part, and seat 0 owns it, or field 1 of one that lives leads to it.
pub record HoldsRecords (p : Plain) : Type 0 where
  pub pieces : (s : SlotId) → stage_at p s ≡ Live → IsPiece (slot_at p s).payload
  pub led : (s : SlotId) → stage_at p s ≡ Live
      → (0 < times s (seat_at p 0).owned)
      ⊎ ((t : SlotId) × (stage_at p t ≡ Live) × ((slot_at p t).second ≡ Some s))

-- what seat 0 owns are heads, of records with these texts
abbrev pub OwnsTexts : Plain → (SlotId → Text) → Type 0
OwnsTexts p text =
    (s : SlotId) → 0 < times s (seat_at p 0).owned → Reads p s (text s) × IsText (text s)

-- the words of these texts
abbrev pub words_of : (SlotId → Text) → List SlotId → List (List ℕ)
words_of text heads = map (λ (s : SlotId). text_bytes (text s)) heads

-- a list of what seat 0 owns, each slot once
pub record AreOwned (p : Plain) (heads : List SlotId) : Type 0 where
  pub owned : (s : SlotId) → (0 < times s heads) ↔ (0 < times s (seat_at p 0).owned)
  pub once : (s : SlotId) → times s heads ≤ 1

-- nothing is unreached
abbrev pub IsAllReached : Plain → Type 0
IsAllReached p = (s : SlotId) → ¬ (IsUnreached p s)

-- an audit finds the records of these words and nothing else
pub record FindsRecords (words : List (List ℕ)) (found : Audit) : Type 0 where
  pub live : found.live ≡ sum_by slots_of_word words
  pub deferred : found.deferred ≡ 0
  pub cyclic : found.cyclic ≡ 0
  pub bytes : found.bytes ≡ sum_by (λ (w : List ℕ). length w) words
