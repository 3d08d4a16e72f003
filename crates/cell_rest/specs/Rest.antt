-- What is asked of a state in which nothing waits.
use Rattle.std.specs.Prelude.{◌≡◌, ◌<◌, ℕ, [], None}
use Rattle.plain_audit.specs.plain_state.declared.act.EventPlace.TheVariants.{Cell}
use Rattle.plain_audit.specs.plain_state.declared.slot.SlotId.{SlotId}
use Rattle.plain_audit.specs.plain_state.declared.slot.Stage.TheVariants.{Live}
use Rattle.plain_audit.specs.plain_state.Places.{content}
use Rattle.plain_audit.specs.plain_state.References.{strong_refs}
use Rattle.plain_audit.specs.plain_state.State.{Plain, seat_at, stage_at}

-- all strong cells are null
abbrev pub HasNullCells : Plain → Type 0
HasNullCells p = (i : ℕ) → content p (Cell i) ≡ None

-- no seat has anything deferred, strong or weak
abbrev pub HasNoneDeferred : Plain → Type 0
HasNoneDeferred p = (n : ℕ) → (seat_at p n).deferred ≡ []

-- Cells are null, nothing is deferred or dying, and each object that lives has a strong reference.
pub record Rests (p : Plain) : Type 0 where
  pub cells : HasNullCells p
  pub deferred : HasNoneDeferred p
  pub dying : (n : ℕ) → (seat_at p n).dying ≡ []
  pub live : (s : SlotId) → stage_at p s ≡ Live → 0 < strong_refs p s
