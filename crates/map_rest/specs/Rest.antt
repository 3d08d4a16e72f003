-- A map at rest, and what an audit finds of it.
use Rattle.std.specs.Prelude.{ℕ, ◌≡◌, ◌≢◌, ◌<◌, List, [], length, None}
use Rattle.plain_audit.specs.plain_state.declared.act.EventPlace.TheVariants.{Cell}
use Rattle.plain_audit.specs.plain_state.declared.slot.SlotId.{SlotId}
use Rattle.plain_audit.specs.plain_state.declared.slot.Stage.TheVariants.{Live}
use Rattle.plain_audit.specs.plain_state.Places.{content}
use Rattle.plain_audit.specs.plain_state.References.{strong_refs}
use Rattle.plain_audit.specs.plain_state.State.{Plain, seat_at, stage_at}
use Rattle.plain_audit.specs.heap_audit.declared.finding.Audit.{Audit}
use Rattle.map_law.specs.map_trees.Trees.{Tree, pairs}

-- Of the strong cells the root's alone holds anything. No seat owns anything, nothing is deferred or dying, and each
-- object that lives has a strong reference.
pub record Rests (c : ℕ) (p : Plain) : Type 0 where
  pub cells : (i : ℕ) → i ≢ c → content p (Cell i) ≡ None
  pub owned : (n : ℕ) → (seat_at p n).owned ≡ []
  pub deferred : (n : ℕ) → (seat_at p n).deferred ≡ []
  pub dying : (n : ℕ) → (seat_at p n).dying ≡ []
  pub live : (s : SlotId) → stage_at p s ≡ Live → 0 < strong_refs p s

-- an audit finds the nodes of this tree, one for each key, and nothing else
pub record FindsTree (t : Tree) (found : Audit) : Type 0 where
  pub live : found.live ≡ length (pairs t)
  pub deferred : found.deferred ≡ 0
  pub cyclic : found.cyclic ≡ 0
