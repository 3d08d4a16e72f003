-- A core that one seat alone is in, and what an audit asks of its image.
use Rattle.std.specs.Prelude.{ℕ, ◌≡◌, List, []}
use Rattle.plain_audit.specs.plain_state.declared.image.Heap.{Heap}
use Rattle.protected_loads.specs.core_events.Runs.{Core, view_at}
use Rattle.protected_loads.specs.core_events.Steps.{IsIdle}
use Rattle.protected_loads.specs.domain_rule.Rule.{OthersLeft}
use Rattle.plain_audit.specs.heap_audit.Heaps.{HasFittingPayloads, IsInRange, IsLawful}

-- seat 0 is in the middle of nothing and has nothing dying, and every other seat has left
pub record IsLone (c : Core) : Type 0 where
  pub others : OthersLeft c
  pub idle : IsIdle (view_at c 0)
  pub none_dying : (view_at c 0).dying ≡ []

-- what an audit asks of a heap whose payloads are of a kind
pub record CanBeAudited (fits : List ℕ → Type 0) (heap : Heap) : Type 0 where
  pub range : IsInRange heap
  pub lawful : IsLawful heap
  pub fit : HasFittingPayloads fits heap
