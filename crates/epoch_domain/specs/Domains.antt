-- What callers see of a domain under epochs.
use Rattle.std.specs.Prelude.{ℕ, ◌≡◌, List}
use Rattle.atomic_table.specs.Seated.{TableId}
use Rattle.epoch_rule.specs.epoch_core.core_events.declared.shape.Quota.{Quota}
use Rattle.epoch_rule.specs.epoch_core.declared.shape.EpochShape.{EpochShape}
use Rattle.epoch_rule.specs.epoch_core.Runs.{AreQuotas, IsShape}
use Rattle.epoch_rule.specs.epoch_core.Words.{slot_at, word_count}

-- which table its words are in, its protocol, its sizes, and what each seat may use up
pub record DomainState (P : Type 0) : Type 0 where
  pub table : TableId
  pub protocol : P
  pub shape : EpochShape
  pub quotas : List Quota

-- what a domain stores beside its table
pub record StoredDomain : Type 0 where
  pub shape : EpochShape
  pub first_slot : ℕ

-- shape and quotas are in their ranges, the domain stores the shape and where slot 0 begins, and the table has its
-- words and nothing else
pub record IsDomain (table : TableId) (z : EpochShape) (qs : List Quota) (kept : StoredDomain)
    : Type 0 where
  pub shape : IsShape z
  pub quotas : AreQuotas z qs
  pub same : kept.shape ≡ z
  pub first : kept.first_slot ≡ slot_at z 0
  pub words : table.words ≡ word_count z
  pub slots : table.slots ≡ 0
