-- What callers see of a domain.
use Rattle.std.specs.Prelude.{ℕ, ◌≡◌, List}
use Rattle.atomic_table.specs.Seated.{TableId}
use Rattle.core_promises.specs.core_events.declared.shape.Shape.{Shape}
use Rattle.core_promises.specs.core_events.Runs.{AreTerms, IsShape}
use Rattle.core_promises.specs.core_events.Views.{Terms}
use Rattle.core_promises.specs.core_events.Words.{slot_at, word_count}

-- which table its words are in, its protocol, its sizes, and what each seat may use up
pub record DomainState (P : Type 0) : Type 0 where
  pub table : TableId
  pub protocol : P
  pub shape : Shape
  pub terms : Terms

-- what a domain stores beside its table
pub record StoredDomain : Type 0 where
  pub shape : Shape
  pub first_slot : ℕ
  pub grants : List ℕ

-- shape and terms are in their ranges, the domain stores the shape, where slot 0 begins and the grants, and the table
-- has its words and nothing else
pub record IsDomain (table : TableId) (z : Shape) (ts : Terms) (kept : StoredDomain)
    : Type 0 where
  pub shape : IsShape z
  pub terms : AreTerms z ts
  pub same : kept.shape ≡ z
  pub first : kept.first_slot ≡ slot_at z 0
  pub grants : kept.grants ≡ ts.grants
  pub words : table.words ≡ word_count z
  pub slots : table.slots ≡ 0
