-- What is told of a domain at its end.
use Rattle.std.specs.Prelude.{ℕ, ◌≡◌, List, []}
use Rattle.cdrc.specs.plain_state.State.{Plain}
use Rattle.cdrc.specs.acquire_retire.Collecting.{rest_of}
use Rattle.cdrc.specs.acquire_retire.Seats.{SeatState}
use Rattle.cdrc.specs.acquire_retire.Wholes.{IsLast}
use Rattle.cdrc.specs.domain_audit.Audits.{IsWholeAudit}
use Rattle.cdrc.specs.heap_audit.declared.finding.Audit.{Audit}

module _ {V : Type 0} (fits : List ℕ → Type 0) (weight : List ℕ → ℕ) where
  -- The seat has destroyed and given up all that may be, and an audit found this of the whole state,
  -- as the seat knows it then. What it owned and was under it has still.
  pub record HasSettled (old new : SeatState V) (found : Audit) : Type 0 where
    pub ranks : List ℕ
    pub audit : IsWholeAudit fits weight ranks new.view found
    pub retired : new.view.core.retired ≡ []
    pub dying : new.view.core.dying ≡ []
    pub same : rest_of new.view.core ≡ rest_of old.view.core

  -- The seat has settled so, and the client's law held as it closed the domain.
  pub record EndsWith (law : Plain → List V → Type 0) (gone : V) (seats : ℕ) (root : SeatState V)
      (found : Audit) : Type 0 where
    pub last : SeatState V
    pub settled : HasSettled root last found
    pub kept : IsLast fits law gone seats last.view
