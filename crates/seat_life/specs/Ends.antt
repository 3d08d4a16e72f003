-- What is told of a domain at its end.
use Rattle.std.specs.Prelude.{ℕ, ◌≡◌, List, []}
use Rattle.domain_audit.specs.heap_audit.declared.finding.Audit.{Audit}
use Rattle.domain_audit.specs.acquire_retire.Collecting.{rest_of}
use Rattle.domain_audit.specs.acquire_retire.Domains.{DomainState}
use Rattle.domain_audit.specs.acquire_retire.Seats.{SeatState}
use Rattle.domain_audit.specs.slot_store.Leftovers.{HasNullCells}
use Rattle.domain_audit.specs.slot_store.Settling.{Settles}
use Rattle.domain_audit.specs.Audits.{IsWholeAudit, Stays}

module _ {P V : Type 0} (fits : List ℕ → Type 0) (d : DomainState P) (weight : List ℕ → ℕ) where
  -- The seat has destroyed and given up all that may be, the weights of which add up to this number, and then an audit
  -- found this of the whole state. It has nothing retired and nothing dying, and what it owned it owns still. Where it
  -- owns nothing strongly and all strong cells are null, all that lives is kept by cycles alone.
  pub record HasSettled (weights : ℕ) (found : Audit) (old new : SeatState V) : Type 0 where
    pub ranks : List ℕ
    pub mid : SeatState V
    pub settles : Settles fits d weight weights old mid
    pub stays : Stays fits d mid new
    pub audit : IsWholeAudit fits weight ranks new.view found
    pub retired : new.view.core.retired ≡ []
    pub dying : new.view.core.dying ≡ []
    pub same : rest_of new.view.core ≡ rest_of old.view.core
    pub left : old.view.core.owned ≡ [] → HasNullCells audit.state → found.cyclic ≡ found.live
