-- What an audit of a seat that is alone finds, of the state that the seat knows.
use Rattle.std.proofs.Common.{◌≡◌, ℕ, List, length, ap, sym, ◌∙◌, subst}
use Rattle.std.specs.Prelude.{Option, Some, None, Result, Ok, Err, IfOk}
use Rattle.protected_loads.specs.plain_state.State.{Plain}
use Rattle.domain_audit.specs.heap_audit.declared.finding.Audit.{Audit}
use Rattle.domain_audit.specs.plain_audit.Audits.{IsAudit}
use Rattle.protected_loads.specs.core_events.Shows.{show_slot}
use Rattle.protected_loads.specs.core_events.Steps.{HasRoom}
use Rattle.protected_loads.proofs.Below.core_law_Each.{length_each}
use Rattle.protected_loads.specs.domain_rule.Views.{own_of}
use Rattle.protected_loads.specs.acquire_retire.Calls.{IsSameView, same_view}
use Rattle.protected_loads.specs.acquire_retire.Domains.{DomainState}
use Rattle.protected_loads.specs.acquire_retire.Seats.{SeatState}
use Rattle.protected_loads.specs.acquire_retire.Wholes.{known_core}
use Rattle.protected_loads.specs.control_word.Resting.{IsAtRest}
use Rattle.domain_audit.specs.Audits.{IsWholeAudit, Stays, there_and_back}
use Rattle.domain_audit.proofs.Learning.{knows_shown}
use Rattle.lone_heap.specs.Lone.{IsReady, known_plain}
use Rattle.lone_heap.proofs.Holding.{IsMine, kept_of, knows_ready, ready_still, walk_mine}
use Rattle.lone_heap.proofs.Tidying.{Knows}

some_is : (p q : Plain) → Some p ≡ Some q → p ≡ q
some_is p q is = ap (λ (o : Option Plain). or_else o) is
  where
    or_else : Option Plain → Plain
    or_else (Some x) = x
    or_else None = p

-- as many ranks as there are slots
pub ranks_there : {P V : Type 0} (d : DomainState P) (s : SeatState V) (n : ℕ)
    → n ≡ length (known_plain d s).slots → n ≡ d.shape.slots
ranks_there d s n is =
    is ∙ length_each 0 d.shape.slots
    (λ x. show_slot d.shape (known_core s.view) (record { 0 = x }))

module _ {P V : Type 0} (fits : List ℕ → Type 0) (d : DomainState P) (old new : SeatState V)
    (ready : IsReady d old) (stays : Stays fits d old new) (rest : IsAtRest d new)
    (same : (own_of new.view).whole ≡ (own_of old.view).whole) where
  on : Knows new × IsMine d new
  on =
      walk_mine fits d same_view IsSameView (there_and_back stays.0) old new
      (knows_ready d old ready) ready.mine stays.1.walks

  knows_old : (own_of old.view).whole ≡ Some (known_plain d old)
  knows_old = knows_shown d.shape old.view ready.rest.of_domain.1 ready.known

  knows_new : (own_of new.view).whole ≡ Some (known_plain d new)
  knows_new = knows_shown d.shape new.view rest.of_domain.1 on.0.known

  pub stays_same : known_plain d new ≡ known_plain d old
  stays_same =
      some_is (known_plain d new) (known_plain d old) (sym knows_new ∙ same ∙ knows_old)

  pub stays_ready : (HasRoom old.view.core → HasRoom new.view.core) → IsReady d new
  stays_ready room =
      ready_still d old new ready on.0 on.1 (ap kept_of stays.1.core) rest (room ready.room)

  module _ (weight : List ℕ → ℕ) (ranks : List ℕ) where
    audit_here : (found : Audit) → IsWholeAudit fits weight ranks new.view found
        → IsAudit weight ranks (known_plain d old) found
    audit_here found whole =
        subst (λ (p : Plain). IsAudit weight ranks p found)
        (some_is whole.state (known_plain d old) (sym whole.knows.whole ∙ same ∙ knows_old))
        whole.audit

    pub audits : {E : Type 0} (r : Result Audit E)
        → IfOk r (IsWholeAudit fits weight ranks new.view)
        → IfOk r (IsAudit weight ranks (known_plain d old))
    audits (Ok found) whole = audit_here found whole
    audits (Err e) whole = tt
