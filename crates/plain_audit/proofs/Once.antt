-- Where no two Live slots have one rank, all audits find the same.
use Rattle.std.proofs.Common.{◌≡◌, ℕ, List, length, sym, ◌∙◌, arith, inl, inr}
use Rattle.std.proofs.lemmas.Bool.{cases_lt}
use Rattle.heap_audit.specs.plain_state.State.{Plain}
use Rattle.heap_audit.specs.declared.finding.Audit.{Audit}
use Rattle.heap_audit.specs.Heaps.{slot}
use Rattle.heap_audit.proofs.Alike.{many_once}
use Rattle.heap_audit.proofs.Alone.{one_walk_among}
use Rattle.plain_audit.specs.Audits.{FindsSame, HasDistinctRanks, IsAudit}
use Rattle.plain_audit.specs.Reached.{HasField, IsUnreached}

module _ (p : Plain) (weight : List ℕ → ℕ) (ranks : List ℕ) (one other : Audit) (distinct : HasDistinctRanks p ranks)
    (a : IsAudit weight ranks p one) (b : IsAudit weight ranks p other) where
  many : one.cyclic ≡ other.cyclic
  many = many_once (λ n. IsUnreached p (slot n)) (length p.slots) one.cyclic other.cyclic a.cyclic b.cyclic

  pub finds_same : FindsSame one other
  finds_same = record {
    live = a.live ∙ sym b.live;
    deferred = a.deferred ∙ sym b.deferred;
    cyclic = many;
    bytes = a.bytes ∙ sym b.bytes;
    walk = elim (cases_lt 0 one.cyclic) [
      | inl some ↦ one_walk_among (IsUnreached p) (HasField p) ranks (λ s t u v. distinct s t u.0 v.0) one.walk.items other.walk.items
          (a.walk some) (b.walk (omega (arith, some, many)))
      | inr none ↦ a.none (omega (arith, none)) ∙ sym (b.none (omega (arith, none, many)))
    ];
  }
