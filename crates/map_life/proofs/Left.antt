-- What a seat that is alone knows of the map, once it has settled and learnt the law.
use Rattle.std.proofs.Common.{◌≡◌, ◌≢◌, ⊎_elim, ℕ, zero, suc, ◌<◌, ◌≤◌, List, [], ◌++◌, length, refl, ap, sym, ◌∙◌, subst, arith, Some, None}
use Rattle.std.proofs.lemmas.List.{get_or_past}
use Rattle.seat_life.specs.domain_audit.heap_audit.declared.finding.Audit.{Audit}
use Rattle.seat_life.specs.domain_audit.plain_state.State.{Plain, PlainSeat, seat_at}
use Rattle.seat_life.specs.domain_audit.core_events.declared.view.CoreView.{CoreView}
use Rattle.seat_life.specs.domain_audit.core_events.Shows.{show_seat}
use Rattle.seat_life.specs.domain_audit.core_events.declared.shape.Shape.{Shape}
use Rattle.seat_life.specs.domain_audit.domain_rule.Views.{own_of}
use Rattle.seat_life.specs.domain_audit.acquire_retire.Domains.{DomainState}
use Rattle.seat_life.specs.domain_audit.acquire_retire.Seats.{SeatState}
use Rattle.seat_life.specs.Ends.{HasSettled}
use Rattle.seat_life.specs.Free.{IsFree, OwnsNothing}
use Rattle.seat_life.specs.Learning.{KnowsLaw, but_for_trail}
use Rattle.version_map.specs.version_making.map_protocol.declared.law.MapLaw.{MapLaw}
use Rattle.version_map.specs.version_reading.Reading.{IsOver}
use Rattle.map_rest.specs.plain_audit.Audits.{IsAudit}
use Rattle.map_rest.specs.map_law.declared.view.View.{View}
use Rattle.map_rest.specs.map_law.Law.{MapLaw as Law}
use Rattle.map_rest.specs.map_law.Nodes.{IsNode, root}
use Rattle.map_rest.specs.map_law.Views.{gone}
use Rattle.map_rest.specs.Rest.{FindsTree, Rests}
use Rattle.map_rest.proofs.Found.{finds_tree, what_remains}
use Rattle.map_life.specs.Ending.{LeavesTree}

module _ (d : DomainState MapLaw) (weight : List ℕ → ℕ) (weights : ℕ) (found : Audit)
    (old mid new : SeatState View) (owns : OwnsNothing old.view.core) (over : IsOver 0 d)
    (one : d.shape.cells ≡ 1)
    (settled : HasSettled IsNode d weight weights found old mid)
    (know : KnowsLaw IsNode (Law d.protocol.cell) gone new.view)
    (whole : (own_of new.view).whole ≡ (own_of mid.view).whole)
    (core : but_for_trail new.view.core ≡ but_for_trail mid.view.core) (free : IsFree d new) where
  same : know.state ≡ settled.audit.state
  same = some_same know.state settled.audit.state
      (sym know.knows.whole ∙ whole ∙ settled.audit.knows.whole)
    where
      some_same : (x y : Plain) → Some x ≡ Some y → x ≡ y
      some_same x y e = cc (e)

  owned_none : new.view.core.owned ≡ []
  owned_none =
      ap (λ (v : CoreView). v.owned) core ∙ ap (λ (v : CoreView). v.owned) settled.same ∙ owns.0

  retired_none : new.view.core.retired ≡ []
  retired_none = ap (λ (v : CoreView). v.retired) core ∙ settled.retired

  dying_none : new.view.core.dying ≡ []
  dying_none = ap (λ (v : CoreView). v.dying) core ∙ settled.dying

  rests : Rests d.protocol.cell know.state
  rests = record {
    cells = λ i ne. get_or_past know.state.cells i None
        (above i ne);
    owned = each (λ (v : PlainSeat). v.owned) owned_none (λ n more. (know.others n more).owned);
    deferred = each (λ (v : PlainSeat). v.deferred)
        (λ i. free.rest.owes_nothing i ++ retired_none i) (λ n more. (know.others n more).deferred);
    dying = each (λ (v : PlainSeat). v.dying) dying_none (λ n more. (know.others n more).dying);
    live = know.live;
  }
    where
      above : (i : ℕ) → i ≢ d.protocol.cell → length know.state.cells ≤ i
      above zero ne = absurd (ne over.law)
      above (suc i) ne =
          let many = know.cells in let shape = ap (λ (z : Shape). z.cells) free.rest.of_domain.1 in
          omega (arith, many, shape, one)

      each : {A : Type 0} (f : PlainSeat → List A) → f (show_seat new.view.core) ≡ []
          → ((n : ℕ) → 0 < n → f (seat_at know.state n) ≡ []) → (n : ℕ) → f (seat_at know.state n) ≡ []
      each f first others zero = ap f know.own ∙ first
      each f first others (suc n) = others (suc n) (omega arith)

  pub leaves_tree : LeavesTree d new found
  leaves_tree =
      let law = know.holds.meets.law in
      let audit = subst (λ (p : Plain). IsAudit weight settled.ranks p found) (sym same) settled.audit.audit in
      record {
        state = know.state;
        knows = know.knows;
        holds = know.holds;
        tree = law.tree;
        is = law.is;
        shaped = law.shaped;
        remains = what_remains d.protocol.cell know.state know.holds.views know.knows.lawful law
            know.knows.fit rests law.tree law.is;
        finds = finds_tree d.protocol.cell know.state know.holds.views know.knows.lawful law
            know.knows.fit rests law.tree law.is weight settled.ranks found audit;
      }
