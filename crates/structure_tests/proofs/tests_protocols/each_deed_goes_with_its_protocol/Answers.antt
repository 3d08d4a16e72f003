use Rattle.std.proofs.Common.{◌≡◌, ⊎_elim, ℕ, List, ap, arith, ◌∙◌}
use Rattle.std.specs.Prelude.{slice_index}
use Rattle.hand_queues.specs.declared.QueueLaw.{QueueLaw}
use Rattle.structure_tests.proofs.tests_protocols.each_deed_goes_with_its_protocol.Goals as goal

pub new-requires-2-clause-left : goal.new-requires-2-clause-left
new-requires-2-clause-left c =
    let same = c.cite-3.ensures.same ∙ c.cite-2.ensures.same ∙ c.cite.ensures.same in
    let head = ap (λ (q : QueueLaw). q.head) same ∙ c.linked.ensures.cells.0 in
    let tail = ap (λ (q : QueueLaw). q.tail) same ∙ c.linked.ensures.cells.1 in
    record {
      cells = λ i owns. ⊎_elim
          (λ (e : i ≡ c.cite-3.result.0.head). omega (arith, e, head))
          (λ (e : i ≡ c.cite-3.result.0.tail). omega (arith, e, tail)) owns;
      weak_cells = λ i owns. absurd owns;
      payloads = λ words is. ap (λ (ws : List ℕ). slice_index ws 0) is;
    }
