use Rattle.std.proofs.Common.{ℕ, ◌≡◌, ◌<◌, length, List, Option, Some, None, subst, arith}
use Rattle.deleter.specs.plain_state.declared.slot.SlotId.{SlotId}
use Rattle.deleter.specs.plain_state.declared.image.Heap.{Heap}
use Rattle.heap_audit.specs.Heaps.{slot}
use Rattle.heap_audit.specs.Reached.{IsUnreached, HowMany}
use Rattle.heap_audit.specs.Tables.{IsLeastIfAny}
use Rattle.heap_audit.proofs.Leasts.{many_none, many_some}
use Rattle.heap_audit.proofs.Turning.{found_is_walk}
use Rattle.heap_audit.proofs.audits.audit.Goals as goal
use Rattle.heap_audit.proofs.audits.audit.Goals.{in-None, in-Some+in_ok-walk-in-Some}

module _ (heap : Heap) (ranks : List ℕ) (least : Option SlotId) (many : ℕ) where
  -- where there is no least, none is unreached
  none_unreached : least ≡ None → IsLeastIfAny ranks (IsUnreached heap) least → HowMany (λ n. IsUnreached heap (slot n)) (length heap.slots.items) many → many ≡ 0
  none_unreached e is h =
      let none = subst (IsLeastIfAny ranks (IsUnreached heap)) e is in
      many_none (λ n. IsUnreached heap (slot n)) (length heap.slots.items) many (λ k un. none (slot k) un) h

  some_unreached : (s : SlotId) → least ≡ Some s → IsLeastIfAny ranks (IsUnreached heap) least → HowMany (λ n. IsUnreached heap (slot n)) (length heap.slots.items) many → 0 < many
  some_unreached s e is h =
      let some = subst (IsLeastIfAny ranks (IsUnreached heap)) e is in
      many_some (λ n. IsUnreached heap (slot n)) (length heap.slots.items) many s.0 some.0.0.0 some.0 h

pub returns-clause-none : goal.returns-clause-none
returns-clause-none g c = λ zero.
    let sums = c.sum_up-sums in
    elim c.match-sums.branch [
      | in-None w ↦ rw w.walk-is w.new-walk.ensures.items
      | in-Some+in_ok-walk-in-Some w ↦
          absurd (let some = some_unreached c.args.heap.now c.args.rank.now sums.result.least sums.result.unreached _ w.in-Some.is sums.ensures.least sums.ensures.unreached in omega (arith, zero, some))
    ]

pub returns-clause-walk : goal.returns-clause-walk
returns-clause-walk g c = λ some.
    let sums = c.sum_up-sums in
    elim c.match-sums.branch [
      | in-None w ↦
          absurd (let none = none_unreached c.args.heap.now c.args.rank.now sums.result.least sums.result.unreached w.in-None.is sums.ensures.least sums.ensures.unreached in omega (arith, some, none))
      | in-Some+in_ok-walk-in-Some w ↦ rw w.walk-is w.in_ok-walk-in-Some.ensures
    ]

pub returns-clause-round : goal.returns-clause-round
returns-clause-round g c = λ some. found_is_walk c.args.heap.now c.args.rank.now c.match-sums.walk.items (returns-clause-walk g c some)
