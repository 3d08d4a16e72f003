use Rattle.std.proofs.Common.{rules, refl, [], ◌∷◌, arith}
use Rattle.sticky_count.specs.declared.view.Act.TheVariants as act
use Rattle.sticky_count.specs.Calls.{move}
use Rattle.sticky_count.proofs.Atomic.{allows}
use Rattle.sticky_count.proofs.Ending.{over_by_add}
use Rattle.sticky_count.proofs.Walks.{makes, one_step}
use Rattle.sticky_count.proofs.seat.Sticky.increment.Goals as goal

pub fetch_add-found-requires : goal.fetch_add-found-requires
fetch_add-found-requires c =
    (search rules, search rules, allows _ _ _ act.Add _ _ c.seat.invariant.idle (omega (arith, c.seat.invariant)))

pub returns-clause-made : goal.returns-clause-made
returns-clause-made c =
    let e = c.fetch_add-found.ensures in
    (_, (_, refl, search rules), makes (move act.Add c.fetch_add-found.result ∷ []) _ _ _ _ _ _ c.seat.view_is e.0 (one_step _ _ _ _ e.2))

pub returns-clause-over : goal.returns-clause-over
returns-clause-over c dead =
    let e = c.fetch_add-found.ensures in
    over_by_add c.seat.inside.seat.table_id c.seat.inside.quota _ _ _ e.2 (search rules)
