use Rattle.std.proofs.Common.{inl, refl, arith}
use Rattle.slot_store.proofs.Passing.{passes_collect, passes_none}
use Rattle.slot_store.proofs.Ripening.{dies_too, finds_after, first_there}
use Rattle.slot_store.proofs.reaping.ripe_slot.Goals as goal

pub returns-in-Some : goal.returns-in-Some
returns-in-Some g c =
    let next = c.in-Some.ensures in
    let some = first_there c.in-Some.slot c.args.seat.now.view.core.ripe
    (λ e. absurd (cc (next.none.1 e))) next.first in
    let listed = next.dying c.in-Some.slot in
    record {
      finds = (inl (some, refl), some);
      dying = omega arith;
      passes = passes_none c.args.domain.now c.args.seat.now c.requires.room c.requires.rest;
    }

pub returns : goal.returns
returns g c =
    let none = rw c.in_default.is at c.next_ripe.ensures.none in
    record {
      finds = finds_after c.args.domain.now c.args.seat.now c.collect.new.seat c.requires.rest
          c.collect.ensures (none.0 refl) c.next_ripe-2.result c.next_ripe-2.ensures.none
          c.next_ripe-2.ensures.first;
      dying = dies_too c.collect.new.seat.view.core c.next_ripe-2.result
          c.next_ripe-2.ensures.none c.next_ripe-2.ensures.first c.next_ripe-2.ensures.dying;
      passes = passes_collect c.args.domain.now c.args.seat.now c.collect.new.seat c.requires.rest
          c.requires.room c.collect.ensures;
    }
