use Rattle.std.proofs.Common.{inr}
use Rattle.std.specs.Prelude.{None, Some}
use Rattle.slot_store.proofs.Numbering.{reap_steps}
use Rattle.slot_store.proofs.Reaps.{knows_new, reaps}
use Rattle.slot_store.proofs.reaping.reap.Goals as goal

pub read_all-payload-requires-clause-dying : goal.read_all-payload-requires-clause-dying
read_all-payload-requires-clause-dying g c =
    c.clear-3.ensures.passes.dying c.in-Some.slot
    (c.clear-2.ensures.passes.dying c.in-Some.slot
    (c.clear.ensures.passes.dying c.in-Some.slot
    (rw c.in-Some.is at c.ripe_slot.ensures.dying)))

pub destroy-requires-clause-ripe : goal.destroy-requires-clause-ripe
destroy-requires-clause-ripe g c =
    c.read_all-payload.ensures.passes.ripe c.in-Some.slot
    (c.clear-3.ensures.passes.ripe c.in-Some.slot
    (c.clear-2.ensures.passes.ripe c.in-Some.slot
    (c.clear.ensures.passes.ripe c.in-Some.slot
    (rw c.in-Some.is at c.ripe_slot.ensures.finds).1)))

pub returns-clause-reaps : goal.returns-clause-reaps
returns-clause-reaps g c =
    reaps c.args.domain.now c.args.seat.now c.ripe_slot.new.seat c.clear.new.seat
    c.clear-2.new.seat c.clear-3.new.seat c.read_all-payload.new.seat c.ripe_slot.ensures.passes
    c.clear.ensures.passes c.clear-2.ensures.passes c.clear-3.ensures.passes
    c.read_all-payload.ensures.passes c.in-Some.slot c.read_all-payload.result
    c.clear.ensures.clears c.clear-2.ensures.clears c.clear-3.ensures.clears
    c.read_all-payload.ensures.sees c.destroy.new.seat (rw c.in-Some.is at c.ripe_slot.ensures.finds)
    c.destroy.ensures.destroys c.destroy.ensures.same g.P.Kind.PayloadKind.weight
    c.call-weight.result c.call-weight.ensures.weight

pub returns-clause-objects : goal.returns-clause-objects
returns-clause-objects g c =
    knows_new c.args.domain.now c.args.seat.now c.ripe_slot.new.seat c.clear.new.seat
    c.clear-2.new.seat c.clear-3.new.seat c.read_all-payload.new.seat c.ripe_slot.ensures.passes
    c.clear.ensures.passes c.clear-2.ensures.passes c.clear-3.ensures.passes
    c.read_all-payload.ensures.passes c.destroy.new.seat c.destroy.ensures.objects

pub returns-clause-steps : goal.returns-clause-steps
returns-clause-steps g c =
    reap_steps g.P.Kind.PayloadKind.fits c.args.domain.now g.P.Kind.PayloadKind.weight
    (Some c.call-weight.result) c.args.seat.now c.destroy.new.seat (returns-clause-reaps g c)

pub returns-in_default-clause-steps : goal.returns-in_default-clause-steps
returns-in_default-clause-steps g c =
    reap_steps g.P.Kind.PayloadKind.fits c.args.domain.now g.P.Kind.PayloadKind.weight None
    c.args.seat.now c.ripe_slot.new.seat (inr c.in_default.ensures.finds)
