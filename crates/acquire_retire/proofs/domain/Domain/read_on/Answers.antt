use Rattle.std.proofs.Common.{◌∙◌, ap, length, length-append, arith, [], ◌∷◌, ◌++◌}
use Rattle.core_promises.specs.core_events.declared.shape.Shape.{Shape}
use Rattle.acquire_retire.specs.Domains.{DomainState}
use Rattle.acquire_retire.proofs.Collects.{is_of_after}
use Rattle.acquire_retire.proofs.Readings.{not_last, reads_more}
use Rattle.acquire_retire.proofs.domain.Domain.read_on.Goals as goal

pub read_next-requires-clause-seat : goal.read_next-requires-clause-seat
read_next-requires-clause-seat g c = is_of_after c.args.self.now _ c.args.seat.now c.loop-place.seat
    c.requires.seat c.loop-place.invariant.2.goes

pub read_next-requires-clause-place : goal.read_next-requires-clause-place
read_next-requires-clause-place g c =
    let len = c.loop-place.invariant.1 in
    let read = ap length c.loop-place.invariant.2.reads in omega arith

pub read_next-requires-clause-more : goal.read_next-requires-clause-more
read_next-requires-clause-more g c =
    let len = c.loop-place.invariant.1 in
    let read = ap length c.loop-place.invariant.2.reads in
    let shape = c.self.invariant.same ∙ ap (λ (d : DomainState _). d.shape) c.self.view_is in
    let seats = ap (λ (z : Shape). z.seats) shape in
    not_last c.args.self.now.shape c.loop-place.seat.view.core (omega arith)

pub loop-place-preserved : goal.loop-place-preserved
loop-place-preserved g c =
    let seen = c.loop-place.invariant.0 in
    let len = c.loop-place.invariant.1 in
    let shape = c.self.invariant.same ∙ ap (λ (d : DomainState _). d.shape) c.self.view_is in
    let seats = ap (λ (z : Shape). z.seats) shape in
    let more = length-append seen (c.read_next.ensures.word ∷ []) in (
      seen ++ c.read_next.ensures.word ∷ [],
      omega arith,
      reads_more c.args.self.now seen c.args.seat.now c.loop-place.seat c.read_next.new.seat c.read_next.result
          c.loop-place.invariant.2 (omega arith) c.read_next.ensures,
    )
