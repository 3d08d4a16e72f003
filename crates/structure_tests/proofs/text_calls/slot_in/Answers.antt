use Rattle.std.proofs.Common.{ap, arith, ◌+◌}
use Rattle.part_calls.specs.core_events.declared.view.CoreView.{CoreView}
use Rattle.weak_intern.specs.directory_calls.Steps.{aside}
use Rattle.weak_intern.proofs.Below.text_reading_LetGo.{least_there}
use Rattle.weak_intern.proofs.Looked.{look_sighted}
use Rattle.structure_tests.proofs.Seen.{owned_after, under_after}
use Rattle.structure_tests.proofs.text_calls.slot_in.Goals as goal

pub see-requires-clause-free : goal.see-requires-clause-free
see-requires-clause-free g c =
    least_there c.args.seat.now.view.core 1
    (omega arith, omega arith, c.requires.ready.none 1)

pub let_go-requires-clause-sighted : goal.let_go-requires-clause-sighted
let_go-requires-clause-sighted g c =
    look_sighted (c.args.domain.now.protocol.first + c.args.cell) c.args.seat.now c.see.new.seat
    c.see.result c.see.ensures.sights c.see.ensures.objects c.in_ok-head.head c.in_ok-head.was

pub returns-clause-owns : goal.returns-clause-owns
returns-clause-owns g c =
    owned_after (c.args.domain.now.protocol.first + c.args.cell) c.args.seat.now c.see.new.seat
    c.see.result c.see.ensures.sights c.see.ensures.objects c.in_ok-head.head c.in_ok-head.was c.let_go.new.seat
    (ap (λ (v : CoreView). v.owned) c.let_go.ensures.core)

pub returns-clause-ready : goal.returns-clause-ready
returns-clause-ready g c = record {
  rest = c.let_go.ensures.rest;
  none = under_after (c.args.domain.now.protocol.first + c.args.cell) c.args.seat.now c.see.new.seat
      c.see.result c.see.ensures.sights c.see.ensures.objects c.in_ok-head.head c.in_ok-head.was c.let_go.new.seat
      (ap aside c.let_go.ensures.core) c.requires.ready.none;
  room = c.let_go.ensures.room c.see.ensures.room;
}
