use Rattle.cdrc.proofs.Below.control_word_NotedBack.{none_still}
use Rattle.example_threads.proofs.stack.push_all.Goals as goal

pub push-requires-clause-free : goal.push-requires-clause-free
push-requires-clause-free g c = record {
  rest = c.make_node.ensures.rest;
  none = none_still c.loop-number.seat.view.core c.make_node.new.seat.view.core
      c.make_node.ensures.notes c.loop-number.invariant.none;
  room = c.make_node.ensures.room;
}
