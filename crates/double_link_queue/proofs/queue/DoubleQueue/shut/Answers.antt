use Rattle.std.proofs.Common.{◌∙◌}
use Rattle.linked_queue.specs.queue_law.Views.{first_view}
use Rattle.weak_part_calls.proofs.Below.part_calls_Beside.{stays_beside}
use Rattle.std.specs.Prelude.{None}
use Rattle.weak_part_calls.specs.part_calls.Parts.{seen_by}
use Rattle.linked_queue.proofs.Poppings.{leaves_then}
use Rattle.double_link_queue.proofs.queue.DoubleQueue.shut.Goals as goal

pub returns-clause-beside : goal.returns-clause-beside
returns-clause-beside g c =
    stays_beside g.P.Part.seen g.P.Part.with_seen first_view g.P.Part.puts_back
    g.P.Part.puts_over c.args.root.now c.shut_tail.new.seat
    (c.shut_tail.ensures.beside_part ∙ c.shut_head.ensures.beside_part)

pub returns-clause-leaves : goal.returns-clause-leaves
returns-clause-leaves g c =
    leaves_then None (seen_by g.P.Part.seen c.args.root.now)
    (seen_by g.P.Part.seen c.shut_head.new.seat) (seen_by g.P.Part.seen c.shut_tail.new.seat)
    c.shut_head.ensures.leaves c.shut_tail.ensures.leaves
