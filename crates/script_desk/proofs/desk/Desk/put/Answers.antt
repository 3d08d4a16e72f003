use Rattle.script_desk.proofs.Placing.{kept_put}
use Rattle.script_desk.proofs.desk.Desk.put.Goals as goal

pub invariant_of-self-2 : goal.invariant_of-self-2
invariant_of-self-2 c =
    kept_put _ _ _ _ _ _ c.self.invariant c.args.self.now c.self.view_is c.place-at.result c.args.place.now c.args.name.now c.slot-slot.result
    c.put.new.heap c.unbind.new.self c.unbind.result c.place-at.ensures.kind c.requires.bound c.slot-slot.ensures c.in_ok-put.ensures.puts
    c.unbind.ensures.was c.unbind.ensures.fewer
