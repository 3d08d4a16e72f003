use Rattle.std.proofs.Common.{◌∙◌, sym}
use Rattle.script_desk.proofs.Sums.{has_bound, kept_fewer}
use Rattle.script_desk.proofs.Gaining.{gives_fewer}
use Rattle.script_desk.proofs.desk.Desk.give.Goals as goal

pub give_up-requires : goal.give_up-requires
give_up-requires c =
    has_bound c.self.inside.heap c.self.inside.names c.args.name.now c.in-Some.handle c.self.invariant.holds (sym c.unbind.ensures.was ∙ c.in-Some.is)

pub invariant_of-self : goal.invariant_of-self
invariant_of-self c =
    kept_fewer _ _ _ _ _ c.self.invariant c.give_up.new.heap c.in-Some.handle c.unbind.new.self
    (gives_fewer c.self.inside.heap c.give_up.new.heap c.in-Some.handle c.give_up.ensures) c.in-Some.ensures.fewer
