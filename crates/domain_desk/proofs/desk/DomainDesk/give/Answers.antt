use Rattle.domain_desk.proofs.GivenUp.{found_given, has_found}
use Rattle.domain_desk.proofs.Keeping.{kept_given}
use Rattle.domain_desk.proofs.desk.DomainDesk.give.Goals as goal

pub give_up-requires-clause-has : goal.give_up-requires-clause-has
give_up-requires-clause-has c =
    has_found _ _ c.self.view_is c.requires.kept c.args.name.now c.unbind.result c.in-Some.handle
    c.unbind.ensures.was c.in-Some.is

pub returns-clause-gives : goal.returns-clause-gives
returns-clause-gives c =
    found_given _ _ c.self.view_is c.requires.kept c.args.name.now c.unbind.result c.in-Some.handle
    c.unbind.ensures.was c.in-Some.is c.give_up.new.seat c.give_up.new.words c.unbind.new.self
    c.unbind.ensures.binds c.give_up.ensures.gives

pub returns-clause-kept : goal.returns-clause-kept
returns-clause-kept c =
    kept_given _ _ c.self.view_is c.requires.kept c.give_up.new.seat c.give_up.new.words
    c.unbind.new.self c.give_up.ensures.ready c.give_up.ensures.noted c.in-Some.handle
    c.give_up.ensures.gives c.in-Some.ensures.fewer
