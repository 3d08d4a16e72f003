use Rattle.script_desk.specs.Places.{event_place}
use Rattle.script_desk.proofs.Desking.{open_found}
use Rattle.script_desk.proofs.desk.Desk.place.Goals as goal

pub returns-clause-opened : goal.returns-clause-opened
returns-clause-opened c =
    open_found _ _ _ _ _ _ c.self.invariant _ c.self.view_is c.args.place.now c.place_of.result
    (event_place c.of.result) c.requires.range c.requires.needs c.place_of.ensures c.of.ensures
