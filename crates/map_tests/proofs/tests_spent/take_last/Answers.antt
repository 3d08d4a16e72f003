use Rattle.std.proofs.lemmas.List.Elements.{All-pop}
use Rattle.map_life.specs.version_map.Playing.{Plays}
use Rattle.map_tests.proofs.tests_spent.take_last.Goals as goal

pub returns : goal.returns
returns c =
    let both = All-pop (Plays c.args.domain.now) c.args.seats.now.items c.pop.new.self.items
    c.pop.result c.pop.ensures.items c.requires in
    record { seats = both.0; last = both.1 }
