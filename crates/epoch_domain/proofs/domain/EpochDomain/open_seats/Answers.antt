use Rattle.epoch_domain.proofs.Openings.{first_seated, in_ranges}
use Rattle.epoch_domain.proofs.domain.EpochDomain.open_seats.Goals as goal

pub new_seat-requires-clause-seated : goal.new_seat-requires-clause-seated
new_seat-requires-clause-seated g c =
    let d = c.args.self.now in
    first_seated (g.P.Protocol.first d.protocol) d
    (in_ranges d _ _ c.self.view_is c.self.invariant) _ c.open_others.new.root
    c.in_ok-seats.ensures.root
