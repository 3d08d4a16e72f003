use Rattle.cell_lanes.proofs.Shares.{lanes_share}
use Rattle.cell_lanes.proofs.laws.lanes_share_tickets.Goals as goal

pub returns : goal.returns
returns c = λ work lanes number_of some. lanes_share work lanes some number_of
