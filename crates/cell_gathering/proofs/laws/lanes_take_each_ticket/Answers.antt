use Rattle.cell_gathering.proofs.Shares.{each_ticket}
use Rattle.cell_gathering.proofs.laws.lanes_take_each_ticket.Goals as goal

pub returns : goal.returns
returns c = each_ticket
