use Rattle.ticket_shares.proofs.Lanes.{each_ticket}
use Rattle.ticket_shares.proofs.laws.lanes_draw_each_ticket.Goals as goal

pub returns : goal.returns
returns c = each_ticket
