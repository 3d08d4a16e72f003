use Rattle.core_views.proofs.seat.OwnView.can_leave.Goals as goal

pub returns : goal.returns
returns c = rw (← c.self.view_is) c.can_leave.ensures
