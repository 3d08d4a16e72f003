use Rattle.core_views.proofs.seat.OwnView.may.Goals as goal

pub returns-in-Leave : goal.returns-in-Leave
returns-in-Leave c = rw (c.in-Leave.is, ← c.self.view_is) c.can_let_leave.ensures
