use Rattle.core_views.proofs.holdings.Holdings.announces_nothing.Goals as goal

pub returns : goal.returns
returns c = rw (← c.self.view_is) c.are_idle.ensures
