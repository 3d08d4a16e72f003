use Rattle.std.proofs.Common.{refl, subst}
use Rattle.std.specs.Prelude.{Option}
use Rattle.lane_work.specs.Keeping.{Admits}
use Rattle.lane_work.specs.counted_handles.Handles.{Handle}
use Rattle.cell_lanes.proofs.Owning.{keeps_none, keeps_one}
use Rattle.cell_lanes.proofs.keeping.keep.Goals as goal

pub returns-in-Ok-None-clause-keeps : goal.returns-in-Ok-None-clause-keeps
returns-in-Ok-None-clause-keeps c =
    keeps_one c.args.handle c.args.keeper.now c.admit.new.self c.args.seat.now c.args.seat.now
    (subst (λ (o : Option Handle). Admits c.args.handle o c.args.keeper.now c.admit.new.self)
    c.in-Ok-None.field-0-is c.in-Ok-None.ensures.admits) c.requires.owned refl

pub returns-in-Ok-Some-clause-keeps : goal.returns-in-Ok-Some-clause-keeps
returns-in-Ok-Some-clause-keeps c =
    keeps_none c.args.handle c.args.keeper.now c.admit.new.self c.args.seat.now c.give_up.new.seat
    c.in-Ok-Some.handle
    (subst (λ (o : Option Handle). Admits c.args.handle o c.args.keeper.now c.admit.new.self)
    c.in-Ok-Some.field-0-is c.in-Ok-Some.ensures.admits) c.requires.owned
    c.give_up.ensures.gives
