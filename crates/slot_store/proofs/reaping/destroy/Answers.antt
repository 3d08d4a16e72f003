use Rattle.slot_store.proofs.Destroying.{destroyed_freed, destroyed_left}
use Rattle.slot_store.proofs.reaping.destroy.Goals as goal

pub returns-in-Last : goal.returns-in-Last
returns-in-Last g c =
    let r = destroyed_freed c.args.domain.now c.args.slot c.args.seat.now c.requires.rest
    c.destroy.new.seat c.free.new.seat c.destroy.result c.free.result c.destroy.ensures
    c.in-Last.is c.free.ensures in
    record { destroys = r.0; same = r.1; client = r.2; retired = r.3; objects = r.4; rest = r.5 }

pub returns-in_default : goal.returns-in_default
returns-in_default g c =
    let r = destroyed_left c.args.domain.now c.args.slot c.args.seat.now c.requires.rest
    c.destroy.new.seat c.destroy.result c.destroy.ensures c.in_default.not-Last in
    record { destroys = r.0; same = r.1; client = r.2; retired = r.3; objects = r.4; rest = r.5 }
