use Rattle.std.proofs.Common.{ap, subst, sym}
use Rattle.acquire_retire.specs.core_events.declared.view.CoreView.{CoreView}
use Rattle.acquire_retire.specs.core_events.Steps.{HasRoom}
use Rattle.control_word.proofs.WeaklyDropping.{drop_freed, drop_left}
use Rattle.control_word.proofs.weak_handles.drop_weak.Goals as goal

pub returns-in-Last : goal.returns-in-Last
returns-in-Last g c =
    let r = drop_freed c.args.domain.now c.args.seat.now c.args.weak.slot c.slot.result
    c.slot.ensures c.requires.owned c.requires.rest c.wdrop.new.seat c.free.new.seat c.wdrop.result
    c.free.result c.wdrop.ensures c.in-Last.is c.free.ensures in
    record {
      dropped = r.0;
      client = r.1;
      notes = ap (λ (v : CoreView). v.notes) r.0.1.core;
      objects = r.2;
      room = subst HasRoom (sym r.0.1.core);
      rest = r.3;
    }

pub returns-in_default : goal.returns-in_default
returns-in_default g c =
    let r = drop_left c.args.domain.now c.args.seat.now c.args.weak.slot c.slot.result
    c.slot.ensures c.requires.owned c.requires.rest c.wdrop.new.seat c.wdrop.result c.wdrop.ensures
    c.in_default.not-Last in
    record {
      dropped = r.0;
      client = r.1;
      notes = ap (λ (v : CoreView). v.notes) r.0.1.core;
      objects = r.2;
      room = subst HasRoom (sym r.0.1.core);
      rest = r.3;
    }
