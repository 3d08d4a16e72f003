use Rattle.control_word.proofs.Dropping.{drop_finished, drop_left, drop_taken, drops_notes, drops_owned, drops_room}
use Rattle.control_word.proofs.strong_handles.drop_strong.Goals as goal

pub returns-in-Help : goal.returns-in-Help
returns-in-Help g c =
    let r = drop_taken c.args.domain.now c.args.seat.now c.args.handle.slot c.slot.result
    c.slot.ensures c.requires.owned c.requires.rest c.drop.new.seat c.finish.new.seat
    c.take.new.seat c.drop.result c.finish.result c.take.result c.drop.ensures c.in-Zeroed.is
    c.finish.ensures c.in-Help.is c.take.ensures in
    record {
      dropped = r.0;
      others = drops_owned c.args.domain.now c.args.handle.slot c.args.seat.now c.take.new.seat r.0
          c.requires.owned;
      client = r.1;
      notes = drops_notes c.args.domain.now c.args.handle.slot c.args.seat.now c.take.new.seat r.0;
      objects = r.2;
      room = drops_room c.args.domain.now c.args.handle.slot c.args.seat.now c.take.new.seat r.0;
      rest = r.3;
    }

pub returns-in_default-finish : goal.returns-in_default-finish
returns-in_default-finish g c =
    let r = drop_finished c.args.domain.now c.args.seat.now c.args.handle.slot c.slot.result
    c.slot.ensures c.requires.owned c.requires.rest c.drop.new.seat c.finish.new.seat c.drop.result
    c.finish.result c.drop.ensures c.in-Zeroed.is c.finish.ensures
    c.in_default-finish.not-Help in
    record {
      dropped = r.0;
      others = drops_owned c.args.domain.now c.args.handle.slot c.args.seat.now c.finish.new.seat r.0
          c.requires.owned;
      client = r.1;
      notes = drops_notes c.args.domain.now c.args.handle.slot c.args.seat.now c.finish.new.seat r.0;
      objects = r.2;
      room = drops_room c.args.domain.now c.args.handle.slot c.args.seat.now c.finish.new.seat r.0;
      rest = r.3;
    }

pub returns-in_default : goal.returns-in_default
returns-in_default g c =
    let r = drop_left c.args.domain.now c.args.seat.now c.args.handle.slot c.slot.result
    c.slot.ensures c.requires.owned c.requires.rest c.drop.new.seat c.drop.result c.drop.ensures
    c.in_default.not-Zeroed in
    record {
      dropped = r.0;
      others = drops_owned c.args.domain.now c.args.handle.slot c.args.seat.now c.drop.new.seat r.0
          c.requires.owned;
      client = r.1;
      notes = drops_notes c.args.domain.now c.args.handle.slot c.args.seat.now c.drop.new.seat r.0;
      objects = r.2;
      room = drops_room c.args.domain.now c.args.handle.slot c.args.seat.now c.drop.new.seat r.0;
      rest = r.3;
    }
