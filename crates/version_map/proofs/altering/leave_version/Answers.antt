use Rattle.version_map.proofs.Joined.{left_keeps, left_moves, left_stills}
use Rattle.version_map.proofs.altering.leave_version.Goals as goal

pub returns-clause-still : goal.returns-clause-still
returns-clause-still c =
    left_stills c.args.root c.args.tree c.args.seat.now c.give_up.new.seat
    c.still_root-looked.new.seat c.give_up-2.new.seat c.requires.owned c.give_up.ensures.keeps
    c.still_root-looked.ensures.keeps c.give_up-2.ensures.keeps c.args.domain.now c.args.cell
    c.still_root-looked.result c.still_root-looked.ensures.still

pub returns-clause-moved : goal.returns-clause-moved
returns-clause-moved c =
    left_moves c.args.root c.args.tree c.args.seat.now c.give_up.new.seat
    c.still_root-looked.new.seat c.give_up-2.new.seat c.requires.owned c.give_up.ensures.keeps
    c.still_root-looked.ensures.keeps c.give_up-2.ensures.keeps c.args.domain.now c.args.cell
    c.still_root-looked.result c.still_root-looked.ensures.moved

pub returns-clause-keeps : goal.returns-clause-keeps
returns-clause-keeps c =
    left_keeps c.args.root c.args.tree c.args.seat.now c.give_up.new.seat
    c.still_root-looked.new.seat c.give_up-2.new.seat c.requires.owned c.give_up.ensures.keeps
    c.still_root-looked.ensures.keeps c.give_up-2.ensures.keeps
