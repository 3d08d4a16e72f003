use Rattle.std.proofs.Common.{subst}
use Rattle.version_reading.proofs.LastLook.{Looks, last_knows, last_map, last_reads, last_rests, last_saw}
use Rattle.version_reading.proofs.root.look_at_root.Goals as goal

pub returns-in-Found-clause-map : goal.returns-in-Found-clause-map
returns-in-Found-clause-map c =
    last_map c.args.domain.now c.args.cell c.requires.over.law c.args.seat.now c.look.new.seat c.in-Found.found
    (subst (Looks c.args.domain.now c.args.cell c.args.seat.now c.look.new.seat) c.in-Found.is
    c.look.ensures)

pub returns-in-Found-clause-saw : goal.returns-in-Found-clause-saw
returns-in-Found-clause-saw c =
    last_saw c.args.domain.now c.args.cell c.requires.over.law c.args.seat.now c.look.new.seat c.in-Found.found
    (subst (Looks c.args.domain.now c.args.cell c.args.seat.now c.look.new.seat) c.in-Found.is
    c.look.ensures)

pub returns-in-Found-clause-reads : goal.returns-in-Found-clause-reads
returns-in-Found-clause-reads c =
    last_reads c.args.domain.now c.args.cell c.requires.over.law c.args.seat.now c.look.new.seat c.in-Found.found
    (subst (Looks c.args.domain.now c.args.cell c.args.seat.now c.look.new.seat) c.in-Found.is
    c.look.ensures)

pub returns-in-Found-clause-knows : goal.returns-in-Found-clause-knows
returns-in-Found-clause-knows c =
    last_knows c.args.domain.now c.args.cell c.requires.over.law c.args.seat.now c.look.new.seat c.in-Found.found
    (subst (Looks c.args.domain.now c.args.cell c.args.seat.now c.look.new.seat) c.in-Found.is
    c.look.ensures)

pub returns-in-Found-clause-rest : goal.returns-in-Found-clause-rest
returns-in-Found-clause-rest c =
    last_rests c.args.domain.now c.args.cell c.requires.over.law c.args.seat.now c.look.new.seat c.in-Found.found
    (subst (Looks c.args.domain.now c.args.cell c.args.seat.now c.look.new.seat) c.in-Found.is
    c.look.ensures) c.requires.rest
