use Rattle.cdrc.specs.plain_state.declared.act.EventPlace.TheVariants.{Cell}
use Rattle.example_setting.specs.Deeds.{ReadTells}
use Rattle.example_setting.proofs.Putting.{all_put}
use Rattle.example_setting.proofs.Readings.{all_reads, stored_still, taken_from}
use Rattle.example_setting.proofs.reading.read_value.Goals as goal

pub returns-clause-read : goal.returns-clause-read
returns-clause-read g c =
    all_reads g.K.PayloadKind.fits c.args.domain.now (Cell c.args.cell)
    (ReadTells c.args.domain.now.protocol.cell) c.args.seat.now c.requires.rest
    c.try_snapshot.new.seat c.try_snapshot.result c.try_snapshot.ensures.taken

pub returns-clause-taken : goal.returns-clause-taken
returns-clause-taken g c =
    taken_from g.K.PayloadKind.fits c.args.domain.now c.args.cell c.args.domain.now.protocol.cell
    c.requires.cell c.args.seat.now c.try_snapshot.new.seat c.try_snapshot.result
    c.try_snapshot.ensures.taken

pub returns-clause-put : goal.returns-clause-put
returns-clause-put g c =
    all_put g.K.PayloadKind.fits c.args.domain.now c.args.domain.now.protocol.cell
    c.args.seat.now c.try_snapshot.new.seat c.try_snapshot.result
    (taken_from g.K.PayloadKind.fits c.args.domain.now c.args.cell
    c.args.domain.now.protocol.cell c.requires.cell c.args.seat.now c.try_snapshot.new.seat
    c.try_snapshot.result c.try_snapshot.ensures.taken)

pub returns-clause-stored : goal.returns-clause-stored
returns-clause-stored g c =
    stored_still g.K.PayloadKind.fits c.args.domain.now (Cell c.args.cell)
    (ReadTells c.args.domain.now.protocol.cell) c.args.seat.now c.requires.rest
    c.try_snapshot.new.seat c.try_snapshot.result c.try_snapshot.ensures.refused
    c.try_snapshot.ensures.taken c.try_snapshot.ensures.moved
