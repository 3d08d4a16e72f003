use Rattle.epoch_players.specs.Plays.{Plays}
use Rattle.epoch_thread_tests.proofs.beside.prepare.Given as goal

abbrev pub invariant-loop-cell : goal.invariant-loop-cell
invariant-loop-cell l =
    Plays l.domain l.writer.seat l.writer.strongs.items l.writer.seen.items l.writer.inside
    × Plays l.domain l.reader.seat l.reader.strongs.items l.reader.seen.items l.reader.inside
