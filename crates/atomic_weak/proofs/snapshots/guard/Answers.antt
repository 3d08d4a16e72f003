use Rattle.atomic_weak.proofs.Telling.{zeroed}
use Rattle.atomic_weak.proofs.ByWord.{finds_alive, finds_none, may_ask, prepares}
use Rattle.atomic_weak.proofs.snapshots.guard.Goals as goal

pub alive-requires-clause-may : goal.alive-requires-clause-may
alive-requires-clause-may g c =
    may_ask c.args.domain.now c.args.word c.args.slot c.args.seat.now c.announce.new.seat
    c.requires.may c.announce.result c.announce.ensures

pub alive-requires-clause-deed : goal.alive-requires-clause-deed
alive-requires-clause-deed g c =
    c.requires.deed c.announce.new.seat
    (prepares c.args.domain.now c.args.word c.args.slot c.args.seat.now c.announce.new.seat
    c.requires.may c.announce.result c.announce.ensures)

pub returns-in-Alive : goal.returns-in-Alive
returns-in-Alive g c = (
  c.by.ensures.slot,
  c.by.ensures.word,
  finds_alive c.args.domain.now c.args.word c.args.slot c.args.seat.now c.announce.new.seat
      c.requires.may c.announce.result c.announce.ensures c.alive.new.seat
      (c.in-Alive.ensures {u = tt}) c.release.new.seat c.release.result c.release.ensures,
)

pub returns : goal.returns
returns g c =
    finds_none c.args.domain.now c.args.word c.args.slot c.args.seat.now c.announce.new.seat
    c.requires.may c.announce.result c.announce.ensures c.alive.new.seat
    (zeroed c.args.domain.now c.alive.ensures c.in_default.not-Alive) c.release-2.new.seat
    c.release-3.new.seat c.release-2.result c.release-3.result c.release-2.ensures
    c.release-3.ensures
