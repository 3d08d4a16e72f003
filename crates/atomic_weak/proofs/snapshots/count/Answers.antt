use Rattle.atomic_weak.proofs.Telling.{dead, prepared_none}
use Rattle.atomic_weak.proofs.ByAdd.{finds_alive, finds_none, may_add}
use Rattle.atomic_weak.proofs.snapshots.count.Goals as goal

pub add-requires-clause-may : goal.add-requires-clause-may
add-requires-clause-may g c =
    may_add c.args.domain.now c.args.slot c.args.seat.now c.requires.may

pub add-requires-clause-deed : goal.add-requires-clause-deed
add-requires-clause-deed g c =
    c.requires.deed c.args.seat.now
    (prepared_none c.args.domain.now c.args.slot c.args.seat.now)

pub returns-in-Up : goal.returns-in-Up
returns-in-Up g c = (
  c.by.ensures.slot,
  c.by.ensures.word,
  finds_alive c.args.domain.now c.args.slot c.args.seat.now c.requires.may c.add.new.seat
      (c.in-Up.ensures {u = tt}) c.release.new.seat c.release.result c.release.ensures,
)

pub returns : goal.returns
returns g c =
    finds_none c.args.domain.now c.args.slot c.args.seat.now c.requires.may c.add.new.seat
    (dead c.args.domain.now c.add.ensures c.in_default.not-Up) c.release-2.new.seat
    c.release-2.result c.release-2.ensures
