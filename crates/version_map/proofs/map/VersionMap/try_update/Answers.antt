use Rattle.std.proofs.Common.{ap, ◌∙◌}
use Rattle.std.specs.Prelude.{Err}
use Rattle.version_updates.specs.Roots.{LowTells}
use Rattle.version_map.proofs.Joined.{load_dones, load_leaves, load_owned, load_spent, load_undones, none_leaves}
use Rattle.version_map.proofs.Playing.{plays_after_one}
use Rattle.version_map.proofs.Updates.{again_missed, saw_load}
use Rattle.version_map.proofs.map.VersionMap.try_update.Goals as goal

pub load_low_root-requires-clause-ready : goal.load_low_root-requires-clause-ready
load_low_root-requires-clause-ready c = c.requires.ready.0

pub load_low_root-requires-clause-cell : goal.load_low_root-requires-clause-cell
load_low_root-requires-clause-cell c = (c.requires.over.law, c.requires.over.there)

pub adds_left-left-requires : goal.adds_left-left-requires
adds_left-left-requires c = c.in-Err-Spent.ensures.ready.rest.of_domain

pub change_version-requires-clause-ready : goal.change_version-requires-clause-ready
change_version-requires-clause-ready c =
    (c.in-Ok.ensures.ready, c.in-Ok.ensures.keeps.grows.cleared ∙ c.requires.ready.1)

pub change_version-requires-clause-cell : goal.change_version-requires-clause-cell
change_version-requires-clause-cell c = (c.requires.over.law, c.requires.over.there)

pub change_version-requires-clause-owned : goal.change_version-requires-clause-owned
change_version-requires-clause-owned c =
    load_owned c.in-Ok.root c.args.seat.now c.load_low_root.new.seat c.load_low_root.new.seat
    c.in-Ok.ensures.keeps

pub returns-in-Ok-clause-updated : goal.returns-in-Ok-clause-updated
returns-in-Ok-clause-updated c =
    load_dones c.in-Ok.root c.args.seat.now c.load_low_root.new.seat c.change_version.new.seat
    c.in-Ok.ensures.keeps c.args.domain.now c.args.self.now.cell c.args.key c.args.change
    c.change_version.result c.change_version.ensures.done

pub returns-in-Ok-clause-undone : goal.returns-in-Ok-clause-undone
returns-in-Ok-clause-undone c =
    load_undones c.in-Ok.root c.args.seat.now c.load_low_root.new.seat c.change_version.new.seat
    c.in-Ok.ensures.keeps c.args.domain.now c.args.self.now.cell
    (saw_load c.args.domain.now c.args.self.now.cell (LowTells c.args.domain.now.protocol.cell)
    c.args.seat.now c.load_low_root.new.seat c.in-Ok.root c.in-Ok.ensures.loaded)
    c.change_version.result c.change_version.ensures.stopped

pub returns-in-Ok-clause-leaves : goal.returns-in-Ok-clause-leaves
returns-in-Ok-clause-leaves c =
    load_leaves c.in-Ok.root c.args.seat.now c.load_low_root.new.seat c.change_version.new.seat
    c.in-Ok.ensures.keeps c.args.domain.now c.args.self.now.cell c.in-Ok.ensures.loaded
    c.change_version.ensures.keeps

pub returns-in-Err-Spent-clause-undone : goal.returns-in-Err-Spent-clause-undone
returns-in-Err-Spent-clause-undone c =
    load_spent c.args.domain.now c.args.self.now.cell c.args.seat.now c.load_low_root.new.seat
    c.in-Err-Spent.ensures.keeps c.adds_left-left.result c.adds_left-left.ensures
    (c.load_low_root.ensures.spent.0 (c.in-Err-Spent.is ∙ ap Err c.in-Err-Spent.field-0-is))

pub returns-in-Err-Spent-clause-leaves : goal.returns-in-Err-Spent-clause-leaves
returns-in-Err-Spent-clause-leaves c =
    none_leaves c.args.domain.now c.args.self.now.cell c.args.seat.now c.load_low_root.new.seat
    c.in-Err-Spent.ensures.keeps

pub returns-in-Err-Spent-clause-open : goal.returns-in-Err-Spent-clause-open
returns-in-Err-Spent-clause-open c =
    c.in-Err-Spent.ensures.keeps.grows.cleared ∙ c.requires.ready.1

pub returns-in-Err-Moved-clause-undone : goal.returns-in-Err-Moved-clause-undone
returns-in-Err-Moved-clause-undone c =
    rw c.in-Err-Moved.field-0-is (again_missed c.args.domain.now c.args.self.now.cell
    (LowTells c.args.domain.now.protocol.cell) c.args.seat.now c.load_low_root.new.seat
    c.in-Err-Moved.seen c.in-Err-Moved.now
    (c.load_low_root.ensures.moved c.in-Err-Moved.seen c.in-Err-Moved.now
    (c.in-Err-Moved.is ∙ ap Err c.in-Err-Moved.field-0-is))
    c.in-Err-Moved.ensures.keeps.grows.entries)

pub returns-in-Err-Moved-clause-leaves : goal.returns-in-Err-Moved-clause-leaves
returns-in-Err-Moved-clause-leaves c =
    none_leaves c.args.domain.now c.args.self.now.cell c.args.seat.now c.load_low_root.new.seat
    c.in-Err-Moved.ensures.keeps

pub returns-in-Err-Moved-clause-open : goal.returns-in-Err-Moved-clause-open
returns-in-Err-Moved-clause-open c =
    c.in-Err-Moved.ensures.keeps.grows.cleared ∙ c.requires.ready.1

pub returns-in-Ok-clause-plays : goal.returns-in-Ok-clause-plays
returns-in-Ok-clause-plays c = plays_after_one c.args.domain.now c.args.self.now.cell
    c.args.seat.now c.change_version.new.seat (returns-in-Ok-clause-leaves c)
    c.change_version.ensures.«open» c.change_version.ensures.ready

pub returns-in-Err-Spent-clause-plays : goal.returns-in-Err-Spent-clause-plays
returns-in-Err-Spent-clause-plays c = plays_after_one c.args.domain.now c.args.self.now.cell
    c.args.seat.now c.load_low_root.new.seat (returns-in-Err-Spent-clause-leaves c)
    (returns-in-Err-Spent-clause-open c) c.in-Err-Spent.ensures.ready

pub returns-in-Err-Moved-clause-plays : goal.returns-in-Err-Moved-clause-plays
returns-in-Err-Moved-clause-plays c = plays_after_one c.args.domain.now c.args.self.now.cell
    c.args.seat.now c.load_low_root.new.seat (returns-in-Err-Moved-clause-leaves c)
    (returns-in-Err-Moved-clause-open c) c.in-Err-Moved.ensures.ready
