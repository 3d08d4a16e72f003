use Rattle.std.proofs.Common.{arith, sym, ◌∙◌, subst, ◌+◌, ◌*◌}
use Rattle.std.specs.Prelude.{None}
use Rattle.version_making.specs.atomic_shared.Places.{named}
use Rattle.version_making.specs.Building.{height_by}
use Rattle.version_changes.specs.Changing.{IsRefusal}
use Rattle.version_map.specs.Updating.{IsStopped}
use Rattle.version_map.proofs.Altered.{another_before, done_before, moved_another, not_longer}
use Rattle.version_map.proofs.Joined.{given_keeps, has_altered, owns_roots, refused_keeps, refused_why, same_kid, version_keeps}
use Rattle.version_map.proofs.altering.change_version.Goals as goal

pub change_copy-requires-clause-tree : goal.change_copy-requires-clause-tree
change_copy-requires-clause-tree c = c.requires.low.tree

pub publish_change-requires-clause-ready : goal.publish_change-requires-clause-ready
publish_change-requires-clause-ready c =
    (c.in-Ok.ensures.ready, c.in-Ok.ensures.keeps.grows.cleared ∙ c.requires.ready.1)

pub publish_change-requires-clause-owned : goal.publish_change-requires-clause-owned
publish_change-requires-clause-owned c = (
  owns_roots c.args.root c.in-Ok.field-0.tree (height_by c.args.root c.args.seat.now)
      c.args.seat.now c.change_copy.new.seat c.requires.owned c.in-Ok.ensures.keeps,
  c.requires.low.inside,
)

pub publish_change-requires-clause-altered : goal.publish_change-requires-clause-altered
publish_change-requires-clause-altered c =
    has_altered c.args.root c.in-Ok.field-0.tree (height_by c.args.root c.args.seat.now)
    c.args.seat.now c.change_copy.new.seat c.requires.owned c.in-Ok.ensures.keeps c.args.key
    c.args.change c.in-Ok.field-0.answer c.requires.low.low c.in-Ok.ensures.changed

pub returns-in-Ok-publish_change-clause-done : goal.returns-in-Ok-publish_change-clause-done
returns-in-Ok-publish_change-clause-done c =
    done_before c.args.seat.now c.change_copy.new.seat c.publish_change.new.seat
    c.in-Ok.ensures.keeps.goes c.in-Ok.ensures.keeps.grows c.args.domain.now c.args.cell c.args.key
    c.args.change c.in-Ok-publish_change.answer c.in-Ok-publish_change.ensures.done

pub returns-in-Ok-publish_change-clause-keeps : goal.returns-in-Ok-publish_change-clause-keeps
returns-in-Ok-publish_change-clause-keeps c =
    version_keeps c.args.root c.in-Ok.field-0.tree (height_by c.args.root c.args.seat.now)
    c.args.seat.now c.change_copy.new.seat c.requires.owned c.in-Ok.ensures.keeps
    c.publish_change.new.seat c.publish_change.ensures.keeps

pub returns-in-Err-clause-stopped : goal.returns-in-Err-clause-stopped
returns-in-Err-clause-stopped c =
    subst (λ e. IsStopped c.args.domain.now c.args.cell (named c.args.root) e c.args.seat.now
    c.publish_change.new.seat) (sym c.again.ensures)
    (another_before c.args.seat.now c.change_copy.new.seat c.publish_change.new.seat
    c.in-Ok.ensures.keeps.goes c.in-Ok.ensures.keeps.grows c.args.cell (named c.args.root)
    c.in-Err.lost c.in-Err.ensures.another)

pub returns-in-Err-clause-keeps : goal.returns-in-Err-clause-keeps
returns-in-Err-clause-keeps c =
    version_keeps c.args.root c.in-Ok.field-0.tree (height_by c.args.root c.args.seat.now)
    c.args.seat.now c.change_copy.new.seat c.requires.owned c.in-Ok.ensures.keeps
    c.publish_change.new.seat c.publish_change.ensures.keeps

-- TOO LONG A WAY was found
pub leave_version-requires-clause-owned : goal.leave_version-requires-clause-owned
leave_version-requires-clause-owned c =
    owns_roots c.args.root None (height_by c.args.root c.args.seat.now) c.args.seat.now
    c.change_copy.new.seat c.requires.owned c.in-Err-TooLong.ensures.keeps

pub unreachable-requires : goal.unreachable-requires
unreachable-requires c =
    not_longer c.args.domain.now c.args.cell c.args.root c.args.seat.now c.change_copy.new.seat
    c.leave_version.new.seat
    (same_kid c.args.root None (height_by c.args.root c.args.seat.now) c.args.seat.now
    c.change_copy.new.seat c.requires.owned c.in-Err-TooLong.ensures.keeps)
    (subst (λ w. IsRefusal c.args.domain.now w c.args.root
    (height_by c.args.root c.args.seat.now) c.args.seat.now c.change_copy.new.seat)
    c.in-Err-TooLong.field-0-is c.in-Err-TooLong.ensures.why)
    c.in-Ok-leave_version.ensures.still

pub returns-in-Err-leave_version-clause-stopped : goal.returns-in-Err-leave_version-clause-stopped
returns-in-Err-leave_version-clause-stopped c =
    subst (λ e. IsStopped c.args.domain.now c.args.cell (named c.args.root) e c.args.seat.now
    c.leave_version.new.seat) (sym c.again-in-Err-leave_version.ensures)
    (another_before c.args.seat.now c.change_copy.new.seat c.leave_version.new.seat
    c.in-Err-TooLong.ensures.keeps.goes c.in-Err-TooLong.ensures.keeps.grows c.args.cell
    (named c.args.root) c.in-Err-leave_version.lost
    (moved_another c.args.domain.now c.args.cell c.args.root c.in-Err-leave_version.lost
    c.change_copy.new.seat c.leave_version.new.seat c.in-Err-leave_version.ensures.moved
    c.leave_version.ensures.keeps.grows.entries))

pub returns-in-Err-leave_version-clause-keeps : goal.returns-in-Err-leave_version-clause-keeps
returns-in-Err-leave_version-clause-keeps c =
    given_keeps c.args.root None (height_by c.args.root c.args.seat.now) c.args.seat.now
    c.change_copy.new.seat c.requires.owned c.in-Err-TooLong.ensures.keeps
    c.leave_version.new.seat c.leave_version.ensures.keeps

pub returns-in-Err-leave_version-clause-open : goal.returns-in-Err-leave_version-clause-open
returns-in-Err-leave_version-clause-open c =
    c.leave_version.ensures.keeps.grows.cleared
    ∙ (c.in-Err-TooLong.ensures.keeps.grows.cleared ∙ c.requires.ready.1)

-- REFUSED
pub give_up-requires-clause-owned : goal.give_up-requires-clause-owned
give_up-requires-clause-owned c x =
    let o = owns_roots c.args.root None (height_by c.args.root c.args.seat.now) c.args.seat.now
    c.change_copy.new.seat c.requires.owned c.in-Err-Refused.ensures.keeps x in omega (arith, o)

pub returns-in-Err-Refused-clause-stopped : goal.returns-in-Err-Refused-clause-stopped
returns-in-Err-Refused-clause-stopped c =
    rw c.in-Err-Refused.field-0-is (refused_why c.args.domain.now c.in-Err-Refused.why c.args.root
    (height_by c.args.root c.args.seat.now * 3 + 1) (height_by c.args.root c.args.seat.now * 15 + 2)
    c.args.seat.now c.change_copy.new.seat c.give_up.new.seat c.in-Err-Refused.ensures.keeps
    c.give_up.ensures.keeps
    (subst (λ w. IsRefusal c.args.domain.now w c.args.root
    (height_by c.args.root c.args.seat.now) c.args.seat.now c.change_copy.new.seat)
    c.in-Err-Refused.field-0-is c.in-Err-Refused.ensures.why))

pub returns-in-Err-Refused-clause-keeps : goal.returns-in-Err-Refused-clause-keeps
returns-in-Err-Refused-clause-keeps c =
    refused_keeps c.args.root (height_by c.args.root c.args.seat.now * 3 + 1)
    (height_by c.args.root c.args.seat.now * 15 + 2) c.args.seat.now c.change_copy.new.seat
    c.give_up.new.seat c.in-Err-Refused.ensures.keeps c.give_up.ensures.keeps

pub returns-in-Err-Refused-clause-open : goal.returns-in-Err-Refused-clause-open
returns-in-Err-Refused-clause-open c =
    c.give_up.ensures.keeps.grows.cleared
    ∙ (c.in-Err-Refused.ensures.keeps.grows.cleared ∙ c.requires.ready.1)
