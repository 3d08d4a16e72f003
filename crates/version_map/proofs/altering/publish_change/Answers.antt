use Rattle.std.proofs.Common.{sym, ◌∙◌}
use Rattle.std.proofs.lemmas.Result.{err_from_is_err_and}
use Rattle.version_map.proofs.Altered.{answer_none, done_absent, done_published, lost_another, may_publish}
use Rattle.version_map.proofs.altering.publish_change.Goals as goal

pub publish-requires-clause-version : goal.publish-requires-clause-version
publish-requires-clause-version c =
    may_publish c.args.root c.args.tree c.args.update c.args.seat.now c.requires.altered

pub returns-then-changes_nothing-clause-done : goal.returns-then-changes_nothing-clause-done
returns-then-changes_nothing-clause-done c =
    let nothing = sym c.changes_nothing.ensures ∙ c.if-changes_nothing.true in
    done_absent c.args.domain.now c.args.cell c.args.root c.args.tree c.args.update c.args.seat.now
    c.leave_version.new.seat c.requires.altered
    (answer_none c.args.update.change c.args.update.answer nothing)
    c.in_ok-leave_version.ensures.still nothing c.in_ok-leave_version.ensures.keeps.grows.entries

pub returns-in_err-publish-clause-another : goal.returns-in_err-publish-clause-another
returns-in_err-publish-clause-another c =
    let p = err_from_is_err_and c.from_residual-in_err-publish.result
    c.from_residual-in_err-publish.ensures.1 in
    rw (p.1, p.2) (lost_another c.args.domain.now c.args.cell c.args.root c.args.tree c.args.update
    c.in_err-publish.field-0.0 c.args.seat.now c.publish.new.seat c.in_err-publish.ensures.lost
    c.in_err-publish.ensures.entries)

pub returns-clause-done : goal.returns-clause-done
returns-clause-done c =
    done_published c.args.domain.now c.args.cell c.args.root c.args.tree c.args.update
    c.args.seat.now c.publish.new.seat c.in_ok-publish.ensures.published
    c.in_ok-publish.ensures.entries (sym c.changes_nothing.ensures ∙ c.if-changes_nothing.false)
