use Rattle.std.proofs.Common.{arith, subst, sym}
use Rattle.std.proofs.lemmas.Result.{err_from_is_err_and}
use Rattle.std.specs.Prelude.{Some}
use Rattle.version_making.specs.Keeping.{none}
use Rattle.version_making.proofs.Taken.{one_owned}
use Rattle.version_changes.specs.Showing.{IsLonger}
use Rattle.version_changes.proofs.Refused.{too_long}
use Rattle.version_changes.proofs.Rests.{least_end, least_node}
use Rattle.version_changes.proofs.Owning.{first_owned, first_solid, less_one, level_keeps, level_refused, level_why, mend_why, owns_first, owns_mend, owns_right, right_tree}
use Rattle.version_changes.proofs.taking.+take_least.Goals as goal

pub give_up-requires-clause-owned : goal.give_up-requires-clause-owned
give_up-requires-clause-owned t c = one_owned c.args.node.slot c.args.seat.now c.requires.owned

pub returns-then-levels-eq0-clause-why : goal.returns-then-levels-eq0-clause-why
returns-then-levels-eq0-clause-why t c =
    subst (λ n. IsLonger (Some c.args.node) n c.args.seat.now c.give_up.new.seat)
    (sym c.if-levels-eq0.true)
    (too_long c.args.node c.args.seat.now c.give_up.new.seat _ none c.give_up.ensures.keeps
    c.requires.solid)

pub returns-in_default-clause-least : goal.returns-in_default-clause-least
returns-in_default-clause-least t c =
    least_end c.args.node c.in_ok-key.field-0.key c.in_ok-key.field-0.value
    c.in_ok-key.field-0.height c.in_ok-key.field-0.left c.in_ok-key.field-0.right c.args.seat.now
    c.take_apart.new.seat c.in_default.is c.in_ok-key.ensures.taken

pub take_least-requires : goal.take_least-requires
take_least-requires t c =
    let l = less_one c.args.levels c.if-levels-eq0.false in let d = c.decreases in
    let solid = first_solid c.args.node c.in_ok-key.field-0.left c.in_ok-key.field-0.right
    c.args.levels c.args.seat.now c.take_apart.new.seat c.if-levels-eq0.false c.requires.owned
    c.in_ok-key.ensures.keeps c.in-Some.first c.in-Some.is c.in_ok-key.ensures.taken.left_tree in
    let owned = first_owned c.args.node c.in_ok-key.field-0.left c.in_ok-key.field-0.right
    c.args.levels c.args.seat.now c.take_apart.new.seat c.if-levels-eq0.false c.requires.owned
    c.in_ok-key.ensures.keeps c.in-Some.first c.in-Some.is in
    (omega (arith, l.0, d), (c.in_ok-key.ensures.ready, (owned, solid)))

pub mend_left-requires-clause-owned : goal.mend_left-requires-clause-owned
mend_left-requires-clause-owned t c =
    owns_mend c.args.node c.in_ok-key.field-0.left c.in_ok-key.field-0.right c.args.levels
    c.args.seat.now c.take_apart.new.seat c.if-levels-eq0.false c.requires.owned
    c.in_ok-key.ensures.keeps c.in-Some.first c.in-Some.is c.in-Ok.least.rest c.take_least.new.seat
    c.take_least.new.seat c.in-Ok.ensures.keeps

pub mend_left-requires-clause-trees : goal.mend_left-requires-clause-trees
mend_left-requires-clause-trees t c = (
  c.in-Ok.ensures.least.stands.tree,
  right_tree c.args.node c.in_ok-key.field-0.left c.in_ok-key.field-0.right c.args.levels
      c.args.seat.now c.take_apart.new.seat c.if-levels-eq0.false c.requires.owned
      c.in_ok-key.ensures.keeps c.in-Some.first c.in-Some.is c.in-Ok.least.rest
      c.take_least.new.seat c.take_least.new.seat c.in-Ok.ensures.keeps
      c.in_ok-key.ensures.taken.right_tree,
)

pub returns-in_err-rest-in-Ok-clause-keeps : goal.returns-in_err-rest-in-Ok-clause-keeps
returns-in_err-rest-in-Ok-clause-keeps t c =
    let p = err_from_is_err_and c.from_residual-in_err-rest-in-Ok.result
    c.from_residual-in_err-rest-in-Ok.ensures.1 in
    rw p.1 (level_keeps c.args.node c.in_ok-key.field-0.left c.in_ok-key.field-0.right c.args.levels
    c.args.seat.now c.take_apart.new.seat c.if-levels-eq0.false c.requires.owned
    c.in_ok-key.ensures.keeps c.in-Some.first c.in-Some.is c.in-Ok.least.rest
    c.take_least.new.seat c.mend_left.new.seat c.in-Ok.ensures.keeps none
    c.in_err-rest-in-Ok.ensures.keeps)

pub returns-in_err-rest-in-Ok-clause-why : goal.returns-in_err-rest-in-Ok-clause-why
returns-in_err-rest-in-Ok-clause-why t c =
    let p = err_from_is_err_and c.from_residual-in_err-rest-in-Ok.result
    c.from_residual-in_err-rest-in-Ok.ensures.1 in
    rw (p.1, p.2) (mend_why c.args.node c.in_ok-key.field-0.left c.in_ok-key.field-0.right
    c.args.levels c.args.seat.now c.take_apart.new.seat c.if-levels-eq0.false c.requires.owned
    c.in_ok-key.ensures.keeps c.in-Some.first c.in-Some.is c.in-Ok.least.rest
    c.take_least.new.seat c.mend_left.new.seat c.in-Ok.ensures.keeps c.args.domain.now
    c.in_err-rest-in-Ok.field-0.0 c.in_err-rest-in-Ok.ensures.why)

pub give_up-requires-in-Err-clause-owned : goal.give_up-requires-in-Err-clause-owned
give_up-requires-in-Err-clause-owned t c =
    owns_right c.args.node c.in_ok-key.field-0.left c.in_ok-key.field-0.right c.args.levels
    c.args.seat.now c.take_apart.new.seat c.if-levels-eq0.false c.requires.owned
    c.in_ok-key.ensures.keeps c.in-Some.first c.in-Some.is c.take_least.new.seat
    c.take_least.new.seat c.in-Err.ensures.keeps

pub returns-in_ok-rest-in-Ok-clause-least : goal.returns-in_ok-rest-in-Ok-clause-least
returns-in_ok-rest-in-Ok-clause-least t c =
    least_node c.args.node c.in-Some.first c.in_ok-rest-in-Ok.rest c.in_ok-key.field-0.key
    c.in_ok-key.field-0.value c.in_ok-key.field-0.height c.in_ok-key.field-0.left
    c.in_ok-key.field-0.right c.in-Ok.least.rest _ _ c.in-Ok.least.key c.in-Ok.least.value
    c.args.seat.now c.take_apart.new.seat c.take_least.new.seat c.mend_left.new.seat c.in-Some.is
    c.in_ok-key.ensures.taken
    (owns_first c.args.node c.in_ok-key.field-0.left c.in_ok-key.field-0.right c.args.levels
    c.args.seat.now c.take_apart.new.seat c.if-levels-eq0.false c.requires.owned
    c.in_ok-key.ensures.keeps c.in-Some.first c.in-Some.is)
    c.in-Ok.ensures.keeps c.in_ok-rest-in-Ok.ensures.keeps.grows c.in-Ok.ensures.least
    c.in_ok-rest-in-Ok.ensures.mended

pub returns-in_ok-rest-in-Ok-clause-keeps : goal.returns-in_ok-rest-in-Ok-clause-keeps
returns-in_ok-rest-in-Ok-clause-keeps t c =
    level_keeps c.args.node c.in_ok-key.field-0.left c.in_ok-key.field-0.right c.args.levels
    c.args.seat.now c.take_apart.new.seat c.if-levels-eq0.false c.requires.owned
    c.in_ok-key.ensures.keeps c.in-Some.first c.in-Some.is c.in-Ok.least.rest
    c.take_least.new.seat c.mend_left.new.seat c.in-Ok.ensures.keeps _
    c.in_ok-rest-in-Ok.ensures.keeps

pub returns-in-Err-clause-keeps : goal.returns-in-Err-clause-keeps
returns-in-Err-clause-keeps t c =
    level_refused c.args.node c.in_ok-key.field-0.left c.in_ok-key.field-0.right c.args.levels
    c.args.seat.now c.take_apart.new.seat c.if-levels-eq0.false c.requires.owned
    c.in_ok-key.ensures.keeps c.in-Some.first c.in-Some.is c.take_least.new.seat
    c.give_up-in-Err.new.seat c.in-Err.ensures.keeps c.give_up-in-Err.ensures.keeps

pub returns-in-Err-clause-why : goal.returns-in-Err-clause-why
returns-in-Err-clause-why t c =
    level_why c.args.node c.in_ok-key.field-0.left c.in_ok-key.field-0.right c.args.levels
    c.args.seat.now c.take_apart.new.seat c.if-levels-eq0.false c.requires.owned
    c.in_ok-key.ensures.keeps c.in-Some.first c.in-Some.is c.take_least.new.seat
    c.give_up-in-Err.new.seat c.in-Err.ensures.keeps c.args.domain.now c.in-Err.error
    c.in_ok-key.field-0.key c.in_ok-key.field-0.value c.in_ok-key.field-0.height
    c.in_ok-key.ensures.taken c.give_up-in-Err.ensures.keeps c.in-Err.ensures.why
