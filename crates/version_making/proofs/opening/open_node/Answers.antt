use Rattle.std.proofs.Common.{arith, subst, sym, ◌∙◌, ap}
use Rattle.std.specs.Prelude.{slice_index}
use Rattle.map_law.specs.plain_state.declared.slot.SlotId.{SlotId}
use Rattle.slot_store.specs.domain_rule.Views.{object_in}
use Rattle.version_making.specs.Keeping.{none, of_handle}
use Rattle.version_making.specs.Opening.{IsSide}
use Rattle.version_making.specs.Standing.{IsSolid}
use Rattle.version_making.proofs.Keeping.{keeps_then}
use Rattle.version_making.proofs.Subtrees.{is_opened, keeps_opened, kept_one}
use Rattle.version_making.proofs.opening.open_node.Goals as goal

pub load_side-requires-2-clause-solid : goal.load_side-requires-2-clause-solid
load_side-requires-2-clause-solid c =
    subst (λ (x : SlotId). IsSolid x c.load_side.new.seat) (sym c.slot-slot.ensures)
    (kept_one c.args.node.now.slot c.in_ok-left.left c.args.seat.now c.load_side.new.seat
    c.requires.owned c.requires.solid c.in_ok-left.ensures.keeps)

pub returns-in-Ok-clause-opened : goal.returns-in-Ok-clause-opened
returns-in-Ok-clause-opened c =
    is_opened c.args.node.now.slot c.in_ok-left.left c.in-Ok.right c.args.seat.now c.load_side.new.seat
    c.load_side-2.new.seat c.word_of.new.seat c.word_of-in-Ok.new.seat c.word_of-in-Ok-2.new.seat
    c.requires.owned c.requires.solid c.in_ok-left.ensures.keeps c.in-Ok.ensures.keeps
    c.word_of.ensures.keeps c.word_of-in-Ok.ensures.keeps c.word_of-in-Ok-2.ensures.keeps
    (subst (λ (x : SlotId). IsSide x 0 c.in_ok-left.left c.load_side.new.seat) c.slot-slot.ensures
    c.in_ok-left.ensures.side)
    (subst (λ (x : SlotId). IsSide x 1 c.in-Ok.right c.load_side-2.new.seat) c.slot-slot.ensures
    c.in-Ok.ensures.side)
    c.word_of.result c.word_of-in-Ok.result c.word_of-in-Ok-2.result
    (c.word_of.ensures.word
    ∙ ap (λ (x : SlotId). slice_index (object_in c.load_side-2.new.seat.view x).payload 1)
    c.slot-slot.ensures)
    (c.word_of-in-Ok.ensures.word
    ∙ ap (λ (x : SlotId). slice_index (object_in c.word_of.new.seat.view x).payload 2)
    c.slot-slot.ensures)
    (c.word_of-in-Ok-2.ensures.word
    ∙ ap (λ (x : SlotId). slice_index (object_in c.word_of-in-Ok.new.seat.view x).payload 3)
    c.slot-slot.ensures)

pub returns-in-Ok-clause-keeps : goal.returns-in-Ok-clause-keeps
returns-in-Ok-clause-keeps c =
    keeps_opened c.args.node.now.slot c.in_ok-left.left c.in-Ok.right c.args.seat.now c.load_side.new.seat
    c.load_side-2.new.seat c.word_of.new.seat c.word_of-in-Ok.new.seat c.word_of-in-Ok-2.new.seat
    c.requires.owned c.requires.solid c.in_ok-left.ensures.keeps c.in-Ok.ensures.keeps
    c.word_of.ensures.keeps c.word_of-in-Ok.ensures.keeps c.word_of-in-Ok-2.ensures.keeps

pub returns-in-Err-clause-refused : goal.returns-in-Err-clause-refused
returns-in-Err-clause-refused c =
    keeps_then 0 2 0 0 none (of_handle c.in_ok-left.left) (of_handle c.in_ok-left.left) none none none
    c.args.seat.now c.load_side-2.new.seat c.give_up.new.seat
    (keeps_then 0 1 0 1 none (of_handle c.in_ok-left.left) none none none
    (of_handle c.in_ok-left.left) c.args.seat.now c.load_side.new.seat c.load_side-2.new.seat
    c.in_ok-left.ensures.keeps c.in-Err.ensures.keeps
    (λ x. (omega arith, omega arith, omega arith)))
    c.give_up.ensures.keeps (λ x. (omega arith, omega arith, omega arith))
