use Rattle.std.proofs.Common.{arith, ℕ, ◌≡◌, ◌∙◌, ap, subst, sym, suc}
use Rattle.std.specs.Prelude.{Some, max}
use Rattle.map_law.specs.plain_protocol.Owns.{Object}
use Rattle.map_law.specs.plain_state.declared.slot.SlotId.{SlotId}
use Rattle.map_law.specs.declared.view.Raw.{Raw}
use Rattle.map_law.specs.Nodes.{IsNode, words}
use Rattle.map_law.specs.Patterns.{Pattern, Spells, branch}
use Rattle.slot_store.specs.domain_rule.Views.{object_in}
use Rattle.version_making.specs.Keeping.{Keeps, none, of_answer}
use Rattle.version_making.specs.Building.{IsMaking, capped}
use Rattle.version_making.specs.Standing.{IsSolid, node_in}
use Rattle.version_making.proofs.Dropped.{why_on}
use Rattle.version_making.proofs.Keeping.{keeps_then}
use Rattle.version_making.proofs.Put.{both, left_tree, object_last, put_keeps, put_stands, refused_keeps, right_tree}
use Rattle.version_making.proofs.building.put_together.Goals as goal

pub set_if-requires-clause-tree : goal.set_if-requires-clause-tree
set_if-requires-clause-tree c =
    left_tree c.args.left c.args.right c.args.seat.now c.height_at.new.seat c.height_at-2.new.seat
    c.requires.owned c.height_at.ensures.keeps c.height_at-2.ensures.keeps c.in-Ok.node.slot
    c.make_node-made.new.seat c.in-Ok.ensures.keeps c.requires.trees.0

pub set_if-requires-in-Ok-clause-tree : goal.set_if-requires-in-Ok-clause-tree
set_if-requires-in-Ok-clause-tree c =
    right_tree c.args.left c.args.right c.args.seat.now c.height_at.new.seat c.height_at-2.new.seat
    c.requires.owned c.height_at.ensures.keeps c.height_at-2.ensures.keeps c.in-Ok.node.slot
    c.make_node-made.new.seat c.in-Ok.ensures.keeps c.set_if.new.seat c.set_if.ensures.keeps
    c.requires.trees.1

pub end_making-requires-clause-node : goal.end_making-requires-clause-node
end_making-requires-clause-node c =
    subst (λ (x : SlotId). IsNode (object_in c.set_if-in-Ok.new.seat.view x).payload)
    (sym c.slot-slot.ensures) (
      c.args.key,
      c.args.value,
      c.over-height.result,
      ap (λ (o : Object). o.payload)
          (object_last c.args.left c.args.right c.args.seat.now c.height_at.new.seat
          c.height_at-2.new.seat c.requires.owned c.height_at.ensures.keeps c.height_at-2.ensures.keeps
          c.in-Ok.node.slot c.make_node-made.new.seat c.in-Ok.ensures.keeps c.set_if.new.seat
          c.set_if.ensures.keeps c.set_if-in-Ok.new.seat c.set_if-in-Ok.ensures.keeps)
          ∙ (c.in-Ok.ensures.payload ∙ c.node_words.ensures),
    )

pub returns-in-Ok-clause-put : goal.returns-in-Ok-clause-put
returns-in-Ok-clause-put c =
    put_stands c.args.left c.args.right c.args.seat.now c.height_at.new.seat c.height_at-2.new.seat
    c.requires.owned c.height_at.ensures.keeps c.height_at-2.ensures.keeps
    c.in-Ok.node.slot c.make_node-made.new.seat c.in-Ok.ensures.keeps c.set_if.new.seat
    c.set_if.ensures.keeps c.set_if-in-Ok.new.seat c.set_if-in-Ok.ensures.keeps
    c.end_making.new.seat c.end_making.ensures.keeps c.args.key c.args.value c.over-height.result
    (c.over-height.ensures
    ∙ (λ i. capped (suc (max (c.height_at.ensures.height i) (c.height_at-2.ensures.height i)))))
    (c.in-Ok.ensures.payload ∙ c.node_words.ensures) c.in-Ok.ensures.making
    (λ e at. c.set_if.ensures.making e (at ∙ sym c.slot-slot.ensures))
    (λ e at. c.set_if-in-Ok.ensures.making e (at ∙ sym c.slot-slot.ensures))
    (subst (λ (x : SlotId). (e : Raw) → e.slot ≡ x → IsMaking e c.set_if-in-Ok.new.seat
    → (l r : Pattern) → Spells c.set_if-in-Ok.new.seat.view.client e.first l
    → Spells c.set_if-in-Ok.new.seat.view.client e.second r
    → (key value height : ℕ) → e.payload ≡ words key value height
    → Spells c.end_making.new.seat.view.client (Some (node_in x c.end_making.new.seat))
    (branch key value height l r)) c.slot-slot.ensures c.end_making.ensures.spells)
    (subst (λ (x : SlotId). IsSolid x c.end_making.new.seat) c.slot-slot.ensures
    c.end_making.ensures.solid)

pub returns-in-Ok-clause-keeps : goal.returns-in-Ok-clause-keeps
returns-in-Ok-clause-keeps c =
    put_keeps c.args.left c.args.right c.args.seat.now c.height_at.new.seat c.height_at-2.new.seat
    c.requires.owned c.height_at.ensures.keeps c.height_at-2.ensures.keeps
    c.in-Ok.node.slot c.make_node-made.new.seat c.in-Ok.ensures.keeps c.set_if.new.seat
    c.set_if.ensures.keeps c.set_if-in-Ok.new.seat c.set_if-in-Ok.ensures.keeps
    c.end_making.new.seat c.end_making.ensures.keeps

pub returns-in-Err-clause-keeps : goal.returns-in-Err-clause-keeps
returns-in-Err-clause-keeps c =
    refused_keeps c.args.left c.args.right c.args.seat.now c.height_at.new.seat
    c.height_at-2.new.seat c.requires.owned c.height_at.ensures.keeps c.height_at-2.ensures.keeps
    c.make_node-made.new.seat c.give_up.new.seat c.give_up-in-Err.new.seat
    c.in-Err.ensures.keeps c.give_up.ensures.keeps c.give_up-in-Err.ensures.keeps

pub returns-in-Err-clause-why : goal.returns-in-Err-clause-why
returns-in-Err-clause-why c =
    why_on c.args.domain.now c.in-Err.error _ _ c.args.seat.now c.height_at-2.new.seat
    c.make_node-made.new.seat c.give_up-in-Err.new.seat
    (both c.args.left c.args.right c.args.seat.now c.height_at.new.seat c.height_at-2.new.seat
    c.requires.owned c.height_at.ensures.keeps c.height_at-2.ensures.keeps).goes
    (keeps_then 0 0 0 0 _ none _ none
    (Rattle.version_making.specs.Keeping.of_both c.args.left c.args.right) none
    c.make_node-made.new.seat c.give_up.new.seat c.give_up-in-Err.new.seat c.give_up.ensures.keeps
    c.give_up-in-Err.ensures.keeps (λ x. (omega arith, omega arith, omega arith)))
    c.in-Err.ensures.why

pub returns-in-Ok-clause-solid : goal.returns-in-Ok-clause-solid
returns-in-Ok-clause-solid c =
    subst (λ (x : SlotId). IsSolid x c.end_making.new.seat) c.slot-slot.ensures
    c.end_making.ensures.solid
