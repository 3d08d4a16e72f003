use Rattle.std.proofs.Common.{rules, ap, get_or, ◌∙◌}
use Rattle.std.proofs.lemmas.List.{get_or_default}
use Rattle.plain_state.specs.declared.slot.PlainSlot.{PlainSlot}
use Rattle.plain_state.specs.State.{new_slot}
use Rattle.plain_store.proofs.Stores.{held_slot}
use Rattle.plain_store.proofs.store.Store.word.Goals as goal

pub index-requires : goal.index-requires
index-requires c = let at = held_slot c.args.self.now c.args.slot c.requires.kept c.requires.held in search rules

pub returns : goal.returns
returns c =
    let at = held_slot c.args.self.now c.args.slot c.requires.kept c.requires.held in
    ap (λ (x : PlainSlot). get_or x.payload c.args.word 0)
    (c.index.ensures ∙ get_or_default c.args.self.now.slots.items c.args.slot.0 c.index.result.now new_slot at)
