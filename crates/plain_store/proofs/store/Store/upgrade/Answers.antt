use Rattle.std.proofs.Common.{sym, ◌∙◌}
use Rattle.plain_store.proofs.Gains.{unmarked_sound}
use Rattle.plain_store.proofs.Stores.{held_slot}
use Rattle.plain_store.proofs.store.Store.upgrade.Goals as goal

pub is_marked-requires : goal.is_marked-requires
is_marked-requires c = held_slot c.args.self.now c.args.slot c.requires.kept c.requires.held

pub own-requires-clause-sound : goal.own-requires-clause-sound
own-requires-clause-sound c =
    unmarked_sound c.args.self.now c.args.slot c.requires.kept (sym c.is_marked.ensures ∙ c.if-is_marked.false)
