use Rattle.plain_store.proofs.Gains.{weakly_sound}
use Rattle.plain_store.proofs.Stores.{held_slot}
use Rattle.plain_store.proofs.store.Store.weak_gain.Goals as goal

pub own_weakly-requires-clause-there : goal.own_weakly-requires-clause-there
own_weakly-requires-clause-there c = held_slot c.args.self.now c.args.slot c.requires.kept c.requires.held

pub own_weakly-requires-clause-sound : goal.own_weakly-requires-clause-sound
own_weakly-requires-clause-sound c = weakly_sound c.args.self.now c.args.slot c.requires.kept c.requires.held
