use Rattle.plain_store.proofs.Gains.{strong_there, strong_unmarked, unmarked_sound, gain_does}
use Rattle.plain_store.proofs.store.Store.gain.Goals as goal

pub own-requires-clause-there : goal.own-requires-clause-there
own-requires-clause-there c = strong_there c.args.self.now c.args.slot c.requires.kept c.requires.held

pub own-requires-clause-sound : goal.own-requires-clause-sound
own-requires-clause-sound c =
    unmarked_sound c.args.self.now c.args.slot c.requires.kept (strong_unmarked c.args.self.now c.args.slot c.requires.kept c.requires.held)

pub returns-clause-gains : goal.returns-clause-gains
returns-clause-gains c =
    (c.of.ensures, gain_does c.args.self.now c.args.slot c.requires.kept c.requires.held _ c.in_ok-own.ensures.owns)
