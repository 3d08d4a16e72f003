use Rattle.std.proofs.Common.{sym}
use Rattle.plain_store.proofs.Placing.{opened_place}
use Rattle.plain_store.proofs.Loading.{placed_there, load_sound, loads_some}
use Rattle.plain_store.proofs.store.Store.load.Goals as goal

pub content-requires : goal.content-requires
content-requires c = opened_place c.args.self.now c.args.place c.requires.kept c.requires.opened

pub own-requires-clause-there : goal.own-requires-clause-there
own-requires-clause-there c =
    placed_there c.args.self.now c.args.place c.in-Some.slot c.requires.kept c.requires.opened (sym c.in-Some.ensures)

pub own-requires-clause-sound : goal.own-requires-clause-sound
own-requires-clause-sound c =
    load_sound c.args.self.now c.args.place c.in-Some.slot c.requires.kept c.requires.opened (sym c.in-Some.ensures) c.requires.strong

pub returns-in_ok-own-in-Some-clause-loads : goal.returns-in_ok-own-in-Some-clause-loads
returns-in_ok-own-in-Some-clause-loads c =
    loads_some c.args.self.now c.args.place c.in-Some.slot c.requires.kept c.requires.opened (sym c.in-Some.ensures) _ c.of.result c.requires.strong
    c.of.ensures c.in_ok-own-in-Some.ensures.owns
