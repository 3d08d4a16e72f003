use Rattle.std.proofs.Common.{sym}
use Rattle.plain_store.proofs.Placing.{opened_place}
use Rattle.plain_store.proofs.Loading.{placed_there, load_weak_sound, weakly_loads_some}
use Rattle.plain_store.proofs.store.Store.load_weak.Goals as goal

pub content-requires : goal.content-requires
content-requires c = opened_place c.args.self.now c.args.place c.requires.kept c.requires.opened

pub own_weakly-requires-clause-there : goal.own_weakly-requires-clause-there
own_weakly-requires-clause-there c =
    placed_there c.args.self.now c.args.place c.in-Some.slot c.requires.kept c.requires.opened (sym c.in-Some.ensures)

pub own_weakly-requires-clause-sound : goal.own_weakly-requires-clause-sound
own_weakly-requires-clause-sound c =
    load_weak_sound c.args.self.now c.args.place c.in-Some.slot c.requires.kept c.requires.opened (sym c.in-Some.ensures)

pub returns-in_ok-own_weakly-in-Some-clause-loads : goal.returns-in_ok-own_weakly-in-Some-clause-loads
returns-in_ok-own_weakly-in-Some-clause-loads c =
    weakly_loads_some c.args.self.now c.args.place c.in-Some.slot c.requires.kept c.requires.opened (sym c.in-Some.ensures) _ c.of.result
    c.of.ensures c.in_ok-own_weakly-in-Some.ensures.owns
