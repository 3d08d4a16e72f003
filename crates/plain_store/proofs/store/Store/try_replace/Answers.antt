use Rattle.plain_store.proofs.Placing.{opened_place}
use Rattle.plain_store.proofs.store.Store.try_replace.Goals as goal

pub content-requires : goal.content-requires
content-requires c = opened_place c.args.self.now c.args.place c.requires.kept c.requires.opened
