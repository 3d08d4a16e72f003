use Rattle.std.proofs.Common.{rules, refl, sym}
use Rattle.plain_store.proofs.Placing.{opened_place}
use Rattle.plain_store.proofs.Loading.{kept_snapped}
use Rattle.plain_store.proofs.store.Store.announce.Goals as goal

pub content-requires : goal.content-requires
content-requires c = opened_place c.args.self.now c.args.place c.requires.kept c.requires.opened

pub returns-in_ok-reserve-in-Some-clause-kept : goal.returns-in_ok-reserve-in-Some-clause-kept
returns-in_ok-reserve-in-Some-clause-kept c =
    kept_snapped c.args.self.now c.args.place c.in-Some.slot c.requires.kept c.requires.opened (sym c.in-Some.ensures) _
    (rw c.requires.strong (search rules)) refl refl refl refl
