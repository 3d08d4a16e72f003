use Rattle.std.proofs.Common.{rules, ap, length}
use Rattle.plain_store.specs.declared.store.Store.{Store}
use Rattle.plain_state.specs.State.{Plain}
use Rattle.plain_store.specs.Stores.{plain_of}
use Rattle.plain_store.proofs.Placing.{opened_place, same_places, objects_replace, kept_replace}
use Rattle.plain_store.proofs.store.Store.replace.Goals as goal

pub content-old-requires : goal.content-old-requires
content-old-requires c = opened_place c.args.self.now c.args.place c.requires.kept c.requires.opened

pub set_content-requires : goal.set_content-requires
set_content-requires c =
    let h : Store = record c.give_up.new.self { deferred = c.defer.new.list } in
    let e = c.give_up.ensures.gives.2 in
    same_places (plain_of c.args.self.now) (plain_of h) c.args.place
    (ap (λ (p : Plain). length p.cells) e) (ap (λ (p : Plain). length p.weak_cells) e) (ap (λ (p : Plain). length p.slots) e)
    (opened_place c.args.self.now c.args.place c.requires.kept c.requires.opened)

pub returns-clause-objects : goal.returns-clause-objects
returns-clause-objects c =
    objects_replace c.args.self.now c.set_content.new.self c.args.place c.args.new c.requires.kept c.requires.opened (search rules)

pub returns-clause-kept : goal.returns-clause-kept
returns-clause-kept c =
    kept_replace c.args.self.now c.set_content.new.self c.args.place c.args.new c.requires.kept c.requires.opened (search rules)
    (search rules) (search rules) (search rules)
