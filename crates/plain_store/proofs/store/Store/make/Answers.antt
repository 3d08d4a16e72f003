use Rattle.std.proofs.Common.{rules, arith, refl, ap, List, ◌++◌, ◌∷◌, [], ◌∙◌, sym, subst}
use Rattle.std.specs.Prelude.{slice_set}
use Rattle.std.specs.Vec.{with_item}
use Rattle.plain_store.specs.declared.store.Store.{Store}
use Rattle.plain_state.specs.declared.slot.PlainSlot.{PlainSlot}
use Rattle.plain_state.specs.declared.slot.SlotId.{SlotId}
use Rattle.plain_store.specs.Heaps.{Makes}
use Rattle.plain_store.specs.Stores.{plain_of}
use Rattle.plain_store.proofs.Kepts.{made_makes, kept_make}
use Rattle.plain_store.proofs.store.Store.make.Goals as goal

pub returns-clause-made : goal.returns-clause-made
returns-clause-made c =
    let s : SlotId = record { 0 = c.in_ok-at.at } in
    let h : Store = c.args.self.now in
    let h' : Store = record h {
      owned = c.push_reserved.new.self;
      adds = c.in_ok-adds.adds;
      slots = with_item h.slots c.in_ok-at.at c.in-Some.object;
      strong = with_item h.strong c.in_ok-at.at 1;
      weak = with_item h.weak c.in_ok-at.at 1;
      next = c.in_ok-at.at;
    } in
    subst (λ (x : SlotId). Makes (plain_of h) x c.args.payload.now (plain_of h')) (sym c.of.ensures)
    (made_makes h h' s c.args.payload.now
    (record {
      kept = c.requires;
      there = c.in_ok-at.ensures.found.0;
      free = c.in_ok-at.ensures.found.1;
      words = search rules;
      adds = omega (arith, c.in_ok-adds.ensures);
    })
    (record {
      owned = c.push_reserved.ensures.items ∙ ap (λ (l : List SlotId). l ++ s ∷ []) c.reserve.ensures.items;
      weaks = refl;
      snapshots = refl;
      deferred = refl;
      dying = refl;
      adds = c.in_ok-adds.ensures.0;
      cells = refl;
      weak_cells = refl;
      slots = ap (λ (x : PlainSlot). slice_set h.slots.items s.0 x) c.in-Some.ensures;
      strong = refl;
      weak = refl;
      next = refl;
    }))

pub returns-clause-kept : goal.returns-clause-kept
returns-clause-kept c =
    let s : SlotId = record { 0 = c.in_ok-at.at } in
    let h : Store = c.args.self.now in
    kept_make h _ s c.args.payload.now
    (record {
      kept = c.requires;
      there = c.in_ok-at.ensures.found.0;
      free = c.in_ok-at.ensures.found.1;
      words = search rules;
      adds = omega (arith, c.in_ok-adds.ensures);
    })
    (record {
      owned = c.push_reserved.ensures.items ∙ ap (λ (l : List SlotId). l ++ s ∷ []) c.reserve.ensures.items;
      weaks = refl;
      snapshots = refl;
      deferred = refl;
      dying = refl;
      adds = c.in_ok-adds.ensures.0;
      cells = refl;
      weak_cells = refl;
      slots = ap (λ (x : PlainSlot). slice_set h.slots.items s.0 x) c.in-Some.ensures;
      strong = refl;
      weak = refl;
      next = refl;
    })
