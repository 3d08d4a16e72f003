use Rattle.std.proofs.Common.{◌<◌, List, length, All, sym, ◌∙◌, subst, arith}
use Rattle.deleter.specs.plain_state.declared.slot.SlotId.{SlotId}
use Rattle.heap_audit.specs.Tables.{AreHolders, TurnsRound}
use Rattle.heap_audit.proofs.Searching.{is_held, leads_on_held, leads_within, all_within, found}
use Rattle.heap_audit.proofs.search.find_walk.Goals as goal

pub search-requires-clause-held : goal.search-requires-clause-held
search-requires-clause-held c =
    let are = subst (AreHolders c.args.heap.now c.args.rank.now) (sym c.deref.ensures.value) c.in_ok-holders.ensures in
    is_held c.args.heap.now c.args.rank.now c.deref.result.now are c.requires.lawful c.args.start c.requires.start.0

pub search-requires-clause-within : goal.search-requires-clause-within
search-requires-clause-within c =
    let are = subst (AreHolders c.args.heap.now c.args.rank.now) (sym c.deref.ensures.value) c.in_ok-holders.ensures in
    leads_within c.args.heap.now c.args.rank.now c.deref.result.now are

pub search-requires-clause-on : goal.search-requires-clause-on
search-requires-clause-on c =
    let are = subst (AreHolders c.args.heap.now c.args.rank.now) (sym c.deref.ensures.value) c.in_ok-holders.ensures in
    leads_on_held c.args.heap.now c.args.rank.now c.deref.result.now are c.requires.lawful

pub turn_round-requires-clause-ranked : goal.turn_round-requires-clause-ranked
turn_round-requires-clause-ranked c = λ k d l.
    let are = subst (AreHolders c.args.heap.now c.args.rank.now) (sym c.deref.ensures.value) c.in_ok-holders.ensures in
    let trail = c.in_ok-trail.ensures in
    let all = all_within c.args.heap.now c.args.rank.now c.deref.result.now are c.args.start trail.rest c.in_ok-trail.trail.again c.requires.start.0.0.0 trail.goes in
    let P : SlotId → Type 0 = λ s. s.0 < length c.args.heap.now.slots.items in
    let within = subst (All P) (sym (c.deref-2.ensures.value ∙ trail.begins)) all k d l in
    omega (arith, within, c.requires.ranked)

pub returns : goal.returns
returns c =
    let are = subst (AreHolders c.args.heap.now c.args.rank.now) (sym c.deref.ensures.value) c.in_ok-holders.ensures in
    let turn = subst (λ (ss : List SlotId). TurnsRound c.args.rank.now ss c.in_ok-trail.trail.again c.in_ok-walk.walk.items) c.deref-2.ensures.value c.in_ok-walk.ensures in
    found c.args.heap.now c.args.rank.now c.deref.result.now are c.args.start c.in_ok-trail.trail.again c.in_ok-trail.trail.slots.items c.in_ok-walk.walk.items
    c.requires.start c.in_ok-trail.ensures turn
