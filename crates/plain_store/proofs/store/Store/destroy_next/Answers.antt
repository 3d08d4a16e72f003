use Rattle.std.proofs.Common.{⊎_elim, inl, inr, refl, sym, ap, subst, arith, length, ◌∙◌}
use Rattle.std.proofs.lemmas.List.{length-set}
use Rattle.plain_state.specs.declared.slot.PlainSlot.{PlainSlot}
use Rattle.plain_store.specs.Stores.{plain_of}
use Rattle.plain_store.specs.Draining.{Destroys}
use Rattle.plain_state.proofs.Kit.{cases_slot}
use Rattle.plain_store.proofs.Settlings.{destroys_then}
use Rattle.plain_store.proofs.SettlingObjects.{IsDestroyed, dying_stage, dying_there, dying_counted, dying_room, gone_destroys, gone_kept, gone_room, gone_calm, defers_more}
use Rattle.plain_store.proofs.store.Store.destroy_next.Goals as goal

pub slot_in-object-requires : goal.slot_in-object-requires
slot_in-object-requires c =
    dying_there c.args.self.now c.in_ok-slot.slot c.pop.new.self.items c.requires.kept c.in_ok-slot.ensures.items

pub empty-requires-clause-there : goal.empty-requires-clause-there
empty-requires-clause-there c =
    dying_there c.args.self.now c.in_ok-slot.slot c.pop.new.self.items c.requires.kept c.in_ok-slot.ensures.items

pub empty-requires-clause-room : goal.empty-requires-clause-room
empty-requires-clause-room c =
    dying_room c.args.self.now c.in_ok-slot.slot c.pop.new.self.items c.requires.kept c.in_ok-slot.ensures.items c.requires.room

pub empty-requires-clause-counted : goal.empty-requires-clause-counted
empty-requires-clause-counted c =
    dying_counted c.args.self.now c.in_ok-slot.slot c.pop.new.self.items c.requires.kept c.in_ok-slot.ensures.items

pub end_or_give-requires-clause-kept : goal.end_or_give-requires-clause-kept
end_or_give-requires-clause-kept c =
    let h = c.args.self.now in
    let slot = c.in_ok-slot.slot in
    let is : IsDestroyed h c.empty.new.self slot = record {
      owned = c.empty.ensures.owned.0;
      weaks = c.empty.ensures.owned.1;
      snapshots = rw c.empty.ensures.snapshots refl;
      deferred = rw (c.empty.ensures.deferred, c.slot_in-object.ensures) refl;
      dying = rw c.empty.ensures.dying c.in_ok-slot.ensures.items;
      adds = c.empty.ensures.rest.1;
      cells = c.empty.ensures.cells.0;
      weak_cells = c.empty.ensures.cells.1;
      slots = rw (c.empty.ensures.slots, c.slot_in-object.ensures) refl;
      strong = c.empty.ensures.rest.0;
      weak = c.empty.ensures.weak;
      next = c.empty.ensures.rest.2;
    } in
    gone_kept h c.empty.new.self slot c.requires.kept is

pub end_or_give-requires-clause-room : goal.end_or_give-requires-clause-room
end_or_give-requires-clause-room c =
    let h = c.args.self.now in
    let slot = c.in_ok-slot.slot in
    let is : IsDestroyed h c.empty.new.self slot = record {
      owned = c.empty.ensures.owned.0;
      weaks = c.empty.ensures.owned.1;
      snapshots = rw c.empty.ensures.snapshots refl;
      deferred = rw (c.empty.ensures.deferred, c.slot_in-object.ensures) refl;
      dying = rw c.empty.ensures.dying c.in_ok-slot.ensures.items;
      adds = c.empty.ensures.rest.1;
      cells = c.empty.ensures.cells.0;
      weak_cells = c.empty.ensures.cells.1;
      slots = rw (c.empty.ensures.slots, c.slot_in-object.ensures) refl;
      strong = c.empty.ensures.rest.0;
      weak = c.empty.ensures.weak;
      next = c.empty.ensures.rest.2;
    } in
    gone_room h c.empty.new.self slot c.requires.kept is c.requires.room c.empty.ensures.len c.empty.ensures.capacity
    (rw c.empty.ensures.dying c.in_ok-slot.ensures.capacity)

pub end_or_give-requires-clause-there : goal.end_or_give-requires-clause-there
end_or_give-requires-clause-there c =
    let at = dying_there c.args.self.now c.in_ok-slot.slot c.pop.new.self.items c.requires.kept c.in_ok-slot.ensures.items in
    let size = ap length c.empty.ensures.slots ∙ length-set c.args.self.now.slots.items c.in_ok-slot.slot.0 _ in
    omega (arith, at, size)

pub returns-clause-some : goal.returns-clause-some
returns-clause-some c =
    let h = c.args.self.now in
    let slot = c.in_ok-slot.slot in
    let is : IsDestroyed h c.empty.new.self slot = record {
      owned = c.empty.ensures.owned.0;
      weaks = c.empty.ensures.owned.1;
      snapshots = rw c.empty.ensures.snapshots refl;
      deferred = rw (c.empty.ensures.deferred, c.slot_in-object.ensures) refl;
      dying = rw c.empty.ensures.dying c.in_ok-slot.ensures.items;
      adds = c.empty.ensures.rest.1;
      cells = c.empty.ensures.cells.0;
      weak_cells = c.empty.ensures.cells.1;
      slots = rw (c.empty.ensures.slots, c.slot_in-object.ensures) refl;
      strong = c.empty.ensures.rest.0;
      weak = c.empty.ensures.weak;
      next = c.empty.ensures.rest.2;
    } in
    destroys_then (plain_of h) (plain_of c.empty.new.self) (plain_of c.end_or_give.new.self) c.slot_in-object.result.payload
    (subst (λ (y : PlainSlot). Destroys (plain_of h) y.payload (plain_of c.empty.new.self)) (sym c.slot_in-object.ensures)
    (gone_destroys h c.empty.new.self slot c.requires.kept is))
    c.end_or_give.ensures.settles

pub returns-clause-object : goal.returns-clause-object
returns-clause-object c = (
  c.in_ok-slot.slot,
  dying_stage c.args.self.now c.in_ok-slot.slot c.pop.new.self.items c.requires.kept c.in_ok-slot.ensures.items,
  ap (λ (y : PlainSlot). y.payload) c.slot_in-object.ensures,
)

pub returns-clause-calm : goal.returns-clause-calm
returns-clause-calm c s =
    let h = c.args.self.now in
    let slot = c.in_ok-slot.slot in
    let is : IsDestroyed h c.empty.new.self slot = record {
      owned = c.empty.ensures.owned.0;
      weaks = c.empty.ensures.owned.1;
      snapshots = rw c.empty.ensures.snapshots refl;
      deferred = rw (c.empty.ensures.deferred, c.slot_in-object.ensures) refl;
      dying = rw c.empty.ensures.dying c.in_ok-slot.ensures.items;
      adds = c.empty.ensures.rest.1;
      cells = c.empty.ensures.cells.0;
      weak_cells = c.empty.ensures.cells.1;
      slots = rw (c.empty.ensures.slots, c.slot_in-object.ensures) refl;
      strong = c.empty.ensures.rest.0;
      weak = c.empty.ensures.weak;
      next = c.empty.ensures.rest.2;
    } in
    c.end_or_give.ensures.calm s (⊎_elim (λ e. inl e)
    (λ ne. inr (gone_calm h c.empty.new.self slot c.requires.kept is s ne (c.requires.calm s))) (cases_slot s slot))

pub returns-clause-deferred : goal.returns-clause-deferred
returns-clause-deferred c =
    rw (c.end_or_give.ensures.deferred, c.empty.ensures.deferred)
    (defers_more c.args.self.now c.in_ok-slot.slot c.slot_in-object.result c.args.self.now.deferred.items)
