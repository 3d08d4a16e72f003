use Rattle.std.proofs.Common.{◌≡◌, ◌∙◌, arith, refl, ap, length, ◌∷◌, [], length-append}
use Rattle.std.proofs.lemmas.List.{length-set}
use Rattle.plain_state.specs.State.{slot_at}
use Rattle.plain_state.specs.declared.slot.PlainSlot.{PlainSlot}
use Rattle.plain_store.specs.Stores.{plain_of}
use Rattle.plain_store.specs.Draining.{ended_of, if_live, if_object}
use Rattle.plain_store.proofs.SettlingSteps.{ends_settles}
use Rattle.plain_store.proofs.SettlingStores.{seat_of, kept_after, end_tallied, end_calm, live_there, live_room, object_room}
use Rattle.plain_store.proofs.store.Store.end.Goals as goal

pub push_reserved-requires : goal.push_reserved-requires
push_reserved-requires c =
    let h = c.args.self.now in
    let at = live_there h c.args.slot c.requires.kept c.requires.live c.requires.none in
    let a = live_room h 1 c.args.slot (ended_of (slot_at (plain_of h) c.args.slot)) at in
    let b = ap (if_live 1) c.requires.live in
    omega (arith, c.requires.room.dying)

pub returns : goal.returns
returns c =
    let h = c.args.self.now in
    let object = c.ended-object.result in
    let is : object ≡ ended_of (slot_at (plain_of h) c.args.slot) =
    c.ended-object.ensures ∙ ap ended_of c.slot_in.ensures in
    let at = live_there h c.args.slot c.requires.kept c.requires.live c.requires.none in
    let a = live_room h 1 c.args.slot object at in
    let b = object_room h 3 c.args.slot object at in
    let e = ap (λ (y : PlainSlot). if_live 1 y.stage) is in
    let f = ap (λ (y : PlainSlot). if_object 3 y.stage) is in
    let l = ap (if_live 1) c.requires.live in
    let m = ap (if_object 3) c.requires.live in
    let n = ap length c.push_reserved.ensures.items in
    let o = length-append h.dying.items (c.args.slot ∷ []) in
    let ends = ends_settles (seat_of h) h.cells.items h.weak_cells.items refl h.slots.items c.args.slot
    c.requires.live c.requires.none in
    record {
      settles = rw (c.push_reserved.ensures.items, is) ends;
      kept = kept_after h _ c.requires.kept (rw (c.push_reserved.ensures.items, is) ends)
          (rw (c.push_reserved.ensures.items, is)
          (end_tallied h c.args.slot c.requires.kept c.requires.live c.requires.none))
          (record { adds = refl; slots = length-set h.slots.items c.args.slot.0 object; next = refl });
      room = record {
        dying = omega (arith, c.requires.room.dying, c.push_reserved.ensures.capacity, a, e, l, n, o);
        deferred = omega (arith, c.requires.room.deferred, b, f, m);
      };
      calm = λ s either. rw (c.push_reserved.ensures.items, is)
          (end_calm h c.args.slot c.requires.kept c.requires.live c.requires.none s either);
      deferred = refl;
      snapshots = refl;
      slots = length-set h.slots.items c.args.slot.0 object;
    }

pub slot_in-requires : goal.slot_in-requires
slot_in-requires c = live_there c.args.self.now c.args.slot c.requires.kept c.requires.live c.requires.none
