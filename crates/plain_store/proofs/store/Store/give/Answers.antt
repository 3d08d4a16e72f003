use Rattle.std.proofs.Common.{◌≡◌, ◌∙◌, arith, refl, subst, sym, ap}
use Rattle.std.proofs.lemmas.List.{length-set}
use Rattle.std.specs.Prelude.{slice_set}
use Rattle.plain_state.specs.State.{slot_at}
use Rattle.plain_state.specs.declared.slot.PlainSlot.{PlainSlot}
use Rattle.plain_store.specs.Stores.{plain_of, Tallied}
use Rattle.plain_store.specs.Draining.{SettlesFreely, IsCalm, freed_of, if_live, if_object}
use Rattle.plain_store.proofs.SettlingSteps.{gives_settles}
use Rattle.plain_store.proofs.SettlingStores.{seat_of, with, kept_after, give_tallied, give_calm, husk_there, live_room, object_room}
use Rattle.plain_store.proofs.store.Store.give.Goals as goal

pub returns : goal.returns
returns c =
    let h = c.args.self.now in
    let empty = c.freed-empty.result in
    let is : empty ≡ freed_of (slot_at (plain_of h) c.args.slot) =
    c.freed-empty.ensures ∙ ap freed_of c.slot_in.ensures in
    let at = husk_there h c.args.slot c.requires.kept c.requires.husk c.requires.none in
    let a = live_room h 1 c.args.slot empty at in
    let b = object_room h 3 c.args.slot empty at in
    let e = ap (λ (y : PlainSlot). if_live 1 y.stage) is in
    let f = ap (λ (y : PlainSlot). if_object 3 y.stage) is in
    let settles =
    subst (λ (y : PlainSlot). SettlesFreely (plain_of h) (with h (seat_of h) (slice_set h.slots.items c.args.slot.0 y))) (sym is)
    (gives_settles (seat_of h) h.cells.items h.weak_cells.items refl h.slots.items c.args.slot c.requires.husk c.requires.none) in
    record {
      settles = settles;
      kept = kept_after h _ c.requires.kept settles
          (subst (λ (y : PlainSlot). Tallied (with h (seat_of h) (slice_set h.slots.items c.args.slot.0 y)) h.strong.items h.weak.items) (sym is)
          (give_tallied h c.args.slot c.requires.kept c.requires.husk c.requires.none))
          (record { adds = refl; slots = length-set h.slots.items c.args.slot.0 empty; next = refl });
      room = record {
        dying = omega (arith, c.requires.room.dying, a, e);
        deferred = omega (arith, c.requires.room.deferred, b, f);
      };
      calm = λ s either. subst (λ (y : PlainSlot). IsCalm (with h (seat_of h) (slice_set h.slots.items c.args.slot.0 y)) s) (sym is)
          (give_calm h c.args.slot c.requires.kept c.requires.husk c.requires.none s either);
      deferred = refl;
      snapshots = refl;
      slots = length-set h.slots.items c.args.slot.0 empty;
    }

pub slot_in-requires : goal.slot_in-requires
slot_in-requires c = husk_there c.args.self.now c.args.slot c.requires.kept c.requires.husk c.requires.none
