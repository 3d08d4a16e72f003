use Rattle.std.proofs.Common.{◌≡◌, ℕ, refl, ap, subst}
use Rattle.std.specs.Prelude.{Err, IfOk}
use Rattle.queue_protocol.specs.plain_state.declared.act.EventPlace.TheVariants.{Field}
use Rattle.slot_store.specs.core_events.declared.shape.Shape.{Shape}
use Rattle.slot_store.specs.core_events.Words.{slot_in}
use Rattle.slot_store.specs.counted_handles.declared.place.Place.TheVariants as place
use Rattle.slot_store.specs.counted_handles.declared.refusal.LoadError.TheVariants as unloaded
use Rattle.part_calls.specs.atomic_shared.Places.{named}
use Rattle.part_calls.proofs.Seen.{rest_seen}
use Rattle.part_calls.specs.Parts.{as_part, seen_by}
use Rattle.part_calls.specs.protected_loads.Loads.{Misses}
use Rattle.part_calls.specs.protected_loads.References.{Loads}
use Rattle.queue_protocol.specs.queue_law.Lessons.{TellsNothing}
use Rattle.linked_queue.specs.Items.{see_item_next}
use Rattle.linked_queue.specs.Seeing.{LoadsItem, MissesItem, SeesItem, SeesNone}
use Rattle.linked_queue.proofs.Accepting.{kept_all}
use Rattle.linked_queue.proofs.CellLoads.{found_none, found_sees}
use Rattle.linked_queue.proofs.Leavings.{spent_still}
use Rattle.linked_queue.proofs.Making.{load_makes}
use Rattle.linked_queue.proofs.Nodes.{item_ready, sees_item, sees_none}
use Rattle.linked_queue.proofs.Sights.{sights}
use Rattle.linked_queue.proofs.seeing.see_item.Goals as goal

pub try_load-requires-clause-deed : goal.try_load-requires-clause-deed
try_load-requires-clause-deed g c =
    let d = as_part g.P.Part.part c.args.domain.now in
    let fits = g.P.Kind.PayloadKind.fits in
    let before = seen_by g.P.Part.seen c.args.seat.now in
    item_ready fits d before before
    (rest_seen g.P.Part.part g.P.Part.seen c.args.domain.now c.args.seat.now c.requires.rest)
    c.args.front c.args.next c.requires.next c.requires.attached

pub try_load-requires-clause-accepted : goal.try_load-requires-clause-accepted
try_load-requires-clause-accepted g c =
    kept_all g.P.Part.seen g.P.Part.suits g.met.P.HasQueue.accepts
    c.args.domain.now.protocol c.args.seat.now.view.client (see_item_next c.shape-slots.result.slots)
    (λ own after v a w. refl)

pub returns : goal.returns
returns g c =
    let d = as_part g.P.Part.part c.args.domain.now in
    let fits = g.P.Kind.PayloadKind.fits in
    let before = seen_by g.P.Part.seen c.args.seat.now in
    let after = seen_by g.P.Part.seen c.try_load.new.seat in
    let rest = rest_seen g.P.Part.part g.P.Part.seen c.args.domain.now c.args.seat.now
    c.requires.rest in
    let place = place.Field c.args.next 1 in
    let objects = c.try_load.ensures.objects in
    let same : c.try_load.result ≡ Err unloaded.Spent → after ≡ before =
    λ e. ap (seen_by g.P.Part.seen) (c.try_load.ensures.refused e) in
    let told = subst (λ (z : Shape). IfOk c.try_load.result (λ found.
    Loads fits d (Field c.args.next 1) (see_item_next z.slots) TellsNothing (named found) before after)
    × ((seen now : ℕ) → c.try_load.result ≡ Err (unloaded.Moved seen now)
    → Misses fits d 0 (Field c.args.next 1) (see_item_next z.slots) TellsNothing
    (slot_in seen) (slot_in now) before after))
    c.shape-slots.ensures (c.try_load.ensures.loaded, c.try_load.ensures.moved) in
    let all = sights fits d place (see_item_next d.shape.slots) TellsNothing
    (λ own after v a w. refl) before after rest objects c.try_load.result same
    c.try_load.ensures.spent.0 told.0 told.1
    (λ seen now. MissesItem fits d c.args.next seen now before after) (λ seen now m. m) in
    record {
      loads = told.0;
      none =
          found_none (λ found. LoadsItem fits d c.args.next found before after)
          (SeesNone d.shape.slots c.args.front c.args.next after) c.try_load.result
          (sees_none fits d before after rest c.args.front c.args.next c.requires.next objects)
          told.0;
      sees =
          found_sees (λ found. LoadsItem fits d c.args.next found before after)
          (λ s. SeesItem c.args.front c.args.next s after) c.try_load.result
          (λ s. sees_item fits d before after rest c.args.front c.args.next s c.requires.next
          objects)
          told.0;
      adds = all.0.0;
      beside = all.0.1;
      leaves = all.0.2;
      why = all.1;
      makes = load_makes fits d before after place c.try_load.result same told.0 told.1;
      spent = spent_still unloaded.Spent c.try_load.result before after same
          c.try_load.ensures.spent.0;
      room = c.try_load.ensures.room c.requires.room;
      beside_part = c.try_load.ensures.beside;
      rest = c.try_load.ensures.rest;
    }
