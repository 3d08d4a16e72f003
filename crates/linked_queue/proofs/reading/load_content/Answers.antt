use Rattle.std.proofs.Common.{◌≡◌, ℕ, refl, ap}
use Rattle.std.specs.Prelude.{Err}
use Rattle.queue_protocol.specs.plain_state.declared.act.EventPlace.TheVariants.{Field}
use Rattle.queue_protocol.specs.queue_law.Lessons.{TellsNothing}
use Rattle.slot_store.proofs.Below.acquire_retire_Wholes.{then_ok}
use Rattle.slot_store.specs.acquire_retire.Calls.{same_view}
use Rattle.slot_store.specs.core_events.Words.{slot_in}
use Rattle.slot_store.specs.counted_handles.declared.place.Place.TheVariants as place
use Rattle.slot_store.specs.counted_handles.declared.refusal.LoadError.TheVariants as unloaded
use Rattle.part_calls.specs.atomic_shared.Places.{named}
use Rattle.part_calls.proofs.Seen.{rest_seen}
use Rattle.part_calls.proofs.SeenCalls.{loads_seen, misses_seen}
use Rattle.part_calls.specs.protected_loads.Loads.{Misses}
use Rattle.part_calls.specs.protected_loads.References.{Loads}
use Rattle.part_calls.specs.Parts.{as_part, seen_by}
use Rattle.linked_queue.specs.Seeing.{MissesAt}
use Rattle.linked_queue.proofs.Contents.{client_stays}
use Rattle.linked_queue.proofs.Leavings.{spent_still}
use Rattle.linked_queue.proofs.Making.{load_makes}
use Rattle.linked_queue.proofs.Readings.{load_told, reads_ready, reads_seen}
use Rattle.linked_queue.proofs.Sights.{sights}
use Rattle.linked_queue.proofs.reading.load_content.Goals as goal

pub try_load-requires-clause-deed : goal.try_load-requires-clause-deed
try_load-requires-clause-deed g c =
    reads_ready g.P.Kind.PayloadKind.fits c.args.domain.now g.P.Part.seen g.P.Part.with_seen
    (g.D.Deed.ready c.args.deed c.args.domain.now.protocol)
    (g.D.Deed.next c.args.deed c.args.domain.now.protocol) c.args.field c.args.seat.now c.args.item
    c.requires.deed c.requires.item

pub returns : goal.returns
returns g c =
    let d = as_part g.P.Part.part c.args.domain.now in
    let fits = g.P.Kind.PayloadKind.fits in
    let before = seen_by g.P.Part.seen c.args.seat.now in
    let after = seen_by g.P.Part.seen c.try_load.new.seat in
    let rest = rest_seen g.P.Part.part g.P.Part.seen c.args.domain.now c.args.seat.now
    c.requires.rest in
    let place = place.Field c.args.item c.args.field in
    let event_place = Field c.args.item c.args.field in
    let is = reads_seen fits c.args.domain.now g.P.Part.seen g.P.Part.with_seen
    (g.D.Deed.ready c.args.deed c.args.domain.now.protocol)
    (g.D.Deed.next c.args.deed c.args.domain.now.protocol) c.args.field
    c.args.seat.now.view.client (g.D.Deed.allows c.args.deed c.args.domain.now.protocol)
    c.requires.deed in
    let loaded = then_ok _
    (λ found. Loads fits d event_place same_view TellsNothing (named found) before after)
    c.try_load.result
    (λ found l. loads_seen fits g.P.Part.part g.P.Part.seen c.args.domain.now is event_place
    (named found) c.args.seat.now c.try_load.new.seat l)
    c.try_load.ensures.loaded in
    let moved : (was now : ℕ) → c.try_load.result ≡ Err (unloaded.Moved was now)
    → Misses fits d 0 event_place same_view TellsNothing (slot_in was) (slot_in now) before after =
    λ was now e. misses_seen fits g.P.Part.part g.P.Part.seen c.args.domain.now is 0
    event_place (slot_in was) (slot_in now) c.args.seat.now c.try_load.new.seat
    (c.try_load.ensures.moved was now e) in
    let same : c.try_load.result ≡ Err unloaded.Spent → after ≡ before =
    λ e. ap (seen_by g.P.Part.seen) (c.try_load.ensures.refused e) in
    let all = sights fits d place same_view TellsNothing (λ own after v a w. refl) before after rest
    c.try_load.ensures.objects c.try_load.result same c.try_load.ensures.spent.0 loaded moved
    (λ seen now. MissesAt fits d event_place same_view TellsNothing seen now before after)
    (λ seen now m. m) in
    record {
      reads = loaded;
      client = client_stays fits d event_place before after rest c.try_load.result same loaded moved;
      adds = all.0.0;
      leaves = all.0.2;
      why = all.1;
      makes = load_makes fits d before after place c.try_load.result same loaded moved;
      spent = spent_still unloaded.Spent c.try_load.result before after same
          c.try_load.ensures.spent.0;
      beside = load_told fits c.args.domain.now g.P.Part.seen g.P.Part.with_seen
          (g.D.Deed.next c.args.deed c.args.domain.now.protocol)
          (g.D.Deed.allows c.args.deed c.args.domain.now.protocol) c.args.field c.args.item
          c.try_load.result c.args.seat.now c.try_load.new.seat c.try_load.ensures.refused
          c.try_load.ensures.loaded c.try_load.ensures.moved;
      room = c.try_load.ensures.room c.requires.room;
      rest = c.try_load.ensures.rest;
    }
