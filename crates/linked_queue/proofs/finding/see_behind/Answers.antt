use Rattle.linked_queue.proofs.Accepting.{kept_all}
use Rattle.part_calls.proofs.Seen.{rest_seen}
use Rattle.part_calls.specs.Parts.{as_part, seen_by}
use Rattle.std.proofs.Common.{refl, ap}
use Rattle.queue_protocol.specs.plain_state.declared.act.EventPlace.TheVariants.{Field}
use Rattle.slot_store.proofs.Below.acquire_retire_Wholes.{then_ok}
use Rattle.part_calls.specs.atomic_shared.Places.{named}
use Rattle.slot_store.specs.counted_handles.declared.place.Place.TheVariants as place
use Rattle.part_calls.specs.protected_loads.References.{Loads}
use Rattle.queue_protocol.specs.queue_law.Lessons.{NextTells, next_next}
use Rattle.linked_queue.specs.Queues.{ends_of}
use Rattle.linked_queue.specs.PushLosses.{MissesBehind}
use Rattle.linked_queue.specs.Pushes.{SeesBehind, SeesTail}
use Rattle.linked_queue.proofs.CellLoads.{found_sees}
use Rattle.linked_queue.proofs.EndNodes.{sees_behind, still_tail}
use Rattle.linked_queue.proofs.Sights.{sights}
use Rattle.slot_store.specs.counted_handles.declared.refusal.LoadError.TheVariants as unloaded
use Rattle.linked_queue.proofs.Leavings.{spent_still}
use Rattle.linked_queue.proofs.Making.{load_makes}
use Rattle.linked_queue.proofs.finding.see_behind.Goals as goal

pub returns : goal.returns
returns g c =
    let all = sights g.P.Kind.PayloadKind.fits (as_part g.P.Part.part c.args.domain.now) (place.Field c.args.old 0) next_next
    (NextTells (ends_of (as_part g.P.Part.part c.args.domain.now))) (λ own after v a w. refl) (seen_by g.P.Part.seen c.args.seat.now)
    (seen_by g.P.Part.seen c.try_load.new.seat) (rest_seen g.P.Part.part g.P.Part.seen c.args.domain.now c.args.seat.now c.requires.rest) c.try_load.ensures.objects c.try_load.result
    (λ e. ap (seen_by g.P.Part.seen) (c.try_load.ensures.refused e)) c.try_load.ensures.spent.0 c.try_load.ensures.loaded
    c.try_load.ensures.moved (λ seen now.
    MissesBehind g.P.Kind.PayloadKind.fits (as_part g.P.Part.part c.args.domain.now) c.args.old seen now
    (seen_by g.P.Part.seen c.args.seat.now) (seen_by g.P.Part.seen c.try_load.new.seat)) (λ seen now m. m) in
    record {
      loads = c.try_load.ensures.loaded;
      sees =
          found_sees (λ found. Loads g.P.Kind.PayloadKind.fits (as_part g.P.Part.part c.args.domain.now) (Field c.args.old 0) next_next
          (NextTells (ends_of (as_part g.P.Part.part c.args.domain.now))) found (seen_by g.P.Part.seen c.args.seat.now) (seen_by g.P.Part.seen c.try_load.new.seat))
          (λ s. SeesBehind c.args.old s (seen_by g.P.Part.seen c.try_load.new.seat)) c.try_load.result
          (λ s. sees_behind g.P.Kind.PayloadKind.fits (as_part g.P.Part.part c.args.domain.now) (seen_by g.P.Part.seen c.args.seat.now) (seen_by g.P.Part.seen c.try_load.new.seat) (rest_seen g.P.Part.part g.P.Part.seen c.args.domain.now c.args.seat.now c.requires.rest)
          c.args.old s c.requires.tail c.try_load.ensures.objects)
          c.try_load.ensures.loaded;
      last =
          then_ok (λ found. Loads g.P.Kind.PayloadKind.fits (as_part g.P.Part.part c.args.domain.now) (Field c.args.old 0) next_next
          (NextTells (ends_of (as_part g.P.Part.part c.args.domain.now))) (named found) (seen_by g.P.Part.seen c.args.seat.now) (seen_by g.P.Part.seen c.try_load.new.seat))
          (λ found. SeesTail c.args.old (seen_by g.P.Part.seen c.try_load.new.seat)) c.try_load.result
          (λ found l. still_tail g.P.Kind.PayloadKind.fits (as_part g.P.Part.part c.args.domain.now) (seen_by g.P.Part.seen c.args.seat.now) (seen_by g.P.Part.seen c.try_load.new.seat) (rest_seen g.P.Part.part g.P.Part.seen c.args.domain.now c.args.seat.now c.requires.rest)
          c.args.old (named found) c.requires.tail c.try_load.ensures.objects l)
          c.try_load.ensures.loaded;
      adds = all.0.0;
      beside = all.0.1;
      leaves = all.0.2;
      why = all.1;
      makes = load_makes g.P.Kind.PayloadKind.fits (as_part g.P.Part.part c.args.domain.now)
          (seen_by g.P.Part.seen c.args.seat.now) (seen_by g.P.Part.seen c.try_load.new.seat)
          (place.Field c.args.old 0) c.try_load.result (λ e. ap (seen_by g.P.Part.seen) (c.try_load.ensures.refused e))
          c.try_load.ensures.loaded c.try_load.ensures.moved;
      spent = spent_still unloaded.Spent c.try_load.result (seen_by g.P.Part.seen c.args.seat.now)
          (seen_by g.P.Part.seen c.try_load.new.seat) (λ e. ap (seen_by g.P.Part.seen) (c.try_load.ensures.refused e))
          c.try_load.ensures.spent.0;
      room = c.try_load.ensures.room c.requires.room;
      beside_part = c.try_load.ensures.beside;
      rest = c.try_load.ensures.rest;
    }

pub try_load-requires-clause-accepted : goal.try_load-requires-clause-accepted
try_load-requires-clause-accepted g c =
    kept_all g.P.Part.seen g.P.Part.suits g.met.P.HasQueue.accepts
    c.args.domain.now.protocol c.args.seat.now.view.client next_next
    (λ own after v a w. refl)
