use Rattle.linked_queue.proofs.Accepting.{kept_all}
use Rattle.part_calls.proofs.Seen.{rest_seen}
use Rattle.part_calls.specs.Parts.{as_part, seen_by}
use Rattle.std.proofs.Common.{refl, ap}
use Rattle.queue_protocol.specs.plain_state.declared.act.EventPlace.TheVariants.{Field}
use Rattle.slot_store.specs.counted_handles.declared.place.Place.TheVariants as place
use Rattle.part_calls.specs.protected_loads.References.{Loads}
use Rattle.queue_protocol.specs.queue_law.Lessons.{NextTells, next_next}
use Rattle.linked_queue.specs.Queues.{ends_of}
use Rattle.linked_queue.specs.Seeing.{FindsLast, MissesNext, SeesNext}
use Rattle.linked_queue.proofs.CellLoads.{found_none, found_sees}
use Rattle.linked_queue.proofs.Nodes.{finds_last, sees_next}
use Rattle.linked_queue.proofs.Sights.{sights}
use Rattle.slot_store.specs.counted_handles.declared.refusal.LoadError.TheVariants as unloaded
use Rattle.linked_queue.proofs.Leavings.{spent_still}
use Rattle.linked_queue.proofs.Making.{load_makes}
use Rattle.linked_queue.proofs.seeing.see_next.Goals as goal

pub returns : goal.returns
returns g c =
    let all = sights g.P.Kind.PayloadKind.fits (as_part g.P.Part.part c.args.domain.now) (place.Field c.args.front 0) (next_next) (NextTells (ends_of (as_part g.P.Part.part c.args.domain.now)))
    (λ own after v a w. refl) (seen_by g.P.Part.seen c.args.seat.now) (seen_by g.P.Part.seen c.try_load.new.seat) (rest_seen g.P.Part.part g.P.Part.seen c.args.domain.now c.args.seat.now c.requires.rest)
    c.try_load.ensures.objects c.try_load.result (λ e. ap (seen_by g.P.Part.seen) (c.try_load.ensures.refused e))
    c.try_load.ensures.spent.0 c.try_load.ensures.loaded c.try_load.ensures.moved
    (λ seen now. MissesNext g.P.Kind.PayloadKind.fits (as_part g.P.Part.part c.args.domain.now) c.args.front seen now (seen_by g.P.Part.seen c.args.seat.now) (seen_by g.P.Part.seen c.try_load.new.seat))
    (λ seen now m. m) in
    record {
      loads = c.try_load.ensures.loaded;
      none =
          found_none (λ found. Loads g.P.Kind.PayloadKind.fits (as_part g.P.Part.part c.args.domain.now) (Field c.args.front 0) next_next
          (NextTells (ends_of (as_part g.P.Part.part c.args.domain.now))) found (seen_by g.P.Part.seen c.args.seat.now) (seen_by g.P.Part.seen c.try_load.new.seat))
          (FindsLast g.P.Kind.PayloadKind.fits (as_part g.P.Part.part c.args.domain.now) c.args.front (seen_by g.P.Part.seen c.args.seat.now) (seen_by g.P.Part.seen c.try_load.new.seat))
          c.try_load.result
          (finds_last g.P.Kind.PayloadKind.fits (as_part g.P.Part.part c.args.domain.now) (seen_by g.P.Part.seen c.args.seat.now) (seen_by g.P.Part.seen c.try_load.new.seat) (rest_seen g.P.Part.part g.P.Part.seen c.args.domain.now c.args.seat.now c.requires.rest) c.args.front
          c.requires.head c.requires.attached)
          c.try_load.ensures.loaded;
      sees =
          found_sees (λ found. Loads g.P.Kind.PayloadKind.fits (as_part g.P.Part.part c.args.domain.now) (Field c.args.front 0) (next_next)
          (NextTells (ends_of (as_part g.P.Part.part c.args.domain.now))) found (seen_by g.P.Part.seen c.args.seat.now) (seen_by g.P.Part.seen c.try_load.new.seat))
          (λ s. SeesNext c.args.front s (seen_by g.P.Part.seen c.try_load.new.seat)) c.try_load.result
          (λ s. sees_next g.P.Kind.PayloadKind.fits (as_part g.P.Part.part c.args.domain.now) (seen_by g.P.Part.seen c.args.seat.now) (seen_by g.P.Part.seen c.try_load.new.seat) (rest_seen g.P.Part.part g.P.Part.seen c.args.domain.now c.args.seat.now c.requires.rest) c.args.front s c.requires.head c.try_load.ensures.objects)
          c.try_load.ensures.loaded;
      adds = all.0.0;
      beside = all.0.1;
      leaves = all.0.2;
      why = all.1;
      makes = load_makes g.P.Kind.PayloadKind.fits (as_part g.P.Part.part c.args.domain.now)
          (seen_by g.P.Part.seen c.args.seat.now) (seen_by g.P.Part.seen c.try_load.new.seat)
          (place.Field c.args.front 0) c.try_load.result (λ e. ap (seen_by g.P.Part.seen) (c.try_load.ensures.refused e))
          c.try_load.ensures.loaded c.try_load.ensures.moved;
      spent = spent_still unloaded.Spent c.try_load.result (seen_by g.P.Part.seen c.args.seat.now)
          (seen_by g.P.Part.seen c.try_load.new.seat) (λ e. ap (seen_by g.P.Part.seen) (c.try_load.ensures.refused e))
          c.try_load.ensures.spent.0;
      room = c.try_load.ensures.room c.requires.room;
      beside_part = c.try_load.ensures.beside;
      rest = c.try_load.ensures.rest;
    }

pub try_load-requires-clause-accepted : goal.try_load-requires-clause-accepted
try_load-requires-clause-accepted g c =
    kept_all g.P.Part.seen g.P.Part.suits g.met.P.HasQueue.accepts
    c.args.domain.now.protocol c.args.seat.now.view.client next_next
    (λ own after v a w. refl)
