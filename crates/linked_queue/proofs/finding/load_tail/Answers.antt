use Rattle.queue_protocol.specs.queue_law.Lessons.{learn_next}
use Rattle.linked_queue.proofs.Accepting.{kept_all, learn_kept}
use Rattle.part_calls.proofs.Seen.{rest_seen}
use Rattle.part_calls.specs.Parts.{as_part, seen_by}
use Rattle.std.proofs.Common.{rules, false, ap}
use Rattle.linked_queue.specs.Cells.{TailTells}
use Rattle.linked_queue.specs.Queues.{ends_of}
use Rattle.linked_queue.specs.PushLosses.{MissesTail}
use Rattle.linked_queue.specs.Pushes.{SeesTail}
use Rattle.linked_queue.proofs.CellLoads.{cell_seen, cell_sights, cell_there, not_null}
use Rattle.linked_queue.proofs.Nodes.{sees_tail}
use Rattle.slot_store.specs.counted_handles.declared.place.Place.TheVariants as place
use Rattle.slot_store.specs.counted_handles.declared.refusal.LoadError.TheVariants as unloaded
use Rattle.linked_queue.proofs.Leavings.{spent_still}
use Rattle.linked_queue.proofs.Making.{load_makes}
use Rattle.linked_queue.proofs.finding.load_tail.Goals as goal

pub returns : goal.returns
returns g c =
    let all = cell_sights g.P.Kind.PayloadKind.fits (as_part g.P.Part.part c.args.domain.now) false (TailTells (ends_of (as_part g.P.Part.part c.args.domain.now)))
    (as_part g.P.Part.part c.args.domain.now).protocol.tail c.args.tail c.requires.tail (seen_by g.P.Part.seen c.args.seat.now) (seen_by g.P.Part.seen c.try_load.new.seat)
    (rest_seen g.P.Part.part g.P.Part.seen c.args.domain.now c.args.seat.now c.requires.rest) c.try_load.ensures.objects c.try_load.result (λ e. ap (seen_by g.P.Part.seen) (c.try_load.ensures.refused e))
    c.try_load.ensures.spent.0 c.try_load.ensures.loaded c.try_load.ensures.moved (λ seen now.
    MissesTail g.P.Kind.PayloadKind.fits (as_part g.P.Part.part c.args.domain.now) seen now
    (seen_by g.P.Part.seen c.args.seat.now) (seen_by g.P.Part.seen c.try_load.new.seat)) (λ seen now m. m) in
    record {
      loads = search rules;
      there =
          cell_there g.P.Kind.PayloadKind.fits (as_part g.P.Part.part c.args.domain.now) false (TailTells (ends_of (as_part g.P.Part.part c.args.domain.now)))
          (as_part g.P.Part.part c.args.domain.now).protocol.tail c.args.tail c.requires.tail (seen_by g.P.Part.seen c.args.seat.now) (seen_by g.P.Part.seen c.try_load.new.seat)
          (rest_seen g.P.Part.part g.P.Part.seen c.args.domain.now c.args.seat.now c.requires.rest) c.try_load.ensures.objects c.try_load.result (λ e. ap (seen_by g.P.Part.seen) (c.try_load.ensures.refused e))
          c.try_load.ensures.spent.0 c.try_load.ensures.loaded c.try_load.ensures.moved
          (not_null g.P.Kind.PayloadKind.fits (as_part g.P.Part.part c.args.domain.now) (as_part g.P.Part.part c.args.domain.now).protocol.tail false (seen_by g.P.Part.seen c.args.seat.now)
          (seen_by g.P.Part.seen c.try_load.new.seat) c.requires.attached);
      sees =
          cell_seen g.P.Kind.PayloadKind.fits (as_part g.P.Part.part c.args.domain.now) false (TailTells (ends_of (as_part g.P.Part.part c.args.domain.now)))
          (as_part g.P.Part.part c.args.domain.now).protocol.tail c.args.tail c.requires.tail (seen_by g.P.Part.seen c.args.seat.now) (seen_by g.P.Part.seen c.try_load.new.seat)
          (rest_seen g.P.Part.part g.P.Part.seen c.args.domain.now c.args.seat.now c.requires.rest) c.try_load.ensures.objects c.try_load.result (λ e. ap (seen_by g.P.Part.seen) (c.try_load.ensures.refused e))
          c.try_load.ensures.spent.0 c.try_load.ensures.loaded c.try_load.ensures.moved (λ s. SeesTail s (seen_by g.P.Part.seen c.try_load.new.seat))
          (sees_tail g.P.Kind.PayloadKind.fits (as_part g.P.Part.part c.args.domain.now) (seen_by g.P.Part.seen c.args.seat.now) (seen_by g.P.Part.seen c.try_load.new.seat) (rest_seen g.P.Part.part g.P.Part.seen c.args.domain.now c.args.seat.now c.requires.rest)
          (as_part g.P.Part.part c.args.domain.now).protocol.tail);
      adds = all.0.0;
      beside = all.0.1;
      leaves = all.0.2;
      why = all.1;
      makes = load_makes g.P.Kind.PayloadKind.fits (as_part g.P.Part.part c.args.domain.now)
          (seen_by g.P.Part.seen c.args.seat.now) (seen_by g.P.Part.seen c.try_load.new.seat)
          (place.Cell c.args.tail) c.try_load.result (λ e. ap (seen_by g.P.Part.seen) (c.try_load.ensures.refused e))
          c.try_load.ensures.loaded c.try_load.ensures.moved;
      spent = spent_still unloaded.Spent c.try_load.result (seen_by g.P.Part.seen c.args.seat.now)
          (seen_by g.P.Part.seen c.try_load.new.seat) (λ e. ap (seen_by g.P.Part.seen) (c.try_load.ensures.refused e))
          c.try_load.ensures.spent.0;
      room = c.try_load.ensures.room c.requires.room;
      beside_part = c.try_load.ensures.beside;
      rest = c.try_load.ensures.rest;
    }

pub try_load-requires-clause-accepted : goal.try_load-requires-clause-accepted
try_load-requires-clause-accepted g c =
    kept_all g.P.Part.seen g.P.Part.suits g.met.P.HasQueue.accepts
    c.args.domain.now.protocol c.args.seat.now.view.client (learn_next false)
    (learn_kept false)
