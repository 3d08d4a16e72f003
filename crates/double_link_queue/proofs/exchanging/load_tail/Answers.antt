use Rattle.weak_part_calls.specs.protected_loads.References.{Loads}
use Rattle.weak_part_calls.specs.atomic_shared.Places.{named}
use Rattle.weak_part_calls.specs.plain_state.declared.act.EventPlace.TheVariants.{Cell}
use Rattle.std.specs.Prelude.{IfOk}
use Rattle.linked_queue.specs.queue_law.Lessons.{learn_next}
use Rattle.linked_queue.proofs.Accepting.{kept_all, learn_kept}
use Rattle.weak_part_calls.proofs.Below.part_calls_Seen.{rest_seen}
use Rattle.weak_part_calls.specs.part_calls.Parts.{as_part, seen_by}
use Rattle.std.proofs.Common.{false, ap, subst}
use Rattle.linked_queue.specs.Cells.{TailTells}
use Rattle.linked_queue.specs.Queues.{ends_of}
use Rattle.linked_queue.specs.Pushes.{SeesTail}
use Rattle.linked_queue.specs.PushLosses.{MissesTail}
use Rattle.linked_queue.proofs.CellLoads.{cell_seen, cell_sights, cell_there, not_null}
use Rattle.linked_queue.proofs.Nodes.{sees_tail}
use Rattle.weak_part_calls.specs.counted_handles.declared.place.Place.TheVariants as place
use Rattle.linked_queue.proofs.Leavings.{spent_still}
use Rattle.linked_queue.proofs.Making.{load_makes}
use Rattle.weak_part_calls.specs.counted_handles.declared.refusal.LoadError.TheVariants as unloaded
use Rattle.double_link_queue.proofs.exchanging.load_tail.Goals as goal

pub returns : goal.returns
returns g c =
    let d = as_part g.P.Part.part c.args.domain.now in
    let fits = g.P.Kind.PayloadKind.fits in
    let before = seen_by g.P.Part.seen c.args.seat.now in
    let after_try_load = seen_by g.P.Part.seen c.try_load.new.seat in
    let all = cell_sights fits d false (TailTells (ends_of d))
    d.protocol.tail c.args.tail c.requires.tail before after_try_load
    (rest_seen g.P.Part.part g.P.Part.seen c.args.domain.now c.args.seat.now c.requires.rest)
    c.try_load.ensures.objects c.try_load.result (λ e. ap (seen_by g.P.Part.seen)
    (c.try_load.ensures.refused e))
    c.try_load.ensures.spent.0 c.try_load.ensures.loaded c.try_load.ensures.moved (λ seen now.
    MissesTail fits d seen now before after_try_load) (λ seen now m. m) in
    record {
      events = subst (λ n. IfOk c.try_load.result (λ found. Loads fits d (Cell n) (learn_next false)
          (TailTells (ends_of d)) (named found) before after_try_load)) c.requires.tail
          c.try_load.ensures.loaded;
      there =
          cell_there fits d false (TailTells (ends_of d))
          d.protocol.tail c.args.tail c.requires.tail before after_try_load
          (rest_seen g.P.Part.part g.P.Part.seen c.args.domain.now c.args.seat.now c.requires.rest)
          c.try_load.ensures.objects c.try_load.result (λ e. ap (seen_by g.P.Part.seen)
          (c.try_load.ensures.refused e))
          c.try_load.ensures.spent.0 c.try_load.ensures.loaded c.try_load.ensures.moved
          (not_null fits d d.protocol.tail false before
          after_try_load c.requires.attached);
      sees =
          cell_seen fits d false (TailTells (ends_of d))
          d.protocol.tail c.args.tail c.requires.tail before after_try_load
          (rest_seen g.P.Part.part g.P.Part.seen c.args.domain.now c.args.seat.now c.requires.rest)
          c.try_load.ensures.objects c.try_load.result (λ e. ap (seen_by g.P.Part.seen)
          (c.try_load.ensures.refused e))
          c.try_load.ensures.spent.0 c.try_load.ensures.loaded c.try_load.ensures.moved (λ s.
          SeesTail s after_try_load)
          (sees_tail fits d before after_try_load (rest_seen g.P.Part.part g.P.Part.seen
          c.args.domain.now c.args.seat.now c.requires.rest)
          d.protocol.tail);
      adds = all.0.0;
      makes =
          load_makes fits d before after_try_load (place.Cell c.args.tail) c.try_load.result
          (λ e. ap (seen_by g.P.Part.seen) (c.try_load.ensures.refused e)) c.try_load.ensures.loaded
          c.try_load.ensures.moved;
      beside = all.0.1;
      leaves = all.0.2;
      why = all.1;
      spent = spent_still unloaded.Spent c.try_load.result (seen_by g.P.Part.seen c.args.seat.now)
          (seen_by g.P.Part.seen c.try_load.new.seat) (λ e. ap (seen_by g.P.Part.seen) (c.try_load.ensures.refused e))
          c.try_load.ensures.spent.0;
      room = c.try_load.ensures.room c.requires.room;
      beside_part = c.try_load.ensures.beside;
      rest = c.try_load.ensures.rest;
    }

pub try_load-requires-clause-accepted : goal.try_load-requires-clause-accepted
try_load-requires-clause-accepted g c =
    kept_all g.P.Part.seen g.P.Part.suits g.met.P.HasQueue.accepts
    c.args.domain.now.protocol c.args.seat.now.view.client (learn_next false)
    (learn_kept false)
