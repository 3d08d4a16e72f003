use Rattle.std.proofs.Common.{refl, ap}
use Rattle.weak_part_calls.proofs.Below.part_calls_Seen.{rest_seen}
use Rattle.weak_part_calls.specs.part_calls.Parts.{as_part, seen_by}
use Rattle.linked_queue.specs.queue_law.Lessons.{before_next}
use Rattle.linked_queue.proofs.Accepting.{kept_all}
use Rattle.double_link_queue.proofs.LooksBack.{before_ready, looked_back}
use Rattle.double_link_queue.proofs.Making.{weak_load_makes}
use Rattle.linked_queue.proofs.Leavings.{spent_still}
use Rattle.weak_part_calls.specs.counted_handles.declared.refusal.LoadError.TheVariants as unloaded
use Rattle.double_link_queue.proofs.looking_back.load_back.Goals as goal

pub try_load_weak-requires-clause-deed : goal.try_load_weak-requires-clause-deed
try_load_weak-requires-clause-deed g c =
    before_ready g.P.Kind.PayloadKind.fits (as_part g.P.Part.part c.args.domain.now) c.args.last
    (seen_by g.P.Part.seen c.args.seat.now) c.requires.tail c.requires.queue

pub try_load_weak-requires-clause-accepted : goal.try_load_weak-requires-clause-accepted
try_load_weak-requires-clause-accepted g c =
    kept_all g.P.Part.seen g.P.Part.suits g.met.P.HasQueue.accepts
    c.args.domain.now.protocol c.args.seat.now.view.client before_next
    (λ own after v a w. refl)

pub returns : goal.returns
returns g c =
    let all = looked_back g.P.Kind.PayloadKind.fits (as_part g.P.Part.part c.args.domain.now)
    c.args.last (seen_by g.P.Part.seen c.args.seat.now) c.requires.tail
    (seen_by g.P.Part.seen c.try_load_weak.new.seat)
    (rest_seen g.P.Part.part g.P.Part.seen c.args.domain.now c.args.seat.now c.requires.rest)
    c.try_load_weak.ensures.objects c.try_load_weak.result
    (λ e. ap (seen_by g.P.Part.seen) (c.try_load_weak.ensures.refused e))
    c.try_load_weak.ensures.spent.0 c.try_load_weak.ensures.loaded c.try_load_weak.ensures.moved in
    record {
      events = c.try_load_weak.ensures.loaded;
      none = all.2;
      sees = all.3;
      tail = all.0.3;
      adds = all.0.0;
      makes =
          weak_load_makes g.P.Kind.PayloadKind.fits (as_part g.P.Part.part c.args.domain.now)
          (seen_by g.P.Part.seen c.args.seat.now) (seen_by g.P.Part.seen c.try_load_weak.new.seat)
          c.args.last c.try_load_weak.result
          (λ e. ap (seen_by g.P.Part.seen) (c.try_load_weak.ensures.refused e))
          c.try_load_weak.ensures.loaded c.try_load_weak.ensures.moved;
      beside = all.0.1;
      leaves = all.0.2;
      why = all.1;
      spent = spent_still unloaded.Spent c.try_load_weak.result
          (seen_by g.P.Part.seen c.args.seat.now) (seen_by g.P.Part.seen c.try_load_weak.new.seat)
          (λ e. ap (seen_by g.P.Part.seen) (c.try_load_weak.ensures.refused e))
          c.try_load_weak.ensures.spent.0;
      room = c.try_load_weak.ensures.room c.requires.room;
      beside_part = c.try_load_weak.ensures.beside;
      rest = c.try_load_weak.ensures.rest;
    }
