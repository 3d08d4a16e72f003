use Rattle.linked_queue.specs.UnlessRipe.{next_unless}
use Rattle.linked_queue.specs.queue_law.Nodes.{back_next}
use Rattle.linked_queue.specs.queue_law.Lessons.{TellsNothing}
use Rattle.weak_part_calls.specs.retiring_stores.Exchanging.{Stores}
use Rattle.weak_part_calls.specs.plain_state.declared.act.EventPlace.TheVariants.{WeakField}
use Rattle.std.proofs.Common.{ap, ◌∙◌, subst, [], ◌∷◌, ◌++◌}
use Rattle.std.specs.Prelude.{None, Some}
use Rattle.weak_part_calls.specs.plain_state.declared.slot.SlotId.{SlotId}
use Rattle.weak_part_calls.specs.core_events.Views.{without}
use Rattle.linked_queue.specs.queue_law.declared.view.View.{View}
use Rattle.weak_part_calls.specs.part_calls.Parts.{as_part, seen_by}
use Rattle.double_link_queue.specs.Leaving.{LeavesBoth}
use Rattle.double_link_queue.specs.Pushes.{backed_in}
use Rattle.double_link_queue.proofs.Backs.{load_kept}
use Rattle.double_link_queue.proofs.Leavings.{weaken_leaves}
use Rattle.double_link_queue.proofs.Owning.{weak_through}
use Rattle.double_link_queue.proofs.backing.link_back.Goals as goal

pub set_back-requires-clause-load : goal.set_back-requires-clause-load
set_back-requires-clause-load g c =
    let old = seen_by g.P.Part.seen c.args.seat.now in
    let mid = seen_by g.P.Part.seen c.weaken.new.seat in
    let last = c.args.last.now.slot in
    load_kept old.view.core.owned (old.view.core.weaks ++ last ∷ []) c.args.node old mid
    c.requires.load
    (weaken_leaves g.P.Kind.PayloadKind.fits (as_part g.P.Part.part c.args.domain.now) last old mid
    c.in_ok-back.ensures.gained.1 c.weaken.ensures.objects)
    c.requires.load.owns (ap (λ (v : View). v.load.node) c.weaken.ensures.seen)
    (ap (λ (v : View). v.load.life) c.weaken.ensures.seen)
    (ap (λ (v : View). v.load.item) c.weaken.ensures.seen)

pub returns-clause-backed : goal.returns-clause-backed
returns-clause-backed g c =
    c.set_back.ensures.backed
    ∙ ap (λ (s : SlotId). backed_in s (g.P.Part.seen c.weaken.new.seat.view.client))
    c.in_ok-back.ensures.gained.0
    ∙ ap (backed_in c.args.last.now.slot) c.weaken.ensures.seen

pub returns-clause-leaves : goal.returns-clause-leaves
returns-clause-leaves g c =
    let old = seen_by g.P.Part.seen c.args.seat.now in
    let mid = seen_by g.P.Part.seen c.weaken.new.seat in
    let new = seen_by g.P.Part.seen c.set_back.new.seat in
    let last = c.args.last.now.slot in
    weak_through last None old mid new
    (weaken_leaves g.P.Kind.PayloadKind.fits (as_part g.P.Part.part c.args.domain.now) last old mid
    c.in_ok-back.ensures.gained.1 c.weaken.ensures.objects)
    (subst (λ (s : SlotId). LeavesBoth mid.view.core.owned (without s mid.view.core.weaks) mid new)
    c.in_ok-back.ensures.gained.0 c.set_back.ensures.leaves)

pub returns-clause-events : goal.returns-clause-events
returns-clause-events g c =
    let d = as_part g.P.Part.part c.args.domain.now in
    let fits = g.P.Kind.PayloadKind.fits in
    let before = seen_by g.P.Part.seen c.args.seat.now in
    let weak = seen_by g.P.Part.seen c.weaken.new.seat in
    let after = seen_by g.P.Part.seen c.set_back.new.seat in
    record {
      weak = weak;
      weakens = c.in_ok-back.ensures.gained.1;
      stores = subst (λ (s : SlotId). Stores fits d (next_unless back_next) TellsNothing
          (WeakField c.args.node) (Some s) weak after)
          c.in_ok-back.ensures.gained.0 c.set_back.ensures.events;
    }
