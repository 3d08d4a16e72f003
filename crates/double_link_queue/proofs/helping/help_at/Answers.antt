use Rattle.double_link_queue.specs.Steps.{SetsLink}
use Rattle.std.proofs.Common.{true, refl, sym, ap, ◌∙◌, subst, ◌++◌, ◌∷◌, [], arith, inr}
use Rattle.std.specs.Prelude.{None}
use Rattle.weak_part_calls.specs.plain_state.declared.slot.SlotId.{SlotId}
use Rattle.weak_part_calls.specs.core_events.Views.{without}
use Rattle.weak_part_calls.proofs.Below.core_law_Kit.{times_push}
use Rattle.linked_queue.specs.queue_law.Pushes.{helped_view}
use Rattle.weak_part_calls.specs.part_calls.Parts.{seen_by, as_part}
use Rattle.linked_queue.specs.Leaving.{Leaves}
use Rattle.linked_queue.proofs.Leavings.{copy_leaves, leaves_same}
use Rattle.linked_queue.proofs.Owning.{through}
use Rattle.linked_queue.proofs.Poppings.{leaves_on}
use Rattle.double_link_queue.specs.Pushes.{SeesNodeBefore}
use Rattle.double_link_queue.proofs.Helps.{node_before_left, notes_then, tail_noted}
use Rattle.double_link_queue.proofs.Owning.{both_of}
use Rattle.double_link_queue.proofs.Upgrades.{notes_help}
use Rattle.double_link_queue.proofs.helping.help_at.Goals as goal

pub set_link-requires-clause-before : goal.set_link-requires-clause-before
set_link-requires-clause-before g c =
    let mid = seen_by g.P.Part.seen c.is_set.new.seat in
    let copied = seen_by g.P.Part.seen c.copy_strong.new.seat in
    let last = c.args.last.now.slot in
    let before = c.args.before in
    let sees = subst (λ (s : SlotId). SeesNodeBefore s before mid) c.slot.ensures
    c.is_set.ensures.before in
    let one = times_push last last mid.view.core.owned in
    let other = times_push before last mid.view.core.owned in
    let owns = sees.sees.tail.owns in
    let owns_before = sees.sees.owns in
    subst (λ (s : SlotId). SeesNodeBefore s before copied) (sym c.in_ok-given.ensures.copied.0)
    (node_before_left (mid.view.core.owned ++ last ∷ []) mid.view.core.weaks last before mid copied
    sees
    (both_of (mid.view.core.owned ++ last ∷ []) mid copied
    (copy_leaves last mid copied c.in_ok-given.ensures.copied.1 c.copy_strong.ensures.objects))
    (omega arith) (omega arith) c.copy_strong.ensures.seen)

pub returns-clause-leaves : goal.returns-clause-leaves
returns-clause-leaves g c =
    let old = seen_by g.P.Part.seen c.args.seat.now in
    let mid = seen_by g.P.Part.seen c.is_set.new.seat in
    let copied = seen_by g.P.Part.seen c.copy_strong.new.seat in
    let new = seen_by g.P.Part.seen c.set_link.new.seat in
    let last = c.args.last.now.slot in
    leaves_on old.view.core.owned old mid new c.is_set.ensures.leaves
    (through last None mid copied copied new
    (copy_leaves last mid copied c.in_ok-given.ensures.copied.1 c.copy_strong.ensures.objects)
    (leaves_same copied copied refl)
    (subst (λ (s : SlotId). Leaves (without s copied.view.core.owned) copied new)
    c.in_ok-given.ensures.copied.0 c.set_link.ensures.leaves))

pub returns-clause-tail : goal.returns-clause-tail
returns-clause-tail g c =
    let old = seen_by g.P.Part.seen c.args.seat.now in
    let mid = seen_by g.P.Part.seen c.is_set.new.seat in
    let new = seen_by g.P.Part.seen c.set_link.new.seat in
    let sees = c.requires.before.tail in
    tail_noted old.view.core.owned old.view.core.weaks c.args.last.now.slot old new sees
    (both_of old.view.core.owned old new (returns-clause-leaves g c)) sees.owns
    (notes_then old.view.client mid.view.client new.view.client c.is_set.ensures.notes
    (notes_help true mid.view.client new.view.client
    (c.set_link.ensures.client ∙ ap helped_view c.copy_strong.ensures.seen)))

pub returns-clause-events : goal.returns-clause-events
returns-clause-events g c =
    let d = as_part g.P.Part.part c.args.domain.now in
    let fits = g.P.Kind.PayloadKind.fits in
    let before = seen_by g.P.Part.seen c.args.seat.now in
    let looked = seen_by g.P.Part.seen c.is_set.new.seat in
    let copied = seen_by g.P.Part.seen c.copy_strong.new.seat in
    let after = seen_by g.P.Part.seen c.set_link.new.seat in
    inr (record {
      looked = looked;
      copied = copied;
      looks = c.is_set.ensures.events;
      copies = c.in_ok-given.ensures.copied.1;
      sets = subst (λ (s : SlotId). SetsLink fits d s c.args.before copied after)
          c.in_ok-given.ensures.copied.0 c.set_link.ensures.events;
    })
