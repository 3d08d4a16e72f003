-- The rest of a protocol accepts what the deeds of a doubly linked queue make of a view.
use Rattle.std.proofs.Common.{◌≡◌, Bool, true, false, refl}
use Rattle.std.specs.Prelude.{cond, ◌==◌}
use Rattle.weak_part_calls.specs.part_calls.Parts.{AcceptsAll}
use Rattle.linked_queue.specs.queue_law.declared.view.Item.{Item}
use Rattle.linked_queue.specs.queue_law.declared.view.View.{View}
use Rattle.linked_queue.specs.queue_law.Lessons.{ended_next, set_next}
use Rattle.linked_queue.specs.queue_law.Pushes.{carried_item, exchange_next, flying_view, helped_view}
use Rattle.linked_queue.specs.queue_protocol.Pushable.{AcceptsKept, AcceptsPush}
use Rattle.linked_queue.proofs.Accepting.{KeepsPushed}

helped_kept : (b : Bool) (v : View) → (cond b (helped_view v) v).pushed ≡ v.pushed
helped_kept true v = refl
helped_kept false v = refl

unhelped_kept : (b : Bool) (v : View) → (cond b v (helped_view v)).pushed ≡ v.pushed
unhelped_kept true v = refl
unhelped_kept false v = refl

pub ended_kept : KeepsPushed ended_next
ended_kept own after v a w = helped_kept (w == 1) v

pub set_kept : KeepsPushed set_next
set_kept own after v a w = unhelped_kept (w == 0) v

-- the exchange of the tail cell for a node whose item may be pushed
pub exchange_all : {P V : Type 0} (seen : V → View) (suits : P → V → View → Type 0)
    → AcceptsKept seen suits → (it : P) (v : V) (may_push : P → V → Item → Type 0)
    → AcceptsPush may_push seen suits → may_push it v (carried_item (seen v))
    → AcceptsAll (suits it) exchange_next seen v
exchange_all seen suits accepts it v may_push pushes may own after a w =
    by_word (w == (seen v).eyes.node)
  where
    by_word : (b : Bool) → suits it v (cond b (flying_view (seen v)) (seen v))
    by_word true = pushes it v (flying_view (seen v)) (carried_item (seen v)) may refl
    by_word false = accepts it v (seen v) refl
