-- The rest of a protocol accepts what the queue's deeds make of a view, and an item that may be pushed still may be.
use Rattle.std.proofs.Common.{◌≡◌, ℕ, suc, zero, Bool, true, false, refl, ap, sym, ◌∙◌, subst}
use Rattle.std.specs.Prelude.{cond, ◌==◌}
use Rattle.queue_protocol.specs.plain_state.declared.act.PlainAct.{PlainAct}
use Rattle.queue_protocol.specs.plain_protocol.Owns.{OwnPart}
use Rattle.slot_store.specs.acquire_retire.Seats.{SeatState}
use Rattle.queue_protocol.specs.protocol_pairs.Parts.{PutsBack, PutsOver}
use Rattle.part_calls.specs.Parts.{AcceptsAll, HasBeside, StaysBeside}
use Rattle.part_calls.proofs.Beside.{stays_beside}
use Rattle.queue_protocol.specs.queue_law.declared.view.Item.{Item}
use Rattle.queue_protocol.specs.queue_law.declared.view.View.{View}
use Rattle.queue_protocol.specs.queue_law.Lessons.{attach_next, learn_next}
use Rattle.queue_protocol.specs.queue_law.Pops.{popped_view, take_next}
use Rattle.queue_protocol.specs.queue_law.Pushes.{carried_item, link_next, linked_view}
use Rattle.queue_protocol.specs.queue_law.Views.{first_view}
use Rattle.queue_protocol.specs.Pushable.{AcceptsKept, AcceptsPush, StaysPushable}
use Rattle.linked_queue.specs.UnlessRipe.{is_clear, next_unless}
use Rattle.linked_queue.proofs.CellLoads.{learn_notes}

-- a deed leaves what was pushed
abbrev pub KeepsPushed : (OwnPart → OwnPart → View → PlainAct → ℕ → View) → Type 0
KeepsPushed next =
    (own after : OwnPart) (v : View) (a : PlainAct) (w : ℕ) → (next own after v a w).pushed ≡ v.pushed

pub learn_kept : (head : Bool) → KeepsPushed (learn_next head)
learn_kept head own after v a w = ap (λ (u : View). u.pushed) (learn_notes head own after v a w)

pub attach_kept : KeepsPushed attach_next
attach_kept own after v a zero = refl
attach_kept own after v a (suc s) = refl

cond_kept : (b : Bool) (v w u : View) → v.pushed ≡ u.pushed → w.pushed ≡ u.pushed
    → (cond b v w).pushed ≡ u.pushed
cond_kept true v w u one other = one
cond_kept false v w u one other = other

pub take_kept : KeepsPushed take_next
take_kept own after v a w = cond_kept (w == v.eyes.node) (popped_view own v) v v refl refl

pub unless_kept : (next : OwnPart → OwnPart → View → PlainAct → ℕ → View) → KeepsPushed next
    → KeepsPushed (next_unless next)
unless_kept next keeps own after v a w =
    cond_kept (is_clear a) v (next own after v a w) v refl (keeps own after v a w)

module _ {P V : Type 0} (seen : V → View) (suits : P → V → View → Type 0)
    (accepts : AcceptsKept seen suits) (it : P) (v : V) where
  pub kept_all : (next : OwnPart → OwnPart → View → PlainAct → ℕ → View) → KeepsPushed next
      → AcceptsAll (suits it) next seen v
  kept_all next keeps own after a w =
      accepts it v (next own after (seen v) a w) (keeps own after (seen v) a w)

  -- and the link of a node whose item may be pushed
  pub link_all : (may_push : P → V → Item → Type 0) → AcceptsPush may_push seen suits
      → may_push it v (carried_item (seen v)) → AcceptsAll (suits it) link_next seen v
  link_all may_push pushes may own after a w = by_word (w == 0)
    where
      by_word : (b : Bool) → suits it v (cond b (linked_view (seen v)) (seen v))
      by_word true = pushes it v (linked_view (seen v)) (carried_item (seen v)) may refl
      by_word false = accepts it v (seen v) refl

-- an item that may be pushed still may be, where but for the queue the seat's view stays
pub may_still : {P V : Type 0} (seen : V → View) (with_seen : V → View → V) → PutsBack seen with_seen
    → PutsOver with_seen → (may_push : P → V → Item → Type 0) → StaysPushable may_push with_seen
    → (it : P) (old new : SeatState V) (item other : Item) → HasBeside with_seen first_view old new
    → item ≡ other → may_push it old.view.client item → may_push it new.view.client other
may_still seen with_seen back over may_push stays it old new item other same is may =
    subst (may_push it new.view.client) is
    (subst (λ v. may_push it v item)
    (sym (stays_beside seen with_seen first_view back over old new same))
    (stays it old.view.client (seen new.view.client) item may))

-- what stays beside a queue by one call and then by another
pub stays_then : {V : Type 0} (seen : V → View) (with_seen : V → View → V) → PutsOver with_seen
    → (old mid new : SeatState V) → StaysBeside seen with_seen old mid
    → StaysBeside seen with_seen mid new → StaysBeside seen with_seen old new
stays_then seen with_seen over old mid new first second =
    second ∙ ap (λ v. with_seen v (seen new.view.client)) first
    ∙ over old.view.client (seen mid.view.client) (seen new.view.client)
