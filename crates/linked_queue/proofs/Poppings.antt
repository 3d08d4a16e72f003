-- What a pop leaves of a seat, level by level.
use Rattle.std.proofs.Common.{◌≡◌, ◌<◌, List, [], ◌∷◌, ◌++◌, refl, ap, sym, ◌∙◌, arith, ℕ, subst}
use Rattle.std.specs.Prelude.{Option, Some, None}
use Rattle.queue_protocol.specs.plain_state.declared.slot.SlotId.{SlotId}
use Rattle.queue_protocol.specs.plain_state.Lists.{times}
use Rattle.queue_protocol.specs.plain_protocol.Owns.{Object}
use Rattle.slot_store.specs.core_events.Views.{without}
use Rattle.slot_store.proofs.Below.core_law_Kit.{one_same, times_push}
use Rattle.slot_store.specs.domain_rule.Views.{object_in}
use Rattle.slot_store.specs.acquire_retire.Domains.{DomainState}
use Rattle.slot_store.specs.counted_handles.Handles.{Handle}
use Rattle.queue_protocol.specs.declared.law.QueueLaw.{QueueLaw}
use Rattle.slot_store.specs.acquire_retire.Seats.{SeatState}
use Rattle.queue_protocol.specs.queue_law.declared.view.View.{View}
use Rattle.queue_protocol.specs.queue_law.declared.view.Item.{Item}
use Rattle.linked_queue.specs.Leaving.{Leaves, with_found}
use Rattle.linked_queue.specs.Pops.{Pops, PopsAtHead, PopsAtHeadWith, PopsWith, bare, item_in, item_of, named_both, popped_in, popped_too, with_both}
use Rattle.linked_queue.specs.Queues.{deeds_in}
use Rattle.linked_queue.proofs.Owning.{found_more, holds_more}
use Rattle.linked_queue.proofs.Both.{both_found, through_both}
use Rattle.linked_queue.proofs.Trails.{trail_then}

-- LEVELS
pub some_found : (s : SlotId) (xs : List SlotId) → 0 < times s (xs ++ s ∷ [])
some_found s xs =
    let push = times_push s s xs in let one = one_same s s refl in omega arith

-- what the seat knows of the item that it gained is known on
pub item_still : (s : SlotId) (b c : SeatState View) → object_in c.view s ≡ object_in b.view s
    → item_in c s ≡ item_in b s
item_still s b c same = ap (λ (o : Object). record { slot = s.0; life = o.life; payload = o.payload }) same

module _ (n : SlotId) (a b c e : SeatState View) where
  -- with a reference to n, which is given up at the end
  pub pops_through : (found : Option (SlotId × Option SlotId))
      → Leaves (a.view.core.owned ++ n ∷ []) a b
      → deeds_in b.view.client ≡ deeds_in a.view.client → PopsWith found b c
      → Leaves (without n c.view.core.owned) c e → e.view.client ≡ c.view.client
      → PopsWith found a e
  pops_through None gains same pops gives client = record {
    leaves = through_both n None a b c e gains pops.leaves gives;
    deeds = ap deeds_in client ∙ pops.deeds ∙ same;
  }
  pops_through (Some x) gains same pops gives client =
      let s = x.0 in
      let all = through_both n (Some x) a b c e gains pops.leaves gives in
      let at_c = pops.leaves.owns s in
      let at_e = all.owns s in
      let some_c = both_found x b.view.core.owned in
      let some_e = both_found x a.view.core.owned in
      let item = item_still s c e (gives.knows s (omega arith) (omega arith)) in
      record {
        leaves = all;
        deeds = ap deeds_in client ∙ pops.deeds
            ∙ ap (λ (v : View). popped_too (item_in c s) v) same
            ∙ ap (λ (y : Item). popped_too y (deeds_in a.view.client)) (sym item);
      }

-- what was left by one call, and then nothing more
pub leaves_on : (xs : List SlotId) (x y z : SeatState View) → Leaves xs x y
    → Leaves y.view.core.owned y z → Leaves xs x z
leaves_on xs x y z first more = record {
  owns = λ w. more.owns w ∙ first.owns w;
  same = more.same ∙ first.same;
  adds = (let late = more.adds in let early = first.adds in omega arith);
  trail = trail_then x y z first.trail more.trail;
  knows = λ w was is.
      let at = more.owns w in
      let mid = holds_more w z.view.core y.view.core more.same (omega arith) is in
      more.knows w mid is ∙ first.knows w was mid;
}

-- what may be found beside
found_again : (found : Option SlotId) (x : SlotId) (xs ys : List SlotId) → times x xs ≡ times x ys
    → times x (with_found found xs) ≡ times x (with_found found ys)
found_again None x xs ys same = same
found_again (Some s) x xs ys same =
    let a = times_push x s xs in let b = times_push x s ys in omega arith

-- THE ITEM: it was loaded, the content was read, the head's node exchanged, and the new dummy emptied
module _ (s : SlotId) (content : Option SlotId) (a b c : SeatState View)
    (loads : Leaves (a.view.core.owned ++ s ∷ []) a b)
    (takes : Leaves (with_found content b.view.core.owned) b c) where
  both_leaves : Leaves (with_both (Some (s, content)) a.view.core.owned) a c
  both_leaves = record {
    owns = λ x. takes.owns x
        ∙ found_again content x b.view.core.owned (a.view.core.owned ++ s ∷ []) (loads.owns x);
    same = takes.same ∙ loads.same;
    adds = (let late = takes.adds in let early = loads.adds in omega arith);
    trail = trail_then a b c loads.trail takes.trail;
    knows = λ x was is.
        let first = loads.owns x in
        let push = times_push x s a.view.core.owned in
        let mid = holds_more x a.view.core b.view.core (sym loads.same) (omega arith) was in
        takes.knows x mid is ∙ loads.knows x was mid;
  }

  pub pops_item : deeds_in b.view.client ≡ deeds_in a.view.client
      → deeds_in c.view.client ≡ popped_too (item_in b s) (deeds_in b.view.client)
      → PopsWith (Some (s, content)) a c
  pops_item same popped =
      let at_b = loads.owns s in
      let some_b = some_found s a.view.core.owned in
      let at_c = takes.owns s in
      let some_c = found_more content s b.view.core.owned (omega arith) in
      let item = item_still s b c (takes.knows s (omega arith) (omega arith)) in
      record {
        leaves = both_leaves;
        deeds = popped
            ∙ ap (λ (v : View). popped_too (item_in b s) v) same
            ∙ ap (λ (x : Item). popped_too x (deeds_in a.view.client)) (sym item);
      }

-- A POP of which nothing is read
pub pops_bare : (found : Option SlotId) (old new : SeatState View) → PopsWith (bare found) old new
    → Pops found old new
pops_bare None old new pops = record { leaves = pops.leaves; deeds = pops.deeds }
pops_bare (Some s) old new pops = record { leaves = pops.leaves; deeds = pops.deeds }

module _ (fits : List ℕ → Type 0) (d : DomainState QueueLaw) (old new : SeatState View) where
  pub pops_item_of : (found : Option (Handle × Option Handle))
      → PopsAtHeadWith fits d None (named_both found) old new → PopsWith (named_both found) old new
      → Pops (item_of (named_both found)) old new
  pops_item_of None events pops = record { leaves = pops.leaves; deeds = pops.deeds }
  pops_item_of (Some x) events pops = pops_bare (Some x.0.slot) old new
      (subst (λ (o : Option SlotId). PopsWith (Some (x.0.slot, o)) old new)
      events.pops.takes.takes.reads.0 pops)

  pub pops_nothing_read : (found : Option (Handle × Option Handle))
      → PopsAtHeadWith fits d None (named_both found) old new
      → PopsAtHead fits d (item_of (named_both found)) old new
  pops_nothing_read None events = events
  pops_nothing_read (Some x) events =
      subst (λ (o : Option SlotId). PopsAtHeadWith fits d None (Some (x.0.slot, o)) old new)
      events.pops.takes.takes.reads.0 events

-- what was popped is owned
pub owns_popped : (s : SlotId) (old new : SeatState View) → Pops (Some s) old new
    → 0 < times s new.view.core.owned
owns_popped s old new pops =
    let is = pops.leaves.owns s in
    let some' = some_found s old.view.core.owned in omega arith

-- TRIES that took nothing, and then one more
popped_again : (found : Option SlotId) (c : SeatState View) (v w : View) → v ≡ w
    → popped_in found c v ≡ popped_in found c w
popped_again found c v w same = ap (popped_in found c) same

pub leaves_then : (found : Option SlotId) (a b c : SeatState View) → Leaves a.view.core.owned a b
    → Leaves (with_found found b.view.core.owned) b c → Leaves (with_found found a.view.core.owned) a c
leaves_then found a b c none leaves = record {
  owns = λ x. leaves.owns x
      ∙ found_again found x b.view.core.owned a.view.core.owned (none.owns x);
  same = leaves.same ∙ none.same;
  adds = (let late = leaves.adds in let early = none.adds in omega arith);
  trail = trail_then a b c none.trail leaves.trail;
  knows = λ x was is.
      let first = none.owns x in
      let mid = holds_more x a.view.core b.view.core (sym none.same) (omega arith) was in
      leaves.knows x mid is ∙ none.knows x was mid;
}

pub pops_then : (found : Option SlotId) (a b c : SeatState View) → Pops None a b → Pops found b c
    → Pops found a c
pops_then found a b c none pops = record {
  leaves = leaves_then found a b c none.leaves pops.leaves;
  deeds = pops.deeds ∙ popped_again found c (deeds_in b.view.client) (deeds_in a.view.client)
      none.deeds;
}
