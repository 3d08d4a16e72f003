-- What a load of one of the queue's cells answers, whichever it is.
use Rattle.std.proofs.Common.{◌≡◌, ◌≢◌, ℕ, suc, zero, Bool, true, false, refl, ap, subst, List}
use Rattle.std.specs.Prelude.{Err, IfErr, IfOk, IfSome, Ok, Option, Result, Some, None, cond, nat_lt}
use Rattle.queue_protocol.specs.plain_state.declared.act.EventPlace.TheVariants.{Cell}
use Rattle.queue_protocol.specs.plain_state.declared.act.PlainAct.{PlainAct}
use Rattle.queue_protocol.specs.plain_state.declared.slot.SlotId.{SlotId}
use Rattle.queue_protocol.specs.plain_state.State.{Plain}
use Rattle.queue_protocol.specs.plain_state.Steps.{word_of}
use Rattle.queue_protocol.specs.plain_protocol.Owns.{OwnPart}
use Rattle.slot_store.specs.counted_handles.Handles.{Handle}
use Rattle.part_calls.specs.atomic_shared.Places.{named}
use Rattle.slot_store.specs.counted_handles.declared.place.Place.TheVariants as place
use Rattle.slot_store.specs.counted_handles.declared.refusal.LoadError.{LoadError}
use Rattle.slot_store.specs.counted_handles.declared.refusal.LoadError.TheVariants as unloaded
use Rattle.slot_store.specs.core_events.Words.{slot_in}
use Rattle.slot_store.specs.acquire_retire.Domains.{DomainState}
use Rattle.slot_store.specs.acquire_retire.Seats.{SeatState}
use Rattle.slot_store.specs.control_word.Moves.{KnowsStill}
use Rattle.slot_store.specs.control_word.Resting.{IsAtRest, IsSpent}
use Rattle.part_calls.specs.protected_loads.Loads.{FindsNull, Misses}
use Rattle.part_calls.specs.protected_loads.References.{Loads, Refers}
use Rattle.queue_protocol.specs.queue_law.declared.view.View.{View}
use Rattle.queue_protocol.specs.queue_law.Lessons.{learn_next, learnt}
use Rattle.queue_protocol.specs.queue_law.Words.{held_times}
use Rattle.queue_protocol.specs.declared.law.QueueLaw.{QueueLaw}
use Rattle.linked_queue.specs.Cells.{NodeTells}
use Rattle.linked_queue.specs.Queues.{IsAttached, beside_eyes}
use Rattle.linked_queue.specs.Leaving.{found_by}
use Rattle.linked_queue.specs.Seeing.{IsWhyUnread, MissesAt}
use Rattle.linked_queue.proofs.Sights.{Sights, sights}

-- THE DEEDS note what was found, and nothing else
learn_notes_cond : (head b : Bool) (after : OwnPart) (v : View) (w : ℕ)
    → beside_eyes (cond b (record v { eyes = learnt head after w }) v) ≡ beside_eyes v
learn_notes_cond head true after v w = refl
learn_notes_cond head false after v w = refl

pub learn_notes : (head : Bool) (own after : OwnPart) (v : View) (a : PlainAct) (w : ℕ)
    → beside_eyes (learn_next head own after v a w) ≡ beside_eyes v
learn_notes head own after v a zero = refl
learn_notes head own after v a (suc s) =
    learn_notes_cond head (nat_lt 0 (held_times s after.seat)) after v (suc s)

-- what follows for each slot that a load found follows for its answer
pub found_sees : {E : Type 0} (loads : Option SlotId → Type 0) (sees : SlotId → Type 0)
    (r : Result (Option Handle) E) → ((s : SlotId) → loads (Some s) → sees s)
    → IfOk r (λ found. loads (named found)) → IfOk r (λ found. IfSome found (λ h. sees h.slot))
found_sees loads sees (Ok None) follows l = tt
found_sees loads sees (Ok (Some h)) follows l = follows h.slot l
found_sees loads sees (Err e) follows l = tt

pub found_none : {E : Type 0} (loads : Option SlotId → Type 0) (T : Type 0)
    (r : Result (Option Handle) E) → (loads None → T) → IfOk r (λ found. loads (named found))
    → IfOk r (λ found. named found ≡ None → T)
found_none loads T (Ok None) follows l = λ is. follows l
found_none loads T (Ok (Some h)) follows l = λ is. absurd (cc (is))
found_none loads T (Err e) follows l = tt

-- whatever a load of a cell answers, whose number the call knows by another name
module _ (fits : List ℕ → Type 0) (d : DomainState QueueLaw) (head : Bool)
    (allows : Plain → Plain → ℕ → View → View → Type 0) (c i : ℕ) (is : i ≡ c)
    (old new : SeatState View) (rest : IsAtRest d old) (knows : KnowsStill old.view.core old new)
    (r : Result (Option Handle) LoadError) (same : r ≡ Err unloaded.Spent → new ≡ old)
    (spent : r ≡ Err unloaded.Spent → IsSpent old.view.core)
    (loads : IfOk r (λ found.
    Loads fits d (Cell i) (learn_next head) allows (named found) old new))
    (moved : (seen now : ℕ) → r ≡ Err (unloaded.Moved seen now)
    → Misses fits d 0 (Cell i) (learn_next head) allows (slot_in seen) (slot_in now) old new)
  where
    at_cell : IfOk r (λ found.
        Loads fits d (Cell c) (learn_next head) allows (named found) old new)
        × ((seen now : ℕ) → r ≡ Err (unloaded.Moved seen now)
        → Misses fits d 0 (Cell c) (learn_next head) allows (slot_in seen) (slot_in now)
        old new)
    at_cell = subst (λ n. IfOk r (λ found.
        Loads fits d (Cell n) (learn_next head) allows (named found) old new)
        × ((seen now : ℕ) → r ≡ Err (unloaded.Moved seen now)
        → Misses fits d 0 (Cell n) (learn_next head) allows (slot_in seen) (slot_in now)
        old new))
        is (loads, moved)

    pub cell_seen : (sees : SlotId → Type 0)
        → ((s : SlotId) → Refers fits d (Cell c) (learn_next head) allows s old new
        → sees s)
        → IfOk r (λ found. IfSome found (λ h. sees h.slot))
    cell_seen sees follows = found_sees (λ found.
        Loads fits d (Cell c) (learn_next head) allows found old new)
        sees r follows at_cell.0

    pub cell_sights : (differs : ℕ → ℕ → Type 0)
        → ((seen now : ℕ) → MissesAt fits d (Cell c) (learn_next head) allows seen now old new
        → differs seen now)
        → Sights fits d (place.Cell c) (learn_next head) allows (learn_notes head) old new rest knows
        (found_by r)
        × IfErr r (λ error. IsWhyUnread differs error old)
    cell_sights differs told = sights fits d (place.Cell c) (learn_next head) allows (learn_notes head)
        old new rest knows r same spent at_cell.0 at_cell.1 differs
        told

    -- where null tells a contradiction, a node was found
    pub cell_there : (FindsNull fits d (Cell c) (learn_next head) allows old new → ⊥)
        → IfOk r (λ found. named found ≢ None)
    cell_there none = go r at_cell.0
      where
        go : (o : Result (Option Handle) LoadError)
            → IfOk o (λ found.
            Loads fits d (Cell c) (learn_next head) allows (named found) old new)
            → IfOk o (λ found. named found ≢ None)
        go (Ok None) null = λ is. none null
        go (Ok (Some h)) l = λ is. absurd (cc (is))
        go (Err e) l = tt

-- what the cell of an attached seat tells
pub not_null : (fits : List ℕ → Type 0) (d : DomainState QueueLaw) (c : ℕ) (head : Bool) (old new : SeatState View)
    → IsAttached old.view.client
    → FindsNull fits d (Cell c) (learn_next head) (NodeTells c) old new → ⊥
not_null fits d c head old new attached null =
    null.becomes.walks.1.told.happened.fact.2.1 attached.attached (ap word_of null.null)
