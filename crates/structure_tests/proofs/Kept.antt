-- What a seat that was ready has after a call.
use Rattle.std.proofs.Common.{◌≡◌, ℕ, List, ap, sym, ◌∙◌, subst}
use Rattle.std.specs.Prelude.{◌+◌, true, Err, IfOk, None, Ok, OnErr, Option, Result, Some, length}
use Rattle.part_calls.specs.plain_state.declared.slot.SlotId.{SlotId}
use Rattle.part_calls.specs.core_events.declared.view.CoreView.{CoreView}
use Rattle.part_calls.specs.core_events.Steps.{HasRoom}
use Rattle.part_calls.specs.domain_rule.Views.{IsAlone}
use Rattle.part_calls.specs.acquire_retire.Domains.{DomainState}
use Rattle.part_calls.specs.acquire_retire.Seats.{SeatState}
use Rattle.part_calls.specs.control_word.Resting.{IsAtRest}
use Rattle.part_calls.proofs.Below.control_word_NotedBack.{none_still}
use Rattle.part_calls.specs.Parts.{HasBeside, seen_by}
use Rattle.hand_queues.specs.queue_law.declared.view.View.{View as QueueView}
use Rattle.hand_queues.specs.queue_law.Views.{joined}
use Rattle.hand_queues.specs.linked_queue.Attaching.{attached_in}
use Rattle.hand_queues.specs.linked_queue.Leaving.{Leaves}
use Rattle.hand_queues.specs.linked_queue.Pops.{Pops, PopsWith}
use Rattle.hand_queues.specs.linked_queue.Queues.{IsAttached}
use Rattle.hand_queues.specs.double_link_queue.Pushes.{PushesNothing}
use Rattle.hand_queues.specs.Pushes.{Pushes}
use Rattle.hand_queues.specs.retiring_stores.Leaving as leaving
use Rattle.hand_queues.specs.retiring_stores.Scanning.{Collected}
use Rattle.part_calls.proofs.Below.retiring_stores_Afterwards.{scan_leaves}
use Rattle.part_calls.specs.slot_store.Calls.{SeesWord}
use Rattle.part_calls.proofs.Below.slot_store_Passing.{passes_collect}
use Rattle.structure_tests.specs.Ready.{IsFree, IsReady, StandsAs, View}

-- the seat, with what it knows of the queue
abbrev pub of_queue : SeatState View → SeatState QueueView
of_queue s = seen_by (λ (v : View). v.0) s

module _ {P : Type 0} (d : DomainState P) (old new : SeatState View) where
  -- a call left its notes
  pub free_as : IsFree d old → new.view.core.notes ≡ old.view.core.notes → HasRoom new.view.core
      → IsAtRest d new → IsFree d new
  free_as free notes room rest = record {
    rest = rest;
    none = none_still old.view.core new.view.core notes free.none;
    room = room;
  }

  -- and what it knows of the queue
  pub ready_as : IsReady d old → new.view.core.notes ≡ old.view.core.notes
      → new.view.client.0 ≡ old.view.client.0 → HasRoom new.view.core → IsAtRest d new
      → IsReady d new
  ready_as ready notes queue room rest = record {
    free = free_as ready.free notes room rest;
    attached = subst IsAttached (sym queue) ready.attached;
  }

module _ (old new : SeatState View) where
  -- beside letters it knows of the queue what it knew
  pub same_queue : HasBeside (λ (v : View) (w : Unit {0}). (v.0, w)) tt old new
      → new.view.client.0 ≡ old.view.client.0
  same_queue beside = ap (λ (v : View). v.0) beside

  -- A PUSH
  pub pushed_notes : {T E : Type 0} (r : Result T E) (item : SlotId)
      → IfOk r (λ done. Pushes item (of_queue old) (of_queue new))
      → OnErr r (PushesNothing (of_queue old) (of_queue new))
      → new.view.core.notes ≡ old.view.core.notes
  pushed_notes (Ok done) item pushed refused = ap (λ (v : CoreView). v.notes) pushed.leaves.same
  pushed_notes (Err e) item pushed refused = ap (λ (v : CoreView). v.notes) refused.leaves.same

  pub pushed_stands : {T E : Type 0} (r : Result T E) (item : SlotId)
      → IfOk r (λ done. Pushes item (of_queue old) (of_queue new))
      → OnErr r (PushesNothing (of_queue old) (of_queue new)) → StandsAs old new
  pushed_stands (Ok done) item pushed refused = ap (λ (v : QueueView). v.stand) pushed.deeds
  pushed_stands (Err e) item pushed refused = ap (λ (v : QueueView). v.stand) refused.deeds

  -- A POP, and a shut
  pub left_notes : (owned : List SlotId) → Leaves owned (of_queue old) (of_queue new)
      → new.view.core.notes ≡ old.view.core.notes
  left_notes owned leaves = ap (λ (v : CoreView). v.notes) leaves.same

  pub popped_notes : (found : Option SlotId) → Pops found (of_queue old) (of_queue new)
      → new.view.core.notes ≡ old.view.core.notes
  popped_notes found pops = ap (λ (v : CoreView). v.notes) pops.leaves.same

  pub popped_stands : (found : Option SlotId) → Pops found (of_queue old) (of_queue new)
      → StandsAs old new
  popped_stands None pops = ap (λ (v : QueueView). v.stand) pops.deeds
  popped_stands (Some s) pops = ap (λ (v : QueueView). v.stand) pops.deeds

  pub popped_with_notes : (found : Option (SlotId × Option SlotId))
      → PopsWith found (of_queue old) (of_queue new) → new.view.core.notes ≡ old.view.core.notes
  popped_with_notes found pops = ap (λ (v : CoreView). v.notes) pops.leaves.same

  pub popped_with_stands : (found : Option (SlotId × Option SlotId))
      → PopsWith found (of_queue old) (of_queue new) → StandsAs old new
  popped_with_stands None pops = ap (λ (v : QueueView). v.stand) pops.deeds
  popped_with_stands (Some x) pops = ap (λ (v : QueueView). v.stand) pops.deeds

  pub left_alone : (owned : List SlotId) → Leaves owned (of_queue old) (of_queue new)
      → IsAlone old.view → IsAlone new.view
  left_alone owned leaves alone = (
    ap (λ (v : CoreView). v.seat) leaves.same ∙ alone.0,
    ap (λ (v : CoreView). length v.left_seats + 1) leaves.same ∙ alone.1
        ∙ sym (ap (λ (v : CoreView). v.shape.seats) leaves.same),
  )

module _ {P : Type 0} (fits : List ℕ → Type 0) (d : DomainState P) (old new : SeatState View) where
  -- A READ
  pub seen_owned : (s : SlotId) (i n : ℕ) → SeesWord fits d s i n old new
      → new.view.core.owned ≡ old.view.core.owned
  seen_owned s i n sees = ap (λ (v : CoreView). v.owned) sees.becomes.core

  -- A COLLECT
  pub ready_collected : IsReady d old → Collected fits d old new → IsReady d new
  ready_collected ready c =
      let passes = passes_collect d old new ready.free.rest ready.free.room c in
      ready_as d old new ready (ap (λ (v : CoreView). v.notes) passes.same)
      (ap (λ (v : View). v.0) passes.client) passes.room passes.rest

  pub stands_collected : Collected fits d old new → StandsAs old new
  stands_collected c = ap (λ (v : View). v.0.stand) c.collects.goes.client

-- A SEAT THAT LEAVES: what seat 0 knows of the queue then
module _ {P : Type 0} (fits : List ℕ → Type 0) (d : DomainState P) (root seat new : SeatState View)
    (leaves : leaving.Leaves fits d (λ (v w : View). (joined v.0 w.0, tt)) root seat new) where
  queue_joined : new.view.client.0 ≡ joined root.view.client.0 seat.view.client.0
  queue_joined =
      ap (λ (v : View). v.0)
      ((scan_leaves d leaves.mid new leaves.scans).client ∙ ap (λ v. v.client) leaves.took.view)

  pub stands_joined : StandsAs root new
  stands_joined = ap (λ (v : QueueView). v.stand) queue_joined

  pub attached_joined : IsAttached root.view.client.0 → IsAttached new.view.client.0
  attached_joined attached = record {
    here = ap (λ (v : QueueView). v.here) queue_joined ∙ attached.here;
    attached = ap (λ (v : QueueView). v.attached) queue_joined ∙ attached.attached;
  }

-- A SEAT THAT ATTACHES itself
pub attached_now : (old new : SeatState View)
    → new.view.client.0 ≡ attached_in old.view.client.0 → old.view.client.0.here ≡ true
    → IsAttached new.view.client.0
attached_now old new is here = record {
  here = ap (λ (v : QueueView). v.here) is ∙ here;
  attached = ap (λ (v : QueueView). v.attached) is;
}
