-- What a load of the cell of an id tells, and what it leaves.
use Rattle.std.proofs.Common.{◌≡◌, ◌<◌, ◌+◌, ℕ, List, refl, ap, sym, ◌∙◌, subst, arith}
use Rattle.std.specs.Prelude.{Err, IfOk, IfSome, Ok, Option, Result, Some, None}
use Rattle.control_word.specs.plain_state.declared.act.EventPlace.TheVariants.{WeakCell}
use Rattle.control_word.specs.plain_state.declared.slot.SlotId.{SlotId}
use Rattle.control_word.specs.plain_protocol.Owns.{Object}
use Rattle.control_word.specs.core_events.Words.{slot_in}
use Rattle.control_word.specs.counted_handles.Handles.{Handle}
use Rattle.control_word.specs.counted_handles.declared.refusal.LoadError.{LoadError}
use Rattle.control_word.specs.counted_handles.declared.refusal.LoadError.TheVariants as refused
use Rattle.control_word.specs.domain_rule.Views.{object_in}
use Rattle.control_word.specs.acquire_retire.Domains.{DomainState}
use Rattle.control_word.specs.acquire_retire.Seats.{SeatState}
use Rattle.control_word.specs.Calls.{with_weak}
use Rattle.control_word.specs.Moves.{KnowsStill}
use Rattle.control_word.specs.Resting.{IsAtRest}
use Rattle.weak_part_calls.specs.atomic_weak.Places.{named}
use Rattle.weak_part_calls.specs.protected_loads.Loads.{Misses}
use Rattle.weak_part_calls.specs.protected_loads.References.{Loads}
use Rattle.weak_part_calls.proofs.Below.protected_loads_Learning.{client_found, client_moved, client_null}
use Rattle.watch_protocol.specs.declared.law.WatchLaw.{WatchLaw}
use Rattle.watch_protocol.specs.Sides.{area_of}
use Rattle.watch_protocol.specs.watch_law.declared.view.View.{View}
use Rattle.watch_protocol.specs.watch_law.Lessons.{FindTells, find_next}
use Rattle.watch_protocol.specs.watch_law.Payloads.{IsObserverOf}
use Rattle.weak_watch.specs.Finding.{FindsIn, found_by}
use Rattle.weak_watch.specs.Keeping.{Keeps, count_of, with_more}
use Rattle.weak_watch.proofs.Keeping.{held_on, keeps_core, keeps_same, keeps_then, keeps_wider, more_same}

module _ (fits : List ℕ → Type 0) (d : DomainState WatchLaw) (c : ℕ) (old new : SeatState View) where
  -- a lost try, with the deed
  abbrev pub LosesIn : ℕ → ℕ → Type 0
  LosesIn was now = Misses fits d 0 (WeakCell (d.protocol.first + c)) find_next
      (FindTells (area_of d.protocol) c) (slot_in was) (slot_in now) old new

  -- by a place that is the cell
  pub finds_at : {E : Type 0} (n : ℕ) → n ≡ d.protocol.first + c → (r : Result (Option Handle) E)
      → IfOk r (λ found. Loads fits d (WeakCell n) find_next (FindTells (area_of d.protocol) c)
      (named found) old new)
      → IfOk r (λ found. FindsIn fits d c (named found) old new)
  finds_at n is r loads = subst (λ k. IfOk r (λ found. Loads fits d (WeakCell k) find_next
      (FindTells (area_of d.protocol) c) (named found) old new)) is loads

  pub loses_at : {T : Type 0} (n : ℕ) → n ≡ d.protocol.first + c → (r : Result T LoadError)
      → ((was now : ℕ) → r ≡ Err (refused.Moved was now)
      → Misses fits d 0 (WeakCell n) find_next (FindTells (area_of d.protocol) c) (slot_in was)
      (slot_in now) old new)
      → (was now : ℕ) → r ≡ Err (refused.Moved was now) → LosesIn was now
  loses_at n is r loses = subst (λ k. (was now : ℕ) → r ≡ Err (refused.Moved was now)
      → Misses fits d 0 (WeakCell k) find_next (FindTells (area_of d.protocol) c) (slot_in was)
      (slot_in now) old new) is loses

  -- THE VIEW stays
  pub finds_client : (found : Option SlotId) → IsAtRest d old → FindsIn fits d c found old new
      → new.view.client ≡ old.view.client
  finds_client None rest null = client_null d _ old new null
  finds_client (Some s) rest refers =
      client_found d _ old new s rest refers ∙ refers.protects.announces.client

  pub found_client : (r : Result (Option Handle) LoadError) → IsAtRest d old
      → (r ≡ Err refused.Spent → new ≡ old)
      → IfOk r (λ found. FindsIn fits d c (named found) old new)
      → ((was now : ℕ) → r ≡ Err (refused.Moved was now) → LosesIn was now)
      → new.view.client ≡ old.view.client
  found_client (Ok found) rest same finds loses = finds_client (named found) rest finds
  found_client (Err refused.Spent) rest same finds loses =
      ap (λ (z : SeatState View). z.view.client) (same refl)
  found_client (Err (refused.Moved was now)) rest same finds loses =
      let lost = loses was now refl in
      client_moved d _ old new (slot_in was) (slot_in now) lost ∙ lost.announces.client

  -- WHAT IS LEFT
  pub found_keeps : (r : Result (Option Handle) LoadError)
      → (r ≡ Err refused.Spent → new ≡ old)
      → IfOk r (λ found. FindsIn fits d c (named found) old new)
      → ((was now : ℕ) → r ≡ Err (refused.Moved was now) → LosesIn was now)
      → KnowsStill old.view.core old new
      → Keeps 0 (count_of (found_by r)) old.view.core.owned
      (with_more (found_by r) old.view.core.weaks) old new
  found_keeps (Ok None) same finds loses knows =
      keeps_core old new old.view.core old.view.core _ 0 0 finds.becomes.core refl (omega arith)
      (omega arith) knows (λ x was is. was)
  found_keeps (Ok (Some h)) same finds loses knows =
      keeps_core old new (with_weak h.slot old.view.core) old.view.core _ 0 1 finds.core refl
      (omega arith) refl knows (λ x was is. was)
  found_keeps (Err refused.Spent) same finds loses knows = keeps_same old new (same refl)
  found_keeps (Err (refused.Moved was now)) same finds loses knows =
      keeps_core old new old.view.core old.view.core _ 0 0 (loses was now refl).core refl
      (omega arith) (omega arith) knows (λ x was is. was)

  -- IT IS AN OBSERVER with this id
  pub found_observer : {E : Type 0} (r : Result (Option Handle) E) → c < d.protocol.cells
      → IfOk r (λ found. FindsIn fits d c (named found) old new)
      → IfOk r (λ found. IfSome found (λ weak. IsObserverOf c (object_in new.view weak.slot).payload))
  found_observer (Ok None) inside finds = tt
  found_observer (Ok (Some h)) inside finds =
      let tells = finds.protects.checks.walks.1.told.happened.fact.2 in
      subst (λ (o : Object). IsObserverOf c o.payload) (sym finds.object)
      (tells.observer h.slot finds.protects.there).1
  found_observer (Err error) inside finds = tt

-- after tries that were lost
pub found_at_last : {V : Type 0} (found : Option SlotId) (a b c : SeatState V)
    → Keeps 0 0 a.view.core.owned a.view.core.weaks a b
    → Keeps 0 (count_of found) b.view.core.owned (with_more found b.view.core.weaks) b c
    → Keeps 0 (count_of found) a.view.core.owned (with_more found a.view.core.weaks) a c
found_at_last found a b c lost keeps =
    keeps_wider 0 (0 + count_of found) 0 (count_of found) _ _ a c
    (keeps_then 0 0 0 (count_of found) _ _ _ _ _ _ a b c lost keeps lost.owns
    (λ x. more_same found x b.view.core.weaks a.view.core.weaks (lost.weakly x))
    (λ x was is. held_on 0 0 _ _ a b lost x (omega arith) (omega arith) was))
    (omega arith) (omega arith)
