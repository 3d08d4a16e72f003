-- What a load with a deed that only notes what was found leaves of a seat, whatever it answers.
use Rattle.std.proofs.Common.{◌≡◌, ℕ, suc, ◌+◌, ◌≤◌, ◌++◌, refl, ap, ◌∙◌, arith, List}
use Rattle.std.specs.Prelude.{Err, IfErr, IfOk, Ok, Option, Result, Some, None}
use Rattle.queue_protocol.specs.plain_state.declared.act.PlainAct.{PlainAct}
use Rattle.queue_protocol.specs.plain_state.declared.act.PlainAct.TheVariants as plain
use Rattle.queue_protocol.specs.plain_state.declared.slot.Kind.TheVariants.{Strong}
use Rattle.queue_protocol.specs.plain_state.declared.slot.SlotId.{SlotId}
use Rattle.queue_protocol.specs.plain_state.Places.{place_kind}
use Rattle.queue_protocol.specs.plain_state.State.{Plain}
use Rattle.queue_protocol.specs.plain_protocol.Owns.{OwnPart}
use Rattle.slot_store.specs.core_events.declared.view.CoreView.{CoreView}
use Rattle.slot_store.specs.core_events.Words.{slot_in}
use Rattle.slot_store.specs.counted_handles.Handles.{Handle}
use Rattle.slot_store.specs.counted_handles.declared.place.Place.{Place}
use Rattle.slot_store.specs.counted_handles.declared.place.Place.TheVariants as place
use Rattle.slot_store.specs.counted_handles.declared.refusal.LoadError.{LoadError}
use Rattle.slot_store.specs.counted_handles.declared.refusal.LoadError.TheVariants as unloaded
use Rattle.slot_store.specs.domain_rule.Views.{own_of}
use Rattle.slot_store.specs.acquire_retire.Domains.{DomainState}
use Rattle.slot_store.specs.acquire_retire.Seats.{SeatState}
use Rattle.part_calls.specs.atomic_shared.Places.{named, strong_place}
use Rattle.slot_store.specs.control_word.Calls.{with_strong}
use Rattle.slot_store.specs.control_word.Moves.{KnowsStill}
use Rattle.slot_store.specs.control_word.Resting.{IsAtRest, IsSpent}
use Rattle.part_calls.specs.protected_loads.Loads.{Misses}
use Rattle.part_calls.specs.protected_loads.References.{Loads, loaded_by, with_reference}
use Rattle.part_calls.proofs.Below.protected_loads_Learning.{client_found, client_moved, client_null}
use Rattle.queue_protocol.specs.queue_law.declared.view.View.{View}
use Rattle.queue_protocol.specs.declared.law.QueueLaw.{QueueLaw}
use Rattle.linked_queue.specs.Leaving.{Leaves, found_by, with_found}
use Rattle.linked_queue.specs.Queues.{beside_eyes}
use Rattle.linked_queue.specs.Seeing.{IsWhyUnread}
use Rattle.linked_queue.proofs.Leavings.{leaves_all, leaves_as, leaves_same}

kind_of : (q : Place) → place_kind (strong_place q) ≡ Strong
kind_of (place.Cell i) = refl
kind_of (place.Field s i) = refl

-- what the seat has that gained a reference to s
pub core_found : (fits : List ℕ → Type 0) (d : DomainState QueueLaw) (q : Place)
    {next : OwnPart → OwnPart → View → PlainAct → ℕ → View}
    {allows : Plain → Plain → ℕ → View → View → Type 0} (old new : SeatState View) (s : SlotId)
    → Loads fits d (strong_place q) next allows (Some s) old new
    → new.view.core
    ≡ record (with_strong s old.view.core) {
      trail = old.view.core.trail ++ loaded_by (strong_place q) s;
    }
core_found fits d q old new s r = r.core
    ∙ ap (λ k. record (with_reference k s old.view.core) {
      trail = old.view.core.trail ++ loaded_by (strong_place q) s;
    })
    (kind_of q)

module _ (fits : List ℕ → Type 0) (d : DomainState QueueLaw) (q : Place)
    (next : OwnPart → OwnPart → View → PlainAct → ℕ → View)
    (allows : Plain → Plain → ℕ → View → View → Type 0)
    (notes : (own after : OwnPart) (v : View) (a : PlainAct) (w : ℕ)
    → beside_eyes (next own after v a w) ≡ beside_eyes v)
    (old new : SeatState View) (rest : IsAtRest d old) (knows : KnowsStill old.view.core old new)
  where
    -- one add more at most, no more deeds, and the reference found
    abbrev pub Sights : Option SlotId → Type 0
    Sights found =
        (new.view.core.adds ≤ old.view.core.adds + 1)
        × (beside_eyes new.view.client ≡ beside_eyes old.view.client)
        × Leaves (with_found found old.view.core.owned) old new

    loaded : (found : Option SlotId)
        → Loads fits d (strong_place q) next allows found old new → Sights found
    loaded None null = (
      (let adds = ap (λ (v : CoreView). v.adds) null.becomes.core in omega arith),
      ap beside_eyes (client_null d (strong_place q) old new null)
          ∙ notes (own_of old.view) (own_of null.becomes.walks.0.view) old.view.client
          (plain.Look (strong_place q)) 0,
      leaves_all old new _ null.becomes.core knows,
    )
    loaded (Some s) r = (
      (let adds = ap (λ (v : CoreView). v.adds) (core_found fits d q old new s r) in omega arith),
      ap beside_eyes (client_found d (strong_place q) old new s rest r)
          ∙ notes (own_of r.protects.mid.view) (own_of r.protects.checks.walks.0.view)
          r.protects.mid.view.client (plain.Check 0 (strong_place q)) (suc s.0)
          ∙ ap beside_eyes r.protects.announces.client,
      leaves_as old new (with_strong s old.view.core) old.view.core _ (core_found fits d q old new s r) refl
          (omega arith) knows (λ x was is. was),
    )

    missed : (seen now : Option SlotId)
        → Misses fits d 0 (strong_place q) next allows seen now old new → Sights None
    missed seen now m = (
      (let adds = ap (λ (v : CoreView). v.adds) m.core in omega arith),
      ap beside_eyes (client_moved d (strong_place q) old new seen now m)
          ∙ notes (own_of m.mid.view) (own_of m.checks.walks.0.view) m.mid.view.client
          (plain.Check 0 (strong_place q)) m.checks.walks.1.word
          ∙ ap beside_eyes m.announces.client,
      leaves_all old new _ m.core knows,
    )

    unspent : new ≡ old → Sights None
    unspent is = (
      (let adds = ap (λ (z : SeatState View). z.view.core.adds) is in omega arith),
      ap (λ (z : SeatState View). beside_eyes z.view.client) is,
      leaves_same old new is,
    )

    -- whatever the load answers
    module _ (r : Result (Option Handle) LoadError) (same : r ≡ Err unloaded.Spent → new ≡ old)
        (spent : r ≡ Err unloaded.Spent → IsSpent old.view.core)
        (loads : IfOk r (λ found.
        Loads fits d (strong_place q) next allows (named found) old new))
        (moved : (seen now : ℕ) → r ≡ Err (unloaded.Moved seen now)
        → Misses fits d 0 (strong_place q) next allows (slot_in seen) (slot_in now) old new)
        (differs : ℕ → ℕ → Type 0)
        (told : (seen now : ℕ)
        → Misses fits d 0 (strong_place q) next allows (slot_in seen) (slot_in now) old new
        → differs seen now) where
      pub sights : Sights (found_by r) × IfErr r (λ error. IsWhyUnread differs error old)
      sights = go r refl loads
        where
          go : (o : Result (Option Handle) LoadError) → r ≡ o
              → IfOk o (λ found.
              Loads fits d (strong_place q) next allows (named found) old new)
              → Sights (found_by o) × IfErr o (λ error. IsWhyUnread differs error old)
          go (Ok found) is l = (loaded (named found) l, tt)
          go (Err unloaded.Spent) is l = (unspent (same is), spent is)
          go (Err (unloaded.Moved seen now)) is l = (
            missed (slot_in seen) (slot_in now) (moved seen now is),
            told seen now (moved seen now is),
          )
