-- What a load of the cache's cell with the deed RecallValue leaves of a seat.
use Rattle.std.proofs.Common.{◌≡◌, ℕ, suc, zero, List, [], ◌∷◌, ◌++◌, refl, sym, ap, subst, ◌∙◌, arith, Option, Some, None}
use Rattle.std.specs.Prelude.{Err, IfOk, Ok, Result, if◌then◌else◌}
use Rattle.cdrc.specs.plain_state.declared.act.EventPlace.TheVariants.{WeakCell}
use Rattle.cdrc.specs.plain_state.declared.act.PlainAct.{PlainAct}
use Rattle.cdrc.specs.plain_state.declared.act.PlainAct.TheVariants as plain
use Rattle.cdrc.specs.plain_state.declared.slot.SlotId.{SlotId}
use Rattle.cdrc.specs.plain_state.Lists.{times}
use Rattle.cdrc.specs.plain_protocol.Owns.{OwnPart, HasSlot}
use Rattle.cdrc.specs.core_events.declared.view.CoreView.{CoreView}
use Rattle.cdrc.specs.core_events.Shows.{show_seat}
use Rattle.cdrc.specs.core_events.Words.{slot_in}
use Rattle.cdrc.proofs.Below.core_law_Kit.{one_same, times_push}
use Rattle.cdrc.specs.counted_handles.Handles.{Handle}
use Rattle.cdrc.specs.counted_handles.declared.refusal.LoadError.{LoadError}
use Rattle.cdrc.specs.counted_handles.declared.refusal.LoadError.TheVariants as refused
use Rattle.cdrc.specs.domain_rule.Views.{object_in, own_of}
use Rattle.cdrc.specs.acquire_retire.Domains.{DomainState}
use Rattle.cdrc.specs.acquire_retire.Seats.{SeatState}
use Rattle.cdrc.specs.control_word.Resting.{IsAtRest}
use Rattle.cdrc.specs.protected_loads.Loads.{Misses}
use Rattle.cdrc.specs.protected_loads.References.{Loads}
use Rattle.cdrc.proofs.Below.protected_loads_Learning.{batch, batch_loaded, batch_moved, checked, client_found, client_moved, client_null, has_found, known_found}
use Rattle.cdrc.specs.protocol_pairs.Values.{value_of}
use Rattle.example_cache.specs.Views.{View}
use Rattle.example_cache.specs.Deeds.{RecallTells, recall_next}
use Rattle.example_cache.specs.Calls.{Finds, recalled_too, weak_named}

-- a seat knows the value of what it has
pub value_known : (s : SlotId) (seat : SeatState View) → HasSlot (show_seat seat.view.core) s
    → value_of ((own_of seat.view).objects s) ≡ (object_in seat.view s).payload ∷ []
value_known s seat has =
    ap (λ b. value_of (if b then Some (object_in seat.view s) else None)) has

recall_same : (own after : OwnPart) (v : View) (a : PlainAct) (w : ℕ)
    → (recall_next own after v a w).remembered ≡ v.remembered
recall_same own after v a zero = refl
recall_same own after v a (suc s) = refl

module _ {P : Type 0} (kind : List ℕ → Type 0) (d : DomainState P) (cell : ℕ)
    (old : SeatState View) where
  module _ (rest : IsAtRest d old) (new : SeatState View) where
    pub finds : (found : Option SlotId)
        → Loads kind d (WeakCell cell) recall_next (RecallTells cell) found old new
        → Finds kind d cell found old new
    finds None null = record {
      loads = null;
      recalls = client_null d (WeakCell cell) old new null;
      owns = tt;
      adds = (
        let e = ap (λ (v : CoreView). v.adds) null.becomes.core in omega arith,
        ap (λ (v : CoreView). v.quota.adds) null.becomes.core,
      );
    }
    finds (Some s) r = record {
      loads = r;
      recalls = client_found d (WeakCell cell) old new s rest r
          ∙ (ap (λ l. record r.protects.mid.view.client {
            recalled = r.protects.mid.view.client.recalled ++ l;
          }) (value_known s (checked d (WeakCell cell) old new s rest r)
          (has_found d (WeakCell cell) old new s rest r))
          ∙ λ i. recalled_too
          (sym (known_found d (WeakCell cell) old new s rest r) i).payload
          (r.protects.announces.client i));
      owns = let push = times_push s s old.view.core.weaks in
          let one = one_same s s refl in
          let at = ap (λ (v : CoreView). times s v.weaks) r.core in omega arith;
      adds = (
        let e = ap (λ (v : CoreView). v.adds) r.core in omega arith,
        ap (λ (v : CoreView). v.quota.adds) r.core,
      );
    }

    same_remembered : (found : Option SlotId)
        → Loads kind d (WeakCell cell) recall_next (RecallTells cell) found old new
        → new.view.client.remembered ≡ old.view.client.remembered
    same_remembered None null =
        ap (λ (v : View). v.remembered) (client_null d (WeakCell cell) old new null)
    same_remembered (Some s) r =
        ap (λ (v : View). v.remembered) (client_found d (WeakCell cell) old new s rest r)
        ∙ ap (λ (v : View). v.remembered) r.protects.announces.client

    -- whatever the load answers
    module _ (r : Result (Option Handle) LoadError) (same : r ≡ Err refused.Spent → new ≡ old)
        (loaded : IfOk r (λ found.
        Loads kind d (WeakCell cell) recall_next (RecallTells cell) (weak_named found) old new))
        (moved : (seen now : ℕ) → r ≡ Err (refused.Moved seen now)
        → Misses kind d 0 (WeakCell cell) recall_next (RecallTells cell) (slot_in seen)
        (slot_in now) old new) where
      abbrev pub After : Result (Option Handle) LoadError → Type 0
      After o =
          IfOk o (λ found. Finds kind d cell (weak_named found) old new)
          × (new.view.client.remembered ≡ old.view.client.remembered)
          × (batch new.view.core ≡ batch old.view.core)

      pub answered : After r
      answered = go r refl loaded
        where
          go : (o : Result (Option Handle) LoadError) → r ≡ o
              → IfOk o (λ found.
              Loads kind d (WeakCell cell) recall_next (RecallTells cell) (weak_named found) old
              new)
              → After o
          go (Ok found) is l = (
            finds (weak_named found) l,
            same_remembered (weak_named found) l,
            batch_loaded kind d (WeakCell cell) recall_next (RecallTells cell) old new
                (weak_named found) l,
          )
          go (Err refused.Spent) is l =
              let e = same is in (
                tt,
                ap (λ (z : SeatState View). z.view.client.remembered) e,
                ap (λ (z : SeatState View). batch z.view.core) e,
              )
          go (Err (refused.Moved seen now)) is l =
              let m = moved seen now is in (
                tt,
                ap (λ (v : View). v.remembered)
                    (client_moved d (WeakCell cell) old new (slot_in seen) (slot_in now) m)
                    ∙ (recall_same (own_of m.mid.view) (own_of m.checks.walks.0.view)
                    m.mid.view.client (plain.Check 0 (WeakCell cell)) m.checks.walks.1.word
                    ∙ ap (λ (v : View). v.remembered) m.announces.client),
                batch_moved kind d (WeakCell cell) recall_next (RecallTells cell) old new
                    (slot_in seen) (slot_in now) m,
              )

-- the same of a cell with another name
pub answered_at : {P : Type 0} (kind : List ℕ → Type 0) (d : DomainState P) (i cell : ℕ)
    → i ≡ cell → (old : SeatState View) → IsAtRest d old → (new : SeatState View)
    (r : Result (Option Handle) LoadError) → (r ≡ Err refused.Spent → new ≡ old)
    → IfOk r (λ found.
    Loads kind d (WeakCell i) recall_next (RecallTells cell) (weak_named found) old new)
    → ((seen now : ℕ) → r ≡ Err (refused.Moved seen now)
    → Misses kind d 0 (WeakCell i) recall_next (RecallTells cell) (slot_in seen) (slot_in now)
    old new)
    → IfOk r (λ found. Finds kind d cell (weak_named found) old new)
    × (new.view.client.remembered ≡ old.view.client.remembered)
    × (batch new.view.core ≡ batch old.view.core)
answered_at kind d i cell is old rest new r same loaded moved =
    answered kind d cell old rest new r same
    (subst (λ j. IfOk r (λ found.
    Loads kind d (WeakCell j) recall_next (RecallTells cell) (weak_named found) old new)) is
    loaded)
    (λ seen now e.
    subst (λ j. Misses kind d 0 (WeakCell j) recall_next (RecallTells cell) (slot_in seen)
    (slot_in now) old new) is (moved seen now e))
