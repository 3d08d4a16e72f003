-- A low root is loaded.
use Rattle.std.proofs.Common.{◌≡◌, inl, inr, ℕ, zero, suc, ◌≤◌, length, refl, ap, sym, ◌∙◌, subst, arith}
use Rattle.std.specs.Prelude.{Err, IfOk, Ok, Option, Result, Some, None, slice_index}
use Rattle.map_law.specs.plain_state.declared.act.EventPlace.TheVariants.{Cell}
use Rattle.map_law.specs.plain_state.declared.act.PlainAct.{PlainAct}
use Rattle.map_law.specs.plain_state.declared.act.PlainAct.TheVariants as plain
use Rattle.map_law.specs.plain_state.declared.slot.SlotId.{SlotId}
use Rattle.map_law.specs.plain_state.Limits.{most_slots}
use Rattle.map_law.specs.plain_state.Places.{content}
use Rattle.map_law.specs.plain_state.State.{Plain, slot_at}
use Rattle.map_law.specs.plain_protocol.Owns.{Object, OwnPart}
use Rattle.map_law.specs.declared.view.View.{View}
use Rattle.map_law.specs.Views.{In, note}
use Rattle.map_law.specs.Lessons.{see_next, seen_root}
use Rattle.map_law.specs.Nodes.{IsNode, root}
use Rattle.slot_store.specs.core_events.Counts.{one}
use Rattle.slot_store.specs.core_events.Shows.{show_slot, shows}
use Rattle.slot_store.specs.core_events.Words.{slot_in}
use Rattle.slot_store.proofs.Below.core_law_Each.{length_each}
use Rattle.slot_store.proofs.Below.core_law_Kit.{times_push}
use Rattle.slot_store.specs.domain_rule.Views.{object_in, own_of}
use Rattle.slot_store.specs.acquire_retire.Domains.{DomainState}
use Rattle.slot_store.specs.acquire_retire.Seats.{SeatState}
use Rattle.slot_store.specs.control_word.Calls.{with_strong}
use Rattle.slot_store.specs.control_word.Moves.{KnowsStill}
use Rattle.slot_store.specs.control_word.Resting.{IsAtRest}
use Rattle.slot_store.specs.counted_handles.Handles.{Handle}
use Rattle.slot_store.specs.counted_handles.declared.refusal.LoadError.{LoadError}
use Rattle.slot_store.specs.counted_handles.declared.refusal.LoadError.TheVariants as refused
use Rattle.atomic_shared.specs.Places.{named}
use Rattle.atomic_shared.specs.protected_loads.Loads.{Misses}
use Rattle.atomic_shared.specs.protected_loads.References.{Loads}
use Rattle.atomic_shared.proofs.Below.protected_loads_Learning.{client_found, client_moved, client_null, has_found, known_found, slot_there}
use Rattle.version_making.specs.Keeping.{Grows, Keeps, none, of_handle}
use Rattle.version_making.specs.Opening.{of_load}
use Rattle.version_making.proofs.Keeping.{grows_same, grows_then, keeps_core, keeps_most, keeps_none}
use Rattle.version_making.proofs.Own.{own_object}
use Rattle.version_updates.specs.Heights.{height_word}
use Rattle.version_updates.specs.Roots.{IsLowRoot, LowTells}

seen_grows : (s : SlotId) (o : Option Object) (v : View) → Grows v (seen_root s o v)
seen_grows s None v = grows_same v v refl
seen_grows s (Some o) v = record {
  number = refl;
  here = refl;
  entries = refl;
  cleared = refl;
  solid = λ e in'. inr in';
  led = λ e in'. in';
}

see_grows : (own after : OwnPart) (v : View) (step : PlainAct) (found : ℕ)
    → Grows v (see_next own after v step found)
see_grows own after v step zero = grows_same v v refl
see_grows own after v step (suc s) =
    seen_grows (record { 0 = s }) (after.objects (record { 0 = s })) v

module _ {P : Type 0} (d : DomainState P) (b c : ℕ) (old new : SeatState View) (rest : IsAtRest d old)
    (knows : KnowsStill old.view.core old new) where
  keeps_found : (found : Option Handle)
      → Loads IsNode d (Cell b) see_next (LowTells c) (named found) old new
      → Keeps 0 1 none (of_handle found) old new
  keeps_found None null =
      keeps_core 0 1 none none old new old.view.core old.view.core _ null.becomes.core refl
      (λ x. refl) (omega arith, omega arith) (omega arith, omega arith) knows (λ x less. less)
      (grows_same old.view.client new.view.client (client_null d (Cell b) old new null))
  keeps_found (Some h) r =
      keeps_core 0 1 none (λ x. one x h.slot) old new (with_strong h.slot old.view.core)
      old.view.core _ r.core refl
      (λ x. let t = times_push x h.slot old.view.core.owned in omega (arith, t))
      (omega arith, omega arith) (omega arith, omega arith) knows (λ x less. less)
      (subst (λ (v : View). Grows old.view.client v)
      (sym (client_found d (Cell b) old new h.slot rest r))
      (grows_then old.view.client r.protects.mid.view.client
      (see_next (own_of r.protects.mid.view) (own_of r.protects.checks.walks.0.view)
      r.protects.mid.view.client (plain.Check 0 (Cell b)) (suc h.slot.0))
      (grows_same old.view.client r.protects.mid.view.client r.protects.announces.client)
      (see_grows (own_of r.protects.mid.view) (own_of r.protects.checks.walks.0.view)
      r.protects.mid.view.client (plain.Check 0 (Cell b)) (suc h.slot.0))))

  module _ (same : b ≡ c) where
    low_root : (found : Option Handle)
        → Loads IsNode d (Cell b) see_next (LowTells c) (named found) old new
        → IsLowRoot d.shape found new
    low_root None null = record { tree = tt; inside = tt; low = omega arith }
    low_root (Some h) r =
        let client = client_found d (Cell b) old new h.slot rest r
        ∙ ap (λ (o : Option Object). seen_root h.slot o r.protects.mid.view.client)
        (own_object h.slot r.protects.checks.walks.0
        (has_found d (Cell b) old new h.slot rest r)) in
        let happened = r.protects.checks.walks.1.told.happened in
        let state : Plain = shows d.shape happened.before in
        let at : root state c ≡ Some h.slot =
        ap (λ (n : ℕ). content (shows d.shape happened.before) (Cell n)) (sym same)
        ∙ r.protects.there in
        let few : height_word (slot_at (shows d.shape happened.before) h.slot)
        ≤ length (shows d.shape happened.before).slots = happened.fact.2.1 h.slot at in
        let slots : length (shows d.shape happened.before).slots ≡ d.shape.slots =
        length_each 0 d.shape.slots
        (λ x. show_slot d.shape happened.before (record { 0 = x })) in
        let most : d.shape.slots ≤ most_slots = happened.shape.3 in
        let height : slice_index (object_in new.view h.slot).payload 3
        ≡ height_word (slot_at (shows d.shape happened.before) h.slot) =
        ap (λ (o : Object). slice_index o.payload 3) r.object in record {
          tree = record {
            node = subst (λ (o : Object). IsNode o.payload) (sym r.object)
                (happened.fact.2.0.1 h.slot at);
            known = subst
                (λ (v : View). In (note h.slot (object_in new.view h.slot).life) v.solid)
                (sym client)
                (inl (ap (λ (o : Object). note h.slot o.life)
                (known_found d (Cell b) old new h.slot rest r)));
          };
          inside = slot_there d (Cell b) old new h.slot rest r;
          low = omega (arith, few, slots, most, height);
        }

    pub low_roots : (res : Result (Option Handle) LoadError)
        → IfOk res (λ found. Loads IsNode d (Cell b) see_next (LowTells c) (named found) old new)
        → IfOk res (λ found. IsLowRoot d.shape found new)
    low_roots (Ok found) loads = low_root found loads
    low_roots (Err e) loads = tt

  pub keeps_loaded : (res : Result (Option Handle) LoadError)
      → IfOk res (λ found. Loads IsNode d (Cell b) see_next (LowTells c) (named found) old new)
      → (res ≡ Err refused.Spent → new ≡ old)
      → ((seen now : ℕ) → res ≡ Err (refused.Moved seen now)
      → Misses IsNode d 0 (Cell b) see_next (LowTells c) (slot_in seen) (slot_in now) old new)
      → Keeps 0 1 none (of_load res) old new
  keeps_loaded res loads spent moved = go res refl loads
    where
      go : (o : Result (Option Handle) LoadError) → res ≡ o
          → IfOk o (λ found. Loads IsNode d (Cell b) see_next (LowTells c) (named found) old new)
          → Keeps 0 1 none (of_load o) old new
      go (Ok found) is loads = keeps_found found loads
      go (Err refused.Spent) is loads =
          subst (λ (x : SeatState View). Keeps 0 1 none none old x) (sym (spent is))
          (keeps_most 0 0 0 1 none none old old (omega arith) (omega arith) (keeps_none old))
      go (Err (refused.Moved seen now)) is loads =
          let m = moved seen now is in
          keeps_core 0 1 none none old new old.view.core old.view.core _ m.core refl (λ x. refl)
          (omega arith, omega arith) (omega arith, omega arith) knows (λ x less. less)
          (subst (λ (v : View). Grows old.view.client v)
          (sym (client_moved d (Cell b) old new (slot_in seen) (slot_in now) m))
          (grows_then old.view.client m.mid.view.client
          (see_next (own_of m.mid.view) (own_of m.checks.walks.0.view) m.mid.view.client
          (plain.Check 0 (Cell b)) m.checks.walks.1.word)
          (grows_same old.view.client m.mid.view.client m.announces.client)
          (see_grows (own_of m.mid.view) (own_of m.checks.walks.0.view) m.mid.view.client
          (plain.Check 0 (Cell b)) m.checks.walks.1.word)))
