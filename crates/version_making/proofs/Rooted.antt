-- The root is loaded.
use Rattle.std.proofs.Common.{◌≡◌, inl, inr, ℕ, zero, suc, refl, ap, sym, ◌∙◌, subst, arith}
use Rattle.std.specs.Prelude.{Err, IfOk, Ok, Option, Result, Some, None}
use Rattle.map_law.specs.plain_state.declared.act.EventPlace.TheVariants.{Cell}
use Rattle.map_law.specs.plain_state.declared.act.PlainAct.{PlainAct}
use Rattle.map_law.specs.plain_state.declared.act.PlainAct.TheVariants as plain
use Rattle.map_law.specs.plain_state.Places.{content}
use Rattle.slot_store.specs.core_events.Shows.{shows}
use Rattle.map_law.specs.plain_state.declared.slot.SlotId.{SlotId}
use Rattle.map_law.specs.plain_protocol.Owns.{Object, OwnPart}
use Rattle.map_law.specs.declared.view.View.{View}
use Rattle.map_law.specs.Views.{In, note}
use Rattle.map_law.specs.Lessons.{SeeReady, see_next, seen_root}
use Rattle.map_law.specs.Nodes.{IsNode}
use Rattle.slot_store.specs.core_events.Counts.{one}
use Rattle.slot_store.specs.core_events.Words.{slot_in}
use Rattle.slot_store.proofs.Below.core_law_Kit.{times_push}
use Rattle.slot_store.specs.domain_rule.Views.{object_in, own_of}
use Rattle.slot_store.specs.acquire_retire.Domains.{DomainState}
use Rattle.slot_store.specs.acquire_retire.Seats.{SeatState}
use Rattle.slot_store.specs.control_word.Calls.{with_strong}
use Rattle.slot_store.specs.control_word.Moves.{KnowsStill}
use Rattle.slot_store.specs.control_word.Resting.{IsAtRest}
use Rattle.slot_store.specs.counted_handles.Handles.{Handle}
use Rattle.slot_store.specs.counted_handles.declared.refusal.LoadError.{LoadError}
use Rattle.slot_store.specs.counted_handles.declared.refusal.LoadError.TheVariants as refused
use Rattle.atomic_shared.specs.Places.{named}
use Rattle.protected_loads.specs.Loads.{Misses}
use Rattle.protected_loads.specs.References.{IsReadyToLoad, Loads}
use Rattle.protected_loads.proofs.Learning.{client_found, client_moved, client_null, has_found, known_found}
use Rattle.version_making.specs.Keeping.{Grows, IsReadyFor, Keeps, none, of_handle}
use Rattle.version_making.specs.Opening.{of_load}
use Rattle.version_making.specs.Roots.{RootTells}
use Rattle.version_making.specs.Standing.{IsTree}
use Rattle.version_making.proofs.Keeping.{grows_same, grows_then, keeps_core, keeps_most, keeps_none}
use Rattle.version_making.proofs.Own.{own_object}

-- THE DEED is ready
pub root_ready : {P : Type 0} (d : DomainState P) (c : ℕ) (old : SeatState View) → IsReadyFor d old
    → IsReadyToLoad IsNode d (Cell c) (SeeReady c) old
root_ready d c old ready = record {
  look = λ w. record { is = inl refl; here = ready.here };
  check = λ s mid announces w. record {
    is = inr (0, refl);
    here = ap (λ (v : View). v.here) announces.client ∙ ready.here;
  };
}

seen_grows : (s : SlotId) (o : Option Object) (v : View) → Grows v (seen_root s o v)
seen_grows s None v = grows_same v v refl
seen_grows s (Some o) v = record {
  number = refl;
  here = refl;
  entries = refl;
  cleared = refl;
  solid = λ e in'. inr in';
  led = λ e in'. in';
}

see_grows : (own after : OwnPart) (v : View) (step : PlainAct) (found : ℕ)
    → Grows v (see_next own after v step found)
see_grows own after v step zero = grows_same v v refl
see_grows own after v step (suc s) =
    seen_grows (record { 0 = s }) (after.objects (record { 0 = s })) v

module _ {P : Type 0} (d : DomainState P) (b c : ℕ) (old new : SeatState View) (rest : IsAtRest d old)
    (knows : KnowsStill old.view.core old new) where
  root_keeps' : (found : Option Handle)
      → Loads IsNode d (Cell b) see_next (RootTells c) (named found) old new
      → Keeps 0 1 none (of_handle found) old new
  root_keeps' None null =
      keeps_core 0 1 none none old new old.view.core old.view.core _ null.becomes.core refl
      (λ x. refl) (omega arith, omega arith) (omega arith, omega arith) knows (λ x less. less)
      (grows_same old.view.client new.view.client (client_null d (Cell b) old new null))
  root_keeps' (Some h) r =
      keeps_core 0 1 none (λ x. one x h.slot) old new (with_strong h.slot old.view.core)
      old.view.core _ r.core refl
      (λ x. let t = times_push x h.slot old.view.core.owned in omega (arith, t))
      (omega arith, omega arith) (omega arith, omega arith) knows (λ x less. less)
      (subst (λ (v : View). Grows old.view.client v)
      (sym (client_found d (Cell b) old new h.slot rest r))
      (grows_then old.view.client r.protects.mid.view.client
      (see_next (own_of r.protects.mid.view) (own_of r.protects.checks.walks.0.view)
      r.protects.mid.view.client (plain.Check 0 (Cell b)) (suc h.slot.0))
      (grows_same old.view.client r.protects.mid.view.client r.protects.announces.client)
      (see_grows (own_of r.protects.mid.view) (own_of r.protects.checks.walks.0.view)
      r.protects.mid.view.client (plain.Check 0 (Cell b)) (suc h.slot.0))))

  module _ (same : b ≡ c) where
    root_tree : (found : Option Handle)
        → Loads IsNode d (Cell b) see_next (RootTells c) (named found) old new → IsTree found new
    root_tree None null = tt
    root_tree (Some h) r =
        let client = client_found d (Cell b) old new h.slot rest r
        ∙ ap (λ (o : Option Object). seen_root h.slot o r.protects.mid.view.client)
        (own_object h.slot r.protects.checks.walks.0
        (has_found d (Cell b) old new h.slot rest r)) in
        let tells = r.protects.checks.walks.1.told.happened.fact.2.1 in record {
          node = subst (λ (o : Object). IsNode o.payload) (sym r.object)
              (tells h.slot (ap (λ (n : ℕ). content (shows d.shape r.protects.checks.walks.1.told.happened.before) (Cell n))
              (sym same) ∙ r.protects.there));
          known = subst (λ (v : View). In (note h.slot (object_in new.view h.slot).life) v.solid)
              (sym client)
              (inl (ap (λ (o : Object). note h.slot o.life)
              (known_found d (Cell b) old new h.slot rest r)));
        }

    pub root_trees : (res : Result (Option Handle) LoadError)
        → IfOk res (λ found. Loads IsNode d (Cell b) see_next (RootTells c) (named found) old new)
        → IfOk res (λ found. IsTree found new)
    root_trees (Ok found) loads = root_tree found loads
    root_trees (Err e) loads = tt

  pub root_all : (res : Result (Option Handle) LoadError)
      → IfOk res (λ found. Loads IsNode d (Cell b) see_next (RootTells c) (named found) old new)
      → (res ≡ Err refused.Spent → new ≡ old)
      → ((seen now : ℕ) → res ≡ Err (refused.Moved seen now)
      → Misses IsNode d 0 (Cell b) see_next (RootTells c) (slot_in seen) (slot_in now) old new)
      → Keeps 0 1 none (of_load res) old new
  root_all res loads spent moved = go res refl loads
    where
      go : (o : Result (Option Handle) LoadError) → res ≡ o
          → IfOk o (λ found. Loads IsNode d (Cell b) see_next (RootTells c) (named found) old new)
          → Keeps 0 1 none (of_load o) old new
      go (Ok found) is loads = root_keeps' found loads
      go (Err refused.Spent) is loads =
          subst (λ (x : SeatState View). Keeps 0 1 none none old x) (sym (spent is))
          (keeps_most 0 0 0 1 none none old old (omega arith) (omega arith) (keeps_none old))
      go (Err (refused.Moved seen now)) is loads =
          let m = moved seen now is in
          keeps_core 0 1 none none old new old.view.core old.view.core _ m.core refl (λ x. refl)
          (omega arith, omega arith) (omega arith, omega arith) knows (λ x less. less)
          (subst (λ (v : View). Grows old.view.client v)
          (sym (client_moved d (Cell b) old new (slot_in seen) (slot_in now) m))
          (grows_then old.view.client m.mid.view.client
          (see_next (own_of m.mid.view) (own_of m.checks.walks.0.view) m.mid.view.client
          (plain.Check 0 (Cell b)) m.checks.walks.1.word)
          (grows_same old.view.client m.mid.view.client m.announces.client)
          (see_grows (own_of m.mid.view) (own_of m.checks.walks.0.view) m.mid.view.client
          (plain.Check 0 (Cell b)) m.checks.walks.1.word)))
