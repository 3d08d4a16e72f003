-- What a load with the deed SeeNode leaves of a seat.
use Rattle.std.proofs.Common.{◌≡◌, inl, inr, ℕ, suc, zero, ◌<◌, List, [], ◌∷◌, ◌++◌, refl, sym, ap, subst, ◌∙◌, arith, Option, Some, None}
use Rattle.std.specs.Prelude.{Contains, Err, IfErr, IfOk, OnErr, Ok, Result, if◌then◌else◌}
use Rattle.std.proofs.lemmas.List.Elements.{Contains-push}
use Rattle.cdrc.specs.plain_state.declared.act.EventPlace.TheVariants.{Cell, Field}
use Rattle.cdrc.specs.plain_state.declared.act.PlainAct.{PlainAct}
use Rattle.cdrc.specs.plain_state.declared.act.PlainAct.TheVariants as plain
use Rattle.cdrc.specs.plain_state.declared.slot.SlotId.{SlotId}
use Rattle.cdrc.specs.plain_state.declared.slot.Kind.TheVariants.{Strong}
use Rattle.cdrc.specs.plain_state.Lists.{times}
use Rattle.cdrc.specs.plain_state.Places.{place_kind}
use Rattle.cdrc.specs.plain_protocol.Owns.{Object, OwnPart}
use Rattle.cdrc.specs.core_events.declared.view.CoreView.{CoreView}
use Rattle.cdrc.specs.core_events.Words.{slot_in}
use Rattle.cdrc.proofs.Below.core_law_Kit.{one_same, times_push}
use Rattle.cdrc.specs.counted_handles.Handles.{Handle}
use Rattle.cdrc.specs.counted_handles.declared.place.Place.{Place}
use Rattle.cdrc.specs.counted_handles.declared.refusal.LoadError.{LoadError}
use Rattle.cdrc.specs.counted_handles.declared.refusal.LoadError.TheVariants as refused
use Rattle.cdrc.specs.counted_handles.declared.place.Place.TheVariants as place
use Rattle.cdrc.specs.domain_rule.Views.{object_in, own_of}
use Rattle.cdrc.specs.acquire_retire.Domains.{DomainState}
use Rattle.cdrc.specs.acquire_retire.Seats.{SeatState}
use Rattle.cdrc.specs.atomic_shared.Places.{named, strong_place}
use Rattle.cdrc.specs.control_word.Calls.{with_strong}
use Rattle.cdrc.specs.control_word.Moves.{KnowsStill}
use Rattle.cdrc.specs.control_word.Resting.{IsAtRest, IsSpent}
use Rattle.cdrc.specs.protected_loads.Loads.{Announces, FindsNull, Misses}
use Rattle.cdrc.specs.protected_loads.References.{IsReadyToLoad, Loads, Refers, loaded_by, with_reference}
use Rattle.cdrc.proofs.Below.protected_loads_Learning.{allowed, batch, batch_loaded, batch_moved, checked, client_found, client_moved, client_null, has_found, known_found, slot_there}
use Rattle.cdrc.specs.protocol_pairs.Values.{value_of}
use Rattle.example_stack.specs.Views.{View}
use Rattle.example_stack.specs.Deeds.{IsStackPlace, SeeReady, SeeTells, see_next}
use Rattle.example_stack.specs.Calls.{IsNullAt, IsPlaceOf, IsWhy, Sees}
use Rattle.example_stack.specs.Leaving.{Leaves, with_found}
use Rattle.example_stack.proofs.Leavings.{leaves_all, leaves_as, leaves_same}
use Rattle.example_stack.proofs.Trails.{trail_same}
use Rattle.example_stack.proofs.Knowing.{has_owned, node_still, own_node, saw_owned}

kind_of : (q : Place) → place_kind (strong_place q) ≡ Strong
kind_of (place.Cell i) = refl
kind_of (place.Field s i) = refl

-- the values that it pushed and popped
abbrev pub deeds : View → List (List ℕ) × List (List ℕ)
deeds v = (v.pushed, v.popped)

see_same : (own after : OwnPart) (v : View) (a : PlainAct) (w : ℕ)
    → deeds (see_next own after v a w) ≡ deeds v
see_same own after v a zero = refl
see_same own after v a (suc s) = refl

module _ {P : Type 0} (kind : List ℕ → Type 0) (d : DomainState P) (cell : ℕ) (q : Place)
    (old : SeatState View) where
  -- THE DEED is ready
  ready_place : (seat : SeatState View) → IsPlaceOf cell kind seat q
      → IsStackPlace cell kind (own_of seat.view) (strong_place q)
  ready_place seat is = go q is
    where
      go : (q : Place) → IsPlaceOf cell kind seat q
          → IsStackPlace cell kind (own_of seat.view) (strong_place q)
      go (place.Cell i) is = inl (ap Cell is)
      go (place.Field x i) is = inr (x, ap (Field x) is.0, own_node kind x seat is.1)

  place_still : (mid : SeatState View) (s : SlotId)
      → Announces kind d 0 (strong_place q) s old mid → IsPlaceOf cell kind old q
      → IsPlaceOf cell kind mid q
  place_still mid s announces is = go q is
    where
      owned : mid.view.core.owned ≡ old.view.core.owned
      owned = ap (λ (v : CoreView). v.owned) announces.becomes.core

      go : (q : Place) → IsPlaceOf cell kind old q → IsPlaceOf cell kind mid q
      go (place.Cell i) is = is
      go (place.Field x i) is = (
        is.0,
        node_still kind x old mid is.1 (subst (λ l. 0 < times x l) (sym owned) is.1.0)
            (announces.knows x (has_owned old.view.core x is.1.0)),
      )

  pub ready : IsPlaceOf cell kind old q
      → IsReadyToLoad kind d (strong_place q) (SeeReady cell kind) old
  ready is = record {
    look = λ w. (strong_place q, ready_place old is, inl refl);
    check = λ s mid announces w.
        (strong_place q, ready_place mid (place_still mid s announces is), inr (0, refl));
  }

  -- WHAT IT LEAVES
  module _ (rest : IsAtRest d old) (new : SeatState View) where
    finds_null : FindsNull kind d (strong_place q) see_next (SeeTells kind) old new
        → Sees kind d None old new
    finds_null null = record {
      owned = ap (λ (v : CoreView). v.owned) null.becomes.core;
      node = tt;
      saw = tt;
      there = tt;
      spent = λ e.
          let adds = ap (λ (v : CoreView). v.adds) null.becomes.core in
          let quota = ap (λ (v : CoreView). v.quota.adds) null.becomes.core in omega arith;
    }

    refers : (s : SlotId) → Refers kind d (strong_place q) see_next (SeeTells kind) s old new
        → Sees kind d (Some s) old new
    refers s r = record {
      owned = owned;
      node = (allowed d (strong_place q) old new s rest r).2 _ seen;
      saw = saw_owned s new (has_owned new.view.core s own) seen;
      there = slot_there d (strong_place q) old new s rest r;
      spent = λ e.
          let adds = ap (λ (v : CoreView). v.adds) r.core
          ∙ ap (λ k. (with_reference k s old.view.core).adds) (kind_of q) in
          let quota = ap (λ (v : CoreView). v.quota.adds) r.core
          ∙ ap (λ k. (with_reference k s old.view.core).quota.adds) (kind_of q) in omega arith;
    }
      where
        mid : SeatState View
        mid = checked d (strong_place q) old new s rest r

        seen : Contains new.view.client.seen (object_in new.view s).payload
        seen = subst (λ (x : View × Object). Contains x.0.seen x.1.payload)
            (λ i. (
              sym (client_found d (strong_place q) old new s rest r) i,
              sym (known_found d (strong_place q) old new s rest r) i,
            ))
            (subst (λ b. Contains (r.protects.mid.view.client.seen
            ++ value_of (if b then Some (object_in mid.view s) else None))
            (object_in mid.view s).payload)
            (sym (has_found d (strong_place q) old new s rest r))
            (Contains-push r.protects.mid.view.client.seen (object_in mid.view s).payload))

        owned : new.view.core.owned ≡ old.view.core.owned ++ s ∷ []
        owned = ap (λ (v : CoreView). v.owned) r.core
            ∙ ap (λ k. (with_reference k s old.view.core).owned) (kind_of q)

        own : 0 < times s new.view.core.owned
        own = let push = times_push s s old.view.core.owned in
            let one = one_same s s refl in
            let at = ap (times s) owned in omega arith

    sees : (found : Option SlotId)
        → Loads kind d (strong_place q) see_next (SeeTells kind) found old new
        → Sees kind d found old new
    sees None null = finds_null null
    sees (Some s) r = refers s r

    -- it pushed and popped nothing
    same_deeds : (found : Option SlotId)
        → Loads kind d (strong_place q) see_next (SeeTells kind) found old new
        → deeds new.view.client ≡ deeds old.view.client
    same_deeds None null = ap deeds (client_null d (strong_place q) old new null)
    same_deeds (Some s) r = ap deeds (client_found d (strong_place q) old new s rest r)
        ∙ ap deeds r.protects.announces.client

    moved_deeds : (seen now : Option SlotId)
        → Misses kind d 0 (strong_place q) see_next (SeeTells kind) seen now old new
        → deeds new.view.client ≡ deeds old.view.client
    moved_deeds seen now m = ap deeds (client_moved d (strong_place q) old new seen now m)
        ∙ (see_same (own_of m.mid.view) (own_of m.checks.walks.0.view) m.mid.view.client
        (plain.Check 0 (strong_place q)) m.checks.walks.1.word
        ∙ ap deeds m.announces.client)

    -- what it owns beside
    loaded_leaves : KnowsStill old.view.core old new → (found : Option SlotId)
        → Loads kind d (strong_place q) see_next (SeeTells kind) found old new
        → Leaves (with_found found old.view.core.owned) old new
    loaded_leaves knows None null = leaves_all old new _ null.becomes.core knows
    loaded_leaves knows (Some s) r =
        leaves_as old new (with_strong s old.view.core) old.view.core (loaded_by (strong_place q) s)
        (r.core ∙ ap (λ k. record (with_reference k s old.view.core) {
          trail = old.view.core.trail ++ loaded_by (strong_place q) s;
        })
        (kind_of q))
        refl (omega arith) knows (λ x was is. was)

    -- whatever the load answers
    module _ (r : Result (Option Handle) LoadError) (same : r ≡ Err refused.Spent → new ≡ old)
        (spent : r ≡ Err refused.Spent → IsSpent old.view.core)
        (loaded : IfOk r (λ found.
        Loads kind d (strong_place q) see_next (SeeTells kind) (named found) old new))
        (moved : (seen now : ℕ) → r ≡ Err (refused.Moved seen now)
        → Misses kind d 0 (strong_place q) see_next (SeeTells kind) (slot_in seen) (slot_in now)
        old new)
        (knows : KnowsStill old.view.core old new) where
      abbrev After : Result (Option Handle) LoadError → Type 0
      After r =
          IfOk r (λ found. Sees kind d (named found) old new)
          × OnErr r (new.view.core.owned ≡ old.view.core.owned)
          × (deeds new.view.client ≡ deeds old.view.client)
          × (batch new.view.core ≡ batch old.view.core)
          × IfErr r (λ error. IsWhy kind d (IsSpent old.view.core) error old new)
          × IfOk r (λ found. Leaves (with_found (named found) old.view.core.owned) old new)
          × OnErr r (Leaves old.view.core.owned old new)

      pub answered : After r
      answered = go r refl loaded
        where
          go : (o : Result (Option Handle) LoadError) → r ≡ o
              → IfOk o (λ found.
              Loads kind d (strong_place q) see_next (SeeTells kind) (named found) old new)
              → After o
          go (Ok found) is l = (
            sees (named found) l,
            tt,
            same_deeds (named found) l,
            batch_loaded kind d (strong_place q) see_next (SeeTells kind) old new (named found) l,
            tt,
            loaded_leaves knows (named found) l,
            tt,
          )
          go (Err refused.Spent) is l =
              let e = same is in (
                tt,
                ap (λ (z : SeatState View). z.view.core.owned) e,
                ap (λ (z : SeatState View). deeds z.view.client) e,
                ap (λ (z : SeatState View). batch z.view.core) e,
                spent is,
                tt,
                leaves_same old new e,
              )
          go (Err (refused.Moved seen now)) is l =
              let m = moved seen now is in (
                tt,
                ap (λ (v : CoreView). v.owned) m.core,
                moved_deeds (slot_in seen) (slot_in now) m,
                batch_moved kind d (strong_place q) see_next (SeeTells kind) old new (slot_in seen)
                    (slot_in now) m,
                (
                  strong_place q,
                  inl (record {
                    mid = old;
                    late = new;
                    since = trail_same old old refl;
                    misses = m;
                    till = trail_same new new refl;
                  }),
                ),
                tt,
                leaves_all old new _ m.core knows,
              )

-- what a load found null it found by its look
pub null_at : {P : Type 0} (kind : List ℕ → Type 0) (d : DomainState P) (q : Place)
    (old new : SeatState View) (r : Result (Option Handle) LoadError)
    → IfOk r (λ found.
    Loads kind d (strong_place q) see_next (SeeTells kind) (named found) old new)
    → IfOk r (λ found. IsNullAt kind d (strong_place q) (named found) old new)
null_at kind d q old new (Ok None) null = null
null_at kind d q old new (Ok (Some handle)) refers = tt
null_at kind d q old new (Err e) loaded = tt
