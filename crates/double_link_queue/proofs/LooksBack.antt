-- What a seat finds by the weak field of a node that it saw in the tail cell.
use Rattle.std.proofs.Common.{◌≡◌, inl, inr, ℕ, suc, ◌+◌, ◌<◌, ◌≤◌, true, refl, ap, sym, ◌∙◌, subst, arith, List}
use Rattle.std.specs.Prelude.{Err, IfErr, IfOk, IfSome, Ok, Option, Result, Some, None, ◌⊎◌, ◌==◌}
use Rattle.weak_part_calls.specs.plain_state.declared.act.EventPlace.TheVariants.{WeakField}
use Rattle.weak_part_calls.specs.plain_state.declared.act.PlainAct.{PlainAct}
use Rattle.weak_part_calls.specs.plain_state.declared.act.PlainAct.TheVariants as plain
use Rattle.weak_part_calls.specs.plain_state.declared.slot.SlotId.{SlotId}
use Rattle.weak_part_calls.specs.plain_state.Lists.{times}
use Rattle.weak_part_calls.specs.core_events.declared.view.CoreView.{CoreView}
use Rattle.weak_part_calls.specs.core_events.Words.{slot_in}
use Rattle.weak_part_calls.proofs.Below.core_law_Kit.{one_same, times_push}
use Rattle.weak_part_calls.specs.counted_handles.Handles.{Handle}
use Rattle.weak_part_calls.specs.counted_handles.declared.refusal.LoadError.{LoadError}
use Rattle.weak_part_calls.specs.counted_handles.declared.refusal.LoadError.TheVariants as unloaded
use Rattle.weak_part_calls.specs.domain_rule.Views.{own_of}
use Rattle.weak_part_calls.specs.acquire_retire.Domains.{DomainState}
use Rattle.weak_part_calls.specs.acquire_retire.Seats.{SeatState}
use Rattle.weak_part_calls.specs.atomic_weak.Places.{named}
use Rattle.weak_part_calls.specs.control_word.Calls.{with_weak}
use Rattle.weak_part_calls.specs.control_word.Moves.{KnowsStill}
use Rattle.weak_part_calls.specs.control_word.Resting.{IsAtRest, IsSpent}
use Rattle.weak_part_calls.specs.protected_loads.Loads.{FindsNull, Misses}
use Rattle.weak_part_calls.specs.protected_loads.References.{IsReadyToLoad, Loads, Refers}
use Rattle.weak_part_calls.proofs.Below.protected_loads_Learning.{client_found, client_moved, client_null}
use Rattle.linked_queue.specs.queue_law.declared.view.Form.TheVariants.{Double}
use Rattle.linked_queue.specs.queue_law.declared.view.View.{View}
use Rattle.linked_queue.specs.queue_law.Lessons.{BeforeReady, TellsNothing, before_next}
use Rattle.linked_queue.specs.queue_protocol.declared.law.QueueLaw.{QueueLaw}
use Rattle.linked_queue.specs.Leaving.{with_found}
use Rattle.linked_queue.specs.Pushes.{SeesTail}
use Rattle.linked_queue.specs.Queues.{beside_eyes, ends_of}
use Rattle.linked_queue.specs.Seeing.{IsWhyUnread}
use Rattle.linked_queue.proofs.Owning.{has_owned, own_life}
use Rattle.double_link_queue.specs.Leaving.{LeavesBoth}
use Rattle.double_link_queue.specs.Pushes.{SeesBack, weakly_found_by}
use Rattle.double_link_queue.specs.Steps.{MissesBack}
use Rattle.double_link_queue.proofs.Backs.{tail_kept}
use Rattle.double_link_queue.proofs.Leavings.{both_as, both_same}

-- the deed is ready
ready_at : (d : DomainState QueueLaw) (last : SlotId) (seat : SeatState View) (step : PlainAct)
    → d.protocol.form ≡ Double → SeesTail last seat
    → (step ≡ plain.Look (WeakField last)) ⊎ ((j : ℕ) × (step ≡ plain.Check j (WeakField last)))
    → BeforeReady (ends_of d) (own_of seat.view) seat.view.client step
ready_at d last seat step form sees reads = record {
  node = last.0;
  reads = reads;
  form = form;
  held = (let some' = sees.owns in omega arith);
  seen = sees.node;
  seen_life = own_life last seat (has_owned last seat sees.owns) ∙ sees.life;
}

module _ (fits : List ℕ → Type 0) (d : DomainState QueueLaw) (last : SlotId)
    (old : SeatState View) (sees : SeesTail last old) where
  pub before_ready : d.protocol.form ≡ Double
      → IsReadyToLoad fits d (WeakField last) (BeforeReady (ends_of d)) old
  before_ready form = record {
    look = λ w. ready_at d last old (plain.Look (WeakField last)) form sees (inl refl);
    check = λ s mid announces w.
        let owned = ap (λ (v : CoreView). v.owned) announces.becomes.core in
        let client = announces.client in
        ready_at d last mid (plain.Check 0 (WeakField last)) form
        (tail_kept last old mid sees
        (subst (λ l. 0 < times last l) (sym owned) sees.owns)
        (announces.knows last (has_owned last old sees.owns))
        (ap (λ (v : CoreView). v.shape) announces.becomes.core)
        (ap (λ (v : View). v.eyes.node) client) (ap (λ (v : View). v.eyes.life) client)
        (ap (λ (v : View). v.eyes.was_tail) client))
        (inr (0, refl));
  }

  module _ (new : SeatState View) (rest : IsAtRest d old) (knows : KnowsStill old.view.core old new)
    where
      -- one add more at most, no more deeds, the weak reference found, and the tail cell's node
      abbrev pub Kept : Option SlotId → Type 0
      Kept found =
          (new.view.core.adds ≤ old.view.core.adds + 1)
          × (beside_eyes new.view.client ≡ beside_eyes old.view.client)
          × LeavesBoth old.view.core.owned (with_found found old.view.core.weaks) old new
          × SeesTail last new

      sees_on : (base : View) (w : ℕ)
          → new.view.client
          ≡ record base { eyes = record base.eyes { before = w; helped = w == 0 } }
          → base ≡ old.view.client
          → new.view.core.owned ≡ old.view.core.owned
          → new.view.core.shape ≡ old.view.core.shape → SeesTail last new
      sees_on base w is same owned shape =
          tail_kept last old new sees
          (subst (λ l. 0 < times last l) (sym owned) sees.owns)
          (knows last (has_owned last old sees.owns)) shape
          (ap (λ (v : View). v.eyes.node) is ∙ ap (λ (v : View). v.eyes.node) same)
          (ap (λ (v : View). v.eyes.life) is ∙ ap (λ (v : View). v.eyes.life) same)
          (ap (λ (v : View). v.eyes.was_tail) is ∙ ap (λ (v : View). v.eyes.was_tail) same)

      on_null : FindsNull fits d (WeakField last) before_next TellsNothing old new → Kept None
      on_null null =
          let core = null.becomes.core in
          let client = client_null d (WeakField last) old new null in (
            (let adds = ap (λ (v : CoreView). v.adds) core in omega arith),
            ap beside_eyes client,
            both_as old new old.view.core old.view.core _ core refl (omega arith) knows (λ x was is. was),
            sees_on old.view.client 0 client refl (ap (λ (v : CoreView). v.owned) core)
                (ap (λ (v : CoreView). v.shape) core),
          )

      pub null_helped : FindsNull fits d (WeakField last) before_next TellsNothing old new
          → new.view.client.eyes.helped ≡ true
      null_helped null = ap (λ (v : View). v.eyes.helped) (client_null d (WeakField last) old new
          null)

      on_found : (s : SlotId) → Refers fits d (WeakField last) before_next TellsNothing s old new
          → Kept (Some s)
      on_found s r =
          let client = client_found d (WeakField last) old new s rest r in
          let same = r.protects.announces.client in (
            (let adds = ap (λ (v : CoreView). v.adds) r.core in omega arith),
            ap beside_eyes client ∙ ap beside_eyes same,
            both_as old new (with_weak s old.view.core) old.view.core _ r.core refl (omega arith)
                knows
                (λ x was is. was),
            sees_on r.protects.mid.view.client (suc s.0) client same
                (ap (λ (v : CoreView). v.owned) r.core) (ap (λ (v : CoreView). v.shape) r.core),
          )

      pub found_back : (s : SlotId) → Refers fits d (WeakField last) before_next TellsNothing s old
          new
          → SeesBack last s new
      found_back s r = record {
        tail = (on_found s r).3;
        owns =
            let weaks = ap (λ (v : CoreView). times s v.weaks) r.core in
            let push = times_push s s old.view.core.weaks in
            let one = one_same s s refl in omega arith;
        is_before = ap (λ (v : View). v.eyes.before)
            (client_found d (WeakField last) old new s rest r) ∙ omega arith;
      }

      on_missed : (seen now : Option SlotId)
          → Misses fits d 0 (WeakField last) before_next TellsNothing seen now old new → Kept None
      on_missed seen now m =
          let client = client_moved d (WeakField last) old new seen now m in
          let same = m.announces.client in (
            (let adds = ap (λ (v : CoreView). v.adds) m.core in omega arith),
            ap beside_eyes client ∙ ap beside_eyes same,
            both_as old new old.view.core old.view.core _ m.core refl (omega arith) knows (λ x was is. was),
            sees_on m.mid.view.client m.checks.walks.1.word client same (ap (λ (v : CoreView).
                v.owned) m.core)
                (ap (λ (v : CoreView). v.shape) m.core),
          )

      on_spent : new ≡ old → Kept None
      on_spent is = (
        (let adds = ap (λ (z : SeatState View). z.view.core.adds) is in omega arith),
        ap (λ (z : SeatState View). beside_eyes z.view.client) is,
        both_same old new is,
        subst (SeesTail last) (sym is) sees,
      )

      -- whatever the load answers
      module _ (r : Result (Option Handle) LoadError) (same : r ≡ Err unloaded.Spent → new ≡ old)
          (spent : r ≡ Err unloaded.Spent → IsSpent old.view.core)
          (loads : IfOk r (λ found. Loads fits d (WeakField last) before_next TellsNothing
          (named found) old new))
          (moved : (seen now : ℕ) → r ≡ Err (unloaded.Moved seen now)
          → Misses fits d 0 (WeakField last) before_next TellsNothing (slot_in seen) (slot_in now)
          old new) where
        pub looked_back : Kept (weakly_found_by r)
            × IfErr r (λ error. IsWhyUnread (λ seen now. MissesBack fits d last seen now old new) error old)
            × IfOk r (λ found. named found ≡ None → new.view.client.eyes.helped ≡ true)
            × IfOk r (λ found. IfSome found (λ back. SeesBack last back.slot new))
        looked_back = go r refl loads
          where
            go : (o : Result (Option Handle) LoadError) → r ≡ o
                → IfOk o (λ found. Loads fits d (WeakField last) before_next TellsNothing
                (named found) old new)
                → Kept (weakly_found_by o)
                × IfErr o (λ error. IsWhyUnread (λ seen now. MissesBack fits d last seen now old new) error old)
                × IfOk o (λ found. named found ≡ None → new.view.client.eyes.helped ≡ true)
                × IfOk o (λ found. IfSome found (λ back. SeesBack last back.slot new))
            go (Ok None) is l = (on_null l, tt, (λ none. null_helped l), tt)
            go (Ok (Some h)) is l =
                (on_found h.slot l, tt, (λ none. absurd (cc (none))), found_back h.slot l)
            go (Err unloaded.Spent) is l = (on_spent (same is), spent is, tt, tt)
            go (Err (unloaded.Moved seen now)) is l = (
              on_missed (slot_in seen) (slot_in now) (moved seen now is),
              moved seen now is,
              tt,
              tt,
            )
