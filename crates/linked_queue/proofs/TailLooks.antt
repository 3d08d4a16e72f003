-- A look at the node behind the next one, and a look at the tail cell after that: what their deeds ask, and what they
-- leave.
use Rattle.std.proofs.Common.{◌≡◌, ◌≢◌, ℕ, zero, suc, ◌+◌, ◌<◌, true, [], ◌∷◌, inl, refl, ap, sym, ◌∙◌, subst, arith, List}
use Rattle.std.proofs.lemmas.Bool.{lt-ltb}
use Rattle.std.specs.Prelude.{IfSome, Option, Some, None, nat_lt}
use Rattle.queue_protocol.specs.plain_state.declared.act.EventPlace.TheVariants.{Cell, Field}
use Rattle.queue_protocol.specs.plain_state.declared.act.PlainAct.TheVariants as plain
use Rattle.queue_protocol.specs.plain_state.declared.slot.SlotId.{SlotId}
use Rattle.queue_protocol.specs.plain_state.Lists.{times}
use Rattle.queue_protocol.specs.plain_state.Steps.{word_of}
use Rattle.slot_store.specs.core_events.declared.act.Act.TheVariants as act
use Rattle.slot_store.specs.core_events.declared.outcome.Outcome.TheVariants as outcome
use Rattle.slot_store.specs.core_events.declared.view.CoreView.{CoreView}
use Rattle.slot_store.specs.core_events.Words.{slot_in}
use Rattle.slot_store.specs.acquire_retire.Calls.{IsReady, Steps}
use Rattle.slot_store.specs.acquire_retire.Collecting.{move}
use Rattle.slot_store.specs.acquire_retire.Domains.{DomainState}
use Rattle.slot_store.specs.acquire_retire.Seats.{SeatState}
use Rattle.slot_store.specs.control_word.Moves.{Becomes}
use Rattle.queue_protocol.specs.queue_law.declared.view.Form.TheVariants.{Linked}
use Rattle.queue_protocol.specs.queue_law.declared.view.View.{View}
use Rattle.queue_protocol.specs.queue_law.Lessons.{AheadReady, PassedReady, PassedTells, TellsNothing, ahead_next, passed_next}
use Rattle.queue_protocol.specs.declared.law.QueueLaw.{QueueLaw}
use Rattle.linked_queue.specs.Leaving.{Leaves}
use Rattle.linked_queue.specs.Pushes.{LooksAhead, SeesBehind, SeesTail}
use Rattle.linked_queue.specs.Queues.{ends_of}
use Rattle.linked_queue.proofs.Leavings.{leaves_all}
use Rattle.linked_queue.proofs.Linkings.{behind_noted}
use Rattle.linked_queue.proofs.Looks.{looked, looked_there}
use Rattle.linked_queue.proofs.Owning.{has_owned, own_life}

-- a word that isn't null
some_word : (w : ℕ) (found : Option SlotId) → found ≡ slot_in w
    → IfSome found (λ more. nat_lt 0 w ≡ true)
some_word zero found is = subst (λ o. IfSome o (λ more. nat_lt 0 0 ≡ true)) (sym is) tt
some_word (suc w) None is = tt
some_word (suc w) (Some s) is = lt-ltb 0 (suc w) (omega arith)

-- AHEAD
module _ (fits : List ℕ → Type 0) (d : DomainState QueueLaw) (first next : SlotId)
    (old : SeatState View) (sees : SeesBehind first next old) where
  pub ahead_ready : d.protocol.form ≡ Linked
      → IsReady (AheadReady (ends_of d)) d.shape (act.Look (Field next 0)) old.view
  ahead_ready form w = record {
    node = next.0;
    old = first.0;
    reads = inl refl;
    form = form;
    held = (let some' = sees.tail.owns in omega arith);
    seen = sees.tail.node;
    seen_life = own_life first old (has_owned first old sees.tail.owns) ∙ sees.tail.life;
    following = sees.following;
  }

  module _ (found : Option SlotId) (new : SeatState View)
      (step : LooksAhead fits d next found old new) where
    by : Becomes fits d ahead_next TellsNothing
        (move (act.Look (Field next 0)) (outcome.Found found) ∷ []) old.view.core old new
    by = looked d (Field next 0) found old new step

    pub ahead_client : new.view.client
        ≡ record old.view.client {
          eyes = record old.view.client.eyes { passed = nat_lt 0 step.word };
        }
    ahead_client = step.told.client

    pub ahead_leaves : Leaves old.view.core.owned old new
    ahead_leaves = leaves_all old new _ by.core (λ s has. step.told.objects s has)

    -- the nodes are seen still
    pub ahead_behind : SeesBehind first next new
    ahead_behind = behind_noted first next old new (nat_lt 0 step.word) sees
        (λ x. subst (λ l. 0 < times x l) (sym (ap (λ (v : CoreView). v.owned) by.core)))
        (λ x owns. step.told.objects x (has_owned x old owns))
        (ap (λ (v : CoreView). v.shape) by.core) ahead_client

    -- and where a node was found, the tail cell has gone on
    pub ahead_passed : IfSome found (λ more. new.view.client.eyes.passed ≡ true)
    ahead_passed =
        let is : outcome.Found found ≡ outcome.Found (slot_in step.word) = step.answers in
        subst (λ b. IfSome found (λ more. b ≡ true))
        (sym (ap (λ (v : View). v.eyes.passed) ahead_client))
        (some_word step.word found (cc (is)))

-- PASSED
module _ (fits : List ℕ → Type 0) (d : DomainState QueueLaw) (first : SlotId)
    (old : SeatState View) (sees : SeesTail first old) (passed : old.view.client.eyes.passed ≡ true)
  where
    pub passed_ready : (i : ℕ) → i ≡ d.protocol.tail
        → IsReady (PassedReady (ends_of d)) d.shape (act.Look (Cell i)) old.view
    passed_ready i is w = record {
      old = first.0;
      reads = inl (ap (λ n. plain.Look (Cell n)) is);
      held = (let some' = sees.owns in omega arith);
      seen = sees.node;
      seen_life = own_life first old (has_owned first old sees.owns) ∙ sees.life;
      passed = passed;
    }

    -- it finds another node
    pub passed_other : (new : SeatState View) (found : Option SlotId) (now : ℕ)
        → now ≡ word_of found
        → Steps fits d passed_next (PassedTells (ends_of d)) (act.Look (Cell d.protocol.tail)) old
        new (outcome.Found found)
        → now ≢ first.0 + 1
    passed_other new found now is step still =
        let by = looked d (Cell d.protocol.tail) found old new step in
        let there = looked_there d (Cell d.protocol.tail) found old new by in
        by.walks.1.told.happened.fact.2 (ap word_of there ∙ sym is ∙ still ∙ sym sees.node)
