-- What a seat has found once it has protected a slot and asked about it, and what is left to it.
use Rattle.std.proofs.Common.{◌≡◌, ℕ, ◌<◌, List, [], ◌∷◌, ◌++◌, length, ap, sym, ◌∙◌, subst, arith, append_assoc}
use Rattle.std.specs.Prelude.{slice_set, Option, Some, None}
use Rattle.protected_loads.specs.plain_state.declared.act.EventPlace.{EventPlace}
use Rattle.protected_loads.specs.plain_state.declared.act.PlainAct.{PlainAct}
use Rattle.protected_loads.specs.plain_state.declared.slot.Kind.TheVariants.{Disposal}
use Rattle.protected_loads.specs.plain_state.declared.slot.SlotId.{SlotId}
use Rattle.protected_loads.specs.plain_state.State.{Plain}
use Rattle.protected_loads.specs.plain_protocol.Owns.{OwnPart}
use Rattle.protected_loads.specs.core_events.declared.outcome.Outcome.{Outcome}
use Rattle.protected_loads.specs.core_events.declared.view.CoreView.{CoreView}
use Rattle.protected_loads.specs.core_events.declared.view.Move.{Move}
use Rattle.protected_loads.specs.core_events.declared.view.Note.TheVariants as note
use Rattle.protected_loads.specs.acquire_retire.Calls.{IsSameView, same_view}
use Rattle.protected_loads.specs.acquire_retire.Collecting.{move}
use Rattle.protected_loads.specs.acquire_retire.Domains.{DomainState}
use Rattle.protected_loads.specs.acquire_retire.Seats.{SeatState}
use Rattle.protected_loads.specs.control_word.Moves.{KnowsStill}
use Rattle.protected_loads.specs.control_word.Resting.{IsAtRest}
use Rattle.protected_loads.proofs.Below.control_word_Becoming.{bare, calling, walks_table}
use Rattle.protected_loads.specs.Loads.{protected_by}
use Rattle.protected_loads.proofs.Noting.{all_settled, beside, rests_noted, rests_still}
use Rattle.atomic_weak.specs.Questions.{Answers, Asks, CanUse, FindsAlive, FindsNone, asked_by, prepared_by, with_guarded, with_none}
use Rattle.atomic_weak.specs.Taking.{Finds, FindsZero, Takes}
use Rattle.atomic_weak.specs.declared.snapshots.WeakSnap.{WeakSnap as WeakAnswer}
use Rattle.atomic_weak.specs.declared.snapshots.WeakSnap.TheVariants as answer
use Rattle.atomic_weak.proofs.Protected.{Protected, after_alive, after_none, four, has_first, has_still, has_without, protects, table_protected}

-- what a call finds, and what it leaves to its seat
pub record Leaves {P V : Type 0} (d : DomainState P) (old new : SeatState V) (T : Type 0)
    : Type 0 where
  pub found : T
  pub objects : KnowsStill old.view.core old new
  pub rest : IsAtRest d new

module _ {P V : Type 0} {fits : List ℕ → Type 0} {d : DomainState P} {place : EventPlace}
    {s : SlotId} {old mid : SeatState V} (p : Protected fits d place s old mid)
    (next : OwnPart → OwnPart → V → PlainAct → ℕ → V)
    (allows : Plain → Plain → ℕ → V → V → Type 0) (word : Option ℕ) (new : SeatState V) where
  module _ {o : Outcome} {under left : CoreView} {closing : List Move}
      (q : Asks fits d word s next allows o under left closing mid new) where
    trail_asked : q.late.view.core.trail ++ closing
        ≡ old.view.core.trail
        ++ (protected_by 0 place s
        ++ (prepared_by word s ++ move (asked_by word s) o ∷ closing))
    trail_asked =
        ap (λ (u : CoreView). u.trail ++ closing) q.asks.core
        ∙ ap (λ (u : CoreView). (u.trail ++ move (asked_by word s) o ∷ []) ++ closing)
        q.prepares.becomes.core
        ∙ append_assoc (mid.view.core.trail ++ prepared_by word s) (move (asked_by word s) o ∷ [])
        closing
        ∙ append_assoc mid.view.core.trail (prepared_by word s)
        (move (asked_by word s) o ∷ closing)
        ∙ ap (λ (u : CoreView).
        u.trail ++ (prepared_by word s ++ move (asked_by word s) o ∷ closing)) p.by.core
        ∙ append_assoc old.view.core.trail (protected_by 0 place s)
        (prepared_by word s ++ move (asked_by word s) o ∷ closing)

    core_asked : (v : CoreView) → bare left ≡ bare v → new.view.core
        ≡ record v {
          trail =
              old.view.core.trail
              ++ (protected_by 0 place s
              ++ (prepared_by word s ++ move (asked_by word s) o ∷ closing));
        }
    core_asked v after =
        q.closes.core
        ∙ ap (λ (x : CoreView). record x { trail = q.late.view.core.trail ++ closing }) after
        ∙ ap (λ (t : List Move). record v { trail = t }) trail_asked

    cleared_asked : new.view.cleared ≡ old.view.cleared
    cleared_asked =
        q.closes.cleared ∙ q.asks.cleared ∙ q.prepares.becomes.cleared ∙ p.by.cleared

    table_asked : new.table ≡ old.table
    table_asked =
        walks_table fits d same_view IsSameView closing q.late new q.closes.walks
        ∙ walks_table fits d next allows (move (asked_by word s) o ∷ []) q.mid q.late
        q.asks.walks
        ∙ walks_table fits d same_view IsSameView (prepared_by word s) mid q.mid
        q.prepares.becomes.walks
        ∙ table_protected p

  -- the seat is at rest as it was, under a snapshot more or none
  rests_alive : (w : Option ℕ) → CanUse w old.view.core → new.table ≡ old.table
      → calling new.view.core ≡ calling (with_guarded w s old.view.core) → IsAtRest d new
  rests_alive None free same is = rests_still d old new p.rest same is
  rests_alive (Some j) free same is =
      rests_noted d old new p.rest same
      (slice_set old.view.core.notes j (note.Valid Disposal s)) is
      (beside old.view.core j there (note.Valid Disposal s) 0
      (λ (e : 0 ≡ j). let less = free.0 in absurd (omega arith))
      ∙ p.rest.first)
      (all_settled old.view.core j there (note.Valid Disposal s) tt p.rest.others)
    where
      there : j < length old.view.core.notes
      there = let all = four p in let small = free.1 in omega arith

  rests_none : (w : Option ℕ) → new.table ≡ old.table
      → calling new.view.core ≡ calling (with_none w old.view.core) → IsAtRest d new
  rests_none None same is = rests_still d old new p.rest same is
  rests_none (Some j) same is = rests_still d old new p.rest same is

  takes : CanUse word old.view.core → FindsAlive fits d word s next allows mid new
      → Leaves d old new (Takes fits d place next allows word s old new)
  takes free q =
      let core = core_asked q.asks (with_guarded word s old.view.core) (after_alive p word free) in
      record {
        found = record {
          mid = mid;
          protects = protects p;
          finds = q;
          core = core;
          cleared = cleared_asked q.asks;
          object = q.knows s (has_first p) ∙ p.by.object;
        };
        objects = λ x has. q.knows x (has_still p x has) ∙ p.knows x has;
        rest = rests_alive word free (table_asked q.asks) (ap calling core);
      }

  finds_zero : FindsNone fits d word s next allows mid new
      → Leaves d old new (FindsZero fits d place next allows word old new)
  finds_zero q =
      let core = core_asked q.asks (with_none word old.view.core) (after_none p word) in record {
        found = record {
          slot = s;
          mid = mid;
          protects = protects p;
          finds = q;
          core = core;
          cleared = cleared_asked q.asks;
        };
        objects = λ x has. q.knows x (has_without p x has) ∙ p.knows x has;
        rest = rests_none word (table_asked q.asks) (ap calling core);
      }

  -- what the seat found, by what it answered
  pub finds : CanUse word old.view.core → (a : WeakAnswer)
      → Answers fits d word s next allows a mid new
      → Leaves d old new (Finds fits d place next allows word a old new)
  finds free answer.Null q = absurd q
  finds free answer.Zero q = finds_zero q
  finds free (answer.Held snap) q =
      let leaves = takes free q.2 in record {
        found = (
          q.1,
          subst (λ (x : SlotId). Takes fits d place next allows word x old new) (sym q.0)
              leaves.found,
        );
        objects = leaves.objects;
        rest = leaves.rest;
      }
