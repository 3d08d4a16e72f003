-- A question by an add: that the seat may make its steps, and what they come to.
use Rattle.std.proofs.Common.{ℕ, ◌<◌, List, [], ◌∷◌, ◌++◌, refl, sym, ◌∙◌, arith}
use Rattle.std.specs.Prelude.{None}
use Rattle.std.proofs.lemmas.Bool.Decides.{nat_tests}
use Rattle.protected_loads.specs.plain_state.declared.act.PlainAct.{PlainAct}
use Rattle.protected_loads.specs.plain_state.declared.slot.Kind.TheVariants.{Weak}
use Rattle.protected_loads.specs.plain_state.declared.slot.SlotId.{SlotId}
use Rattle.protected_loads.specs.plain_state.State.{Plain}
use Rattle.protected_loads.specs.plain_protocol.Owns.{HasSlot, OwnPart}
use Rattle.protected_loads.specs.counter_word.Words.{ZERO}
use Rattle.protected_loads.specs.core_events.declared.act.Act.TheVariants as act
use Rattle.protected_loads.specs.core_events.declared.outcome.Outcome.{Outcome}
use Rattle.protected_loads.specs.core_events.declared.outcome.Outcome.TheVariants as outcome
use Rattle.protected_loads.specs.core_events.declared.view.CoreView.{CoreView}
use Rattle.protected_loads.specs.core_events.Shows.{show_seat}
use Rattle.protected_loads.specs.core_events.Steps.{IsIdle}
use Rattle.protected_loads.specs.core_events.Views.{Holds}
use Rattle.protected_loads.proofs.Below.core_law_Kit.{times_push}
use Rattle.protected_loads.specs.acquire_retire.Calls.{IsSameView, Steps, same_view}
use Rattle.protected_loads.specs.acquire_retire.Collecting.{move}
use Rattle.protected_loads.specs.acquire_retire.Domains.{DomainState}
use Rattle.protected_loads.specs.acquire_retire.Seats.{SeatState}
use Rattle.protected_loads.specs.control_word.Calls.{with_add, with_strong}
use Rattle.protected_loads.specs.control_word.Moves.{Becomes, KnowsStill}
use Rattle.protected_loads.proofs.Below.control_word_Becoming.{Comes, knows_after, one_step}
use Rattle.protected_loads.proofs.Below.control_word_Finding.{flagged, strong_word}
use Rattle.atomic_weak.specs.Questions.{CanAsk, FindsAlive, FindsNone, closed_by, without_first}
use Rattle.atomic_weak.proofs.Telling.{prepared_none, up_below}
use Rattle.atomic_weak.proofs.Noted.{has_released, holds_weak}
use Rattle.atomic_weak.proofs.Releasing.{releases}

-- a seat that owns a reference more has the slots that it had
has_more : (v : CoreView) (s x : SlotId) → HasSlot (show_seat v) x
    → HasSlot (show_seat (with_strong s v)) x
has_more v s x has = let more = times_push x s v.owned in grind (arith, nat_tests)

module _ {P V : Type 0} (d : DomainState P) (s : SlotId) (old : SeatState V)
    (may : CanAsk d.shape None s old.view.core) where
  abbrev mine : CoreView
  mine = old.view.core

  pub may_add : IsIdle mine × (mine.adds < mine.quota.adds) × Holds mine s
  may_add = (may.idle, may.means, holds_weak mine 0 s may.first)

  module _ {fits : List ℕ → Type 0} {next : OwnPart → OwnPart → V → PlainAct → ℕ → V}
      {allows : Plain → Plain → ℕ → V → V → Type 0} (late : SeatState V) where
    -- the object lives
    module _ (add : Steps fits d next allows (act.Add s) old late outcome.Up) where
      asks_up : Becomes fits d next allows (move (act.Add s) outcome.Up ∷ []) (with_strong s mine)
          old late
      asks_up =
          one_step d (act.Add s) old late outcome.Up 0 (with_strong s mine) add refl refl refl

      knows_up : KnowsStill mine old late
      knows_up =
          knows_after d (act.Add s) old late outcome.Up mine add (λ x has. has) (λ w x it. refl)

      pub finds_alive : (new : SeatState V) (p : Outcome)
          → Steps fits d same_view IsSameView (act.Release 0) late new p
          → FindsAlive fits d None s next allows old new
      finds_alive new p release = record {
        asks = record {
          mid = old;
          prepares = prepared_none d s old;
          late = late;
          asks = asks_up;
          closes = closes.by;
          client = closes.client;
        };
        lives = up_below asks_up.walks.1.word asks_up.walks.1.answers;
        knows = λ x has. closes.knows x has ∙ knows_up x has;
      }
        where
          closes : Comes fits d (move (act.Release 0) outcome.Plain ∷ [])
              (without_first (with_strong s mine)) mine late new
          closes =
              releases d 0 (with_strong s mine) (without_first (with_strong s mine)) mine late new
              (mine.trail ++ move (act.Add s) outcome.Up ∷ []) asks_up.core refl
              (has_more mine s) p release

    -- no strong reference is left
    module _ (add : Steps fits d next allows (act.Add s) old late outcome.Dead) where
      asks_dead : Becomes fits d next allows (move (act.Add s) outcome.Dead ∷ []) (with_add mine)
          old late
      asks_dead =
          one_step d (act.Add s) old late outcome.Dead ZERO (with_add mine) add refl refl refl

      has_left : (x : SlotId) → HasSlot (show_seat (without_first mine)) x
          → HasSlot (show_seat mine) x
      has_left x has = has_released mine 0 Weak s x may.first has

      knows_dead : KnowsStill (without_first mine) old late
      knows_dead =
          knows_after d (act.Add s) old late outcome.Dead (without_first mine) add has_left
          (λ w x it. refl)

      pub finds_none : (new : SeatState V) (p : Outcome)
          → Steps fits d same_view IsSameView (act.Release 0) late new p
          → FindsNone fits d None s next allows old new
      finds_none new p release = record {
        asks = record {
          mid = old;
          prepares = prepared_none d s old;
          late = late;
          asks = asks_dead;
          closes = closes.by;
          client = closes.client;
        };
        none =
            let told = asks_dead.walks.1.told in
            (flagged asks_dead.walks.1.word _
            (strong_word told s (holds_weak mine 0 s may.first) told.happened.found)
            (sym asks_dead.walks.1.answers)).1;
        knows = λ x has. closes.knows x has ∙ knows_dead x has;
      }
        where
          closes : Comes fits d (closed_by None) (without_first (with_add mine))
              (without_first mine) late new
          closes =
              releases d 0 (with_add mine) (without_first (with_add mine)) (without_first mine)
              late new (mine.trail ++ move (act.Add s) outcome.Dead ∷ []) asks_dead.core refl
              has_left p release
