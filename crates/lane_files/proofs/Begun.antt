-- A seat begins to read what it popped.
use Rattle.std.proofs.Common.{◌≡◌, inl, if◌then◌else◌, Some, None, ℕ, ◌<◌, List, [], ◌∷◌, refl, sym, ap, subst, ◌∙◌, arith}
use Rattle.control_word.specs.plain_state.declared.act.EventPlace.TheVariants.{Field}
use Rattle.control_word.specs.plain_state.declared.act.PlainAct.TheVariants as plain
use Rattle.control_word.specs.plain_state.declared.slot.SlotId.{SlotId}
use Rattle.control_word.specs.plain_state.Lists.{times}
use Rattle.control_word.specs.plain_protocol.Owns.{HasSlot, Object}
use Rattle.control_word.specs.core_events.declared.act.Act.TheVariants as act
use Rattle.control_word.specs.core_events.declared.outcome.Outcome.{Outcome}
use Rattle.control_word.specs.core_events.Shows.{show_seat}
use Rattle.control_word.specs.core_events.Steps.{HasRoom}
use Rattle.control_word.specs.domain_rule.Views.{object_in, own_of}
use Rattle.control_word.specs.acquire_retire.Calls.{Steps}
use Rattle.control_word.specs.acquire_retire.Collecting.{move}
use Rattle.control_word.specs.acquire_retire.Domains.{DomainState}
use Rattle.control_word.specs.acquire_retire.Seats.{SeatState}
use Rattle.control_word.specs.Moves.{Becomes}
use Rattle.control_word.specs.Resting.{IsAtRest}
use Rattle.control_word.proofs.Becoming.{knows_after, one_step, rest_after}
use Rattle.hand_queues.proofs.Below.protected_loads_Telling.{holds_has}
use Rattle.words_protocol.specs.queue_law.Lists.{taken_items}
use Rattle.words_protocol.specs.directory_law.declared.view.Ran.{Ran}
use Rattle.words_protocol.specs.directory_law.Cells.{Area}
use Rattle.words_protocol.specs.directory_law.Lessons.{starts_at}
use Rattle.words_protocol.specs.directory_law.Payloads.{IsHead}
use Rattle.words_protocol.specs.directory_law.Steps.{life_in, life_of, payload_in, payload_of}
use Rattle.words_protocol.specs.directory_law.Views.{In}
use Rattle.weak_intern.proofs.Below.directory_calls_Going.{leaves_core}
use Rattle.weak_intern.specs.text_reading.Reading.{begun}
use Rattle.words_protocol.specs.words_law.Reading.{BeginReady, BeginTells, begin_next}
use Rattle.words_protocol.specs.words_law.Views.{View}
use Rattle.words_protocol.specs.declared.law.WordsLaw.{WordsLaw}
use Rattle.lane_files.specs.Passed.{begins}
use Rattle.lane_files.specs.Ready.{HasPoppedIn, Owns}
use Rattle.lane_files.proofs.Scanned.{more_scans}

module _ (s : SlotId) (old : SeatState View) (owned : 0 < times s old.view.core.owned) where
  has : HasSlot (show_seat old.view.core) s
  has = holds_has old.view.core s (omega arith)

  life : life_in (own_of old.view) s ≡ (object_in old.view s).life
  life = ap (λ b. life_of (if b then Some (object_in old.view s) else None)) has

  payload : payload_in (own_of old.view) s ≡ (object_in old.view s).payload
  payload = ap (λ b. payload_of (if b then Some (object_in old.view s) else None)) has

  -- THE DEED is ready
  pub ready : HasPoppedIn s old → BeginReady (own_of old.view) old.view.client (plain.Look (Field s 1))
  ready popped = record {
    slot = s;
    looks = inl refl;
    held = omega arith;
    popped = (
      popped.0,
      subst (λ l. In (record { slot = s.0; life = l; payload = popped.0 })
          (taken_items old.view.client.0.popped)) (sym life) popped.1,
    );
  }

  module _ (fits : List ℕ → Type 0) (d : DomainState WordsLaw) (z : Area) (new : SeatState View)
      (o : Outcome) (step : Steps fits d begin_next (BeginTells z) (act.Look (Field s 1)) old new o)
    where
      by : Becomes fits d begin_next (BeginTells z) (move (act.Look (Field s 1)) o ∷ [])
          old.view.core old new
      by = one_step d (act.Look (Field s 1)) old new o step.word old.view.core step
          (sym step.answers) refl refl

      same : object_in new.view s ≡ object_in old.view s
      same = knows_after d (act.Look (Field s 1)) old new o old.view.core step (λ s has. has)
          (λ w s x. refl) s has

      started : starts_at (own_of old.view) s ≡ begun s new
      started = λ i. record {
        slot = s;
        life = (life ∙ ap (λ (x : Object). x.life) (sym same)) i;
        before = (payload ∙ ap (λ (x : Object). x.payload) (sym same)) i ∷ [];
        now = s;
        now_life = (life ∙ ap (λ (x : Object). x.life) (sym same)) i;
      }

      pub client : new.view.client ≡ begins (begun s new) old.view.client
      client = step.told.client ∙ ap (λ (e : Ran). begins e old.view.client) started

      pub head : IsHead (object_in new.view s).payload
      head =
          let told = step.told.happened.fact.2 (starts_at (own_of old.view) s)
          (ap (λ (v : View). v.1.ran) step.told.client) in
          subst IsHead (payload ∙ ap (λ (x : Object). x.payload) (sym same)) told.1.0

      pub owns_same : new.view.core.owned ≡ old.view.core.owned
      owns_same = ap (λ v. v.owned) by.core

      pub owns : Owns old.view.core.owned old new
      owns =
          let left = leaves_core old new old.view.core _ by.core refl
          (knows_after d (act.Look (Field s 1)) old new o old.view.core step (λ s has. has)
          (λ w s x. refl)) in
          record {
            strongly = left.owns;
            weakly = left.weakly;
            same = left.same;
            knows = left.knows;
            scans = more_scans old new left.goes;
          }

      pub room : HasRoom old.view.core → HasRoom new.view.core
      room is = subst HasRoom (sym by.core) is

      pub rest : IsAtRest d old → IsAtRest d new
      rest = rest_after d _ old.view.core old new by refl
