-- What a step on the word of tickets with the deed DrawTicket asks, and what it leaves.
use Rattle.std.proofs.Common.{◌≡◌, ℕ, ◌+◌, List, [], ◌∷◌, ◌++◌, refl, sym, subst}
use Rattle.atomic_weak.specs.plain_state.declared.act.PlainAct.{PlainAct}
use Rattle.atomic_weak.specs.plain_state.declared.act.PlainAct.TheVariants as plain
use Rattle.atomic_weak.specs.plain_protocol.Owns.{OwnPart}
use Rattle.record_making.specs.protocol_pairs.Parts.{Accepts}
use Rattle.atomic_weak.specs.core_events.declared.act.Act.TheVariants as act
use Rattle.atomic_weak.specs.core_events.declared.outcome.Outcome.{Outcome}
use Rattle.atomic_weak.specs.core_events.declared.outcome.Outcome.TheVariants as outcome
use Rattle.atomic_weak.specs.core_events.declared.view.CoreView.{CoreView}
use Rattle.atomic_weak.specs.acquire_retire.Calls.{IsReady, Steps}
use Rattle.atomic_weak.specs.acquire_retire.Domains.{DomainState}
use Rattle.atomic_weak.specs.acquire_retire.Seats.{SeatState}
use Rattle.atomic_weak.specs.control_word.Resting.{IsAtRest}
use Rattle.atomic_weak.proofs.Below.control_word_Becoming.{knows_after, one_step, rest_after}
use Rattle.atomic_weak.proofs.Below.protected_loads_Telling.{holds_has}
use Rattle.record_making.specs.directory_law.declared.view.View.{View}
use Rattle.record_making.specs.directory_law.Cells.{Area}
use Rattle.record_making.specs.directory_law.Lessons.{DrawReady, DrawTells, draw_next, drawn}
use Rattle.record_making.specs.directory_protocol.Keeping.{MindsNone}
use Rattle.record_making.proofs.Below.directory_calls_Parts.{Place, lifts, tells}
use Rattle.weak_intern.specs.Drawing.{Draws}

module _ {P V : Type 0} (fits : List ℕ → Type 0) (d : DomainState P) (l : Place V) (z : Area)
    (old : SeatState V) where
  pub draw_ready : (free : OwnPart → PlainAct → Type 0) (suits : V → View → Type 0)
      → ((own : OwnPart) → free own plain.Ticket) → MindsNone suits l.seen
      → IsReady (λ own v a. DrawReady own (l.seen v) a × free own a
      × Accepts suits (draw_next z) l.seen own v a) d.shape act.Ticket old.view
  draw_ready free suits frees minds w = (
    refl,
    frees _,
    λ after n. minds old.view.client (drawn z (l.seen old.view.client) n) (λ e in'. in'),
  )

  module _ (new : SeatState V) (o : Outcome)
      (step : Steps fits d (lifts l (draw_next z)) (tells l (DrawTells z)) act.Ticket old new o)
    where
      abbrev after_draw : CoreView
      after_draw = record old.view.core {
        adds = old.view.core.adds + 1;
        tickets = old.view.core.tickets ++ step.word ∷ [];
      }

      pub draw_rest : IsAtRest d old → IsAtRest d new
      draw_rest rest =
          rest_after d _ after_draw old new
          (one_step d act.Ticket old new o step.word after_draw step (sym step.answers) refl refl)
          refl rest

      pub draw_draws : (t : ℕ) → ((n : ℕ) → o ≡ outcome.Number n → t ≡ n)
          → Draws l.seen l.with_seen z t old new
      draw_draws t answered =
          subst (λ n. Draws l.seen l.with_seen z n old new)
          (sym (answered step.word step.answers))
          (record {
            moves = _;
            core = (one_step d act.Ticket old new o step.word after_draw step (sym step.answers)
                refl refl).core;
            client = step.told.client;
            knows = λ x held.
                knows_after d act.Ticket old new o old.view.core step (λ s has. has)
                (λ w s y. refl) x (holds_has old.view.core x held);
          })
