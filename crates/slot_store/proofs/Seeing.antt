-- A step that reads a payload word of a slot that the seat holds.
use Rattle.std.proofs.Common.{◌≡◌, ℕ, ◌+◌, ◌<◌, List, [], ◌∷◌, refl, ap, sym, ◌∙◌, subst, arith}
use Rattle.std.specs.Prelude.{slice_index}
use Rattle.protocol_pairs.specs.plain_state.declared.slot.PlainSlot.{PlainSlot}
use Rattle.protocol_pairs.specs.plain_state.declared.slot.SlotId.{SlotId}
use Rattle.protocol_pairs.specs.plain_state.State.{slot_at}
use Rattle.protocol_pairs.specs.plain_protocol.Owns.{Object}
use Rattle.claim_law.specs.core_events.declared.act.Act.TheVariants as act
use Rattle.claim_law.specs.core_events.declared.outcome.Outcome.{Outcome}
use Rattle.claim_law.specs.core_events.declared.outcome.Outcome.TheVariants as outcome
use Rattle.claim_law.specs.core_events.Shows.{shows}
use Rattle.claim_law.specs.core_events.Views.{Holds}
use Rattle.claim_law.specs.core_events.Words.{payload_at}
use Rattle.claim_law.proofs.Below.core_law_Each.{get_each}
use Rattle.claim_law.proofs.Below.core_law_Bridge.{shown_slot}
use Rattle.retiring_stores.specs.domain_rule.Views.{object_in}
use Rattle.retiring_stores.specs.acquire_retire.Calls.{IsSameView, Steps, same_view}
use Rattle.retiring_stores.specs.acquire_retire.Collecting.{move}
use Rattle.retiring_stores.specs.acquire_retire.Domains.{DomainState}
use Rattle.retiring_stores.specs.acquire_retire.Seats.{SeatState}
use Rattle.retiring_stores.specs.control_word.Moves.{Becomes, KnowsStill}
use Rattle.retiring_stores.specs.control_word.Resting.{IsAtRest}
use Rattle.retiring_stores.proofs.Below.control_word_Becoming.{knows_after, one_step, rest_after}
use Rattle.slot_store.specs.Calls.{SeesWord}
use Rattle.slot_store.proofs.Telling.{holds_has, slot_there}

module _ {P V : Type 0} {fits : List ℕ → Type 0} (d : DomainState P) (old new : SeatState V)
    (s : SlotId) (i n : ℕ) (below : i < 16) (held : Holds old.view.core s) where
  -- the step finds the word that the domain shows
  shown_word : (by : Becomes fits d same_view IsSameView (move (act.See s i) (outcome.Word n) ∷ [])
      old.view.core old new)
      → slice_index (slot_at (shows d.shape by.walks.1.told.happened.before) s).payload i ≡ n
  shown_word by =
      let see = by.walks.1 in
      let there = slot_there see.told s (holds_has old.view.core s held) in
      let before = see.told.happened.before in
      let at : 0 + i ≡ i = omega arith in
      ap (λ (x : PlainSlot). slice_index x.payload i) (shown_slot d.shape before s there)
      ∙ get_each 0 16 i (λ k. slice_index before.words (payload_at d.shape s k)) 0 below
      ∙ ap (λ (k : ℕ). slice_index before.words (payload_at d.shape s k)) at
      ∙ sym see.told.happened.found ∙ sym (cc (see.answers))

  pub sees : (o : Outcome) → Steps fits d same_view IsSameView (act.See s i) old new o
      → o ≡ outcome.Word n → IsAtRest d old
      → SeesWord fits d s i n old new × (n ≡ slice_index (object_in old.view s).payload i)
      × KnowsStill old.view.core old new × IsAtRest d new
  sees o step is rest = (
    record { becomes = by; word = shown_word by },
    sym (shown_word by)
        ∙ ap (λ (x : Object). slice_index x.payload i)
        (sym (by.walks.1.told.said.objects s (holds_has old.view.core s held))),
    knows_after d (act.See s i) old new o old.view.core step (λ x has. has) (λ w x it. refl),
    rest_after d (move (act.See s i) (outcome.Word n) ∷ []) old.view.core old new by refl rest,
  )
    where
      by : Becomes fits d same_view IsSameView (move (act.See s i) (outcome.Word n) ∷ [])
          old.view.core old new
      by = one_step d (act.See s i) old new (outcome.Word n) n old.view.core
          (subst (λ (x : Outcome). Steps fits d same_view IsSameView (act.See s i) old new x) is step)
          refl refl refl
