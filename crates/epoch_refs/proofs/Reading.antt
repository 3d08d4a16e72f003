-- A payload word that is read is that of the object which the seat knows.
use Rattle.std.proofs.Common.{◌≡◌, ℕ, ◌+◌, ◌<◌, List, ap, sym, ◌∙◌, subst, arith}
use Rattle.std.specs.Prelude.{slice_index}
use Rattle.std.proofs.lemmas.List.{set-get_or}
use Rattle.epoch_domain.proofs.Below.core_law_Each.{get_each}
use Rattle.epoch_domain.proofs.Below.epoch_core_Bridge.{shown_slot}
use Rattle.epoch_domain.proofs.Below.epoch_core_Keeps.{history_sound}
use Rattle.epoch_domain.proofs.Below.epoch_rule_Others.{has_there}
use Rattle.epoch_domain.specs.plain_protocol.plain_state.declared.slot.PlainSlot.{PlainSlot}
use Rattle.epoch_domain.specs.plain_protocol.plain_state.declared.slot.SlotId.{SlotId}
use Rattle.epoch_domain.specs.plain_protocol.Owns.{HasSlot, Object}
use Rattle.epoch_domain.specs.epoch_core.declared.act.EpochAct.TheVariants as act
use Rattle.epoch_domain.specs.epoch_core.declared.outcome.EpochOutcome.{EpochOutcome}
use Rattle.epoch_domain.specs.epoch_core.declared.outcome.EpochOutcome.TheVariants as outcome
use Rattle.epoch_domain.specs.epoch_core.declared.view.EpochView.{EpochView}
use Rattle.epoch_domain.specs.epoch_core.Runs.{Core, after}
use Rattle.epoch_domain.specs.epoch_core.Shows.{show_seat, show_slot}
use Rattle.epoch_domain.specs.epoch_core.Words.{payload_at}
use Rattle.epoch_domain.specs.epoch_rule.Views.{object_in}
use Rattle.epoch_domain.specs.Calls.{IsSameView, Steps, same_view}
use Rattle.epoch_domain.specs.Domains.{DomainState}
use Rattle.epoch_domain.specs.Seats.{SeatState}

word_in : (w x : ℕ) → ◌≡◌ {A = EpochOutcome} (outcome.Word w) (outcome.Word x) → w ≡ x
word_in w x is = cc (is)

module _ {P V : Type 0} (fits : List ℕ → Type 0) (d : DomainState P) (s : SlotId) (i w : ℕ)
    (old new : SeatState V)
    (step : Steps fits d same_view IsSameView (act.See s i) old new (outcome.Word w))
    (has : HasSlot (show_seat old.view.core) s) (low : i < 16) where
  abbrev c : Core
  c = step.told.happened.before

  abbrev then_core : Core
  then_core = after d.shape c old.view.core.seat (act.See s i)

  words_same : then_core.words ≡ c.words
  words_same = set-get_or c.words (payload_at d.shape s i) 0

  there : s.0 < d.shape.slots
  there =
      let h = step.told.happened in
      let so = history_sound d.shape d.quotas h.events h.before h.shape h.quotas h.history in
      let views = so.views in
      let inside = h.enabled.0 in
      has_there d.shape c so old.view.core.seat s (omega (arith, views, inside))
      (subst (λ (v : EpochView). HasSlot (show_seat v) s) h.view has)

  still : HasSlot (show_seat new.view.core) s
  still = subst (λ (v : EpochView). HasSlot (show_seat v) s) (sym step.told.core) has

  shown : (object_in new.view s).payload
      ≡ (show_slot d.shape then_core s).payload
  shown = ap (λ (o : Object). o.payload)
      (step.told.says.objects s still)
      ∙ ap (λ (x : PlainSlot). x.payload) (shown_slot d.shape then_core s there)

  pub read_made : w ≡ slice_index (object_in new.view s).payload i
  read_made =
      let number : 0 + i ≡ i = omega arith in
      word_in w step.word step.answers
      ∙ (step.told.happened.found
      ∙ (ap (λ (ws : List ℕ). slice_index ws (payload_at d.shape s i)) (sym words_same)
      ∙ (ap (λ (j : ℕ). slice_index then_core.words (payload_at d.shape s j)) (sym number)
      ∙ (sym (get_each 0 16 i (λ j. slice_index then_core.words (payload_at d.shape s j)) 0 low)
      ∙ ap (λ (p : List ℕ). slice_index p i) (sym shown)))))
