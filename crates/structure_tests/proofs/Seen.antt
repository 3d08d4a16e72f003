-- A head that was seen and let go, or raised: what the seat has then.
use Rattle.std.proofs.Common.{◌≡◌, ℕ, ap, ◌∙◌, None, Some}
use Rattle.std.specs.Prelude.{Option}
use Rattle.part_calls.specs.plain_state.declared.slot.SlotId.{SlotId}
use Rattle.part_calls.specs.plain_state.Lists.{times}
use Rattle.part_calls.specs.core_events.declared.view.CoreView.{CoreView}
use Rattle.part_calls.specs.core_events.Views.{note_of}
use Rattle.part_calls.specs.acquire_retire.Seats.{SeatState}
use Rattle.part_calls.specs.control_word.Moves.{KnowsStill}
use Rattle.part_calls.specs.control_word.Resting.{IsUnderNone}
use Rattle.weak_intern.specs.directory_calls.Steps.{aside}
use Rattle.weak_intern.specs.directory_law.declared.view.View.{View}
use Rattle.weak_intern.specs.declared.seeing.Sighted.{Sighted}
use Rattle.weak_intern.specs.Sighting.{SightsBy, let_go_of}
use Rattle.weak_intern.proofs.Looked.{look_without, null_by, null_leaves}

module _ (i : ℕ) (a b : SeatState View) (found : Option Sighted)
    (sights : SightsBy i found a.view.core b.view.core) (knows : KnowsStill a.view.core a b) where
  -- the cell was null
  pub null_owned : found ≡ None → (x : SlotId)
      → times x b.view.core.owned ≡ times x a.view.core.owned
  null_owned null = (null_leaves i a b found sights knows null).owns

  pub null_under : found ≡ None → IsUnderNone a.view.core → IsUnderNone b.view.core
  null_under null none j =
      ap (λ (v : CoreView). note_of v j) (null_by i a b found sights knows null).1.core ∙ none j

  module _ (it : Sighted) (is : found ≡ Some it) (c : SeatState View) where
    -- once the head is no longer announced
    pub under_after : aside c.view.core ≡ aside (let_go_of it b.view.core)
        → IsUnderNone a.view.core → IsUnderNone c.view.core
    under_after same none j =
        ap (λ (v : CoreView). note_of v j)
        (same ∙ (look_without i a b found sights knows it is).same)
        ∙ none j

    pub owned_seen : (x : SlotId) → times x b.view.core.owned ≡ times x a.view.core.owned
    owned_seen = (look_without i a b found sights knows it is).owns

    pub owned_after : c.view.core.owned ≡ b.view.core.owned → (x : SlotId)
        → times x c.view.core.owned ≡ times x a.view.core.owned
    owned_after same x = ap (times x) same ∙ owned_seen x
