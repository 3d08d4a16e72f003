-- What stays so while a seat takes items and shuts the queue.
use Rattle.std.proofs.Common.{◌≡◌, ℕ, suc, ◌+◌, List, [], ◌∷◌, refl, sym, ap, subst, ◌∙◌, arith}
use Rattle.std.specs.Prelude.{length, slice_index_or}
use Rattle.law_lesson.specs.plain_state.declared.slot.SlotId.{SlotId}
use Rattle.domain_audit.specs.core_events.declared.view.CoreView.{CoreView}
use Rattle.domain_audit.specs.core_events.declared.view.Note.{Note}
use Rattle.domain_audit.specs.core_events.declared.view.Note.TheVariants as note
use Rattle.domain_audit.specs.core_events.Views.{note_of, snapshots, valid_of}
use Rattle.domain_audit.specs.acquire_retire.Seats.{SeatState}
use Rattle.domain_audit.specs.domain_rule.Views.{IsAlone}
use Rattle.domain_audit.specs.control_word.Resting.{IsUnderNone}
use Rattle.lane_domain.specs.text_reading.Reading.{HasTwoFree}
use Rattle.words_rest.specs.words_law.Views.{View}
use Rattle.lane_domain.specs.lane_files.Ready.{Owns}

module _ (os : List SlotId) (a b : SeatState View) (owns : Owns os a b) where
  pub alone_still : IsAlone a.view → IsAlone b.view
  alone_still alone = (
    ap (λ (v : CoreView). v.seat) owns.same ∙ alone.0,
    ap (λ (v : CoreView). length v.left_seats + 1) owns.same ∙ alone.1
        ∙ sym (ap (λ (v : CoreView). v.shape.seats) owns.same),
  )

  pub none_still : IsUnderNone a.view.core → IsUnderNone b.view.core
  none_still none = λ j. ap (λ (v : CoreView). note_of v j) owns.same ∙ none j

IsFree : Note → Type 0
IsFree note.Idle = Unit {0}
IsFree (note.Announced k s) = ⊥
IsFree (note.Valid k s) = ⊥

no_valid : (ns : List Note) → ((j : ℕ) → slice_index_or ns j note.Idle ≡ note.Idle)
    → valid_of ns ≡ []
unfolding IsFree
no_valid [] all = refl
no_valid (note.Idle ∷ ns) all = no_valid ns (λ j. all (suc j))
no_valid (note.Announced k s ∷ ns) all = no_valid ns (λ j. all (suc j))
no_valid (note.Valid k s ∷ ns) all = absurd (subst IsFree (sym (all 0)) tt)

pub no_snapshot : (v : CoreView) → IsUnderNone v → snapshots v ≡ []
no_snapshot v none = no_valid v.notes none

pub two_free : (v : CoreView) → IsUnderNone v → HasTwoFree v
two_free v none = (1, 2, omega arith, omega arith, omega arith, none 1, none 2)
