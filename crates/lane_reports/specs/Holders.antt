-- A seat that is alone, and how many references it counts.
use Rattle.std.specs.Prelude.{◌≡◌, ◌<◌, ◌↔◌, Bool, true, false, ℕ, List, slice_index_or, Some}
use Rattle.law_lesson.specs.plain_state.declared.slot.SlotId.{SlotId}
use Rattle.law_lesson.specs.plain_state.Lists.{times}
use Rattle.law_lesson.specs.plain_state.References.{strong_refs}
use Rattle.law_lesson.specs.plain_state.State.{Plain}
use Rattle.domain_audit.specs.core_events.Steps.{HasRoom}
use Rattle.domain_audit.specs.counted_handles.Handles.{Handle}
use Rattle.domain_audit.specs.domain_rule.Views.{IsAlone, own_of}
use Rattle.domain_audit.specs.acquire_retire.Domains.{DomainState}
use Rattle.domain_audit.specs.acquire_retire.Seats.{SeatState}
use Rattle.domain_audit.specs.control_word.Resting.{IsAtRest}
use Rattle.lane_domain.specs.directory_calls.Directories.{HasQuota, IsOver}
use Rattle.words_rest.specs.directory_law.declared.view.View.{View as DirectoryView}
use Rattle.lane_domain.specs.lane_files.Keeping.{slots_of}
use Rattle.lane_domain.specs.text_reading.Reading.{HasTwoFree}
use Rattle.lane_domain.specs.lane_files.declared.shared.Shared.{Shared}
use Rattle.words_rest.specs.words_law.Law.{WordsLaw as Law}
use Rattle.words_rest.specs.words_law.Views.{View}
use Rattle.lane_domain.specs.words_protocol.declared.law.WordsLaw.{WordsLaw}
use Rattle.lane_domain.specs.words_protocol.Sides.{area_of, ends_of}

-- the mark of this slot stands
abbrev pub has : List Bool → SlotId → Bool
has held s = slice_index_or held s.0 false

-- of the slots of these references, and of no other, this is so
abbrev pub AreSlotsOf : List Handle → (SlotId → Bool) → Type 0
AreSlotsOf kept is_held =
    (s : SlotId) → (is_held s ≡ true) ↔ (0 < times s (slots_of kept))

-- of each of these slots the seat owns a reference
abbrev pub OwnsEach : (SlotId → Bool) → SeatState View → Type 0
OwnsEach is_held seat = (s : SlotId) → is_held s ≡ true → 0 < times s seat.view.core.owned

-- what a seat knows of the directory, and how that changes
abbrev pub texts : View → DirectoryView
texts v = v.1

abbrev pub with_texts : View → DirectoryView → View
with_texts v w = (v.0, w)

-- The seat is alone in a domain with this directory, at rest, with room for a batch, and two of its announcement words
-- stand for nothing.
pub record IsRoot (d : DomainState WordsLaw) (on : Shared) (seat : SeatState View) : Type 0 where
  pub rest : IsAtRest d seat
  pub room : HasRoom seat.view.core
  pub over : IsOver d d.protocol.pair.right on.directory
  pub quota : HasQuota seat.view.client.1
  pub free : HasTwoFree seat.view.core
  pub alone : IsAlone seat.view

-- the law of the domain's protocol
abbrev pub law_of : DomainState WordsLaw → Plain → List View → Type 0
law_of d = Law (ends_of d.protocol.pair.left) (area_of d.protocol.pair.right)

-- there are n strong references to s in the whole state, where the seat knows it
abbrev pub IsCount : SlotId → ℕ → SeatState View → Type 0
IsCount s n seat = (p : Plain) → (own_of seat.view).whole ≡ Some p → n ≡ strong_refs p s
