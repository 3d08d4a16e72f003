-- What is told of makes where a piece isn't counted.
use Rattle.std.specs.Prelude.{ℕ, ◌+◌, ◌<◌, ◌≤◌, Option, Some, None}
use Rattle.control_word.specs.core_events.declared.view.CoreView.{CoreView}
use Rattle.hand_queues.specs.claim_law.Claims.{makes_given}
use Rattle.control_word.specs.acquire_retire.Domains.{DomainState}
use Rattle.hand_queues.specs.slot_store.Calls.{HasNoMake}
use Rattle.hand_queues.specs.slot_store.declared.making.MakeError.{MakeError}
use Rattle.hand_queues.specs.slot_store.declared.making.MakeError.TheVariants as unmade
use Rattle.words_protocol.specs.declared.law.WordsLaw.{WordsLaw}
use Rattle.lane_files.specs.declared.refusal.LaneError.TheVariants as untaken
use Rattle.lane_files.specs.declared.refusal.PieceError.{PieceError}
use Rattle.lane_files.specs.declared.refusal.PieceError.TheVariants as refused

-- the make or the add that was refused; none where there was no memory
abbrev pub cause_in : PieceError → Option MakeError
cause_in (refused.Interning why) = Some why
cause_in (refused.Offering why) = Some why
cause_in (refused.Taking (untaken.Refused why)) = Some why
cause_in (refused.Taking untaken.OutOfMemory) = None

-- Where a make was refused, at most n makes were used. And then the seat has none left, or the domain was given more
-- makes than it has slots.
abbrev pub LacksMake : DomainState WordsLaw → ℕ → Option MakeError → CoreView → CoreView → Type 0
LacksMake d n (Some unmade.MakesSpent) v w = (w.makes ≤ v.makes + n) × HasNoMake w
LacksMake d n (Some unmade.Full) v w =
    (w.makes ≤ v.makes + n) × (d.shape.slots < makes_given d.terms)
LacksMake d n (Some unmade.AddsSpent) v w = Unit {0}
LacksMake d n None v w = Unit {0}
