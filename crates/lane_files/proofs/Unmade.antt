-- What is told of makes where a call was refused.
use Rattle.std.proofs.Common.{◌≡◌, ℕ, ◌+◌, ◌≤◌, List, sym, ap, subst, ◌∙◌, arith}
use Rattle.std.specs.Prelude.{None, Option, Some}
use Rattle.control_word.specs.plain_state.declared.slot.SlotId.{SlotId}
use Rattle.control_word.specs.core_events.declared.view.CoreView.{CoreView}
use Rattle.control_word.specs.core_events.Runs.{IsShape}
use Rattle.control_word.specs.core_events.Views.{allowed_makes}
use Rattle.control_word.specs.acquire_retire.Calls.{IsSameView, same_view}
use Rattle.control_word.specs.acquire_retire.Domains.{DomainState}
use Rattle.control_word.specs.acquire_retire.Seats.{SeatState}
use Rattle.control_word.specs.Calls.{GainsStrong}
use Rattle.hand_queues.specs.linked_queue.Pushes.{UsesNone}
use Rattle.hand_queues.specs.slot_store.declared.making.MakeError.{MakeError}
use Rattle.hand_queues.specs.slot_store.declared.making.MakeError.TheVariants as unmade
use Rattle.words_protocol.specs.words_law.Views.{View}
use Rattle.words_protocol.specs.declared.law.WordsLaw.{WordsLaw}
use Rattle.lane_files.specs.declared.refusal.LaneError.{LaneError}
use Rattle.lane_files.specs.declared.refusal.LaneError.TheVariants as untaken
use Rattle.lane_files.specs.declared.refusal.PieceError.TheVariants as uncounted
use Rattle.lane_files.specs.PieceMakes.{LacksMake, cause_in}
use Rattle.lane_files.specs.Pieces.{IsWhyNotInterned}
use Rattle.lane_files.specs.Ready.{Owns}
use Rattle.lane_files.specs.Whys.{IsWhyNotOffered, IsWhyNotTaken, of_queue, queue_of}
use Rattle.lane_files.proofs.Missed.{more_were_given}

-- a call that draws no ticket leaves how many makes the seat may use
pub allows_same : {os : List SlotId} (a b : SeatState View) → Owns os a b
    → allowed_makes b.view.core ≡ allowed_makes a.view.core
allows_same a b owns = ap allowed_makes owns.same

-- after a call, one that was refused and made nothing, and then one that made nothing either
pub lacks_on : (d : DomainState WordsLaw) (n : ℕ) (cause : Option MakeError)
    (a b c e : SeatState View) → b.view.core.makes ≤ a.view.core.makes + n
    → LacksMake d 0 cause b.view.core c.view.core → e.view.core.makes ≡ c.view.core.makes
    → allowed_makes e.view.core ≡ allowed_makes c.view.core
    → LacksMake d n cause a.view.core e.view.core
lacks_on d n (Some unmade.MakesSpent) a b c e few lacks same allowed =
    (let l = lacks.0 in omega arith, same ∙ (lacks.1 ∙ sym allowed))
lacks_on d n (Some unmade.Full) a b c e few lacks same allowed =
    (let l = lacks.0 in omega arith, lacks.1)
lacks_on d n (Some unmade.AddsSpent) a b c e few lacks same allowed = tt
lacks_on d n None a b c e few lacks same allowed = tt

-- a take uses no make
pub take_lacks : (d : DomainState WordsLaw) (why : LaneError) (a b : SeatState View)
    (before after : List (List ℕ × ℕ)) → IsWhyNotTaken why a b before after
    → (v w : CoreView) → LacksMake d 0 (cause_in (uncounted.Taking why)) v w
take_lacks d (untaken.Refused why) a b before after not v w =
    subst (λ x. LacksMake d 0 (Some x) v w) (sym not.0) tt
take_lacks d untaken.OutOfMemory a b before after not v w = tt

-- A PUSH that was refused, of a copy that was given up then
module _ (fits : List ℕ → Type 0) (d : DomainState WordsLaw) where
  copied_shape : (s : SlotId) (a b : SeatState View)
      → GainsStrong fits d same_view IsSameView s a b → IsShape d.shape
  copied_shape s a b gains = gains.walks.1.told.happened.shape

  offer_lacks : (why : MakeError) (b c : SeatState View) → IsShape d.shape
      → IsWhyNotOffered fits d why b c → UsesNone (Some why) b.view.core c.view.core
      → allowed_makes c.view.core ≡ allowed_makes b.view.core
      → LacksMake d 0 (Some why) b.view.core c.view.core
  offer_lacks unmade.MakesSpent b c shape not none allowed =
      (omega arith, none ∙ (not ∙ sym allowed))
  offer_lacks unmade.Full b c shape not none allowed = (
    omega arith,
    more_were_given fits (queue_of d) (of_queue b) (of_queue c) (let some' = shape.2 in omega arith) not,
  )
  offer_lacks unmade.AddsSpent b c shape not none allowed = tt

  pub copy_lacks : (s : SlotId) (why : MakeError) (a b c e : SeatState View)
      → GainsStrong fits d same_view IsSameView s a b → IsWhyNotOffered fits d why b c
      → UsesNone (Some why) b.view.core c.view.core
      → allowed_makes c.view.core ≡ allowed_makes b.view.core
      → e.view.core.makes ≡ c.view.core.makes
      → allowed_makes e.view.core ≡ allowed_makes c.view.core
      → LacksMake d 0 (Some why) a.view.core e.view.core
  copy_lacks s why a b c e gains not none allowed same last =
      let none' = ap (λ (v : CoreView). v.makes) gains.core in
      lacks_on d 0 (Some why) a b c e (omega arith)
      (offer_lacks why b c (copied_shape s a b gains) not none allowed) same last

  -- AN INTERN that was refused
  pub intern_lacks : (piece : List ℕ) (n : ℕ) (why : MakeError) (a b : SeatState View)
      → IsWhyNotInterned fits d piece why a b → b.view.core.makes ≤ a.view.core.makes + n
      → LacksMake d n (cause_in (uncounted.Interning why)) a.view.core b.view.core
  intern_lacks piece n unmade.MakesSpent a b not few = (few, not.0)
  intern_lacks piece n unmade.Full a b not few = (
    few,
    more_were_given fits d not.0.mid not.0.late
        (let some' = not.1.happened.shape.2 in omega arith) not.0.misses,
  )
  intern_lacks piece n unmade.AddsSpent a b not few = tt
