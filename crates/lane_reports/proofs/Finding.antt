-- A reference that a walk gained, and that was given up again.
use Rattle.std.proofs.Common.{◌≡◌, ℕ, ◌<◌, Bool, true, false, List, [], ◌∷◌, ◌++◌, refl, ap, sym, ◌∙◌, subst, arith}
use Rattle.std.specs.Prelude.{IfSome, Option, Some}
use Rattle.law_lesson.specs.plain_state.declared.slot.SlotId.{SlotId}
use Rattle.law_lesson.specs.plain_state.Lists.{times}
use Rattle.domain_audit.specs.core_events.declared.view.Move.{Move}
use Rattle.domain_audit.specs.core_events.Views.{without}
use Rattle.domain_audit.proofs.Below.core_law_Kit.{one_same, times_push, times_without}
use Rattle.domain_audit.specs.acquire_retire.Collecting.{ends}
use Rattle.domain_audit.specs.acquire_retire.Domains.{DomainState}
use Rattle.domain_audit.specs.acquire_retire.Seats.{SeatState}
use Rattle.domain_audit.specs.control_word.Calls.{DropsStrong, with_ended, without_strong}
use Rattle.domain_audit.specs.control_word.Moves.{KnowsStill}
use Rattle.domain_audit.proofs.Below.protected_loads_Telling.{holds_has}
use Rattle.lane_domain.specs.atomic_weak.Places.{named}
use Rattle.domain_audit.specs.counted_handles.Handles.{Handle}
use Rattle.lane_domain.specs.directory_calls.Directories.{HasQuota}
use Rattle.lane_domain.specs.directory_calls.Learning.{LearnsIn}
use Rattle.lane_domain.specs.directory_calls.Steps.{Leaves, with_found}
use Rattle.lane_domain.proofs.Below.directory_calls_Going.{holds_by, leaves_as, leaves_less, leaves_then}
use Rattle.lane_domain.proofs.Below.directory_calls_Learnt.{learns_then}
use Rattle.lane_domain.specs.weak_intern.Knowing.{KnowsRecord}
use Rattle.words_rest.specs.words_law.Views.{View}
use Rattle.lane_domain.specs.words_protocol.declared.law.WordsLaw.{WordsLaw}
use Rattle.lane_domain.proofs.Below.lane_files_Copied.{knows_on}
use Rattle.lane_reports.specs.Holders.{texts, with_texts}

gives : (e : Bool) (s : SlotId) (ms : List Move) (a b : SeatState View)
    → b.view.core ≡ record (with_ended e s (without_strong s a.view.core)) {
      trail = a.view.core.trail ++ ms;
    }
    → KnowsStill (without_strong s a.view.core) a b
    → Leaves (without s a.view.core.owned) a.view.core.weaks a b
gives true s ms a b core knows =
    leaves_less a b (with_ended true s (without_strong s a.view.core)) ms core refl
    (λ x held. knows x (holds_has (without_strong s a.view.core) x held))
gives false s ms a b core knows =
    leaves_less a b (without_strong s a.view.core) ms core refl
    (λ x held. knows x (holds_has (without_strong s a.view.core) x held))

-- a reference that is given up
pub leaves_drop : (fits : List ℕ → Type 0) (d : DomainState WordsLaw) (s : SlotId)
    (a b : SeatState View) → DropsStrong fits d s a b
    → KnowsStill (without_strong s a.view.core) a b
    → Leaves (without s a.view.core.owned) a.view.core.weaks a b
leaves_drop fits d s a b drops knows = gives (ends drops.0) s _ a b drops.1.core knows

-- one call after another that leaves what the seat owns
pub leaves_on : (a b c : SeatState View)
    → Leaves a.view.core.owned a.view.core.weaks a b → Leaves b.view.core.owned b.view.core.weaks b c
    → Leaves a.view.core.owned a.view.core.weaks a c
leaves_on a b c first second =
    leaves_as a.view.core.owned a.view.core.weaks a c
    (leaves_then a b c first second
    (λ x was is. holds_by x a.view.core b.view.core (sym first.same)
    (let o = first.owns x in let w = first.weakly x in omega arith) was))
    first.owns first.weakly

-- the reference that was gained is the seat's
pub has_one : (s : SlotId) (a m : SeatState View)
    → Leaves (a.view.core.owned ++ s ∷ []) a.view.core.weaks a m → 0 < times s m.view.core.owned
has_one s a m first =
    let p = first.owns s in let q = times_push s s a.view.core.owned in
    let r = one_same s s refl in omega arith

module _ (s : SlotId) (a m b : SeatState View)
    (first : Leaves (a.view.core.owned ++ s ∷ []) a.view.core.weaks a m)
    (second : Leaves (without s m.view.core.owned) m.view.core.weaks m b) where
  pub leaves_back : Leaves a.view.core.owned a.view.core.weaks a b
  leaves_back =
      leaves_as a.view.core.owned a.view.core.weaks a b
      (leaves_then a m b first second
      (λ x was is. holds_by x a.view.core m.view.core (sym first.same)
      (let o = first.owns x in let w = first.weakly x in
      let q = times_push x s a.view.core.owned in omega arith) was))
      (λ x. let o = first.owns x in let q = times_push x s a.view.core.owned in
      let r = times_without x s m.view.core.owned (has_one s a m first) in omega arith)
      first.weakly

  -- it knows of the record what it knew, where it owned one to the same slot before
  pub knows_back : (w : List ℕ) → b.view.client ≡ m.view.client
      → 0 < times s a.view.core.owned → KnowsRecord texts w s m → KnowsRecord texts w s b
  knows_back w same own known = (
    known.0,
    known.1,
    knows_on s known.0 m b same
        (second.knows s (let h = has_one s a m first in omega (arith, h))
        (let o = leaves_back.owns s in omega (arith, own, o)))
        known.2,
  )

-- calls by which a seat learns, one after another
pub learns_on : (u v w : View) → LearnsIn texts with_texts 0 u v → LearnsIn texts with_texts 0 v w
    → LearnsIn texts with_texts 0 u w
learns_on u v w first second = record {
  part = learns_then 0 0 u.1 v.1 w.1 first.part second.part;
  rest = second.rest ∙ ap (λ (x : View). with_texts x w.1) first.rest;
}

pub learns_same : (u v w : View) → w ≡ v → LearnsIn texts with_texts 0 u v
    → LearnsIn texts with_texts 0 u w
learns_same u v w same learns =
    subst (λ (x : View). LearnsIn texts with_texts 0 u x) (sym same) learns

pub quota_on : (v w : View) → LearnsIn texts with_texts 0 v w → HasQuota v.1 → HasQuota w.1
quota_on v w learns quota =
    let q = learns.part.quota in let u = learns.part.used in omega (arith, quota)

-- what was found, by its handle
pub gained : (a m : SeatState View) (found : Option Handle) (h : Handle) → found ≡ Some h
    → Leaves (with_found (named found) a.view.core.owned) a.view.core.weaks a m
    → Leaves (a.view.core.owned ++ h.slot ∷ []) a.view.core.weaks a m
gained a m found h is left =
    subst (λ (o : Option Handle). Leaves (with_found (named o) a.view.core.owned) a.view.core.weaks
    a m) is left

pub of_some : {A : Type 0} (P : A → Type 0) (o : Option A) (x : A) → o ≡ Some x → IfSome o P → P x
of_some P o x is so = subst (λ o. IfSome o P) is so

-- a seat knows of the record what it knew, after a call that left what it owns
pub knows_left : (s : SlotId) (w : List ℕ) (a b : SeatState View)
    → Leaves a.view.core.owned a.view.core.weaks a b → b.view.client ≡ a.view.client
    → 0 < times s a.view.core.owned → KnowsRecord texts w s a → KnowsRecord texts w s b
knows_left s w a b left same own known = (
  known.0,
  known.1,
  knows_on s known.0 a b same
      (left.knows s (omega (arith, own)) (let o = left.owns s in omega (arith, own, o)))
      known.2,
)
