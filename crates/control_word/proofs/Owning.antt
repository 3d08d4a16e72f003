-- How many references to a slot a seat owns after a call, for the proofs of tests.
use Rattle.std.proofs.Common.{◌≡◌, ℕ, zero, suc, ◌+◌, ◌<◌, ◌≤◌, Bool, true, false, List, [], ◌∷◌, ◌++◌, refl, ap, sym, ◌∙◌, subst, arith}
use Rattle.std.specs.Prelude.{slice_index_or}
use Rattle.counted_handles.specs.plain_state.declared.act.PlainAct.{PlainAct}
use Rattle.counted_handles.specs.plain_state.declared.slot.SlotId.{SlotId}
use Rattle.counted_handles.specs.plain_state.Lists.{times}
use Rattle.counted_handles.specs.plain_state.State.{Plain}
use Rattle.acquire_retire.specs.plain_protocol.Owns.{OwnPart}
use Rattle.acquire_retire.specs.core_events.declared.act.Act.TheVariants as act
use Rattle.acquire_retire.specs.core_events.declared.outcome.Outcome.{Outcome}
use Rattle.acquire_retire.specs.core_events.declared.outcome.Outcome.TheVariants as outcome
use Rattle.acquire_retire.specs.core_events.declared.view.CoreView.{CoreView}
use Rattle.acquire_retire.specs.core_events.declared.view.Move.{Move}
use Rattle.acquire_retire.specs.core_events.declared.view.Note.TheVariants as note
use Rattle.acquire_retire.specs.core_events.Steps.{moved}
use Rattle.acquire_retire.specs.core_events.Views.{first_view, no_notes, note_of}
use Rattle.acquire_retire.proofs.Below.core_law_Kit.{one_same, times_cons, times_none, times_push, times_without}
use Rattle.acquire_retire.specs.Calls.{IsSameView, Steps, same_view}
use Rattle.acquire_retire.specs.Collecting.{ends}
use Rattle.acquire_retire.specs.Domains.{DomainState}
use Rattle.acquire_retire.specs.Seats.{SeatState}
use Rattle.control_word.specs.Calls.{DropsStrong, DropsWeak, with_ended, with_strong, with_weak, without_strong}
use Rattle.control_word.specs.Moves.{Becomes}
use Rattle.control_word.specs.Resting.{IsSettled}
use Rattle.control_word.specs.Trials.{HasBegun, IsFresh, Owns}
use Rattle.control_word.proofs.Becoming.{core_after}

-- the slot of a domain that has one
abbrev pub slot0 : SlotId
slot0 = record { 0 = 0 }

-- a handle of the slot is one of a reference that the seat owns
pub some_strong : {V : Type 0} {s t : SlotId} (n m : ℕ) (seat : SeatState V) → t ≡ s
    → Owns s (n + 1) m seat → 0 < times t seat.view.core.owned
some_strong {t = t} n m seat same owns =
    subst (λ (x : SlotId). 0 < times x seat.view.core.owned) (sym same) (omega (arith, owns.strong))

pub some_weak : {V : Type 0} {s t : SlotId} (n m : ℕ) (seat : SeatState V) → t ≡ s
    → Owns s n (m + 1) seat → 0 < times t seat.view.core.weaks
some_weak {t = t} n m seat same owns =
    subst (λ (x : SlotId). 0 < times x seat.view.core.weaks) (sym same) (omega (arith, owns.weak))

-- the same of another name of the slot
pub renamed : {V : Type 0} {s t : SlotId} (n m : ℕ) (seat : SeatState V) → t ≡ s → Owns s n m seat
    → Owns t n m seat
renamed n m seat same owns = subst (λ (x : SlotId). Owns x n m seat) (sym same) owns

-- a seat that is as it was owns what it owned
pub unchanged : {V : Type 0} {s : SlotId} (n m : ℕ) {old new : SeatState V} → new ≡ old
    → Owns s n m old → Owns s n m new
unchanged {s = s} n m same owns = subst (Owns s n m) (sym same) owns

-- what comes last in a list stands in it
pub some_more : (s t : SlotId) → t ≡ s → (xs ys : List SlotId) → ys ≡ xs ++ s ∷ [] → 0 < times t ys
some_more s t same xs ys is =
    let more = times_push t s xs in
    let one = one_same t s (ap (λ (x : SlotId). x.0) (sym same)) in
    let list = ap (times t) is in omega arith

-- and of no slot are there fewer then
pub more_owned : (x s : SlotId) (xs ys : List SlotId) → ys ≡ xs ++ s ∷ [] → times x xs ≤ times x ys
more_owned x s xs ys is =
    let more = times_push x s xs in
    let list = ap (times x) is in omega arith

module _ {P V : Type 0} {fits : List ℕ → Type 0} {d : DomainState P}
    {next : OwnPart → OwnPart → V → PlainAct → ℕ → V}
    {allows : Plain → Plain → ℕ → V → V → Type 0} {ms : List Move} {old new : SeatState V}
    (s : SlotId) (n m : ℕ) (owns : Owns s n m old) where
  pub one_strong_more : Becomes fits d next allows ms (with_strong s old.view.core) old new
      → Owns s (n + 1) m new
  one_strong_more by = record {
    strong =
        let more = times_push s s old.view.core.owned in
        let one = one_same s s refl in
        ap (λ (v : CoreView). times s v.owned) by.core ∙ omega (arith, owns.strong);
    weak = ap (λ (v : CoreView). times s v.weaks) by.core ∙ owns.weak;
  }

  pub one_weak_more : Becomes fits d next allows ms (with_weak s old.view.core) old new
      → Owns s n (m + 1) new
  one_weak_more by = record {
    strong = ap (λ (v : CoreView). times s v.owned) by.core ∙ owns.strong;
    weak =
        let more = times_push s s old.view.core.weaks in
        let one = one_same s s refl in
        ap (λ (v : CoreView). times s v.weaks) by.core ∙ omega (arith, owns.weak);
  }

  pub no_more : Becomes fits d next allows ms old.view.core old new → Owns s n m new
  no_more by = record {
    strong = ap (λ (v : CoreView). times s v.owned) by.core ∙ owns.strong;
    weak = ap (λ (v : CoreView). times s v.weaks) by.core ∙ owns.weak;
  }

with_ended_lists : (b : Bool) (s : SlotId) (v : CoreView)
    → ((with_ended b s v).owned ≡ v.owned) × ((with_ended b s v).weaks ≡ v.weaks)
with_ended_lists true s v = (refl, refl)
with_ended_lists false s v = (refl, refl)

module _ {P V : Type 0} {fits : List ℕ → Type 0} {d : DomainState P} {old new : SeatState V}
    (s : SlotId) (n m : ℕ) where
  pub one_strong_fewer : Owns s (n + 1) m old → DropsStrong fits d s old new → Owns s n m new
  one_strong_fewer owns drops =
      let by = drops.1 in
      let lists = with_ended_lists (ends drops.0) s (without_strong s old.view.core) in
      record {
        strong =
            let fewer = times_without s s old.view.core.owned (omega (arith, owns.strong)) in
            let one = one_same s s refl in
            ap (λ (v : CoreView). times s v.owned) by.core ∙ ap (times s) lists.0
            ∙ omega (arith, owns.strong);
        weak =
            ap (λ (v : CoreView). times s v.weaks) by.core ∙ ap (times s) lists.1 ∙ owns.weak;
      }

  pub one_weak_fewer : Owns s n (m + 1) old → DropsWeak fits d s old new → Owns s n m new
  one_weak_fewer owns drops = record {
    strong = ap (λ (v : CoreView). times s v.owned) drops.1.core ∙ owns.strong;
    weak =
        let fewer = times_without s s old.view.core.weaks (omega (arith, owns.weak)) in
        let one = one_same s s refl in
        ap (λ (v : CoreView). times s v.weaks) drops.1.core ∙ omega (arith, owns.weak);
  }

module _ {P V : Type 0} {fits : List ℕ → Type 0} (d : DomainState P)
    {next : OwnPart → OwnPart → V → PlainAct → ℕ → V}
    {allows : Plain → Plain → ℕ → V → V → Type 0} (adds : ℕ) where
  -- a seat that claims the slot, arms it and starts it, as its first steps, has begun
  pub makes : (s : SlotId) (a b c e : SeatState V) (o p q : Outcome) → s ≡ slot0 → IsFresh d adds a
      → Steps fits d same_view IsSameView (act.Claim slot0) a b o → o ≡ outcome.Claimed
      → Steps fits d same_view IsSameView act.Arm b c p → Steps fits d next allows act.Start c e q
      → HasBegun d s e
  makes s a b c e o p q same fresh claim claimed arm start = (
    record {
      of_domain = (
        start.table ∙ arm.table ∙ claim.table ∙ fresh.1,
        ap (λ (v : CoreView). v.shape) is,
      );
      idle = (ap (λ (v : CoreView). v.phase) is, ap (λ (v : CoreView). v.left) is);
      owes_nothing = ap (λ (v : CoreView). v.owed) is;
      first = ap (λ (v : CoreView). note_of v 0) is;
      others = λ j. subst IsSettled (sym (ap (λ (v : CoreView). note_of v j) is)) (idle_note j);
    },
    renamed 1 0 e same
        (record {
          strong =
              let none = times_none slot0 in
              let more = times_cons slot0 slot0 [] in
              let one = one_same slot0 slot0 refl in
              ap (λ (v : CoreView). times slot0 v.owned) is ∙ omega arith;
          weak = ap (λ (v : CoreView). times slot0 v.weaks) is ∙ times_none slot0;
        }),
  )
    where
      is : e.view.core
          ≡ moved d.shape act.Start 0
          (moved d.shape act.Arm 0
          (moved d.shape (act.Claim slot0) 1
          (first_view d.shape 0 (record { makes = 1; adds = adds }) [])))
      is =
          core_after d act.Start c e q 0 start (sym start.answers)
          ∙ ap (moved d.shape act.Start 0)
          (core_after d act.Arm b c p 0 arm (sym arm.answers)
          ∙ ap (moved d.shape act.Arm 0)
          (core_after d (act.Claim slot0) a b o 1 claim (sym claimed)
          ∙ ap (moved d.shape (act.Claim slot0) 1) fresh.2))

      idle_note : (j : ℕ) → IsSettled (slice_index_or no_notes j note.Idle)
      idle_note zero = tt
      idle_note (suc zero) = tt
      idle_note (suc (suc zero)) = tt
      idle_note (suc (suc (suc zero))) = tt
      idle_note (suc (suc (suc (suc j)))) = tt
