-- What calls leave of a seat that counts words.
use Rattle.std.proofs.Common.{◌≡◌, ◌⊎◌, inl, ⊎_elim, ℕ, ◌+◌, ◌<◌, ◌≤◌, Bool, true, false, List, [], ◌∷◌, ◌++◌, refl, sym, ap, subst, ◌∙◌, arith}
use Rattle.control_word.specs.plain_state.declared.slot.SlotId.{SlotId}
use Rattle.control_word.specs.plain_state.Lists.{times}
use Rattle.control_word.specs.core_events.declared.view.CoreView.{CoreView}
use Rattle.control_word.specs.core_events.declared.view.Move.{Move}
use Rattle.control_word.specs.core_events.Steps.{HasRoom}
use Rattle.control_word.specs.core_events.Views.{Holds, without}
use Rattle.control_word.proofs.Below.core_law_Kit.{one_same, times_push, times_without}
use Rattle.control_word.specs.acquire_retire.Domains.{DomainState}
use Rattle.control_word.specs.acquire_retire.Seats.{SeatState}
use Rattle.control_word.specs.acquire_retire.Collecting.{ends}
use Rattle.control_word.specs.Calls.{DropsStrong, with_ended, without_strong}
use Rattle.control_word.specs.Moves.{KnowsStill}
use Rattle.control_word.specs.Resting.{IsAtRest, IsSpent}
use Rattle.hand_queues.proofs.Below.protected_loads_Telling.{holds_has}
use Rattle.weak_intern.specs.directory_calls.Directories.{HasQuota}
use Rattle.weak_intern.specs.directory_calls.Steps.{Leaves}
use Rattle.weak_intern.proofs.Below.directory_calls_Going.{holds_by, leaves_less}
use Rattle.weak_intern.specs.text_reading.Reading.{HasTwoFree}
use Rattle.hand_queues.specs.linked_queue.Leaving as queue
use Rattle.hand_queues.specs.double_link_queue.Leaving.{LeavesBoth}
use Rattle.hand_queues.specs.linked_queue.Queues.{IsAttached}
use Rattle.hand_queues.specs.part_calls.Parts.{seen_by}
use Rattle.words_protocol.specs.directory_law.declared.view.View.{View as DirectoryView}
use Rattle.words_protocol.specs.words_law.Views.{View}
use Rattle.words_protocol.specs.declared.law.WordsLaw.{WordsLaw}
use Rattle.lane_files.specs.Passed.{UsesInterns}
use Rattle.lane_files.specs.Ready.{IsReady, Owns, Shared}
use Rattle.lane_files.proofs.Scanned.{more_scans}

pub owns_none : (a : SeatState View) → Owns a.view.core.owned a a
owns_none a = record {
  strongly = λ x. refl;
  weakly = λ x. refl;
  same = refl;
  knows = λ x was is. refl;
  scans = omega arith;
}

-- by what a call of a directory leaves, and a call of a queue
pub owns_by : {os : List SlotId} (a b : SeatState View) → Leaves os a.view.core.weaks a b → Owns os a b
owns_by a b left = record {
  strongly = left.owns;
  weakly = left.weakly;
  same = left.same;
  knows = left.knows;
  scans = more_scans a b left.goes;
}

pub owns_queue : {os : List SlotId} (a b : SeatState View)
    → queue.Leaves os (seen_by (λ (v : View). v.0) a) (seen_by (λ (v : View). v.0) b) → Owns os a b
owns_queue a b left = record {
  strongly = left.owns;
  weakly = λ x. ap (λ (v : CoreView). times x v.weaks) left.same;
  same = ap (λ (v : CoreView). record v { weaks = [] }) left.same;
  knows = left.knows;
  scans = more_scans a b left.trail;
}

pub owns_both : {os : List SlotId} (a b : SeatState View)
    → LeavesBoth os a.view.core.weaks (seen_by (λ (v : View). v.0) a) (seen_by (λ (v : View). v.0) b)
    → Owns os a b
owns_both a b left = record {
  strongly = left.owns;
  weakly = left.weakly;
  same = left.same;
  knows = left.knows;
  scans = more_scans a b left.trail;
}

-- one call after another, between which the seat holds all that it holds before and after both
pub owns_then : {os xs : List SlotId} (a b c : SeatState View) → Owns os a b → Owns xs b c
    → ((x : SlotId) → times x a.view.core.owned ≤ times x b.view.core.owned
    ⊎ times x c.view.core.owned ≤ times x b.view.core.owned)
    → Owns xs a c
owns_then a b c first second more = record {
  strongly = second.strongly;
  weakly = λ x. second.weakly x ∙ first.weakly x;
  same = second.same ∙ first.same;
  knows = λ x was is.
      let at = holds x was is in second.knows x at is ∙ first.knows x was at;
  scans = let p = first.scans in let q = second.scans in omega arith;
}
  where
    holds : (x : SlotId) → Holds a.view.core x → Holds c.view.core x → Holds b.view.core x
    holds x was is = ⊎_elim
        (λ less. let w = first.weakly x in
        holds_by x a.view.core b.view.core (sym first.same) (omega arith) was)
        (λ less. let w = second.weakly x in
        holds_by x c.view.core b.view.core second.same (omega arith) is)
        (more x)

-- a reference that was given up
gives : (e : Bool) (s : SlotId) (ms : List Move) (a b : SeatState View)
    → b.view.core ≡ record (with_ended e s (without_strong s a.view.core)) {
      trail = a.view.core.trail ++ ms;
    }
    → KnowsStill (without_strong s a.view.core) a b → Owns (without s a.view.core.owned) a b
gives true s ms a b core knows =
    owns_by a b (leaves_less a b (with_ended true s (without_strong s a.view.core)) ms core refl
    (λ x held. knows x (holds_has (without_strong s a.view.core) x held)))
gives false s ms a b core knows =
    owns_by a b (leaves_less a b (without_strong s a.view.core) ms core refl
    (λ x held. knows x (holds_has (without_strong s a.view.core) x held)))

pub owns_drop : (fits : List ℕ → Type 0) (d : DomainState WordsLaw) (s : SlotId)
    (a b : SeatState View) → DropsStrong fits d s a b
    → KnowsStill (without_strong s a.view.core) a b → Owns (without s a.view.core.owned) a b
owns_drop fits d s a b drops knows = gives (ends drops.0) s _ a b drops.1.core knows

-- and the seat is spent if it was
spent_by : (e : Bool) (s : SlotId) (ms : List Move) (a b : SeatState View)
    → b.view.core ≡ record (with_ended e s (without_strong s a.view.core)) {
      trail = a.view.core.trail ++ ms;
    }
    → IsSpent a.view.core → IsSpent b.view.core
spent_by true s ms a b core is = subst IsSpent (sym core) is
spent_by false s ms a b core is = subst IsSpent (sym core) is

counts_by : (e : Bool) (s : SlotId) (ms : List Move) (a b : SeatState View)
    → b.view.core ≡ record (with_ended e s (without_strong s a.view.core)) {
      trail = a.view.core.trail ++ ms;
    }
    → (b.view.core.adds ≡ a.view.core.adds) × (b.view.core.makes ≡ a.view.core.makes)
counts_by true s ms a b core =
    (ap (λ (v : CoreView). v.adds) core, ap (λ (v : CoreView). v.makes) core)
counts_by false s ms a b core =
    (ap (λ (v : CoreView). v.adds) core, ap (λ (v : CoreView). v.makes) core)

pub spent_drop : (fits : List ℕ → Type 0) (d : DomainState WordsLaw) (s : SlotId)
    (a b : SeatState View) → DropsStrong fits d s a b → IsSpent a.view.core → IsSpent b.view.core
spent_drop fits d s a b drops is = spent_by (ends drops.0) s _ a b drops.1.core is

-- and has used as many adds and makes
pub drop_counts : (fits : List ℕ → Type 0) (d : DomainState WordsLaw) (s : SlotId)
    (a b : SeatState View) → DropsStrong fits d s a b
    → (b.view.core.adds ≡ a.view.core.adds) × (b.view.core.makes ≡ a.view.core.makes)
drop_counts fits d s a b drops = counts_by (ends drops.0) s _ a b drops.1.core

-- the same references by another list
pub owns_as : {os : List SlotId} (xs : List SlotId) (a b : SeatState View) → Owns os a b
    → ((x : SlotId) → times x os ≡ times x xs) → Owns xs a b
owns_as xs a b owns same = record {
  strongly = λ x. owns.strongly x ∙ same x;
  weakly = owns.weakly;
  same = owns.same;
  knows = owns.knows;
  scans = owns.scans;
}

-- after a call that left what the seat owns
pub gave_item : (fits : List ℕ → Type 0) (d : DomainState WordsLaw) (s t : SlotId) → t ≡ s
    → (a b c : SeatState View) → Owns a.view.core.owned a b → DropsStrong fits d s b c
    → KnowsStill (without_strong s b.view.core) b c → 0 < times s a.view.core.owned
    → Owns (without s a.view.core.owned) a c
gave_item fits d s t is a b c first drops knows own =
    owns_as (without s a.view.core.owned) a c
    (owns_then a b c first (owns_drop fits d s b c drops knows)
    (λ x. inl (let p = first.strongly x in omega arith)))
    (λ x. let p = first.strongly x in let q = first.strongly s in
    let v = times_without x s a.view.core.owned own in
    let w = times_without x s b.view.core.owned (omega (arith, q, own)) in omega arith)

-- a reference that was gained and given up again
pub owns_back : (s : SlotId) (os : List SlotId) (a b c : SeatState View)
    → Owns (os ++ s ∷ []) a b → Owns (without s b.view.core.owned) b c
    → ((x : SlotId) → times x os ≡ times x a.view.core.owned) → Owns os a c
owns_back s os a b c first second same =
    owns_as os a c
    (owns_then a b c first second
    (λ x. inl (let p = first.strongly x in let q = times_push x s os in let r = same x in
    omega arith)))
    (λ x. let p = first.strongly x in let q = times_push x s os in
    let own : 0 < times s b.view.core.owned =
    (let h = first.strongly s in let k = times_push s s os in let o = one_same s s refl in omega arith) in
    let w = times_without x s b.view.core.owned own in omega arith)

pub free_still : {os : List SlotId} (a b : SeatState View) → Owns os a b → HasTwoFree a.view.core
    → HasTwoFree b.view.core
free_still a b owns free = subst HasTwoFree (sym owns.same) free

pub quota_same : (v w : View) → UsesInterns 0 v w → HasQuota v.1 → HasQuota w.1
quota_same v w uses is = let q = uses.quota in let u = uses.used in omega (arith, is)

-- INTERNS that calls use, one after the other
pub uses_none : (v w : View) → w.1 ≡ v.1 → UsesInterns 0 v w
uses_none v w same = record {
  quota = ap (λ (d : DirectoryView). d.quota) same;
  used = let u = ap (λ (d : DirectoryView). d.used) same in omega arith;
}

pub uses_then : (m n : ℕ) (u v w : View) → UsesInterns m u v → UsesInterns n v w
    → UsesInterns (m + n) u w
uses_then m n u v w first second = record {
  quota = second.quota ∙ first.quota;
  used = let a = first.used in let b = second.used in omega arith;
}

-- after a call that left what the seat owns beside its answer, another that left what it owned
pub owns_on : (os : List SlotId) (a b c : SeatState View) → Owns os a b
    → ((x : SlotId) → times x a.view.core.owned ≤ times x os) → Owns b.view.core.owned b c
    → Owns os a c
owns_on os a b c first more second =
    owns_as os a c
    (owns_then a b c first second
    (λ x. inl (let p = first.strongly x in let q = more x in omega arith)))
    first.strongly

-- a seat that was ready is so after a call
pub ready_by : {d : DomainState WordsLaw} {on : Shared} {os : List SlotId} (a b : SeatState View)
    → IsReady d on a → Owns os a b → HasRoom b.view.core → IsAtRest d b
    → IsAttached b.view.client.0 → HasQuota b.view.client.1 → IsReady d on b
ready_by a b ready owns room rest attached quota = record {
  rest = rest;
  room = room;
  queue = ready.queue;
  over = ready.over;
  attached = attached;
  quota = quota;
  free = free_still a b owns ready.free;
}
