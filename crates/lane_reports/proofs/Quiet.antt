-- What a seat is left with that has given up all that it owned, and settled under no snapshot.
use Rattle.std.proofs.Common.{◌≡◌, ℕ, zero, suc, ◌≤◌, List, [], ◌∷◌, refl, ap, ◌∙◌, arith}
use Rattle.law_lesson.specs.plain_state.declared.slot.Kind.{Kind}
use Rattle.law_lesson.specs.plain_state.declared.slot.Kind.TheVariants.{Strong, Weak, Disposal}
use Rattle.law_lesson.specs.plain_state.declared.slot.SlotId.{SlotId}
use Rattle.law_lesson.specs.plain_state.Lists.{Entry, entry_times, times}
use Rattle.domain_audit.specs.core_events.declared.view.CoreView.{CoreView}
use Rattle.domain_audit.specs.core_events.Views.{snapshots}
use Rattle.domain_audit.proofs.Below.core_law_Kit.{entry_cons, entry_none, entry_one, kind_one, one_same}
use Rattle.domain_audit.specs.acquire_retire.Collecting.{rest_of}
use Rattle.domain_audit.specs.acquire_retire.Seats.{SeatState}
use Rattle.domain_audit.specs.slot_store.Leftovers.{IsQuiet}
use Rattle.domain_audit.proofs.Below.slot_store_Turning.{nothing_in}
use Rattle.lane_domain.specs.lane_files.Keeping.{GivesUp}
use Rattle.words_rest.specs.words_law.Views.{View}

same_kind_one : (k : Kind) (n : ℕ) → kind_one k k n ≡ n
same_kind_one Strong n = refl
same_kind_one Weak n = refl
same_kind_one Disposal n = refl

-- a list in which no entry stands
no_entries : (es : List Entry) → ((k : Kind) (s : SlotId) → entry_times k s es ≤ 0) → es ≡ []
no_entries [] none = refl
no_entries (e ∷ es) none =
    let first = none e.0 e.1 in
    let more = entry_cons e.0 e.1 e es in
    let here : entry_one e.0 e.1 e ≡ 1 = same_kind_one e.0 _ ∙ one_same e.1 e.1 refl in
    absurd (omega arith)

module _ (v : CoreView) (quiet : IsQuiet v) (none : snapshots v ≡ []) where
  pub quiet_dying : v.dying ≡ []
  quiet_dying = nothing_in v.dying (λ s. not_dying s (times s v.dying) refl)
    where
      not_dying : (s : SlotId) (n : ℕ) → times s v.dying ≡ n → times s v.dying ≤ 0
      not_dying s zero is = omega arith
      not_dying s (suc n) is =
          let some = quiet.dying s (omega arith) in
          let e = ap (entry_times Disposal s) none in
          let z = entry_none Disposal s in absurd (omega arith)

  pub quiet_retired : v.retired ≡ []
  quiet_retired =
      no_entries v.retired
      (λ k s.
      let few = quiet.entries k s in let e = ap (entry_times k s) none in
      let z = entry_none k s in omega arith)

-- what was owned was given up
pub nothing_owned : (kept : List SlotId) (old a b c : SeatState View)
    → ((s : SlotId) → times s old.view.core.owned ≡ times s kept)
    → a.view.core.owned ≡ old.view.core.owned → GivesUp kept a b
    → rest_of c.view.core ≡ rest_of b.view.core → c.view.core.owned ≡ []
nothing_owned kept old a b c owns first gives settled =
    ap (λ (v : CoreView). v.owned) settled
    ∙ nothing_in b.view.core.owned
    (λ s. let o = owns s in let g = gives.strongly s in
    let f = ap (times s) first in omega arith)
