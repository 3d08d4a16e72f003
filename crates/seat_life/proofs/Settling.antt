-- A seat that is free and has settled has nothing retired and nothing dying, and its audit tells what only cycles keep.
use Rattle.std.proofs.Common.{◌≡◌, ℕ, zero, suc, ◌≤◌, List, [], ◌∷◌, refl, ap, ◌∙◌, arith}
use Rattle.domain_audit.specs.plain_state.declared.slot.Kind.{Kind}
use Rattle.domain_audit.specs.plain_state.declared.slot.Kind.TheVariants.{Disposal, Strong, Weak}
use Rattle.domain_audit.specs.plain_state.declared.slot.SlotId.{SlotId}
use Rattle.domain_audit.specs.plain_state.Lists.{Entry, entry_times, times}
use Rattle.domain_audit.specs.core_events.declared.view.CoreView.{CoreView}
use Rattle.domain_audit.specs.core_events.Views.{no_notes, snapshots, valid_of}
use Rattle.domain_audit.proofs.Below.core_law_Kit.{entry_cons, entry_none, entry_one, kind_one, one_same}
use Rattle.domain_audit.specs.acquire_retire.Collecting.{rest_of}
use Rattle.domain_audit.specs.acquire_retire.Domains.{DomainState}
use Rattle.domain_audit.specs.acquire_retire.Seats.{SeatState}
use Rattle.domain_audit.specs.heap_audit.declared.finding.Audit.{Audit}
use Rattle.domain_audit.specs.slot_store.Leftovers.{IsQuiet}
use Rattle.domain_audit.specs.slot_store.Settling.{Settles}
use Rattle.domain_audit.specs.Audits.{IsWholeAudit, Stays}
use Rattle.domain_audit.proofs.Below.slot_store_Turning.{nothing_in}
use Rattle.seat_life.specs.Ends.{HasSettled}

same_kind : (k : Kind) (n : ℕ) → kind_one k k n ≡ n
same_kind Strong n = refl
same_kind Weak n = refl
same_kind Disposal n = refl

no_entries : (es : List Entry) → ((k : Kind) (s : SlotId) → entry_times k s es ≤ 0) → es ≡ []
no_entries [] none = refl
no_entries (e ∷ es) none =
    let first = none e.0 e.1 in let more = entry_cons e.0 e.1 e es in
    let here : entry_one e.0 e.1 e ≡ 1 = same_kind e.0 _ ∙ one_same e.1 e.1 refl in
    absurd (omega arith)

module _ (v : CoreView) (none : v.notes ≡ no_notes) (quiet : IsQuiet v) where
  no_snapshot : snapshots v ≡ []
  no_snapshot = ap valid_of none

  quiet_retired : v.retired ≡ []
  quiet_retired = no_entries v.retired
      (λ k s. let few = quiet.entries k s in let e = ap (entry_times k s) no_snapshot in
      let z = entry_none k s in omega arith)

  pub quiet_dying : v.dying ≡ []
  quiet_dying = nothing_in v.dying (λ s. not_dying s (times s v.dying) refl)
    where
      not_dying : (s : SlotId) (n : ℕ) → times s v.dying ≡ n → times s v.dying ≤ 0
      not_dying s zero is = omega arith
      not_dying s (suc n) is =
          let some = quiet.dying s (omega arith) in
          let e = ap (entry_times Disposal s) no_snapshot in
          let z = entry_none Disposal s in absurd (omega arith)

-- what is told of a seat that has settled, whose trail alone an audit makes longer
pub has_settled : {P V : Type 0} (fits : List ℕ → Type 0) (d : DomainState P) (weight : List ℕ → ℕ)
    (weights : ℕ) (ranks : List ℕ) (old mid new : SeatState V) (found : Audit) → old.view.core.notes ≡ no_notes
    → old.view.core.owed ≡ []
    → Settles fits d weight weights old mid → rest_of mid.view.core ≡ rest_of old.view.core
    → IsQuiet mid.view.core → mid.view.core.owed ≡ [] → Stays fits d mid new
    → IsWholeAudit fits weight ranks new.view found
    → HasSettled fits d weight weights found old new
has_settled fits d weight weights ranks old mid new found none owes settles same quiet mid_owes stays audit =
    let core = stays.1.core in
    let idle : mid.view.core.notes ≡ no_notes = ap (λ (v : CoreView). v.notes) same ∙ none in
    let retired = ap (λ (v : CoreView). v.retired) core ∙ quiet_retired mid.view.core idle quiet in
    let kept = ap rest_of core ∙ same in
    record {
      ranks = ranks;
      mid = mid;
      settles = settles;
      stays = stays;
      audit = audit;
      retired = retired;
      dying = ap (λ (v : CoreView). v.dying) core ∙ quiet_dying mid.view.core idle quiet;
      same = kept;
      left = λ owned null. audit.left (
        ap (λ (v : CoreView). v.owned) kept ∙ owned,
        ap (λ (v : CoreView). v.owed) core ∙ mid_owes,
        retired,
        null,
      );
    }
