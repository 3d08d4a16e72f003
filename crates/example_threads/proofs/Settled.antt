-- A seat under no snapshot that has settled has nothing retired and nothing dying.
use Rattle.std.proofs.Common.{◌≡◌, ℕ, zero, suc, ◌≤◌, List, [], ◌∷◌, refl, sym, ap, subst, ◌∙◌, arith}
use Rattle.std.specs.Prelude.{slice_index_or}
use Rattle.cdrc.specs.plain_state.declared.slot.Kind.{Kind}
use Rattle.cdrc.specs.plain_state.declared.slot.Kind.TheVariants.{Strong, Weak, Disposal}
use Rattle.cdrc.specs.plain_state.declared.slot.SlotId.{SlotId}
use Rattle.cdrc.specs.plain_state.Lists.{Entry, entry_times, times}
use Rattle.cdrc.specs.core_events.declared.view.CoreView.{CoreView}
use Rattle.cdrc.specs.core_events.declared.view.Move.{Move}
use Rattle.cdrc.specs.core_events.declared.view.Note.{Note}
use Rattle.cdrc.specs.core_events.declared.view.Note.TheVariants as note
use Rattle.cdrc.specs.core_events.Views.{note_of, snapshots, valid_of}
use Rattle.cdrc.proofs.Below.core_law_Kit.{entry_cons, entry_none, entry_one, kind_one, one_same}
use Rattle.cdrc.specs.acquire_retire.Collecting.{rest_of}
use Rattle.cdrc.specs.acquire_retire.Seats.{SeatState}
use Rattle.cdrc.specs.control_word.Resting.{IsUnderNone}
use Rattle.cdrc.specs.domain_audit.Audits.{IsWholeAudit}
use Rattle.cdrc.specs.heap_audit.declared.finding.Audit.{Audit}
use Rattle.cdrc.specs.slot_store.Leftovers.{IsQuiet}
use Rattle.cdrc.proofs.Below.slot_store_Turning.{nothing_in}
use Rattle.example_threads.specs.Ends.{HasSettled}

is_idle : Note → Type 0
is_idle note.Idle = Unit {0}
is_idle (note.Announced k s) = ⊥
is_idle (note.Valid k s) = ⊥

no_valid : (ns : List Note) → ((j : ℕ) → slice_index_or ns j note.Idle ≡ note.Idle)
    → valid_of ns ≡ []
unfolding is_idle
no_valid [] all = refl
no_valid (note.Idle ∷ ns) all = no_valid ns (λ j. all (suc j))
no_valid (note.Announced k s ∷ ns) all = no_valid ns (λ j. all (suc j))
no_valid (note.Valid k s ∷ ns) all = absurd (subst is_idle (sym (all 0)) tt)

same_kind : (k : Kind) (n : ℕ) → kind_one k k n ≡ n
same_kind Strong n = refl
same_kind Weak n = refl
same_kind Disposal n = refl

no_entries : (es : List Entry) → ((k : Kind) (s : SlotId) → entry_times k s es ≤ 0) → es ≡ []
no_entries [] none = refl
no_entries (e ∷ es) none =
    let first = none e.0 e.1 in let more = entry_cons e.0 e.1 e es in
    let here : entry_one e.0 e.1 e ≡ 1 = same_kind e.0 _ ∙ one_same e.1 e.1 refl in
    absurd (omega arith)

module _ (v : CoreView) (none : IsUnderNone v) (quiet : IsQuiet v) where
  no_snapshot : snapshots v ≡ []
  no_snapshot = no_valid v.notes none

  pub quiet_retired : v.retired ≡ []
  quiet_retired = no_entries v.retired
      (λ k s. let few = quiet.entries k s in let e = ap (entry_times k s) no_snapshot in
      let z = entry_none k s in omega arith)

  pub quiet_dying : v.dying ≡ []
  quiet_dying = nothing_in v.dying (λ s. not_dying s (times s v.dying) refl)
    where
      not_dying : (s : SlotId) (n : ℕ) → times s v.dying ≡ n → times s v.dying ≤ 0
      not_dying s zero is = omega arith
      not_dying s (suc n) is =
          let some = quiet.dying s (omega arith) in
          let e = ap (entry_times Disposal s) no_snapshot in
          let z = entry_none Disposal s in absurd (omega arith)

-- no snapshot is taken where all but what is retired or dying stays
pub none_settled : (v w : CoreView) → rest_of w ≡ rest_of v → IsUnderNone v → IsUnderNone w
none_settled v w same none j = ap (λ (u : CoreView). note_of u j) same ∙ none j

-- what is told of a seat that has settled, whose trail alone an audit makes longer
pub has_settled : {V : Type 0} (fits : List ℕ → Type 0) (weight : List ℕ → ℕ) (ranks : List ℕ)
    (old mid new : SeatState V) (found : Audit) (trail : List Move) → IsUnderNone old.view.core
    → rest_of mid.view.core ≡ rest_of old.view.core → IsQuiet mid.view.core
    → new.view.core ≡ record mid.view.core { trail = trail }
    → IsWholeAudit fits weight ranks new.view found → HasSettled fits weight old new found
has_settled fits weight ranks old mid new found trail none same quiet stays audit =
    let idle = none_settled old.view.core mid.view.core same none in record {
      ranks = ranks;
      audit = audit;
      retired = ap (λ (v : CoreView). v.retired) stays ∙ quiet_retired mid.view.core idle quiet;
      dying = ap (λ (v : CoreView). v.dying) stays ∙ quiet_dying mid.view.core idle quiet;
      same = ap rest_of stays ∙ same;
    }
