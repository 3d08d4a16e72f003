-- A seat that is alone, under no snapshot, and has shut the queue and settled.
use Rattle.std.proofs.Common.{◌≡◌, ℕ, zero, suc, ◌+◌, ◌≤◌, List, [], ◌∷◌, refl, sym, ap, subst, ◌∙◌, arith}
use Rattle.std.specs.Prelude.{length, slice_index_or, None, Option, Some}
use Rattle.law_lesson.specs.plain_state.declared.slot.Kind.{Kind}
use Rattle.law_lesson.specs.plain_state.declared.slot.Kind.TheVariants.{Strong, Weak, Disposal}
use Rattle.law_lesson.specs.plain_state.declared.slot.SlotId.{SlotId}
use Rattle.law_lesson.specs.plain_state.Lists.{Entry, entry_times, times}
use Rattle.domain_audit.specs.core_events.declared.view.CoreView.{CoreView}
use Rattle.domain_audit.specs.core_events.declared.view.Note.{Note}
use Rattle.domain_audit.specs.core_events.declared.view.Note.TheVariants as note
use Rattle.domain_audit.specs.core_events.Views.{note_of, snapshots, valid_of}
use Rattle.domain_audit.proofs.Below.core_law_Kit.{entry_cons, entry_none, entry_one, kind_one, one_same}
use Rattle.domain_audit.specs.domain_rule.Views.{IsAlone}
use Rattle.domain_audit.specs.acquire_retire.Collecting.{rest_of}
use Rattle.domain_audit.specs.acquire_retire.Domains.{DomainState}
use Rattle.domain_audit.specs.acquire_retire.Seats.{SeatState}
use Rattle.domain_audit.specs.control_word.Resting.{IsUnderNone}
use Rattle.lane_domain.specs.linked_queue.Leaving as queue
use Rattle.lane_domain.specs.linked_queue.Queues.{ends_of}
use Rattle.lane_domain.specs.linked_queue.Shuts.{shut_in}
use Rattle.domain_audit.specs.slot_store.Leftovers.{IsQuiet, LeavesCycles}
use Rattle.domain_audit.specs.slot_store.Reaping.{KnowsBoth}
use Rattle.domain_audit.specs.slot_store.Settling.{Settles, Turns}
use Rattle.domain_audit.proofs.Below.slot_store_Turning.{nothing_in}
use Rattle.words_rest.specs.words_law.Views.{View}
use Rattle.lane_domain.specs.words_protocol.declared.law.WordsLaw.{WordsLaw}
use Rattle.lane_domain.specs.lane_files.Whys.{of_queue, queue_of}
use Rattle.lane_domain.proofs.Below.lane_files_SeatsKept.{owns_on, owns_queue}
use Rattle.lane_domain.proofs.Below.lane_files_Tidied.{owns_rest}
use Rattle.lane_domain.specs.lane_files.Scans.{scans_of}
use Rattle.lane_domain.proofs.Below.lane_files_Scanned.{collect_scans, reap_scans}
use Rattle.lane_reports.specs.Shutting.{ShutsAndSettles}

-- NO SNAPSHOT, and so nothing that waits for one
IsFree : Note → Type 0
IsFree note.Idle = Unit {0}
IsFree (note.Announced k s) = ⊥
IsFree (note.Valid k s) = ⊥

no_valid : (ns : List Note) → ((j : ℕ) → slice_index_or ns j note.Idle ≡ note.Idle)
    → valid_of ns ≡ []
unfolding IsFree
no_valid [] all = refl
no_valid (note.Idle ∷ ns) all = no_valid ns (λ j. all (suc j))
no_valid (note.Announced k s ∷ ns) all = no_valid ns (λ j. all (suc j))
no_valid (note.Valid k s ∷ ns) all = absurd (subst IsFree (sym (all 0)) tt)

same_kind : (k : Kind) (n : ℕ) → kind_one k k n ≡ n
same_kind Strong n = refl
same_kind Weak n = refl
same_kind Disposal n = refl

no_entries : (es : List Entry) → ((k : Kind) (s : SlotId) → entry_times k s es ≤ 0) → es ≡ []
no_entries [] none = refl
no_entries (e ∷ es) none =
    let first = none e.0 e.1 in let more = entry_cons e.0 e.1 e es in
    let here : entry_one e.0 e.1 e ≡ 1 = same_kind e.0 _ ∙ one_same e.1 e.1 refl in
    absurd (omega arith)

module _ (v : CoreView) (none : IsUnderNone v) (quiet : IsQuiet v) where
  none_valid : snapshots v ≡ []
  none_valid = no_valid v.notes none

  none_retired : v.retired ≡ []
  none_retired = no_entries v.retired
      (λ k s. let few = quiet.entries k s in let e = ap (entry_times k s) none_valid in
      let z = entry_none k s in omega arith)

  none_dying : v.dying ≡ []
  none_dying = nothing_in v.dying (λ s. not_dying s (times s v.dying) refl)
    where
      not_dying : (s : SlotId) (n : ℕ) → times s v.dying ≡ n → times s v.dying ≤ 0
      not_dying s zero is = omega arith
      not_dying s (suc n) is =
          let some = quiet.dying s (omega arith) in let e = ap (entry_times Disposal s) none_valid in
          let z = entry_none Disposal s in absurd (omega arith)

-- A SETTLE makes whole scans
module _ (fits : List ℕ → Type 0) (d : DomainState WordsLaw) (weight : List ℕ → ℕ) where
  turns_scans : (answers : List (Option ℕ)) (a b : SeatState View)
      → Turns fits d weight answers a b → scans_of a ≤ scans_of b
  turns_scans [] a b same =
      let s = ap (λ (x : SeatState View). scans_of x) same in omega arith
  turns_scans (Some n ∷ answers) a b turns =
      let before = turns_scans answers a turns.0 turns.1 in
      let last = reap_scans fits d weight (Some n) turns.0 b turns.2 in omega arith
  turns_scans (None ∷ answers) a b turns =
      let before = turns_scans answers a turns.0 turns.1 in
      let none = reap_scans fits d weight None turns.0 turns.2.0 turns.2.1 in
      let last = collect_scans fits d turns.2.0 b turns.2.2.collected in omega arith

  pub settle_scans : (total : ℕ) (a b : SeatState View) → Settles fits d weight total a b
      → scans_of a ≤ scans_of b
  settle_scans total a b settles =
      let turns = turns_scans settles.answers a settles.before settles.turns in
      let none = reap_scans fits d weight None settles.before settles.reaped settles.reaps_none in
      let last = collect_scans fits d settles.reaped b settles.quiets.collected in omega arith

-- A SHUT leaves a seat alone, and under no snapshot
module _ (os : List SlotId) (a b : SeatState View)
    (leaves : queue.Leaves os (of_queue a) (of_queue b)) where
  pub alone_shut : IsAlone a.view → IsAlone b.view
  alone_shut alone = (
    ap (λ (v : CoreView). v.seat) leaves.same ∙ alone.0,
    ap (λ (v : CoreView). length v.left_seats + 1) leaves.same ∙ alone.1
        ∙ sym (ap (λ (v : CoreView). v.shape.seats) leaves.same),
  )

  none_shut : IsUnderNone a.view.core → IsUnderNone b.view.core
  none_shut none = λ j. ap (λ (v : CoreView). note_of v j) leaves.same ∙ none j

module _ (d : DomainState WordsLaw) (a b c : SeatState View)
    (leaves : queue.Leaves a.view.core.owned (of_queue a) (of_queue b))
    (same : rest_of c.view.core ≡ rest_of b.view.core) (none : IsUnderNone a.view.core) where
  pub none_settled : IsUnderNone c.view.core
  none_settled = λ j. ap (λ (v : CoreView). note_of v j) same
      ∙ none_shut a.view.core.owned a b leaves none j

  pub shuts : b.view.client.0 ≡ shut_in (ends_of (queue_of d)) (of_queue a) a.view.client.0
      → b.view.client ≡ (b.view.client.0, a.view.client.1) → c.view.client ≡ b.view.client
      → IsQuiet c.view.core → LeavesCycles c.view → KnowsBoth b c → scans_of b ≤ scans_of c
      → ShutsAndSettles d a c
  shuts queue rest view quiet cycles knows scans = record {
    client = view ∙ rest ∙ (λ i. (queue i, a.view.client.1));
    retired = none_retired c.view.core none_settled quiet;
    dying = none_dying c.view.core none_settled quiet;
    ripe = quiet.ripe;
    cycles = cycles;
    owns = owns_on a.view.core.owned a b c (owns_queue a b leaves) (λ x. omega arith)
        (owns_rest b c same knows scans);
  }
