-- What an intern leaves of a seat that counts words.
use Rattle.std.proofs.Common.{◌≡◌, ℕ, ◌≤◌, List, [], true, refl, sym, ap, subst, ◌∙◌, arith, rules}
use Rattle.std.specs.Prelude.{Err, IfErr, IfOk, IsErr, Ok, Result, ◌≢◌}
use Rattle.control_word.specs.plain_state.declared.slot.SlotId.{SlotId}
use Rattle.control_word.specs.core_events.Steps.{HasRoom}
use Rattle.control_word.specs.acquire_retire.Domains.{DomainState}
use Rattle.control_word.specs.acquire_retire.Seats.{SeatState}
use Rattle.control_word.specs.Resting.{IsAtRest, IsSpent}
use Rattle.control_word.specs.counted_handles.Handles.{Handle}
use Rattle.words_protocol.specs.directory_law.declared.view.View.{View as DirectoryView}
use Rattle.weak_intern.specs.directory_calls.Directories.{CanCount, HasNoRecord, HasQuota}
use Rattle.weak_intern.specs.directory_calls.Steps.{AtStep}
use Rattle.hand_queues.specs.Pushes.{deeds_of}
use Rattle.hand_queues.specs.linked_queue.Queues.{IsAttached}
use Rattle.weak_intern.specs.record_making.Making.{MissesWithin}
use Rattle.hand_queues.specs.slot_store.Calls.{HasNoMake}
use Rattle.hand_queues.specs.slot_store.declared.making.MakeError.{MakeError}
use Rattle.hand_queues.specs.slot_store.declared.making.MakeError.TheVariants as unmade
use Rattle.weak_intern.specs.Interning.{GrowsIn, Interns, interned_by}
use Rattle.words_protocol.specs.words_law.Views.{View}
use Rattle.words_protocol.specs.declared.law.WordsLaw.{WordsLaw}
use Rattle.lane_files.specs.Passed.{Counts, UsesInterns}
use Rattle.lane_files.specs.Pieces.{InternsFirst, IsWhyNotInterned, texts_of}
use Rattle.lane_files.specs.Ready.{IsReady, Owns, Shared}
use Rattle.lane_files.proofs.PiecesCounted.{did_none}
use Rattle.lane_files.proofs.SeatsKept.{ready_by}
use Rattle.lane_files.proofs.Offered.{queues, texts}

abbrev with_texts : View → DirectoryView → View
with_texts v w = (v.0, w)

module _ (n : ℕ) (v w : View) (grows : GrowsIn texts with_texts n v w) where
  pub grown_idle : Counts [] [] v w
  grown_idle = record {
    pushes = [];
    pops = [];
    deeds = ap (λ (x : View). deeds_of x.0) grows.rest ∙ sym (did_none (deeds_of v.0));
    pushed_words = ([], tt, refl);
    popped_words = ([], tt, refl);
    more = record {
      knows = record { kept = grows.part.kept; ran = grows.part.ran };
      saw = grows.part.seen;
    };
  }

  pub grown_interns : UsesInterns n v w
  grown_interns = record { quota = grows.part.quota; used = grows.part.used }

  pub grown_quota : n ≤ 1 → CanCount true v.1 → HasQuota w.1
  grown_quota most can =
      let q = grows.part.quota in let u = grows.part.used in omega (arith, most, can)

  pub grown_attached : IsAttached v.0 → IsAttached w.0
  grown_attached at = subst IsAttached (sym (ap queues grows.rest)) at

-- the record that it answers
pub interned_first : (d : DomainState WordsLaw) (piece : List ℕ) (a b : SeatState View)
    {E : Type 0} (r : Result Handle E)
    → GrowsIn texts with_texts (interned_by r) a.view.client b.view.client
    → IfOk r (λ strong. Interns d (texts_of d) piece strong.slot a b)
    → IfOk r (λ strong. InternsFirst d piece strong.slot a b)
interned_first d piece a b (Ok strong) grows interns = record {
  interns = interns;
  idle = grown_idle 1 a.view.client b.view.client grows;
}
interned_first d piece a b (Err error) grows interns = tt

pub uses_most : {E : Type 0} (r : Result Handle E) → interned_by r ≤ 1
uses_most (Ok strong) = omega arith
uses_most (Err error) = omega arith

pub interned_ready : {d : DomainState WordsLaw} {on : Shared} {os : List SlotId}
    {E : Type 0} (r : Result Handle E) (a b : SeatState View)
    → GrowsIn texts with_texts (interned_by r) a.view.client b.view.client
    → CanCount true a.view.client.1 → IsReady d on a → Owns os a b → HasRoom b.view.core
    → IsAtRest d b → IsReady d on b
interned_ready r a b grows can ready owns room rest =
    ready_by a b ready owns room rest
    (grown_attached (interned_by r) a.view.client b.view.client grows ready.attached)
    (grown_quota (interned_by r) a.view.client b.view.client grows (uses_most r) can)

-- why it was refused
pub why_not_interned : (fits : List ℕ → Type 0) (d : DomainState WordsLaw) (piece : List ℕ)
    (a b : SeatState View) {T : Type 0} (r : Result T MakeError)
    → (IsErr r → r ≢ Err unmade.AddsSpent → AtStep d (λ p. HasNoRecord (texts_of d) p piece) a b)
    → (r ≡ Err unmade.AddsSpent → IsSpent b.view.core)
    → (r ≡ Err unmade.MakesSpent → HasNoMake b.view.core)
    → (r ≡ Err unmade.Full → MissesWithin fits d a b)
    → IfErr r (λ why. IsWhyNotInterned fits d piece why a b)
why_not_interned fits d piece a b (Ok x) none adds no_make full = tt
why_not_interned fits d piece a b (Err unmade.AddsSpent) none adds no_make full = adds refl
why_not_interned fits d piece a b (Err unmade.MakesSpent) none adds no_make full =
    (no_make refl, none (search rules) (λ e. cc))
why_not_interned fits d piece a b (Err unmade.Full) none adds no_make full =
    (full refl, none (search rules) (λ e. cc))
