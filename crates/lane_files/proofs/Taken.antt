-- An item that was popped and read counts as one word.
use Rattle.std.proofs.Common.{◌≡◌, inl, inr, ℕ, List, [], ◌∷◌, ◌++◌, refl, sym, ap, subst, ◌∙◌}
use Rattle.control_word.specs.plain_state.declared.slot.SlotId.{SlotId}
use Rattle.control_word.specs.domain_rule.Views.{object_in}
use Rattle.control_word.specs.acquire_retire.Seats.{SeatState}
use Rattle.words_protocol.specs.queue_law.declared.view.Item.{Item}
use Rattle.words_protocol.specs.queue_law.declared.view.Taken.{Taken}
use Rattle.words_protocol.specs.queue_law.declared.view.View.{View as QueueView}
use Rattle.words_protocol.specs.queue_law.Lists.{taken_items}
use Rattle.words_protocol.specs.directory_law.Views.{In}
use Rattle.hand_queues.specs.double_link_queue.Pushes.{landed_in}
use Rattle.hand_queues.specs.Pushes.{deeds_of}
use Rattle.words_protocol.specs.words_law.Known.{ForgetsNothing}
use Rattle.words_protocol.specs.words_law.Views.{View}
use Rattle.std.specs.Prelude.{Err, IfErr, IsErrAnd, None, Ok, Option, Result, Some}
use Rattle.hand_queues.specs.atomic_shared.Places.{named}
use Rattle.control_word.specs.counted_handles.Handles.{Handle}
use Rattle.control_word.specs.core_events.Steps.{HasRoom}
use Rattle.control_word.specs.core_events.Views.{without}
use Rattle.control_word.specs.acquire_retire.Domains.{DomainState}
use Rattle.control_word.specs.Resting.{IsAtRest, IsSpent}
use Rattle.hand_queues.specs.part_calls.Parts.{seen_by}
use Rattle.weak_intern.specs.directory_calls.Directories.{HasQuota}
use Rattle.hand_queues.specs.linked_queue.Pops.{Pops}
use Rattle.hand_queues.specs.linked_queue.Queues.{IsAttached}
use Rattle.words_protocol.specs.declared.law.WordsLaw.{WordsLaw}
use Rattle.hand_queues.specs.slot_store.declared.making.MakeError.TheVariants as unmade
use Rattle.hand_queues.specs.linked_queue.Waits.{PopsAtLast}
use Rattle.words_protocol.specs.queue_protocol.declared.law.QueueLaw.{QueueLaw}
use Rattle.lane_files.specs.Passed.{Counts, OnlyReads, ReadsWord, Takes, TalliesIf, UsesInterns}
use Rattle.lane_files.specs.Ready.{HasPoppedIn, IsReady, Owns, Shared}
use Rattle.lane_files.specs.Whys.{IsWhyNotTaken}
use Rattle.lane_files.specs.declared.refusal.LaneError.{LaneError}
use Rattle.lane_files.specs.declared.refusal.LaneError.TheVariants as refused
use Rattle.lane_files.proofs.PiecesCounted.{tallies_none}
use Rattle.lane_files.proofs.SeatsKept.{owns_back, owns_queue, quota_same, ready_by, uses_none, uses_then}
use Rattle.lane_files.proofs.Offered.{idle, item_of, popped_did, queues, texts}

in_last : (x : Item) (ts : List Taken) (n : ℕ)
    → In x (taken_items (ts ++ record { item = x; taker = n } ∷ []))
in_last x [] n = inl refl
in_last x (t ∷ ts) n = inr (in_last x ts n)

-- what a pop found, as it is told
pub pops_as : (a b : SeatState View) {o p : Option Handle} → o ≡ p
    → Pops (named o) (seen_by queues a) (seen_by queues b)
    → Pops (named p) (seen_by queues a) (seen_by queues b)
pops_as a b same pops = subst (λ o. Pops (named o) (seen_by queues a) (seen_by queues b)) same pops

module _ (s : SlotId) (old mid : SeatState View)
    (pops : Pops (Some s) (seen_by queues old) (seen_by queues mid))
    (beside : mid.view.client ≡ (mid.view.client.0, old.view.client.1)) where
  pub has_popped : HasPoppedIn s mid
  has_popped = (
    (object_in mid.view s).payload,
    subst (λ (v : QueueView). In (item_of s mid) (taken_items v.popped)) (sym pops.deeds)
        (in_last (item_of s mid) old.view.client.0.popped old.view.client.0.number),
  )

  -- IT WAS READ
  module _ (new : SeatState View) (only : OnlyReads mid.view.client new.view.client) where
    pub took : (word : List ℕ) → ReadsWord s word mid new
        → Counts [] (word ∷ []) old.view.client new.view.client
    took word read = record {
      pushes = [];
      pops = item_of s mid ∷ [];
      deeds = ap deeds_of only.queue ∙ (ap landed_in pops.deeds
          ∙ popped_did (item_of s mid) old.view.client.0.number (deeds_of old.view.client.0) refl);
      pushed_words = ([], tt, refl);
      popped_words = (
        read.text ∷ [],
        (
          inr (record {
            ran = read.read.0;
            noted = read.read.1;
            slot = read.read.2;
            life = read.read.3;
            whole = read.read.4;
            is = read.read.5;
          }),
          tt,
        ),
        ap (λ w. w ∷ []) read.bytes,
      );
      more = subst (λ (v : View). ForgetsNothing v.1 new.view.client.1) beside only.more;
    }

    module _ {T E : Type 0} (r : Result T E) (before after : List (List ℕ × ℕ))
        (all : (word : List ℕ) × ReadsWord s word mid new × TalliesIf r word before after) where
      pub took_ok : (done : T) → r ≡ Ok done
          → Takes [] 1 old.view.client new.view.client before after
      took_ok done is = record {
        words = all.0 ∷ [];
        number = refl;
        counts = took all.0 all.1;
        tallies = subst (λ (x : Result T E). TalliesIf x all.0 before after) is all.2;
      }

      pub took_none : (error : E) → r ≡ Err error → {U : Type 0} (told : Result U LaneError)
          → IsErrAnd told (λ why. why ≡ refused.OutOfMemory)
          → IfErr told (λ why. IsWhyNotTaken why old new before after)
      took_none error is (Ok x) told = tt
      took_none error is (Err why) told =
          let none = subst (λ (x : Result T E). TalliesIf x all.0 before after) is all.2 in
          subst (λ (e : LaneError). IsWhyNotTaken e old new before after) (sym told)
          (all.0, took all.0 all.1, none.0, none.1)

    pub took_interns : UsesInterns 0 old.view.client new.view.client
    took_interns =
        uses_then 0 0 old.view.client mid.view.client new.view.client
        (uses_none old.view.client mid.view.client (ap texts beside)) only.interns

    pub took_owns : Owns (without s mid.view.core.owned) mid new → Owns old.view.core.owned old new
    took_owns second =
        owns_back s old.view.core.owned old mid new (owns_queue old mid pops.leaves) second
        (λ x. refl)

    pub took_ready : {P : DomainState WordsLaw} {on : Shared} → IsReady P on old
        → IsAttached mid.view.client.0 → Owns (without s mid.view.core.owned) mid new
        → HasRoom new.view.core → IsAtRest P new → IsReady P on new
    took_ready ready attached second room rest =
        ready_by old new ready (took_owns second) room rest
        (subst IsAttached (sym only.queue) attached)
        (quota_same mid.view.client new.view.client only.interns
        (subst (λ (v : View). HasQuota v.1) (sym beside) ready.quota))

-- where it found none
pub finds_as : (fits : List ℕ → Type 0) (d : DomainState QueueLaw) (a b : SeatState View)
    {o p : Option Handle} → o ≡ p
    → PopsAtLast fits d (named o) (seen_by queues a) (seen_by queues b)
    → PopsAtLast fits d (named p) (seen_by queues a) (seen_by queues b)
finds_as fits d a b same pops =
    subst (λ o. PopsAtLast fits d (named o) (seen_by queues a) (seen_by queues b)) same pops

-- NOTHING WAS POPPED
module _ (old new : SeatState View) (pops : Pops None (seen_by queues old) (seen_by queues new))
    (beside : new.view.client ≡ (new.view.client.0, old.view.client.1)) where
  pub none_popped : Counts [] [] old.view.client new.view.client
  none_popped = idle old new (ap texts beside) pops.deeds

  pub none_counts : (t : List (List ℕ × ℕ))
      → Takes [] 0 old.view.client new.view.client t t
  none_counts t =
      record { words = []; number = refl; counts = none_popped; tallies = tallies_none t }

  pub spent_so : IsSpent new.view.core → (t : List (List ℕ × ℕ))
      → IsWhyNotTaken (refused.Refused unmade.AddsSpent) old new t t
  spent_so spent t = (refl, spent, none_popped, refl)

  pub none_interns : UsesInterns 0 old.view.client new.view.client
  none_interns = uses_none old.view.client new.view.client (ap texts beside)

  pub none_owns : Owns old.view.core.owned old new
  none_owns = owns_queue old new pops.leaves

  pub none_ready : {P : DomainState WordsLaw} {on : Shared} → IsReady P on old
      → IsAttached new.view.client.0 → HasRoom new.view.core → IsAtRest P new → IsReady P on new
  none_ready ready attached room rest =
      ready_by old new ready none_owns room rest attached
      (subst (λ (v : View). HasQuota v.1) (sym beside) ready.quota)
