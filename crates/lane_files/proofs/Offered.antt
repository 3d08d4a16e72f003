-- A record that the seat knows may be pushed, and then counts as one word.
use Rattle.std.proofs.Common.{◌≡◌, inl, inr, ⊎_elim, ℕ, List, [], ◌∷◌, ◌++◌, refl, sym, ap, subst, ◌∙◌, ◌≤◌}
use Rattle.std.specs.Prelude.{Err, IfOk, Ok, OnErr, OnOk, Result}
use Rattle.control_word.specs.plain_state.declared.slot.SlotId.{SlotId}
use Rattle.control_word.specs.acquire_retire.Seats.{SeatState}
use Rattle.hand_queues.specs.part_calls.Parts.{seen_by}
use Rattle.words_protocol.specs.queue_law.declared.view.Item.{Item}
use Rattle.words_protocol.specs.queue_law.declared.view.Taken.{Taken}
use Rattle.words_protocol.specs.queue_law.declared.view.View.{View as QueueView}
use Rattle.words_protocol.specs.directory_law.declared.view.View.{View as DirectoryView}
use Rattle.words_protocol.specs.directory_law.Bytes.{text_bytes}
use Rattle.words_protocol.specs.directory_law.Payloads.{Text}
use Rattle.hand_queues.specs.linked_queue.Pops.{item_in}
use Rattle.hand_queues.specs.linked_queue.Pushes.{pushed_too}
use Rattle.hand_queues.specs.linked_queue.Queues.{deeds_in}
use Rattle.hand_queues.specs.double_link_queue.Pushes.{PushesNothing, landed_in}
use Rattle.hand_queues.specs.Pushes.{Pushes, deeds_of}
use Rattle.weak_intern.specs.Knowing.{Knows}
use Rattle.words_protocol.specs.words_law.Known.{ForgetsNothing, KnowsText}
use Rattle.words_protocol.specs.words_law.Pushes.{MayPush}
use Rattle.words_protocol.specs.words_law.Views.{View}
use Rattle.control_word.specs.core_events.Steps.{HasRoom}
use Rattle.control_word.specs.core_events.Views.{without}
use Rattle.control_word.specs.acquire_retire.Domains.{DomainState}
use Rattle.control_word.specs.Resting.{IsAtRest}
use Rattle.weak_intern.specs.directory_calls.Directories.{HasQuota}
use Rattle.hand_queues.specs.linked_queue.Queues.{IsAttached}
use Rattle.words_protocol.specs.declared.law.WordsLaw.{WordsLaw}
use Rattle.lane_files.specs.Passed.{Counts, did}
use Rattle.lane_files.specs.Ready.{IsReady, Shared, Owns}
use Rattle.lane_files.proofs.SeatsKept.{owns_both, ready_by}
use Rattle.lane_files.proofs.PiecesCounted.{by_one, did_none, more_none, none_more}

-- what a seat has of the queue, and of the directory
abbrev pub queues : View → QueueView
queues v = v.0

abbrev pub texts : View → DirectoryView
texts v = v.1

-- the object in s, as an item
abbrev pub item_of : SlotId → SeatState View → Item
item_of s seat = item_in (seen_by queues seat) s

module _ (s : SlotId) (text : Text) (old : SeatState View) (known : Knows texts s text old) where
  pub may_push : MayPush old.view.client (item_of s old)
  may_push = ⊎_elim
      (λ bound. inr (_, bound, refl, refl))
      (λ saw. inl (_, saw.0.1, refl, refl))
      known

  pub knows : KnowsText old.view.client.1 (item_of s old) text
  knows = ⊎_elim
      (λ bound. inl bound)
      (λ saw. inr (record {
        ran = saw.1;
        noted = saw.2;
        slot = saw.3;
        life = saw.4;
        whole = saw.5;
        is = saw.6;
      }))
      known

-- one item more that was pushed
pub pushed_did : (x : Item) (v : QueueView) → pushed_too x v ≡ did (x ∷ []) [] v
pushed_did x v = λ i. record v {
  pushed = ap (λ (ts : List Taken). v.pushed ++ ts) (sym (by_one v.number x)) i;
  popped = sym (none_more v.number v.popped) i;
}

pub popped_did : (x : Item) (n : ℕ) (v : QueueView) → n ≡ v.number
    → record v { popped = v.popped ++ record { item = x; taker = n } ∷ [] } ≡ did [] (x ∷ []) v
popped_did x n v is = λ i. record v {
  pushed = sym (none_more v.number v.pushed) i;
  popped = (ap (λ m. v.popped ++ record { item = x; taker = m } ∷ []) is
      ∙ ap (λ (ts : List Taken). v.popped ++ ts) (sym (by_one v.number x))) i;
}

-- IT WAS PUSHED
module _ (s : SlotId) (text : Text) (old new : SeatState View) (known : Knows texts s text old)
    (same : new.view.client.1 ≡ old.view.client.1) where
  pub offered : deeds_of new.view.client.0
      ≡ pushed_too (item_of s old) (deeds_of old.view.client.0)
      → Counts (text_bytes text ∷ []) [] old.view.client new.view.client
  offered deeds = record {
    pushes = item_of s old ∷ [];
    pops = [];
    deeds = deeds ∙ pushed_did (item_of s old) (deeds_of old.view.client.0);
    pushed_words = (
      text ∷ [],
      (
        subst (λ (v : DirectoryView). KnowsText v (item_of s old) text) (sym same)
            (knows s text old known),
        tt,
      ),
      refl,
    );
    popped_words = ([], tt, refl);
    more = subst (λ (v : DirectoryView). ForgetsNothing old.view.client.1 v) (sym same)
        (more_none old.view.client.1);
  }

module _ (old new : SeatState View) (same : new.view.client.1 ≡ old.view.client.1) where
  abbrev seen : SeatState View → SeatState QueueView
  seen seat = seen_by queues seat

  pub offered_ok : {T E : Type 0} (s : SlotId) (r : Result T E) → IfOk r (λ done. Pushes s (seen old) (seen new))
      → OnOk r ((text : Text) → Knows texts s text old
      → Counts (text_bytes text ∷ []) [] old.view.client new.view.client)
  offered_ok s (Ok done) pushed = λ text known. offered s text old new known same pushed.deeds
  offered_ok s (Err error) pushed = tt

  -- NOTHING WAS PUSHED or popped
  pub idle : deeds_in new.view.client.0 ≡ deeds_in old.view.client.0
      → Counts [] [] old.view.client new.view.client
  idle deeds = record {
    pushes = [];
    pops = [];
    deeds = ap landed_in deeds ∙ sym (did_none (deeds_of old.view.client.0));
    pushed_words = ([], tt, refl);
    popped_words = ([], tt, refl);
    more = subst (λ (v : DirectoryView). ForgetsNothing old.view.client.1 v) (sym same)
        (more_none old.view.client.1);
  }

  pub refused_idle : {T E : Type 0} (r : Result T E) → OnErr r (PushesNothing (seen old) (seen new))
      → OnErr r (Counts [] [] old.view.client new.view.client)
  refused_idle (Ok done) nothing = tt
  refused_idle (Err error) nothing = idle nothing.deeds

  pub offered_owns : {T E : Type 0} (s : SlotId) (r : Result T E)
      → IfOk r (λ done. Pushes s (seen old) (seen new))
      → OnOk r (Owns (without s old.view.core.owned) old new)
  offered_owns s (Ok done) pushed = owns_both old new pushed.leaves
  offered_owns s (Err error) pushed = tt

  pub refused_owns : {T E : Type 0} (r : Result T E) → OnErr r (PushesNothing (seen old) (seen new))
      → OnErr r (Owns old.view.core.owned old new)
  refused_owns (Ok done) nothing = tt
  refused_owns (Err error) nothing = owns_both old new nothing.leaves

  pub offer_ready : {T E : Type 0} {d : DomainState WordsLaw} {on : Shared} (s : SlotId)
      (r : Result T E) → IfOk r (λ done. Pushes s (seen old) (seen new))
      → OnErr r (PushesNothing (seen old) (seen new)) → IsReady d on old
      → HasRoom new.view.core → IsAtRest d new → IsAttached new.view.client.0
      → IsReady d on new
  offer_ready s (Ok done) pushed nothing ready room rest attached =
      ready_by old new ready (owns_both old new pushed.leaves) room rest attached
      (subst HasQuota (sym same) ready.quota)
  offer_ready s (Err error) pushed nothing ready room rest attached =
      ready_by old new ready (owns_both old new nothing.leaves) room rest attached
      (subst HasQuota (sym same) ready.quota)

-- a push takes no add back
pub push_adds : {T E : Type 0} (s : SlotId) (r : Result T E) (old new : SeatState QueueView)
    → IfOk r (λ done. Pushes s old new) → OnErr r (PushesNothing old new)
    → old.view.core.adds ≤ new.view.core.adds
push_adds s (Ok done) old new pushed nothing = pushed.leaves.adds
push_adds s (Err error) old new pushed nothing = nothing.leaves.adds
