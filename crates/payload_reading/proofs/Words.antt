-- How far a payload was read, word by word.
use Rattle.std.proofs.Common.{◌≡◌, ⊎_elim, ℕ, suc, ◌+◌, ◌<◌, ◌++◌, List, [], ◌∷◌, length, ap, sym, ◌∙◌, subst, arith}
use Rattle.std.specs.Prelude.{slice_index, slice_set}
use Rattle.std.proofs.lemmas.List.{ext_get_or, get_or-set_other, get_or-set_same, length-set}
use Rattle.std.proofs.lemmas.Bool.{cases_eq}
use Rattle.protocol_pairs.specs.plain_state.declared.slot.SlotId.{SlotId}
use Rattle.protocol_pairs.specs.plain_protocol.Owns.{HasSlot, Object}
use Rattle.claim_law.specs.core_events.declared.act.Act.TheVariants as act
use Rattle.claim_law.specs.core_events.declared.outcome.Outcome.TheVariants as outcome
use Rattle.claim_law.specs.core_events.declared.view.CoreView.{CoreView}
use Rattle.claim_law.specs.core_events.declared.view.Move.{Move}
use Rattle.claim_law.specs.core_events.Shows.{show_seat}
use Rattle.claim_law.specs.core_events.Views.{CanReadFields, Holds}
use Rattle.claim_law.specs.core_events.Words.{each_from}
use Rattle.claim_law.proofs.Below.core_law_Lists.{each_push}
use Rattle.slot_store.specs.domain_rule.Views.{object_in}
use Rattle.slot_store.specs.acquire_retire.Collecting.{move}
use Rattle.slot_store.specs.acquire_retire.Domains.{DomainState}
use Rattle.slot_store.specs.acquire_retire.Seats.{SeatState}
use Rattle.slot_store.specs.control_word.Moves.{KnowsStill}
use Rattle.slot_store.specs.control_word.Resting.{IsAtRest}
use Rattle.slot_store.specs.Calls.{SeesWord}
use Rattle.slot_store.specs.Reaping.{seen_by}
use Rattle.slot_store.specs.Searching.{Goes}
use Rattle.slot_store.proofs.Below.control_word_Becoming.{Comes, comes_more}
use Rattle.slot_store.proofs.Claims.{comes_of, goes_nowhere, goes_of}
use Rattle.slot_store.proofs.Telling.{holds_has}
use Rattle.payload_reading.proofs.Fitting.{fits_told}

-- the moves that read the first n words of a payload of s
abbrev pub seen_to : SlotId → List ℕ → ℕ → List Move
seen_to s payload n = each_from 0 n (λ i. move (act.See s i) (outcome.Word (slice_index payload i)))

seen_more : (s : SlotId) (payload : List ℕ) (n : ℕ)
    → seen_to s payload (n + 1)
    ≡ seen_to s payload n ++ move (act.See s n) (outcome.Word (slice_index payload n)) ∷ []
seen_more s payload n =
    let f : ℕ → Move = λ i. move (act.See s i) (outcome.Word (slice_index payload i)) in
    let next : n + 1 ≡ suc n = omega arith in
    let at : 0 + n ≡ n = omega arith in
    ap (λ (k : ℕ). each_from 0 k f) next ∙ each_push 0 n f
    ∙ ap (λ (k : ℕ). each_from 0 n f ++ f k ∷ []) at

-- the first n words of the payload of s were read
pub record HasWords {P V : Type 0} (fits : List ℕ → Type 0) (d : DomainState P) (s : SlotId) (n : ℕ)
    (words : List ℕ) (old now : SeatState V) : Type 0 where
  pub goes : Goes fits d (seen_to s (object_in old.view s).payload n) old.view.core old now
  pub size : length words ≡ 16
  pub long : 0 < n → length (object_in old.view s).payload ≡ 16
  pub fit : 0 < n → CanReadFields old.view.core s → fits (object_in old.view s).payload
  pub same :
      (k : ℕ) → k < n → slice_index words k ≡ slice_index (object_in old.view s).payload k
  pub rest : IsAtRest d now

module _ {P V : Type 0} (fits : List ℕ → Type 0) (d : DomainState P) (s : SlotId)
    (old : SeatState V) (held : Holds old.view.core s) where
  pub none_read : (words : List ℕ) → length words ≡ 16 → IsAtRest d old
      → HasWords fits d s 0 words old old
  none_read words size rest = record {
    goes = goes_nowhere d old;
    size = size;
    long = λ low. absurd (omega (arith, low));
    fit = λ low reads. absurd (omega (arith, low));
    same = λ k low. absurd (omega (arith, low));
    rest = rest;
  }

  module _ (n : ℕ) (words : List ℕ) (now : SeatState V) (has : HasWords fits d s n words old now)
    where
      -- what it had it has still
      still_has : (x : SlotId) → HasSlot (show_seat old.view.core) x
          → HasSlot (show_seat now.view.core) x
      still_has x = subst (λ (v : CoreView). HasSlot (show_seat v) x) (sym has.goes.becomes.core)

      pub still_holds : Holds now.view.core s
      still_holds = subst (λ (v : CoreView). Holds v s) (sym has.goes.becomes.core) held

      object : object_in now.view s ≡ object_in old.view s
      object = has.goes.knows s (holds_has old.view.core s held)

      module _ (word : ℕ) (new : SeatState V) (few : n < 16)
          (read : word ≡ slice_index (object_in now.view s).payload n)
          (seen : SeesWord fits d s n word now new)
          (client : new.view.client ≡ now.view.client)
          (knows : KnowsStill now.view.core now new) (rest : IsAtRest d new) where
        here : object_in new.view s ≡ object_in now.view s
        here = knows s (holds_has now.view.core s still_holds)

        long : length (object_in old.view s).payload ≡ 16
        long =
            let step = seen.becomes.walks.1 in
            let e : length (object_in new.view s).payload ≡ 16 =
            ap (λ (x : SeatState V). length (object_in x.view s).payload) seen.becomes.walks.2
            ∙ step.told.payloads s in
            subst (λ (o : Object). length o.payload ≡ 16) (here ∙ object) e

        fit : CanReadFields old.view.core s → fits (object_in old.view s).payload
        fit reads =
            subst (λ (o : Object). fits o.payload) object
            (fits_told seen.becomes.walks.1.told s
            (subst (λ (v : CoreView). CanReadFields v s) (sym has.goes.becomes.core) reads))

        found : word ≡ slice_index (object_in old.view s).payload n
        found = read ∙ ap (λ (o : Object). slice_index o.payload n) object

        abbrev see : List Move
        see = move (act.See s n) (outcome.Word word) ∷ []

        one_more : Comes fits d see old.view.core old.view.core now new
        one_more = record {
          by = record {
            walks = seen.becomes.walks;
            core = seen.becomes.core
                ∙ ap (λ (v : CoreView). record v { trail = now.view.core.trail ++ see })
                has.goes.becomes.core;
            cleared = seen.becomes.cleared;
          };
          client = client;
          knows = λ x it. knows x (still_has x it);
        }

        pub one_read : HasWords fits d s (n + 1) (slice_set words n word) old new
        one_read = record {
          goes = goes_of d _ _ old new
              (subst (λ (ms : List Move). Comes fits d ms old.view.core old.view.core old new)
              (ap (λ (w : ℕ). seen_to s (object_in old.view s).payload n
              ++ move (act.See s n) (outcome.Word w) ∷ []) found
              ∙ sym (seen_more s (object_in old.view s).payload n))
              (comes_more d (seen_to s (object_in old.view s).payload n) see old.view.core
              old.view.core old.view.core old now new (comes_of d _ _ old now has.goes) one_more));
          size = length-set words n word ∙ has.size;
          long = λ low. long;
          fit = λ low. fit;
          same = λ k low. ⊎_elim
              (λ (e : k ≡ n).
              subst (λ (j : ℕ). slice_index (slice_set words n word) j
              ≡ slice_index (object_in old.view s).payload j) (sym e)
              (get_or-set_same words n word 0 (omega (arith, has.size, few)) ∙ found))
              (λ other. get_or-set_other words n k word 0 other
              ∙ has.same k (omega (arith, low, other)))
              (cases_eq k n);
          rest = rest;
        }

      module _ (all : n ≡ 16) where
        pub all_read : words ≡ (object_in old.view s).payload
        all_read =
            let size = has.size in
            let long = has.long (omega (arith, all)) in
            ext_get_or 0 words (object_in old.view s).payload (size ∙ sym long)
            (λ k low. has.same k (omega (arith, low, size, all)))

        pub all_fit : CanReadFields old.view.core s → fits words
        all_fit reads = subst fits (sym all_read) (has.fit (omega (arith, all)) reads)

        pub all_seen : Goes fits d (seen_by s words) old.view.core old now
        all_seen =
            subst (λ (ms : List Move). Goes fits d ms old.view.core old now)
            (ap (seen_to s (object_in old.view s).payload) all
            ∙ ap (λ (ws : List ℕ). seen_to s ws 16) (sym all_read)) has.goes
