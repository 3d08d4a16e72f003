-- The words of the payload of a dying slot one after another.
use Rattle.std.proofs.Common.{◌≡◌, ◌≢◌, ⊎_elim, inr, ℕ, suc, ◌+◌, ◌<◌, List, [], ◌∷◌, ◌++◌, length, get_or, set, refl, ap, sym, ◌∙◌, subst, arith}
use Rattle.std.specs.Prelude.{slice_index}
use Rattle.std.proofs.lemmas.Bool.{cases_eq}
use Rattle.std.proofs.lemmas.Bool.Decides.{nat_tests}
use Rattle.std.proofs.lemmas.List.{get_or-set_other, get_or-set_same, length-set}
use Rattle.protocol_pairs.specs.plain_state.declared.slot.PlainSlot.{PlainSlot}
use Rattle.protocol_pairs.specs.plain_state.declared.slot.SlotId.{SlotId}
use Rattle.protocol_pairs.specs.plain_state.Lists.{times}
use Rattle.protocol_pairs.specs.plain_state.State.{stage_at}
use Rattle.protocol_pairs.specs.plain_state.declared.slot.Stage.TheVariants.{Ended}
use Rattle.protocol_pairs.specs.plain_protocol.Owns.{HasSlot, Object}
use Rattle.claim_law.specs.core_events.declared.act.Act.TheVariants as act
use Rattle.claim_law.specs.core_events.declared.outcome.Outcome.{Outcome}
use Rattle.claim_law.specs.core_events.declared.outcome.Outcome.TheVariants as outcome
use Rattle.claim_law.specs.core_events.declared.view.CoreView.{CoreView}
use Rattle.claim_law.specs.core_events.declared.view.Move.{Move}
use Rattle.claim_law.specs.core_events.Shows.{show_seat, shows}
use Rattle.claim_law.specs.core_events.Steps.{HasRoom, May}
use Rattle.claim_law.specs.core_events.Words.{each_from, payload_at}
use Rattle.claim_law.proofs.Below.core_law_Each.{get_each}
use Rattle.claim_law.proofs.Below.core_law_Kit.{total_at}
use Rattle.claim_law.proofs.Below.core_law_Bridge.{shown_dying, shown_slot}
use Rattle.claim_law.proofs.Below.core_law_Lawful.{shows_lawful}
use Rattle.claim_law.proofs.Below.core_law_Lists.{each_push}
use Rattle.retiring_stores.specs.domain_rule.Views.{object_in}
use Rattle.retiring_stores.specs.acquire_retire.Calls.{IsSameView, Steps, same_view}
use Rattle.retiring_stores.specs.acquire_retire.Collecting.{move, rest_of}
use Rattle.retiring_stores.specs.acquire_retire.Domains.{DomainState}
use Rattle.retiring_stores.specs.acquire_retire.Seats.{SeatState}
use Rattle.retiring_stores.proofs.Below.acquire_retire_Images.{all_each}
use Rattle.retiring_stores.specs.control_word.Resting.{IsAtRest}
use Rattle.retiring_stores.proofs.Below.control_word_Becoming.{Comes, bare, comes_more, comes_one, rest_after}
use Rattle.slot_store.specs.Reaping.{Passes, SeesAll}
use Rattle.slot_store.specs.Searching.{Goes}
use Rattle.retiring_stores.proofs.Below.control_word_Finding.{sound_before}
use Rattle.slot_store.proofs.Telling.{slot_there}
use Rattle.slot_store.proofs.Claims.{comes_of, goes_nowhere, goes_of}

abbrev pub seen_to : SlotId → List ℕ → ℕ → List Move
seen_to s payload n = each_from 0 n (λ i. move (act.See s i) (outcome.Word (slice_index payload i)))

seen_more : (s : SlotId) (payload : List ℕ) (n : ℕ)
    → seen_to s payload (n + 1)
    ≡ seen_to s payload n ++ move (act.See s n) (outcome.Word (slice_index payload n)) ∷ []
seen_more s payload n =
    let f : ℕ → Move = λ i. move (act.See s i) (outcome.Word (slice_index payload i)) in
    let next : n + 1 ≡ suc n = omega arith in
    let at : 0 + n ≡ n = omega arith in
    ap (λ (k : ℕ). each_from 0 k f) next ∙ each_push 0 n f
    ∙ ap (λ (k : ℕ). each_from 0 n f ++ f k ∷ []) at

dies_has : (v : CoreView) (s : SlotId) → 0 < times s v.dying → HasSlot (show_seat v) s
dies_has v s some = grind (arith, nat_tests)

-- the seat has read the first n words of the payload of s
pub record Seen {P V : Type 0} (fits : List ℕ → Type 0) (d : DomainState P) (s : SlotId) (n : ℕ)
    (payload : List ℕ) (old now : SeatState V) : Type 0 where
  pub goes : Goes fits d (seen_to s (object_in old.view s).payload n) old.view.core old now
  pub size : length payload ≡ 16
  pub words : (i : ℕ) → i < n → get_or payload i 0 ≡ get_or (object_in old.view s).payload i 0
  pub long : 0 < n → length (object_in now.view s).payload ≡ 16
  pub fit : 0 < n → fits (object_in old.view s).payload

module _ {P V : Type 0} {fits : List ℕ → Type 0} (d : DomainState P) (s : SlotId) (old : SeatState V)
    (rest : IsAtRest d old) (dying : 0 < times s old.view.core.dying) where
  pub none_seen : (payload : List ℕ) → length payload ≡ 16 → Seen fits d s 0 payload old old
  none_seen payload long = record {
    goes = goes_nowhere d old;
    size = long;
    words = λ i below. absurd (omega arith);
    long = λ some. absurd (omega arith);
    fit = λ some. absurd (omega arith);
  }

  module _ (n : ℕ) (payload : List ℕ) (now : SeatState V) (seen : Seen fits d s n payload old now)
    where
      pub rests_now : IsAtRest d now
      rests_now = rest_after d _ old.view.core old now seen.goes.becomes refl rest

      dies_now : 0 < times s now.view.core.dying
      dies_now =
          let same = ap (λ (v : CoreView). times s v.dying) seen.goes.becomes.core in omega arith

      pub may_see : n < 16 → May d.shape (act.See s n) now.view.core
      may_see below = (rests_now.idle, inr dies_now, below)

      same_now : object_in now.view s ≡ object_in old.view s
      same_now = seen.goes.knows s (dies_has old.view.core s dying)

      module _ (new : SeatState V) (o : Outcome) (below : n < 16)
          (step : Steps fits d same_view IsSameView (act.See s n) now new o) where
        -- the word is that of the object that the seat knows
        word_is : step.word ≡ get_or (object_in old.view s).payload n 0
        word_is =
            let has = dies_has now.view.core s dies_now in
            let there = slot_there step.told s has in
            let before = step.told.happened.before in
            let at : 0 + n ≡ n = omega arith in
            step.told.happened.found
            ∙ sym (ap (λ (x : PlainSlot). slice_index x.payload n) (shown_slot d.shape before s there)
            ∙ get_each 0 16 n (λ k. slice_index before.words (payload_at d.shape s k)) 0 below
            ∙ ap (λ (k : ℕ). slice_index before.words (payload_at d.shape s k)) at)
            ∙ ap (λ (x : Object). slice_index x.payload n)
            (sym (step.told.said.objects s has) ∙ same_now)

        -- the object fits, since it has ended
        fits_now : fits (object_in old.view s).payload
        fits_now =
            let h = step.told.happened in
            let so = sound_before step.told in
            let has = dies_has now.view.core s dies_now in
            let mine = total_at (λ (v : CoreView). times s v.dying) h.before.views now.view.core.seat
            h.enabled.0 in
            let some = subst (λ (v : CoreView). 0 < times s v.dying) h.view dies_now in
            let shown = shown_dying d.shape h.before s in
            let ended : stage_at (shows d.shape h.before) s ≡ Ended =
            ((shows_lawful d.shape h.before so).dying s).1 (omega arith) in
            subst fits
            (ap (λ (x : Object). x.payload) (sym (step.told.said.objects s has) ∙ same_now))
            (h.fact.0 s (inr ended))

        pub one_seen : (word : ℕ) → o ≡ outcome.Word word
            → Seen fits d s (n + 1) (set payload n word) old new
        one_seen word is =
            let found : word ≡ step.word = cc (step.answers, is) in
            let known = found ∙ word_is in
            let x = get_or (object_in old.view s).payload n 0 in
            let size = length-set payload n word in
            let had = seen.size in
            record {
              goes = goes_of d _ _ old new
                  (subst (λ (ms : List Move). Comes fits d ms old.view.core old.view.core old new)
                  (sym (seen_more s (object_in old.view s).payload n))
                  (comes_more d (seen_to s (object_in old.view s).payload n)
                  (move (act.See s n) (outcome.Word x) ∷ []) old.view.core old.view.core old.view.core
                  old now new (comes_of d _ _ old now seen.goes)
                  (comes_one d (act.See s n) now new (outcome.Word x) x old.view.core old.view.core
                  (subst (λ (y : Outcome). Steps fits d same_view IsSameView (act.See s n) now new y)
                  (step.answers ∙ ap outcome.Word word_is) step)
                  refl (ap bare seen.goes.becomes.core) refl
                  (λ y. subst (λ (v : CoreView). HasSlot (show_seat v) y)
                  (sym seen.goes.becomes.core))
                  (λ w y it. refl))));
              size = omega arith;
              words = λ i lt. ⊎_elim
                  (λ (here : i ≡ n).
                  subst (λ (j : ℕ). get_or (set payload n word) j 0
                  ≡ get_or (object_in old.view s).payload j 0) (sym here)
                  (get_or-set_same payload n word 0 (omega arith) ∙ known))
                  (λ (ne : i ≢ n). get_or-set_other payload n i word 0 ne
                  ∙ seen.words i (omega arith))
                  (cases_eq i n);
              long = λ some. step.told.payloads s;
              fit = λ some. fits_now;
            }

      pub all_seen_so : n ≡ 16 → SeesAll fits d s payload old now
      all_seen_so is =
          let same : payload ≡ (object_in old.view s).payload =
          all_each (λ k. get_or (object_in old.view s).payload k 0) 16 payload seen.size
          (λ k below. seen.words k (omega arith))
          ∙ sym (all_each (λ k. get_or (object_in old.view s).payload k 0) 16
          (object_in old.view s).payload
          (ap (λ (x : Object). length x.payload) (sym same_now) ∙ seen.long (omega arith))
          (λ k below. refl)) in
          record {
            goes = subst (λ (ms : List Move). Goes fits d ms old.view.core old now)
                (ap (seen_to s (object_in old.view s).payload) is
                ∙ ap (λ (words : List ℕ). seen_to s words 16) (sym same))
                seen.goes;
            known = same;
            fit = subst fits (sym same) (seen.fit (omega arith));
          }

      -- reading changes nothing of what the seat has
      pub passes_seen : HasRoom old.view.core → Passes d old now
      passes_seen room = record {
        same = ap rest_of seen.goes.becomes.core;
        dying = λ x some.
            let same = ap (λ (v : CoreView). times x v.dying) seen.goes.becomes.core in omega arith;
        ripe = λ x some.
            let same = ap (λ (v : CoreView). times x v.ripe) seen.goes.becomes.core in omega arith;
        has = λ x. subst (λ (v : CoreView). HasSlot (show_seat v) x) (sym seen.goes.becomes.core);
        knows = seen.goes.knows;
        client = seen.goes.client;
        room = subst (λ (v : CoreView). HasRoom v) (sym seen.goes.becomes.core) room;
        rest = rests_now;
      }
