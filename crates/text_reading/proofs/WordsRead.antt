-- How far a payload was read, word by word.
use Rattle.std.proofs.Common.{◌≡◌, inl, ℕ, ◌+◌, ◌<◌, ◌++◌, List, [], ◌∷◌, length, refl, ap, sym, ◌∙◌, subst, arith, ⊎_elim}
use Rattle.std.specs.Prelude.{slice_index, slice_set}
use Rattle.std.proofs.lemmas.List.{ext_get_or, get_or-set_same, get_or-set_other, length-set}
use Rattle.std.proofs.lemmas.Bool.{cases_eq}
use Rattle.snapshot_ptr.specs.plain_state.declared.slot.SlotId.{SlotId}
use Rattle.snapshot_ptr.specs.plain_protocol.Owns.{HasSlot, Object}
use Rattle.slot_store.specs.core_events.declared.act.Act.TheVariants as act
use Rattle.slot_store.specs.core_events.declared.outcome.Outcome.TheVariants as outcome
use Rattle.slot_store.specs.core_events.declared.view.CoreView.{CoreView}
use Rattle.slot_store.specs.core_events.declared.view.Move.{Move}
use Rattle.slot_store.specs.core_events.Shows.{show_seat}
use Rattle.slot_store.specs.core_events.Views.{Holds, HoldsStrongly}
use Rattle.slot_store.proofs.Below.core_law_Lawful.{shows_lawful}
use Rattle.slot_store.specs.domain_rule.Views.{object_in}
use Rattle.slot_store.specs.acquire_retire.Collecting.{move}
use Rattle.slot_store.specs.acquire_retire.Domains.{DomainState}
use Rattle.slot_store.specs.acquire_retire.Seats.{SeatState}
use Rattle.slot_store.specs.control_word.Moves.{KnowsStill}
use Rattle.slot_store.specs.control_word.Resting.{IsAtRest}
use Rattle.slot_store.proofs.Below.control_word_Finding.{sound_before, strong_some}
use Rattle.snapshot_ptr.proofs.Below.protected_loads_Telling.{four_notes, holds_has}
use Rattle.slot_store.specs.Calls.{SeesWord}
use Rattle.text_reading.specs.Going.{ComesTo}
use Rattle.text_reading.proofs.Steps.{comes_none, comes_then}

-- the first n words of the slot's payload were read
pub record HasWords {P V : Type 0} (fits : List ℕ → Type 0) (d : DomainState P) (s : SlotId) (n : ℕ)
    (words : List ℕ) (old now : SeatState V) : Type 0 where
  pub size : length words ≡ 16
  pub four : 0 < n → length old.view.core.notes ≡ 4
  pub long : 0 < n → length (object_in old.view s).payload ≡ 16
  pub fit : 0 < n → fits (object_in old.view s).payload
  pub same :
      (k : ℕ) → k < n → slice_index words k ≡ slice_index (object_in old.view s).payload k
  pub core : ComesTo n old.view.core old.view.core now.view.core
  pub client : now.view.client ≡ old.view.client
  pub knows : KnowsStill old.view.core old now
  pub rest : IsAtRest d now

module _ {P V : Type 0} (fits : List ℕ → Type 0) (d : DomainState P) (s : SlotId)
    (old : SeatState V) (strongly : HoldsStrongly old.view.core s) where
  held : Holds old.view.core s
  held = omega (arith, strongly)

  pub none_read : (words : List ℕ) → length words ≡ 16 → IsAtRest d old
      → HasWords fits d s 0 words old old
  none_read words size rest = record {
    size = size;
    four = λ low. absurd (omega (arith, low));
    long = λ low. absurd (omega (arith, low));
    fit = λ low. absurd (omega (arith, low));
    same = λ k low. absurd (omega (arith, low));
    core = comes_none old.view.core;
    client = refl;
    knows = λ x has. refl;
    rest = rest;
  }

  -- what it had it has still
  pub has_still : (n : ℕ) (now : SeatState V) → ComesTo n old.view.core old.view.core now.view.core
      → (x : SlotId) → HasSlot (show_seat old.view.core) x → HasSlot (show_seat now.view.core) x
  has_still n now core x has =
      subst (λ (v : CoreView). HasSlot (show_seat v) x) (sym core.1) has

  pub holds_still : (n : ℕ) (now : SeatState V)
      → ComesTo n old.view.core old.view.core now.view.core → Holds now.view.core s
  holds_still n now core = subst (λ (v : CoreView). Holds v s) (sym core.1) held

  module _ (n word : ℕ) (words : List ℕ) (now new : SeatState V)
      (has : HasWords fits d s n words old now) (few : n < 16)
      (read : word ≡ slice_index (object_in now.view s).payload n)
      (seen : SeesWord fits d s n word now new)
      (client : new.view.client ≡ now.view.client)
      (knows : KnowsStill now.view.core now new)
      (rest : IsAtRest d new) where
    object : object_in now.view s ≡ object_in old.view s
    object = has.knows s (holds_has old.view.core s held)

    here : object_in new.view s ≡ object_in now.view s
    here = knows s (holds_has now.view.core s (holds_still n now has.core))

    long : length (object_in old.view s).payload ≡ 16
    long =
        let step = seen.becomes.walks.1 in
        let e : length (object_in new.view s).payload ≡ 16 =
        ap (λ (x : SeatState V). length (object_in x.view s).payload) seen.becomes.walks.2
        ∙ step.told.payloads s in
        subst (λ (o : Object). length o.payload ≡ 16) (here ∙ object) e

    four : length old.view.core.notes ≡ 4
    four = ap (λ (v : CoreView). length v.notes) (sym has.core.1)
        ∙ four_notes seen.becomes.walks.1.told

    -- the object lives at the step, so its payload fits
    fit : fits (object_in old.view s).payload
    fit =
        let told = seen.becomes.walks.1.told in
        let some' = strong_some told s
        (subst (λ (v : CoreView). HoldsStrongly v s) (sym has.core.1) strongly) in
        let lawful = shows_lawful d.shape told.happened.before (sound_before told) in
        let live = (lawful.strong s some').0 in
        subst (λ (o : Object). fits o.payload)
        (sym (told.said.objects s (holds_has now.view.core s (holds_still n now has.core)))
        ∙ object)
        (told.happened.fact.0 s (inl live))

    found : word ≡ slice_index (object_in old.view s).payload n
    found = read ∙ ap (λ (o : Object). slice_index o.payload n) object

    abbrev see : List Move
    see = move (act.See s n) (outcome.Word word) ∷ []

    pub one_read : HasWords fits d s (n + 1) (slice_set words n word) old new
    one_read = record {
      size = length-set words n word ∙ has.size;
      four = λ low. four;
      long = λ low. long;
      fit = λ low. fit;
      same = λ k low. ⊎_elim
          (λ (e : k ≡ n).
          subst (λ (j : ℕ). slice_index (slice_set words n word) j
          ≡ slice_index (object_in old.view s).payload j) (sym e)
          (get_or-set_same words n word 0 (omega (arith, has.size, few)) ∙ found))
          (λ other. get_or-set_other words n k word 0 other
          ∙ has.same k (omega (arith, low, other)))
          (cases_eq k n);
      core = comes_then n 1 old.view.core old.view.core old.view.core now.view.core new.view.core
          has.core (
            see,
            seen.becomes.core
                ∙ ap (λ (v : CoreView). record v { trail = now.view.core.trail ++ see })
                has.core.1,
            refl,
          );
      client = client ∙ has.client;
      knows = λ x it. knows x (has_still n now has.core x it) ∙ has.knows x it;
      rest = rest;
    }

  pub all_read : (n : ℕ) (words : List ℕ) (now : SeatState V) → HasWords fits d s n words old now
      → n ≡ 16 → words ≡ (object_in old.view s).payload
  all_read n words now has all =
      let size = has.size in
      let long = has.long (omega (arith, all)) in
      ext_get_or 0 words (object_in old.view s).payload (size ∙ sym long)
      (λ k low. has.same k (omega (arith, low, size, all)))

  pub all_four : (n : ℕ) (words : List ℕ) (now : SeatState V) → HasWords fits d s n words old now
      → n ≡ 16 → length old.view.core.notes ≡ 4
  all_four n words now has all = has.four (omega (arith, all))

  pub all_fit : (n : ℕ) (words : List ℕ) (now : SeatState V) → HasWords fits d s n words old now
      → n ≡ 16 → words ≡ (object_in old.view s).payload → fits words
  all_fit n words now has all is = subst fits (sym is) (has.fit (omega (arith, all)))
