-- How far a payload was compared, word by word.
use Rattle.std.proofs.Common.{◌≡◌, ◌≢◌, ℕ, suc, ◌+◌, ◌-◌, ◌<◌, ◌≤◌, Bool, true, List, [], ◌∷◌, ◌++◌, length, refl, sym, ap, subst, ◌∙◌, append_assoc, arith, ⊎_elim}
use Rattle.std.specs.Prelude.{slice_index}
use Rattle.std.proofs.lemmas.List.{append-nil, get_or_default, same_lists}
use Rattle.std.proofs.lemmas.Bool.{cases_lt}
use Rattle.atomic_weak.specs.plain_protocol.Owns.{HasSlot, Object}
use Rattle.atomic_weak.specs.core_events.declared.act.Act.TheVariants as act
use Rattle.atomic_weak.specs.core_events.declared.outcome.Outcome.TheVariants as outcome
use Rattle.atomic_weak.specs.core_events.declared.view.CoreView.{CoreView}
use Rattle.atomic_weak.specs.core_events.declared.view.Move.{Move}
use Rattle.atomic_weak.specs.plain_state.declared.slot.SlotId.{SlotId}
use Rattle.atomic_weak.specs.core_events.Shows.{show_seat}
use Rattle.atomic_weak.specs.core_events.Steps.{HasRoom}
use Rattle.atomic_weak.specs.core_events.Views.{Holds}
use Rattle.atomic_weak.specs.domain_rule.Views.{object_in}
use Rattle.atomic_weak.specs.acquire_retire.Collecting.{move}
use Rattle.atomic_weak.specs.acquire_retire.Domains.{DomainState}
use Rattle.atomic_weak.specs.acquire_retire.Seats.{SeatState}
use Rattle.atomic_weak.specs.control_word.Moves.{KnowsStill}
use Rattle.atomic_weak.specs.control_word.Resting.{IsAtRest}
use Rattle.atomic_weak.proofs.Below.protected_loads_Telling.{holds_has}
use Rattle.record_making.specs.slot_store.Calls.{SeesWord}
use Rattle.record_making.specs.directory_calls.Steps.{Leaves}
use Rattle.record_making.proofs.Below.directory_calls_Going.{leaves_core}
use Rattle.weak_intern.specs.Sighting.{Compares, compared_by}

-- n words of the payload of s were read, and nothing else was done
pub record HasRead {P V : Type 0} (d : DomainState P) (s : SlotId) (n : ℕ) (old now : SeatState V)
    : Type 0 where
  pub read : List ℕ
  pub as_many : length read ≡ n
  pub are : (k : ℕ) → k < n → slice_index read (n - 1 - k) ≡ slice_index (object_in old.view s).payload k
  pub core :
      now.view.core
      ≡ record old.view.core { trail = old.view.core.trail ++ compared_by s read }
  pub client : now.view.client ≡ old.view.client
  pub knows : KnowsStill old.view.core old now
  pub room : HasRoom now.view.core
  pub rest : IsAtRest d now

-- and they are the first n words of this payload
pub record Same {P V : Type 0} (d : DomainState P) (s : SlotId) (n : ℕ) (payload : List ℕ)
    (old now : SeatState V) : Type 0 where
  pub size : 0 < n → length (object_in old.view s).payload ≡ 16
  pub payload_size : length payload ≡ 16
  pub words :
      (k : ℕ) → k < n
      → slice_index (object_in old.view s).payload k ≡ slice_index payload k
  pub so_far : HasRead d s n old now

-- what the words that were read leave of the seat
module _ {P V : Type 0} (d : DomainState P) (s : SlotId) (n : ℕ) (old now : SeatState V)
    (has : HasRead d s n old now) where
  pub read_leaves : Leaves old.view.core.owned old.view.core.weaks old now
  read_leaves = leaves_core old now old.view.core _ has.core refl has.knows

  pub read_makes : now.view.core.makes ≡ old.view.core.makes
  read_makes = ap (λ (v : CoreView). v.makes) has.core

  pub read_compares : (payload : List ℕ) (same : Bool)
      → (same ≡ true → (n ≡ 16) × ((object_in old.view s).payload ≡ payload)) → n ≤ 16
      → Compares s payload same old.view.core now.view.core
  read_compares payload same whole few = record {
    words = has.read;
    few = omega (arith, has.as_many, few);
    all = λ is. let whole' = whole is in let n' = whole'.0 in (
      has.as_many ∙ n',
      λ k low. let at : 15 - k ≡ n - 1 - k = omega (arith, n') in
          ap (λ j. slice_index has.read j) at ∙ has.are k (omega (arith, low, n'))
          ∙ ap (λ (l : List ℕ). slice_index l k) whole'.1,
    );
    core = has.core;
  }

module _ {P V : Type 0} (fits : List ℕ → Type 0) (d : DomainState P) (s : SlotId)
    (payload : List ℕ) (old : SeatState V) where
  pub none_same : length payload ≡ 16 → IsAtRest d old → HasRoom old.view.core
      → Same d s 0 payload old old
  none_same long rest room = record {
    payload_size = long;
    size = λ low. absurd (omega (arith, low));
    words = λ k low. absurd (omega (arith, low));
    so_far = record {
      read = [];
      as_many = refl;
      are = λ k low. absurd (omega (arith, low));
      core = ap (λ (t : List Move). record old.view.core { trail = t })
          (sym (append-nil old.view.core.trail));
      client = refl;
      knows = λ x has. refl;
      room = room;
      rest = rest;
    };
  }

  module _ (n word : ℕ) (now new : SeatState V) (same : Same d s n payload old now)
      (held : Holds old.view.core s)
      (read : word ≡ slice_index (object_in now.view s).payload n)
      (seen : SeesWord fits d s n word now new)
      (client : new.view.client ≡ now.view.client)
      (knows : KnowsStill now.view.core now new)
      (room : HasRoom now.view.core → HasRoom new.view.core)
      (rest : IsAtRest d new) where
    abbrev so_far : HasRead d s n old now
    so_far = same.so_far

    has_now : (x : SlotId) → HasSlot (show_seat old.view.core) x
        → HasSlot (show_seat now.view.core) x
    has_now x has = subst (λ (v : CoreView). HasSlot (show_seat v) x) (sym so_far.core) has

    has_old : HasSlot (show_seat old.view.core) s
    has_old = holds_has old.view.core s held

    long : length (object_in old.view s).payload ≡ 16
    long =
        let step = seen.becomes.walks.1 in
        let e : length (object_in new.view s).payload ≡ 16 =
        ap (λ (x : SeatState V). length (object_in x.view s).payload) seen.becomes.walks.2
        ∙ step.told.payloads s in
        subst (λ (o : Object). length o.payload ≡ 16)
        (knows s (has_now s has_old) ∙ so_far.knows s has_old) e

    abbrev see_word : ℕ → List Move
    see_word k = move (act.See s k) (outcome.Word word) ∷ []

    found_here : word ≡ slice_index (object_in old.view s).payload n
    found_here = read
        ∙ ap (λ (o : Object). slice_index o.payload n) (so_far.knows s has_old)

    pub one_read : HasRead d s (n + 1) old new
    one_read = record {
      read = word ∷ so_far.read;
      as_many = omega (arith, so_far.as_many);
      are = λ k low. ⊎_elim
          (λ less. let at : n + 1 - 1 - k ≡ suc (n - 1 - k) = omega (arith, less) in
          ap (λ j. slice_index (word ∷ so_far.read) j) at ∙ so_far.are k less)
          (λ past. let at : n + 1 - 1 - k ≡ 0 = omega (arith, past) in
          let here : n ≡ k = omega (arith, low, past) in
          ap (λ j. slice_index (word ∷ so_far.read) j) at
          ∙ (found_here ∙ ap (λ j. slice_index (object_in old.view s).payload j) here))
          (cases_lt k n);
      core =
          seen.becomes.core
          ∙ (ap (λ (v : CoreView). record v { trail = v.trail ++ see_word n }) so_far.core
          ∙ ap (λ (t : List Move). record old.view.core { trail = t })
          (append_assoc old.view.core.trail (compared_by s so_far.read) (see_word n)
          ∙ ap (λ (k : ℕ). old.view.core.trail ++ (compared_by s so_far.read ++ see_word k))
          (sym so_far.as_many)));
      client = client ∙ so_far.client;
      knows = λ x has. knows x (has_now x has) ∙ so_far.knows x has;
      room = room so_far.room;
      rest = rest;
    }

    pub one_same : word ≡ slice_index payload n → Same d s (n + 1) payload old new
    one_same is = record {
      size = λ low. long;
      words = λ k low. ⊎_elim
          (λ less. same.words k less)
          (λ past. let e : k ≡ n = omega (arith, low, past) in
          subst (λ j. slice_index (object_in old.view s).payload j ≡ slice_index payload j)
          (sym e) (sym found_here ∙ is))
          (cases_lt k n);
      payload_size = same.payload_size;
      so_far = one_read;
    }

    pub one_differs : word ≢ slice_index payload n → (object_in old.view s).payload ≢ payload
    one_differs not is = not (found_here ∙ ap (λ l. slice_index l n) is)

  pub all_same : (n : ℕ) (now : SeatState V) → Same d s n payload old now → n ≡ 16
      → (object_in old.view s).payload ≡ payload
  all_same n now same whole =
      let long = same.payload_size in
      let size = same.size (omega arith) in
      same_lists (object_in old.view s).payload payload (size ∙ sym long)
      (λ k def low.
      let far : k < length payload = omega (arith, low, size, long) in
      get_or_default (object_in old.view s).payload k def 0 low
      ∙ (same.words k (omega (arith, low, size))
      ∙ get_or_default payload k 0 def far))

pub compared_adds : (s : SlotId) (payload : List ℕ) (same : Bool) (v w : CoreView)
    → Compares s payload same v w → w.adds ≡ v.adds
compared_adds s payload same v w compares = ap (λ (u : CoreView). u.adds) compares.core
