-- How far a payload was compared, word by word.
use Rattle.std.proofs.Common.{◌≡◌, ◌≢◌, ℕ, ◌+◌, ◌<◌, List, [], ◌∷◌, ◌++◌, length, length-append, refl, sym, ap, subst, ◌∙◌, arith, ⊎_elim}
use Rattle.std.specs.Prelude.{slice_index}
use Rattle.std.proofs.lemmas.List.{get_or_default, same_lists}
use Rattle.std.proofs.lemmas.Bool.{cases_lt}
use Rattle.epoch_domain.specs.plain_protocol.plain_state.declared.slot.SlotId.{SlotId}
use Rattle.epoch_domain.specs.plain_protocol.Owns.{HasSlot, Object}
use Rattle.epoch_domain.specs.epoch_core.declared.act.EpochAct.TheVariants as act
use Rattle.epoch_domain.specs.epoch_core.declared.outcome.EpochOutcome.TheVariants as outcome
use Rattle.epoch_domain.specs.epoch_core.declared.view.EpochMove.{EpochMove}
use Rattle.epoch_domain.specs.epoch_core.declared.view.EpochView.{EpochView}
use Rattle.epoch_domain.specs.epoch_core.Shows.{show_seat}
use Rattle.epoch_domain.specs.epoch_core.Views.{Holds}
use Rattle.epoch_domain.specs.epoch_rule.Views.{object_in}
use Rattle.epoch_domain.specs.Calls.{IsSameView, Steps, same_view}
use Rattle.epoch_domain.specs.Domains.{DomainState}
use Rattle.epoch_domain.specs.Seats.{SeatState}
use Rattle.epoch_domain.proofs.Below.epoch_rule_Others.{held_has}
use Rattle.epoch_refs.specs.Searching.{Goes}
use Rattle.epoch_refs.specs.Walks.{IsAtRest, move}
use Rattle.epoch_refs.proofs.Going.{goes_nowhere, one_more}

module _ {P V : Type 0} (fits : List ℕ → Type 0) (d : DomainState P) (s : SlotId) where
  -- the first n words of the payload of s were read, nothing else was done, and they are those of this payload
  pub record SameSoFar (n : ℕ) (payload : List ℕ) (old now : SeatState V) : Type 0 where
    pub moves : List EpochMove
    pub as_many : length moves ≡ n
    pub goes : Goes fits d moves old.view.core old now
    pub rest : IsAtRest d now
    pub payload_size : length payload ≡ 16
    pub size : 0 < n → length (object_in old.view s).payload ≡ 16
    pub words :
        (k : ℕ) → k < n → slice_index (object_in old.view s).payload k ≡ slice_index payload k

  pub none_same : (payload : List ℕ) (old : SeatState V) → length payload ≡ 16 → IsAtRest d old
      → SameSoFar 0 payload old old
  none_same payload old long rest = record {
    moves = [];
    as_many = refl;
    goes = goes_nowhere fits d old;
    rest = rest;
    payload_size = long;
    size = λ low. absurd (omega (arith, low));
    words = λ k low. absurd (omega (arith, low));
  }

  module _ (n word : ℕ) (payload : List ℕ) (old now new : SeatState V)
      (held : Holds old.view.core s) (same : SameSoFar n payload old now)
      (step : Steps fits d same_view IsSameView (act.See s n) now new (outcome.Word word))
      (made : word ≡ slice_index (object_in new.view s).payload n) (rest : IsAtRest d new) where
    abbrev pub moves_then : List EpochMove
    moves_then = same.moves ++ move (act.See s n) (outcome.Word word) ∷ []

    pub read_goes : Goes fits d moves_then old.view.core old new
    read_goes =
        one_more fits d same.moves old.view.core old.view.core old now new same.goes (act.See s n)
        (outcome.Word word) step
        (same.goes.core
        ∙ ap (λ (t : List EpochMove). record old.view.core { trail = t })
        (sym (ap (λ (v : EpochView). v.trail) same.goes.core)))
        (λ x has. subst (λ (v : EpochView). HasSlot (show_seat v) x) (sym same.goes.core) has)
        (λ x has y. refl)

    pub one_longer : length moves_then ≡ n + 1
    one_longer =
        let l = length-append same.moves (move (act.See s n) (outcome.Word word) ∷ []) in
        let m = same.as_many in omega (arith, l, m)

    has : HasSlot (show_seat old.view.core) s
    has = held_has s old.view.core held

    known : object_in new.view s ≡ object_in old.view s
    known = read_goes.knows s has

    long : length (object_in old.view s).payload ≡ 16
    long = subst (λ (o : Object). length o.payload ≡ 16) known (step.told.payloads s)

    found_here : word ≡ slice_index (object_in old.view s).payload n
    found_here = made ∙ ap (λ (o : Object). slice_index o.payload n) known

    pub one_same : word ≡ slice_index payload n → SameSoFar (n + 1) payload old new
    one_same is = record {
      moves = moves_then;
      as_many = one_longer;
      goes = read_goes;
      rest = rest;
      payload_size = same.payload_size;
      size = λ low. long;
      words = λ k low. ⊎_elim
          (λ less. same.words k less)
          (λ past. let e : k ≡ n = omega (arith, low, past) in
          subst (λ j. slice_index (object_in old.view s).payload j ≡ slice_index payload j)
          (sym e) (sym found_here ∙ is))
          (cases_lt k n);
    }

    pub one_differs : word ≢ slice_index payload n → (object_in old.view s).payload ≢ payload
    one_differs not is = not (found_here ∙ ap (λ l. slice_index l n) is)

  pub all_same : (n : ℕ) (payload : List ℕ) (old now : SeatState V)
      → SameSoFar n payload old now → n ≡ 16 → (object_in old.view s).payload ≡ payload
  all_same n payload old now same whole =
      let long = same.payload_size in
      let size = same.size (omega (arith, whole)) in
      same_lists (object_in old.view s).payload payload (size ∙ sym long)
      (λ k def low.
      let far : k < length payload = omega (arith, low, size, long) in
      get_or_default (object_in old.view s).payload k def 0 low
      ∙ (same.words k (omega (arith, low, size, whole))
      ∙ get_or_default payload k 0 def far))
