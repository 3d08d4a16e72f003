-- The words of a payload one after another.
use Rattle.std.proofs.Common.{◌≡◌, ◌≢◌, ⊎_elim, ℕ, suc, ◌+◌, ◌<◌, true, false, List, [], ◌∷◌, ◌++◌, append_assoc, length, get_or, set, refl, ap, sym, ◌∙◌, subst, arith}
use Rattle.std.specs.Prelude.{Option, slice_index}
use Rattle.std.proofs.lemmas.Bool.{cases_eq}
use Rattle.std.proofs.lemmas.Bool.Decides.{nat_tests}
use Rattle.std.proofs.lemmas.List.{get_or-set_other, get_or-set_same, length-set}
use Rattle.std.proofs.lemmas.Grind.{same_number_lists}
use Rattle.epoch_domain.proofs.Below.core_law_Lists.{each_push}
use Rattle.epoch_domain.proofs.Below.epoch_rule_Others.{fills_has}
use Rattle.epoch_domain.specs.domain_rule.Told.{changed_object}
use Rattle.epoch_domain.specs.plain_protocol.plain_state.declared.act.PlainAct.TheVariants as plain
use Rattle.epoch_domain.specs.plain_protocol.plain_state.declared.slot.SlotId.{SlotId}
use Rattle.epoch_domain.specs.plain_protocol.plain_state.Lists.{is_slot}
use Rattle.epoch_domain.specs.plain_protocol.Owns.{HasSlot, Object}
use Rattle.epoch_domain.specs.epoch_core.core_events.Words.{each_from}
use Rattle.epoch_domain.specs.epoch_core.declared.act.EpochAct.TheVariants as act
use Rattle.epoch_domain.specs.epoch_core.declared.outcome.EpochOutcome.{EpochOutcome}
use Rattle.epoch_domain.specs.epoch_core.declared.outcome.EpochOutcome.TheVariants as outcome
use Rattle.epoch_domain.specs.epoch_core.declared.view.EpochMove.{EpochMove}
use Rattle.epoch_domain.specs.epoch_core.declared.view.EpochPhase.TheVariants as phase
use Rattle.epoch_domain.specs.epoch_core.declared.view.EpochView.{EpochView}
use Rattle.epoch_domain.specs.epoch_core.Shows.{show_seat}
use Rattle.epoch_domain.specs.epoch_core.Steps.{moved}
use Rattle.epoch_domain.specs.epoch_core.Views.{slot_of}
use Rattle.epoch_domain.specs.epoch_rule.Told.{fill_of}
use Rattle.epoch_domain.specs.epoch_rule.Views.{object_in}
use Rattle.epoch_domain.specs.Calls.{IsOf, IsSameView, Steps, same_view}
use Rattle.epoch_domain.specs.Domains.{DomainState}
use Rattle.epoch_domain.specs.Seats.{SeatState}
use Rattle.epoch_refs.specs.Making.{Fills}
use Rattle.epoch_refs.specs.Walks.{Walks, move}
use Rattle.epoch_refs.proofs.Going.{append_nil, walk_one, walks_more, walks_table}

abbrev fill_at : List ℕ → ℕ → EpochMove
fill_at payload i = move (act.Fill i (slice_index payload i)) outcome.Plain

-- the events that fill in the first n words
abbrev pub filled_to : List ℕ → ℕ → List EpochMove
filled_to payload n = each_from 0 n (fill_at payload)

filled_more : (payload : List ℕ) (n : ℕ)
    → filled_to payload (n + 1) ≡ filled_to payload n ++ fill_at payload n ∷ []
filled_more payload n =
    let next : n + 1 ≡ suc n = omega arith in
    let at : 0 + n ≡ n = omega arith in
    ap (λ (k : ℕ). filled_to payload k) next ∙ each_push 0 n (fill_at payload)
    ∙ ap (λ (k : ℕ). filled_to payload n ++ fill_at payload k ∷ []) at

-- a fill of one slot leaves the objects of all others
fill_leaves : (s x : SlotId) (i w : ℕ) (o : Object) → x.0 ≢ s.0
    → changed_object (plain.Fill s i w) x o ≡ o
fill_leaves s x i w o apart =
    let other : is_slot s x ≡ false = grind (arith, nat_tests) in rw other refl

fill_takes : (s : SlotId) (i w : ℕ) (o : Object)
    → changed_object (plain.Fill s i w) s o ≡ record o { payload = set o.payload i w }
fill_takes s i w o =
    let same : s.0 ≡ s.0 = refl in
    let itself : is_slot s s ≡ true = grind (arith, nat_tests) in rw itself refl

-- one more word of a payload
word_more : (payload words : List ℕ) (n : ℕ) → n < length words
    → ((i : ℕ) → i < n → slice_index words i ≡ slice_index payload i) → (i : ℕ) → i < n + 1
    → slice_index (set words n (slice_index payload n)) i ≡ slice_index payload i
word_more payload words n there same i below = ⊎_elim
    (λ (here : i ≡ n). subst (λ (j : ℕ). get_or (set words n (get_or payload n 0)) j 0
    ≡ get_or payload j 0) (sym here) (get_or-set_same words n (get_or payload n 0) 0 there))
    (λ (ne : i ≢ n).
    get_or-set_other words n i (get_or payload n 0) 0 ne ∙ same i (omega arith))
    (cases_eq i n)

-- the seat has filled in the first n words of s
pub record Filled {P V : Type 0} (fits : List ℕ → Type 0) (d : DomainState P) (payload : List ℕ)
    (n : ℕ) (s : SlotId) (old now : SeatState V) : Type 0 where
  pub walks : Walks fits d (filled_to payload n) old now
  pub core :
      now.view.core
      ≡ record old.view.core { trail = old.view.core.trail ++ filled_to payload n }
  pub client : now.view.client ≡ old.view.client
  pub others :
      (x : SlotId) → x.0 ≢ s.0 → HasSlot (show_seat old.view.core) x
      → object_in now.view x ≡ object_in old.view x
  pub size : 0 < n → length (object_in now.view s).payload ≡ 16
  pub words :
      (i : ℕ) → i < n → slice_index (object_in now.view s).payload i ≡ slice_index payload i

module _ {P V : Type 0} (fits : List ℕ → Type 0) (d : DomainState P) (payload : List ℕ) (s : SlotId)
    (old : SeatState V) where
  pub none_filled : Filled fits d payload 0 s old old
  none_filled = record {
    walks = refl;
    core = ap (λ (t : List EpochMove). record old.view.core { trail = t })
        (sym (append_nil old.view.core.trail));
    client = refl;
    others = λ x apart has. refl;
    size = λ some. absurd (omega arith);
    words = λ i below. absurd (omega arith);
  }

  module _ (blank : old.view.core.phase ≡ phase.Blank s) (n : ℕ) (now : SeatState V)
      (filled : Filled fits d payload n s old now) where
    pub still_blank : now.view.core.phase ≡ phase.Blank s
    still_blank = ap (λ (v : EpochView). v.phase) filled.core ∙ blank

    pub is_of_still : IsOf d old → IsOf d now
    is_of_still of = (
      walks_table fits d (filled_to payload n) old now filled.walks ∙ of.0,
      ap (λ (v : EpochView). v.shape) filled.core ∙ of.1,
    )

    module _ (new : SeatState V) (o : EpochOutcome) (below : n < 16)
        (step : Steps fits d same_view IsSameView (act.Fill n (slice_index payload n)) now new o)
      where
        -- of each slot that the seat has, the object after the fill
        object_then : (x : SlotId) → HasSlot (show_seat now.view.core) x
            → object_in new.view x
            ≡ changed_object (plain.Fill s n (slice_index payload n)) x (object_in now.view x)
        object_then x has =
            step.told.objects x has
            ∙ ap (λ (y : Option SlotId). changed_object (fill_of n (slice_index payload n) y) x
            (object_in now.view x)) (ap slot_of still_blank)

        object : object_in new.view s
            ≡ record (object_in now.view s) {
              payload = set (object_in now.view s).payload n (slice_index payload n);
            }
        object =
            object_then s (fills_has s now.view.core still_blank)
            ∙ fill_takes s n (slice_index payload n) (object_in now.view s)

        long : length (object_in now.view s).payload ≡ 16
        long =
            let same = length-set (object_in now.view s).payload n (slice_index payload n) in
            let is = ap (λ (x : Object). length x.payload) object in
            let all = step.told.payloads s in omega arith

        pub one_filled : Filled fits d payload (n + 1) s old new
        one_filled = record {
          walks = subst (λ (ms : List EpochMove). Walks fits d ms old new)
              (sym (filled_more payload n))
              (walks_more fits d (filled_to payload n) (fill_at payload n ∷ []) old now new
              filled.walks
              (walk_one fits d (act.Fill n (slice_index payload n)) outcome.Plain now new
              (subst (Steps fits d same_view IsSameView (act.Fill n (slice_index payload n)) now new)
              step.answers step)));
          core = step.told.core
              ∙ (ap (moved d.shape (act.Fill n (slice_index payload n)) step.word) filled.core
              ∙ ap (λ (t : List EpochMove). record old.view.core { trail = t })
              (append_assoc old.view.core.trail (filled_to payload n) (fill_at payload n ∷ [])
              ∙ ap (λ (ms : List EpochMove). old.view.core.trail ++ ms)
              (sym (filled_more payload n))));
          client = step.told.client ∙ filled.client;
          others = λ x apart has.
              object_then x (subst (λ (v : EpochView). HasSlot (show_seat v) x) (sym filled.core) has)
              ∙ fill_leaves s x n (slice_index payload n) (object_in now.view x) apart
              ∙ filled.others x apart has;
          size = λ some. step.told.payloads s;
          words = λ i lt. ap (λ (x : Object). slice_index x.payload i) object
              ∙ word_more payload (object_in now.view s).payload n (omega (arith, long)) filled.words i lt;
        }

    -- with the last word it has the payload
    pub all_filled : n ≡ 16 → length payload ≡ 16 → Fills fits d payload s old now
    all_filled is size =
        let T : ℕ → Type 0 = λ k. Walks fits d (filled_to payload k) old now
        × (now.view.core
        ≡ record old.view.core { trail = old.view.core.trail ++ filled_to payload k }) in
        let all = subst T is (filled.walks, filled.core) in
        let long = filled.size (omega arith) in
        record {
          walks = all.0;
          core = all.1;
          client = filled.client;
          others = filled.others;
          filled = same_number_lists (object_in now.view s).payload payload (omega arith)
              (λ k below. filled.words k (omega arith));
        }
