-- The words of a payload one after another.
use Rattle.std.proofs.Common.{◌≡◌, ◌≢◌, ℕ, suc, ◌+◌, ◌<◌, true, false, List, [], ◌∷◌, ◌++◌, length, set, refl, ap, sym, ◌∙◌, subst, arith}
use Rattle.std.specs.Prelude.{Option, slice_index}
use Rattle.std.proofs.lemmas.Bool.Decides.{nat_tests}
use Rattle.std.proofs.lemmas.List.{length-set}
use Rattle.protocol_pairs.specs.plain_state.declared.act.PlainAct.TheVariants as plain
use Rattle.protocol_pairs.specs.plain_state.declared.slot.SlotId.{SlotId}
use Rattle.protocol_pairs.specs.plain_state.Lists.{is_slot}
use Rattle.protocol_pairs.specs.plain_protocol.Owns.{HasSlot, Object}
use Rattle.claim_law.specs.core_events.declared.act.Act.{Act}
use Rattle.claim_law.specs.core_events.declared.act.Act.TheVariants as act
use Rattle.claim_law.specs.core_events.declared.outcome.Outcome.{Outcome}
use Rattle.claim_law.specs.core_events.declared.outcome.Outcome.TheVariants as outcome
use Rattle.claim_law.specs.core_events.declared.view.CoreView.{CoreView}
use Rattle.claim_law.specs.core_events.declared.view.Move.{Move}
use Rattle.claim_law.specs.core_events.declared.view.Phase.TheVariants as phase
use Rattle.claim_law.specs.core_events.Shows.{show_seat}
use Rattle.claim_law.specs.core_events.ShownSteps.{on_slot}
use Rattle.claim_law.specs.core_events.Views.{slot_of}
use Rattle.claim_law.specs.core_events.Words.{each_from}
use Rattle.claim_law.proofs.Below.core_law_Lists.{each_push}
use Rattle.retiring_stores.specs.domain_rule.Told.{changed_object}
use Rattle.retiring_stores.specs.domain_rule.Views.{object_in}
use Rattle.retiring_stores.proofs.Below.domain_rule_Others.{fills_has}
use Rattle.retiring_stores.specs.acquire_retire.Calls.{IsSameView, IsOf, Steps, same_view}
use Rattle.retiring_stores.specs.acquire_retire.Collecting.{move}
use Rattle.retiring_stores.specs.acquire_retire.Domains.{DomainState}
use Rattle.retiring_stores.specs.acquire_retire.Seats.{SeatState}
use Rattle.retiring_stores.proofs.Below.acquire_retire_Images.{all_each}
use Rattle.retiring_stores.proofs.Below.acquire_retire_Makes.{fill_more}
use Rattle.retiring_stores.specs.control_word.Moves.{Becomes}
use Rattle.retiring_stores.proofs.Below.control_word_Becoming.{bare, more_steps, one_step}
use Rattle.slot_store.specs.Calls.{Fills}
use Rattle.slot_store.proofs.Tries.{append_nil}

-- the moves that fill in the first n words
abbrev pub filled_to : List ℕ → ℕ → List Move
filled_to payload n = each_from 0 n (λ i. move (act.Fill i (slice_index payload i)) outcome.Plain)

filled_more : (payload : List ℕ) (n : ℕ)
    → filled_to payload (n + 1)
    ≡ filled_to payload n ++ move (act.Fill n (slice_index payload n)) outcome.Plain ∷ []
filled_more payload n =
    let f : ℕ → Move = λ i. move (act.Fill i (slice_index payload i)) outcome.Plain in
    let next : n + 1 ≡ suc n = omega arith in
    let at : 0 + n ≡ n = omega arith in
    ap (λ (k : ℕ). each_from 0 k f) next ∙ each_push 0 n f
    ∙ ap (λ (k : ℕ). each_from 0 n f ++ f k ∷ []) at

-- a fill of one slot leaves the objects of all others
fill_leaves : (s x : SlotId) (i w : ℕ) (o : Object) → x.0 ≢ s.0
    → changed_object (plain.Fill s i w) x o ≡ o
fill_leaves s x i w o apart =
    let other : is_slot s x ≡ false = grind (arith, nat_tests) in rw other refl

fill_takes : (s : SlotId) (i w : ℕ) (o : Object)
    → changed_object (plain.Fill s i w) s o ≡ record o { payload = set o.payload i w }
fill_takes s i w o =
    let same : s.0 ≡ s.0 = refl in
    let itself : is_slot s s ≡ true = grind (arith, nat_tests) in rw itself refl

-- the seat has filled in the first n words of s
pub record Filled {P V : Type 0} (fits : List ℕ → Type 0) (d : DomainState P) (payload : List ℕ)
    (n : ℕ) (s : SlotId) (old now : SeatState V) : Type 0 where
  pub table : now.table ≡ old.table
  pub becomes :
      Becomes fits d same_view IsSameView (filled_to payload n) old.view.core old now
  pub client : now.view.client ≡ old.view.client
  pub others :
      (x : SlotId) → x.0 ≢ s.0 → HasSlot (show_seat old.view.core) x
      → object_in now.view x ≡ object_in old.view x
  pub size : 0 < n → length (object_in now.view s).payload ≡ 16
  pub words :
      (i : ℕ) → i < n → slice_index (object_in now.view s).payload i ≡ slice_index payload i

module _ {P V : Type 0} {fits : List ℕ → Type 0} (d : DomainState P) (payload : List ℕ) (s : SlotId)
    (old : SeatState V) where
  pub none_filled : Filled fits d payload 0 s old old
  none_filled = record {
    table = refl;
    becomes = record {
      walks = refl;
      core = ap (λ (t : List Move). record old.view.core { trail = t })
          (sym (append_nil old.view.core.trail));
      cleared = refl;
    };
    client = refl;
    others = λ x apart has. refl;
    size = λ some. absurd (omega arith);
    words = λ i below. absurd (omega arith);
  }

  module _ (blank : old.view.core.phase ≡ phase.Blank s) (n : ℕ) (now : SeatState V)
      (filled : Filled fits d payload n s old now) where
    pub still_blank : now.view.core.phase ≡ phase.Blank s
    still_blank = ap (λ (v : CoreView). v.phase) filled.becomes.core ∙ blank

    pub is_of_still : IsOf d old → IsOf d now
    is_of_still of = (
      filled.table ∙ of.0,
      ap (λ (v : CoreView). v.shape) filled.becomes.core ∙ of.1,
    )

    pub one_filled : (new : SeatState V) (o : Outcome) → n < 16
        → Steps fits d same_view IsSameView (act.Fill n (slice_index payload n)) now new o
        → Filled fits d payload (n + 1) s old new
    one_filled new o below step = record {
      table = step.table ∙ filled.table;
      becomes = subst (λ (ms : List Move).
          Becomes fits d same_view IsSameView ms old.view.core old new)
          (sym (filled_more payload n))
          (more_steps d (filled_to payload n) (move a outcome.Plain ∷ []) old.view.core
          old.view.core old now new filled.becomes
          (one_step d a now new outcome.Plain 0 old.view.core
          (subst (λ (x : Outcome). Steps fits d same_view IsSameView a now new x) step.answers step)
          refl (ap bare filled.becomes.core) refl));
      client = step.told.client ∙ filled.client;
      others = λ x apart has.
          step.told.objects x (subst (λ (v : CoreView). HasSlot (show_seat v) x)
          (sym filled.becomes.core) has)
          ∙ ap (λ (y : Option SlotId). changed_object (on_slot (λ (r : SlotId).
          plain.Fill r n (slice_index payload n)) y) x (object_in now.view x))
          (ap slot_of still_blank)
          ∙ fill_leaves s x n (slice_index payload n) (object_in now.view x) apart
          ∙ filled.others x apart has;
      size = λ some. step.told.payloads s;
      words = words;
    }
      where
        a : Act
        a = act.Fill n (slice_index payload n)

        object : object_in new.view s
            ≡ record (object_in now.view s) {
              payload = set (object_in now.view s).payload n (slice_index payload n);
            }
        object =
            step.told.objects s (fills_has s now.view.core still_blank)
            ∙ ap (λ (y : Option SlotId). changed_object (on_slot (λ (r : SlotId).
            plain.Fill r n (slice_index payload n)) y) s (object_in now.view s))
            (ap slot_of still_blank)
            ∙ fill_takes s n (slice_index payload n) (object_in now.view s)

        long : length (object_in now.view s).payload ≡ 16
        long =
            let same = length-set (object_in now.view s).payload n (slice_index payload n) in
            let is = ap (λ (x : Object). length x.payload) object in
            let all = step.told.payloads s in omega arith

        words : (i : ℕ) → i < n + 1
            → slice_index (object_in new.view s).payload i ≡ slice_index payload i
        words =
            (fill_more d s payload n old now new o blank below
            (record {
              core = filled.becomes.core
                  ∙ ap (λ (t : List Move). record old.view.core { trail = t })
                  (sym (ap (λ (v : CoreView). v.trail) filled.becomes.core));
              size = long;
              words = filled.words;
            }) step).words

    -- with the last word it has the payload
    pub all_filled : n ≡ 16 → length payload ≡ 16 → Fills fits d payload s old now
    all_filled is long = record {
      becomes = subst (λ (k : ℕ).
          Becomes fits d same_view IsSameView (filled_to payload k) old.view.core old now) is
          filled.becomes;
      client = filled.client;
      others = filled.others;
      filled =
          all_each (λ k. slice_index payload k) 16 (object_in now.view s).payload (filled.size (omega arith))
          (λ k below. filled.words k (omega arith))
          ∙ sym (all_each (λ k. slice_index payload k) 16 payload long (λ k below. refl));
    }
