-- A claim, by its answer.
use Rattle.std.proofs.Common.{◌≡◌, ◌≢◌, ℕ, ◌%◌, Bool, true, false, List, [], ◌∷◌, refl, ap, sym, ◌∙◌, subst, arith}
use Rattle.std.specs.Prelude.{◌==◌, if◌then◌else◌}
use Rattle.std.proofs.lemmas.Bool.Decides.{nat_tests}
use Rattle.std.proofs.lemmas.Nat.Bits.{bit_at-lt}
use Rattle.protocol_pairs.specs.plain_state.declared.act.PlainAct.TheVariants as plain
use Rattle.protocol_pairs.specs.plain_state.declared.slot.SlotId.{SlotId}
use Rattle.protocol_pairs.specs.plain_protocol.Owns.{HasSlot, Object}
use Rattle.claim_law.specs.core_events.declared.act.Act.TheVariants as act
use Rattle.claim_law.specs.core_events.declared.outcome.Outcome.{Outcome}
use Rattle.claim_law.specs.core_events.declared.outcome.Outcome.TheVariants as outcome
use Rattle.claim_law.specs.core_events.declared.view.CoreView.{CoreView}
use Rattle.claim_law.specs.core_events.declared.view.Move.{Move}
use Rattle.claim_law.specs.core_events.Shows.{show_seat}
use Rattle.claim_law.specs.core_events.Words.{bit_in}
use Rattle.retiring_stores.specs.domain_rule.Told.{changed_object}
use Rattle.retiring_stores.specs.acquire_retire.Calls.{IsSameView, Steps, same_view}
use Rattle.retiring_stores.specs.acquire_retire.Collecting.{move}
use Rattle.retiring_stores.specs.acquire_retire.Domains.{DomainState}
use Rattle.retiring_stores.specs.acquire_retire.Seats.{SeatState}
use Rattle.retiring_stores.proofs.Below.control_word_Becoming.{Comes, bare, comes_one}
use Rattle.slot_store.specs.Searching.{Goes, with_bare}
use Rattle.slot_store.proofs.Tries.{append_nil}

-- what an answer of a claim says of the bit
not_set : (b : Bool) (w x : ℕ) → (if b then outcome.Claimed else outcome.Taken w) ≡ outcome.Taken x
    → (b ≡ false) × (w ≡ x)
not_set true w x is = absurd (cc (is))
not_set false w x is = (refl, cc (is))

or_claimed : (b : Bool) (w : ℕ)
    → ((x : ℕ) → (if b then outcome.Claimed else outcome.Taken w) ≢ outcome.Taken x) → b ≡ true
or_claimed true w not = refl
or_claimed false w not = absurd (not w refl)

-- a claim changes no object
claim_keeps : (b : Bool) (s x : SlotId) (o : Object)
    → changed_object (if b then plain.Claim s else plain.Still) x o ≡ o
claim_keeps true s x o = refl
claim_keeps false s x o = refl

module _ {P V : Type 0} {fits : List ℕ → Type 0} (d : DomainState P) where
  pub goes_of : (ms : List Move) (v : CoreView) (old new : SeatState V)
      → Comes fits d ms v old.view.core old new → Goes fits d ms v old new
  goes_of ms v old new comes =
      record { becomes = comes.by; client = comes.client; knows = comes.knows }

  pub comes_of : (ms : List Move) (v : CoreView) (old new : SeatState V) → Goes fits d ms v old new
      → Comes fits d ms v old.view.core old new
  comes_of ms v old new goes =
      record { by = goes.becomes; client = goes.client; knows = goes.knows }

  -- a claim that follows, of a seat that has v so far
  module _ (s : SlotId) (v : CoreView) (t : List Move) (old new : SeatState V)
      (at : old.view.core ≡ record v { trail = t }) (o : Outcome)
      (step : Steps fits d same_view IsSameView (act.Claim s) old new o) where
    still_has : (x : SlotId) → HasSlot (show_seat v) x → HasSlot (show_seat old.view.core) x
    still_has x = subst (λ (u : CoreView). HasSlot (show_seat u) x) (sym at)

    pub claim_missed : (word : ℕ) → o ≡ outcome.Taken word
        → Comes fits d (move (act.Claim s) (outcome.Taken word) ∷ []) v v old new
        × (bit_in s word ≡ 0)
    claim_missed word is =
        let found = not_set (bit_in s step.word == 1) step.word word (sym step.answers ∙ is) in
        let clear : (bit_in s word == 1) ≡ false = subst (λ (w : ℕ). (bit_in s w == 1) ≡ false) found.1 found.0 in
        let few = bit_at-lt word (s.0 % 64) in (
          comes_one d (act.Claim s) old new (outcome.Taken word) word v v
              (subst (λ (x : Outcome). Steps fits d same_view IsSameView (act.Claim s) old new x) is step)
              (rw clear refl)
              (rw clear (ap bare at)) refl still_has
              (λ w x it. claim_keeps (bit_in s w == 1) s x it),
          grind (arith, nat_tests),
        )

    pub claim_won : ((word : ℕ) → o ≢ outcome.Taken word)
        → Comes fits d (move (act.Claim s) outcome.Claimed ∷ []) (with_bare s v) v old new
    claim_won not =
        let set = or_claimed (bit_in s step.word == 1) step.word (λ x e. not x (step.answers ∙ e)) in
        let is : o ≡ outcome.Claimed = step.answers ∙ rw set refl in
        comes_one d (act.Claim s) old new outcome.Claimed step.word (with_bare s v) v
        (subst (λ (x : Outcome). Steps fits d same_view IsSameView (act.Claim s) old new x) is step)
        (rw set refl)
        (rw set (ap (λ (u : CoreView). bare (with_bare s u)) at)) refl still_has
        (λ w x it. claim_keeps (bit_in s w == 1) s x it)

module _ {P V : Type 0} {fits : List ℕ → Type 0} (d : DomainState P) where
  pub goes_nowhere : (old : SeatState V) → Goes fits d [] old.view.core old old
  goes_nowhere old = record {
    becomes = record {
      walks = refl;
      core = ap (λ (t : List Move). record old.view.core { trail = t }) (sym (append_nil old.view.core.trail));
      cleared = refl;
    };
    client = refl;
    knows = λ s has. refl;
  }
