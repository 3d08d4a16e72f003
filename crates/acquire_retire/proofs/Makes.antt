-- A seat claims a slot, fills it and makes it live, for the proofs of tests.
use Rattle.std.proofs.Common.{◌≡◌, ◌≢◌, ⊎_elim, ℕ, ◌+◌, ◌<◌, Bool, true, false, List, length, get_or, set, refl, ap, sym, ◌∙◌, subst, arith}
use Rattle.std.specs.Prelude.{Option, ◌==◌, if◌then◌else◌, slice_index}
use Rattle.std.proofs.lemmas.List.{get_or-set_other, get_or-set_same}
use Rattle.std.proofs.lemmas.Bool.{cases_eq}
use Rattle.std.proofs.lemmas.Bool.Decides.{nat_tests}
use Rattle.plain_state.specs.declared.act.PlainAct.TheVariants as plain
use Rattle.plain_state.specs.declared.slot.SlotId.{SlotId}
use Rattle.plain_state.specs.Lists.{is_slot}
use Rattle.plain_state.specs.Records.{IsRecord}
use Rattle.domain_rule.specs.plain_protocol.Owns.{Object}
use Rattle.core_promises.specs.core_events.declared.act.Act.TheVariants as act
use Rattle.core_promises.specs.core_events.declared.outcome.Outcome.{Outcome}
use Rattle.core_promises.specs.core_events.declared.outcome.Outcome.TheVariants as outcome
use Rattle.core_promises.specs.core_events.declared.view.CoreView.{CoreView}
use Rattle.core_promises.specs.core_events.declared.view.Move.{Move}
use Rattle.core_promises.specs.core_events.declared.view.Phase.{Phase}
use Rattle.core_promises.specs.core_events.declared.view.Phase.TheVariants as phase
use Rattle.core_promises.specs.core_events.ShownSteps.{on_slot}
use Rattle.core_promises.specs.core_events.Steps.{moved}
use Rattle.core_promises.specs.core_events.Views.{slot_of}
use Rattle.core_promises.specs.core_events.Words.{bit_in}
use Rattle.domain_rule.specs.Told.{changed_object}
use Rattle.domain_rule.specs.Views.{object_in}
use Rattle.domain_rule.proofs.Others.{fills_has}
use Rattle.acquire_retire.specs.Calls.{IsSameView, Steps, same_view}
use Rattle.acquire_retire.specs.Domains.{DomainState}
use Rattle.acquire_retire.specs.Scripts.{Fills, HasMade, with_made}
use Rattle.acquire_retire.specs.Seats.{SeatState}

-- a view that is another one but for its trail
but_trail : (v w : CoreView) (t : List Move) → w ≡ record v { trail = t }
    → w ≡ record v { trail = w.trail }
but_trail v w t is =
    is ∙ ap (λ (t : List Move). record v { trail = t }) (sym (ap (λ (w : CoreView). w.trail) is))

is_itself : (s : SlotId) → is_slot s s ≡ true
is_itself s = let e : s.0 ≡ s.0 = refl in grind (arith, nat_tests)

filled_object : (s : SlotId) (i x : ℕ) (o : Object)
    → changed_object (plain.Fill s i x) s o ≡ record o { payload = set o.payload i x }
filled_object s i x o = rw (is_itself s)

-- one more word of a payload
word_more : (payload new : List ℕ) (n : ℕ) → n < length new
    → ((i : ℕ) → i < n → slice_index new i ≡ slice_index payload i)
    → (i : ℕ) → i < n + 1
    → slice_index (set new n (slice_index payload n)) i ≡ slice_index payload i
word_more payload new n there words i below = ⊎_elim
    (λ (here : i ≡ n). subst (λ (j : ℕ). get_or (set new n (get_or payload n 0)) j 0
    ≡ get_or payload j 0) (sym here) (get_or-set_same new n (get_or payload n 0) 0 there))
    (λ (ne : i ≢ n). get_or-set_other new n i (get_or payload n 0) 0 ne ∙ words i (omega arith))
    (cases_eq i n)

module _ {P V : Type 0} (d : DomainState P) (s : SlotId) (payload : List ℕ) where
  -- a slot that is filled with a record has a record
  pub filled_fits : (a b : SeatState V) → Fills payload 16 s a b → IsRecord payload
      → IsRecord (object_in b.view s).payload
  filled_fits a b fills is = (
    is.0,
    is.1,
    record {
      words = fills.size;
      size = fills.words 0 (omega arith) ∙ is.2.size;
      bytes = λ k lt. fills.words (k + 1) (omega arith) ∙ is.2.bytes k lt;
    },
  )

-- what the seat has after a claim that found the slot free, in this phase
abbrev Claimed : {V : Type 0} → Phase → SeatState V → SeatState V → Type 0
Claimed p a b =
    b.view.core
    ≡ record a.view.core {
      makes = a.view.core.makes + 1;
      phase = p;
      trail = b.view.core.trail;
    }

module _ {P V : Type 0} {fits : List ℕ → Type 0} (d : DomainState P) (s : SlotId) (payload : List ℕ) where
  pub fill_more : (n : ℕ) (a b c : SeatState V) (o : Outcome)
      → a.view.core.phase ≡ phase.Blank s → n < 16 → Fills payload n s a b
      → Steps fits d same_view IsSameView (act.Fill n (slice_index payload n)) b c o
      → Fills payload (n + 1) s a c
  fill_more n a b c o blank below had step =
      let x = slice_index payload n in
      let still : b.view.core.phase ≡ phase.Blank s =
      ap (λ (v : CoreView). v.phase) had.core ∙ blank in
      let object : object_in c.view s
      ≡ record (object_in b.view s) { payload = set (object_in b.view s).payload n x } =
      step.told.objects s (fills_has s b.view.core still)
      ∙ ap (λ (y : Option SlotId). changed_object (on_slot (λ (r : SlotId). plain.Fill r n x) y) s
      (object_in b.view s)) (ap slot_of still)
      ∙ filled_object s n x (object_in b.view s) in
      let is = ap (λ (o : Object). o.payload) object in
      let size = had.size in
      record {
        core = but_trail a.view.core c.view.core _
            (step.told.core
            ∙ ap (λ (v : CoreView). moved d.shape (act.Fill n x) step.word v) had.core);
        size = step.told.payloads s;
        words = λ i lt. ap (λ (p : List ℕ). slice_index p i) is
            ∙ word_more payload (object_in b.view s).payload n (omega arith) had.words i lt;
      }

  pub claim_holds : (a b : SeatState V) (o : Outcome) → o ≡ outcome.Claimed
      → Steps fits d same_view IsSameView (act.Claim s) a b o → Claimed (phase.Bare s) a b
  claim_holds a b o is step =
      but_trail (record a.view.core { makes = a.view.core.makes + 1; phase = phase.Bare s })
      b.view.core _
      (step.told.core ∙ go (bit_in s step.word == 1) (sym step.answers ∙ is))
    where
      go : (t : Bool) → (if t then outcome.Claimed else outcome.Taken step.word) ≡ outcome.Claimed
          → ◌≡◌ {A = CoreView} (record (if t
          then record a.view.core { makes = a.view.core.makes + 1; phase = phase.Bare s }
          else a.view.core) {
            trail = (moved d.shape (act.Claim s) step.word a.view.core).trail;
          })
          (record a.view.core {
            makes = a.view.core.makes + 1;
            phase = phase.Bare s;
            trail = (moved d.shape (act.Claim s) step.word a.view.core).trail;
          })
      go true e = refl
      go false e = absurd (cc (e))

  -- an arm makes it ready to be filled
  pub arm_holds : (a b c : SeatState V) (o : Outcome) → Claimed (phase.Bare s) a b
      → Steps fits d same_view IsSameView act.Arm b c o → Claimed (phase.Blank s) a c
  arm_holds a b c o claimed step =
      but_trail (record a.view.core { makes = a.view.core.makes + 1; phase = phase.Blank s })
      c.view.core _
      (step.told.core ∙ ap (λ (v : CoreView). moved d.shape act.Arm step.word v) claimed)

  pub made : (a b c e : SeatState V) (o : Outcome) → Claimed (phase.Blank s) a b → Fills payload 16 s b c
      → Steps fits d same_view IsSameView act.Start c e o → HasMade s a e
  made a b c e o claimed fills step =
      but_trail (with_made s a.view.core) e.view.core _
      (step.told.core ∙ ap (λ (v : CoreView). moved d.shape act.Start step.word v)
      (fills.core ∙ ap (λ (v : CoreView). record v { trail = c.view.core.trail }) claimed))
