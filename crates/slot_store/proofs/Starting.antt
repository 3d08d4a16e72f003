-- The start of a slot that the seat has filled, and what the seat has then.
use Rattle.std.proofs.Common.{◌≡◌, ◌≢◌, ℕ, ◌+◌, true, false, List, [], ◌∷◌, ◌++◌, refl, ap, sym, ◌∙◌, subst, arith, append_assoc}
use Rattle.std.specs.Prelude.{Option}
use Rattle.std.proofs.lemmas.Bool.Decides.{nat_tests}
use Rattle.protocol_pairs.specs.plain_state.declared.act.PlainAct.{PlainAct}
use Rattle.protocol_pairs.specs.plain_state.declared.act.PlainAct.TheVariants as plain
use Rattle.protocol_pairs.specs.plain_state.declared.slot.SlotId.{SlotId}
use Rattle.protocol_pairs.specs.plain_state.Lists.{is_slot}
use Rattle.protocol_pairs.specs.plain_state.State.{Plain, slot_at}
use Rattle.protocol_pairs.specs.plain_protocol.Owns.{HasSlot, Object, OwnPart}
use Rattle.claim_law.specs.core_events.declared.act.Act.TheVariants as act
use Rattle.claim_law.specs.core_events.declared.outcome.Outcome.{Outcome}
use Rattle.claim_law.specs.core_events.declared.outcome.Outcome.TheVariants as outcome
use Rattle.claim_law.specs.core_events.declared.view.CoreView.{CoreView}
use Rattle.claim_law.specs.core_events.declared.view.Move.{Move}
use Rattle.claim_law.specs.core_events.declared.view.Phase.{Phase}
use Rattle.claim_law.specs.core_events.declared.view.Phase.TheVariants as phase
use Rattle.claim_law.specs.core_events.Shows.{show_seat, shows}
use Rattle.claim_law.specs.core_events.ShownSteps.{on_slot}
use Rattle.claim_law.specs.core_events.Views.{alone, slot_of}
use Rattle.retiring_stores.specs.domain_rule.Told.{changed_object}
use Rattle.retiring_stores.specs.domain_rule.Views.{object_in}
use Rattle.retiring_stores.proofs.Below.domain_rule_Others.{fills_has}
use Rattle.retiring_stores.specs.acquire_retire.Calls.{IsSameView, Steps, same_view}
use Rattle.retiring_stores.specs.acquire_retire.Collecting.{move}
use Rattle.retiring_stores.specs.acquire_retire.Domains.{DomainState}
use Rattle.retiring_stores.specs.acquire_retire.Seats.{SeatState}
use Rattle.retiring_stores.specs.control_word.Moves.{Becomes, KnowsStill}
use Rattle.retiring_stores.specs.control_word.Resting.{IsAtRest}
use Rattle.retiring_stores.proofs.Below.control_word_Becoming.{bare, calling, one_step, rests_on, walks_table}
use Rattle.slot_store.specs.Calls.{Begins, Makes, begun_by, with_made}
use Rattle.slot_store.proofs.Beginning.{has_while}

make_takes : (s : SlotId) (o : Object)
    → changed_object (plain.Make s) s o ≡ record o { life = o.life + 1 }
make_takes s o =
    let same : s.0 ≡ s.0 = refl in
    let itself : is_slot s s ≡ true = grind (arith, nat_tests) in rw itself refl

make_leaves : (s x : SlotId) (o : Object) → x.0 ≢ s.0 → changed_object (plain.Make s) x o ≡ o
make_leaves s x o apart =
    let other : is_slot s x ≡ false = grind (arith, nat_tests) in rw other refl

module _ {P V : Type 0} {fits : List ℕ → Type 0} (d : DomainState P)
    {next : OwnPart → OwnPart → V → PlainAct → ℕ → V}
    {allows : Plain → Plain → ℕ → V → V → Type 0} (payload : List ℕ) (s : SlotId)
    (old mid new : SeatState V) (rest : IsAtRest d old) (begins : Begins fits d payload s old mid)
    (o : Outcome) (step : Steps fits d next allows act.Start mid new o) where
  blank : mid.view.core.phase ≡ phase.Blank s
  blank = ap (λ (v : CoreView). v.phase) begins.goes.becomes.core

  starts : Becomes fits d next allows (move act.Start outcome.Plain ∷ [])
      (with_made s old.view.core) mid new
  starts =
      one_step d act.Start mid new outcome.Plain 0 (with_made s old.view.core)
      (subst (λ (x : Outcome). Steps fits d next allows act.Start mid new x) step.answers step)
      refl
      (ap (λ (v : CoreView). bare (record v {
        owned = v.owned ++ alone (slot_of v.phase);
        made = v.made ++ alone (slot_of v.phase);
        adds = v.adds + 1;
        phase = phase.Idle;
      })) begins.goes.becomes.core
      ∙ ap (λ (p : Phase). bare (record (with_made s old.view.core) { phase = p })) (sym rest.idle.0))
      refl

  object_then : (x : SlotId) → HasSlot (show_seat mid.view.core) x
      → object_in new.view x ≡ changed_object (plain.Make s) x (object_in mid.view x)
  object_then x has =
      step.told.objects x has
      ∙ ap (λ (y : Option SlotId). changed_object (on_slot plain.Make y) x (object_in mid.view x))
      (ap slot_of blank)

  pub makes : Makes fits d next allows payload s old new
  makes = record {
    mid = mid;
    begins = begins;
    starts = starts;
    core =
        starts.core
        ∙ ap (λ (t : List Move). record (with_made s old.view.core) { trail = t })
        (ap (λ (v : CoreView). v.trail ++ move act.Start outcome.Plain ∷ [])
        begins.goes.becomes.core
        ∙ append_assoc old.view.core.trail (begun_by begins.tries s payload)
        (move act.Start outcome.Plain ∷ []));
    cleared = starts.cleared ∙ begins.goes.becomes.cleared;
    object =
        object_then s (fills_has s mid.view.core blank) ∙ make_takes s (object_in mid.view s)
        ∙ (λ i. record { life = lived i; payload = begins.filled i });
  }
    where
      lived : (object_in mid.view s).life + 1
          ≡ (slot_at (shows d.shape starts.walks.1.told.happened.before) s).life + 1
      lived =
          ap (λ (x : Object). x.life + 1)
          (starts.walks.1.told.said.objects s (fills_has s mid.view.core blank))

  pub still_known : (apart : (x : SlotId) → HasSlot (show_seat old.view.core) x → x.0 ≢ s.0)
      → KnowsStill old.view.core old new
  still_known apart x has =
      object_then x (has_while old.view.core mid.view.core x (old.view.core.makes + 1) (phase.Blank s)
      rest.idle.0 (ap bare begins.goes.becomes.core) has)
      ∙ make_leaves s x (object_in mid.view x) (apart x has) ∙ begins.goes.knows x has

  pub rests_again : IsAtRest d new
  rests_again =
      rests_on d old new
      (step.table ∙ walks_table fits d same_view IsSameView _ old mid begins.goes.becomes.walks)
      (ap calling makes.core) rest
