-- The way of plain steps that an event shows: the step that a deed is told of, and calm steps behind it. Only a fill
-- and a make change an object.
use Rattle.std.proofs.Common.{◌≡◌, ℕ, ◌<◌, Bool, true, false, List, [], ◌∷◌, length, map, refl, ap, sym, ◌∙◌}
use Rattle.std.specs.Prelude.{◌==◌, if◌then◌else◌, Option, Some, None}
use Rattle.plain_protocol.specs.plain_state.declared.act.EventPlace.{EventPlace}
use Rattle.plain_protocol.specs.plain_state.declared.act.PlainAct.{PlainAct}
use Rattle.plain_protocol.specs.plain_state.declared.act.PlainAct.TheVariants as plain
use Rattle.plain_protocol.specs.plain_state.declared.slot.Kind.TheVariants.{Strong}
use Rattle.plain_protocol.specs.plain_state.declared.slot.SlotId.{SlotId}
use Rattle.plain_protocol.specs.plain_state.State.{Plain}
use Rattle.plain_protocol.specs.plain_state.Steps.{Does, IsSeat}
use Rattle.plain_protocol.specs.Acts.{IsCalm}
use Rattle.core_law.specs.core_events.Words.{slot_in}
use Rattle.epoch_core.specs.declared.act.EpochAct.{EpochAct}
use Rattle.epoch_core.specs.declared.act.EpochAct.TheVariants as act
use Rattle.epoch_core.specs.declared.view.EpochView.{EpochView}
use Rattle.epoch_core.specs.ShownSteps.{Chain, PlainStep, on_place, on_slot, seen_in, shown_steps, step}
use Rattle.epoch_core.specs.Views.{slot_of}
use Rattle.epoch_core.specs.Words.{free_word}
use Rattle.domain_rule.specs.Told.{changed_object}
use Rattle.domain_rule.proofs.Acts.{Leaves}
use Rattle.domain_rule.proofs.Objects.{object_at, object_changes}
use Rattle.epoch_rule.specs.Told.{deed_step, fill_of, is_change, make_of, object_step}
use Rattle.epoch_rule.proofs.Chains.{AllCalm, AllLeave, chain_leaves}

-- a step that is calm and changes no object
abbrev IsLight : PlainAct → Type 0
IsLight a = IsCalm a × ((s : SlotId) → Leaves a s)

abbrev AllLight : List PlainStep → Type 0
AllLight [] = Unit {0}
AllLight (a ∷ rest) = IsLight a.0 × AllLight rest

light_calm : (steps : List PlainStep) → AllLight steps → AllCalm steps
light_calm [] light = tt
light_calm (a ∷ rest) light = (light.0.0, light_calm rest light.1)

light_leave : (s : SlotId) (steps : List PlainStep) → AllLight steps → AllLeave s steps
light_leave s [] light = tt
light_leave s (a ∷ rest) light = (light.0.1 s, light_leave s rest light.1)

-- From p to q: the step that a deed is told of, then calm steps. Only where it may be a change isn't p the state after
-- it, and then it is the last step. And what became of each object.
pub record Path (n : ℕ) (p q : Plain) (deed : PlainStep) (change : Bool) (made : PlainAct)
    : Type 0 where
  pub mid : Plain
  pub rest : List PlainStep
  pub does : Does p n deed.0 deed.1 mid
  pub chain : Chain n mid rest q
  pub calm : AllCalm rest
  pub is : mid ≡ (if change then q else p)
  pub objects :
      (s : SlotId) → s.0 < length p.slots
      → object_at q s ≡ changed_object made s (object_at p s)

-- LIGHT STEPS
claims_light : (b : Bool) (x : SlotId) → AllLight (if b then step (plain.Claim x) ∷ [] else [])
claims_light true x = ((tt, λ s o. refl), tt)
claims_light false x = tt

ends_light : (b : Bool) (x : SlotId) → AllLight (if b then step (plain.End x) ∷ [] else [])
ends_light true x = ((tt, λ s o. refl), tt)
ends_light false x = tt

seen_light : (p : EventPlace) (w : ℕ) (o : Option SlotId) → AllLight (seen_in p w o)
seen_light p w None = tt
seen_light p w (Some x) = ((tt, λ s o. refl), tt)

exit_light : (xs : List SlotId)
    → AllLight (map (λ (x : SlotId). step (plain.EndSnapshot Strong x)) xs)
exit_light [] = tt
exit_light (x ∷ xs) = ((tt, λ s o. refl), exit_light xs)

module _ (n : ℕ) (p q : Plain) (seat : IsSeat p n) where
  -- THE KINDS OF WAYS
  -- light steps, of which a deed is told nothing
  still : (steps : List PlainStep) → AllLight steps → Chain n p steps q
      → Path n p q (step plain.Still) false plain.Still
  still steps light chain = record {
    mid = p;
    rest = steps;
    does = (seat, (refl, refl));
    chain = chain;
    calm = light_calm steps light;
    is = refl;
    objects = λ s there. chain_leaves s n p q steps there (light_leave s steps light) chain;
  }

  filled : (i x : ℕ) (o : Option SlotId) → Chain n p (on_slot (λ s. plain.Fill s i x) o) q
      → Path n p q (step plain.Still) false (fill_of i x o)
  filled i x None chain = still [] tt chain
  filled i x (Some r) chain = record {
    mid = p;
    rest = step (plain.Fill r i x) ∷ [];
    does = (seat, (refl, refl));
    chain = chain;
    calm = (tt, tt);
    is = refl;
    objects = λ s there. ap (λ (t : Plain). object_at t s) chain.2
        ∙ object_changes p chain.0 n s (plain.Fill r i x) 0 there chain.1;
  }

  made : (o : Option SlotId) → Chain n p (on_slot plain.Make o) q
      → Path n p q (step (make_of o)) true (make_of o)
  made None chain = record {
    mid = p;
    rest = [];
    does = (seat, (refl, refl));
    chain = chain;
    calm = tt;
    is = sym chain;
    objects = λ s there. ap (λ (t : Plain). object_at t s) chain;
  }
  made (Some r) chain = record {
    mid = chain.0;
    rest = [];
    does = chain.1;
    chain = chain.2;
    calm = tt;
    is = sym chain.2;
    objects = λ s there. ap (λ (t : Plain). object_at t s) chain.2
        ∙ object_changes p chain.0 n s (plain.Make r) 0 there chain.1;
  }

  looked : (place : EventPlace) (w : ℕ) (o : Option SlotId)
      → Chain n p (on_place (plain.Look place) w ∷ seen_in place w o) q
      → Path n p q (on_place (plain.Look place) w) false plain.Still
  looked place w o chain = record {
    mid = chain.0;
    rest = seen_in place w o;
    does = chain.1;
    chain = chain.2;
    calm = light_calm (seen_in place w o) (seen_light place w o);
    is = chain.1.1.2;
    objects = λ s there.
        chain_leaves s n p q (on_place (plain.Look place) w ∷ seen_in place w o) there
        ((λ it. refl), light_leave s (seen_in place w o) (seen_light place w o)) chain;
  }

  -- an exchange
  exchanged : (a : PlainAct) (w : ℕ) → ((s : SlotId) → Leaves a s)
      → Chain n p (on_place a w ∷ []) q → Path n p q (on_place a w) true plain.Still
  exchanged a w leave chain = record {
    mid = chain.0;
    rest = [];
    does = chain.1;
    chain = chain.2;
    calm = tt;
    is = sym chain.2;
    objects = λ s there. chain_leaves s n p q (on_place a w ∷ []) there (leave s, tt) chain;
  }

  -- EACH ACT
  pub shown_path : (a : EpochAct) (w : ℕ) (v : EpochView) → ((j : ℕ) → a ≡ act.Leave j → ⊥)
      → Chain n p (shown_steps a w v) q
      → Path n p q (deed_step a w v) (is_change a) (object_step a v)
  shown_path (act.Claim s) w v single chain =
      still (shown_steps (act.Claim s) w v) (claims_light (w == free_word) s) chain
  shown_path (act.Fill i x) w v single chain = filled i x (slot_of v.phase) chain
  shown_path act.Start w v single chain = made (slot_of v.phase) chain
  shown_path (act.See s i) w v single chain =
      still (shown_steps (act.See s i) w v) ((tt, λ t o. refl), tt) chain
  shown_path (act.Add s) w v single chain =
      still (shown_steps (act.Add s) w v) ((tt, λ t o. refl), tt) chain
  shown_path (act.Drop s) w v single chain =
      still (shown_steps (act.Drop s) w v) ((tt, λ t o. refl), ends_light (w == 1) s) chain
  shown_path (act.Pay d) w v single chain =
      still (shown_steps (act.Pay d) w v) ((tt, λ t o. refl), ends_light (w == 1) d.slot) chain
  shown_path (act.Free s) w v single chain =
      still (shown_steps (act.Free s) w v) ((tt, λ t o. refl), ((tt, λ t o. refl), tt)) chain
  shown_path (act.Look place) w v single chain = looked place w (slot_in w) chain
  shown_path (act.Swap place new) w v single chain =
      exchanged (plain.Replace place new) w (λ s o. refl) chain
  shown_path (act.Cas place old new) w v single chain =
      exchanged (plain.TryReplace place old new) w (λ s o. refl) chain
  shown_path (act.Clear s i) w v single chain =
      still (shown_steps (act.Clear s i) w v) ((tt, λ t o. refl), tt) chain
  shown_path act.Date w v single chain = still [] tt chain
  shown_path act.Enter w v single chain = still [] tt chain
  shown_path act.Open w v single chain = still [] tt chain
  shown_path act.Exit w v single chain = still (shown_steps act.Exit w v) (exit_light v.seen) chain
  shown_path act.Flush w v single chain = still [] tt chain
  shown_path act.Scan w v single chain = still [] tt chain
  shown_path act.Advance w v single chain = still [] tt chain
  shown_path (act.Leave j) w v single chain = absurd (single j refl)

-- a deed that is told of a make is that of a start
pub made_by_start : (a : EpochAct) (w : ℕ) (v : EpochView) (s : SlotId)
    → (deed_step a w v).0 ≡ plain.Make s → (a ≡ act.Start) × (slot_of v.phase ≡ Some s)
made_by_start act.Start w v s e = (refl, made (slot_of v.phase) e)
  where
    made : (o : Option SlotId) → make_of o ≡ plain.Make s → o ≡ Some s
    made None e = absurd (cc (e))
    made (Some x) e = cc (e)
made_by_start (act.Look p) w v s e = absurd (cc (e))
made_by_start (act.Swap p new) w v s e = absurd (cc (e))
made_by_start (act.Cas p old new) w v s e = absurd (cc (e))
made_by_start a w v s e = absurd (cc (e))
