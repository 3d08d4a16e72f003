-- Calls in a region, between its opening and its closing.
use Rattle.std.proofs.Common.{◌≡◌, ℕ, ◌<◌, ◌≤◌, List, [], ◌∷◌, refl, ap, sym, ◌∙◌, subst, arith}
use Rattle.std.specs.Prelude.{Result}
use Rattle.cell_making.specs.counted_handles.Handles.{Handle}
use Rattle.cell_calls.specs.Keeping.{GoesOn, GoesUnclaimed, Keeps, aside}
use Rattle.cell_calls.proofs.Keeping.{goes_then, unclaimed_goes}
use Rattle.cell_calls.specs.cell_law.plain_state.declared.slot.SlotId.{SlotId}
use Rattle.cell_calls.specs.cell_law.plain_state.Lists.{times}
use Rattle.epoch_refs.specs.epoch_core.declared.act.EpochAct.TheVariants as act
use Rattle.epoch_refs.specs.epoch_core.declared.outcome.EpochOutcome.TheVariants as outcome
use Rattle.epoch_refs.specs.epoch_core.declared.view.EpochView.{EpochView}
use Rattle.epoch_refs.specs.epoch_core.Views.{Holds}
use Rattle.epoch_refs.specs.epoch_rule.Views.{object_in}
use Rattle.epoch_refs.specs.epoch_domain.Calls.{IsSameView, Steps, same_view}
use Rattle.epoch_refs.specs.epoch_domain.Domains.{DomainState}
use Rattle.epoch_refs.specs.epoch_domain.Seats.{SeatState}
use Rattle.epoch_refs.specs.Calls.{Enters}
use Rattle.epoch_refs.specs.Walks.{move}
use Rattle.epoch_domain.proofs.Below.core_law_Kit.{times_none}
use Rattle.epoch_domain.proofs.Below.epoch_core_Keeps.{history_sound}
use Rattle.epoch_domain.proofs.Below.epoch_rule_Others.{held_has}
use Rattle.cell_making.specs.Making.{owned_with}

module _ {P V : Type 0} (fits : List ℕ → Type 0) (d : DomainState P) (old a : SeatState V)
    (enters : Enters fits d old a) (outside : old.view.core.number ≡ 0) where
  -- a seat outside a region has seen nothing
  none_seen : old.view.core.seen ≡ []
  none_seen =
      let h = enters.walks.1.told.happened in
      let so = history_sound d.shape d.quotas h.events h.before h.shape h.quotas h.history in
      let there = h.enabled.0 in
      let many = so.views in
      let law = so.seats old.view.core.seat (omega (arith, there, many)) in
      ap (λ (v : EpochView). v.seen) h.view
      ∙ law.outside (ap (λ (v : EpochView). v.number) (sym h.view) ∙ outside)

  owned_only : (x : SlotId) → Holds old.view.core x → 0 < times x old.view.core.owned
  owned_only x has =
      let none = ap (times x) none_seen in let zero' = times_none x in omega (arith, has, none, zero')

  same_owned : a.view.core.owned ≡ old.view.core.owned
  same_owned = ap (λ (v : EpochView). v.owned) enters.core

  pub goes_in : GoesOn old.view.core a.view.core
  goes_in = (
    move act.Enter (outcome.Epoch enters.epoch) ∷ move act.Open outcome.Plain ∷ [],
    ap (λ (v : EpochView). v.trail) enters.core,
  )

  -- the opening leaves the client's view
  pub same_client : a.view.client ≡ old.view.client
  same_client =
      ap (λ (s : SeatState V). s.view.client) enters.walks.2.2
      ∙ (enters.walks.2.1.told.client ∙ enters.walks.1.told.client)

  -- what it knew of what it owns
  same_object : (x : SlotId) → 0 < times x old.view.core.owned
      → object_in a.view x ≡ object_in old.view x
  same_object x has =
      let first = enters.walks.1 in
      let mid = enters.walks.0 in
      let second = enters.walks.2.1 in
      let owned : 0 < times x mid.view.core.owned =
      subst (λ (xs : List SlotId). 0 < times x xs)
      (sym (ap (λ (v : EpochView). v.owned) first.told.core)) has in
      ap (λ (s : SeatState V). object_in s.view x) enters.walks.2.2
      ∙ (second.told.objects x (held_has x mid.view.core (omega (arith, owned)))
      ∙ first.told.objects x (held_has x old.view.core (omega (arith, has))))

  module _ (b new : SeatState V)
      (exits : Steps fits d same_view IsSameView act.Exit b new outcome.Plain) where
    pub goes_out : GoesUnclaimed b.view.core new.view.core
    goes_out =
        (move act.Exit outcome.Plain ∷ [], (refl, tt), ap (λ (v : EpochView). v.trail) exits.told.core)

    pub around_keeps : (m n : ℕ) (xs : List SlotId) → Keeps m n xs a b → Keeps m n xs old new
    around_keeps m n xs keeps =
        let first = enters.core in
        let last = exits.told.core in
        let makes_in = ap (λ (v : EpochView). v.makes) first in
        let makes_out = ap (λ (v : EpochView). v.makes) last in
        let adds_in = ap (λ (v : EpochView). v.adds) first in
        let adds_out = ap (λ (v : EpochView). v.adds) last in
        let made = keeps.makes_used in
        let used = keeps.adds_used in
        record {
          owns = λ x. ap (λ (v : EpochView). times x v.owned) last ∙ keeps.owns x;
          makes_used = (omega (arith, makes_in, makes_out, made.0), omega (arith, makes_in, makes_out, made.1));
          adds_used = (omega (arith, adds_in, adds_out, used.0), omega (arith, adds_in, adds_out, used.1));
          sees = λ x. subst (λ (ys : List SlotId). times x ys ≤ times x new.view.core.seen)
              (sym none_seen) (let zero' = times_none x in omega (arith, zero'));
          same =
              ap aside last
              ∙ (ap (λ (v : EpochView). record v { number = 0 }) keeps.same
              ∙ (ap (λ (v : EpochView). record (aside v) { number = 0 }) first
              ∙ (λ i. record (aside old.view.core) { number = sym outside i })));
          goes = goes_then old.view.core a.view.core new.view.core goes_in
              (goes_then a.view.core b.view.core new.view.core keeps.goes
              (unclaimed_goes b.view.core new.view.core goes_out));
          knows = λ x before after.
              let owned = owned_only x before in
              let in_b : 0 < times x b.view.core.owned =
              let o = ap (λ (v : EpochView). times x v.owned) last in
              let s = ap (λ (v : EpochView). times x v.seen) last in
              let zero' = times_none x in omega (arith, after, o, s, zero') in
              let in_a : 0 < times x a.view.core.owned =
              subst (λ (ys : List SlotId). 0 < times x ys) (sym same_owned) owned in
              exits.told.objects x (held_has x b.view.core (omega (arith, in_b)))
              ∙ (keeps.knows x (omega (arith, in_a)) (omega (arith, in_b))
              ∙ same_object x owned);
        }

    pub around_with : {E : Type 0} (r : Result Handle E) (m n : ℕ)
        → Keeps m n (owned_with r a.view.core.owned) a b
        → Keeps m n (owned_with r old.view.core.owned) old new
    around_with r m n keeps =
        subst (λ (ys : List SlotId). Keeps m n (owned_with r ys) old new) same_owned
        (around_keeps m n (owned_with r a.view.core.owned) keeps)
