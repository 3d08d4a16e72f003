-- What a seat knows of the objects that it owns or is to destroy, where an event leaves these.
use Rattle.std.proofs.Common.{◌≡◌, ⊎_elim, ℕ, ◌+◌, ◌<◌, Bool, true, false, List, [], refl, ap, sym, ◌∙◌, subst, arith}
use Rattle.std.specs.Prelude.{Some, None, if◌then◌else◌}
use Rattle.std.proofs.lemmas.Bool.Decides.{nat_tests}
use Rattle.core_law.proofs.Kit.{times_none}
use Rattle.epoch_settling.specs.epoch_core.plain_state.State.{Plain, PlainSeat}
use Rattle.epoch_settling.specs.epoch_core.plain_state.declared.act.PlainAct.{PlainAct}
use Rattle.epoch_settling.specs.epoch_core.plain_state.declared.slot.SlotId.{SlotId}
use Rattle.epoch_settling.specs.epoch_core.plain_state.Lists.{times}
use Rattle.epoch_settling.specs.epoch_core.declared.act.EpochAct.{EpochAct}
use Rattle.epoch_settling.specs.epoch_core.declared.outcome.EpochOutcome.{EpochOutcome}
use Rattle.epoch_settling.specs.epoch_core.declared.shape.EpochShape.{EpochShape}
use Rattle.epoch_settling.specs.epoch_core.declared.view.EpochPhase.TheVariants as phase
use Rattle.epoch_settling.specs.epoch_core.declared.view.EpochView.{EpochView}
use Rattle.epoch_settling.specs.epoch_core.Counts.{filling}
use Rattle.epoch_settling.specs.epoch_core.Shows.{show_seat}
use Rattle.epoch_settling.specs.epoch_core.Steps.{changed}
use Rattle.epoch_settling.proofs.Below.epoch_rule_Others.{has_how, held_counts}
use Rattle.epoch_refs.specs.epoch_rule.domain_rule.Told.{changed_object}
use Rattle.epoch_refs.specs.plain_protocol.Owns.{HasSlot, Object, OwnPart, has_slot}
use Rattle.epoch_refs.specs.epoch_domain.Calls.{Steps}
use Rattle.epoch_refs.specs.epoch_domain.Domains.{DomainState}
use Rattle.epoch_refs.specs.epoch_domain.Seats.{SeatState}
use Rattle.epoch_refs.specs.epoch_rule.Told.{object_step}
use Rattle.epoch_refs.specs.epoch_rule.Views.{object_in}

-- what a seat owns or is to destroy it has
pub own_has : (s : SlotId) (v : EpochView) → 0 < times s v.owned + times s v.dying
    → HasSlot (show_seat v) s
own_has s v has = let g = held_counts s v in grind (arith, nat_tests)

-- and outside a region, in the middle of nothing, it has nothing else
pub has_own : (s : SlotId) (v : EpochView) → v.phase ≡ phase.Idle → v.seen ≡ []
    → HasSlot (show_seat v) s → 0 < times s v.owned + times s v.dying
has_own s v idle none has = ⊎_elim
    (λ (held : 0 < times s v.owned + times s v.seen).
    let n = times_none s in
    let e : times s v.seen ≡ times s [] = ap (times s) none in omega (arith, held, n, e))
    (λ others. ⊎_elim
    (λ (dies : 0 < times s v.dying). omega (arith, dies))
    (λ (fills : 0 < filling s v.phase).
    let e : filling s v.phase ≡ 0 = ap (filling s) idle in absurd (omega (arith, fills, e)))
    others)
    (has_how s v has)

-- An act leaves what the seat owns and is to destroy, whatever its view, and the objects in all slots.
pub record LeavesObjects (z : EpochShape) (a : EpochAct) : Type 0 where
  pub owned : (w : ℕ) (v : EpochView) → (changed z a w v).owned ≡ v.owned
  pub dying : (w : ℕ) (v : EpochView) → (changed z a w v).dying ≡ v.dying
  pub objects : (v : EpochView) (s : SlotId) (ob : Object) → changed_object (object_step a v) s ob ≡ ob

module _ {V : Type 0} where
  -- what the seat owns and is to destroy stays, and what it knows of these objects
  pub record SameObjects (old new : SeatState V) : Type 0 where
    pub owned : new.view.core.owned ≡ old.view.core.owned
    pub dying : new.view.core.dying ≡ old.view.core.dying
    pub knows :
        (x : SlotId) → 0 < times x old.view.core.owned + times x old.view.core.dying
        → object_in new.view x ≡ object_in old.view x

  pub objects_then : (a b c : SeatState V) → SameObjects a b → SameObjects b c → SameObjects a c
  objects_then a b c first second = record {
    owned = second.owned ∙ first.owned;
    dying = second.dying ∙ first.dying;
    knows = λ x has.
        second.knows x (subst (λ (ls : List SlotId × List SlotId). 0 < times x ls.0 + times x ls.1)
        (λ i. (sym first.owned i, sym first.dying i)) has)
        ∙ first.knows x has;
  }

  pub objects_self : (a b : SeatState V) → b.view ≡ a.view → SameObjects a b
  objects_self a b same = record {
    owned = ap (λ v. v.core.owned) same;
    dying = ap (λ v. v.core.dying) same;
    knows = λ x has. ap (λ v. object_in v x) same;
  }

  -- where the one owns nothing else, it knows the same of what it has
  pub same_objects : (old new : SeatState V) (s : SlotId)
      → show_seat new.view.core ≡ show_seat old.view.core
      → (HasSlot (show_seat old.view.core) s → object_in new.view s ≡ object_in old.view s)
      → (if has_slot (show_seat new.view.core) s then Some (object_in new.view s) else None)
      ≡ (if has_slot (show_seat old.view.core) s then Some (object_in old.view s) else None)
  same_objects old new s seat same =
      ap (λ (v : PlainSeat). if has_slot v s then Some (object_in new.view s) else None) seat
      ∙ go (has_slot (show_seat old.view.core) s) same
    where
      go : (b : Bool) → (b ≡ true → object_in new.view s ≡ object_in old.view s)
          → (if b then Some (object_in new.view s) else None)
          ≡ (if b then Some (object_in old.view s) else None)
      go true is = ap (λ (ob : Object). Some ob) (is refl)
      go false is = refl

module _ {P V : Type 0} {fits : List ℕ → Type 0} {d : DomainState P}
    {next : OwnPart → OwnPart → V → PlainAct → ℕ → V}
    {allows : Plain → Plain → ℕ → V → V → Type 0} where
  pub objects_step : (a : EpochAct) (o : EpochOutcome) (old new : SeatState V)
      → Steps fits d next allows a old new o → LeavesObjects d.shape a → SameObjects old new
  objects_step a o old new step leaves = record {
    owned = ap (λ (v : EpochView). v.owned) step.told.core ∙ leaves.owned step.word old.view.core;
    dying = ap (λ (v : EpochView). v.dying) step.told.core ∙ leaves.dying step.word old.view.core;
    knows = λ x has.
        step.told.objects x (own_has x old.view.core has)
        ∙ leaves.objects old.view.core x (object_in old.view x);
  }
