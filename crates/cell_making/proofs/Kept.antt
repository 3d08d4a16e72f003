-- What single calls on a domain keep of their seat.
use Rattle.std.proofs.Common.{◌≡◌, ℕ, ◌+◌, ◌<◌, ◌≤◌, Bool, true, false, List, [], ◌∷◌, ◌++◌, refl, ap, sym, ◌∙◌, subst, arith}
use Rattle.std.specs.Prelude.{◌==◌, if◌then◌else◌}
use Rattle.cell_calls.specs.cell_law.plain_state.declared.slot.SlotId.{SlotId}
use Rattle.cell_calls.specs.cell_law.plain_state.Lists.{times}
use Rattle.cell_calls.specs.Keeping.{GoesOn, GoesUnclaimed, Keeps, aside}
use Rattle.cell_calls.proofs.Keeping.{append_nil}
use Rattle.epoch_refs.specs.plain_protocol.Owns.{OwnPart}
use Rattle.epoch_refs.specs.plain_protocol.plain_state.State.{Plain}
use Rattle.epoch_refs.specs.plain_protocol.plain_state.declared.act.PlainAct.{PlainAct}
use Rattle.epoch_refs.specs.epoch_core.declared.act.EpochAct.TheVariants as act
use Rattle.epoch_refs.specs.epoch_core.declared.outcome.EpochOutcome.{EpochOutcome}
use Rattle.epoch_refs.specs.epoch_core.declared.view.EpochMove.{EpochMove}
use Rattle.epoch_refs.specs.epoch_core.declared.view.EpochView.{EpochView}
use Rattle.epoch_refs.specs.epoch_core.core_events.Views.{without}
use Rattle.epoch_refs.specs.epoch_core.Steps.{noted}
use Rattle.epoch_refs.specs.epoch_core.Views.{Holds}
use Rattle.epoch_refs.specs.epoch_rule.declared.view.EpochSeatView.{EpochSeatView}
use Rattle.epoch_refs.specs.epoch_rule.Views.{object_in}
use Rattle.epoch_refs.specs.epoch_domain.Calls.{IsSameView, Steps, same_view}
use Rattle.epoch_refs.specs.epoch_domain.Domains.{DomainState}
use Rattle.epoch_refs.specs.epoch_domain.Leavings.{KnowsSame}
use Rattle.epoch_refs.specs.epoch_domain.Seats.{SeatState}
use Rattle.epoch_domain.proofs.Below.core_law_Kit.{times_without}
use Rattle.epoch_domain.proofs.Below.epoch_rule_Others.{held_has}
use Rattle.epoch_refs.specs.Making.{Makes, with_made}
use Rattle.epoch_refs.specs.Searching.{IsFull}
use Rattle.epoch_refs.specs.Walks.{move}

module _ {V : Type 0} where
  -- a seat whose view stays
  pub keeps_view : (old new : SeatState V) → new.view ≡ old.view
      → Keeps 0 0 old.view.core.owned old new
  keeps_view old new is =
      let m = ap (λ (v : EpochSeatView V). v.core.makes) is in
      let a = ap (λ (v : EpochSeatView V). v.core.adds) is in
      record {
        owns = λ x. ap (λ (v : EpochSeatView V). times x v.core.owned) is;
        makes_used = (omega (arith, m), omega (arith, m));
        adds_used = (omega (arith, a), omega (arith, a));
        sees = λ x.
            let s = ap (λ (v : EpochSeatView V). times x v.core.seen) is in omega (arith, s);
        same = ap (λ (v : EpochSeatView V). aside v.core) is;
        goes = (
          [],
          ap (λ (v : EpochSeatView V). v.core.trail) is ∙ sym (append_nil old.view.core.trail),
        );
        knows = λ x before after. ap (λ (v : EpochSeatView V). object_in v x) is;
      }

  -- the same from another state with the view of the first
  pub keeps_from : (m a : ℕ) (xs : List SlotId) (old ready new : SeatState V)
      → ready.view ≡ old.view → Keeps m a xs ready new → Keeps m a xs old new
  keeps_from m a xs old ready new is keeps = record {
    owns = keeps.owns;
    makes_used = subst (λ (v : EpochSeatView V). (v.core.makes ≤ new.view.core.makes)
        × (new.view.core.makes ≤ v.core.makes + m)) is keeps.makes_used;
    adds_used = subst (λ (v : EpochSeatView V). (v.core.adds ≤ new.view.core.adds)
        × (new.view.core.adds ≤ v.core.adds + a)) is keeps.adds_used;
    sees = λ x. subst (λ (v : EpochSeatView V). times x v.core.seen ≤ times x new.view.core.seen) is
        (keeps.sees x);
    same = keeps.same ∙ ap (λ (v : EpochSeatView V). aside v.core) is;
    goes = subst (λ (v : EpochSeatView V). GoesOn v.core new.view.core) is keeps.goes;
    knows = λ x before after.
        keeps.knows x (subst (λ (v : EpochSeatView V). Holds v.core x) (sym is) before) after
        ∙ ap (λ (v : EpochSeatView V). object_in v x) is;
  }

  -- a seat that came to have u, but for its trail, in so many moves
  pub keeps_core : (m a : ℕ) (old new : SeatState V) (u : EpochView) (ms : List EpochMove)
      → new.view.core ≡ record u { trail = old.view.core.trail ++ ms }
      → aside u ≡ aside old.view.core → u.makes ≡ old.view.core.makes + m
      → u.adds ≡ old.view.core.adds + a → u.seen ≡ old.view.core.seen
      → ((x : SlotId) → Holds old.view.core x → Holds new.view.core x
      → object_in new.view x ≡ object_in old.view x)
      → Keeps m a u.owned old new
  keeps_core m a old new u ms core same makes adds seen knows =
      let made = ap (λ (v : EpochView). v.makes) core in
      let added = ap (λ (v : EpochView). v.adds) core in
      record {
        owns = λ x. ap (λ (v : EpochView). times x v.owned) core;
        makes_used = (omega (arith, made, makes), omega (arith, made, makes));
        adds_used = (omega (arith, added, adds), omega (arith, added, adds));
        sees = λ x.
            let s = ap (λ (v : EpochView). times x v.seen) core in
            let t = ap (λ (xs : List SlotId). times x xs) seen in
            omega (arith, s, t);
        same = ap aside core ∙ same;
        goes = (ms, ap (λ (v : EpochView). v.trail) core);
        knows = knows;
      }

  -- what it knows of all that it had it knows of what it held
  pub knows_held : (old new : SeatState V) → KnowsSame old.view new.view → (x : SlotId)
      → Holds old.view.core x → Holds new.view.core x
      → object_in new.view x ≡ object_in old.view x
  knows_held old new same x before after = same x (held_has x old.view.core before)

module _ {P V : Type 0} (fits : List ℕ → Type 0) (d : DomainState P) (old new : SeatState V) where
  -- A MAKE
  pub made_keeps : (next : OwnPart → OwnPart → V → PlainAct → ℕ → V)
      (allows : Plain → Plain → ℕ → V → V → Type 0) (payload : List ℕ) (s : SlotId)
      → Makes fits d next allows payload s old new → KnowsSame old.view new.view
      → Keeps 1 1 (old.view.core.owned ++ s ∷ []) old new
  made_keeps next allows payload s makes same =
      keeps_core 1 1 old new (with_made s old.view.core) _ makes.core refl refl refl refl
      (knows_held old new same)

  -- and one that found each slot taken
  pub full_keeps : IsFull fits d old new → KnowsSame old.view new.view
      → Keeps 0 0 old.view.core.owned old new
  full_keeps full same =
      keeps_core 0 0 old new old.view.core _ full.misses.goes.core refl (omega arith) (omega arith)
      refl (knows_held old new same)

  -- A REFERENCE that is given up
  pub drop_keeps : (s : SlotId) (o : EpochOutcome)
      → Steps fits d same_view IsSameView (act.Drop s) old new o
      → Keeps 0 0 (without s old.view.core.owned) old new
  drop_keeps s o step = go (step.word == 1) _ step.told.core
    where
      go : (b : Bool) (said : EpochOutcome)
          → new.view.core
          ≡ noted (act.Drop s) said
          (if b
          then record old.view.core {
            owned = without s old.view.core.owned;
            dying = old.view.core.dying ++ s ∷ [];
          }
          else record old.view.core { owned = without s old.view.core.owned })
          → Keeps 0 0 (without s old.view.core.owned) old new
      go true said core =
          keeps_core 0 0 old new (record old.view.core {
            owned = without s old.view.core.owned;
            dying = old.view.core.dying ++ s ∷ [];
          }) (move (act.Drop s) said ∷ []) core refl (omega arith) (omega arith) refl
          (λ x before after. step.told.objects x (held_has x old.view.core before))
      go false said core =
          keeps_core 0 0 old new
          (record old.view.core { owned = without s old.view.core.owned })
          (move (act.Drop s) said ∷ []) core refl (omega arith) (omega arith) refl
          (λ x before after. step.told.objects x (held_has x old.view.core before))

  -- no slot is tried then
  pub drop_unclaimed : (s : SlotId) (o : EpochOutcome)
      → Steps fits d same_view IsSameView (act.Drop s) old new o
      → GoesUnclaimed old.view.core new.view.core
  drop_unclaimed s o step = go (step.word == 1) _ step.told.core
    where
      go : (b : Bool) (said : EpochOutcome)
          → new.view.core
          ≡ noted (act.Drop s) said
          (if b
          then record old.view.core {
            owned = without s old.view.core.owned;
            dying = old.view.core.dying ++ s ∷ [];
          }
          else record old.view.core { owned = without s old.view.core.owned })
          → GoesUnclaimed old.view.core new.view.core
      go true said core =
          (move (act.Drop s) said ∷ [], (refl, tt), ap (λ (v : EpochView). v.trail) core)
      go false said core =
          (move (act.Drop s) said ∷ [], (refl, tt), ap (λ (v : EpochView). v.trail) core)

  -- and what the seat holds it held
  pub drop_back : (s : SlotId) (o : EpochOutcome) → 0 < times s old.view.core.owned
      → Steps fits d same_view IsSameView (act.Drop s) old new o
      → (x : SlotId) → Holds new.view.core x → Holds old.view.core x
  drop_back s o owned step x has =
      let w = times_without x s old.view.core.owned owned in
      let same = go (step.word == 1) _ step.told.core in
      omega (arith, w, same.0, same.1, has)
    where
      go : (b : Bool) (said : EpochOutcome)
          → new.view.core
          ≡ noted (act.Drop s) said
          (if b
          then record old.view.core {
            owned = without s old.view.core.owned;
            dying = old.view.core.dying ++ s ∷ [];
          }
          else record old.view.core { owned = without s old.view.core.owned })
          → (times x new.view.core.owned ≡ times x (without s old.view.core.owned))
          × (times x new.view.core.seen ≡ times x old.view.core.seen)
      go true said core = (
        ap (λ (v : EpochView). times x v.owned) core,
        ap (λ (v : EpochView). times x v.seen) core,
      )
      go false said core = (
        ap (λ (v : EpochView). times x v.owned) core,
        ap (λ (v : EpochView). times x v.seen) core,
      )

  pub drop_client : (s : SlotId) (o : EpochOutcome)
      → Steps fits d same_view IsSameView (act.Drop s) old new o
      → new.view.client ≡ old.view.client
  drop_client s o step = step.told.client
