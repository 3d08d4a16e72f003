-- What a seat that is alone knows of the whole state, step by step.
use Rattle.std.proofs.Common.{◌≡◌, ℕ, List, [], ◌∷◌, ◌++◌, length, refl, ap, sym, ◌∙◌, subst, arith}
use Rattle.std.specs.Prelude.{Option, Some, option_map, true}
use Rattle.epoch_core.specs.declared.act.EpochAct.{EpochAct}
use Rattle.epoch_core.specs.declared.view.EpochMove.{EpochMove}
use Rattle.epoch_core.specs.Alone.{Acts, IsOnly}
use Rattle.epoch_core.specs.Runs.{Core, Enabled, after, found, view_at}
use Rattle.epoch_core.specs.Sound.{Sound}
use Rattle.epoch_core.proofs.Keeps.{history_sound}
use Rattle.epoch_refs.specs.epoch_rule.Views.{core_in, whole_of}
use Rattle.epoch_refs.specs.epoch_rule.declared.view.EpochWhole.{EpochWhole}
use Rattle.epoch_refs.specs.epoch_domain.Calls.{IsSameView, Steps, same_view}
use Rattle.epoch_refs.specs.epoch_domain.Domains.{DomainState}
use Rattle.epoch_refs.specs.epoch_domain.Seats.{SeatState}
use Rattle.epoch_refs.specs.epoch_core.declared.outcome.EpochOutcome.{EpochOutcome}
use Rattle.epoch_refs.specs.Walks.{Walks}

module _ {P V : Type 0} (fits : List ℕ → Type 0) (d : DomainState P) where
  -- A step of a seat that knew the whole state: it is seat 0, all others have left, and the step was made in that
  -- state. It knows the state afterwards.
  pub record StepsAlone (a : EpochAct) (all : EpochWhole) (w : ℕ) (old new : SeatState V) : Type 0
    where
      pub sound : Sound d.shape (core_in all)
      pub only : IsOnly d.shape (core_in all) 0
      pub mine : old.view.core ≡ view_at (core_in all) 0
      pub enabled : Enabled d.shape (core_in all) 0 a
      pub found_is : w ≡ found d.shape (core_in all) 0 a
      pub then : new.view.whole ≡ Some (whole_of (after d.shape (core_in all) 0 a))
      pub mine_then : new.view.core ≡ view_at (after d.shape (core_in all) 0 a) 0

  pub steps_alone : (a : EpochAct) (o : EpochOutcome) (all : EpochWhole) (old new : SeatState V)
      → (step : Steps fits d same_view IsSameView a old new o) → old.view.whole ≡ Some all
      → StepsAlone a all step.word old new
  steps_alone a o all old new step knows =
      let told = step.told in
      let h = told.happened in
      let so = told.said.whole all knows in
      let is : core_in all ≡ h.before = so.0 in
      let first : old.view.core.seat ≡ 0 = so.1 in
      let sound : Sound d.shape (core_in all) =
      subst (Sound d.shape) (sym is)
      (history_sound d.shape d.quotas h.events h.before h.shape h.quotas h.history) in
      record {
        sound = sound;
        only = λ m low other.
            subst (λ (c : Core). (view_at c m).left ≡ true) (sym is)
            (so.2 m (omega (arith, other))
            (let many = ap (λ (c : Core). length c.views) is in
            let count = sound.views in omega (arith, many, count, low)));
        mine = told.said.core
            ∙ (ap (λ (n : ℕ). view_at h.before n) first
            ∙ ap (λ (c : Core). view_at c 0) (sym is));
        enabled = subst (λ (c : Core). Enabled d.shape c 0 a) (sym is)
            (subst (λ (n : ℕ). Enabled d.shape h.before n a) first h.enabled);
        found_is = h.found
            ∙ (ap (λ (n : ℕ). found d.shape h.before n a) first
            ∙ ap (λ (c : Core). found d.shape c 0 a) (sym is));
        then = told.whole
            ∙ (ap (λ (x : Option EpochWhole). option_map
            (λ (whole : EpochWhole). whole_of (after d.shape (core_in whole) old.view.core.seat a)) x) knows
            ∙ ap (λ (n : ℕ). Some (whole_of (after d.shape (core_in all) n a))) first);
        mine_then = told.says.core
            ∙ (ap (λ (n : ℕ). view_at (after d.shape h.before n a) n) first
            ∙ ap (λ (c : Core). view_at (after d.shape c 0 a) 0) (sym is));
      }

  -- These acts, made in turn by a seat that knew the whole state, lead to the state that it knows then.
  pub record RunsAlone (acts : List EpochAct) (all : EpochWhole) (new : SeatState V) : Type 0 where
    pub whole : EpochWhole
    pub knows : new.view.whole ≡ Some whole
    pub acted : Acts d.shape 0 acts (core_in all) (core_in whole)

  pub runs_step : (a : EpochAct) (acts : List EpochAct) (all : EpochWhole) (w : ℕ)
      (old mid new : SeatState V) → StepsAlone a all w old mid
      → RunsAlone acts (whole_of (after d.shape (core_in all) 0 a)) new
      → RunsAlone (a ∷ acts) all new
  runs_step a acts all w old mid new step rest = record {
    whole = rest.whole;
    knows = rest.knows;
    acted = (after d.shape (core_in all) 0 a, (step.enabled, refl), rest.acted);
  }

  -- a walk is one and then the other
  pub walks_split : (ms ns : List EpochMove) (old new : SeatState V) → Walks fits d (ms ++ ns) old new
      → (mid : SeatState V) × Walks fits d ms old mid × Walks fits d ns mid new
  walks_split [] ns old new walk = (old, refl, walk)
  walks_split (m ∷ ms) ns old new walk =
      let rest = walks_split ms ns walk.0 new walk.2 in
      (rest.0, (walk.0, walk.1, rest.1), rest.2)
