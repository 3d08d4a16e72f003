-- What a seat that is alone knows of the whole state before and after each event, whatever its deed.
use Rattle.std.proofs.Common.{◌≡◌, ℕ, List, length, refl, ap, sym, ◌∙◌, subst, arith}
use Rattle.std.specs.Prelude.{Option, Some, None, IsSome, true, option_map}
use Rattle.epoch_settling.specs.epoch_core.plain_state.State.{Plain, slot_at}
use Rattle.epoch_settling.specs.epoch_core.plain_state.Fits.{AllFit}
use Rattle.epoch_settling.specs.epoch_core.plain_state.declared.act.PlainAct.{PlainAct}
use Rattle.epoch_settling.specs.epoch_core.plain_state.declared.slot.SlotId.{SlotId}
use Rattle.epoch_settling.specs.epoch_core.declared.act.EpochAct.{EpochAct}
use Rattle.epoch_settling.specs.epoch_core.declared.act.EpochAct.TheVariants as act
use Rattle.epoch_settling.specs.epoch_core.declared.outcome.EpochOutcome.{EpochOutcome}
use Rattle.epoch_settling.specs.epoch_core.declared.shape.EpochShape.{EpochShape}
use Rattle.epoch_settling.specs.epoch_core.declared.view.EpochView.{EpochView}
use Rattle.epoch_settling.specs.epoch_core.Alone.{IsOnly}
use Rattle.epoch_settling.specs.epoch_core.Runs.{Core, Enabled, after, found, view_at}
use Rattle.epoch_settling.specs.epoch_core.Shows.{show_seat, shows}
use Rattle.epoch_settling.specs.epoch_core.Sound.{Sound}
use Rattle.epoch_settling.proofs.Below.epoch_core_Keeps.{history_sound, step_keeps}
use Rattle.epoch_settling.proofs.Below.epoch_core_Lawful.{shows_lawful}
use Rattle.epoch_settling.proofs.Below.epoch_rule_Reading.{known_is}
use Rattle.epoch_settling.proofs.Below.epoch_rule_Views.{other_after}
use Rattle.epoch_refs.specs.plain_protocol.Owns.{HasSlot, OwnPart, object_of}
use Rattle.epoch_refs.specs.epoch_domain.Calls.{Steps}
use Rattle.epoch_refs.specs.epoch_domain.Domains.{DomainState}
use Rattle.epoch_refs.specs.epoch_domain.Seats.{SeatState}
use Rattle.epoch_refs.specs.epoch_rule.declared.view.EpochSeatView.{EpochSeatView}
use Rattle.epoch_refs.specs.epoch_rule.declared.view.EpochWhole.{EpochWhole}
use Rattle.epoch_refs.specs.epoch_rule.Views.{IsAlone, core_in, object_in, own_of, whole_of}
use Rattle.epoch_alone.specs.Lone.{IsLoneState, KnowsBoth}

-- the whole state, by the core that is known
pub whole_shown : {V : Type 0} (z : EpochShape) (v : EpochSeatView V) (all : EpochWhole)
    → v.core.shape ≡ z → v.whole ≡ Some all → (own_of v).whole ≡ Some (shows z (core_in all))
whole_shown z v all shape knows =
    ap (option_map (λ (w : EpochWhole). shows v.core.shape (core_in w))) knows
    ∙ ap (λ (y : EpochShape). Some (shows y (core_in all))) shape

-- it is one state
pub one_state : {V : Type 0} (v : EpochSeatView V) (p q : Plain) → (own_of v).whole ≡ Some p
    → (own_of v).whole ≡ Some q → p ≡ q
one_state v p q first second = same (sym first ∙ second)
  where
    same : {a b : Plain} → Some a ≡ Some b → a ≡ b
    same is = cc (is)

-- what holds of the states that a seat knows before and now, whichever they are
pub both_are : {V : Type 0} (Then : Plain → Plain → Type 0) (old new : EpochSeatView V)
    → KnowsBoth Then old new → (p q : Plain) → (own_of old).whole ≡ Some p → (own_of new).whole ≡ Some q
    → Then p q
both_are Then old new both p q knew knows =
    subst (λ (x : Plain × Plain). Then x.0 x.1)
    (λ i. (one_state old both.before p both.knew knew i, one_state new both.now q both.knows knows i))
    both.then

-- a state is known where the core is
pub knows_whole : {V : Type 0} (v : EpochSeatView V) → IsSome v.whole → IsSome (own_of v).whole
knows_whole v is = known_is v.whole (IsSome (own_of v).whole) (λ all e.
    subst (λ (o : Option Plain). IsSome o)
    (sym (ap (option_map (λ (w : EpochWhole). shows v.core.shape (core_in w))) e)) refl) is

-- the core that is known
pub core_of : {V : Type 0} (v : EpochSeatView V) → IsSome v.whole
    → (all : EpochWhole) × (v.whole ≡ Some all)
core_of v is =
    known_is v.whole ((all : EpochWhole) × (v.whole ≡ Some all)) (λ all e. (all, e)) is

-- and the core where the state is
pub core_known : {V : Type 0} (v : EpochSeatView V) → IsSome (own_of v).whole
    → (all : EpochWhole) × (v.whole ≡ Some all)
core_known v is = go v.whole refl is
  where
    go : (o : Option EpochWhole) → v.whole ≡ o
        → IsSome (option_map (λ (w : EpochWhole). shows v.core.shape (core_in w)) o)
        → (all : EpochWhole) × (v.whole ≡ Some all)
    go None e some = absurd (cc (some))
    go (Some all) e some = (all, e)

module _ {P V : Type 0} (fits : List ℕ → Type 0) (d : DomainState P) where
  -- A step of a seat that knew the whole state: it is seat 0, all others have left, and the step was made in that
  -- state. It knows the state afterwards, and payloads fit in both.
  pub record StepsKnown (a : EpochAct) (all : EpochWhole) (w : ℕ) (old new : SeatState V) : Type 0
    where
      pub sound : Sound d.shape (core_in all)
      pub only : IsOnly d.shape (core_in all) 0
      pub mine : old.view.core ≡ view_at (core_in all) 0
      pub enabled : Enabled d.shape (core_in all) 0 a
      pub found_is : w ≡ found d.shape (core_in all) 0 a
      pub then : new.view.whole ≡ Some (whole_of (after d.shape (core_in all) 0 a))
      pub mine_then : new.view.core ≡ view_at (after d.shape (core_in all) 0 a) 0
      pub fit : AllFit fits (shows d.shape (core_in all))
      pub fit_then : AllFit fits (shows d.shape (after d.shape (core_in all) 0 a))
      pub objects_then :
          (s : SlotId) → HasSlot (show_seat new.view.core) s
          → object_in new.view s ≡ object_of (slot_at (shows d.shape (after d.shape (core_in all) 0 a)) s)

  module _ {next : OwnPart → OwnPart → V → PlainAct → ℕ → V}
      {allows : Plain → Plain → ℕ → V → V → Type 0} where
    pub steps_known : (a : EpochAct) (o : EpochOutcome) (all : EpochWhole) (old new : SeatState V)
        → (step : Steps fits d next allows a old new o) → old.view.whole ≡ Some all
        → StepsKnown a all step.word old new
    steps_known a o all old new step knows =
        let told = step.told in
        let h = told.happened in
        let so = told.said.whole all knows in
        let is : core_in all ≡ h.before = so.0 in
        let first : old.view.core.seat ≡ 0 = so.1 in
        let sound : Sound d.shape (core_in all) =
        subst (Sound d.shape) (sym is)
        (history_sound d.shape d.quotas h.events h.before h.shape h.quotas h.history) in
        let at : h.before ≡ core_in all = sym is in
        record {
          sound = sound;
          only = λ m low other.
              subst (λ (c : Core). (view_at c m).left ≡ true) at
              (so.2 m (omega (arith, other))
              (let many = ap (λ (c : Core). length c.views) is in
              let count = sound.views in omega (arith, many, count, low)));
          mine = told.said.core
              ∙ (ap (λ (n : ℕ). view_at h.before n) first
              ∙ ap (λ (c : Core). view_at c 0) at);
          enabled = subst (λ (c : Core). Enabled d.shape c 0 a) at
              (subst (λ (n : ℕ). Enabled d.shape h.before n a) first h.enabled);
          found_is = h.found
              ∙ (ap (λ (n : ℕ). found d.shape h.before n a) first
              ∙ ap (λ (c : Core). found d.shape c 0 a) at);
          then = told.whole
              ∙ (ap (λ (x : Option EpochWhole). option_map
              (λ (whole : EpochWhole). whole_of (after d.shape (core_in whole) old.view.core.seat a)) x) knows
              ∙ ap (λ (n : ℕ). Some (whole_of (after d.shape (core_in all) n a))) first);
          mine_then = told.says.core
              ∙ (ap (λ (n : ℕ). view_at (after d.shape h.before n a) n) first
              ∙ ap (λ (c : Core). view_at (after d.shape c 0 a) 0) at);
          fit = subst (λ (c : Core). AllFit fits (shows d.shape c)) at h.fact.0;
          fit_then = subst (λ (c : Core). AllFit fits (shows d.shape (after d.shape c 0 a))) at
              (subst (λ (n : ℕ). AllFit fits (shows d.shape (after d.shape h.before n a))) first h.fact.1);
          objects_then = λ s has.
              told.says.objects s has
              ∙ (ap (λ (n : ℕ). object_of (slot_at (shows d.shape (after d.shape h.before n a)) s)) first
              ∙ ap (λ (c : Core). object_of (slot_at (shows d.shape (after d.shape c 0 a)) s)) at);
        }

  -- what it knows after an act that isn't a leave
  pub lone_then : (a : EpochAct) → ((j : ℕ) → a ≡ act.Leave j → ⊥) → (all : EpochWhole) (w : ℕ)
      (old new : SeatState V) → StepsKnown a all w old new
      → IsLoneState fits d new.view (shows d.shape (after d.shape (core_in all) 0 a))
  lone_then a single all w old new s =
      let c : Core = core_in all in
      let e : Core = after d.shape c 0 a in
      let so : Sound d.shape e = step_keeps d.shape c 0 a s.sound s.enabled in
      let some = so.shape.0 in
      let shape : new.view.core.shape ≡ d.shape =
      ap (λ (v : EpochView). v.shape) s.mine_then ∙ (so.seats 0 (omega (arith, some))).same_shape in
      record {
        knows = record {
          whole = whole_shown d.shape new.view (whole_of e) shape s.then;
          lawful = shows_lawful d.shape e so;
          fit = s.fit_then;
        };
        all = whole_of e;
        whole = s.then;
        shown = refl;
        sound = so;
        only = λ m low other.
            ap (λ (v : EpochView). v.left) (other_after d.shape c 0 a s.enabled.0 single m other)
            ∙ s.only m low other;
        half = s.mine_then;
        objects = s.objects_then;
      }

-- a seat of which that is as it was is alone still
pub still_alone : {V : Type 0} (old new : EpochSeatView V) → new.core.seat ≡ old.core.seat
    → new.core.left_seats ≡ old.core.left_seats → new.core.shape ≡ old.core.shape → IsAlone old → IsAlone new
still_alone old new seat left shape alone =
    let count = ap length left in
    let seats = ap (λ (z : EpochShape). z.seats) shape in
    let all = alone.1 in
    (seat ∙ alone.0, omega (arith, count, seats, all))
