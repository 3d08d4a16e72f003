-- A seat that is alone opens a region, looks at a place with the lesson's deed, and closes the region: it knows the law
-- then, of a state that is as it was, and has and knows what it had and knew.
use Rattle.std.proofs.Common.{◌≡◌, ℕ, ◌<◌, List, [], refl, ap, sym, ◌∙◌, subst, arith}
use Rattle.std.specs.Prelude.{Option, Some, None}
use Rattle.epoch_settling.specs.epoch_core.core_events.Words.{slot_in}
use Rattle.epoch_settling.specs.epoch_core.plain_state.State.{Plain}
use Rattle.epoch_settling.specs.epoch_core.plain_state.declared.act.EventPlace.{EventPlace}
use Rattle.epoch_settling.specs.epoch_core.plain_state.declared.act.PlainAct.{PlainAct}
use Rattle.epoch_settling.specs.epoch_core.plain_state.declared.slot.SlotId.{SlotId}
use Rattle.epoch_settling.specs.epoch_core.declared.act.EpochAct.TheVariants as act
use Rattle.epoch_settling.specs.epoch_core.declared.outcome.EpochOutcome.{EpochOutcome}
use Rattle.epoch_settling.specs.epoch_core.declared.outcome.EpochOutcome.TheVariants as outcome
use Rattle.epoch_settling.specs.epoch_core.declared.shape.EpochShape.{EpochShape}
use Rattle.epoch_settling.specs.epoch_core.declared.view.EpochView.{EpochView}
use Rattle.epoch_settling.specs.epoch_core.Runs.{Core, after, view_at}
use Rattle.epoch_settling.specs.epoch_core.Shows.{show_seat, shows}
use Rattle.epoch_settling.specs.epoch_core.Steps.{saw}
use Rattle.epoch_settling.proofs.Below.epoch_core_ShownRegions.{enter_shown, open_shown}
use Rattle.law_lesson.specs.Lessons.{HoldsOf}
use Rattle.epoch_refs.specs.plain_protocol.Owns.{OwnPart}
use Rattle.epoch_refs.specs.Calls.{Enters}
use Rattle.epoch_refs.specs.Walks.{IsAtRest, IsFree}
use Rattle.epoch_refs.specs.epoch_domain.Calls.{IsSameView, Steps, same_view}
use Rattle.epoch_refs.specs.epoch_domain.Domains.{DomainState}
use Rattle.epoch_refs.specs.epoch_domain.Leavings.{KnowsSame}
use Rattle.epoch_refs.specs.epoch_domain.Seats.{SeatState}
use Rattle.epoch_refs.specs.epoch_rule.declared.view.EpochWhole.{EpochWhole}
use Rattle.epoch_refs.specs.epoch_rule.Views.{IsAlone, core_in, own_of, whole_of}
use Rattle.epoch_alone.specs.Lone.{IsLoneState, KnowsLaw, StaysAll}
use Rattle.epoch_alone.proofs.Known.{StepsKnown, lone_then, steps_known, still_alone, whole_shown}
use Rattle.epoch_alone.proofs.Back.{back, state_back}
use Rattle.epoch_alone.proofs.Objects.{LeavesObjects, SameObjects, has_own, objects_self, objects_step, objects_then, same_objects}

-- what the lesson's deed makes of the view, and what it tells
abbrev pub LearnsNext : {V : Type 0} → OwnPart → OwnPart → V → PlainAct → ℕ → V
LearnsNext own after v act found = v

abbrev pub LearnsAllows : {V : Type 0} → (Plain → List V → Type 0) → V → Plain → Plain → ℕ → V → V
    → Type 0
LearnsAllows law gone p q n v w = (w ≡ v) × HoldsOf law gone p n v

saw_owned : (o : Option SlotId) (v : EpochView) → (saw o v).owned ≡ v.owned
saw_owned None v = refl
saw_owned (Some s) v = refl

saw_dying : (o : Option SlotId) (v : EpochView) → (saw o v).dying ≡ v.dying
saw_dying None v = refl
saw_dying (Some s) v = refl

enter_leaves : (z : EpochShape) → LeavesObjects z act.Enter
enter_leaves z = record { owned = λ w v. refl; dying = λ w v. refl; objects = λ v s ob. refl }

open_leaves : (z : EpochShape) → LeavesObjects z act.Open
open_leaves z = record { owned = λ w v. refl; dying = λ w v. refl; objects = λ v s ob. refl }

look_leaves : (z : EpochShape) (p : EventPlace) → LeavesObjects z (act.Look p)
look_leaves z p = record {
  owned = λ w v. saw_owned (slot_in w) v;
  dying = λ w v. saw_dying (slot_in w) v;
  objects = λ v s ob. refl;
}

exit_leaves : (z : EpochShape) → LeavesObjects z act.Exit
exit_leaves z = record { owned = λ w v. refl; dying = λ w v. refl; objects = λ v s ob. refl }

module _ {P V : Type 0} (fits : List ℕ → Type 0) (d : DomainState P) (law : Plain → List V → Type 0)
    (gone : V) (p : EventPlace) (old opened looked new : SeatState V) (o : EpochOutcome)
    (enters : Enters fits d old opened)
    (looks : Steps fits d LearnsNext (LearnsAllows law gone) (act.Look p) opened looked o)
    (exits : Steps fits d same_view IsSameView act.Exit looked new outcome.Plain)
    (free : IsFree d old) (all : EpochWhole) (knows : old.view.whole ≡ Some all) where
  abbrev z : EpochShape
  z = d.shape

  abbrev before : Core
  before = core_in all

  abbrev entered : Core
  entered = after d.shape (core_in all) 0 act.Enter

  abbrev inside : Core
  inside = after d.shape (after d.shape (core_in all) 0 act.Enter) 0 act.Open

  abbrev seen : Core
  seen = after d.shape inside 0 (act.Look p)

  abbrev end : Core
  end = after d.shape (after d.shape inside 0 (act.Look p)) 0 act.Exit

  abbrev mid : SeatState V
  mid = enters.walks.0

  abbrev open' : SeatState V
  open' = enters.walks.2.0

  at_enter : StepsKnown fits d act.Enter all enters.walks.1.word old mid
  at_enter = steps_known fits d act.Enter _ all old mid enters.walks.1 knows

  at_open : StepsKnown fits d act.Open (whole_of entered) enters.walks.2.1.word mid open'
  at_open = steps_known fits d act.Open _ (whole_of entered) mid open' enters.walks.2.1 at_enter.then

  knows_inside : opened.view.whole ≡ Some (whole_of inside)
  knows_inside = ap (λ (s : SeatState V). s.view.whole) enters.walks.2.2 ∙ at_open.then

  at_look : StepsKnown fits d (act.Look p) (whole_of inside) looks.word opened looked
  at_look = steps_known fits d (act.Look p) o (whole_of inside) opened looked looks knows_inside

  at_exit : StepsKnown fits d act.Exit (whole_of seen) exits.word looked new
  at_exit = steps_known fits d act.Exit outcome.Plain (whole_of seen) looked new exits at_look.then

  some : 0 < d.shape.seats
  some = let s = at_enter.sound.shape.0 in omega (arith, s)

  none : old.view.core.seen ≡ []
  none = ap (λ (v : EpochView). v.seen) at_enter.mine
      ∙ (at_enter.sound.seats 0 some).outside
      (ap (λ (v : EpochView). v.number) (sym at_enter.mine) ∙ free.outside)

  core : new.view.core ≡ record old.view.core { trail = new.view.core.trail }
  core = back z p old.view.core opened.view.core looked.view.core new.view.core _ looks.word exits.word _
      enters.core looks.told.core exits.told.core free.outside none

  seat : show_seat new.view.core ≡ show_seat old.view.core
  seat = ap show_seat core

  seat_inside : show_seat opened.view.core ≡ show_seat old.view.core
  seat_inside = ap show_seat enters.core
      ∙ ap (λ (xs : List SlotId). show_seat (record old.view.core { seen = xs })) (sym none)

  -- the field of the view in the region
  in_region : {A : Type 0} (f : EpochView → A) → f new.view.core ≡ f old.view.core
      → f opened.view.core ≡ f old.view.core → f new.view.core ≡ f (view_at inside 0)
  in_region f now then' = now ∙ (sym then' ∙ ap f at_look.mine)

  -- the plain state is as it was
  exited : shows d.shape end ≡ shows d.shape inside
  exited = state_back d.shape inside at_look.sound p at_look.enabled at_exit.enabled new.view.core
      at_exit.mine_then
      (in_region show_seat seat seat_inside)
      (in_region (λ v. v.phase) (ap (λ (v : EpochView). v.phase) core)
      (ap (λ (v : EpochView). v.phase) enters.core))
      (in_region (λ v. v.dying) (ap (λ (v : EpochView). v.dying) core)
      (ap (λ (v : EpochView). v.dying) enters.core))
      (in_region (λ v. v.made) (ap (λ (v : EpochView). v.made) core)
      (ap (λ (v : EpochView). v.made) enters.core))

  same_state : shows d.shape end ≡ shows d.shape before
  same_state =
      exited
      ∙ (open_shown d.shape entered 0 at_open.sound some at_open.enabled.1
      ∙ enter_shown d.shape before 0 at_enter.sound some at_enter.enabled.1)

  lone : IsLoneState fits d new.view (shows d.shape end)
  lone = lone_then fits d act.Exit (λ j e. absurd (cc (e))) (whole_of seen) exits.word looked new at_exit

  client_inside : new.view.client ≡ opened.view.client
  client_inside = exits.told.client ∙ looks.told.client

  client : new.view.client ≡ old.view.client
  client = client_inside
      ∙ (ap (λ (s : SeatState V). s.view.client) enters.walks.2.2
      ∙ (enters.walks.2.1.told.client ∙ enters.walks.1.told.client))

  holds : HoldsOf law gone (shows d.shape end) 0 new.view.client
  holds =
      let told = looks.told in
      let so = told.said.whole (whole_of inside) knows_inside in
      let found = told.happened.fact.2.1 in
      let here : HoldsOf law gone (shows d.shape inside) opened.view.core.seat opened.view.client =
      subst (λ (c : Core). HoldsOf law gone (shows d.shape c) opened.view.core.seat opened.view.client)
      (sym so.0) found in
      subst (λ (q : Plain). HoldsOf law gone q 0 new.view.client) (sym exited)
      (subst (λ (w : V). HoldsOf law gone (shows d.shape inside) 0 w) (sym client_inside)
      (subst (λ (n : ℕ). HoldsOf law gone (shows d.shape inside) n opened.view.client) so.1 here))

  pub knows_law : KnowsLaw fits d law gone new.view
  knows_law = record { state = shows d.shape end; lone = lone; holds = holds }

  objects : SameObjects old new
  objects =
      objects_then old mid new
      (objects_step act.Enter _ old mid enters.walks.1 (enter_leaves d.shape))
      (objects_then mid open' new
      (objects_step act.Open _ mid open' enters.walks.2.1 (open_leaves d.shape))
      (objects_then open' opened new
      (objects_self open' opened (ap (λ (s : SeatState V). s.view) enters.walks.2.2))
      (objects_then opened looked new
      (objects_step (act.Look p) o opened looked looks (look_leaves d.shape p))
      (objects_step act.Exit outcome.Plain looked new exits (exit_leaves d.shape)))))

  knows_same : KnowsSame old.view new.view
  knows_same s has = objects.knows s (has_own s old.view.core free.rest.1.0 none has)

  whole : (own_of new.view).whole ≡ (own_of old.view).whole
  whole =
      let shape : old.view.core.shape ≡ d.shape = free.rest.0.1 in
      lone.knows.whole
      ∙ (ap (λ (q : Plain). Some q) same_state
      ∙ sym (whole_shown d.shape old.view all shape knows))

  pub stays : StaysAll old new
  stays = record {
    core = core;
    own = λ i. record {
      seat = seat i;
      objects = λ s. same_objects old new s seat (knows_same s) i;
      whole = whole i;
    };
    client = client;
    objects = knows_same;
  }

  pub alone_still : IsAlone old.view → IsAlone new.view
  alone_still = still_alone old.view new.view (ap (λ (v : EpochView). v.seat) core)
      (ap (λ (v : EpochView). v.left_seats) core) (ap (λ (v : EpochView). v.shape) core)

  pub free_still : IsAtRest d new → IsFree d new
  free_still rest = record {
    rest = rest;
    outside = ap (λ (v : EpochView). v.number) core ∙ free.outside;
  }
