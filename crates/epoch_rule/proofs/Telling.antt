-- What the rule tells of one seat by its view.
use Rattle.std.proofs.Common.{◌≡◌, ◌≢◌, ℕ, ◌<◌, Bool, true, false, List, [], ◌∷◌, set, refl, ap, sym, ◌∙◌, arith, append-nil}
use Rattle.std.specs.Bool.{MatchBool}
use mathlib.Core.Option.{some}
use lib.ListN.{get_elem?}
use Rattle.atomic_table.specs.Table.{State}
use Rattle.plain_protocol.specs.plain_state.State.{Plain}
use Rattle.epoch_core.specs.declared.act.EpochEvent.{EpochEvent}
use Rattle.epoch_core.specs.declared.shape.EpochShape.{EpochShape}
use Rattle.core_law.specs.core_events.declared.shape.Quota.{Quota}
use Rattle.epoch_core.specs.declared.view.EpochView.{EpochView}
use Rattle.epoch_core.specs.Runs.{Core, view_at}
use Rattle.epoch_core.specs.Sound.{Sound}
use Rattle.epoch_core.proofs.Keeps.{history_sound}
use Rattle.epoch_rule.specs.declared.view.EpochSeatView.{EpochSeatView}
use Rattle.epoch_rule.specs.Past.{GoesOnFrom}
use Rattle.epoch_rule.specs.Rule.{IsHereOrGone, IsTrueOf, Tells, Kept}
use Rattle.domain_rule.proofs.Padding.{at_less}
use Rattle.domain_rule.proofs.Telling.{set_all}

-- one case of a match is enough where the other can't be
here_case : (A B : Type 0) (b : Bool) → b ≡ false → MatchBool b A B → B
here_case A B true e m = absurd (cc (e))
here_case A B false e m = m

case_here : (A B : Type 0) (b : Bool) → b ≡ false → B → MatchBool b A B
case_here A B true e m = absurd (cc (e))
case_here A B false e m = m

case_map : {A B A' B' : Type 0} (b : Bool) → (A → A') → (b ≡ false → B → B') → MatchBool b A B
    → MatchBool b A' B'
case_map true f g m = f m
case_map false f g m = g refl m

module _ {V : Type 0} (z : EpochShape) (c d : Core) (n : ℕ) (v : EpochSeatView V) where
  -- what a view tells stays, if what has left stays so, and what a seat knows is still so
  pub tells_again : ((view_at c n).left ≡ true → (view_at d n).left ≡ true)
      → (v.gone ≡ false → IsTrueOf z c n v → IsTrueOf z d n v) → Tells z c n v → Tells z d n v
  tells_again left true_of = case_map v.gone left true_of

-- a seat that is there tells what is so
pub tells_here : {V : Type 0} (z : EpochShape) (c : Core) (n : ℕ) (v : EpochSeatView V) → v.gone ≡ false
    → IsTrueOf z c n v → Tells z c n v
tells_here z c n v here =
    case_here ((view_at c n).left ≡ true) (IsTrueOf z c n v) v.gone here

-- a seat's view is given anew
pub set_tells : {V : Type 0} (z : EpochShape) (c : Core) (views : List (EpochSeatView V)) (i : ℕ)
    (w : EpochSeatView V)
    → Tells z c i w
    → ((n : ℕ) (u : EpochSeatView V) → n ≢ i → get_elem? views n ≡ some u → Tells z c n u)
    → (n : ℕ) (u : EpochSeatView V) → get_elem? (set views i w) n ≡ some u → Tells z c n u
set_tells z c views i w own others = set_all (Tells z c) views i w own others

-- a history that goes on from a past still does with one event more
pub goes_on : (e : EpochEvent) (past events : List EpochEvent) → GoesOnFrom past events
    → GoesOnFrom past (e ∷ events)
goes_on e past events goes = (e ∷ goes.0, ap (λ (es : List EpochEvent). e ∷ es) goes.1)

-- and every one does from nothing
pub from_nothing : (events : List EpochEvent) → GoesOnFrom [] events
from_nothing events = (events, sym (append-nil events))

module _ {V : Type 0} (views : List (EpochSeatView V)) (i : ℕ) (w : EpochSeatView V) where
  -- a seat's view is given anew, after so many events: each tells a past of these events
  pub set_pasts : (past events : List EpochEvent) → GoesOnFrom w.past events
      → ((m : List EpochEvent) → GoesOnFrom m past → GoesOnFrom m events)
      → ((n : ℕ) (u : EpochSeatView V) → get_elem? views n ≡ some u → GoesOnFrom u.past past)
      → (n : ℕ) (u : EpochSeatView V) → get_elem? (set views i w) n ≡ some u
      → GoesOnFrom u.past events
  set_pasts past events own more pasts = set_all (λ n u. GoesOnFrom u.past events) views i w own
      (λ n u apart at. more u.past (pasts n u at))

  -- and each is here or gone
  pub set_left : (gone : V) → IsHereOrGone gone w
      → ((n : ℕ) (u : EpochSeatView V) → get_elem? views n ≡ some u → IsHereOrGone gone u)
      → (n : ℕ) (u : EpochSeatView V) → get_elem? (set views i w) n ≡ some u → IsHereOrGone gone u
  set_left gone own left = set_all (λ n u. IsHereOrGone gone u) views i w own
      (λ n u apart at. left n u at)

module _ {V : Type 0} {law : Plain → List V → Type 0} {first : ℕ → V} {gone : V}
    {fits : List ℕ → Type 0} (z : EpochShape) (qs : List Quota) (s : State (Unit {0}) (EpochSeatView V))
    (k : Kept law first gone fits z qs s) where
  pub kept_sound : Sound z k.core
  kept_sound = history_sound z qs k.events k.core k.shape k.quotas k.history

  module _ (n : ℕ) (v : EpochSeatView V) (at : get_elem? s.views n ≡ some v) where
    pub in_seats : n < z.seats
    in_seats = let l = at_less s.views n v at in let f = k.few.1 in omega arith

    pub true_of : v.gone ≡ false → IsTrueOf z k.core n v
    true_of here = here_case ((view_at k.core n).left ≡ true) (IsTrueOf z k.core n v) v.gone here
        (k.tells n v at)

    -- the seat's number stands in its view
    pub number_of : v.gone ≡ false → v.core.seat ≡ n
    number_of here =
        ap (λ (u : EpochView). u.seat) (true_of here).core ∙ (kept_sound.seats n in_seats).number

    -- seat 0 is there, by its number
    pub is_root : v.gone ≡ false → v.core.seat ≡ 0 → n ≡ 0
    is_root here root = sym (number_of here) ∙ root
