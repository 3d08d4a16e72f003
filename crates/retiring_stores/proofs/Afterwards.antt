-- What a seat has once it has put something into a place, and scanned where that was due.
use Rattle.std.proofs.Common.{◌≡◌, ⊎_elim, ℕ, Bool, true, false, List, [], ◌∷◌, ◌++◌, length, refl, ap, sym, ◌∙◌, subst, arith}
use Rattle.std.specs.Prelude.{Option, Some, None, slice_index_or, if◌then◌else◌}
use Rattle.std.proofs.lemmas.Bool.Decides.{nat_tests}
use Rattle.control_word.specs.plain_state.declared.act.EventPlace.{EventPlace}
use Rattle.control_word.specs.plain_state.declared.act.PlainAct.{PlainAct}
use Rattle.control_word.specs.plain_state.declared.act.PlainAct.TheVariants as plain
use Rattle.control_word.specs.plain_state.declared.slot.Kind.{Kind}
use Rattle.control_word.specs.plain_state.declared.slot.Kind.TheVariants.{Strong, Weak, Disposal}
use Rattle.control_word.specs.plain_state.declared.slot.SlotId.{SlotId}
use Rattle.control_word.specs.plain_state.Places.{place_kind}
use Rattle.control_word.specs.plain_state.State.{Plain}
use Rattle.control_word.specs.plain_protocol.Owns.{HasSlot, Object, OwnPart}
use Rattle.control_word.specs.core_events.declared.act.Act.TheVariants as act
use Rattle.control_word.specs.core_events.declared.shape.Shape.{Shape}
use Rattle.control_word.specs.core_events.declared.view.CoreView.{CoreView}
use Rattle.control_word.specs.core_events.declared.view.Move.{Move}
use Rattle.control_word.specs.core_events.declared.view.Note.{Note}
use Rattle.control_word.specs.core_events.declared.view.Note.TheVariants as note
use Rattle.control_word.specs.core_events.Shows.{show_seat}
use Rattle.control_word.specs.core_events.ShownSteps.{shown_act}
use Rattle.control_word.specs.core_events.Steps.{CanGive, HasRoom, May, without_given}
use Rattle.control_word.proofs.Below.core_law_Kit.{times_without}
use Rattle.control_word.specs.domain_rule.Told.{changed_object}
use Rattle.control_word.specs.acquire_retire.Collecting.{rest_of}
use Rattle.control_word.specs.acquire_retire.Domains.{DomainState}
use Rattle.control_word.specs.acquire_retire.Seats.{SeatState}
use Rattle.control_word.specs.Moves.{KnowsStill}
use Rattle.control_word.specs.Resting.{IsAtRest, IsSettled}
use Rattle.control_word.proofs.Becoming.{calling, knows_after}
use Rattle.retiring_stores.specs.Exchanging.{Exchanges, Puts, with_exchanged}
use Rattle.retiring_stores.specs.Scanning.{Collected, IsBelow, IsDue, ScansWhereDue}
use Rattle.retiring_stores.proofs.Rooming.{told_room}

-- what the seat has without a reference that it gives it has with it
pub given_has : (k : Kind) (given : Option SlotId) (v : CoreView) (s : SlotId) → CanGive k given v
    → HasSlot (show_seat (without_given k given v)) s → HasSlot (show_seat v) s
given_has k None v s can has = has
given_has Strong (Some x) v s can has =
    let more = times_without s x v.owned can in grind (arith, nat_tests)
given_has Weak (Some x) v s can has =
    let more = times_without s x v.weaks can in grind (arith, nat_tests)
given_has Disposal (Some x) v s can has = absurd can

-- what tells whether a seat is in a call stays with an exchange
same_calling : (k : Kind) (given held : Option SlotId) (v : CoreView) (t : List Move)
    → calling (record (with_exchanged k given held v) { trail = t }) ≡ calling v
same_calling k None held v t = refl
same_calling Strong (Some x) held v t = refl
same_calling Weak (Some x) held v t = refl
same_calling Disposal (Some x) held v t = refl

pub can_give : (z : Shape) (p : EventPlace) (given : Option SlotId) (v : CoreView)
    → May z (act.Swap p given) v → CanGive (place_kind p) given v
can_give z p given v may =
    ⊎_elim (λ o. o.1)
    (λ r. subst (λ (x : Option SlotId). CanGive (place_kind p) x v) (sym r.1) tt) may.2

pub either_keeps : (b : Bool) (p : EventPlace) (given : Option SlotId) (s : SlotId) (o : Object)
    → changed_object (if b then plain.Clear p else plain.Replace p given) s o ≡ o
either_keeps true p given s o = refl
either_keeps false p given s o = refl

-- a seat is at rest again where what tells it is the same
pub rests_as : {P V : Type 0} (d : DomainState P) (old new : SeatState V) → IsAtRest d old
    → new.table ≡ old.table → calling new.view.core ≡ calling old.view.core → IsAtRest d new
rests_as d old new rest table is = record {
  of_domain = (table ∙ rest.of_domain.0, ap (λ x. x.0) is ∙ rest.of_domain.1);
  idle = (ap (λ x. x.1) is ∙ rest.idle.0, ap (λ x. x.2) is ∙ rest.idle.1);
  owes_nothing = ap (λ x. x.4) is ∙ rest.owes_nothing;
  first = ap (λ x. slice_index_or x.3 0 note.Idle) is ∙ rest.first;
  others = λ j. subst (λ (n : Note). IsSettled n)
      (sym (ap (λ x. slice_index_or x.3 j note.Idle) is)) (rest.others j);
}

same_room : (k : Kind) (given : Option SlotId) (v : CoreView)
    → (rest_of (without_given k given v)).room ≡ v.room
same_room k None v = refl
same_room Strong (Some x) v = refl
same_room Weak (Some x) v = refl
same_room Disposal (Some x) v = refl

-- what a scan leaves, whether or not it was due
pub record Leaves {V : Type 0} (old new : SeatState V) : Type 0 where
  pub same : rest_of new.view.core ≡ rest_of old.view.core
  pub client : new.view.client ≡ old.view.client
  pub cleared : new.view.cleared ≡ old.view.cleared
  pub knows : KnowsStill old.view.core old new

pub scan_leaves : {P V : Type 0} {fits : List ℕ → Type 0} (d : DomainState P)
    (old new : SeatState V) → ScansWhereDue fits d old new → Leaves old new
scan_leaves {V = V} {fits = fits} d old new scans = ⊎_elim
    (λ (due : IsDue d old × Collected fits d old new). record {
      same = due.1.collects.goes.rest;
      client = due.1.collects.goes.client;
      cleared = due.1.cleared;
      knows = due.1.knows;
    })
    (λ (none : IsBelow d old × (new ≡ old)).
    subst (λ (x : SeatState V). Leaves old x) (sym none.1)
    (record { same = refl; client = refl; cleared = refl; knows = λ s has. refl }))
    scans

module _ {P V : Type 0} {fits : List ℕ → Type 0} (d : DomainState P)
    {next : OwnPart → OwnPart → V → PlainAct → ℕ → V}
    {allows : Plain → Plain → ℕ → V → V → Type 0} (p : EventPlace) (m : Move)
    (given held : Option SlotId) (old mid : SeatState V) (rest : IsAtRest d old)
    (puts : Puts fits d next allows p m given held old mid) where
  pub rests_mid : IsAtRest d mid
  rests_mid =
      rests_as d old mid rest puts.step.table
      (ap calling puts.core ∙ same_calling (place_kind p) given held old.view.core
      (old.view.core.trail ++ m ∷ []))

  module _ (new : SeatState V) (scans : ScansWhereDue fits d mid new) where
    pub exchanges : Exchanges fits d next allows p m given held old new
    exchanges =
        let leaves = scan_leaves d mid new scans in
        record {
          mid = mid;
          puts = puts;
          scans = scans;
          same = leaves.same ∙ ap rest_of puts.core;
          client = leaves.client;
          cleared = leaves.cleared;
        }

    pub has_room : IsBelow d new → IsAtRest d new → HasRoom new.view.core
    has_room below over =
        let least = told_room puts.step.told rest.idle.1 in
        let whole = ap (λ (v : CoreView). v.room) exchanges.same
        ∙ same_room (place_kind p) given old.view.core in
        let none = ap length over.owes_nothing in omega arith

    pub knows : CanGive (place_kind p) given old.view.core
        → ((w : ℕ) (s : SlotId) (x : Object)
        → changed_object (shown_act d.shape m.act w old.view.core) s x ≡ x)
        → KnowsStill (without_given (place_kind p) given old.view.core) old new
    knows can keeps s has =
        (scan_leaves d mid new scans).knows s
        (subst (λ (v : CoreView). HasSlot (show_seat v) s) (sym puts.core) has)
        ∙ knows_after d m.act old mid m.outcome (without_given (place_kind p) given old.view.core)
        puts.step (λ y it. given_has (place_kind p) given old.view.core y can it) keeps s has
