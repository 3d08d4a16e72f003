-- What looks and reads leave of a seat, and how they follow one another.
use Rattle.std.proofs.Common.{◌≡◌, ◌≢◌, ℕ, ◌+◌, ◌≤◌, List, [], ◌∷◌, ◌++◌, length, length-append, refl, sym, ap, subst, ◌∙◌, arith}
use Rattle.std.specs.Prelude.{false, Option, Some, None}
use Rattle.cell_calls.specs.Keeping.{GoesOn, Keeps, Learns, aside}
use Rattle.cell_law.specs.declared.view.View.{View}
use Rattle.cell_calls.proofs.Keeping.{goes_then, keeps_self, keeps_then, keeps_wider}
use Rattle.epoch_domain.specs.plain_protocol.plain_state.declared.act.EventPlace.{EventPlace}
use Rattle.epoch_domain.specs.plain_protocol.plain_state.declared.act.PlainAct.{PlainAct}
use Rattle.epoch_domain.specs.plain_protocol.plain_state.declared.slot.SlotId.{SlotId}
use Rattle.epoch_domain.specs.plain_protocol.plain_state.Lists.{times}
use Rattle.epoch_domain.specs.plain_protocol.plain_state.State.{Plain}
use Rattle.epoch_domain.specs.plain_protocol.Owns.{Object, OwnPart}
use Rattle.epoch_domain.specs.epoch_core.core_events.Words.{slot_in}
use Rattle.epoch_domain.specs.epoch_core.declared.act.EpochAct.TheVariants as act
use Rattle.epoch_domain.specs.epoch_core.declared.outcome.EpochOutcome.{EpochOutcome}
use Rattle.epoch_domain.specs.epoch_core.declared.view.EpochMove.{EpochMove}
use Rattle.epoch_domain.specs.epoch_core.declared.view.EpochView.{EpochView}
use Rattle.epoch_domain.specs.epoch_core.Steps.{answer, moved, noted, saw}
use Rattle.epoch_domain.specs.epoch_core.Views.{Holds, IsInside}
use Rattle.epoch_domain.specs.epoch_rule.declared.view.EpochSeatView.{EpochSeatView}
use Rattle.epoch_domain.specs.epoch_rule.Told.{Happened}
use Rattle.epoch_domain.specs.epoch_rule.Views.{object_in, own_of}
use Rattle.epoch_domain.specs.Calls.{Steps}
use Rattle.epoch_domain.specs.Domains.{DomainState}
use Rattle.epoch_domain.specs.Seats.{SeatState}
use Rattle.epoch_domain.proofs.Below.core_law_Kit.{one_same, times_push}
use Rattle.epoch_domain.proofs.Below.epoch_rule_Others.{held_has}
use Rattle.epoch_refs.specs.Searching.{Goes}
use Rattle.cell_finding.specs.Looking.{AtStep, HasSeen, IsFew, OnlyLooks}

-- WHAT A SEAT HAS that its region has seen
pub seen_holds : (v : EpochView) (s : SlotId) → HasSeen v s → Holds v s
seen_holds v s seen = omega (arith, seen)

module _ {V : Type 0} (v : EpochSeatView V) (s : SlotId) (seen : HasSeen v.core s) where
  pub seen_object : (own_of v).objects s ≡ Some (object_in v s)
  seen_object = rw (held_has s v.core (seen_holds v.core s seen)) refl

  pub seen_some : (own_of v).objects s ≢ None
  seen_some none = never (object_in v s) (sym none ∙ seen_object)
    where
      never : (o : Object) → None ≡ Some o → ⊥
      never o e = cc

-- A CONTENT THAT IS SEEN
module _ (v : EpochView) where
  saw_owned : (o : Option SlotId) → (saw o v).owned ≡ v.owned
  saw_owned None = refl
  saw_owned (Some s) = refl

  saw_makes : (o : Option SlotId) → (saw o v).makes ≡ v.makes
  saw_makes None = refl
  saw_makes (Some s) = refl

  saw_adds : (o : Option SlotId) → (saw o v).adds ≡ v.adds
  saw_adds None = refl
  saw_adds (Some s) = refl

  saw_aside : (o : Option SlotId) (t : List EpochMove)
      → aside (record (saw o v) { trail = t }) ≡ aside v
  saw_aside None t = refl
  saw_aside (Some s) t = refl

  saw_trail : (o : Option SlotId) → (saw o v).trail ≡ v.trail
  saw_trail None = refl
  saw_trail (Some s) = refl

  saw_sees : (o : Option SlotId) (x : SlotId) → times x v.seen ≤ times x (saw o v).seen
  saw_sees None x = omega arith
  saw_sees (Some s) x = let p = times_push x s v.seen in omega (arith, p)

-- ONE CALL
module _ {P V : Type 0} (fits : List ℕ → Type 0) (d : DomainState P)
    (next : OwnPart → OwnPart → V → PlainAct → ℕ → V)
    (allows : Plain → Plain → ℕ → V → V → Type 0) (p : EventPlace) (o : EpochOutcome)
    (old new : SeatState V) (step : Steps fits d next allows (act.Look p) old new o) where
  abbrev w : ℕ
  w = step.word

  abbrev answered : EpochOutcome
  answered = answer (act.Look p) w old.view.core

  core_is : new.view.core ≡ noted (act.Look p) answered (saw (slot_in w) old.view.core)
  core_is = step.told.core

  abbrev trail_then : List EpochMove
  trail_then =
      (saw (slot_in w) old.view.core).trail ++ record { act = act.Look p; outcome = answered } ∷ []

  -- the region has seen what was found
  pub look_sees : (s : SlotId) → slot_in w ≡ Some s → HasSeen new.view.core s
  look_sees s is =
      let seen : new.view.core.seen ≡ old.view.core.seen ++ s ∷ [] =
      ap (λ (u : EpochView). u.seen) core_is ∙ ap (λ (x : Option SlotId). (saw x old.view.core).seen) is in
      let e = ap (times s) seen in
      let p = times_push s s old.view.core.seen in
      let one' = one_same s s refl in
      omega (arith, e, p, one')

  pub look_keeps : Keeps 0 0 old.view.core.owned old new
  look_keeps =
      let v = old.view.core in
      let made = ap (λ (u : EpochView). u.makes) core_is ∙ saw_makes v (slot_in w) in
      let added = ap (λ (u : EpochView). u.adds) core_is ∙ saw_adds v (slot_in w) in
      record {
        owns = λ x. ap (λ (u : EpochView). times x u.owned) core_is
            ∙ ap (times x) (saw_owned v (slot_in w));
        makes_used = (omega (arith, made), omega (arith, made));
        adds_used = (omega (arith, added), omega (arith, added));
        sees = λ x.
            let e = ap (λ (u : EpochView). times x u.seen) core_is in
            let m = saw_sees v (slot_in w) x in omega (arith, e, m);
        same = ap aside core_is ∙ saw_aside v (slot_in w) trail_then;
        goes = (
          record { act = act.Look p; outcome = answered } ∷ [],
          ap (λ (u : EpochView). u.trail) core_is
              ∙ ap (λ (t : List EpochMove). t ++ record { act = act.Look p; outcome = answered } ∷ [])
              (saw_trail v (slot_in w)),
        );
        knows = λ x before after. step.told.objects x (held_has x v before);
      }

  pub look_few : IsFew 1 old new
  look_few =
      let e = ap (λ (u : EpochView). length u.trail) core_is in
      let same = ap length (saw_trail old.view.core (slot_in w)) in
      let l = length-append (saw (slot_in w) old.view.core).trail
      (record { act = act.Look p; outcome = answered } ∷ []) in
      omega (arith, e, same, l)

-- SEVERAL CALLS
pub looks_none : (a : SeatState View) → OnlyLooks 0 a a
looks_none a = record {
  keeps = keeps_self a;
  learns = record { saw = λ e i. i; found = λ e i. i; rest = refl };
  few = omega arith;
}

pub looked : (n : ℕ) (a b : SeatState View) → Keeps 0 0 a.view.core.owned a b
    → Learns a.view.client b.view.client → IsFew n a b → OnlyLooks n a b
looked n a b keeps learns few = record { keeps = keeps; learns = learns; few = few }

pub learns_then : (u v w : View) → Learns u v → Learns v w → Learns u w
learns_then u v w first second = record {
  saw = λ e i. second.saw e (first.saw e i);
  found = λ e i. second.found e (first.found e i);
  rest = second.rest
      ∙ ap (λ (x : View). record x { seen = w.seen; found = w.found }) first.rest;
}

module _ (n : ℕ) (a b : SeatState View) (first : OnlyLooks n a b) where
  pub looks_sees : (x : SlotId) → HasSeen a.view.core x → HasSeen b.view.core x
  looks_sees x seen = let m = first.keeps.sees x in omega (arith, m, seen)

  pub looks_inside : IsInside a.view.core → IsInside b.view.core
  looks_inside inside =
      let e : b.view.core.number ≡ a.view.core.number =
      ap (λ (v : EpochView). v.number) first.keeps.same in
      omega (arith, e, inside)

  pub looks_seat : b.view.core.seat ≡ a.view.core.seat
  looks_seat = ap (λ (v : EpochView). v.seat) first.keeps.same

  pub looks_open : a.view.client.cleared ≡ false → b.view.client.cleared ≡ false
  looks_open is = ap (λ (v : View). v.cleared) first.learns.rest ∙ is

  pub looks_then : (m k : ℕ) (c : SeatState View) → n + m ≤ k → OnlyLooks m b c → OnlyLooks k a c
  looks_then m k c most second = record {
    keeps = keeps_wider 0 0 0 0 b.view.core.owned a.view.core.owned a c
        (keeps_then 0 0 0 0 a.view.core.owned b.view.core.owned a b c first.keeps second.keeps
        (λ x before after.
        let o = first.keeps.owns x in let m = first.keeps.sees x in omega (arith, o, m, before)))
        (omega arith) (omega arith) (λ x. first.keeps.owns x);
    learns = learns_then a.view.client b.view.client c.view.client first.learns second.learns;
    few = let f = first.few in let g = second.few in omega (arith, f, g, most);
  }

pub looks_wider : (n : ℕ) (a b : SeatState View) → OnlyLooks n a b → (k : ℕ) → n ≤ k
    → OnlyLooks k a b
looks_wider n a b looks k most = record {
  keeps = looks.keeps;
  learns = looks.learns;
  few = let f = looks.few in omega (arith, f, most);
}

-- reads without a deed
pub goes_looks : {P : Type 0} (fits : List ℕ → Type 0) (d : DomainState P) (ms : List EpochMove)
    (n : ℕ) (old new : SeatState View) → length ms ≤ n → Goes fits d ms old.view.core old new
    → OnlyLooks n old new
goes_looks fits d ms n old new most goes =
    let made = ap (λ (u : EpochView). u.makes) goes.core in
    let added = ap (λ (u : EpochView). u.adds) goes.core in
    record {
      keeps = record {
        owns = λ x. ap (λ (u : EpochView). times x u.owned) goes.core;
        makes_used = (omega (arith, made), omega (arith, made));
        adds_used = (omega (arith, added), omega (arith, added));
        sees = λ x. let e = ap (λ (u : EpochView). times x u.seen) goes.core in omega (arith, e);
        same = ap aside goes.core;
        goes = (ms, ap (λ (u : EpochView). u.trail) goes.core);
        knows = λ x before after. goes.knows x (held_has x old.view.core before);
      };
      learns = subst (λ (v : View). Learns old.view.client v) (sym goes.client)
          (record { saw = λ e i. i; found = λ e i. i; rest = refl });
      few =
          let e = ap (λ (u : EpochView). length u.trail) goes.core in
          let l = length-append old.view.core.trail ms in
          omega (arith, e, l, most);
    }

-- A STEP OF A CALL
module _ {P V : Type 0} (d : DomainState P) (fact : Plain → Type 0) (a b c : SeatState V) where
  pub later_step : b.view.core.seat ≡ a.view.core.seat → GoesOn a.view.core b.view.core
      → AtStep d fact b c → AtStep d fact a c
  later_step same goes at = record {
    view = at.view;
    act = at.act;
    word = at.word;
    happened = subst (λ (n : ℕ). Happened d.shape d.quotas n at.view at.act at.word (λ p q. fact p))
        same at.happened;
    since = goes_then a.view.core b.view.core at.view goes at.since;
    till = at.till;
  }

  pub earlier_step : GoesOn b.view.core c.view.core → AtStep d fact a b → AtStep d fact a c
  earlier_step goes at = record {
    view = at.view;
    act = at.act;
    word = at.word;
    happened = at.happened;
    since = at.since;
    till = goes_then (moved d.shape at.act at.word at.view) b.view.core c.view.core at.till goes;
  }
