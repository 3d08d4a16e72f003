-- What single calls leave of a seat: those that gain, give up or keep a strong reference; and calls in turn.
use Rattle.std.proofs.Common.{◌≡◌, ◌≤◌, ℕ, Bool, true, false, List, [], ◌++◌, refl, ap, sym, ◌∙◌, subst, arith}
use Rattle.std.specs.Prelude.{Err, IfErr, Ok, OnErr, Option, Result, Some, None}
use Rattle.cdrc.specs.plain_state.declared.act.EventPlace.{EventPlace}
use Rattle.cdrc.specs.plain_state.declared.act.EventPlace.TheVariants.{Cell}
use Rattle.cdrc.specs.plain_state.declared.act.PlainAct.{PlainAct}
use Rattle.cdrc.specs.plain_state.declared.slot.Kind.TheVariants.{Strong}
use Rattle.cdrc.specs.plain_state.declared.slot.SlotId.{SlotId}
use Rattle.cdrc.specs.plain_state.Lists.{times}
use Rattle.cdrc.specs.plain_state.Places.{place_kind}
use Rattle.cdrc.specs.plain_state.State.{Plain}
use Rattle.cdrc.specs.plain_protocol.Owns.{OwnPart}
use Rattle.cdrc.specs.core_events.declared.view.CoreView.{CoreView}
use Rattle.cdrc.specs.core_events.declared.view.Move.{Move}
use Rattle.cdrc.specs.core_events.Steps.{without_given}
use Rattle.cdrc.specs.core_events.Views.{Holds, held_times, without}
use Rattle.cdrc.proofs.Below.core_law_Kit.{times_none}
use Rattle.cdrc.specs.acquire_retire.Collecting.{ends, rest_of}
use Rattle.cdrc.specs.acquire_retire.Domains.{DomainState}
use Rattle.cdrc.specs.acquire_retire.Seats.{SeatState}
use Rattle.cdrc.specs.control_word.Calls.{DropsStrong, with_ended, without_strong}
use Rattle.cdrc.specs.control_word.Moves.{KnowsStill}
use Rattle.cdrc.proofs.Below.protected_loads_Telling.{holds_has}
use Rattle.cdrc.specs.domain_rule.Views.{object_in}
use Rattle.cdrc.specs.retiring_stores.Exchanging.{Exchanges, Loses}
use Rattle.example_stack.specs.Views.{View}
use Rattle.example_stack.specs.Leaving.{Leaves, aside}
use Rattle.example_stack.proofs.Trails.{exchange_trail, trail_same, trail_then}

-- HOLDING. What a seat holds beside what it owns strongly is told by what stays
holds_more : (x : SlotId) (v w : CoreView) → aside v ≡ aside w
    → times x v.owned ≤ times x w.owned → Holds v x → Holds w x
holds_more x v w same more held =
    let e = ap (λ (u : CoreView). held_times x (record u { owned = [] })) same in
    let none = times_none x in omega arith

module _ (old new : SeatState View) where
  -- the seat has come to have v, but for its trail, and knows what it knew by `kept`
  pub leaves_as : (v kept : CoreView) (ms : List Move)
      → new.view.core ≡ record v { trail = old.view.core.trail ++ ms }
      → aside v ≡ aside old.view.core → old.view.core.adds ≤ v.adds → KnowsStill kept old new
      → ((x : SlotId) → Holds old.view.core x → Holds v x → Holds kept x) → Leaves v.owned old new
  leaves_as v kept ms core same adds knows holds = record {
    owns = λ x. ap (λ (u : CoreView). times x u.owned) core;
    same = ap aside core ∙ same;
    adds = (let is = ap (λ (u : CoreView). u.adds) core in omega arith);
    trail = (ms, ap (λ (u : CoreView). u.trail) core);
    knows = λ x was is.
        knows x (holds_has kept x (holds x was (subst (λ (u : CoreView). Holds u x) core is)));
  }

  -- only its trail has grown
  pub leaves_all : (ms : List Move)
      → new.view.core ≡ record old.view.core { trail = old.view.core.trail ++ ms }
      → KnowsStill old.view.core old new → Leaves old.view.core.owned old new
  leaves_all ms core knows =
      leaves_as old.view.core old.view.core ms core refl (omega arith) knows (λ x was is. was)

  pub leaves_same : new ≡ old → Leaves old.view.core.owned old new
  leaves_same is = subst (λ (z : SeatState View). Leaves old.view.core.owned old z) (sym is)
      (record {
        owns = λ x. refl;
        same = refl;
        adds = omega arith;
        trail = trail_same old old refl;
        knows = λ x was is. refl;
      })

  pub leaves_list : (xs ys : List SlotId) → ((x : SlotId) → times x xs ≡ times x ys)
      → Leaves xs old new → Leaves ys old new
  leaves_list xs ys same h = record {
    owns = λ x. h.owns x ∙ same x;
    same = h.same;
    adds = h.adds;
    trail = h.trail;
    knows = h.knows;
  }

ended_same : (b : Bool) (s : SlotId) (v : CoreView)
    → ((with_ended b s v).owned ≡ v.owned) × (aside (with_ended b s v) ≡ aside v)
    × ((with_ended b s v).adds ≡ v.adds)
ended_same true s v = (refl, refl, refl)
ended_same false s v = (refl, refl, refl)

-- A REFERENCE is given up
pub drop_leaves : {P : Type 0} {fits : List ℕ → Type 0} {d : DomainState P} (s : SlotId)
    (old new : SeatState View) → DropsStrong fits d s old new
    → KnowsStill (without_strong s old.view.core) old new
    → Leaves (without s old.view.core.owned) old new
drop_leaves s old new drops knows =
    let v = without_strong s old.view.core in
    let ended = ended_same (ends drops.0) s v in
    record {
      owns = λ x. ap (λ (u : CoreView). times x u.owned) drops.1.core ∙ ap (times x) ended.0;
      same = ap aside drops.1.core ∙ ended.1;
      adds = (let is = ap (λ (u : CoreView). u.adds) drops.1.core ∙ ended.2 in omega arith);
      trail = (_, ap (λ (u : CoreView). u.trail) drops.1.core);
      knows = λ x was is.
          let owned = ap (λ (u : CoreView). times x u.owned) drops.1.core ∙ ap (times x) ended.0 in
          knows x (holds_has v x (holds_more x new.view.core v
          (ap aside drops.1.core ∙ ended.1) (omega arith) is));
    }

-- AN EXCHANGE, lost or won: the seat has given what it gave
given_aside : (o : Option SlotId) (v : CoreView) → aside (without_given Strong o v) ≡ aside v
given_aside None v = refl
given_aside (Some x) v = refl

given_adds : (o : Option SlotId) (v : CoreView) → (without_given Strong o v).adds ≡ v.adds
given_adds None v = refl
given_adds (Some x) v = refl

pub exchange_leaves : {P : Type 0} {fits : List ℕ → Type 0} {d : DomainState P}
    {next : OwnPart → OwnPart → View → PlainAct → ℕ → View}
    {allows : Plain → Plain → ℕ → View → View → Type 0} (place : EventPlace) (m : Move)
    (given held : Option SlotId) (old new : SeatState View) → place_kind place ≡ Strong
    → Exchanges fits d next allows place m given held old new
    → KnowsStill (without_given Strong given old.view.core) old new
    → Leaves (without_given Strong given old.view.core).owned old new
exchange_leaves place m given held old new kind puts knows =
    let v = without_given Strong given old.view.core in
    let rest : rest_of new.view.core ≡ rest_of v =
    puts.same ∙ ap (λ k. rest_of (without_given k given old.view.core)) kind in
    let same : aside new.view.core ≡ aside v =
    ap (λ (u : CoreView). record u { owned = []; adds = 0 }) rest in
    record {
      owns = λ x. ap (λ (u : CoreView). times x u.owned) rest;
      same = same ∙ given_aside given old.view.core;
      adds = (let is = ap (λ (u : CoreView). u.adds) rest ∙ given_adds given old.view.core in
          omega arith);
      trail = exchange_trail place m given held old new puts;
      knows = λ x was is.
          let owned = ap (λ (u : CoreView). times x u.owned) rest in
          knows x (holds_has v x (holds_more x new.view.core v same (omega arith) is));
    }

-- CALLS IN TURN, of which the first only gains, or the second only gives up
module _ (xs ys : List SlotId) (a b c : SeatState View) (first : Leaves xs a b)
    (second : Leaves ys b c) where
  in_turn : ((x : SlotId) → Holds a.view.core x → Holds c.view.core x → Holds b.view.core x)
      → Leaves ys a c
  in_turn between = record {
    owns = second.owns;
    same = second.same ∙ first.same;
    adds = (let f = first.adds in let g = second.adds in omega arith);
    trail = trail_then a b c first.trail second.trail;
    knows = λ x was is.
        second.knows x (between x was is) is ∙ first.knows x was (between x was is);
  }

  pub after_gain : ((x : SlotId) → times x a.view.core.owned ≤ times x xs) → Leaves ys a c
  after_gain more = in_turn (λ x was is.
      let at = first.owns x in
      let few = more x in
      holds_more x a.view.core b.view.core (sym first.same) (omega arith) was)

  pub then_gives : ((x : SlotId) → times x ys ≤ times x b.view.core.owned) → Leaves ys a c
  then_gives fewer = in_turn (λ x was is.
      let at = second.owns x in
      let few = fewer x in
      holds_more x c.view.core b.view.core second.same (omega arith) is)

-- a compare and exchange on a cell that was lost
pub lost_leaves : {P : Type 0} {fits : List ℕ → Type 0} {d : DomainState P}
    {next : OwnPart → OwnPart → View → PlainAct → ℕ → View}
    {allows : Plain → Plain → ℕ → View → View → Type 0} (cell : ℕ)
    (given expected found : Option SlotId) (old new : SeatState View)
    → Loses fits d next allows (Cell cell) given expected found old new
    → Leaves old.view.core.owned old new
lost_leaves cell given expected found old new loses =
    let by = loses.becomes in
    leaves_all old new _ by.core
    (λ s has. ap (λ (z : SeatState View). object_in z.view s) by.walks.2
    ∙ by.walks.1.told.objects s has)

-- what each refusal gives, without the refusal
pub err_then : {T E : Type 0} (P : E → Type 0) (X : Type 0) (r : Result T E) → ((e : E) → P e → X)
    → IfErr r P → OnErr r X
err_then P X (Ok x) follows p = tt
err_then P X (Err e) follows p = follows e p

-- what follows for every refusal
pub on_err : {T E : Type 0} (X Y : Type 0) (r : Result T E) → (X → Y) → OnErr r X → OnErr r Y
on_err X Y (Ok x) follows p = tt
on_err X Y (Err e) follows p = follows p
