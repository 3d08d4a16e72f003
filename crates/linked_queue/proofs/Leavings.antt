-- What single calls leave of a seat: those that gain, give up or keep a strong reference.
use Rattle.std.proofs.Common.{◌≡◌, ◌≤◌, ℕ, Bool, true, false, List, [], ◌∷◌, ◌++◌, refl, ap, sym, ◌∙◌, subst, arith}
use Rattle.std.specs.Prelude.{Err, IfErr, IfOk, Ok, Option, Result, Some, None}
use Rattle.queue_protocol.specs.plain_state.declared.act.EventPlace.{EventPlace}
use Rattle.queue_protocol.specs.plain_state.declared.act.PlainAct.{PlainAct}
use Rattle.queue_protocol.specs.plain_state.declared.slot.Kind.TheVariants.{Strong}
use Rattle.queue_protocol.specs.plain_state.declared.slot.SlotId.{SlotId}
use Rattle.queue_protocol.specs.plain_state.Lists.{times}
use Rattle.queue_protocol.specs.plain_state.Places.{place_kind}
use Rattle.queue_protocol.specs.plain_state.State.{Plain}
use Rattle.queue_protocol.specs.plain_protocol.Owns.{OwnPart}
use Rattle.slot_store.specs.core_events.declared.view.CoreView.{CoreView}
use Rattle.slot_store.specs.core_events.declared.view.Move.{Move}
use Rattle.slot_store.specs.core_events.Steps.{without_given}
use Rattle.slot_store.specs.core_events.Views.{Holds, without}
use Rattle.slot_store.specs.acquire_retire.Collecting.{ends, rest_of}
use Rattle.slot_store.specs.acquire_retire.Domains.{DomainState}
use Rattle.slot_store.specs.acquire_retire.Seats.{SeatState}
use Rattle.slot_store.specs.control_word.Calls.{DropsStrong, GainsStrong, with_ended, with_strong, without_strong}
use Rattle.slot_store.specs.control_word.Moves.{KnowsStill}
use Rattle.slot_store.specs.control_word.Resting.{IsSpent}
use Rattle.part_calls.proofs.Below.protected_loads_Telling.{holds_has}
use Rattle.slot_store.specs.retiring_stores.Exchanging.{Exchanges}
use Rattle.linked_queue.specs.Leaving.{Leaves, aside}
use Rattle.linked_queue.proofs.Owning.{holds_more}
use Rattle.linked_queue.proofs.Trails.{exchange_trail, trail_same}

-- what follows for what two clauses say of each value follows for that of a result
pub then_ok_both : {T E : Type 0} (P Q R : T → Type 0) (r : Result T E)
    → ((x : T) → P x → Q x → R x) → IfOk r P → IfOk r Q → IfOk r R
then_ok_both P Q R (Ok x) follows p q = follows x p q
then_ok_both P Q R (Err e) follows p q = tt

-- what follows for each error follows for that of a result
pub then_err : {T E : Type 0} (P Q : E → Type 0) (r : Result T E) → ((e : E) → P e → Q e)
    → IfErr r P → IfErr r Q
then_err P Q (Ok x) follows p = tt
then_err P Q (Err e) follows p = follows e p

-- a call that is refused for want of adds, and changes nothing then, leaves a seat spent that was
pub spent_still : {T E V : Type 0} (why : E) (r : Result T E) (old new : SeatState V)
    → (r ≡ Err why → new ≡ old) → (r ≡ Err why → IsSpent old.view.core)
    → IfErr r (λ e. e ≡ why → IsSpent new.view.core)
spent_still why (Ok x) old new same spent = tt
spent_still {V = V} why (Err e) old new same spent = λ is.
    subst (λ (z : SeatState V). IsSpent z.view.core) (sym (same (ap Err is))) (spent (ap Err is))

module _ {V : Type 0} (old new : SeatState V) where
  -- the seat has come to have v, but for its trail, and knows what it knew by `kept`
  pub leaves_as : (v kept : CoreView) (ms : List Move)
      → new.view.core ≡ record v { trail = old.view.core.trail ++ ms }
      → aside v ≡ aside old.view.core → old.view.core.adds ≤ v.adds → KnowsStill kept old new
      → ((x : SlotId) → Holds old.view.core x → Holds v x → Holds kept x) → Leaves v.owned old new
  leaves_as v kept ms core same adds knows holds = record {
    owns = λ x. ap (λ (u : CoreView). times x u.owned) core;
    same = ap aside core ∙ same;
    adds = (let is = ap (λ (u : CoreView). u.adds) core in omega arith);
    trail = (ms, ap (λ (u : CoreView). u.trail) core);
    knows = λ x was is.
        knows x (holds_has kept x (holds x was (subst (λ (u : CoreView). Holds u x) core is)));
  }

  -- only its trail has grown
  pub leaves_all : (ms : List Move)
      → new.view.core ≡ record old.view.core { trail = old.view.core.trail ++ ms }
      → KnowsStill old.view.core old new → Leaves old.view.core.owned old new
  leaves_all ms core knows =
      leaves_as old.view.core old.view.core ms core refl (omega arith) knows (λ x was is. was)

  pub leaves_same : new ≡ old → Leaves old.view.core.owned old new
  leaves_same is = subst (λ (z : SeatState V). Leaves old.view.core.owned old z) (sym is)
      (record {
        owns = λ x. refl;
        same = refl;
        adds = omega arith;
        trail = trail_same old old refl;
        knows = λ x was is. refl;
      })

ended_same : (b : Bool) (s : SlotId) (v : CoreView)
    → ((with_ended b s v).owned ≡ v.owned) × (aside (with_ended b s v) ≡ aside v)
    × ((with_ended b s v).adds ≡ v.adds) × ((with_ended b s v).makes ≡ v.makes)
ended_same true s v = (refl, refl, refl, refl)
ended_same false s v = (refl, refl, refl, refl)

module _ {P V : Type 0} {fits : List ℕ → Type 0} {d : DomainState P}
    {next : OwnPart → OwnPart → V → PlainAct → ℕ → V}
    {allows : Plain → Plain → ℕ → V → V → Type 0} (s : SlotId) (old new : SeatState V) where
  pub copy_leaves : GainsStrong fits d next allows s old new → KnowsStill old.view.core old new
      → Leaves (old.view.core.owned ++ s ∷ []) old new
  copy_leaves gains knows =
      leaves_as old new (with_strong s old.view.core) old.view.core _ gains.core refl (omega arith) knows
      (λ x was is. was)

module _ {P V : Type 0} {fits : List ℕ → Type 0} {d : DomainState P} (s : SlotId)
    (old new : SeatState V) where
  -- a reference that is given up costs no add and no make
  pub drop_adds : DropsStrong fits d s old new → new.view.core.adds ≡ old.view.core.adds
  drop_adds drops = ap (λ (v : CoreView). v.adds) drops.1.core
      ∙ (ended_same (ends drops.0) s (without_strong s old.view.core)).2

  pub drop_makes : DropsStrong fits d s old new → new.view.core.makes ≡ old.view.core.makes
  drop_makes drops = ap (λ (v : CoreView). v.makes) drops.1.core
      ∙ (ended_same (ends drops.0) s (without_strong s old.view.core)).3

  -- and leaves a seat spent that was
  pub drop_spent : DropsStrong fits d s old new → IsSpent old.view.core → IsSpent new.view.core
  drop_spent drops spent =
      let ended = ended_same (ends drops.0) s (without_strong s old.view.core) in
      let same = ap aside drops.1.core ∙ ended.1 in
      drop_adds drops ∙ spent ∙ sym (ap (λ (v : CoreView). v.quota.adds) same)

  pub drop_leaves : DropsStrong fits d s old new
      → KnowsStill (without_strong s old.view.core) old new
      → Leaves (without s old.view.core.owned) old new
  drop_leaves drops knows =
      let v = without_strong s old.view.core in
      let ended = ended_same (ends drops.0) s v in
      record {
        owns = λ x. ap (λ (u : CoreView). times x u.owned) drops.1.core ∙ ap (times x) ended.0;
        same = ap aside drops.1.core ∙ ended.1;
        adds = (let is = drop_adds drops in omega arith);
        trail = (_, ap (λ (u : CoreView). u.trail) drops.1.core);
        knows = λ x was is.
            let owned = ap (λ (u : CoreView). times x u.owned) drops.1.core ∙ ap (times x) ended.0 in
            knows x (holds_has v x (holds_more x new.view.core v
            (ap aside drops.1.core ∙ ended.1) (omega arith) is));
      }

module _ {P V : Type 0} {fits : List ℕ → Type 0} {d : DomainState P}
    {next : OwnPart → OwnPart → V → PlainAct → ℕ → V}
    {allows : Plain → Plain → ℕ → V → V → Type 0} (place : EventPlace) (m : Move)
    (given held : Option SlotId) (old new : SeatState V) where
  -- what an exchange leaves that was lost or won: the seat has given what it gave
  pub exchange_leaves : place_kind place ≡ Strong
      → Exchanges fits d next allows place m given held old new
      → KnowsStill (without_given Strong given old.view.core) old new
      → Leaves (without_given Strong given old.view.core).owned old new
  exchange_leaves kind puts knows =
      let v = without_given Strong given old.view.core in
      let rest : rest_of new.view.core ≡ rest_of v =
      puts.same ∙ ap (λ k. rest_of (without_given k given old.view.core)) kind in
      let same : aside new.view.core ≡ aside v =
      ap (λ (u : CoreView). record u { owned = []; made = []; adds = 0; makes = 0 }) rest in
      record {
        owns = λ x. ap (λ (u : CoreView). times x u.owned) rest;
        same = same ∙ given_aside given old.view.core;
        adds = (let is = ap (λ (u : CoreView). u.adds) rest ∙ given_adds given old.view.core in
            omega arith);
        trail = exchange_trail place m given held old new puts;
        knows = λ x was is.
            let owned = ap (λ (u : CoreView). times x u.owned) rest in
            knows x (holds_has v x (holds_more x new.view.core v same (omega arith) is));
      }
    where
      given_aside : (o : Option SlotId) (v : CoreView)
          → aside (without_given Strong o v) ≡ aside v
      given_aside None v = refl
      given_aside (Some x) v = refl

      given_adds : (o : Option SlotId) (v : CoreView)
          → (without_given Strong o v).adds ≡ v.adds
      given_adds None v = refl
      given_adds (Some x) v = refl
