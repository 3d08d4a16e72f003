-- What a seat has on its way through a push and a pop.
use Rattle.std.proofs.Common.{◌≡◌, inl, inr, ⊎_elim, ℕ, ◌<◌, List, [], ◌∷◌, ◌++◌, refl, sym, ap, subst, ◌∙◌, arith, Option, Some}
use Rattle.std.specs.Prelude.{Err, IfErr, Ok, Result}
use Rattle.cdrc.specs.plain_state.declared.act.EventPlace.{EventPlace}
use Rattle.cdrc.specs.plain_state.declared.act.PlainAct.{PlainAct}
use Rattle.cdrc.specs.plain_state.declared.slot.SlotId.{SlotId}
use Rattle.cdrc.specs.plain_state.declared.slot.Kind.TheVariants.{Strong}
use Rattle.cdrc.specs.plain_state.Lists.{times}
use Rattle.cdrc.specs.plain_state.Steps.{word_of}
use Rattle.cdrc.specs.plain_protocol.Owns.{OwnPart}
use Rattle.cdrc.specs.core_events.Steps.{CanGive, without_given}
use Rattle.cdrc.specs.core_events.Words.{slot_in}
use Rattle.cdrc.proofs.Below.core_law_Kit.{one_same, times_push}
use Rattle.cdrc.proofs.Below.core_law_ShownPlaces.{slot_word}
use Rattle.cdrc.specs.counted_handles.Handles.{Handle}
use Rattle.cdrc.specs.counted_handles.declared.refusal.LoadError.{LoadError}
use Rattle.cdrc.specs.counted_handles.declared.refusal.LoadError.TheVariants as refused
use Rattle.cdrc.specs.retiring_stores.Exchanging.{Loses}
use Rattle.cdrc.specs.protected_loads.References.{Loads}
use Rattle.example_stack.specs.Deeds.{SeeTells, TellsNothing, see_next}
use Rattle.cdrc.specs.atomic_shared.Places.{named}
use Rattle.cdrc.specs.domain_rule.Views.{object_in}
use Rattle.cdrc.specs.acquire_retire.Domains.{DomainState}
use Rattle.cdrc.specs.acquire_retire.Seats.{SeatState}
use Rattle.cdrc.specs.control_word.Moves.{KnowsStill}
use Rattle.example_stack.specs.Views.{View}
use Rattle.example_stack.specs.Calls.{Changes, HasNode, IsWhy, IsWhyLost, LosesAt, Sees, popped_too, pushed_too}
use Rattle.example_stack.specs.Leaving.{TrailGoesOn}
use Rattle.example_stack.proofs.Trails.{trail_same, trail_then}
use Rattle.example_stack.proofs.Knowing.{gives_found, has_owned, node_still, owns_again, owns_found}

module _ {P : Type 0} {kind : List ℕ → Type 0} {d : DomainState P} where
  -- the seat owns the node that it found
  pub found_node : (s : SlotId) (old new : SeatState View) → Sees kind d (Some s) old new
      → HasNode kind s new
  found_node s old new sees = (
    let push = times_push s s old.view.core.owned in
        let one = one_same s s refl in
        let at = ap (times s) sees.owned in omega arith,
    sees.node,
  )

  -- the same, of a handle
  pub handle_node : (found : Option Handle) (h : Handle) (t : SlotId) (old new : SeatState View)
      → found ≡ Some h → t ≡ h.slot → Sees kind d (named found) old new → HasNode kind t new
  handle_node found h t old new is same sees =
      subst (λ x. HasNode kind x new) (sym same)
      (found_node h.slot old new (subst (λ o. Sees kind d (named o) old new) is sees))

  -- A seat that has the node x looks for what is below
  module _ (x : SlotId) (below : Option SlotId) (old mid : SeatState View) (has : HasNode kind x old)
      (sees : Sees kind d below old mid) (knows : KnowsStill old.view.core old mid) where
    known : object_in mid.view x ≡ object_in old.view x
    known = knows x (has_owned old.view.core x has.0)

    pub has_still : HasNode kind x mid
    has_still = node_still kind x old mid has
        (owns_found below mid.view.core old.view.core.owned x sees.owned has.0) known

    pub can_give : (late : SeatState View) → late.view.core.owned ≡ mid.view.core.owned
        → CanGive Strong below late.view.core
    can_give late same = gives_found below late.view.core old.view.core.owned (same ∙ sees.owned)

    pub owns_still : (late : SeatState View) → late.view.core.owned ≡ mid.view.core.owned
        → 0 < times x (without_given Strong below late.view.core).owned
    owns_still late same =
        owns_again below late.view.core old.view.core.owned x (same ∙ sees.owned) has.0

    -- and gives up again what it found
    module _ (new : SeatState View)
        (given : new.view.core.owned ≡ (without_given Strong below mid.view.core).owned)
        (still : KnowsStill (without_given Strong below mid.view.core) mid new) where
      pub known_since : object_in new.view x ≡ object_in mid.view x
      known_since = still x
          (has_owned (without_given Strong below mid.view.core) x (owns_still mid refl))

      pub node_again : HasNode kind x new
      node_again = node_still kind x mid new has_still
          (subst (λ l. 0 < times x l) (sym given) (owns_still mid refl)) known_since

      pub known_always : object_in new.view x ≡ object_in old.view x
      known_always = known_since ∙ known

-- what it pushed, told of the views
pub pushes : (value told : List ℕ) (old mid new : View) → new ≡ pushed_too told mid
    → told ≡ value → mid.pushed ≡ old.pushed → new.pushed ≡ old.pushed ++ value ∷ []
pushes value told old mid new is same before =
    ap (λ (v : View). v.pushed) is ∙ λ i. before i ++ same i ∷ []

pub pops : (value told : List ℕ) (old mid new : View) → new ≡ popped_too told mid
    → told ≡ value → mid.popped ≡ old.popped → new.popped ≡ old.popped ++ value ∷ []
pops value told old mid new is same before =
    ap (λ (v : View). v.popped) is ∙ λ i. before i ++ same i ∷ []

-- WHY A CALL WAS REFUSED
module _ {P : Type 0} (kind : List ℕ → Type 0) (d : DomainState P) where
  -- within a longer call
  loses_within : (place : EventPlace) (seen now : Option SlotId) (a b c e : SeatState View)
      → TrailGoesOn a b → TrailGoesOn c e → LosesAt kind d place seen now b c
      → LosesAt kind d place seen now a e
  loses_within place seen now a b c e since till l = record {
    mid = l.mid;
    late = l.late;
    next = l.next;
    given = l.given;
    since = trail_then a b l.mid since l.since;
    loses = l.loses;
    till = trail_then l.late c e l.till till;
  }

  pub why_within : {S T : Type 0} → (S → T) → (error : LoadError) (a b c e : SeatState View)
      → TrailGoesOn a b → TrailGoesOn c e → IsWhy kind d S error b c → IsWhy kind d T error a e
  why_within follows refused.Spent a b c e since till why = follows why
  why_within follows (refused.Moved seen now) a b c e since till why = (
    why.0,
    ⊎_elim
        (λ p. inl (record {
          mid = p.mid;
          late = p.late;
          since = trail_then a b p.mid since p.since;
          misses = p.misses;
          till = trail_then p.late c e p.till till;
        }))
        (λ l. inr (record {
          start = l.start;
          first = l.first;
          since = trail_then a b l.start since l.since;
          loads = l.loads;
          loses = loses_within why.0 (slot_in seen) (slot_in now) l.first l.first c e
              (trail_same l.first l.first refl) till l.loses;
        }))
        why.1,
  )

  -- an exchange that was lost
  pub lost_at : (place : EventPlace) (next : OwnPart → OwnPart → View → PlainAct → ℕ → View)
      (given expected found : Option SlotId) (now : ℕ) (old new : SeatState View)
      → Loses kind d next TellsNothing place given expected found old new → now ≡ word_of found
      → LosesAt kind d place expected (slot_in now) old new
  lost_at place next given expected found now old new loses at = record {
    mid = old;
    late = new;
    next = next;
    given = given;
    since = trail_same old old refl;
    loses = subst (λ (e : Option SlotId). Loses kind d next TellsNothing place given expected e old new)
        (sym (ap slot_in at ∙ slot_word found)) loses;
    till = trail_same new new refl;
  }

  -- after a load that found what it expected
  pub lost_after : (place : EventPlace) (found expected : Option SlotId) (seen now : ℕ)
      (old first mid late new : SeatState View) → slot_in seen ≡ found → expected ≡ found
      → Loads kind d place see_next (SeeTells kind) found old first
      → TrailGoesOn first mid → TrailGoesOn late new
      → LosesAt kind d place expected (slot_in now) mid late → Changes kind d seen now old new
  lost_after place found expected seen now old first mid late new is same loads since till l = (
    place,
    inr (record {
      start = old;
      first = first;
      since = trail_same old old refl;
      loads = subst (λ o. Loads kind d place see_next (SeeTells kind) o old first) (sym is) loads;
      loses = subst (λ o. LosesAt kind d place o (slot_in now) first new) (same ∙ sym is)
          (loses_within place expected (slot_in now) first mid late new since till l);
    }),
  )

  pub why_after : (S : Type 0) (place : EventPlace) (found expected : Option SlotId)
      (error : LoadError) (old first mid new : SeatState View) → expected ≡ found
      → Loads kind d place see_next (SeeTells kind) found old first → TrailGoesOn first mid
      → IsWhyLost kind d place expected error mid new → IsWhy kind d S error old new
  why_after S place found expected refused.Spent old first mid new same loads since why = absurd why
  why_after S place found expected (refused.Moved seen now) old first mid new same loads since why =
      lost_after place found expected seen now old first mid new new (why.0 ∙ same) same loads since
      (trail_same new new refl) why.1

-- what follows for each error follows for that of a result
pub then_err : {T E : Type 0} (P Q : E → Type 0) (r : Result T E) → ((e : E) → P e → Q e)
    → IfErr r P → IfErr r Q
then_err P Q (Ok x) follows p = tt
then_err P Q (Err e) follows p = follows e p
