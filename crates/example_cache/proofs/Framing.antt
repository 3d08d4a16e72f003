-- What a seat owns after a recall and after it has remembered a value.
use Rattle.std.proofs.Common.{◌≡◌, ◌≤◌, ◌+◌, ℕ, List, [], ◌∷◌, ◌++◌, ap, arith, refl, sym, ◌∙◌, append_assoc, Option, Some, None}
use Rattle.std.specs.Prelude.{Err, Result}
use Rattle.std.proofs.lemmas.Bool.Decides.{nat_tests}
use Rattle.std.proofs.lemmas.List.{append-nil}
use Rattle.cdrc.specs.plain_state.declared.act.EventPlace.TheVariants.{WeakCell}
use Rattle.cdrc.specs.plain_state.declared.slot.Kind.TheVariants.{Weak}
use Rattle.cdrc.specs.plain_state.declared.slot.SlotId.{SlotId}
use Rattle.cdrc.specs.plain_state.Lists.{times}
use Rattle.cdrc.specs.plain_state.Places.{held_times}
use Rattle.cdrc.specs.plain_state.References.{held_in}
use Rattle.cdrc.specs.plain_state.State.{PlainSeat}
use Rattle.cdrc.specs.plain_protocol.Owns.{HasSlot}
use Rattle.cdrc.specs.core_events.declared.view.CoreView.{CoreView}
use Rattle.cdrc.specs.core_events.declared.view.Move.{Move}
use Rattle.cdrc.specs.core_events.Shows.{show_seat}
use Rattle.cdrc.specs.core_events.Steps.{without_given}
use Rattle.cdrc.specs.core_events.Views.{without}
use Rattle.cdrc.specs.core_events.Words.{slot_in}
use Rattle.cdrc.proofs.Below.core_law_Kit.{one_same, times_none, times_push, times_without}
use Rattle.cdrc.specs.counted_handles.Handles.{Handle}
use Rattle.cdrc.specs.counted_handles.declared.refusal.LoadError.{LoadError}
use Rattle.cdrc.specs.counted_handles.declared.refusal.LoadError.TheVariants as refused
use Rattle.cdrc.specs.control_word.Calls.{with_weak, without_weak}
use Rattle.cdrc.specs.control_word.Moves.{KnowsStill}
use Rattle.cdrc.specs.acquire_retire.Domains.{DomainState}
use Rattle.cdrc.specs.acquire_retire.Seats.{SeatState}
use Rattle.cdrc.specs.protected_loads.References.{Loads}
use Rattle.example_cache.specs.Views.{View}
use Rattle.example_cache.specs.Deeds.{RecallTells, recall_next}
use Rattle.example_cache.specs.Calls.{GivesWeak, Moves, OwnsWith, TrailGoesOn, aside, with_found}

-- a reference that was taken and given up again
back_again : (s x : SlotId) (xs : List SlotId) → times x (without s (xs ++ s ∷ [])) ≡ times x xs
back_again s x xs =
    let here = times_push s s xs in
    let one = one_same s s refl in
    let more = times_push x s xs in
    let fewer = times_without x s (xs ++ s ∷ []) (omega arith) in omega arith

pub given_back : (s x : SlotId) (xs more fewer : List SlotId) → more ≡ xs ++ s ∷ []
    → fewer ≡ without s more → times x fewer ≡ times x xs
given_back s x xs more fewer taken given =
    ap (times x) given ∙ ap (λ (ys : List SlotId). times x (without s ys)) taken
    ∙ back_again s x xs

-- a seat that has as much beside what it owns, and owns no less, has each slot that it had
abbrev had : SlotId → PlainSeat → ℕ
had x v = held_times x v + times x v.dying + held_in x v.filling

pub has_more : (x : SlotId) (v w : CoreView) → aside v ≡ aside w
    → times x v.owned ≤ times x w.owned → times x v.weaks ≤ times x w.weaks
    → HasSlot (show_seat v) x → HasSlot (show_seat w) x
has_more x v w same owned weaks has =
    let e : had x (show_seat (aside v)) ≡ had x (show_seat (aside w)) =
    ap (λ (u : CoreView). had x (show_seat u)) same in
    let none = times_none x in grind (arith, nat_tests)

-- a seat that counted a weak reference, and gave that away, knows still what it knew
pub knows_given : (s t : SlotId) (ms : List Move) (old mid new : SeatState View) → t ≡ s
    → mid.view.core
    ≡ record (with_weak s old.view.core) { trail = old.view.core.trail ++ ms }
    → KnowsStill old.view.core old mid
    → KnowsStill (without_given Weak (Some t) mid.view.core) mid new
    → KnowsStill old.view.core old new
knows_given s t ms old mid new is core counted stored x has =
    let owned = ap (λ (v : CoreView). times x v.owned) core in
    let weaks = given_back s x old.view.core.weaks mid.view.core.weaks
    (without t mid.view.core.weaks) (ap (λ (v : CoreView). v.weaks) core)
    (ap (λ (y : SlotId). without y mid.view.core.weaks) is) in
    stored x (has_more x old.view.core (without_given Weak (Some t) mid.view.core)
    (sym (ap aside core)) (omega arith) (omega arith) has)
    ∙ counted x has

pub trail_then : (a b c : SeatState View) → TrailGoesOn a b → TrailGoesOn b c → TrailGoesOn a c
trail_then a b c first more = (
  first.0 ++ more.0,
  more.1 ∙ ap (λ (t : List Move). t ++ more.0) first.1
      ∙ append_assoc a.view.core.trail first.0 more.0,
)

-- a recall that found nothing, or was refused: only its trail has grown
pub owns_still : (old new : SeatState View) (ms : List Move)
    → new.view.core ≡ record old.view.core { trail = old.view.core.trail ++ ms }
    → OwnsWith None old new
owns_still old new ms core = record {
  strongly = λ x. ap (λ (v : CoreView). times x v.owned) core;
  weakly = λ x. ap (λ (v : CoreView). times x v.weaks) core;
  notes = ap (λ (v : CoreView). v.notes) core;
  same = ap aside core;
  adds = let e = ap (λ (v : CoreView). v.adds) core in (omega arith, omega arith);
  trail = (ms, ap (λ (v : CoreView). v.trail) core);
}

module _ {P : Type 0} (kind : List ℕ → Type 0) (d : DomainState P) (cell : ℕ) where
  -- one whose look was refused
  pub owns_missed : (old new : SeatState View) (error : LoadError)
      (r : Result (Option Handle) LoadError) → r ≡ Err error
      → ((seen now : ℕ) → r ≡ Err (refused.Moved seen now)
      → Moves kind d cell (slot_in seen) (slot_in now) old new)
      → (r ≡ Err refused.Spent → new ≡ old) → OwnsWith None old new
  owns_missed old new (refused.Moved seen now) r is moved spent =
      owns_still old new _ (moved seen now is).core
  owns_missed old new refused.Spent r is moved spent =
      owns_still old new [] (ap (λ (z : SeatState View). z.view.core) (spent is)
      ∙ λ i. record old.view.core { trail = sym (append-nil old.view.core.trail) i })

  -- one that found a slot weakly, and then gave up the weak reference
  module _ (old mid new : SeatState View) (s : SlotId)
      (loads : Loads kind d (WeakCell cell) recall_next (RecallTells cell) (Some s) old mid)
      (gives : GivesWeak s mid new) where
    weakly : (x : SlotId) → times x new.view.core.weaks ≡ times x old.view.core.weaks
    weakly x = given_back s x old.view.core.weaks mid.view.core.weaks new.view.core.weaks
        (ap (λ (v : CoreView). v.weaks) loads.core) gives.weaks

    same : aside new.view.core ≡ aside old.view.core
    same = gives.same ∙ ap aside loads.core

    -- it knows still what it knew
    pub knows_recalled : KnowsStill old.view.core old mid → KnowsStill old.view.core old new
    knows_recalled first x has =
        let owned = ap (λ (v : CoreView). times x v.owned) loads.core in
        let weaks = ap (times x) gives.weaks in
        let back = weakly x in
        gives.knows x (has_more x old.view.core (without_weak s mid.view.core)
        (sym (ap aside loads.core)) (omega arith) (omega arith) has)
        ∙ first x has

    -- it owns what it owned, and strongly what was made of the weak reference
    pub owns_with : (found : Option SlotId)
        → ((x : SlotId) → times x new.view.core.owned
        ≡ times x (with_found found mid.view.core.owned))
        → OwnsWith found old new
    owns_with found gains = record {
      strongly = λ x. gains x ∙ ap (λ (v : CoreView). times x (with_found found v.owned)) loads.core;
      weakly = weakly;
      notes = ap (λ (v : CoreView). v.notes) same;
      same = same;
      adds =
          let e = ap (λ (v : CoreView). v.adds) loads.core in let more = gives.adds in
          (omega arith, omega arith);
      trail = trail_then old mid new (_, ap (λ (v : CoreView). v.trail) loads.core) gives.trail;
    }
