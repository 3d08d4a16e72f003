-- What a seat still has after a collect and after it has left a field null.
use Rattle.std.proofs.Common.{◌≡◌, ◌⊎◌, inl, inr, ⊎_elim, ℕ, zero, suc, [], ◌+◌, ◌<◌, ◌≤◌, Bool, true, List, ◌∷◌, length, refl, ap, sym, ◌∙◌, subst, arith}
use Rattle.std.specs.Prelude.{Option, None, if◌then◌else◌}
use Rattle.std.proofs.lemmas.Bool.Decides.{nat_tests}
use Rattle.protocol_pairs.specs.plain_state.declared.act.EventPlace.{EventPlace}
use Rattle.protocol_pairs.specs.plain_state.declared.act.EventPlace.TheVariants.{Cell, Field, WeakCell, WeakField}
use Rattle.protocol_pairs.specs.plain_state.declared.slot.SlotId.{SlotId}
use Rattle.protocol_pairs.specs.plain_state.Lists.{times}
use Rattle.protocol_pairs.specs.plain_state.Places.{held_times}
use Rattle.protocol_pairs.specs.plain_state.References.{held_in}
use Rattle.protocol_pairs.specs.plain_protocol.Owns.{HasSlot}
use Rattle.claim_law.specs.core_events.declared.view.CoreView.{CoreView}
use Rattle.claim_law.specs.core_events.declared.view.Phase.TheVariants as phase
use Rattle.claim_law.specs.core_events.Shows.{filled, show_seat}
use Rattle.claim_law.specs.core_events.ShownSteps.{is_ripe_field}
use Rattle.claim_law.specs.core_events.Steps.{HasRoom}
use Rattle.claim_law.specs.core_events.Views.{IsRipeField}
use Rattle.retiring_stores.specs.acquire_retire.Calls.{IsSameView, same_view}
use Rattle.retiring_stores.specs.acquire_retire.Collecting.{rest_of}
use Rattle.retiring_stores.specs.acquire_retire.Domains.{DomainState}
use Rattle.retiring_stores.specs.acquire_retire.Seats.{SeatState}
use Rattle.retiring_stores.specs.control_word.Moves.{KnowsStill}
use Rattle.retiring_stores.specs.control_word.Resting.{IsAtRest}
use Rattle.retiring_stores.specs.Exchanging.{Swaps}
use Rattle.retiring_stores.specs.Scanning.{Collected, IsBelow, IsDue}
use Rattle.slot_store.specs.Reaping.{Clears, Passes}

pub ripe_tested : (v : CoreView) (p : EventPlace) → IsRipeField v p → is_ripe_field v p ≡ true
ripe_tested v (Cell i) ripe = absurd ripe
ripe_tested v (Field s i) ripe = let some = ripe.1 in grind (arith, nat_tests)
ripe_tested v (WeakCell i) ripe = absurd ripe
ripe_tested v (WeakField s) ripe = grind (arith, nat_tests)

-- the seat holds s, or has it in its dying list
abbrev pub IsListed : CoreView → SlotId → Type 0
IsListed v s = 0 < held_times s (show_seat v) + times s v.dying

pub listed_has : (v : CoreView) (s : SlotId) → IsListed v s → HasSlot (show_seat v) s
listed_has v s some = grind (arith, nat_tests)

pub has_listed : (v : CoreView) (s : SlotId) → v.phase ≡ phase.Idle → HasSlot (show_seat v) s
    → IsListed v s
unfolding held_in
has_listed v s idle has =
    let none : held_in s (filled v.phase) ≡ 0 = rw idle refl in grind (arith, nat_tests)

-- what an idle seat has it has still, where it holds the same and no dying slot was lost
has_on : (v w : CoreView) → v.phase ≡ phase.Idle → rest_of w ≡ rest_of v
    → ((s : SlotId) → 0 < times s v.dying → 0 < times s w.dying) → (s : SlotId)
    → HasSlot (show_seat v) s → HasSlot (show_seat w) s
has_on v w idle same more s has =
    let held = ap (λ (u : CoreView). held_times s (show_seat u)) same in
    let listed = has_listed v s idle has in
    listed_has w s (⊎_elim
    (λ (some : 0 < times s v.dying). let still = more s some in omega arith)
    (λ (none : times s v.dying ≤ 0). omega arith)
    (cases_of (times s v.dying)))
  where
    cases_of : (n : ℕ) → (0 < n) ⊎ (n ≤ 0)
    cases_of zero = inr (omega arith)
    cases_of (suc n) = inl (omega arith)

module _ {P V : Type 0} (d : DomainState P) where
  pub passes_none : (old : SeatState V) → HasRoom old.view.core → IsAtRest d old → Passes d old old
  passes_none old room rest = record {
    same = refl;
    dying = λ s some. some;
    ripe = λ s some. some;
    has = λ s has. has;
    knows = λ s has. refl;
    client = refl;
    room = room;
    rest = rest;
  }

  pub passes_on : (a b c : SeatState V) → Passes d a b → Passes d b c → Passes d a c
  passes_on a b c first more = record {
    same = more.same ∙ first.same;
    dying = λ s some. more.dying s (first.dying s some);
    ripe = λ s some. more.ripe s (first.ripe s some);
    has = λ s has. more.has s (first.has s has);
    knows = λ s has. more.knows s (first.has s has) ∙ first.knows s has;
    client = more.client ∙ first.client;
    room = more.room;
    rest = more.rest;
  }

module _ {P V : Type 0} {fits : List ℕ → Type 0} (d : DomainState P) where
  pub passes_collect : (old new : SeatState V) → IsAtRest d old → HasRoom old.view.core
      → Collected fits d old new → Passes d old new
  passes_collect old new rest room c = record {
    same = c.collects.goes.rest;
    dying = c.dying;
    ripe = c.ripe;
    has = has_on old.view.core new.view.core rest.idle.0 c.collects.goes.rest c.dying;
    knows = c.knows;
    client = c.collects.goes.client;
    room =
        let fewer = c.collects.retired in
        let whole = ap (λ (v : CoreView). v.room) c.collects.goes.rest in
        let none = ap length c.rest.owes_nothing in omega arith;
    rest = c.rest;
  }

  module _ (p : EventPlace) (old new : SeatState V) (ripe : IsRipeField old.view.core p)
      (held : Option SlotId) (swaps : Swaps fits d same_view IsSameView p None held old new) where
    pub clears : Clears fits d p old new
    clears = record {
      held = held;
      swaps = swaps;
      cleared =
          swaps.cleared ∙ swaps.puts.cleared
          ∙ ap (λ (b : Bool). if b then p ∷ old.view.cleared else old.view.cleared)
          (ripe_tested old.view.core p ripe);
    }

    put_more : (f : CoreView → List SlotId)
        → ((v : CoreView) → f (record v { retired = []; trail = [] }) ≡ f v) → f swaps.mid.view.core ≡ f old.view.core
    put_more f blind =
        sym (blind swaps.mid.view.core)
        ∙ ap (λ (v : CoreView). f (record v { retired = []; trail = [] })) swaps.puts.core
        ∙ blind old.view.core

    pub passes_clear : IsAtRest d old → HasRoom new.view.core → KnowsStill old.view.core old new
        → IsAtRest d new → Passes d old new
    passes_clear rest room knows again = record {
      same = swaps.same;
      dying = dies;
      ripe = λ s some.
          scanned_more (λ (v : CoreView). v.ripe) s (λ c. c.ripe s)
          (let same = ap (times s) (put_more (λ (v : CoreView). v.ripe) (λ v. refl)) in omega arith);
      has = has_on old.view.core new.view.core rest.idle.0 swaps.same dies;
      knows = knows;
      client = swaps.client ∙ swaps.puts.step.told.client;
      room = room;
      rest = again;
    }
      where
        scanned_more : (f : CoreView → List SlotId) (s : SlotId)
            → (Collected fits d swaps.mid new → 0 < times s (f swaps.mid.view.core)
            → 0 < times s (f new.view.core))
            → 0 < times s (f swaps.mid.view.core) → 0 < times s (f new.view.core)
        scanned_more f s more some = ⊎_elim
            (λ (due : IsDue d swaps.mid × Collected fits d swaps.mid new). more due.1 some)
            (λ (none : IsBelow d swaps.mid × (new ≡ swaps.mid)).
            subst (λ (x : SeatState V). 0 < times s (f x.view.core)) (sym none.1) some)
            swaps.scans

        dies : (s : SlotId) → 0 < times s old.view.core.dying → 0 < times s new.view.core.dying
        dies s some =
            scanned_more (λ (v : CoreView). v.dying) s (λ c. c.dying s)
            (let same = ap (times s) (put_more (λ (v : CoreView). v.dying) (λ v. refl)) in omega arith)
