-- A call that finds each slot taken shows that more makes were given than there are slots.
use Rattle.std.proofs.Common.{◌≡◌, inl, inr, ⊎_elim, ℕ, ◌<◌, List, [], ◌∷◌, ◌++◌, refl, ap, sym, ◌∙◌, subst, arith}
use Rattle.protocol_pairs.specs.plain_state.declared.slot.SlotId.{SlotId}
use Rattle.claim_law.specs.core_events.declared.act.Act.{Act}
use Rattle.claim_law.specs.core_events.declared.act.Act.TheVariants as act
use Rattle.claim_law.specs.core_events.declared.act.Event.{Event}
use Rattle.claim_law.specs.core_events.declared.outcome.Outcome.{Outcome}
use Rattle.claim_law.specs.core_events.declared.outcome.Outcome.TheVariants as outcome
use Rattle.claim_law.specs.core_events.declared.shape.Shape.{Shape}
use Rattle.claim_law.specs.core_events.declared.view.CoreView.{CoreView}
use Rattle.claim_law.specs.core_events.declared.view.Move.{Move}
use Rattle.claim_law.specs.core_events.Runs.{AreTerms, Core, History, IsShape, after, view_at}
use Rattle.claim_law.specs.core_events.Steps.{HasMake}
use Rattle.claim_law.specs.core_events.Views.{Terms}
use Rattle.claim_law.specs.Claims.{ShowsTaken, makes_given}
use Rattle.claim_law.proofs.Taken.{taken_slots_were_made}
use Rattle.retiring_stores.specs.acquire_retire.Calls.{IsSameView, Steps, same_view}
use Rattle.retiring_stores.specs.acquire_retire.Collecting.{Walks, move}
use Rattle.retiring_stores.specs.acquire_retire.Domains.{DomainState}
use Rattle.retiring_stores.specs.acquire_retire.Seats.{SeatState}
use Rattle.retiring_stores.specs.control_word.Resting.{IsAtRest}
use Rattle.retiring_stores.proofs.Below.control_word_Finding.{seat_there}
use Rattle.slot_store.specs.Searching.{IsShownTaken, Misses, Try, taken_by}

-- a seat of a state that has a history has this view
pub record Stood (z : Shape) (ts : Terms) (v : CoreView) : Type 0 where
  pub shape : IsShape z
  pub terms : AreTerms z ts
  pub events : List Event
  pub core : Core
  pub history : History z ts events core
  pub seat : ℕ
  pub there : seat < z.seats
  pub view : v ≡ view_at core seat

module _ {P V : Type 0} {fits : List ℕ → Type 0} (d : DomainState P) where
  -- so has a seat that has made a step
  step_stood : (a : Act) (old new : SeatState V) (o : Outcome)
      → Steps fits d same_view IsSameView a old new o → Stood d.shape d.terms new.view.core
  step_stood a old new o step =
      let told = step.told in
      let n : ℕ = old.view.core.seat in
      record {
        shape = told.happened.shape;
        terms = told.happened.terms;
        events = record { seat = n; act = a } ∷ told.happened.events;
        core = after d.shape told.happened.before n a;
        history = (told.happened.before, told.happened.history, (told.happened.enabled, refl));
        seat = n;
        there = seat_there told;
        view = told.says.core;
      }

module _ {P V : Type 0} (fits : List ℕ → Type 0) (d : DomainState P) where
  -- and one that has made moves, of which m was the last
  walk_stood : (ms : List Move) (m : Move) (old new : SeatState V)
      → Walks fits d (ms ++ m ∷ []) old new → Stood d.shape d.terms new.view.core
  walk_stood [] m old new walks =
      subst (λ (x : SeatState V). Stood d.shape d.terms x.view.core) (sym walks.2)
      (step_stood d m.act old walks.0 m.outcome walks.1)
  walk_stood (k ∷ ms) m old new walks = walk_stood ms m walks.0 new walks.2

-- what moves show is shown by more of them
shown_before : (s : SlotId) (ms ns : List Move) → ShowsTaken s ms → ShowsTaken s (ms ++ ns)
shown_before s [] ns shows = absurd shows
shown_before s (m ∷ ms) ns shows =
    ⊎_elim (λ now. inl now) (λ later. inr (shown_before s ms ns later)) shows

shown_after : (s : SlotId) (ms ns : List Move) → ShowsTaken s ns → ShowsTaken s (ms ++ ns)
shown_after s [] ns shows = shows
shown_after s (m ∷ ms) ns shows = inr (shown_after s ms ns shows)

-- the moves of tries show what the tries do
tries_show : (s : SlotId) (ts : List Try) → IsShownTaken s ts → ShowsTaken s (taken_by ts)
tries_show s [] shown = absurd shown
tries_show s (t ∷ ts) shown = ⊎_elim
    (λ now.
    shown_after s (taken_by ts) (move (act.Claim t.slot) (outcome.Taken t.word) ∷ []) (inl now))
    (λ before.
    shown_before s (taken_by ts) (move (act.Claim t.slot) (outcome.Taken t.word) ∷ [])
    (tries_show s ts before))
    shown

module _ {P V : Type 0} {fits : List ℕ → Type 0} (d : DomainState P) (old new : SeatState V)
    (some' : 0 < d.shape.slots) (rest : IsAtRest d old) (left : HasMake old.view.core) where
  pub more_makes : Misses fits d old new → d.shape.slots < makes_given d.terms
  more_makes missed = go missed.tries missed.all_taken missed.goes.becomes.walks
      (λ s hs. shown_after s old.view.core.trail (taken_by missed.tries)
      (tries_show s missed.tries (missed.all_taken s hs)))
      missed.goes.becomes.core
    where
      go : (ts : List Try) → ((s : SlotId) → s.0 < d.shape.slots → IsShownTaken s ts)
          → Walks fits d (taken_by ts) old new
          → ((s : SlotId) → s.0 < d.shape.slots
          → ShowsTaken s (old.view.core.trail ++ taken_by missed.tries))
          → new.view.core
          ≡ record old.view.core { trail = old.view.core.trail ++ taken_by missed.tries }
          → d.shape.slots < makes_given d.terms
      go [] all walks shows core = absurd (all (record { 0 = 0 }) (omega arith))
      go (t ∷ ts) all walks shows core =
          let stood = walk_stood fits d (taken_by ts)
          (move (act.Claim t.slot) (outcome.Taken t.word)) old new walks in
          let is = sym stood.view ∙ core in
          taken_slots_were_made d.shape d.terms stood.events stood.core stood.seat stood.shape
          stood.terms stood.history stood.there
          (ap (λ (v : CoreView). v.left) is ∙ rest.idle.1)
          (subst HasMake (sym is) left)
          (λ s hs. subst (λ (v : CoreView). ShowsTaken s v.trail) (sym is) (shows s hs))
