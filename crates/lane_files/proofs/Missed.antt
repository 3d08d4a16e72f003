-- A search that found each slot taken shows that more makes were given than there are slots.
use Rattle.std.proofs.Common.{◌≡◌, inl, inr, ⊎_elim, ℕ, ◌<◌, false, List, [], ◌∷◌, ◌++◌, refl, ap, sym, ◌∙◌, subst}
use Rattle.control_word.specs.plain_state.declared.slot.SlotId.{SlotId}
use Rattle.control_word.specs.core_events.declared.act.Act.TheVariants as act
use Rattle.control_word.specs.core_events.declared.act.Event.{Event}
use Rattle.control_word.specs.core_events.declared.outcome.Outcome.{Outcome}
use Rattle.control_word.specs.core_events.declared.outcome.Outcome.TheVariants as outcome
use Rattle.control_word.specs.core_events.declared.view.CoreView.{CoreView}
use Rattle.control_word.specs.core_events.declared.view.Move.{Move}
use Rattle.control_word.specs.core_events.Runs.{AreTerms, Core, History, IsShape, after, view_at}
use Rattle.control_word.specs.core_events.Steps.{HasMake}
use Rattle.hand_queues.specs.claim_law.Claims.{ShowsTaken, makes_given}
use Rattle.hand_queues.proofs.Below.claim_law_Taken.{taken_slots_were_made}
use Rattle.control_word.specs.acquire_retire.Collecting.{Walks, move}
use Rattle.control_word.specs.acquire_retire.Domains.{DomainState}
use Rattle.control_word.specs.acquire_retire.Seats.{SeatState}
use Rattle.control_word.proofs.Finding.{seat_there}
use Rattle.hand_queues.specs.slot_store.Searching.{IsShownTaken, Misses, Try, taken_by}

-- a seat of a state that has a history has this view
record Stood {P : Type 0} (d : DomainState P) (v : CoreView) : Type 0 where
  shape : IsShape d.shape
  terms : AreTerms d.shape d.terms
  events : List Event
  core : Core
  history : History d.shape d.terms events core
  seat : ℕ
  there : seat < d.shape.seats
  view : v ≡ view_at core seat

-- what moves show is shown by more of them
shown_before : (s : SlotId) (ms ns : List Move) → ShowsTaken s ms → ShowsTaken s (ms ++ ns)
shown_before s [] ns shows = absurd shows
shown_before s (m ∷ ms) ns shows =
    ⊎_elim (λ now. inl now) (λ later. inr (shown_before s ms ns later)) shows

shown_after : (s : SlotId) (ms ns : List Move) → ShowsTaken s ns → ShowsTaken s (ms ++ ns)
shown_after s [] ns shows = shows
shown_after s (m ∷ ms) ns shows = inr (shown_after s ms ns shows)

-- the moves of tries show what the tries do
tries_show : (s : SlotId) (ts : List Try) → IsShownTaken s ts → ShowsTaken s (taken_by ts)
tries_show s [] shown = absurd shown
tries_show s (t ∷ ts) shown = ⊎_elim
    (λ now.
    shown_after s (taken_by ts) (move (act.Claim t.slot) (outcome.Taken t.word) ∷ []) (inl now))
    (λ before.
    shown_before s (taken_by ts) (move (act.Claim t.slot) (outcome.Taken t.word) ∷ [])
    (tries_show s ts before))
    shown

-- the first of these moves is a claim
abbrev BeginsClaiming : List Move → Type 0
BeginsClaiming ms =
    (s : SlotId) × (o : Outcome) × (others : List Move) × (ms ≡ move (act.Claim s) o ∷ others)

begins_claiming : (t : Try) (ts : List Try) → BeginsClaiming (taken_by (t ∷ ts))
begins_claiming t [] = (t.slot, outcome.Taken t.word, [], refl)
begins_claiming t (u ∷ us) =
    let first = begins_claiming u us in (
      first.0,
      first.1,
      first.2 ++ move (act.Claim t.slot) (outcome.Taken t.word) ∷ [],
      ap (λ (ms : List Move). ms ++ move (act.Claim t.slot) (outcome.Taken t.word) ∷ []) first.3,
    )

module _ {P V : Type 0} (fits : List ℕ → Type 0) (d : DomainState P) where
  -- who made moves, of which m was the last, stands in a state that has a history
  stood_last : (ms : List Move) (m : Move) (old new : SeatState V)
      → Walks fits d (ms ++ m ∷ []) old new → Stood d new.view.core
  stood_last [] m old new walks =
      let told = walks.1.told in
      let n : ℕ = old.view.core.seat in
      subst (λ (x : SeatState V). Stood d x.view.core) (sym walks.2)
      (record {
        shape = told.happened.shape;
        terms = told.happened.terms;
        events = record { seat = n; act = m.act } ∷ told.happened.events;
        core = after d.shape told.happened.before n m.act;
        history = (told.happened.before, told.happened.history, (told.happened.enabled, refl));
        seat = n;
        there = seat_there told;
        view = told.says.core;
      })
  stood_last (k ∷ ms) m old new walks = stood_last ms m walks.0 new walks.2

  -- who began with a claim was there, and had a make left
  could_claim : (ms : List Move) (old new : SeatState V) → BeginsClaiming ms → Walks fits d ms old new
      → (old.view.core.left ≡ false) × HasMake old.view.core
  could_claim ms old new begins walks =
      let first = subst (λ ns. Walks fits d ns old new) begins.3 walks in
      let happened = first.1.told.happened in
      let may = happened.enabled.1 in (
        ap (λ (v : CoreView). v.left) happened.view ∙ may.0.1,
        subst HasMake (sym happened.view) may.2,
      )

  pub more_were_given : (old new : SeatState V) → 0 < d.shape.slots → Misses fits d old new
      → d.shape.slots < makes_given d.terms
  more_were_given old new some' missed = go missed.tries missed.all_taken
      missed.goes.becomes.walks
      (λ s hs. shown_after s old.view.core.trail (taken_by missed.tries)
      (tries_show s missed.tries (missed.all_taken s hs)))
      missed.goes.becomes.core
    where
      go : (ts : List Try) → ((s : SlotId) → s.0 < d.shape.slots → IsShownTaken s ts)
          → Walks fits d (taken_by ts) old new
          → ((s : SlotId) → s.0 < d.shape.slots
          → ShowsTaken s (old.view.core.trail ++ taken_by missed.tries))
          → new.view.core
          ≡ record old.view.core { trail = old.view.core.trail ++ taken_by missed.tries }
          → d.shape.slots < makes_given d.terms
      go [] all walks shows core = absurd (all (record { 0 = 0 }) some')
      go (t ∷ ts) all walks shows core =
          let stood = stood_last (taken_by ts)
          (move (act.Claim t.slot) (outcome.Taken t.word)) old new walks in
          let could = could_claim (taken_by (t ∷ ts)) old new (begins_claiming t ts) walks in
          let is = sym stood.view ∙ core in
          taken_slots_were_made d.shape d.terms stood.events stood.core stood.seat stood.shape
          stood.terms stood.history stood.there
          (ap (λ (v : CoreView). v.left) is ∙ could.0)
          (subst HasMake (sym is) could.1)
          (λ s hs. subst (λ (v : CoreView). ShowsTaken s v.trail) (sym is) (shows s hs))
