-- A call that finds each slot taken shows that more makes were given than there are slots.
use Rattle.std.proofs.Common.{◌≡◌, inl, inr, ⊎_elim, ℕ, ◌<◌, List, [], ◌∷◌, ◌++◌, length, refl, ap, sym, ◌∙◌, subst, arith}
use Rattle.epoch_domain.proofs.Below.core_law_Kit.{one_other, slot_cases, times_cons, times_none}
use Rattle.epoch_domain.specs.epoch_core.core_events.declared.shape.Quota.{Quota}
use Rattle.epoch_claims.proofs.Taken.{taken_slots_fit_makes, taken_slots_were_made}
use Rattle.epoch_claims.specs.Claims.{ShowsTaken, makes_given}
use Rattle.epoch_domain.proofs.Below.epoch_core_Keeps.{history_sound}
use Rattle.epoch_domain.specs.plain_protocol.plain_state.declared.slot.SlotId.{SlotId}
use Rattle.epoch_domain.specs.plain_protocol.plain_state.Lists.{times}
use Rattle.epoch_domain.specs.epoch_core.declared.act.EpochEvent.{EpochEvent}
use Rattle.epoch_domain.specs.epoch_core.declared.shape.EpochShape.{EpochShape}
use Rattle.epoch_domain.specs.epoch_core.declared.view.EpochMove.{EpochMove}
use Rattle.epoch_domain.specs.epoch_core.declared.view.EpochView.{EpochView}
use Rattle.epoch_domain.specs.epoch_core.Runs.{AreQuotas, Core, History, IsShape, after, view_at}
use Rattle.epoch_domain.specs.epoch_core.Steps.{HasMake}
use Rattle.epoch_domain.specs.Domains.{DomainState}
use Rattle.epoch_domain.specs.Seats.{SeatState}
use Rattle.epoch_refs.specs.Making.{SlotsFitMakes}
use Rattle.epoch_refs.specs.Searching.{IsFull, Try, taken_by, tried}
use Rattle.epoch_refs.specs.Walks.{Walks}

-- a seat of a state that has a history has this view
pub record Stood (z : EpochShape) (qs : List Quota) (v : EpochView) : Type 0 where
  pub shape : IsShape z
  pub quotas : AreQuotas z qs
  pub events : List EpochEvent
  pub core : Core
  pub history : History z qs events core
  pub seat : ℕ
  pub there : seat < z.seats
  pub view : v ≡ view_at core seat

-- so has a seat that has made events
walk_stood : {P V : Type 0} (fits : List ℕ → Type 0) (d : DomainState P) (m : EpochMove)
    (ms : List EpochMove) (old new : SeatState V) → Walks fits d (m ∷ ms) old new
    → Stood d.shape d.quotas new.view.core
walk_stood fits d m [] old new walks =
    let told = walks.1.told in
    let h = told.happened in
    let n : ℕ = old.view.core.seat in
    let so = history_sound d.shape d.quotas h.events h.before h.shape h.quotas h.history in
    let views = so.views in
    let inside = h.enabled.0 in
    record {
      shape = h.shape;
      quotas = h.quotas;
      events = record { seat = n; act = m.act } ∷ h.events;
      core = after d.shape h.before n m.act;
      history = (h.before, h.history, (h.enabled, refl));
      seat = n;
      there = omega arith;
      view = ap (λ s. s.view.core) walks.2 ∙ told.says.core;
    }
walk_stood fits d m (k ∷ ms) old new walks = walk_stood fits d k ms walks.0 new walks.2

-- what events show is shown with others before them
shown_after : (s : SlotId) (ms ns : List EpochMove) → ShowsTaken s ns → ShowsTaken s (ms ++ ns)
shown_after s [] ns shown = shown
shown_after s (m ∷ ms) ns shown = inr (shown_after s ms ns shown)

-- the events of tries show each slot taken that was tried
tries_show : (s : SlotId) (ts : List Try) → 0 < times s (tried ts) → ShowsTaken s (taken_by ts)
tries_show s [] some' = let none = times_none s in absurd (omega arith)
tries_show s (t ∷ ts) some' = ⊎_elim
    (λ is. inl is)
    (λ other.
    let cons = times_cons s t.slot (tried ts) in
    let not = one_other s t.slot other in inr (tries_show s ts (omega arith)))
    (slot_cases t.slot s)

module _ {P V : Type 0} (fits : List ℕ → Type 0) (d : DomainState P) (old new : SeatState V)
    (some' : 0 < d.shape.slots) (full : IsFull fits d old new) where
  -- the seat stands in a state whose history its trail shows, and this shows each slot taken
  full_stood : Stood d.shape d.quotas new.view.core
  full_stood =
      go full.misses.tries (let few = full.few in omega arith) full.misses.goes.walks
    where
      go : (ts : List Try) → 0 < length ts → Walks fits d (taken_by ts) old new
          → Stood d.shape d.quotas new.view.core
      go [] none walks = absurd (omega arith)
      go (t ∷ ts) any walks = walk_stood fits d _ (taken_by ts) old new walks

  full_is : view_at full_stood.core full_stood.seat
      ≡ record old.view.core { trail = old.view.core.trail ++ taken_by full.misses.tries }
  full_is = sym full_stood.view ∙ full.misses.goes.core

  full_shown : (s : SlotId) → s.0 < d.shape.slots
      → ShowsTaken s (view_at full_stood.core full_stood.seat).trail
  full_shown s hs =
      subst (λ (v : EpochView). ShowsTaken s v.trail) (sym full_is)
      (shown_after s old.view.core.trail (taken_by full.misses.tries)
      (tries_show s full.misses.tries (let once = full.each s hs in omega arith)))

  pub more_makes : HasMake old.view.core → d.shape.slots < makes_given d.quotas
  more_makes left =
      let stood = full_stood in
      taken_slots_were_made d.shape d.quotas stood.events stood.core stood.seat stood.shape
      stood.quotas stood.history stood.there (subst HasMake (sym full_is) left) full_shown

  pub slots_fit : SlotsFitMakes d new.view.core
  slots_fit =
      let stood = full_stood in
      subst (λ (v : EpochView). SlotsFitMakes d v) (sym stood.view)
      (taken_slots_fit_makes d.shape d.quotas stood.events stood.core stood.seat stood.shape
      stood.quotas stood.history stood.there full_shown)
