-- What a player has after a call, by what the call says of its seat.
use Rattle.std.proofs.Common.{◌≡◌, ℕ, Bool, true, false, List, [], ◌∷◌, ◌++◌, Option, Some, ap, refl, subst, sym, ◌∙◌}
use Rattle.control_word.specs.plain_state.declared.act.EventPlace.{EventPlace}
use Rattle.control_word.specs.plain_state.declared.act.PlainAct.{PlainAct}
use Rattle.control_word.specs.plain_state.declared.slot.Kind.{Kind}
use Rattle.control_word.specs.plain_state.declared.slot.Kind.TheVariants.{Strong, Weak}
use Rattle.control_word.specs.plain_state.declared.slot.SlotId.{SlotId}
use Rattle.control_word.specs.plain_state.Places.{place_kind}
use Rattle.control_word.specs.plain_state.State.{Plain}
use Rattle.control_word.specs.plain_protocol.Owns.{OwnPart}
use Rattle.control_word.specs.core_events.declared.view.CoreView.{CoreView}
use Rattle.control_word.specs.core_events.declared.view.Move.{Move}
use Rattle.control_word.specs.core_events.Steps.{HasRoom, without_given}
use Rattle.control_word.specs.core_events.Views.{without}
use Rattle.control_word.specs.acquire_retire.Collecting.{ends, rest_of}
use Rattle.control_word.specs.acquire_retire.Domains.{DomainState}
use Rattle.control_word.specs.acquire_retire.Seats.{SeatState}
use Rattle.control_word.specs.counted_handles.declared.place.Place.{Place}
use Rattle.control_word.specs.counted_handles.declared.place.Place.TheVariants as place
use Rattle.control_word.specs.counted_handles.declared.place.WeakPlace.{WeakPlace}
use Rattle.control_word.specs.counted_handles.declared.place.WeakPlace.TheVariants as weak_place_of
use Rattle.control_word.specs.Calls.{DropsStrong, DropsWeak, with_ended, without_strong}
use Rattle.control_word.specs.Moves.{Becomes}
use Rattle.control_word.specs.Resting.{IsAtRest}
use Rattle.atomic_shared.specs.protected_loads.Loads.{Misses}
use Rattle.atomic_shared.specs.protected_loads.References.{Loads, with_reference}
use Rattle.atomic_shared.specs.protected_loads.Retries.{AtLast, LoadsAtLast}
use Rattle.atomic_shared.specs.Places.{strong_place}
use Rattle.atomic_weak.specs.Places.{weak_place}
use Rattle.handle_tests.specs.Plays.{Plays}
use Rattle.handle_tests.proofs.Changing.{gains, gains_weak, gives, gives_weak, stays}

-- of what a seat with v has, only what is not a reference may have changed
abbrev pub HasLists : CoreView → List SlotId → List SlotId → Type 0
HasLists v owned weaks = (v.owned ≡ owned) × (v.weaks ≡ weaks)

with_ended_lists : (b : Bool) (s : SlotId) (v : CoreView) → HasLists (with_ended b s v) v.owned v.weaks
with_ended_lists true s v = (refl, refl)
with_ended_lists false s v = (refl, refl)

-- a reference of the kind of a place
strong_more : (p : Place) (s : SlotId) (v : CoreView)
    → HasLists (with_reference (place_kind (strong_place p)) s v) (v.owned ++ s ∷ []) v.weaks
strong_more (place.Cell i) s v = (refl, refl)
strong_more (place.Field x i) s v = (refl, refl)

weak_more : (p : WeakPlace) (s : SlotId) (v : CoreView)
    → HasLists (with_reference (place_kind (weak_place p)) s v) v.owned (v.weaks ++ s ∷ [])
weak_more (weak_place_of.Cell i) s v = (refl, refl)
weak_more (weak_place_of.Field x) s v = (refl, refl)

strong_kind : (p : Place) → place_kind (strong_place p) ≡ Strong
strong_kind (place.Cell i) = refl
strong_kind (place.Field x i) = refl

weak_kind : (p : WeakPlace) → place_kind (weak_place p) ≡ Weak
weak_kind (weak_place_of.Cell i) = refl
weak_kind (weak_place_of.Field x) = refl

module _ {P V : Type 0} {d : DomainState P} {old new : SeatState V} {xs ws : List SlotId}
    (rest : IsAtRest d new) where
  module _ (room : HasRoom new.view.core) where
    -- the seat has the lists that it had, one slot more, or one slot fewer
    pub kept : HasLists new.view.core old.view.core.owned old.view.core.weaks → Plays d old xs ws
        → Plays d new xs ws
    kept has plays = stays d old new xs ws rest room has.0 has.1 plays

    module _ {s t : SlotId} (same : t ≡ s) where
      pub gained : HasLists new.view.core (old.view.core.owned ++ s ∷ []) old.view.core.weaks
          → Plays d old xs ws → Plays d new (xs ++ t ∷ []) ws
      gained has plays =
          subst (λ (x : SlotId). Plays d new (xs ++ x ∷ []) ws) (sym same)
          (gains d old new xs ws rest room s has.0 has.1 plays)

      pub gained_weak : HasLists new.view.core old.view.core.owned (old.view.core.weaks ++ s ∷ [])
          → Plays d old xs ws → Plays d new xs (ws ++ t ∷ [])
      gained_weak has plays =
          subst (λ (x : SlotId). Plays d new xs (ws ++ x ∷ [])) (sym same)
          (gains_weak d old new xs ws rest room s has.1 has.0 plays)

    module _ (s : SlotId) where
      pub given : HasLists new.view.core (without s old.view.core.owned) old.view.core.weaks
          → Plays d old (xs ++ s ∷ []) ws → Plays d new xs ws
      given has plays = gives d old new xs ws rest room s has.0 has.1 plays

      pub given_weak : HasLists new.view.core old.view.core.owned (without s old.view.core.weaks)
          → Plays d old xs (ws ++ s ∷ []) → Plays d new xs ws
      given_weak has plays = gives_weak d old new xs ws rest room s has.1 has.0 plays

-- a call that was refused
pub refused : {P V : Type 0} {d : DomainState P} {old new : SeatState V} {xs ws : List SlotId}
    → new ≡ old → Plays d old xs ws → Plays d new xs ws
refused {d = d} {xs = xs} {ws = ws} same plays = subst (λ s. Plays d s xs ws) (sym same) plays

module _ {P V : Type 0} {fits : List ℕ → Type 0} {d : DomainState P}
    {next : OwnPart → OwnPart → V → PlainAct → ℕ → V}
    {allows : Plain → Plain → ℕ → V → V → Type 0} {old new : SeatState V} where
  -- WHAT CALLS MAKE OF THE LISTS
  pub by_moves : {ms : List Move} {v : CoreView} → Becomes fits d next allows ms v old new
      → HasLists new.view.core v.owned v.weaks
  by_moves by = (ap (λ (u : CoreView). u.owned) by.core, ap (λ (u : CoreView). u.weaks) by.core)

  pub by_miss : {j : ℕ} {p : EventPlace} {seen now : Option SlotId}
      → Misses fits d j p next allows seen now old new
      → HasLists new.view.core old.view.core.owned old.view.core.weaks
  by_miss misses = (
    ap (λ (u : CoreView). u.owned) misses.core,
    ap (λ (u : CoreView). u.weaks) misses.core,
  )

  pub by_load : (p : Place) {s : SlotId} → Loads fits d (strong_place p) next allows (Some s) old new
      → HasLists new.view.core (old.view.core.owned ++ s ∷ []) old.view.core.weaks
  by_load p {s = s} loads =
      let more = strong_more p s old.view.core in (
        ap (λ (u : CoreView). u.owned) loads.core ∙ more.0,
        ap (λ (u : CoreView). u.weaks) loads.core ∙ more.1,
      )

  pub by_weak_load : (p : WeakPlace) {s : SlotId}
      → Loads fits d (weak_place p) next allows (Some s) old new
      → HasLists new.view.core old.view.core.owned (old.view.core.weaks ++ s ∷ [])
  by_weak_load p {s = s} loads =
      let more = weak_more p s old.view.core in (
        ap (λ (u : CoreView). u.owned) loads.core ∙ more.0,
        ap (λ (u : CoreView). u.weaks) loads.core ∙ more.1,
      )

  -- after tries that were lost
  pub by_last : {j : ℕ} {p : EventPlace} {Goes : SeatState V → SeatState V → Type 0}
      (last : AtLast fits d p next allows j Goes old new)
      → HasLists last.mid.view.core old.view.core.owned old.view.core.weaks
  by_last last = (
    ap (λ (u : CoreView). u.owned) last.core,
    ap (λ (u : CoreView). u.weaks) last.core,
  )

  pub by_load_last : (p : Place) {s : SlotId}
      → LoadsAtLast fits d (strong_place p) next allows (Some s) old new
      → HasLists new.view.core (old.view.core.owned ++ s ∷ []) old.view.core.weaks
  by_load_last p {s = s} last =
      let mid = by_last last in
      let more = strong_more p s last.mid.view.core in (
        ap (λ (u : CoreView). u.owned) last.goes.core ∙ more.0
            ∙ ap (λ (ys : List SlotId). ys ++ s ∷ []) mid.0,
        ap (λ (u : CoreView). u.weaks) last.goes.core ∙ more.1 ∙ mid.1,
      )

  pub by_weak_load_last : (p : WeakPlace) {s : SlotId}
      → LoadsAtLast fits d (weak_place p) next allows (Some s) old new
      → HasLists new.view.core old.view.core.owned (old.view.core.weaks ++ s ∷ [])
  by_weak_load_last p {s = s} last =
      let mid = by_last last in
      let more = weak_more p s last.mid.view.core in (
        ap (λ (u : CoreView). u.owned) last.goes.core ∙ more.0 ∙ mid.0,
        ap (λ (u : CoreView). u.weaks) last.goes.core ∙ more.1
            ∙ ap (λ (ys : List SlotId). ys ++ s ∷ []) mid.1,
      )

module _ {P V : Type 0} {fits : List ℕ → Type 0} {d : DomainState P} {old new : SeatState V} where
  pub by_drop : {s : SlotId} → DropsStrong fits d s old new
      → HasLists new.view.core (without s old.view.core.owned) old.view.core.weaks
  by_drop {s = s} drops =
      let lists = with_ended_lists (ends drops.0) s (without_strong s old.view.core) in (
        ap (λ (u : CoreView). u.owned) drops.1.core ∙ lists.0,
        ap (λ (u : CoreView). u.weaks) drops.1.core ∙ lists.1,
      )

  pub by_weak_drop : {s : SlotId} → DropsWeak fits d s old new
      → HasLists new.view.core old.view.core.owned (without s old.view.core.weaks)
  by_weak_drop drops = (
    ap (λ (u : CoreView). u.owned) drops.1.core,
    ap (λ (u : CoreView). u.weaks) drops.1.core,
  )

-- what a call left of a seat, but for the trail
pub by_core : {v w : CoreView} → v ≡ w → HasLists v w.owned w.weaks
by_core is = (ap (λ (u : CoreView). u.owned) is, ap (λ (u : CoreView). u.weaks) is)

-- what is beside a seat's batch, its dying and its ripe slots tells its lists
module _ (v w : CoreView) where
  pub by_rest : rest_of v ≡ rest_of w → HasLists v w.owned w.weaks
  by_rest same = (ap (λ (u : CoreView). u.owned) same, ap (λ (u : CoreView). u.weaks) same)

  module _ (s : SlotId) where
    pub by_given : (p : Place)
        → rest_of v ≡ rest_of (without_given (place_kind (strong_place p)) (Some s) w)
        → HasLists v (without s w.owned) w.weaks
    by_given p same = by_kind Strong (strong_kind p)
      where
        by_kind : (k : Kind) → place_kind (strong_place p) ≡ k
            → HasLists v (without_given k (Some s) w).owned (without_given k (Some s) w).weaks
        by_kind k is =
            let at = subst (λ (j : Kind). rest_of v ≡ rest_of (without_given j (Some s) w)) is same in
            (ap (λ (u : CoreView). u.owned) at, ap (λ (u : CoreView). u.weaks) at)

    pub by_given_weak : (p : WeakPlace)
        → rest_of v ≡ rest_of (without_given (place_kind (weak_place p)) (Some s) w)
        → HasLists v w.owned (without s w.weaks)
    by_given_weak p same = by_kind Weak (weak_kind p)
      where
        by_kind : (k : Kind) → place_kind (weak_place p) ≡ k
            → HasLists v (without_given k (Some s) w).owned (without_given k (Some s) w).weaks
        by_kind k is =
            let at = subst (λ (j : Kind). rest_of v ≡ rest_of (without_given j (Some s) w)) is same in
            (ap (λ (u : CoreView). u.owned) at, ap (λ (u : CoreView). u.weaks) at)
