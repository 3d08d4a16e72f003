-- What a player has after a call, by what became of the lists of its seat.
use Rattle.std.proofs.Common.{◌≡◌, ℕ, ◌<◌, Bool, true, false, List, [], ◌∷◌, ◌++◌, subst, sym, ◌∙◌}
use Rattle.core_law.specs.core_events.Views.{without}
use Rattle.epoch_refs.specs.plain_protocol.plain_state.declared.slot.SlotId.{SlotId}
use Rattle.epoch_refs.specs.plain_protocol.plain_state.Lists.{times}
use Rattle.epoch_refs.specs.epoch_core.declared.view.EpochView.{EpochView}
use Rattle.epoch_refs.specs.epoch_domain.Domains.{DomainState}
use Rattle.epoch_refs.specs.epoch_domain.Seats.{SeatState}
use Rattle.epoch_refs.specs.Walks.{IsAtRest}
use Rattle.epoch_refs.specs.Walks.{IsFree}
use Rattle.epoch_players.specs.Plays.{IsWithin, Plays}
use Rattle.epoch_players.proofs.Within.{within_fewer, within_less, within_more, within_none, within_some}

-- what a seat owns, what its region has seen, and its number
abbrev pub HasLists : EpochView → List SlotId → List SlotId → ℕ → Type 0
HasLists v owned seen number = (v.owned ≡ owned) × (v.seen ≡ seen) × (v.number ≡ number)

module _ {P V : Type 0} {d : DomainState P} {old new : SeatState V} {xs ys : List SlotId} {b : Bool}
    (rest : IsAtRest d new) where
  -- it owns what it owned, a reference more, or one less
  pub kept : HasLists new.view.core old.view.core.owned old.view.core.seen old.view.core.number
      → Plays d old xs ys b → Plays d new xs ys b
  kept has plays = record {
    rest = rest;
    strong = subst (IsWithin xs) (sym has.0) plays.strong;
    looked = subst (IsWithin ys) (sym has.1) plays.looked;
    within = λ is. subst (λ (n : ℕ). 0 < n) (sym has.2) (plays.within is);
    outside = λ is. has.2 ∙ plays.outside is;
  }

  pub gained : (s t : SlotId) → t ≡ s
      → HasLists new.view.core (old.view.core.owned ++ s ∷ []) old.view.core.seen
      old.view.core.number
      → Plays d old xs ys b → Plays d new (xs ++ t ∷ []) ys b
  gained s t same has plays =
      subst (λ (x : SlotId). Plays d new (xs ++ x ∷ []) ys b) (sym same) (record {
        rest = rest;
        strong =
            subst (IsWithin (xs ++ s ∷ [])) (sym has.0)
            (within_more s xs old.view.core.owned plays.strong);
        looked = subst (IsWithin ys) (sym has.1) plays.looked;
        within = λ is. subst (λ (n : ℕ). 0 < n) (sym has.2) (plays.within is);
        outside = λ is. has.2 ∙ plays.outside is;
      })

  pub given : (s : SlotId)
      → HasLists new.view.core (without s old.view.core.owned) old.view.core.seen
      old.view.core.number
      → Plays d old (xs ++ s ∷ []) ys b → Plays d new xs ys b
  given s has plays = record {
    rest = rest;
    strong =
        subst (IsWithin xs) (sym has.0) (within_less s xs old.view.core.owned plays.strong);
    looked = subst (IsWithin ys) (sym has.1) plays.looked;
    within = λ is. subst (λ (n : ℕ). 0 < n) (sym has.2) (plays.within is);
    outside = λ is. has.2 ∙ plays.outside is;
  }

  -- its region has seen a slot more
  pub saw_more : (s : SlotId)
      → HasLists new.view.core old.view.core.owned (old.view.core.seen ++ s ∷ [])
      old.view.core.number
      → Plays d old xs ys b → Plays d new xs (ys ++ s ∷ []) b
  saw_more s has plays = record {
    rest = rest;
    strong = subst (IsWithin xs) (sym has.0) plays.strong;
    looked =
        subst (IsWithin (ys ++ s ∷ [])) (sym has.1)
        (within_more s ys old.view.core.seen plays.looked);
    within = λ is. subst (λ (n : ℕ). 0 < n) (sym has.2) (plays.within is);
    outside = λ is. has.2 ∙ plays.outside is;
  }

  -- its region was opened, or closed: nothing is listed as seen
  pub turned : (c : Bool) (n : ℕ) (zs : List SlotId) → zs ≡ []
      → HasLists new.view.core old.view.core.owned [] n
      → (c ≡ true → 0 < n) → (c ≡ false → n ≡ 0)
      → Plays d old xs ys b → Plays d new xs zs c
  turned c n zs none has within outside plays = record {
    rest = rest;
    strong = subst (IsWithin xs) (sym has.0) plays.strong;
    looked =
        subst (λ (ws : List SlotId). IsWithin ws new.view.core.seen) (sym none)
        (within_none new.view.core.seen);
    within = λ is. subst (λ (m : ℕ). 0 < m) (sym has.2) (within is);
    outside = λ is. has.2 ∙ outside is;
  }

-- a call that was refused
pub refused : {P V : Type 0} {d : DomainState P} {old new : SeatState V} {xs ys : List SlotId}
    {b : Bool} → new ≡ old → Plays d old xs ys b → Plays d new xs ys b
refused {d = d} {xs = xs} {ys = ys} {b = b} same plays =
    subst (λ s. Plays d s xs ys b) (sym same) plays

-- a reference that isn't listed any more is owned still, and what isn't listed any more was seen still
module _ {P V : Type 0} {d : DomainState P} {seat : SeatState V} {b : Bool} (xs ys : List SlotId)
    (s : SlotId) where
  pub unlisted : Plays d seat (xs ++ s ∷ []) ys b → Plays d seat xs ys b
  unlisted plays = record {
    rest = plays.rest;
    strong = within_fewer s xs seat.view.core.owned plays.strong;
    looked = plays.looked;
    within = plays.within;
    outside = plays.outside;
  }

  pub unseen : Plays d seat xs (ys ++ s ∷ []) b → Plays d seat xs ys b
  unseen plays = record {
    rest = plays.rest;
    strong = plays.strong;
    looked = within_fewer s ys seat.view.core.seen plays.looked;
    within = plays.within;
    outside = plays.outside;
  }

  pub owned_last : Plays d seat (xs ++ s ∷ []) ys b → 0 < times s seat.view.core.owned
  owned_last plays = within_some s xs seat.view.core.owned plays.strong

-- nothing is listed as seen any more
pub forgotten : {P V : Type 0} {d : DomainState P} {seat : SeatState V} {b : Bool}
    {xs ys zs : List SlotId} → zs ≡ [] → Plays d seat xs ys b → Plays d seat xs zs b
forgotten {seat = seat} none plays = record {
  rest = plays.rest;
  strong = plays.strong;
  looked =
      subst (λ (ws : List SlotId). IsWithin ws seat.view.core.seen) (sym none)
      (within_none seat.view.core.seen);
  within = plays.within;
  outside = plays.outside;
}

-- a free seat without references
pub plays_none : {P V : Type 0} {d : DomainState P} {seat : SeatState V} {xs ys : List SlotId}
    → IsFree d seat → xs ≡ [] → ys ≡ [] → Plays d seat xs ys false
plays_none {seat = seat} free no_strong no_seen = record {
  rest = free.rest;
  strong =
      subst (λ (zs : List SlotId). IsWithin zs seat.view.core.owned) (sym no_strong)
      (within_none seat.view.core.owned);
  looked =
      subst (λ (zs : List SlotId). IsWithin zs seat.view.core.seen) (sym no_seen)
      (within_none seat.view.core.seen);
  within = λ is. absurd (cc (is));
  outside = λ is. free.outside;
}
