-- What a player has after a call, by what became of the lists of its seat.
use Rattle.std.proofs.Common.{◌≡◌, ◌<◌, List, [], ◌∷◌, ◌++◌, subst, sym}
use Rattle.control_word.specs.plain_state.declared.slot.SlotId.{SlotId}
use Rattle.control_word.specs.plain_state.Lists.{times}
use Rattle.control_word.specs.core_events.Steps.{HasRoom}
use Rattle.control_word.specs.core_events.Views.{without}
use Rattle.control_word.specs.acquire_retire.Domains.{DomainState}
use Rattle.control_word.specs.acquire_retire.Seats.{SeatState}
use Rattle.control_word.specs.Resting.{IsAtRest}
use Rattle.handle_tests.specs.Plays.{IsWithin, Plays}
use Rattle.handle_tests.proofs.Within.{within_fewer, within_less, within_more, within_none, within_some}

module _ {P V : Type 0} (d : DomainState P) (old new : SeatState V) (xs ws : List SlotId)
    (rest : IsAtRest d new) (room : HasRoom new.view.core) where
  -- it owns what it owned
  pub stays : new.view.core.owned ≡ old.view.core.owned
      → new.view.core.weaks ≡ old.view.core.weaks → Plays d old xs ws → Plays d new xs ws
  stays owned weaks plays = record {
    rest = rest;
    room = room;
    strong = subst (IsWithin xs) (sym owned) plays.strong;
    weak = subst (IsWithin ws) (sym weaks) plays.weak;
  }

  module _ (s : SlotId) where
    pub gains : new.view.core.owned ≡ old.view.core.owned ++ s ∷ []
        → new.view.core.weaks ≡ old.view.core.weaks → Plays d old xs ws
        → Plays d new (xs ++ s ∷ []) ws
    gains owned weaks plays = record {
      rest = rest;
      room = room;
      strong =
          subst (IsWithin (xs ++ s ∷ [])) (sym owned)
          (within_more s xs old.view.core.owned plays.strong);
      weak = subst (IsWithin ws) (sym weaks) plays.weak;
    }

    pub gives : new.view.core.owned ≡ without s old.view.core.owned
        → new.view.core.weaks ≡ old.view.core.weaks → Plays d old (xs ++ s ∷ []) ws
        → Plays d new xs ws
    gives owned weaks plays = record {
      rest = rest;
      room = room;
      strong =
          subst (IsWithin xs) (sym owned) (within_less s xs old.view.core.owned plays.strong);
      weak = subst (IsWithin ws) (sym weaks) plays.weak;
    }

    pub gains_weak : new.view.core.weaks ≡ old.view.core.weaks ++ s ∷ []
        → new.view.core.owned ≡ old.view.core.owned → Plays d old xs ws
        → Plays d new xs (ws ++ s ∷ [])
    gains_weak weaks owned plays = record {
      rest = rest;
      room = room;
      strong = subst (IsWithin xs) (sym owned) plays.strong;
      weak =
          subst (IsWithin (ws ++ s ∷ [])) (sym weaks)
          (within_more s ws old.view.core.weaks plays.weak);
    }

    pub gives_weak : new.view.core.weaks ≡ without s old.view.core.weaks
        → new.view.core.owned ≡ old.view.core.owned → Plays d old xs (ws ++ s ∷ [])
        → Plays d new xs ws
    gives_weak weaks owned plays = record {
      rest = rest;
      room = room;
      strong = subst (IsWithin xs) (sym owned) plays.strong;
      weak = subst (IsWithin ws) (sym weaks) (within_less s ws old.view.core.weaks plays.weak);
    }

-- a reference that isn't listed any more is owned still
module _ {P V : Type 0} {d : DomainState P} {seat : SeatState V} (xs ws : List SlotId) (s : SlotId)
  where
    pub unlisted : Plays d seat (xs ++ s ∷ []) ws → Plays d seat xs ws
    unlisted plays = record {
      rest = plays.rest;
      room = plays.room;
      strong = within_fewer s xs seat.view.core.owned plays.strong;
      weak = plays.weak;
    }

    pub unlisted_weak : Plays d seat xs (ws ++ s ∷ []) → Plays d seat xs ws
    unlisted_weak plays = record {
      rest = plays.rest;
      room = plays.room;
      strong = plays.strong;
      weak = within_fewer s ws seat.view.core.weaks plays.weak;
    }

    pub owned_last : Plays d seat (xs ++ s ∷ []) ws → 0 < times s seat.view.core.owned
    owned_last plays = within_some s xs seat.view.core.owned plays.strong

    pub owned_last_weak : Plays d seat xs (ws ++ s ∷ []) → 0 < times s seat.view.core.weaks
    owned_last_weak plays = within_some s ws seat.view.core.weaks plays.weak

-- a free seat without references
pub plays_none : {P V : Type 0} {d : DomainState P} {seat : SeatState V} {xs ws : List SlotId}
    → IsAtRest d seat → HasRoom seat.view.core → xs ≡ [] → ws ≡ [] → Plays d seat xs ws
plays_none {seat = seat} rest room no_strong no_weak = record {
  rest = rest;
  room = room;
  strong =
      subst (λ (zs : List SlotId). IsWithin zs seat.view.core.owned) (sym no_strong)
      (within_none seat.view.core.owned);
  weak =
      subst (λ (zs : List SlotId). IsWithin zs seat.view.core.weaks) (sym no_weak)
      (within_none seat.view.core.weaks);
}
