-- A seat between its calls on a map.
use Rattle.std.specs.Prelude.{◌≡◌, false, []}
use Rattle.version_making.specs.map_law.declared.view.View.{View}
use Rattle.version_making.specs.slot_store.core_events.Views.{no_notes}
use Rattle.version_making.specs.slot_store.acquire_retire.Domains.{DomainState}
use Rattle.version_making.specs.slot_store.acquire_retire.Seats.{SeatState}
use Rattle.version_making.specs.Keeping.{IsReadyFor}
use Rattle.version_map.specs.Maps.{CanRead}

-- It may begin each call on the map, and it may leave: it is in no call, announces nothing and owns nothing, has room
-- for what a store retires, takes part in the map, may read it, and hasn't cleared it.
pub record Plays {P : Type 0} (d : DomainState P) (seat : SeatState View) : Type 0 where
  pub ready : IsReadyFor d seat
  pub notes : seat.view.core.notes ≡ no_notes
  pub owned : seat.view.core.owned ≡ []
  pub weaks : seat.view.core.weaks ≡ []
  pub can : CanRead seat
  pub uncleared : seat.view.client.cleared ≡ false
