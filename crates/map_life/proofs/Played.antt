-- Seats that play may leave.
use Rattle.std.proofs.Common.{List}
use Rattle.std.specs.Prelude.{All}
use Rattle.seat_life.specs.Free.{IsFree, OwnsNothing}
use Rattle.version_map.specs.version_making.map_law.declared.view.View.{View}
use Rattle.version_map.specs.version_making.slot_store.acquire_retire.Domains.{DomainState}
use Rattle.version_map.specs.version_making.slot_store.acquire_retire.Seats.{SeatState}
use Rattle.version_map.specs.Playing.{Plays}

module _ {P : Type 0} (d : DomainState P) where
  pub is_free : (s : SeatState View) → Plays d s → IsFree d s
  is_free s plays = record {
    rest = plays.ready.rest;
    notes = plays.notes;
    room = plays.ready.room;
  }

  pub all_free : (xs : List (SeatState View)) → All (Plays d) xs → All (IsFree d) xs
  all_free xs all = λ k other low. is_free _ (all k other low)

  pub all_bare : (xs : List (SeatState View)) → All (Plays d) xs
      → All (λ (s : SeatState View). OwnsNothing s.view.core) xs
  all_bare xs all = λ k other low. ((all k other low).owned, (all k other low).weaks)
