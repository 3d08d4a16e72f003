-- A snapshot of a plain heap is one more in the list.
use Rattle.std.proofs.Common.{◌≡◌, true, false, [], ◌∷◌, ◌++◌, refl, sym, Option, Some, None}
use Rattle.std.specs.Prelude.{Bool}
use Rattle.std.proofs.lemmas.List.{append-nil}
use Rattle.plain_store.specs.plain_state.declared.act.EventPlace.{EventPlace}
use Rattle.plain_store.specs.plain_state.declared.slot.SlotId.{SlotId}
use Rattle.plain_store.specs.plain_state.Places.{place_kind}
use Rattle.plain_store.specs.plain_state.State.{Plain, seat_at}
use Rattle.plain_store.specs.Calls.{Snaps}
use Rattle.plain_settling.specs.Snapshots.{Takes}

pub snaps_take : (p q : Plain) (place : EventPlace) (found : Option (SlotId × Bool))
    → Snaps p place found q → Takes p place found q
snaps_take p q place None finds = finds
snaps_take p q place (Some (s, true)) counted = counted
snaps_take p q place (Some (s, false)) (few, holds, is, checks) = (
  few,
  record {
    holds = holds;
    under = (
      (seat_at p 0).snapshots ++ (place_kind place, s) ∷ [],
      (
        (seat_at p 0).snapshots,
        [],
        refl,
        sym (append-nil (seat_at p 0).snapshots),
      ),
      is,
    );
    checks = checks;
  },
)
