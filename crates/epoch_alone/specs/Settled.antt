-- A whole state in which nothing waits, and of which one seat has everything.
use Rattle.std.specs.Prelude.{ℕ, ◌≡◌, ◌⊎◌, ◌<◌, true, List, [], None}
use Rattle.epoch_refs.specs.plain_protocol.plain_state.declared.slot.Kind.{Kind}
use Rattle.epoch_refs.specs.plain_protocol.plain_state.declared.slot.SlotId.{SlotId}
use Rattle.epoch_refs.specs.plain_protocol.plain_state.declared.slot.Stage.TheVariants.{Free, Live}
use Rattle.epoch_refs.specs.plain_protocol.plain_state.References.{deferrals, strong_refs}
use Rattle.epoch_refs.specs.plain_protocol.plain_state.State.{Plain, PlainSeat, seat_at, stage_at}
use Rattle.epoch_refs.specs.plain_protocol.Owns.{is_alone}

-- the seat has nothing deferred, is under no snapshot, has nothing dying, fills no slot, and owns nothing weakly
pub record HasNothingWaiting (v : PlainSeat) : Type 0 where
  pub deferred : v.deferred ≡ []
  pub snapshots : v.snapshots ≡ []
  pub dying : v.dying ≡ []
  pub filling : v.filling ≡ None
  pub weaks : v.weaks ≡ []

-- Seat 0 is alone and owns these references, and no other seat owns any. Nothing waits at any seat, so nothing is
-- deferred; each slot is live or free, and a live one has a reference.
pub record IsSettled (p : Plain) (owned : List SlotId) : Type 0 where
  pub alone : is_alone p 0 ≡ true
  pub seats : (n : ℕ) → HasNothingWaiting (seat_at p n)
  pub root : (seat_at p 0).owned ≡ owned
  pub others : (n : ℕ) → 0 < n → (seat_at p n).owned ≡ []
  pub deferred : (k : Kind) (s : SlotId) → deferrals k p s ≡ 0
  pub stages : (s : SlotId) → (stage_at p s ≡ Live) ⊎ (stage_at p s ≡ Free)
  pub live : (s : SlotId) → stage_at p s ≡ Live → 0 < strong_refs p s
