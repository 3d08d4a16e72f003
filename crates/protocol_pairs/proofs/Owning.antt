-- What a seat of a lawful state owns strongly lives.
use Rattle.std.proofs.Common.{◌≡◌, ℕ, ◌<◌, length, arith}
use Rattle.plain_protocol.specs.plain_state.declared.slot.SlotId.{SlotId}
use Rattle.plain_protocol.specs.plain_state.declared.slot.Stage.TheVariants.{Live}
use Rattle.plain_protocol.specs.plain_state.Lawful.{Lawful}
use Rattle.plain_protocol.specs.plain_state.Lists.{times}
use Rattle.plain_protocol.specs.plain_state.State.{Plain, PlainSeat, seat_at, stage_at}
use Rattle.plain_protocol.proofs.Below.plain_state_Kit.{seats_at}

pub owned_live : (p : Plain) (n : ℕ) (x : SlotId) → Lawful p → n < length p.seats
    → 0 < times x (seat_at p n).owned → stage_at p x ≡ Live
owned_live p n x lawful there owns =
    let a = seats_at (λ (v : PlainSeat). times x v.owned) p.seats n there in
    (lawful.strong x (omega arith)).0
