-- A reference that is copied stays the seat's when the copy has gone.
use Rattle.std.proofs.Common.{◌≡◌, ℕ, ◌<◌, List, refl, arith, subst}
use Rattle.snapshot_ptr.specs.plain_state.declared.slot.SlotId.{SlotId}
use Rattle.snapshot_ptr.specs.plain_state.Lists.{times}
use Rattle.slot_store.specs.acquire_retire.Calls.{IsSameView, same_view}
use Rattle.slot_store.specs.acquire_retire.Domains.{DomainState}
use Rattle.slot_store.specs.acquire_retire.Seats.{SeatState}
use Rattle.slot_store.specs.control_word.Calls.{DropsStrong, GainsStrong}
use Rattle.slot_store.specs.control_word.Trials.{Owns}
use Rattle.slot_store.proofs.Below.control_word_Owning.{one_strong_fewer, one_strong_more}

module _ {P V : Type 0} {fits : List ℕ → Type 0} (d : DomainState P) (s copy : SlotId)
    (same : copy ≡ s) (old mid new : SeatState V) where
  pub still_owned : 0 < times s old.view.core.owned
      → GainsStrong fits d same_view IsSameView s old mid → DropsStrong fits d copy mid new
      → 0 < times s new.view.core.owned
  still_owned owned gains drops =
      let owns : Owns s (times s old.view.core.owned) (times s old.view.core.weaks) old =
      record { strong = refl; weak = refl } in
      let more = one_strong_more s _ _ owns gains in
      let fewer = one_strong_fewer s (times s old.view.core.owned) _ more
      (subst (λ (x : SlotId). DropsStrong fits d x mid new) same drops) in
      omega (arith, fewer.strong)
