-- Weak calls as a part sees them, what they leave of a client's view beside, and when the deed of an upgrade is ready.
use Rattle.std.proofs.Common.{◌≡◌, ℕ, List, [], ◌∷◌, refl, ap, ◌∙◌}
use Rattle.std.specs.Prelude.{Err, IfOk, Ok, Option, Result}
use Rattle.control_word.specs.plain_state.declared.act.EventPlace.{EventPlace}
use Rattle.control_word.specs.plain_state.declared.act.PlainAct.{PlainAct}
use Rattle.control_word.specs.plain_state.declared.act.PlainAct.TheVariants as plain
use Rattle.control_word.specs.plain_state.declared.slot.SlotId.{SlotId}
use Rattle.control_word.specs.plain_state.State.{Plain}
use Rattle.control_word.specs.plain_protocol.Acts.{Owned}
use Rattle.control_word.specs.plain_protocol.Owns.{OwnPart}
use Rattle.control_word.specs.core_events.declared.act.Act.TheVariants as act
use Rattle.control_word.specs.core_events.declared.view.CoreView.{CoreView}
use Rattle.control_word.specs.core_events.declared.view.Move.{Move}
use Rattle.control_word.specs.core_events.Words.{slot_in}
use Rattle.control_word.specs.counted_handles.Handles.{Handle}
use Rattle.control_word.specs.counted_handles.declared.refusal.LoadError.{LoadError}
use Rattle.control_word.specs.counted_handles.declared.refusal.LoadError.TheVariants as unloaded
use Rattle.control_word.specs.domain_rule.Views.{own_of}
use Rattle.control_word.specs.acquire_retire.Calls.{IsReady}
use Rattle.control_word.specs.acquire_retire.Domains.{DomainState}
use Rattle.control_word.specs.acquire_retire.Seats.{SeatState}
use Rattle.control_word.specs.declared.upgrading.UpgradeError.{UpgradeError}
use Rattle.control_word.specs.declared.upgrading.UpgradeError.TheVariants as ended
use Rattle.control_word.specs.Calls.{DropsWeak, FindsEnded, GainsStrong, GainsWeak}
use Rattle.control_word.specs.Moves.{Becomes}
use Rattle.control_word.specs.Resting.{IsAtRest}
use Rattle.atomic_weak.specs.protected_loads.Loads.{Misses}
use Rattle.atomic_weak.specs.protected_loads.References.{Loads}
use Rattle.part_calls.specs.protocol_pairs.Parts.{Accepts, Frees, PutsOver}
use Rattle.atomic_weak.specs.Places.{named}
use Rattle.part_calls.specs.Parts.{AcceptsAll, HasBeside, as_part, seen_by}
use Rattle.part_calls.proofs.Beside.{beside_same, loads_beside, misses_beside}
use Rattle.part_calls.proofs.Seen.{IsSeen, becomes_seen, lifted_next}
use Rattle.part_calls.proofs.SeenCalls.{stays_seen}

module _ {P Q V W : Type 0} (fits : List ℕ → Type 0) (part : P → Q) (seen : V → W)
    (d : DomainState P) where
  -- STEPS WITHOUT A DEED
  pub gains_weak_seen : (s : SlotId) (old new : SeatState V) → GainsWeak fits d s old new
      → GainsWeak fits (as_part part d) s (seen_by seen old) (seen_by seen new)
  gains_weak_seen s old new by = stays_seen fits part seen d _ _ old new by

  pub drops_weak_seen : (s : SlotId) (old new : SeatState V) → DropsWeak fits d s old new
      → DropsWeak fits (as_part part d) s (seen_by seen old) (seen_by seen new)
  drops_weak_seen s old new by = (by.0, stays_seen fits part seen d _ _ old new by.1)

  -- AN ADD WITH A DEED
  module _ {next : OwnPart → OwnPart → V → PlainAct → ℕ → V}
      {allows : Plain → Plain → ℕ → V → V → Type 0}
      {next_in : OwnPart → OwnPart → W → PlainAct → ℕ → W}
      {allows_in : Plain → Plain → ℕ → W → W → Type 0}
      (is : IsSeen seen next allows next_in allows_in) where
    pub counts_seen : (s : SlotId) (old new : SeatState V)
        → GainsStrong fits d next allows s old new
        → GainsStrong fits (as_part part d) next_in allows_in s (seen_by seen old)
        (seen_by seen new)
    counts_seen s old new by = becomes_seen fits part seen d is _ _ old new by

    pub ended_seen : (s : SlotId) (old new : SeatState V)
        → FindsEnded fits d next allows s old new
        → FindsEnded fits (as_part part d) next_in allows_in s (seen_by seen old)
        (seen_by seen new)
    ended_seen s old new found = record {
      becomes = becomes_seen fits part seen d is _ _ old new found.becomes;
      zero = found.zero;
      none = found.none;
    }

-- a deed of the part is ready for an add in the whole, as it is in the part
pub add_ready : {P V W : Type 0} (seen : V → W) (d : DomainState P) (owned : Owned)
    (free : OwnPart → PlainAct → Type 0) (frees : Frees owned free) (suits : V → W → Type 0)
    (ready : OwnPart → W → PlainAct → Type 0) (next : OwnPart → OwnPart → W → PlainAct → ℕ → W)
    (s : SlotId) (old : SeatState V) → AcceptsAll suits next seen old.view.client
    → IsReady ready d.shape (act.Add s) (seen_by seen old).view
    → IsReady (λ own v step. ready own (seen v) step × free own step
    × Accepts suits next seen own v step) d.shape (act.Add s) old.view
add_ready seen d owned free frees suits ready next s old all is w = (
  is w,
  frees (own_of old.view) (plain.Add s) tt,
  λ after found.
      all (own_of old.view) after (plain.Add s) found,
)

module _ {V W : Type 0} (seen : V → W) (with_seen : V → W → V) (gone : W)
    (over : PutsOver with_seen) {P : Type 0} (fits : List ℕ → Type 0) (d : DomainState P)
    (next : OwnPart → OwnPart → W → PlainAct → ℕ → W)
    (allows : Plain → Plain → ℕ → V → V → Type 0) (old new : SeatState V) where
  one_beside : (m : Move) (v : CoreView)
      → Becomes fits d (lifted_next seen with_seen next) allows (m ∷ []) v old new
      → HasBeside with_seen gone old new
  one_beside m v by =
      ap (λ (u : V). with_seen u gone)
      (ap (λ (z : SeatState V). z.view.client) by.walks.2 ∙ by.walks.1.told.client)
      ∙ over old.view.client _ gone

  -- whatever an upgrade answers
  pub upgrade_beside : (s : SlotId) (r : Result Handle UpgradeError)
      → (r ≡ Err ended.Spent → new ≡ old)
      → IfOk r (λ strong. (strong.slot ≡ s)
      × GainsStrong fits d (lifted_next seen with_seen next) allows s old new)
      → (r ≡ Err ended.Ended
      → FindsEnded fits d (lifted_next seen with_seen next) allows s old new)
      → HasBeside with_seen gone old new
  upgrade_beside s (Ok strong) same up found = one_beside _ _ up.1
  upgrade_beside s (Err ended.Spent) same up found =
      beside_same seen with_seen gone over old new
      (ap (λ (z : SeatState V). z.view.client) (same refl))
  upgrade_beside s (Err ended.Ended) same up found = one_beside _ _ (found refl).becomes

  -- whatever a load of a weak place answers
  pub weak_load_beside : (place : EventPlace) (r : Result (Option Handle) LoadError)
      → IsAtRest d old → (r ≡ Err unloaded.Spent → new ≡ old)
      → IfOk r (λ found. Loads fits d place (lifted_next seen with_seen next) allows (named found)
      old new)
      → ((was now : ℕ) → r ≡ Err (unloaded.Moved was now)
      → Misses fits d 0 place (lifted_next seen with_seen next) allows (slot_in was) (slot_in now)
      old new)
      → HasBeside with_seen gone old new
  weak_load_beside place (Ok found) rest same l moved =
      loads_beside seen with_seen gone over fits d next allows old new place (named found) rest l
  weak_load_beside place (Err unloaded.Spent) rest same l moved =
      beside_same seen with_seen gone over old new
      (ap (λ (z : SeatState V). z.view.client) (same refl))
  weak_load_beside place (Err (unloaded.Moved was now)) rest same l moved =
      misses_beside seen with_seen gone over fits d next allows old new place (slot_in was)
      (slot_in now) (moved was now refl)
