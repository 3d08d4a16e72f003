-- What the calls of a plain heap ask and do, in words of the plain state of its one seat.
use Rattle.std.specs.Prelude.{ℕ, false, ◌≡◌, ◌≢◌, ◌<◌, ◌≤◌, ◌+◌, ◌^◌, List, [], ◌∷◌, ◌++◌, length, All, None}
use Rattle.plain_state.specs.Limits.{most_slots}
use Rattle.plain_state.specs.declared.act.PlainAct.{PlainAct}
use Rattle.plain_state.specs.declared.act.PlainAct.TheVariants as act
use Rattle.plain_state.specs.declared.slot.Kind.TheVariants.{Disposal}
use Rattle.plain_state.specs.declared.slot.SlotId.{SlotId}
use Rattle.plain_state.specs.declared.slot.PlainSlot.{PlainSlot}
use Rattle.plain_state.specs.declared.slot.Stage.TheVariants.{Free, Live}
use Rattle.plain_state.specs.Lists.{times, entry_times}
use Rattle.plain_state.specs.Fits.{AllFit}
use Rattle.plain_state.specs.State.{Plain, seat_at}
use Rattle.plain_state.specs.Sound.{Sound, all_adds}
use Rattle.plain_state.specs.Runs.{Runs}

-- the seat owns a strong, or a weak, reference to s
abbrev pub Owns : Plain → SlotId → Type 0
Owns p s = 0 < times s (seat_at p 0).owned

abbrev pub OwnsWeakly : Plain → SlotId → Type 0
OwnsWeakly p s = 0 < times s (seat_at p 0).weaks

abbrev pub NoneFree : Plain → Type 0
NoneFree p = All (λ x. x.stage ≢ Free) p.slots

-- payload words from i on are filled
abbrev pub fills : SlotId → ℕ → List ℕ → List PlainAct
fills s i [] = []
fills s i (word ∷ words) = act.Fill s i word ∷ fills s (i + 1) words

-- the slot with an object of this payload
abbrev pub made_slot : PlainSlot → List ℕ → PlainSlot
made_slot x payload = record x { stage = Live; marked = false; life = x.life + 1; payload = payload }

-- s is claimed, filled with the payload, and made
abbrev pub Makes : Plain → SlotId → List ℕ → Plain → Type 0
Makes p s payload q = Runs p 0 (act.Claim s ∷ fills s 0 payload ++ act.Make s ∷ []) q

-- seat 0 is under no weak snapshot, and none is deferred
pub record NoDisposals (p : Plain) : Type 0 where
  pub snapshots : (s : SlotId) → entry_times Disposal s (seat_at p 0).snapshots ≡ 0
  pub deferred : (s : SlotId) → entry_times Disposal s (seat_at p 0).deferred ≡ 0

-- what holds of every plain heap whose payloads are of a kind: it has one seat, and so few slots and adds that no
-- count reaches the zero flag of a word; no ticket was drawn, and between two calls the seat fills no slot
pub record IsHeap (fits : List ℕ → Type 0) (p : Plain) : Type 0 where
  pub sound : Sound p
  pub seats : length p.seats ≡ 1
  pub slots : length p.slots ≤ most_slots
  pub adds : all_adds p + 1 < 2 ^ 63
  pub payloads : AllFit fits p
  pub tickets : p.tickets ≡ 0
  pub filling : (seat_at p 0).filling ≡ None
  pub disposals : NoDisposals p
