-- What the calls on handles, places and snapshots do, in words of the plain state of the one seat.
use Rattle.std.specs.Prelude.{Bool, true, false, IsTrue, ◌≡◌, ◌↔◌, ◌<◌, ◌≤◌, ◌+◌, ◌++◌, [], ◌∷◌, length, Option, Some, None}
use Rattle.plain_state.specs.declared.act.PlainAct.{PlainAct}
use Rattle.plain_state.specs.declared.act.PlainAct.TheVariants as act
use Rattle.plain_state.specs.declared.act.EventPlace.{EventPlace}
use Rattle.plain_state.specs.declared.act.EventPlace.TheVariants.{Cell, Field, WeakCell, WeakField}
use Rattle.plain_store.specs.declared.place.PlainPlace.{PlainPlace}
use Rattle.plain_store.specs.declared.place.PlainPlace.TheVariants as strong
use Rattle.plain_store.specs.declared.place.PlainWeakPlace.{PlainWeakPlace}
use Rattle.plain_store.specs.declared.place.PlainWeakPlace.TheVariants as weak
use Rattle.plain_state.specs.declared.slot.Kind.{Kind}
use Rattle.plain_state.specs.declared.slot.Kind.TheVariants.{Strong, Weak, Disposal}
use Rattle.plain_state.specs.declared.slot.SlotId.{SlotId}
use Rattle.plain_state.specs.State.{Plain, PlainSeat, seat_at, slot_at, stage_at, with_seat}
use Rattle.plain_state.specs.Lists.{times, entry_times}
use Rattle.plain_state.specs.Places.{place_kind, content}
use Rattle.plain_store.specs.Heaps.{Owns}
use Rattle.plain_state.specs.Runs.{Runs}
use Rattle.plain_state.specs.Steps.{Does, GivesUp, word_of}

-- the seat owns one more reference to s, for one more add
abbrev pub gained : Plain → SlotId → Plain
gained p s = with_seat p 0 (record (seat_at p 0) {
  owned = (seat_at p 0).owned ++ s ∷ [];
  adds = (seat_at p 0).adds + 1;
})

-- the same for a weak reference
abbrev pub weakly_gained : Plain → SlotId → Plain
weakly_gained p s = with_seat p 0 (record (seat_at p 0) {
  weaks = (seat_at p 0).weaks ++ s ∷ [];
  adds = (seat_at p 0).adds + 1;
})

-- an add is spent, and nothing gained
abbrev pub spent : Plain → Plain
spent p = with_seat p 0 (record (seat_at p 0) { adds = (seat_at p 0).adds + 1 })

-- one owned reference to s more, and the handle is of s
abbrev pub Gains : Plain → SlotId → SlotId → Plain → Type 0
Gains p s handle q = (handle ≡ s) × Does p 0 (act.Add s) 0 q

-- one weak reference to s more, and the handle is of s
abbrev pub WeaklyGains : Plain → SlotId → SlotId → Plain → Type 0
WeaklyGains p s handle q = (handle ≡ s) × Does p 0 (act.WeakGain s) 0 q

-- an upgrade: one reference more where the zero mark doesn't stand, and none where it does
abbrev pub Upgrades : Plain → SlotId → Option SlotId → Plain → Type 0
Upgrades p s (Some handle) q = Gains p s handle q
Upgrades p s None q = Does p 0 (act.Add s) 1 q

-- a caller's place, as plain steps name it
abbrev pub strong_place : PlainPlace → EventPlace
strong_place (strong.Cell i) = Cell i
strong_place (strong.Field s i) = Field s i

abbrev pub weak_place : PlainWeakPlace → EventPlace
weak_place (weak.Cell i) = WeakCell i
weak_place (weak.Field s) = WeakField s

-- the place is there
abbrev pub HasPlace : Plain → EventPlace → Type 0
HasPlace p (Cell i) = i < length p.cells
HasPlace p (Field s i) = s.0 < length p.slots
HasPlace p (WeakCell i) = i < length p.weak_cells
HasPlace p (WeakField s) = s.0 < length p.slots

-- the seat can give up a reference of this kind to the slot, if there is one
abbrev pub MayGive : Kind → Option SlotId → PlainSeat → Type 0
MayGive k None v = Unit {0}
MayGive Strong (Some s) v = 0 < times s v.owned
MayGive Weak (Some s) v = 0 < times s v.weaks
MayGive Disposal (Some s) v = ⊥

-- the seat gave up such a reference, if there is one
abbrev pub HasGiven : Plain → Kind → Option SlotId → Plain → Type 0
HasGiven p k new q =
    (w : PlainSeat) × GivesUp k new (seat_at p 0) w × (q ≡ with_seat p 0 w)

-- each slot has the stage and the payload that it had
abbrev pub SameObjects : Plain → Plain → Type 0
SameObjects p q =
    (s : SlotId) → (stage_at q s ≡ stage_at p s)
    × ((slot_at q s).payload ≡ (slot_at p s).payload)

-- the place holds `new`, which the seat gave up, and what it held is deferred
abbrev pub Puts : Plain → EventPlace → Option SlotId → Plain → Type 0
Puts p place new q = Does p 0 (act.Replace place new) (word_of (content p place)) q

-- the same where the place holds what is expected, which `done` says; else nothing
abbrev pub Tries : Plain → EventPlace → Option SlotId → Option SlotId → Bool → Plain → Type 0
Tries p place expected new done q =
    (IsTrue done ↔ (content p place ≡ expected))
    × Does p 0 (act.TryReplace place expected new) (word_of (content p place)) q

-- a load: a snapshot, one reference more, the end of the snapshot. Nothing but the reference and
-- its add is left of it. Null is only looked at
abbrev pub Loads : Plain → EventPlace → Option SlotId → Plain → Type 0
Loads p place (Some s) q =
    (content p place ≡ Some s) × (q ≡ gained p s)
    × Runs p 0 (act.Check 0 place ∷ act.Add s ∷ act.EndSnapshot (place_kind place) s ∷ []) q
Loads p place None q = (content p place ≡ None) × Does p 0 (act.Look place) 0 q

-- the same of a weak place
abbrev pub WeaklyLoads : Plain → EventPlace → Option SlotId → Plain → Type 0
WeaklyLoads p place (Some s) q =
    (content p place ≡ Some s) × (q ≡ weakly_gained p s)
    × Runs p 0 (act.Check 0 place ∷ act.WeakGain s ∷ act.EndSnapshot (place_kind place) s ∷ []) q
WeaklyLoads p place None q = (content p place ≡ None) × Does p 0 (act.Look place) 0 q

-- the seat is under one more snapshot, of s in this place
abbrev pub snapped : Plain → EventPlace → SlotId → Plain
snapped p place s = with_seat p 0 (record (seat_at p 0) {
  snapshots = (seat_at p 0).snapshots ++ (place_kind place, s) ∷ [];
})

-- a snapshot of s: uncounted where the seat has fewer than three, and else counted, which is a load
abbrev pub SnapsAs : Plain → EventPlace → SlotId → Bool → Plain → Type 0
SnapsAs p place s false q =
    (length (seat_at p 0).snapshots < 3) × (content p place ≡ Some s) × (q ≡ snapped p place s)
    × Does p 0 (act.Check 0 place) (s.0 + 1) q
SnapsAs p place s true q = (3 ≤ length (seat_at p 0).snapshots) × Loads p place (Some s) q

-- the same by the handle that the call answers: its slot, and whether it is counted
abbrev pub Snaps : Plain → EventPlace → Option (SlotId × Bool) → Plain → Type 0
Snaps p place (Some handle) q = SnapsAs p place handle.0 handle.1 q
Snaps p place None q = (content p place ≡ None) × Does p 0 (act.Look place) 0 q

-- the seat has the snapshot of s: an announcement of it, or where it is counted a reference
abbrev pub HasSnapshot : Plain → SlotId → Bool → Type 0
HasSnapshot p s false = 0 < entry_times Strong s (seat_at p 0).snapshots
HasSnapshot p s true = Owns p s

-- the step that ends it
abbrev pub ending : SlotId → Bool → PlainAct
ending s false = act.EndSnapshot Strong s
ending s true = act.Drop s
