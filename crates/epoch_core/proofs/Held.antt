-- What a slot's law tells by one number of it; what a seat holds is live.
use Rattle.std.proofs.Common.{◌≡◌, ⊎_elim, ℕ, ◌+◌, ◌^◌, ◌<◌, ◌≤◌, List, arith}
use Rattle.std.proofs.lemmas.List.Sums.{sum_by-le-sum_by}
use Rattle.std.proofs.lemmas.Bool.{cases_lt}
use Rattle.core_law.specs.plain_state.declared.slot.SlotId.{SlotId}
use Rattle.core_law.specs.plain_state.Lists.{times}
use Rattle.epoch_core.specs.declared.act.Dated.{Dated}
use Rattle.epoch_core.specs.declared.shape.EpochShape.{EpochShape}
use Rattle.epoch_core.specs.declared.view.EpochView.{EpochView}
use Rattle.epoch_core.specs.Words.{free_word}
use Rattle.epoch_core.specs.Views.{Holds}
use Rattle.epoch_core.specs.Runs.{Core, view_at, opened_at}
use Rattle.epoch_core.specs.Counts.{total, listed, guarding, refs, witness, naming, pending_times, pending_from}
use Rattle.epoch_core.specs.Slots.{Numbers, SlotLaw, IsFree, IsHeld, IsLive, free, held, live}
use Rattle.epoch_core.specs.Sound.{Sound, SeatLaw}
use Rattle.epoch_core.proofs.Kit.{total_at, late_one, late_most}
use Rattle.epoch_core.proofs.Put.{at_seat}

-- BY ONE NUMBER
pub live_of : (a : ℕ) (m : Numbers) → SlotLaw a m → 0 < m.refs → IsLive a m
live_of a m (free l) h = let r = l.refs in absurd (omega arith)
live_of a m (held l) h = let r = l.refs in absurd (omega arith)
live_of a m (live l) h = l

pub held_of : (a : ℕ) (m : Numbers) → SlotLaw a m → 0 < m.filling + m.dying → IsHeld m
held_of a m (free l) h = let f = l.filling in let d = l.dying in absurd (omega arith)
held_of a m (held l) h = l
held_of a m (live l) h = let f = l.filling in let d = l.dying in absurd (omega arith)

pub free_of : (a : ℕ) (m : Numbers) → SlotLaw a m → a < 2 ^ 60 → m.word ≡ free_word → IsFree m
free_of a m (free l) fit w = l
free_of a m (held l) fit w = let z = l.word in absurd (omega arith)
free_of a m (live l) fit w = let f = l.few in absurd (omega arith)

-- WHAT A SEAT HOLDS
pub total_le : (f g : EpochView → ℕ) (vs : List EpochView) → ((v : EpochView) → f v ≤ g v)
    → total f vs ≤ total g vs
unfolding total
total_le f g vs le = sum_by-le-sum_by f g vs le

pub from_le : (g : ℕ) (s : SlotId) (ds : List Dated) → pending_from g s ds ≤ pending_times s ds
unfolding pending_from pending_times
from_le g s ds = sum_by-le-sum_by (late_one g s) _ ds (late_most g s)

-- what guards a seen slot is a reference to it
pub guard_le : (g : ℕ) (s : SlotId) (v : EpochView) → guarding g s v ≤ listed s v
guard_le g s v = let f = from_le g s v.pending in omega arith

pub witness_le : (z : EpochShape) (g : ℕ) (c : Core) (s : SlotId) → witness z g c s ≤ refs z c s
witness_le z g c s = let t = total_le (guarding g s) (listed s) c.views (guard_le g s) in omega arith

pub seen_refs : (z : EpochShape) (c : Core) (n : ℕ) (s : SlotId) → Sound z c → n < z.seats
    → 0 < times s (view_at c n).seen → 0 < refs z c s
seen_refs z c n s so hn h =
    let w = so.seen n s hn h in
    let l = witness_le z (opened_at c n) c s in omega arith

pub listed_refs : (z : EpochShape) (c : Core) (n : ℕ) (s : SlotId) → Sound z c → n < z.seats
    → listed s (view_at c n) ≤ refs z c s
listed_refs z c n s so hn =
    let a = total_at (listed s) c.views n (at_seat z c n so hn) in omega arith

pub held_refs : (z : EpochShape) (c : Core) (n : ℕ) (s : SlotId) → Sound z c → n < z.seats
    → Holds (view_at c n) s → 0 < refs z c s
held_refs z c n s so hn h = ⊎_elim
    (λ (pos : 0 < times s (view_at c n).seen). seen_refs z c n s so hn pos)
    (λ none. let l = listed_refs z c n s so hn in omega arith)
    (cases_lt 0 (times s (view_at c n).seen))

-- a slot that a seat names is there
pub named_in_range : (z : EpochShape) (n : ℕ) (v : EpochView) (s : SlotId) → SeatLaw z n v
    → 0 < naming s v → s.0 < z.slots
named_in_range z n v s law h = ⊎_elim
    (λ lt. lt)
    (λ le. let e = law.range s le in absurd (omega arith))
    (cases_lt s.0 z.slots)
