-- What a seat holds is referred to: an owned entry counts, and what is under a snapshot is
-- protected.
use Rattle.std.proofs.Common.{◌≡◌, ◌≢◌, ◌⊎◌, ⊎_elim, ℕ, zero, suc, ◌+◌, ◌*◌, ◌<◌, ◌≤◌, Bool, true, false, List, [], ◌∷◌, length, get_or, refl, arith}
use Rattle.std.specs.Prelude.{if◌then◌else◌}
use Rattle.std.proofs.lemmas.List.Sums.{sum_by-le-sum_by}
use Rattle.std.proofs.lemmas.Bool.{cases_lt}
use Rattle.core_events.specs.plain_state.declared.slot.Kind.{Kind}
use Rattle.core_events.specs.plain_state.declared.slot.Kind.TheVariants.{Strong, Weak, Disposal}
use Rattle.core_events.specs.plain_state.declared.slot.SlotId.{SlotId}
use Rattle.core_events.specs.plain_state.Lists.{entry_times}
use Rattle.core_events.specs.declared.shape.Shape.{Shape}
use Rattle.core_events.specs.declared.view.CoreView.{CoreView}
use Rattle.core_events.specs.declared.view.Note.{Note}
use Rattle.core_events.specs.declared.view.Note.TheVariants as note
use Rattle.core_events.specs.announce_slots.Words.{code}
use Rattle.core_events.specs.Views.{valid_of, snapshots, Holds, HoldsStrongly}
use Rattle.core_events.specs.Runs.{Core, view_at}
use Rattle.core_events.specs.Counts.{one, total, listed, naming, refs, guarding, waiting, has_passed, is_live_word, strong, free_bit, barers, fillers, givers, dying_times, adds_used}
use Rattle.core_law.specs.Sound.{Sound, covering}
use Rattle.core_law.specs.Slots.{numbers}
use Rattle.core_law.proofs.Kit.{slot_cases, one_other, kind_one, valid_one, valid_cons, entry_none, valid_noted, total_at}
use Rattle.core_law.proofs.Put.{at_seat, adds_fit}
use Rattle.core_law.proofs.Flags.{refs_taken, live_taken}

kind_is : (k k' : Kind) (m : ℕ) → 0 < kind_one k k' m → (k' ≡ k) × (0 < m)
kind_is k k' m h = grind arith

-- a note that counts for (k, s) is valid for it
pub valid_is : (k : Kind) (s : SlotId) (n : Note) → 0 < valid_one k s n → n ≡ note.Valid k s
valid_is k s note.Idle h = absurd (omega arith)
valid_is k s (note.Announced k' x) h = absurd (omega arith)
valid_is k s (note.Valid k' x) h =
    let e = kind_is k k' (one s x) h in
    ⊎_elim
    (λ (same : x ≡ s). cc (e.0, same))
    (λ (ne : x.0 ≢ s.0). let o = one_other s x ne in let p = e.1 in absurd (omega arith))
    (slot_cases x s)

-- what is under a snapshot is under a valid note
pub valid_find : (k : Kind) (s : SlotId) (ns : List Note) → 0 < entry_times k s (valid_of ns)
    → (j : ℕ) × (j < length ns) × (get_or ns j note.Idle ≡ note.Valid k s)
valid_find k s [] h = let e = entry_none k s in absurd (omega arith)
valid_find k s (n ∷ ns) h =
    let e = valid_cons k s n ns in
    ⊎_elim
    (λ (pos : 0 < valid_one k s n). (zero, omega arith, valid_is k s n pos))
    (λ (none : valid_one k s n ≤ 0). let r = valid_find k s ns (omega arith) in let l = r.1 in
    (suc r.0, omega arith, r.2))
    (cases_lt 0 (valid_one k s n))

-- what guards a note is a deferred reference, or a slot that waits to be destroyed
pub guard_le : (a : ℕ) (k : Kind) (s : SlotId) (v : CoreView) → guarding a k s v ≤ waiting k s v
guard_le a k s v = go (has_passed a (code k s) v.seen)
  where
    go : (b : Bool) → (if b then 0 else waiting k s v) ≤ waiting k s v
    go true = omega arith
    go false = omega arith

waits_listed : (s : SlotId) (v : CoreView)
    → (waiting Strong s v ≤ listed Strong s v) × (waiting Weak s v ≤ listed Weak s v)
waits_listed s v = (omega arith, omega arith)

pub total_le : (f g : CoreView → ℕ) (vs : List CoreView) → ((v : CoreView) → f v ≤ g v)
    → total f vs ≤ total g vs
unfolding total
total_le f g vs le = sum_by-le-sum_by f g vs le

guards_le : (c : Core) (a : ℕ) (k : Kind) (s : SlotId)
    → total (guarding a k s) c.views ≤ total (waiting k s) c.views
guards_le c a k s = total_le (guarding a k s) (waiting k s) c.views (guard_le a k s)

-- what is under a snapshot has a reference of its kind, or is an object that isn't destroyed
snapshot_guard : (z : Shape) (c : Core) (n : ℕ) (k : Kind) (s : SlotId) → Sound z c → n < z.seats
    → 0 < entry_times k s (snapshots (view_at c n))
    → 0 < covering k z c.words s + total (waiting k s) c.views
snapshot_guard z c n k s so hn h =
    let f = valid_find k s (view_at c n).notes h in
    let four = (so.seats n hn).four in
    let l = f.1 in
    let p = so.guarded n f.0 k s (at_seat z c n so hn) (omega arith) f.2 in
    let t = guards_le c (4 * n + f.0) k s in omega arith

pub snapshot_refs : (z : Shape) (c : Core) (n : ℕ) (k : Kind) (s : SlotId) → Sound z c → n < z.seats
    → k ≢ Disposal → 0 < entry_times k s (snapshots (view_at c n)) → 0 < refs k z c s
snapshot_refs z c n Strong s so hn ne h =
    let g = snapshot_guard z c n Strong s so hn h in
    let t = total_le (waiting Strong s) (listed Strong s) c.views (λ v. (waits_listed s v).0) in
    omega arith
snapshot_refs z c n Weak s so hn ne h =
    let g = snapshot_guard z c n Weak s so hn h in
    let t = total_le (waiting Weak s) (listed Weak s) c.views (λ v. (waits_listed s v).1) in
    omega arith
snapshot_refs z c n Disposal s so hn ne h = absurd (ne refl)

-- what is under a weak snapshot lives by its word, or waits to be destroyed
pub disposal_stands : (z : Shape) (c : Core) (n : ℕ) (s : SlotId) → Sound z c → n < z.seats
    → 0 < entry_times Disposal s (snapshots (view_at c n))
    → (is_live_word (strong z c s) ≡ true) ⊎ (0 < dying_times c s)
disposal_stands z c n s so hn h =
    let g = snapshot_guard z c n Disposal s so hn h in grind arith

-- what a seat holds is claimed and started, and nobody is to give it back
pub held_taken : (z : Shape) (c : Core) (n : ℕ) (s : SlotId) → Sound z c → n < z.seats
    → s.0 < z.slots → Holds (view_at c n) s → free_bit z c s + barers c s + fillers c s + givers c s ≡ 0
held_taken z c n s so hn hs h =
    let law = so.slots s hs in
    let taken = refs_taken (adds_used c) (numbers z c s) law in
    let live = live_taken (adds_used c) (numbers z c s) law (adds_fit z c so) in
    let a = total_at (listed Strong s) c.views n (at_seat z c n so hn) in
    let b = total_at (listed Weak s) c.views n (at_seat z c n so hn) in
    let p = snapshot_refs z c n Strong s so hn (λ e. cc) in
    let q = snapshot_refs z c n Weak s so hn (λ e. cc) in
    let d = disposal_stands z c n s so hn in grind arith

pub strongly_refs : (z : Shape) (c : Core) (n : ℕ) (s : SlotId) → Sound z c → n < z.seats
    → HoldsStrongly (view_at c n) s
    → 0 < refs Strong z c s
strongly_refs z c n s so hn h =
    let a = total_at (listed Strong s) c.views n (at_seat z c n so hn) in
    let r = snapshot_refs z c n Strong s so hn (λ e. cc) in grind arith

-- what a seat holds it names
pub held_named : (s : SlotId) (v : CoreView) → Holds v s → 0 < naming s v
held_named s v h = let t = valid_noted s v.notes in omega arith
