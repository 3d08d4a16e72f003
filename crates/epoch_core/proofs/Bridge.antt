-- The references of the plain state that is shown are those of the core.
use Rattle.std.proofs.Common.{◌≡◌, ⊎_elim, ℕ, zero, suc, ◌+◌, ◌<◌, ◌≤◌, List, [], ◌∷◌, length, get_or, map, refl, ap, ◌∙◌, arith}
use Rattle.std.specs.Prelude.{slice_index}
use Rattle.std.proofs.lemmas.List.{get_or_past, get_or-map}
use Rattle.std.proofs.lemmas.List.Sums.{sum_by-cons}
use Rattle.std.proofs.lemmas.Bool.{cases_lt}
use Rattle.core_law.specs.plain_state.declared.slot.Kind.{Kind}
use Rattle.core_law.specs.plain_state.declared.slot.Kind.TheVariants.{Strong, Weak, Disposal}
use Rattle.core_law.specs.plain_state.declared.slot.SlotId.{SlotId}
use Rattle.core_law.specs.plain_state.declared.slot.PlainSlot.{PlainSlot}
use Rattle.core_law.specs.plain_state.Lists.{times, entry_times, cell_times}
use Rattle.core_law.specs.plain_state.References.{strong_refs, weak_refs, places as plain_places, deferrals, snapshot_times, dying_times as plain_dying, own_reference, strong_fields, weak_fields, held_in, over_seats}
use Rattle.core_law.specs.plain_state.State.{PlainSeat, seat_at, slot_at, stage_at, new_seat, new_slot}
use Rattle.core_law.specs.core_events.Counts.{sum_below}
use Rattle.core_law.proofs.Kit.{times_none, times_cons, entry_none, entry_cons, entry_append, below_none}
use Rattle.core_law.proofs.Each.{length_each, get_each}
use Rattle.core_law.proofs.Lists.{cells_sum, slots_sum, held_word}
use Rattle.epoch_core.specs.declared.act.Dated.{Dated}
use Rattle.epoch_core.specs.declared.shape.EpochShape.{EpochShape}
use Rattle.epoch_core.specs.declared.view.EpochPhase.{EpochPhase}
use Rattle.epoch_core.specs.declared.view.EpochPhase.TheVariants as phase
use Rattle.epoch_core.specs.declared.view.EpochView.{EpochView}
use Rattle.epoch_core.specs.Words.{cell_at, field_at}
use Rattle.epoch_core.specs.Views.{no_view}
use Rattle.epoch_core.specs.Runs.{Core, view_at}
use Rattle.epoch_core.specs.Counts.{total, listed, refs, places, fields_holding, dying_times, pending_times, undated}
use Rattle.epoch_core.specs.Good.{stage}
use Rattle.epoch_core.specs.Shows.{shows, show_seat, show_slot, undated_entry}
use Rattle.epoch_core.specs.Sound.{Sound}
use Rattle.epoch_core.proofs.Kit.{pending_none, pending_cons}
use Rattle.epoch_core.proofs.Parts.{total_zero}

-- SUMS OVER SEATS
pub seats_sum : (h : PlainSeat → ℕ) (vs : List EpochView)
    → over_seats h (map show_seat vs) ≡ total (λ v. h (show_seat v)) vs
unfolding over_seats total
seats_sum h [] = refl
seats_sum h (v ∷ vs) =
    let a = sum_by-cons h (show_seat v) (map show_seat vs) in
    let b = sum_by-cons (λ (u : EpochView). h (show_seat u)) v vs in
    let r = seats_sum h vs in omega arith

pub total_plus : (f g : EpochView → ℕ) (vs : List EpochView)
    → total (λ v. f v + g v) vs ≡ total f vs + total g vs
unfolding total
total_plus f g [] = refl
total_plus f g (v ∷ vs) =
    let a = sum_by-cons (λ (u : EpochView). f u + g u) v vs in
    let b = sum_by-cons f v vs in
    let c = sum_by-cons g v vs in
    let r = total_plus f g vs in omega arith

pub total_same : (f g : EpochView → ℕ) (vs : List EpochView) → ((v : EpochView) → f v ≡ g v)
    → total f vs ≡ total g vs
unfolding total
total_same f g [] same = refl
total_same f g (v ∷ vs) same =
    let a = sum_by-cons f v vs in
    let b = sum_by-cons g v vs in
    let e = same v in
    let r = total_same f g vs same in omega arith

-- a sum of something
pub total_find : (f : EpochView → ℕ) (vs : List EpochView) → 0 < total f vs
    → (n : ℕ) × (n < length vs) × (0 < f (get_or vs n no_view))
unfolding total
total_find f [] h = absurd (omega arith)
total_find f (v ∷ vs) h =
    let a = sum_by-cons f v vs in
    ⊎_elim
    (λ (pos : 0 < f v). (zero, omega arith, pos))
    (λ (none : f v ≤ 0). let r = total_find f vs (omega arith) in let l = r.1 in
    (suc r.0, omega arith, r.2))
    (cases_lt 0 (f v))

-- LISTS OF ENTRIES
strong_entries : (s : SlotId) (ds : List Dated)
    → entry_times Strong s (map (λ (d : Dated). (Strong, d.slot)) ds) ≡ pending_times s ds
strong_entries s [] = let a = entry_none Strong s in let b = pending_none s in omega arith
strong_entries s (d ∷ ds) =
    let a = entry_cons Strong s (Strong, d.slot) (map (λ (x : Dated). (Strong, x.slot)) ds) in
    let b = pending_cons s d ds in
    let r = strong_entries s ds in omega arith

weak_entries : (s : SlotId) (ds : List Dated)
    → entry_times Weak s (map (λ (d : Dated). (Strong, d.slot)) ds) ≡ 0
weak_entries s [] = entry_none Weak s
weak_entries s (d ∷ ds) =
    let a = entry_cons Weak s (Strong, d.slot) (map (λ (x : Dated). (Strong, x.slot)) ds) in
    let r = weak_entries s ds in omega arith

undated_times : (s : SlotId) (p : EpochPhase) → entry_times Strong s (undated_entry p) ≡ undated s p
undated_times s phase.Idle = entry_none Strong s
undated_times s (phase.Entering e) = entry_none Strong s
undated_times s (phase.Undated x) =
    let a = entry_cons Strong s (Strong, x) [] in let b = entry_none Strong s in omega arith
undated_times s (phase.Blank x) = entry_none Strong s
undated_times s (phase.Scan w) = entry_none Strong s

weak_undated : (s : SlotId) (p : EpochPhase) → entry_times Weak s (undated_entry p) ≡ 0
weak_undated s phase.Idle = entry_none Weak s
weak_undated s (phase.Entering e) = entry_none Weak s
weak_undated s (phase.Undated x) =
    let a = entry_cons Weak s (Strong, x) [] in let b = entry_none Weak s in omega arith
weak_undated s (phase.Blank x) = entry_none Weak s
weak_undated s (phase.Scan w) = entry_none Weak s

pub seen_entries : (s : SlotId) (xs : List SlotId)
    → entry_times Strong s (map (λ (x : SlotId). (Strong, x)) xs) ≡ times s xs
seen_entries s [] = let a = entry_none Strong s in let b = times_none s in omega arith
seen_entries s (y ∷ ys) =
    let a = entry_cons Strong s (Strong, y) (map (λ (x : SlotId). (Strong, x)) ys) in
    let b = times_cons s y ys in
    let r = seen_entries s ys in omega arith

pub seen_weak : (k : Kind) (s : SlotId) (xs : List SlotId)
    → (entry_times Weak s (map (λ (x : SlotId). (Strong, x)) xs) ≡ 0)
    × (entry_times Disposal s (map (λ (x : SlotId). (Strong, x)) xs) ≡ 0)
seen_weak k s [] = (entry_none Weak s, entry_none Disposal s)
seen_weak k s (y ∷ ys) =
    let a = entry_cons Weak s (Strong, y) (map (λ (x : SlotId). (Strong, x)) ys) in
    let b = entry_cons Disposal s (Strong, y) (map (λ (x : SlotId). (Strong, x)) ys) in
    let r = seen_weak k s ys in
    let r0 = r.0 in
    let r1 = r.1 in (omega arith, omega arith)

pub deferred_times : (s : SlotId) (v : EpochView)
    → entry_times Strong s (show_seat v).deferred ≡ pending_times s v.pending + undated s v.phase
deferred_times s v =
    let a = entry_append Strong s (map (λ (d : Dated). (Strong, d.slot)) v.pending) (undated_entry v.phase) in
    let b = strong_entries s v.pending in
    let c = undated_times s v.phase in omega arith

pub weak_deferred : (s : SlotId) (v : EpochView) → entry_times Weak s (show_seat v).deferred ≡ 0
weak_deferred s v =
    let a = entry_append Weak s (map (λ (d : Dated). (Strong, d.slot)) v.pending) (undated_entry v.phase) in
    let b = weak_entries s v.pending in
    let c = weak_undated s v.phase in omega arith

-- nothing stands in no weak field
pub no_weak_field : (s : SlotId) (z : EpochShape) (c : Core) (x : SlotId) → weak_fields s (show_slot z c x) ≡ 0
unfolding held_in
no_weak_field s z c x = refl

all_zero : (f : ℕ → ℕ) (n : ℕ) → ((i : ℕ) → f i ≡ 0) → sum_below n f ≡ 0
all_zero f n none = below_none n f (λ i h. none i)

-- REFERENCES
module _ (z : EpochShape) (c : Core) where
  pub shown_seat : (n : ℕ) → n < length c.views → seat_at (shows z c) n ≡ show_seat (view_at c n)
  shown_seat n h = get_or-map show_seat c.views n no_view new_seat h

  pub shown_slot : (s : SlotId) → s.0 < z.slots → slot_at (shows z c) s ≡ show_slot z c s
  shown_slot s h =
      let e : 0 + s.0 ≡ s.0 = omega arith in
      get_each 0 z.slots s.0 (λ x. show_slot z c (record { 0 = x })) new_slot h
      ∙ ap (λ (x : ℕ). show_slot z c (record { 0 = x })) e

  pub shown_stage : (s : SlotId) → s.0 < z.slots → stage_at (shows z c) s ≡ stage z c s
  shown_stage s hs = ap (λ (x : PlainSlot). x.stage) (shown_slot s hs)

  pub shown_past : (s : SlotId) → z.slots ≤ s.0 → slot_at (shows z c) s ≡ new_slot
  shown_past s le =
      let l = length_each 0 z.slots (λ x. show_slot z c (record { 0 = x })) in
      get_or_past (shows z c).slots s.0 new_slot (omega arith)

  pub shown_places : (s : SlotId) → plain_places Strong (shows z c) s ≡ places z c.words s
  shown_places s =
      let a = cells_sum s z.cells (λ i. slice_index c.words (cell_at z i)) in
      let b = slots_sum (strong_fields s) z.slots (λ x. show_slot z c (record { 0 = x }))
      (fields_holding z c.words s)
      (λ x h.
      let f = held_word s (slice_index c.words (field_at z (record { 0 = x }) 0)) in
      let g = held_word s (slice_index c.words (field_at z (record { 0 = x }) 1)) in omega arith) in
      omega arith

  pub weak_places : (s : SlotId) → plain_places Weak (shows z c) s ≡ 0
  unfolding cell_times
  weak_places s =
      let b = slots_sum (weak_fields s) z.slots (λ x. show_slot z c (record { 0 = x })) (λ x. 0)
      (λ x h. no_weak_field s z c (record { 0 = x })) in
      let n = all_zero (λ x. 0) z.slots (λ i. refl) in omega arith

  pub shown_deferrals : (s : SlotId)
      → deferrals Strong (shows z c) s
      ≡ total (λ v. pending_times s v.pending + undated s v.phase) c.views
  shown_deferrals s =
      seats_sum (λ (v : PlainSeat). entry_times Strong s v.deferred) c.views
      ∙ total_same _ _ c.views (deferred_times s)

  pub weak_deferrals : (s : SlotId) → deferrals Weak (shows z c) s ≡ 0
  weak_deferrals s =
      seats_sum (λ (v : PlainSeat). entry_times Weak s v.deferred) c.views
      ∙ total_zero _ c.views (λ n h. weak_deferred s (view_at c n))

  pub shown_strong : (s : SlotId) → strong_refs (shows z c) s ≡ refs z c s
  shown_strong s =
      let a = seats_sum (λ (v : PlainSeat). times s v.owned) c.views in
      let d = shown_deferrals s in
      let p = shown_places s in
      let t = total_plus (λ (v : EpochView). times s v.owned)
      (λ (v : EpochView). pending_times s v.pending + undated s v.phase) c.views in
      let e = total_same (listed s) (λ (v : EpochView). times s v.owned
      + (pending_times s v.pending + undated s v.phase)) c.views (λ v. omega arith) in
      omega arith

  pub shown_weak : (s : SlotId) → weak_refs (shows z c) s ≡ own_reference (stage_at (shows z c) s)
  shown_weak s =
      let a = seats_sum (λ (v : PlainSeat). times s v.weaks) c.views in
      let n = total_zero (λ (v : EpochView). times s (show_seat v).weaks) c.views (λ n h. times_none s) in
      let d = weak_deferrals s in
      let p = weak_places s in omega arith

  pub shown_snapshots : (s : SlotId)
      → snapshot_times Strong (shows z c) s ≡ total (λ v. times s v.seen) c.views
  shown_snapshots s =
      seats_sum (λ (v : PlainSeat). entry_times Strong s v.snapshots) c.views
      ∙ total_same _ _ c.views (λ v. seen_entries s v.seen)

  pub other_snapshots : (s : SlotId)
      → (snapshot_times Weak (shows z c) s ≡ 0) × (snapshot_times Disposal (shows z c) s ≡ 0)
  other_snapshots s = (
    seats_sum (λ (v : PlainSeat). entry_times Weak s v.snapshots) c.views
        ∙ total_zero _ c.views (λ n h. (seen_weak Weak s (view_at c n).seen).0),
    seats_sum (λ (v : PlainSeat). entry_times Disposal s v.snapshots) c.views
        ∙ total_zero _ c.views (λ n h. (seen_weak Weak s (view_at c n).seen).1),
  )

  pub shown_dying : (s : SlotId) → plain_dying (shows z c) s ≡ dying_times c s
  shown_dying s = seats_sum (λ (v : PlainSeat). times s v.dying) c.views

-- a slot that isn't there has no references and stands in no dying list
pub past_refs : (z : EpochShape) (c : Core) (s : SlotId) → Sound z c → z.slots ≤ s.0 → refs z c s ≡ 0
past_refs z c s so le =
    let p = so.range s le in
    let t = total_zero (listed s) c.views (λ n h. let sv = so.views in let r =
    (so.seats n (omega arith)).range s le in omega arith) in omega arith

pub past_dying : (z : EpochShape) (c : Core) (s : SlotId) → Sound z c → z.slots ≤ s.0
    → dying_times c s ≡ 0
past_dying z c s so le =
    total_zero (λ (v : EpochView). times s v.dying) c.views
    (λ n h. let sv = so.views in let r = (so.seats n (omega arith)).range s le in omega arith)
