-- The references of the plain state are those of the core.
use Rattle.std.proofs.Common.{◌≡◌, ⊎_elim, ℕ, zero, suc, ◌+◌, ◌<◌, ◌≤◌, List, [], ◌∷◌, length, get_or, refl, ap, ◌∙◌, arith}
use Rattle.std.specs.Prelude.{slice_index}
use Rattle.std.proofs.lemmas.List.{get_or_past, get_or-map}
use Rattle.std.proofs.lemmas.List.Sums.{sum_by-cons}
use Rattle.std.proofs.lemmas.Bool.{cases_lt}
use Rattle.core_events.specs.plain_state.declared.slot.Kind.{Kind}
use Rattle.core_events.specs.plain_state.declared.slot.Kind.TheVariants.{Strong, Weak, Disposal}
use Rattle.core_events.specs.plain_state.declared.slot.SlotId.{SlotId}
use Rattle.core_events.specs.plain_state.declared.slot.PlainSlot.{PlainSlot}
use Rattle.core_events.specs.plain_state.Lists.{times, entry_times}
use Rattle.core_events.specs.plain_state.References.{strong_refs, weak_refs, places as plain_places, deferrals, snapshot_times, dying_times as plain_dying, own_reference, strong_fields, weak_fields}
use Rattle.core_events.specs.plain_state.State.{PlainSeat, seat_at, slot_at, stage_at, new_seat, new_slot}
use Rattle.core_events.specs.declared.shape.Shape.{Shape}
use Rattle.core_events.specs.declared.view.CoreView.{CoreView}
use Rattle.core_events.specs.Words.{cell_at, weak_cell_at, field_at, weak_field_at}
use Rattle.core_events.specs.Views.{no_view, snapshots}
use Rattle.core_events.specs.Runs.{Core, view_at}
use Rattle.core_events.specs.Counts.{stage, total, listed, refs, places, fields_holding, dying_times}
use Rattle.core_events.specs.Shows.{shows, show_seat, show_slot}
use Rattle.core_law.specs.Sound.{Sound}
use Rattle.core_law.proofs.Kit.{entry_append}
use Rattle.core_law.proofs.Writes.{weak_holding}
use Rattle.core_law.proofs.Each.{length_each, get_each}
use Rattle.core_law.proofs.Lists.{cells_sum, slots_sum, seats_sum, held_word, total_plus, total_same}

module _ (z : Shape) (c : Core) where
  pub shown_seat : (n : ℕ) → n < length c.views → seat_at (shows z c) n ≡ show_seat (view_at c n)
  shown_seat n h = get_or-map show_seat c.views n no_view new_seat h

  pub shown_slot : (s : SlotId) → s.0 < z.slots → slot_at (shows z c) s ≡ show_slot z c s
  shown_slot s h =
      let e : 0 + s.0 ≡ s.0 = omega arith in
      get_each 0 z.slots s.0 (λ x. show_slot z c (record { 0 = x })) new_slot h
      ∙ ap (λ (x : ℕ). show_slot z c (record { 0 = x })) e

  pub shown_stage : (s : SlotId) → s.0 < z.slots → stage_at (shows z c) s ≡ stage z c s
  shown_stage s hs = ap (λ (x : PlainSlot). x.stage) (shown_slot s hs)

  pub shown_past : (s : SlotId) → z.slots ≤ s.0 → slot_at (shows z c) s ≡ new_slot
  shown_past s le =
      let l = length_each 0 z.slots (λ x. show_slot z c (record { 0 = x })) in
      get_or_past (shows z c).slots s.0 new_slot (omega arith)

  pub shown_places : (k : Kind) (s : SlotId) → plain_places k (shows z c) s ≡ places k z c.words s
  shown_places Strong s =
      let a = cells_sum s z.cells (λ i. slice_index c.words (cell_at z i)) in
      let b = slots_sum (strong_fields s) z.slots (λ x. show_slot z c (record { 0 = x }))
      (fields_holding z c.words s)
      (λ x h.
      let f = held_word s (slice_index c.words (field_at z (record { 0 = x }) 0)) in
      let g = held_word s (slice_index c.words (field_at z (record { 0 = x }) 1)) in omega
      arith) in
      omega arith
  shown_places Weak s =
      let a = cells_sum s z.weak_cells (λ i. slice_index c.words (weak_cell_at z i)) in
      let b = slots_sum (weak_fields s) z.slots (λ x. show_slot z c (record { 0 = x }))
      (weak_holding z c.words s)
      (λ x h. held_word s (slice_index c.words (weak_field_at z (record { 0 = x })))) in
      omega arith
  shown_places Disposal s = refl

  pub shown_deferrals : (k : Kind) (s : SlotId)
      → deferrals k (shows z c) s ≡ total (λ v. entry_times k s v.owed + entry_times k s v.retired)
      c.views
  shown_deferrals k s =
      seats_sum (λ (v : PlainSeat). entry_times k s v.deferred) c.views
      ∙ total_same _ _ c.views (λ v. entry_append k s v.owed v.retired)

  pub shown_strong : (s : SlotId) → strong_refs (shows z c) s ≡ refs Strong z c s
  shown_strong s =
      let a = seats_sum (λ (v : PlainSeat). times s v.owned) c.views in
      let d = shown_deferrals Strong s in
      let p = shown_places Strong s in
      let t = total_plus (λ (v : CoreView). times s v.owned)
      (λ (v : CoreView). entry_times Strong s v.owed + entry_times Strong s v.retired) c.views
      in
      let e = total_same (listed Strong s) (λ (v : CoreView). times s v.owned
      + (entry_times Strong s v.owed + entry_times Strong s v.retired)) c.views
      (λ v. omega arith) in
      omega arith

  pub shown_weak : (s : SlotId)
      → weak_refs (shows z c) s ≡ refs Weak z c s + own_reference (stage_at (shows z c) s)
  shown_weak s =
      let a = seats_sum (λ (v : PlainSeat). times s v.weaks) c.views in
      let d = shown_deferrals Weak s in
      let p = shown_places Weak s in
      let t = total_plus (λ (v : CoreView). times s v.weaks)
      (λ (v : CoreView). entry_times Weak s v.owed + entry_times Weak s v.retired) c.views in
      let e = total_same (listed Weak s) (λ (v : CoreView). times s v.weaks
      + (entry_times Weak s v.owed + entry_times Weak s v.retired)) c.views
      (λ v. omega arith) in
      omega arith

  pub shown_snapshots : (k : Kind) (s : SlotId) → snapshot_times k (shows z c) s
      ≡ total (λ v. entry_times k s (snapshots v)) c.views
  shown_snapshots k s = seats_sum (λ (v : PlainSeat). entry_times k s v.snapshots) c.views

  pub shown_dying : (s : SlotId) → plain_dying (shows z c) s ≡ dying_times c s
  shown_dying s = seats_sum (λ (v : PlainSeat). times s v.dying) c.views

-- a sum of nothing, and a sum of something
pub total_zero : (f : CoreView → ℕ) (vs : List CoreView)
    → ((n : ℕ) → n < length vs → f (get_or vs n no_view) ≡ 0) → total f vs ≡ 0
unfolding total
total_zero f [] none = refl
total_zero f (v ∷ vs) none =
    let a = sum_by-cons f v vs in
    let h : f v ≡ 0 = none zero (omega arith) in
    let r = total_zero f vs (λ n l. none (suc n) (omega arith)) in omega arith

pub total_find : (f : CoreView → ℕ) (vs : List CoreView) → 0 < total f vs
    → (n : ℕ) × (n < length vs) × (0 < f (get_or vs n no_view))
unfolding total
total_find f [] h = absurd (omega arith)
total_find f (v ∷ vs) h =
    let a = sum_by-cons f v vs in
    ⊎_elim
    (λ (pos : 0 < f v). (zero, omega arith, pos))
    (λ (none : f v ≤ 0). let r = total_find f vs (omega arith) in let l = r.1 in
    (suc r.0, omega arith, r.2))
    (cases_lt 0 (f v))

-- a slot that isn't there has no references and stands in no dying list
pub refs_past : (z : Shape) (c : Core) (k : Kind) (s : SlotId) → Sound z c → z.slots ≤ s.0
    → refs k z c s ≡ 0
refs_past z c Strong s so le =
    let p = so.range Strong s le in
    let t = total_zero (listed Strong s) c.views (λ n h. let sv = so.views in let r =
    (so.seats n (omega arith)).range s le in omega arith) in omega arith
refs_past z c Weak s so le =
    let p = so.range Weak s le in
    let t = total_zero (listed Weak s) c.views (λ n h. let sv = so.views in let r =
    (so.seats n (omega arith)).range s le in omega arith) in omega arith
refs_past z c Disposal s so le =
    let p = so.range Disposal s le in
    let t = total_zero (listed Disposal s) c.views (λ n h. let sv = so.views in let r =
    (so.seats n (omega arith)).range s le in omega arith) in omega arith

pub dying_past : (z : Shape) (c : Core) (s : SlotId) → Sound z c → z.slots ≤ s.0 → dying_times c s
    ≡ 0
dying_past z c s so le =
    total_zero (λ (v : CoreView). times s v.dying) c.views
    (λ n h. let sv = so.views in let r = (so.seats n (omega arith)).range s le in omega arith)
