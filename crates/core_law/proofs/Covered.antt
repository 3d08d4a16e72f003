-- What covers each snapshot in what a core shows, also where a payment takes one of the deferred entries.
use Rattle.std.proofs.Common.{◌≡◌, ◌≢◌, ◌⊎◌, inl, inr, ⊎_elim, ℕ, ◌+◌, ◌*◌, ◌<◌, ◌≤◌, List, length, get_or, refl, ap, sym, ◌∙◌, subst, arith}
use Rattle.std.specs.Prelude.{slice_set}
use Rattle.std.proofs.lemmas.List.{length-map}
use Rattle.std.proofs.lemmas.List.Sums.{sum_by-set}
use Rattle.std.proofs.lemmas.Bool.{cases_lt}
use Rattle.core_events.specs.plain_state.declared.slot.Kind.{Kind}
use Rattle.core_events.specs.plain_state.declared.slot.Kind.TheVariants.{Strong, Weak, Disposal}
use Rattle.core_events.specs.plain_state.declared.slot.SlotId.{SlotId}
use Rattle.core_events.specs.plain_state.declared.slot.Stage.TheVariants.{Live, Ended}
use Rattle.core_events.specs.plain_state.Lawful.{IsCovered}
use Rattle.core_events.specs.plain_state.References.{over_seats, deferrals, snapshot_times}
use Rattle.core_events.specs.plain_state.Lists.{times, entry_times}
use Rattle.core_events.specs.plain_state.State.{PlainSeat, stage_at, with_seat, new_seat}
use Rattle.core_events.specs.declared.shape.Shape.{Shape}
use Rattle.core_events.specs.declared.view.CoreView.{CoreView}
use Rattle.core_events.specs.Views.{snapshots}
use Rattle.core_events.specs.Runs.{Core, view_at}
use Rattle.core_events.specs.Counts.{signs, guarding, waiting, total, places}
use Rattle.core_events.specs.Shows.{shows, show_seat}
use Rattle.core_law.specs.Sound.{Sound}
use Rattle.core_law.proofs.Kit.{entry_append, total_at}
use Rattle.core_law.proofs.Held.{valid_find, guard_le, total_le, held_named, disposal_stands}
use Rattle.core_law.proofs.Parts.{sound_good}
use Rattle.core_law.proofs.Put.{at_seat}
use Rattle.core_law.proofs.Steady.{named_in_range}
use Rattle.core_law.proofs.Bridge.{shown_stage, shown_seat, shown_places, shown_deferrals, shown_snapshots, total_find}
use Rattle.core_law.proofs.Lists.{total_plus}
use Rattle.core_law.proofs.Quiet.{same_plain}
use Rattle.core_law.proofs.Stages.{is_live, dying_is, ended_stage}

waits_retired : (k : Kind) (s : SlotId) (v : CoreView) → k ≢ Disposal
    → waiting k s v ≤ entry_times k s v.retired
waits_retired Strong s v ne = omega arith
waits_retired Weak s v ne = omega arith
waits_retired Disposal s v ne = absurd (ne refl)

seats_set : (f : PlainSeat → ℕ) (vs : List PlainSeat) (n : ℕ) (y : PlainSeat) → n < length vs
    → over_seats f (slice_set vs n y) + f (get_or vs n new_seat) ≡ over_seats f vs + f y
unfolding over_seats
seats_set f vs n y h = sum_by-set f vs n y new_seat h

module _ (z : Shape) (c : Core) (so : Sound z c) where
  snapped : (k : Kind) (s : SlotId) → 0 < snapshot_times k (shows z c) s
      → (n : ℕ) × (n < z.seats) × (0 < entry_times k s (snapshots (view_at c n)))
  snapped k s pos =
      let e = shown_snapshots z c k s in
      let sv = so.views in
      let f = total_find (λ (v : CoreView). entry_times k s (snapshots v)) c.views (omega arith) in
      let h = f.1 in (f.0, omega arith, f.2)

  -- an entry that is retired covers, and not only one that is owed
  retired_covers : (k : Kind) (s : SlotId) → k ≢ Disposal → 0 < snapshot_times k (shows z c) s
      → 0 < places k z c.words s + total (λ v. entry_times k s v.retired) c.views
  retired_covers k s ne pos =
      let f = snapped k s pos in
      let j = valid_find k s (view_at c f.0).notes f.2 in
      let l = j.1 in
      let four = (so.seats f.0 f.1).four in
      let g = (sound_good z c so).protected f.0 j.0 k s ne (at_seat z c f.0 so f.1) (omega arith) j.2 in
      let t = total_le (guarding (4 * f.0 + j.0) k s) (λ (v : CoreView). entry_times k s v.retired)
      c.views (λ v. guards v (4 * f.0 + j.0)) in
      omega arith
    where
      guards : (v : CoreView) (a : ℕ) → guarding a k s v ≤ entry_times k s v.retired
      guards v a = let x = guard_le a k s v in let y = waits_retired k s v ne in omega arith

  -- what is under a weak snapshot isn't destroyed
  pub stands : (n : ℕ) (s : SlotId) → n < z.seats
      → 0 < entry_times Disposal s (snapshots (view_at c n))
      → (stage_at (shows z c) s ≡ Live) ⊎ (stage_at (shows z c) s ≡ Ended)
  stands n s hn held =
      let hs = named_in_range z n (view_at c n) s (so.seats n hn)
      (held_named s (view_at c n) (omega arith)) in
      let is = shown_stage z c s hs in
      ⊎_elim
      (λ live. inl (is ∙ is_live z c so s hs live))
      (λ dies. let y = dying_is z c so s hs dies in
      inr (is ∙ ended_stage (signs z c s) y.bit y.claimers dies))
      (disposal_stands z c n s so hn held)

  -- a slot that is ripe for a seat is under no weak snapshot
  pub undisposed : (n : ℕ) (s : SlotId) → n < z.seats → 0 < times s (view_at c n).ripe
      → snapshot_times Disposal (shows z c) s ≡ 0
  undisposed n s hn ripe = ⊎_elim
      (λ (pos : 0 < snapshot_times Disposal (shows z c) s).
      let f = snapped Disposal s pos in
      let j = valid_find Disposal s (view_at c f.0).notes f.2 in
      let l = j.1 in
      let four = (so.seats f.0 f.1).four in
      let none = so.unripe f.0 j.0 s (at_seat z c f.0 so f.1) (omega arith) j.2 in
      let t = total_at (λ (v : CoreView). times s v.ripe) c.views n (at_seat z c n so hn) in
      absurd (omega arith))
      (λ (none : snapshot_times Disposal (shows z c) s ≤ 0). omega arith)
      (cases_lt 0 (snapshot_times Disposal (shows z c) s))

  -- it is covered too where the deferred entries of one seat change, but for those that are retired
  module _ (n : ℕ) (y : PlainSeat) (hn : n < z.seats)
      (same : y.snapshots ≡ snapshots (view_at c n))
      (more : (k : Kind) (s : SlotId)
      → entry_times k s (view_at c n).retired ≤ entry_times k s y.deferred) where
    there : n < length (shows z c).seats
    there = let l = length-map c.views show_seat in let a = at_seat z c n so hn in omega arith

    deferred_after : (k : Kind) (s : SlotId) → total (λ v. entry_times k s v.retired) c.views
        ≤ deferrals k (with_seat (shows z c) n y) s
    deferred_after k s =
        let a = seats_set (λ (v : PlainSeat). entry_times k s v.deferred) (shows z c).seats n y there in
        let is = ap (λ (v : PlainSeat). entry_times k s v.deferred) (shown_seat z c n (at_seat z c n so hn)) in
        let b = shown_deferrals z c k s in
        let p = total_plus (λ (v : CoreView). entry_times k s v.owed)
        (λ (v : CoreView). entry_times k s v.retired) c.views in
        let o = total_at (λ (v : CoreView). entry_times k s v.owed) c.views n (at_seat z c n so hn) in
        let e = entry_append k s (view_at c n).owed (view_at c n).retired in
        let m = more k s in omega arith

    snapshots_after : (k : Kind) (s : SlotId)
        → snapshot_times k (with_seat (shows z c) n y) s ≡ snapshot_times k (shows z c) s
    snapshots_after k s =
        let a = seats_set (λ (v : PlainSeat). entry_times k s v.snapshots) (shows z c).seats n y there in
        let is = ap (λ (v : PlainSeat). entry_times k s v.snapshots) (shown_seat z c n (at_seat z c n so hn)) in
        let e = ap (entry_times k s) same in omega arith

    pub covered_after : IsCovered (with_seat (shows z c) n y)
    covered_after Strong s pos =
        let e = snapshots_after Strong s in
        let r = retired_covers Strong s (λ f. cc (f)) (omega arith) in
        let p = shown_places z c Strong s in
        let d = deferred_after Strong s in omega arith
    covered_after Weak s pos =
        let e = snapshots_after Weak s in
        let r = retired_covers Weak s (λ f. cc (f)) (omega arith) in
        let p = shown_places z c Weak s in
        let d = deferred_after Weak s in omega arith
    covered_after Disposal s pos =
        let e = snapshots_after Disposal s in
        let f = snapped Disposal s (omega arith) in stands f.0 s f.1 f.2

  pub covered : IsCovered (shows z c)
  covered =
      let one = so.shape.0 in
      let root = show_seat (view_at c 0) in
      subst IsCovered
      (same_plain (shows z c) (with_seat (shows z c) 0 root) 0 root refl
      (sym (shown_seat z c 0 (at_seat z c 0 so (omega arith)))))
      (covered_after 0 root (omega arith) refl
      (λ k s. let a = entry_append k s (view_at c 0).owed (view_at c 0).retired in omega arith))
