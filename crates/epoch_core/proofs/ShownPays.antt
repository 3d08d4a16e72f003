-- What a drop and a payment show: one step, or two where the object ended.
use Rattle.std.proofs.Common.{◌≡◌, ◌≢◌, ℕ, ◌+◌, ◌<◌, Bool, true, false, List, [], ◌∷◌, ◌++◌, set, map, refl, ap, sym, ◌∙◌, arith, append_assoc}
use Rattle.std.specs.Prelude.{◌==◌, if◌then◌else◌}
use Rattle.std.proofs.lemmas.Bool.Decides.{nat_tests}
use Rattle.core_law.specs.plain_state.declared.act.PlainAct.TheVariants as plain
use Rattle.core_law.specs.plain_state.declared.slot.Kind.TheVariants.{Strong, Weak, Disposal}
use Rattle.core_law.specs.plain_state.declared.slot.SlotId.{SlotId}
use Rattle.core_law.specs.plain_state.Lawful.{IsCovered}
use Rattle.core_law.specs.plain_state.Lists.{Entry, Loses, times, entry_times}
use Rattle.core_law.specs.plain_state.State.{PlainSeat, with_seat}
use Rattle.core_law.specs.plain_state.Steps.{Row}
use Rattle.epoch_core.specs.Good.{stage}
use Rattle.core_law.specs.plain_state.declared.slot.Stage.TheVariants.{Live}
use Rattle.core_law.specs.core_events.Steps.{minus_one}
use Rattle.core_law.specs.core_events.Views.{without}
use Rattle.core_law.proofs.Does as does
use Rattle.core_law.proofs.Kit.{by_test, one_other, one_same, times_push}
use Rattle.core_law.proofs.Losing.{loses_without}
use Rattle.epoch_core.specs.declared.act.Dated.{Dated}
use Rattle.epoch_core.specs.declared.act.EpochAct.TheVariants as act
use Rattle.epoch_core.specs.declared.shape.EpochShape.{EpochShape}
use Rattle.epoch_core.specs.declared.view.EpochView.{EpochView}
use Rattle.epoch_core.specs.Words.{count_at, free_word}
use Rattle.epoch_core.specs.Views.{Holds}
use Rattle.epoch_core.specs.Steps.{dated_times, is_dated, without_dated}
use Rattle.epoch_core.specs.Runs.{Core, Enabled, after, opened_at, view_at}
use Rattle.epoch_core.specs.Counts.{count, dying_times, guarding, pending_times, refs, undated}
use Rattle.epoch_core.specs.Shows.{shows, show_seat, undated_entry}
use Rattle.epoch_core.specs.ShownSteps.{Chain, ends_with, step}
use Rattle.epoch_core.specs.Slots.{numbers}
use Rattle.epoch_core.specs.Sound.{Sound}
use Rattle.epoch_core.proofs.Bridge.{deferred_times, other_snapshots, shown_deferrals, shown_places, shown_snapshots, total_find}
use Rattle.epoch_core.specs.Steps.{May}
use Rattle.epoch_core.proofs.Giving.{paid, paid_having}
use Rattle.epoch_core.proofs.Counting.{with_having}
use Rattle.epoch_core.proofs.Held.{held_refs, listed_refs, live_of, named_in_range, total_le}
use Rattle.epoch_core.proofs.Keeps.{step_keeps}
use Rattle.epoch_core.proofs.Kit.{dated_cons, dated_eq, dated_none, pending_some, pending_without, same_entry}
use Rattle.epoch_core.proofs.Lawful.{guard_deferred}
use Rattle.epoch_core.proofs.Parts.{by}
use Rattle.epoch_core.proofs.Put.{adds_fit, moves, stepped}
use Rattle.epoch_core.proofs.Quiet.{seen_inside}
use Rattle.epoch_core.proofs.ShownCounts.{count_seat}
use Rattle.epoch_core.proofs.ShownDrops.{dropped_last, gives_last, gives_left, none_with}
use Rattle.epoch_core.proofs.ShownFrames.{same_view}
use Rattle.epoch_core.proofs.ShownKit.{held_live, held_there, is_shown, seat_listed, seats_set}

-- an entry that is taken out of a list
loses_dated : (d : Dated) (xs : List Dated) → 0 < dated_times d xs
    → Loses {A = Entry} (map (λ (x : Dated). (Strong, x.slot)) xs) (Strong, d.slot)
    (map (λ (x : Dated). (Strong, x.slot)) (without_dated d xs))
loses_dated d [] h = let e = dated_none d in absurd (omega arith)
loses_dated d (x ∷ xs) h = go (is_dated d x) refl (loses_dated d xs)
  where
    go : (b : Bool) → is_dated d x ≡ b
        → (0 < dated_times d xs → Loses {A = Entry} (map (λ (x : Dated). (Strong, x.slot)) xs) (Strong, d.slot)
        (map (λ (x : Dated). (Strong, x.slot)) (without_dated d xs)))
        → Loses {A = Entry} (map (λ (x : Dated). (Strong, x.slot)) (x ∷ xs)) (Strong, d.slot)
        (map (λ (x : Dated). (Strong, x.slot)) (if b then xs else x ∷ without_dated d xs))
    go true is more = (
      [],
      map (λ (x : Dated). (Strong, x.slot)) xs,
      ap (λ (y : Dated). (Strong, y.slot) ∷ map (λ (x : Dated). (Strong, x.slot)) xs) (dated_eq d x is),
      refl,
    )
    go false is more =
        let c = dated_cons d x xs in
        let o : same_entry d x ≡ 0 = rw is refl in
        let r = more (omega arith) in (
          (Strong, x.slot) ∷ r.0,
          r.1,
          ap (λ (ys : List Entry). (Strong, x.slot) ∷ ys) r.2,
          ap (λ (ys : List Entry). (Strong, x.slot) ∷ ys) r.3,
        )

-- and out of the front of two that are joined
loses_joined : (e : Entry) (xs ys more : List Entry) → Loses xs e ys → Loses (xs ++ more) e (ys ++ more)
loses_joined e xs ys more l = (
  l.0,
  l.1 ++ more,
  ap (λ (zs : List Entry). zs ++ more) l.2 ∙ append_assoc l.0 (e ∷ l.1) more,
  ap (λ (zs : List Entry). zs ++ more) l.3 ∙ append_assoc l.0 l.1 more,
)

module _ (z : EpochShape) (c : Core) (n : ℕ) (so : Sound z c) (hn : n < z.seats) where
  abbrev v : EpochView
  v = view_at c n

  -- a count that isn't 1 goes on to be no free slot's
  still_counts : (s : SlotId) → s.0 < z.slots → 0 < refs z c s → count z c s ≢ 1 → minus_one (count z c s) ≢ free_word
  still_counts s hs pos ne =
      let m = live_of _ (numbers z c s) (so.slots s hs) pos in
      let fit = adds_fit z c so in
      let few = m.few in
      let wd = m.word in
      let some = m.some in grind (arith, nat_tests)

  pub drop_shows : (s : SlotId) → Enabled z c n (act.Drop s)
      → Chain n (shows z c) (step (plain.Drop s) ∷ ends_with (count z c s) s)
      (shows z (after z c n (act.Drop s)))
  drop_shows s on =
      let own = on.1.1 in
      let hold : Holds v s = omega arith in
      let hs = held_there z c n so hn s hold in
      by_test (count z c s == 1)
      (λ is.
      let e : count z c s ≡ 1 = grind (arith, nat_tests) in
      rw (is, e) (dropped_last z c n so hn s _ on.1.0.0 on.1.0.1 on.1.1 e
      (rw (is, e) at (step_keeps z c n (act.Drop s) so on))))
      (λ not.
      let ne : count z c s ≢ 1 = grind (arith, nat_tests) in
      rw not (gives_left z c n so hn (plain.Drop s) (record (show_seat v) { owned = without s v.owned }) _ s
      (minus_one (count z c s)) on.1.0.1
      (does.does_drop (shows z c) _ n (show_seat v) (is_shown z c n so hn) s (without s v.owned)
      (loses_without s v.owned own) refl)
      (count_seat z c n so hn s _ (minus_one (count z c s)) hs (held_live z c n so hn s hold)
      (still_counts s hs (held_refs z c n s so hn hold) ne) (λ x. same_view x v _ refl refl refl))))

  -- PAYMENTS
  abbrev less : Dated → PlainSeat
  less d = show_seat (record v { pending = without_dated d v.pending })

  -- an entry that is due guards nothing, so what regions have seen is covered without it
  stays_covered : (d : Dated) → May z (act.Pay d) v → IsCovered (with_seat (shows z c) n (less d))
  stays_covered d may Strong s pos =
      let u : EpochView = with_having v (paid_having z c n so hn d v.trail) in
      let is = is_shown z c n so hn in
      let snaps = seats_set (λ (t : PlainSeat). entry_times Strong s t.snapshots) (shows z c).seats n (less d) (seat_listed z c n so hn) in
      let same = ap (λ (t : PlainSeat). entry_times Strong s t.snapshots) is in
      let e = shown_snapshots z c s in
      let f = total_find (λ (x : EpochView). times s x.seen) c.views (omega arith) in
      let h = f.1 in
      let sv = so.views in
      let w = so.seen f.0 s (omega arith) f.2 in
      let i = seen_inside z f.0 (view_at c f.0) s (so.seats f.0 (omega arith)) f.2 in
      let r = (so.regions f.0 (omega arith)).stored i.0 in
      let g = (paid z c n so hn d v.trail may).guards (opened_at c f.0) s r.1 r.2 in
      let mg = moves z c n u (guarding (opened_at c f.0) s) so hn in
      let mg0 = mg.0 in
      let md = moves z c n u (λ (x : EpochView). pending_times s x.pending + undated s x.phase) so hn in
      let md0 = md.0 in
      let le = total_le (guarding (opened_at c f.0) s)
      (λ (x : EpochView). pending_times s x.pending + undated s x.phase) (set c.views n u)
      (guard_deferred (opened_at c f.0) s) in
      let defs = seats_set (λ (t : PlainSeat). entry_times Strong s t.deferred) (shows z c).seats n (less d) (seat_listed z c n so hn) in
      let was = ap (λ (t : PlainSeat). entry_times Strong s t.deferred) is in
      let a = deferred_times s v in
      let b = deferred_times s u in
      let k = shown_deferrals z c s in
      let p = shown_places z c s in omega arith
  stays_covered d may Weak s pos =
      let snaps = seats_set (λ (t : PlainSeat). entry_times Weak s t.snapshots) (shows z c).seats n (less d) (seat_listed z c n so hn) in
      let same = ap (λ (t : PlainSeat). entry_times Weak s t.snapshots) (is_shown z c n so hn) in
      let o = (other_snapshots z c s).0 in absurd (omega arith)
  stays_covered d may Disposal s pos =
      let snaps = seats_set (λ (t : PlainSeat). entry_times Disposal s t.snapshots) (shows z c).seats n (less d) (seat_listed z c n so hn) in
      let same = ap (λ (t : PlainSeat). entry_times Disposal s t.snapshots) (is_shown z c n so hn) in
      let o = (other_snapshots z c s).1 in absurd (omega arith)

  ejects : (d : Dated) → May z (act.Pay d) v
      → Row (shows z c) n (plain.Eject Strong d.slot) 0 (with_seat (shows z c) n (less d))
  ejects d may =
      does.does_eject (shows z c) _ n (show_seat v) (is_shown z c n so hn) Strong d.slot (less d).deferred
      (loses_joined (Strong, d.slot) _ _ (undated_entry v.phase) (loses_dated d v.pending may.1)) refl
      (stays_covered d may)

  -- where s is put into the seat's dying list, s is dying
  now_dies : (s : SlotId) (u : EpochView) (ws : List ℕ) → u.dying ≡ v.dying ++ s ∷ []
      → 0 < dying_times (stepped c n u ws c.opened) s
  now_dies s u ws is =
      let o = one_same s s refl in
      let push = times_push s s v.dying in
      let e = ap (times s) is in
      let m = moves z c n u (λ (x : EpochView). times s x.dying) so hn in
      let m0 = m.0 in omega arith

  pub pay_shows : (d : Dated) → Enabled z c n (act.Pay d)
      → Chain n (shows z c)
      (step (plain.Eject Strong d.slot) ∷ ends_with (count z c d.slot) d.slot)
      (shows z (after z c n (act.Pay d)))
  pay_shows d on =
      let may = on.1 in
      let s = d.slot in
      let o = one_same s s refl in
      let some = pending_some s d v.pending may.1 in
      let hs = named_in_range z n v s (so.seats n hn) (omega arith) in
      let refs_le = listed_refs z c n s so hn in
      let live : stage z c s ≡ Live = (by z c so s hs).live (omega arith) in
      let m = live_of _ (numbers z c s) (so.slots s hs) (omega arith) in
      let gone = pending_without s d v.pending may.1 in
      by_test (count z c s == 1)
      (λ is.
      let e : count z c s ≡ 1 = grind (arith, nat_tests) in
      let u : EpochView = record v { pending = without_dated d v.pending } in
      let a = deferred_times s v in
      let b = deferred_times s u in
      rw (is, e) (gives_last z c n so hn (plain.Eject Strong s) s (less d) _ may.0.1 hs live (ejects d may)
      may.0.1 (none_with z c n so hn (less d) s e m.word (omega arith)) refl
      (rw (is, e) at (step_keeps z c n (act.Pay d) so on))
      (λ x ne.
      let no = one_other x s (λ e'. ne (sym e')) in
      let p' = times_push x s v.dying in record { fill = refl; dying = omega arith; made = refl })
      refl (now_dies s _ (set c.words (count_at z s) 0) refl)))
      (λ not.
      let ne : count z c s ≢ 1 = grind (arith, nat_tests) in
      rw not (gives_left z c n so hn (plain.Eject Strong s) (less d) _ s
      (minus_one (count z c s)) may.0.1 (ejects d may)
      (count_seat z c n so hn s _ (minus_one (count z c s)) hs live
      (still_counts s hs (omega arith) ne) (λ x. same_view x v _ refl refl refl))))
