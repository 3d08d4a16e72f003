-- What a leave shows.
use Rattle.std.proofs.Common.{◌≡◌, ◌≢◌, ℕ, ◌<◌, true, List, [], ◌++◌, length, set, map, refl, ap, sym, subst, ◌∙◌, arith}
use Rattle.std.proofs.lemmas.List.{append-nil, length-map, map-append, map-set, set-get_or}
use Rattle.core_law.specs.plain_state.declared.act.PlainAct.TheVariants as plain
use Rattle.core_law.specs.plain_state.declared.slot.SlotId.{SlotId}
use Rattle.core_law.specs.plain_state.Lists.{Entry, times}
use Rattle.core_law.specs.plain_state.State.{Plain, PlainSeat, seat_at}
use Rattle.core_law.specs.plain_state.Steps.{Does, Leaves}
use Rattle.core_law.proofs.Frames.{plain_eq, slot_eq}
use Rattle.core_law.proofs.Kit.{times_append, times_none}
use Rattle.core_law.proofs.Lists.{each_same}
use Rattle.epoch_core.specs.declared.act.Dated.{Dated}
use Rattle.epoch_core.specs.declared.act.EpochAct.TheVariants as act
use Rattle.epoch_core.specs.declared.outcome.EpochOutcome.TheVariants as outcome
use Rattle.epoch_core.specs.declared.shape.EpochShape.{EpochShape}
use Rattle.epoch_core.specs.declared.view.EpochView.{EpochView}
use Rattle.epoch_core.specs.Steps.{CanLeave, noted}
use Rattle.epoch_core.specs.Runs.{Core, Enabled, after, left_behind, taken_over, view_at}
use Rattle.epoch_core.specs.Counts.{filling}
use Rattle.epoch_core.specs.Shows.{is_marked, shows, show_seat, show_slot}
use Rattle.epoch_core.specs.Sound.{Sound}
use Rattle.epoch_core.proofs.Bridge.{shown_seat}
use Rattle.epoch_core.proofs.Leaves.{total_two}
use Rattle.epoch_core.proofs.Put.{at_seat}
use Rattle.epoch_core.proofs.ShownFrames.{stage_eq}
use Rattle.epoch_core.proofs.ShownQuiet.{strong_of}
use Rattle.epoch_core.proofs.ShownRegions.{ShowsBare, bare_idle}

abbrev listed : List Dated → List Entry
listed ds = map (λ (d : Dated). strong_of d.slot) ds

joined_entries : (a b : List Dated) (e f : List Entry) → e ≡ [] → f ≡ []
    → listed (a ++ b) ++ e ≡ (listed a ++ e) ++ (listed b ++ f)
joined_entries a b e f none none' =
    rw (none, none') (append-nil (listed (a ++ b)) ∙ map-append (λ (d : Dated). strong_of d.slot) a b
    ∙ sym (ap (λ (xs : List Entry). xs ++ (listed b ++ [])) (append-nil (listed a))
    ∙ ap (λ (xs : List Entry). listed a ++ xs) (append-nil (listed b))))

module _ (z : EpochShape) (c : Core) (so : Sound z c) (j : ℕ) (other : j ≢ 0) (hj : j < z.seats)
    (root_can : CanLeave (view_at c 0)) (seat_can : CanLeave (view_at c j)) where
  abbrev root : EpochView
  root = view_at c 0

  abbrev seat : EpochView
  seat = view_at c j

  abbrev joined : EpochView
  joined = noted (act.Leave j) outcome.Plain (taken_over (view_at c 0) (view_at c j))

  abbrev gone : EpochView
  gone = left_behind (view_at c j)

  abbrev left : Core
  left = record { words = c.words; views = set (set c.views 0 joined) j gone; opened = c.opened }

  at0 : 0 < length c.views
  at0 = let e = so.views in omega arith

  atj : j < length c.views
  atj = at_seat z c j so hj

  bare_root : ShowsBare root.phase
  bare_root = bare_idle root.phase root_can.0.0

  bare_seat : ShowsBare seat.phase
  bare_seat = bare_idle seat.phase seat_can.0.0

  abbrev joined_seat : PlainSeat
  joined_seat = record (show_seat root) {
    owned = root.owned ++ seat.owned;
    deferred = (show_seat root).deferred ++ (show_seat seat).deferred;
    dying = root.dying ++ seat.dying;
  }

  abbrev gone_seat : PlainSeat
  gone_seat = record (show_seat seat) { owned = []; weaks = []; deferred = []; dying = []; left = true }

  root_shown : show_seat joined ≡ joined_seat
  root_shown = ap (λ (es : List Entry). record (show_seat root) {
    owned = root.owned ++ seat.owned;
    deferred = es;
    dying = root.dying ++ seat.dying;
  }) (joined_entries root.pending seat.pending _ _ bare_root.undated bare_seat.undated)

  seat_shown : show_seat gone ≡ gone_seat
  seat_shown = ap (λ (es : List Entry). record gone_seat { deferred = es }) bare_seat.undated

  slots_shown : (x : SlotId) → show_slot z left x ≡ show_slot z c x
  slots_shown x =
      let f = total_two (λ (u : EpochView). filling x u.phase) c.views j joined gone at0 atj other refl in
      let d = total_two (λ (u : EpochView). times x u.dying) c.views j joined gone at0 atj other
      (let a = times_append x root.dying seat.dying in let e = times_none x in omega arith) in
      let m = total_two (λ (u : EpochView). times x u.made) c.views j joined gone at0 atj other
      (let a = times_append x root.made seat.made in let e = times_none x in omega arith) in
      let st = stage_eq _ _ _ _ _ _ refl f d in
      slot_eq _ _ _ _ _ _ _ _ _ _ _ _ _ _ st (ap is_marked st) m refl refl refl refl

  -- the state where seat 0 had r and seat j had s
  abbrev left_with : PlainSeat → PlainSeat → Plain
  left_with r s = record (shows z c) {
    seats = set
        (set (shows z c).seats 0 (record r {
          owned = r.owned ++ s.owned;
          weaks = r.weaks ++ s.weaks;
          deferred = r.deferred ++ s.deferred;
          dying = r.dying ++ s.dying;
        }))
        j (record s { owned = []; weaks = []; deferred = []; dying = []; left = true });
  }

  leaves : Leaves (shows z c) j (shows z left)
  leaves =
      plain_eq (left_with (show_seat root) (show_seat seat)) (shows z left)
      (map-set show_seat (set c.views 0 joined) j gone
      ∙ ap (λ (vs : List PlainSeat). set vs j (show_seat gone)) (map-set show_seat c.views 0 joined)
      ∙ ap (λ (y : PlainSeat). set (set (map show_seat c.views) 0 y) j (show_seat gone)) root_shown
      ∙ ap (λ (y : PlainSeat). set (set (map show_seat c.views) 0 joined_seat) j y) seat_shown)
      refl refl (each_same z.slots _ _ (λ x h. slots_shown (record { 0 = x }))) refl
      ∙ (ap (λ (r : PlainSeat). left_with r (show_seat seat)) (sym (shown_seat z c 0 at0))
      ∙ ap (λ (s : PlainSeat). left_with (seat_at (shows z c) 0) s) (sym (shown_seat z c j atj)))

  pub left_shown : Does (shows z c) 0 (plain.Leave j) 0 (shows z left)
  left_shown =
      let l = length-map c.views show_seat in
      let is0 = shown_seat z c 0 at0 in
      let isj = shown_seat z c j atj in
      let a = at0 in
      let b = atj in
      let none = (so.seats j hj).outside seat_can.1 in (
        (omega arith, ap (λ (y : PlainSeat). y.left) is0 ∙ root_can.0.1),
        (
          refl,
          other,
          omega arith,
          ap (λ (y : PlainSeat). y.left) isj ∙ seat_can.0.1,
          ap (λ (y : PlainSeat). y.snapshots) isj ∙ ap (map (λ (s : SlotId). strong_of s)) none,
          ap (λ (y : PlainSeat). y.filling) is0 ∙ bare_root.filled,
          ap (λ (y : PlainSeat). y.filling) isj ∙ bare_seat.filled,
          refl,
          leaves,
        ),
      )

pub leave_shows : (z : EpochShape) (c : Core) (n j : ℕ) (so : Sound z c) → Enabled z c n (act.Leave j)
    → Does (shows z c) n (plain.Leave j) 0 (shows z (after z c n (act.Leave j)))
leave_shows z c n j so on =
    let may = on.1 in
    let e = so.views in
    let h = on.0 in
    let root : n ≡ 0 = sym (so.seats n (omega arith)).number ∙ may.0 in
    rw (set-get_or c.words 0 0)
    (subst (λ (m : ℕ). Does (shows z c) m (plain.Leave j) 0 (shows z (record {
      words = c.words;
      views = set (set c.views 0 (noted (act.Leave j) outcome.Plain (taken_over (view_at c 0) (view_at c j))))
          j (left_behind (view_at c j));
      opened = c.opened;
    }))) (sym root)
    (left_shown z c so j may.1 may.2 (subst (λ (m : ℕ). CanLeave (view_at c m)) root may.3) on.2))
