-- A leave shows a plain step.
use Rattle.std.proofs.Common.{◌≡◌, ◌≢◌, ℕ, zero, suc, ◌<◌, true, List, [], ◌∷◌, ◌++◌, length, get_or, set, refl, ap, sym, ◌∙◌, subst, arith}
use Rattle.std.proofs.lemmas.List.{map-set, length-map, set-get_or}
use Rattle.core_events.specs.plain_state.declared.slot.SlotId.{SlotId}
use Rattle.core_events.specs.plain_state.Lists.{times}
use Rattle.core_events.specs.plain_state.State.{PlainSeat, seat_at}
use Rattle.core_events.specs.plain_state.Steps.{Leaves}
use Rattle.core_events.specs.declared.act.Act.TheVariants as act
use Rattle.core_events.specs.declared.outcome.Outcome.TheVariants as outcome
use Rattle.core_events.specs.declared.shape.Shape.{Shape}
use Rattle.core_events.specs.declared.view.CoreView.{CoreView}
use Rattle.core_events.specs.declared.view.Note.{Note}
use Rattle.core_events.specs.declared.view.Note.TheVariants as note
use Rattle.core_events.specs.Views.{valid_of}
use Rattle.core_events.specs.Steps.{CanLeave, noted}
use Rattle.core_events.specs.Runs.{Core, Enabled, view_at, taken_over, left_behind, views_after}
use Rattle.core_events.specs.Counts.{signs, baring, filling}
use Rattle.core_events.specs.Shows.{shows, show_seat, show_slot, filled}
use Rattle.core_law.specs.Sound.{Sound}
use Rattle.core_law.proofs.Joined.{parts, two}
use Rattle.core_law.proofs.Put.{at_seat}
use Rattle.core_law.proofs.Bridge.{shown_seat}
use Rattle.core_law.proofs.Frames.{plain_eq, slot_made}
use Rattle.core_law.proofs.Stages.{stage_same}
use Rattle.core_law.proofs.Lists.{each_same}
use Rattle.core_law.proofs.Does.{ShowsRow}

-- where no note is valid there is no snapshot
none_valid : (ns : List Note) → ((j : ℕ) → get_or ns j note.Idle ≡ note.Idle) → valid_of ns ≡ []
none_valid [] idle = refl
none_valid (note.Idle ∷ ns) idle = none_valid ns (λ j. idle (suc j))
none_valid (note.Announced k s ∷ ns) idle = none_valid ns (λ j. idle (suc j))
none_valid (note.Valid k s ∷ ns) idle = absurd (cc (idle zero))

module _ (z : Shape) (c : Core) (so : Sound z c) (j : ℕ) (other : j ≢ 0) (hj : j < z.seats)
    (can0 : CanLeave (view_at c 0)) (canj : CanLeave (view_at c j)) where
  abbrev root' : CoreView
  root' = noted (act.Leave j) outcome.Plain (taken_over (view_at c 0) (view_at c j))

  abbrev gone' : CoreView
  gone' = left_behind (view_at c j)

  abbrev d : Core
  d = record {
    words = c.words;
    views = set (set c.views 0
        (noted (act.Leave j) outcome.Plain (taken_over (view_at c 0) (view_at c j)))) j
        (left_behind (view_at c j));
  }

  first : 0 < length c.views
  first = let s = so.shape.0 in at_seat z c 0 so (omega arith)

  second : j < length c.views
  second = at_seat z c j so hj

  slot_stays : (x : SlotId) → show_slot z d x ≡ show_slot z c x
  slot_stays x =
      let p = parts (view_at c 0) (view_at c j) x in
      let n = p.none in
      let a = p.dying in
      let b = p.made in
      let f = two z c so j other hj (λ (u : CoreView). baring x u.phase) refl in
      let i = two z c so j other hj (λ (u : CoreView). filling x u.phase) refl in
      let g = two z c so j other hj (λ (u : CoreView). times x u.dying) (omega arith) in
      let m = two z c so j other hj (λ (u : CoreView). times x u.made) (omega arith) in
      slot_made z c d x _ _ _
      (record { fields = λ k l. refl; weak_field = refl; payload = λ k l. refl })
      (stage_same (signs z c x) (signs z d x) refl (omega arith) g refl) refl m

  root_shown : show_seat root' ≡ record (seat_at (shows z c) 0) {
    owned = (seat_at (shows z c) 0).owned ++ (seat_at (shows z c) j).owned;
    weaks = (seat_at (shows z c) 0).weaks ++ (seat_at (shows z c) j).weaks;
    deferred = (seat_at (shows z c) 0).deferred ++ (seat_at (shows z c) j).deferred;
    dying = (seat_at (shows z c) 0).dying ++ (seat_at (shows z c) j).dying;
  }
  root_shown = rw (shown_seat z c 0 first, shown_seat z c j second) (rw (can0.1, canj.1) refl)

  left_shown : show_seat gone' ≡ record (seat_at (shows z c) j)
      { owned = []; weaks = []; deferred = []; dying = []; left = true }
  left_shown = rw (shown_seat z c j second) (rw canj.1 refl)

  pub leaves : Leaves (shows z c) j (shows z d)
  leaves =
      plain_eq _ (shows z d)
      (map-set show_seat (set c.views 0 root') j gone'
      ∙ (ap (λ (vs : List PlainSeat). set vs j (show_seat gone'))
      (map-set show_seat c.views 0 root')
      ∙ cc (root_shown, left_shown)))
      refl refl
      (each_same z.slots _ _ (λ x l. slot_stays (record { 0 = x }))) refl

pub leave_shows : (z : Shape) (c : Core) (n j : ℕ) → Sound z c → n < z.seats
    → Enabled z c n (act.Leave j) → ShowsRow z c n (act.Leave j)
leave_shows z c n j so hn on =
    let number = (so.seats n hn).number in
    let at = on.1.0 in
    let root : n ≡ 0 = omega arith in
    let can0 = subst (λ (m : ℕ). CanLeave (view_at c m)) root on.1.3 in
    let s = so.shape.0 in
    let first = at_seat z c 0 so (omega arith) in
    let second = at_seat z c j so on.1.2 in
    let is = shown_seat z c j second in
    let l = length-map c.views show_seat in (
      root,
      on.1.1,
      omega arith,
      ap (λ (y : PlainSeat). y.left) is ∙ on.2.0.1,
      ap (λ (y : PlainSeat). y.snapshots) is ∙ none_valid (view_at c j).notes on.2.2,
      ap (λ (y : PlainSeat). y.filling) (shown_seat z c 0 first) ∙ ap filled can0.0.0,
      ap (λ (y : PlainSeat). y.filling) is ∙ ap filled on.2.0.0,
      refl,
      subst (λ (ws : List ℕ). Leaves (shows z c) j (shows z
          (record { words = ws; views = views_after z c n (act.Leave j) })))
          (sym (set-get_or c.words 0 0))
          (leaves z c so j on.1.1 on.1.2 can0 on.2),
    )
