-- What tidies a heap tidies it also where the seat has no handles any more.
use Rattle.std.proofs.Common.{◌≡◌, ⊎_elim, inl, inr, ℕ, ◌<◌, ◌≤◌, true, false, List, [], ◌∷◌, ◌++◌, length, refl, ap, sym, ◌∙◌, subst, arith, None}
use Rattle.std.proofs.lemmas.List.{length-set, set-set}
use Rattle.script_desk.specs.plain_state.declared.act.EventPlace.{EventPlace}
use Rattle.script_desk.specs.plain_state.declared.act.EventPlace.TheVariants.{Cell, Field, WeakCell, WeakField}
use Rattle.script_desk.specs.plain_state.declared.act.PlainAct.{PlainAct}
use Rattle.script_desk.specs.plain_state.declared.act.PlainAct.TheVariants as act
use Rattle.script_desk.specs.plain_state.declared.slot.Kind.{Kind}
use Rattle.script_desk.specs.plain_state.declared.slot.Kind.TheVariants.{Strong, Weak, Disposal}
use Rattle.script_desk.specs.plain_state.declared.slot.SlotId.{SlotId}
use Rattle.script_desk.specs.plain_state.declared.slot.Stage.TheVariants.{Ended, Husk}
use Rattle.script_desk.specs.plain_state.Lawful.{Covers, IsCovered}
use Rattle.script_desk.specs.plain_state.Lists.{Loses, entry_times, times}
use Rattle.script_desk.specs.plain_state.Places.{CanDispose, field_of, with_field}
use Rattle.script_desk.specs.plain_state.References.{deferrals, over_seats, snapshot_times, strong_refs, weak_refs}
use Rattle.script_desk.specs.plain_state.State.{Plain, PlainSeat, seat_at, slot_at, with_seat, with_slot}
use Rattle.script_desk.specs.plain_state.Steps.{Does, IsReordering, IsSeat, joined}
use Rattle.script_desk.proofs.Below.plain_state_Kit.{entry_none, seats_set, times_none}
use Rattle.script_desk.specs.plain_settling.Settling.{IsSurplus, Tidies, TidiesBy, TidiesTo}
use Rattle.script_desk.specs.declared.handle.Handle.{Handle}
use Rattle.script_desk.specs.declared.handle.Handle.TheVariants.{Strong as StrongHand, Weak as WeakHand, Snapshot}
use Rattle.script_desk.specs.Desks.{without_handles}
use Rattle.script_desk.specs.Holding.{giving}
use Rattle.script_desk.proofs.Grows.{seat_written}

-- the seat without its handles
abbrev bare : PlainSeat → PlainSeat
bare v = record v { owned = []; weaks = []; snapshots = [] }

-- a seat that is written, without its handles
bare_with : (p : Plain) (w : PlainSeat) → 0 < length p.seats
    → without_handles (with_seat p 0 w) ≡ with_seat p 0 (bare w)
bare_with p w there =
    ap (λ (v : PlainSeat). with_seat (with_seat p 0 w) 0 (bare v)) (seat_written p w there)
    ∙ ap (λ (vs : List PlainSeat). record p { seats = vs }) (set-set p.seats 0 w (bare w))

-- one handle fewer is none more to give up
pub bare_given : (p q : Plain) (h : Handle) → Does p 0 (giving h) 0 q
    → without_handles q ≡ without_handles p
bare_given p q (StrongHand s) (here, (xs, l, z, e)) =
    ap without_handles e ∙ bare_with p (record (seat_at p 0) { owned = xs }) here.0
bare_given p q (WeakHand s) (here, (xs, l, z, e)) =
    ap without_handles e ∙ bare_with p (record (seat_at p 0) { weaks = xs }) here.0
bare_given p q (Snapshot (s, true)) (here, (xs, l, z, e)) =
    ap without_handles e ∙ bare_with p (record (seat_at p 0) { owned = xs }) here.0
bare_given p q (Snapshot (s, false)) (here, (es, l, z, e)) =
    ap without_handles e ∙ bare_with p (record (seat_at p 0) { snapshots = es }) here.0

module _ (p : Plain) (there : 0 < length p.seats) where
  bare_seat : seat_at (without_handles p) 0 ≡ bare (seat_at p 0)
  bare_seat = seat_written p (bare (seat_at p 0)) there

  -- a change of the seat that leaves its handles
  changed : (f : PlainSeat → PlainSeat) → ((v : PlainSeat) → bare (f v) ≡ f (bare v))
      → without_handles (with_seat p 0 (f (seat_at p 0)))
      ≡ with_seat (without_handles p) 0 (f (seat_at (without_handles p) 0))
  changed f leaves =
      let v : PlainSeat = seat_at p 0 in
      bare_with p (f v) there ∙ ap (with_seat p 0) (leaves v)
      ∙ sym
      (ap (λ (w : PlainSeat). with_seat (without_handles p) 0 (f w)) bare_seat
      ∙ ap (λ (vs : List PlainSeat). record p { seats = vs })
      (set-set p.seats 0 (bare v) (f (bare v))))

  -- what is read off the other lists stays
  same_over : (f : PlainSeat → ℕ) → f (bare (seat_at p 0)) ≡ f (seat_at p 0)
      → over_seats f (without_handles p).seats ≡ over_seats f p.seats
  same_over f same =
      let all = seats_set f p.seats 0 (bare (seat_at p 0)) there in omega arith

  -- and what is read off those of the handles isn't more
  less_over : (f : PlainSeat → ℕ) → f (bare (seat_at p 0)) ≡ 0
      → over_seats f (without_handles p).seats ≤ over_seats f p.seats
  less_over f none =
      let all = seats_set f p.seats 0 (bare (seat_at p 0)) there in omega arith

  same_deferrals : (k : Kind) (s : SlotId)
      → deferrals k (without_handles p) s ≡ deferrals k p s
  same_deferrals k s = same_over (λ (v : PlainSeat). entry_times k s v.deferred) refl

  less_snapshots : (k : Kind) (s : SlotId)
      → snapshot_times k (without_handles p) s ≤ snapshot_times k p s
  less_snapshots k s = less_over (λ (v : PlainSeat). entry_times k s v.snapshots) (entry_none k s)

  less_strong : (s : SlotId) → strong_refs (without_handles p) s ≤ strong_refs p s
  less_strong s =
      let a = less_over (λ (v : PlainSeat). times s v.owned) (times_none s) in
      let b = same_deferrals Strong s in omega arith

  less_weak : (s : SlotId) → weak_refs (without_handles p) s ≤ weak_refs p s
  less_weak s =
      let a = less_over (λ (v : PlainSeat). times s v.weaks) (times_none s) in
      let b = same_deferrals Weak s in omega arith

  covers : (k : Kind) (s : SlotId) → Covers k p s → Covers k (without_handles p) s
  covers Strong s some = let a = same_deferrals Strong s in omega arith
  covers Weak s some = let a = same_deferrals Weak s in omega arith
  covers Disposal s some = some

  bare_covered : IsCovered p → IsCovered (without_handles p)
  bare_covered covered k s some =
      let less = less_snapshots k s in covers k s (covered k s (omega arith))

  bare_is_seat : (seat_at p 0).left ≡ false → IsSeat (without_handles p) 0
  bare_is_seat here =
      let size = length-set p.seats 0 (bare (seat_at p 0)) in (
        omega arith,
        ap (λ (v : PlainSeat). v.left) bare_seat ∙ here,
      )

  -- a slot that may be destroyed may be so then
  disposes : (s : SlotId) → CanDispose p 0 s → CanDispose (without_handles p) 0 s
  disposes s (dies, under) =
      let less = less_snapshots Disposal s in (
        subst (λ (v : PlainSeat). 0 < times s v.dying) (sym bare_seat) dies,
        omega arith,
      )

-- ---- the steps

bare_eject : (p q : Plain) (k : Kind) (s : SlotId) (found : ℕ) → Tidies p (act.Eject k s)
    → Does p 0 (act.Eject k s) found q
    → Tidies (without_handles p) (act.Eject k s)
    × Does (without_handles p) 0 (act.Eject k s) found (without_handles q)
bare_eject p q k s found many (here, (es, loses, z, e, covered)) =
    let seat = bare_seat p here.0 in
    let none = entry_none k s in
    let size = length-set p.seats 0 (record (seat_at p 0) { deferred = es }) in
    let same = ap (λ (x : Plain). length x.seats) e in
    let surplus : IsSurplus (bare (seat_at p 0)) k s = omega arith in (
      subst (λ (v : PlainSeat). IsSurplus v k s) (sym seat) surplus,
      (
        bare_is_seat p here.0 here.1,
        (
          es,
          subst (λ (v : PlainSeat). Loses v.deferred (k, s) es) (sym seat) loses,
          z,
          ap without_handles e
              ∙ changed p here.0 (λ (v : PlainSeat). record v { deferred = es }) (λ v. refl),
          bare_covered q (omega (arith, here.0)) covered,
        ),
      ),
    )

bare_split : (p q : Plain) (found : ℕ) → Does p 0 act.Split found q
    → Does (without_handles p) 0 act.Split found (without_handles q)
bare_split p q found (here, (z, (es, order, e))) = (
  bare_is_seat p here.0 here.1,
  (
    z,
    (
      es,
      subst (λ (v : PlainSeat). IsReordering v.deferred es) (sym (bare_seat p here.0)) order,
      ap without_handles e
          ∙ changed p here.0 (λ (v : PlainSeat). record v { deferred = es }) (λ v. refl),
    ),
  ),
)

bare_end : (p q : Plain) (s : SlotId) (found : ℕ) → Does p 0 (act.End s) found q
    → Does (without_handles p) 0 (act.End s) found (without_handles q)
bare_end p q s found (here, (live, dead, z, e)) = (
  bare_is_seat p here.0 here.1,
  (
    live,
    ⊎_elim (λ marked. inl marked)
        (λ (none : strong_refs p s ≡ 0). let less = less_strong p here.0 s in inr (omega arith))
        dead,
    z,
    ap without_handles e
        ∙ ap
        (λ (r : Plain). with_slot r s (record (slot_at p s) { stage = Ended; marked = true }))
        (changed p here.0 (λ (v : PlainSeat). record v { dying = v.dying ++ s ∷ [] }) (λ v. refl)),
  ),
)

bare_clear : (p q : Plain) (place : EventPlace) (found : ℕ) → Does p 0 (act.Clear place) found q
    → Does (without_handles p) 0 (act.Clear place) found (without_handles q)
bare_clear p q (Cell i) found (here, (dying, z, e)) = absurd dying
bare_clear p q (WeakCell i) found (here, (dying, z, e)) = absurd dying
bare_clear p q (Field s i) found (here, (dying, z, e)) = (
  bare_is_seat p here.0 here.1,
  (
    (dying.0, disposes p here.0 s dying.1),
    z,
    ap without_handles e
        ∙ ap (λ (r : Plain). with_slot r s (with_field i None (slot_at p s)))
        (changed p here.0
        (λ (v : PlainSeat).
        record v { deferred = joined Strong (field_of i (slot_at p s)) v.deferred })
        (λ v. refl)),
  ),
)
bare_clear p q (WeakField s) found (here, (dying, z, e)) = (
  bare_is_seat p here.0 here.1,
  (
    disposes p here.0 s dying,
    z,
    ap without_handles e
        ∙ ap (λ (r : Plain). with_slot r s (record (slot_at p s) { weak_field = None }))
        (changed p here.0
        (λ (v : PlainSeat).
        record v { deferred = joined Weak (slot_at p s).weak_field v.deferred })
        (λ v. refl)),
  ),
)

bare_destroy : (p q : Plain) (s : SlotId) (found : ℕ) → Does p 0 (act.Destroy s) found q
    → Does (without_handles p) 0 (act.Destroy s) found (without_handles q)
bare_destroy p q s found (here, (nulls, under, z, (xs, loses, e))) =
    let less = less_snapshots p here.0 Disposal s in (
      bare_is_seat p here.0 here.1,
      (
        nulls,
        omega arith,
        z,
        (
          xs,
          subst (λ (v : PlainSeat). Loses v.dying s xs) (sym (bare_seat p here.0)) loses,
          ap without_handles e
              ∙ ap (λ (r : Plain). with_slot r s (record (slot_at p s) { stage = Husk }))
              (changed p here.0 (λ (v : PlainSeat). record v { dying = xs }) (λ v. refl)),
        ),
      ),
    )

bare_give : (p q : Plain) (s : SlotId) (found : ℕ) → Does p 0 (act.Give s) found q
    → Does (without_handles p) 0 (act.Give s) found (without_handles q)
bare_give p q s found (here, (husk, none, z, e)) =
    let less = less_weak p here.0 s in
    (bare_is_seat p here.0 here.1, (husk, omega arith, z, ap without_handles e))

bare_step : (p q : Plain) (a : PlainAct) (found : ℕ) → Tidies p a → Does p 0 a found q
    → Tidies (without_handles p) a × Does (without_handles p) 0 a found (without_handles q)
bare_step p q (act.Eject k s) found may does = bare_eject p q k s found may does
bare_step p q act.Split found may does = (tt, bare_split p q found does)
bare_step p q (act.End s) found may does = (tt, bare_end p q s found does)
bare_step p q (act.Clear place) found may does = (tt, bare_clear p q place found does)
bare_step p q (act.Destroy s) found may does = (tt, bare_destroy p q s found does)
bare_step p q (act.Give s) found may does = (tt, bare_give p q s found does)
bare_step p q _ found may does = absurd may

bare_by : (acts : List PlainAct) (p q : Plain) → TidiesBy acts p q
    → TidiesBy acts (without_handles p) (without_handles q)
bare_by [] p q same = ap without_handles same
bare_by (a ∷ more) p q (m, found, may, does, by) =
    let one = bare_step p m a found may does in
    (without_handles m, found, one.0, one.1, bare_by more m q by)

pub bare_tidies : (p q : Plain) → TidiesTo p q → TidiesTo (without_handles p) (without_handles q)
bare_tidies p q by = (by.0, bare_by by.0 p q by.1)
