-- A look at a place keeps the invariant, and so does the date of what was taken out of one.
use Rattle.std.proofs.Common.{◌≡◌, ◌⊎◌, inl, inr, ⊎_elim, ℕ, ◌<◌, false, true, List, [], ◌∷◌, ◌++◌, set, refl, ap, sym, ◌∙◌, arith, Option, Some, None}
use Rattle.std.specs.Prelude.{slice_index}
use Rattle.core_law.specs.plain_state.declared.act.EventPlace.{EventPlace}
use Rattle.core_law.specs.plain_state.declared.slot.SlotId.{SlotId}
use Rattle.core_law.specs.plain_state.Lists.{times}
use Rattle.core_law.specs.core_events.Words.{slot_in}
use Rattle.core_law.proofs.Kit.{by_slot, one_other, times_push}
use Rattle.epoch_core.specs.declared.act.Dated.{Dated}
use Rattle.epoch_core.specs.declared.act.EpochAct.TheVariants as act
use Rattle.epoch_core.specs.declared.shape.EpochShape.{EpochShape}
use Rattle.epoch_core.specs.declared.view.EpochMove.{EpochMove}
use Rattle.epoch_core.specs.declared.view.EpochPhase.TheVariants as phase
use Rattle.epoch_core.specs.declared.view.EpochView.{EpochView}
use Rattle.epoch_core.specs.Words.{place_at, epoch_at}
use Rattle.epoch_core.specs.Views.{IsIdle, IsInside}
use Rattle.epoch_core.specs.Steps.{May, saw}
use Rattle.epoch_core.specs.Runs.{Core, view_at, epoch, after}
use Rattle.epoch_core.specs.Counts.{places}
use Rattle.epoch_core.specs.Sound.{Sound}
use Rattle.epoch_core.proofs.Kit.{dated_push, pending_push, from_push, late_is}
use Rattle.epoch_core.proofs.Writes.{IsPlace}
use Rattle.epoch_core.proofs.Put.{stepped}
use Rattle.epoch_core.proofs.Counting.{Having, having, with_having, seat_having, still_step}
use Rattle.epoch_core.proofs.Counters.{unchanged}
use Rattle.epoch_core.proofs.Phases.{quiet_idle, quiet_undated, in_undated}
use Rattle.epoch_core.proofs.Swept.{not_left}
use Rattle.epoch_core.proofs.Exchanges.{found_there, open_there}

module _ (z : EpochShape) (c : Core) (n : ℕ) (so : Sound z c) (hn : n < z.seats) where
  abbrev v : EpochView
  v = view_at c n

  -- A LOOK
  looked : (q : EventPlace) (t : List EpochMove) → IsIdle v → IsInside v → IsPlace z q
      → (o : Option SlotId) → slot_in (slice_index c.words (place_at z q)) ≡ o
      → Sound z (stepped c n (record (saw o v) { trail = t })
      (set c.words (place_at z q) (slice_index c.words (place_at z q))) c.opened)
  looked q t idle inside h None is = unchanged z c n so hn t (place_at z q) (quiet_idle v.phase idle.0)
  looked q t idle inside h (Some s) is =
      let law = so.seats n hn in
      let there = found_there z c n so hn q s h is in
      let quiet = quiet_idle v.phase idle.0 in
      still_step z c n so hn (record v { seen = v.seen ++ s ∷ []; trail = t }) (place_at z q)
      (record { number = refl; known = refl; before = quiet; after = quiet })
      (record {
        number = law.number;
        same_shape = law.same_shape;
        quota = law.quota;
        adds = law.adds;
        makes = law.makes;
        can_start = law.can_start;
        range = λ x le.
            let no = one_other x s (omega arith) in
            let p = times_push x s v.seen in
            let r = law.range x le in omega arith;
        outside = λ e. absurd (omega arith);
        gone = λ e. let no : false ≡ true = sym idle.1 ∙ e in absurd cc;
      })
      (omega arith) (so.regions n hn).dates (λ g x a b. omega arith)
      (λ x h'. by_slot s x (λ y. (0 < times y v.seen) ⊎ (0 < places z c.words y)) (inr there.1)
      (λ ne.
      let no = one_other x s (λ e. ne (sym e)) in
      let p = times_push x s v.seen in inl (omega arith)))
      (λ x hx. record { word = refl; counted = refl; fill = refl; dyi = refl; fields = inl refl })

  pub look_keeps : (q : EventPlace) → May z (act.Look q) v → Sound z (after z c n (act.Look q))
  look_keeps q may = looked q _ may.0 may.1 (open_there z c n so hn q may.2) (slot_in (slice_index c.words (place_at z q))) refl

  -- A DATE
  dated : (s : SlotId) (t : List EpochMove) → v.phase ≡ phase.Undated s
      → Sound z (stepped c n (record v {
        pending = v.pending ++ record { slot = s; date = epoch c } ∷ [];
        phase = phase.Idle;
        trail = t;
      }) (set c.words epoch_at (slice_index c.words epoch_at)) c.opened)
  dated s t at =
      let law = so.seats n hn in
      let d : Dated = record { slot = s; date = epoch c } in
      let here = not_left z n v law
      (λ e. let no : phase.Undated s ≡ phase.Idle = sym at ∙ e in absurd cc) in
      let k : Having = record (having v) {
        pending = v.pending ++ record { slot = s; date = epoch c } ∷ [];
        phase = phase.Idle;
        trail = t;
      } in
      still_step z c n so hn (with_having v k) epoch_at
      (record {
        number = refl;
        known = refl;
        before = quiet_undated v.phase s at;
        after = quiet_idle phase.Idle refl;
      })
      (seat_having z c n so hn k here law.adds law.makes (λ x e. absurd cc)
      (λ x le.
      let i = in_undated v.phase x s at in
      let p = pending_push x d v.pending in
      let r = law.range x le in omega arith))
      (omega arith)
      (λ e h. ⊎_elim (λ old. (so.regions n hn).dates e old)
      (λ is. let same = ap (λ (y : Dated). y.date) is in omega arith) (dated_push e d v.pending h))
      (λ g x a b.
      let i = in_undated v.phase x s at in
      let p = from_push g x d v.pending in
      let l = late_is g x d a in omega arith)
      (λ x h. inl h)
      (λ x hx. record {
        word = refl;
        counted =
            let i = in_undated v.phase x s at in
            let p = pending_push x d v.pending in omega arith;
        fill = let i = in_undated v.phase x s at in omega arith;
        dyi = refl;
        fields = inl refl;
      })

  pub date_keeps : May z act.Date v → Sound z (after z c n act.Date)
  date_keeps may = rw may.1 (dated may.0 _ may.1)
