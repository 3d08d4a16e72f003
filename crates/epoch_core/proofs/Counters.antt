-- Events on a count word by which a slot is filled, or its references become more: claim, start, add.
use Rattle.std.proofs.Common.{◌≡◌, inl, ℕ, ◌+◌, ◌<◌, ◌≤◌, List, [], ◌∷◌, ◌++◌, set, refl, sym, arith}
use Rattle.std.specs.Prelude.{slice_index, ◌==◌}
use Rattle.std.proofs.lemmas.Bool.Decides.{nat_tests}
use Rattle.core_law.specs.plain_state.declared.slot.SlotId.{SlotId}
use Rattle.core_law.specs.core_events.Steps.{plus_one}
use Rattle.core_law.proofs.Kit.{by_test, one_same, one_other, times_push}
use Rattle.epoch_core.specs.declared.act.Dated.{Dated}
use Rattle.epoch_core.specs.declared.act.EpochAct.TheVariants as act
use Rattle.epoch_core.specs.declared.shape.EpochShape.{EpochShape}
use Rattle.epoch_core.specs.declared.view.EpochMove.{EpochMove}
use Rattle.epoch_core.specs.declared.view.EpochPhase.TheVariants as phase
use Rattle.epoch_core.specs.declared.view.EpochView.{EpochView}
use Rattle.epoch_core.specs.Words.{count_at, free_word}
use Rattle.epoch_core.specs.Views.{IsIdle}
use Rattle.epoch_core.specs.Steps.{May, HasAdd, dated_times}
use Rattle.epoch_core.specs.Runs.{Core, view_at, epoch, after}
use Rattle.epoch_core.specs.Counts.{filling, count}
use Rattle.epoch_core.specs.Slots.{numbers, held, live}
use Rattle.epoch_core.specs.Sound.{Sound}
use Rattle.epoch_core.proofs.Put.{stepped, adds_fit, moves}
use Rattle.epoch_core.proofs.Quiet.{IsQuiet}
use Rattle.epoch_core.proofs.Held.{live_of, held_of, free_of, held_refs, named_in_range}
use Rattle.epoch_core.proofs.Counting.{having, count_step, still_step}
use Rattle.epoch_core.proofs.Swept.{not_left}
use Rattle.epoch_core.proofs.Phases.{quiet_idle, quiet_blank, in_idle, in_blank, not_idle_blank}

-- nothing changes but the trail
pub unchanged : (z : EpochShape) (c : Core) (n : ℕ) (so : Sound z c) (hn : n < z.seats)
    (t : List EpochMove) (p : ℕ) → IsQuiet (view_at c n).phase
    → Sound z (stepped c n (record (view_at c n) { trail = t })
    (set c.words p (slice_index c.words p)) c.opened)
unchanged z c n so hn t p quiet =
    let law = so.seats n hn in
    still_step z c n so hn (record (view_at c n) { trail = t }) p
    (record { number = refl; known = refl; before = quiet; after = quiet }) (assumption law)
    (omega arith) (so.regions n hn).dates (λ g x a b. omega arith) (λ x h. inl h)
    (λ x hx. record { word = refl; counted = refl; fill = refl; dyi = refl; fields = inl refl })

module _ (z : EpochShape) (c : Core) (n : ℕ) (so : Sound z c) (hn : n < z.seats) where
  abbrev v : EpochView
  v = view_at c n

  dates_here : (d : Dated) → 0 < dated_times d v.pending → d.date ≤ epoch c
  dates_here = (so.regions n hn).dates

  -- a claim that found the slot free
  claimed : (s : SlotId) (t : List EpochMove) → IsIdle v → s.0 < z.slots → v.makes < v.quota.makes → HasAdd v
      → count z c s ≡ free_word
      → Sound z (stepped c n (record v { makes = v.makes + 1; phase = phase.Blank s; trail = t })
      (set c.words (count_at z s) 0) c.opened)
  claimed s t idle hs make_left add_left word =
      let law = so.seats n hn in
      let m = free_of _ (numbers z c s) (so.slots s hs) (adds_fit z c so) word in
      let o = one_same s s refl in
      let p = in_idle v.phase s idle.0 in
      count_step z c n so hn s (record (having v) { makes = v.makes + 1; phase = phase.Blank s; trail = t })
      0 hs (omega arith)
      (record {
        here = idle.1;
        before = quiet_idle v.phase idle.0;
        after = quiet_blank _ s refl;
        adds = omega arith;
        adds_most = law.adds;
        makes = omega arith;
        starts = λ x e. add_left;
        dates = dates_here;
        guards = λ g x a b. let q = in_idle v.phase x idle.0 in omega arith;
        others = λ x ne.
            let q = in_idle v.phase x idle.0 in
            let no = one_other x s (λ e. ne (sym e)) in
            record { listed = omega arith; dying = refl; made = refl; filling = omega arith };
      })
      (λ sums there.
      let a = sums.listed in
      let f = sums.fill in
      let d = sums.dyi in
      let r = m.refs in
      let rf = m.filling in
      let rd = m.dying in
      let n0 = m.fields in
      held (record { word = refl; refs = omega arith; one = omega arith; nulls = λ pos. n0 }))

  pub claim_keeps : (s : SlotId) → May z (act.Claim s) v → Sound z (after z c n (act.Claim s))
  claim_keeps s may = by_test (count z c s == free_word)
      (λ is. rw is (claimed s _ may.0 may.1 may.2 may.3 (grind (arith, nat_tests))))
      (λ not. rw not (unchanged z c n so hn _ (count_at z s) (quiet_idle v.phase may.0.0)))

  -- the slot becomes live, with one reference
  started : (s : SlotId) (t : List EpochMove) → v.phase ≡ phase.Blank s
      → Sound z (stepped c n (record v {
        owned = v.owned ++ s ∷ [];
        made = v.made ++ s ∷ [];
        adds = v.adds + 1;
        phase = phase.Idle;
        trail = t;
      }) (set c.words (count_at z s) 1) c.opened)
  started s t at =
      let law = so.seats n hn in
      let o = one_same s s refl in
      let p = in_blank v.phase s s at in
      let hs = named_in_range z n v s law (omega arith) in
      let room = law.can_start s at in
      let fill = moves z c n v (λ (u : EpochView). filling s u.phase) so hn in
      let some = fill.1 in
      let m = held_of _ (numbers z c s) (so.slots s hs) (omega arith) in
      count_step z c n so hn s (record (having v) {
        owned = v.owned ++ s ∷ [];
        made = v.made ++ s ∷ [];
        adds = v.adds + 1;
        phase = phase.Idle;
        trail = t;
      }) 1 hs (omega arith)
      (record {
        here = not_left z n v law (not_idle_blank v.phase s at);
        before = quiet_blank v.phase s at;
        after = quiet_idle _ refl;
        adds = omega arith;
        adds_most = omega arith;
        makes = law.makes;
        starts = λ x e. absurd cc;
        dates = dates_here;
        guards = λ g x a b. let q = in_blank v.phase x s at in omega arith;
        others = λ x ne.
            let q = in_blank v.phase x s at in
            let no = one_other x s (λ e. ne (sym e)) in
            let a = times_push x s v.owned in
            let b = times_push x s v.made in
            record { listed = omega arith; dying = refl; made = omega arith; filling = omega arith };
      })
      (λ sums there.
      let a = sums.listed in
      let f = sums.fill in
      let d = sums.dyi in
      let ad = sums.add in
      let push = times_push s s v.owned in
      let r = m.refs in
      let on = m.one in
      live (record { word = omega arith; some = omega arith; few = omega arith; filling = omega arith; dying = omega arith }))

  pub start_keeps : May z act.Start v → Sound z (after z c n act.Start)
  start_keeps may = rw may.1 (started may.0 _ may.1)

  -- one more reference to a slot that the seat holds
  pub add_keeps : (s : SlotId) → May z (act.Add s) v → Sound z (after z c n (act.Add s))
  add_keeps s may =
      let law = so.seats n hn in
      let o = one_same s s refl in
      let hold = may.2 in
      let hs = named_in_range z n v s law (omega arith) in
      let m = live_of _ (numbers z c s) (so.slots s hs) (held_refs z c n s so hn may.2) in
      let fit = adds_fit z c so in
      let few = m.few in
      let more = may.1 in
      let next : plus_one (count z c s) ≡ count z c s + 1 = grind (arith, nat_tests) in
      rw next (count_step z c n so hn s (record (having v) {
        owned = v.owned ++ s ∷ [];
        adds = v.adds + 1;
        trail = _;
      }) (count z c s + 1) hs (omega arith)
      (record {
        here = may.0.1;
        before = quiet_idle v.phase may.0.0;
        after = quiet_idle v.phase may.0.0;
        adds = omega arith;
        adds_most = omega arith;
        makes = law.makes;
        starts = λ x e. absurd (not_idle_blank v.phase x e may.0.0);
        dates = dates_here;
        guards = λ g x a b. omega arith;
        others = λ x ne.
            let no = one_other x s (λ e. ne (sym e)) in
            let a = times_push x s v.owned in
            record { listed = omega arith; dying = refl; made = refl; filling = refl };
      })
      (λ sums there.
      let a = sums.listed in
      let f = sums.fill in
      let d = sums.dyi in
      let ad = sums.add in
      let push = times_push s s v.owned in
      let wd = m.word in
      let mf = m.filling in
      let md = m.dying in
      live (record { word = omega arith; some = omega arith; few = omega arith; filling = omega arith; dying = omega arith })))
