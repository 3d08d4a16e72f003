-- Events on a count word by which references are given up, and a slot is freed: drop, pay, free.
use Rattle.std.proofs.Common.{◌≡◌, ◌≢◌, ℕ, ◌+◌, ◌<◌, ◌≤◌, List, [], ◌∷◌, ◌++◌, set, refl, ap, sym, ◌∙◌, arith}
use Rattle.std.specs.Prelude.{◌==◌}
use Rattle.std.proofs.lemmas.Bool.Decides.{nat_tests}
use Rattle.core_law.specs.plain_state.declared.slot.SlotId.{SlotId}
use Rattle.core_law.specs.plain_state.Lists.{times}
use Rattle.core_law.specs.core_events.Counts.{one}
use Rattle.core_law.specs.core_events.Views.{without}
use Rattle.core_law.specs.core_events.Steps.{minus_one}
use Rattle.core_law.proofs.Kit.{by_test, one_same, one_other, times_push, times_without}
use Rattle.epoch_core.specs.declared.act.Dated.{Dated}
use Rattle.epoch_core.specs.declared.act.EpochAct.TheVariants as act
use Rattle.epoch_core.specs.declared.shape.EpochShape.{EpochShape}
use Rattle.epoch_core.specs.declared.view.EpochMove.{EpochMove}
use Rattle.epoch_core.specs.declared.view.EpochPhase.TheVariants as phase
use Rattle.epoch_core.specs.declared.view.EpochView.{EpochView}
use Rattle.epoch_core.specs.Words.{count_at, free_word}
use Rattle.epoch_core.specs.Views.{IsIdle}
use Rattle.epoch_core.specs.Steps.{May, dated_times, without_dated}
use Rattle.epoch_core.specs.Runs.{Core, view_at, epoch, after, HasNullFields}
use Rattle.epoch_core.specs.Counts.{listed, filling, guarding, count}
use Rattle.epoch_core.specs.Slots.{numbers, free, held, live}
use Rattle.epoch_core.specs.Sound.{Sound}
use Rattle.epoch_core.proofs.Kit.{dated_rest, pending_without, from_without, late_not, pending_some}
use Rattle.epoch_core.proofs.Put.{stepped, adds_fit, moves}
use Rattle.epoch_core.proofs.Held.{live_of, held_of, listed_refs, named_in_range}
use Rattle.epoch_core.proofs.Counting.{Having, having, with_having, Touches, count_step}
use Rattle.epoch_core.proofs.Phases.{quiet_idle, not_idle_blank}

module _ (z : EpochShape) (c : Core) (n : ℕ) (so : Sound z c) (hn : n < z.seats) where
  abbrev v : EpochView
  v = view_at c n

  dates_here : (d : Dated) → 0 < dated_times d v.pending → d.date ≤ epoch c
  dates_here = (so.regions n hn).dates

  -- the seat has one reference to s less, in a list that guards nothing
  pub record Gives (s : SlotId) (k : Having) : Type 0 where
    phase : k.phase ≡ v.phase
    dying : k.dying ≡ v.dying
    made : k.made ≡ v.made
    adds : k.adds ≡ v.adds
    makes : k.makes ≡ v.makes
    listed : (x : SlotId) → listed x (with_having v k) + one x s ≡ listed x v
    dates : (d : Dated) → 0 < dated_times d k.pending → d.date ≤ epoch c
    pub guards :
        (g : ℕ) (x : SlotId) → g ≤ epoch c → epoch c ≤ g + 1
        → guarding g x v ≤ guarding g x (with_having v k)

  gives_touches : (s : SlotId) (k : Having) (ds : List SlotId) → IsIdle v → Gives s k
      → ((x : SlotId) → x.0 ≢ s.0 → times x ds ≡ times x v.dying)
      → Touches (epoch c) v s (record k { dying = ds })
  gives_touches s k ds idle gives other =
      let law = so.seats n hn in
      let same : k.phase ≡ phase.Idle = gives.phase ∙ idle.0 in
      record {
        here = idle.1;
        before = quiet_idle v.phase idle.0;
        after = quiet_idle k.phase same;
        adds = let a = gives.adds in omega arith;
        adds_most = let a = gives.adds in let b = law.adds in omega arith;
        makes = let a = gives.makes in let b = law.makes in omega arith;
        starts = λ x e. absurd (not_idle_blank k.phase x e same);
        dates = gives.dates;
        guards = gives.guards;
        others = λ x ne.
            let no = one_other x s (λ e. ne (sym e)) in
            let l = gives.listed x in
            record {
              listed = omega arith;
              dying = other x ne;
              made = ap (times x) gives.made;
              filling = ap (filling x) gives.phase;
            };
      }

  -- references are left
  gives_left : (s : SlotId) (k : Having) → IsIdle v → s.0 < z.slots → Gives s k → count z c s ≢ 1
      → Sound z (stepped c n (with_having v k) (set c.words (count_at z s) (minus_one (count z c s))) c.opened)
  gives_left s k idle hs gives ne =
      let o = one_same s s refl in
      let l = gives.listed s in
      let r = listed_refs z c n s so hn in
      let m = live_of _ (numbers z c s) (so.slots s hs) (omega arith) in
      let fit = adds_fit z c so in
      let few = m.few in
      let wd = m.word in
      let some = m.some in
      let next : minus_one (count z c s) + 1 ≡ count z c s = grind (arith, nat_tests) in
      count_step z c n so hn s k (minus_one (count z c s)) hs (omega arith)
      (gives_touches s k k.dying idle gives (λ x ne'. ap (times x) gives.dying))
      (λ sums there.
      let a = sums.listed in
      let f = sums.fill in
      let d = sums.dyi in
      let ad = sums.add in
      let ka = gives.adds in
      let kd = ap (times s) gives.dying in
      let kf = ap (filling s) gives.phase in
      let mf = m.filling in
      let md = m.dying in
      live (record { word = omega arith; some = omega arith; few = omega arith; filling = omega arith; dying = omega arith }))

  -- it was the last one
  gives_last : (s : SlotId) (k : Having) → IsIdle v → s.0 < z.slots → Gives s k → count z c s ≡ 1
      → Sound z (stepped c n (with_having v (record k { dying = v.dying ++ s ∷ [] }))
      (set c.words (count_at z s) (minus_one (count z c s))) c.opened)
  gives_last s k idle hs gives is =
      let o = one_same s s refl in
      let l = gives.listed s in
      let r = listed_refs z c n s so hn in
      let m = live_of _ (numbers z c s) (so.slots s hs) (omega arith) in
      let wd = m.word in
      let next : minus_one (count z c s) ≡ 0 = rw is refl in
      rw next (count_step z c n so hn s (record k { dying = v.dying ++ s ∷ [] }) 0 hs (omega arith)
      (gives_touches s k (v.dying ++ s ∷ []) idle gives
      (λ x ne. let no = one_other x s (λ e. ne (sym e)) in let p = times_push x s v.dying in omega arith))
      (λ sums there.
      let a = sums.listed in
      let f = sums.fill in
      let d = sums.dyi in
      let push = times_push s s v.dying in
      let kf = ap (filling s) gives.phase in
      let mf = m.filling in
      let md = m.dying in
      held (record { word = refl; refs = omega arith; one = omega arith; nulls = λ pos. absurd (omega arith) })))

  abbrev dropped_having : SlotId → List EpochMove → Having
  dropped_having s t = record (having v) { owned = without s v.owned; trail = t }

  pub drop_keeps : (s : SlotId) → May z (act.Drop s) v → Sound z (after z c n (act.Drop s))
  drop_keeps s may =
      let own = may.1 in
      let hs = named_in_range z n v s (so.seats n hn) (omega arith) in
      by_test (count z c s == 1)
      (λ is. rw is (gives_last s (dropped_having s _) may.0 hs (dropped _) (grind (arith, nat_tests))))
      (λ not. rw not (gives_left s (dropped_having s _) may.0 hs (dropped _) (grind (arith, nat_tests))))
    where
      dropped : (t : List EpochMove) → Gives s (dropped_having s t)
      dropped t = record {
        phase = refl;
        dying = refl;
        made = refl;
        adds = refl;
        makes = refl;
        listed = λ x. let w = times_without x s v.owned may.1 in omega arith;
        dates = dates_here;
        guards = λ g x a b. omega arith;
      }

  abbrev pub paid_having : Dated → List EpochMove → Having
  paid_having d t = record (having v) { pending = without_dated d v.pending; trail = t }

  -- an entry that is due guards nothing
  pub paid : (d : Dated) (t : List EpochMove) → May z (act.Pay d) v → Gives d.slot (paid_having d t)
  paid d t may = record {
    phase = refl;
    dying = refl;
    made = refl;
    adds = refl;
    makes = refl;
    listed = λ x. let w = pending_without x d v.pending may.1 in omega arith;
    dates = λ e h. let r = dated_rest e d v.pending in dates_here e (omega arith);
    guards = λ g x a b.
        let w = from_without g x d v.pending may.1 in
        let known = (so.regions n hn).known in
        let due = may.2 in
        let early = late_not g x d (omega arith) in omega arith;
  }

  pub pay_keeps : (d : Dated) → May z (act.Pay d) v → Sound z (after z c n (act.Pay d))
  pay_keeps d may =
      let o = one_same d.slot d.slot refl in
      let some = pending_some d.slot d v.pending may.1 in
      let hs = named_in_range z n v d.slot (so.seats n hn) (omega arith) in
      by_test (count z c d.slot == 1)
      (λ is. rw is (gives_last d.slot (paid_having d _) may.0 hs (paid d _ may) (grind (arith, nat_tests))))
      (λ not. rw not (gives_left d.slot (paid_having d _) may.0 hs (paid d _ may) (grind (arith, nat_tests))))

  -- a slot whose object is destroyed
  pub free_keeps : (s : SlotId) → May z (act.Free s) v → HasNullFields z c.words s
      → Sound z (after z c n (act.Free s))
  free_keeps s may nulls =
      let law = so.seats n hn in
      let mine = may.1 in
      let o = one_same s s refl in
      let hs = named_in_range z n v s law (omega arith) in
      let dying = moves z c n v (λ (u : EpochView). times s u.dying) so hn in
      let some = dying.1 in
      let m = held_of _ (numbers z c s) (so.slots s hs) (omega arith) in
      let less = times_without s s v.dying may.1 in
      count_step z c n so hn s (record (having v) { dying = without s v.dying; trail = _ }) free_word hs
      (omega arith)
      (record {
        here = may.0.1;
        before = quiet_idle v.phase may.0.0;
        after = quiet_idle v.phase may.0.0;
        adds = omega arith;
        adds_most = law.adds;
        makes = law.makes;
        starts = λ x e. absurd (not_idle_blank v.phase x e may.0.0);
        dates = dates_here;
        guards = λ g x a b. omega arith;
        others = λ x ne.
            let no = one_other x s (λ e. ne (sym e)) in
            let w = times_without x s v.dying may.1 in
            record { listed = refl; dying = omega arith; made = refl; filling = refl };
      })
      (λ sums there.
      let a = sums.listed in
      let f = sums.fill in
      let d = sums.dyi in
      let r = m.refs in
      let on = m.one in
      let n0 = nulls.0 in
      let n1 = nulls.1 in
      free (record { word = refl; refs = omega arith; filling = omega arith; dying = omega arith; fields = omega arith }))
