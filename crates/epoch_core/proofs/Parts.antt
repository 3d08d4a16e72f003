-- The invariant has the parts that the definitions ask for.
use Rattle.std.proofs.Common.{◌≡◌, ◌≢◌, ℕ, ◌^◌, ◌<◌, ◌≤◌, zero, suc, List, [], ◌∷◌, length, get_or, refl, sym, ◌∙◌, arith}
use Rattle.std.proofs.lemmas.List.Sums.{sum_by-cons}
use Rattle.std.proofs.lemmas.Bool.Decides.{nat_tests}
use Rattle.core_law.specs.plain_state.declared.slot.SlotId.{SlotId}
use Rattle.core_law.specs.plain_state.declared.slot.Stage.{Stage}
use Rattle.core_law.specs.plain_state.declared.slot.Stage.TheVariants.{Free, Live, Ended}
use Rattle.core_law.specs.plain_state.Lists.{times}
use Rattle.epoch_core.specs.declared.shape.EpochShape.{EpochShape}
use Rattle.epoch_core.specs.declared.view.EpochView.{EpochView}
use Rattle.epoch_core.specs.Views.{no_view}
use Rattle.epoch_core.specs.Runs.{Core, view_at}
use Rattle.epoch_core.specs.Counts.{total, adds_used}
use Rattle.epoch_core.specs.Good.{stage, stage_of, EpochCounts, EpochRegion, EpochEnds, Good}
use Rattle.epoch_core.specs.Slots.{Numbers, numbers, SlotLaw, free, held, live}
use Rattle.epoch_core.specs.Sound.{Sound}
use Rattle.epoch_core.proofs.Put.{adds_fit}
use Rattle.epoch_core.proofs.Held.{held_refs, seen_refs}
use Rattle.epoch_core.proofs.Quiet.{seen_inside}

-- what a slot's law tells by its stage
pub record ByStage (m : Numbers) (is : Stage) : Type 0 where
  pub counted : is ≡ Live → (m.word ≡ m.refs) × (0 < m.refs)
  pub none : is ≢ Live → m.refs ≡ 0
  pub once : m.dying ≤ 1
  pub free : is ≡ Free → (m.dying ≡ 0) × (m.filling ≡ 0) × (m.fields ≡ 0)
  pub live : 0 < m.refs → is ≡ Live
  pub dies : is ≡ Ended → 0 < m.dying
  pub ended : 0 < m.dying → is ≡ Ended
  pub vacant : is ≢ Live → is ≢ Ended → m.fields ≡ 0

pub by_stage : (a : ℕ) (m : Numbers) → SlotLaw a m → a < 2 ^ 60
    → ByStage m (stage_of m.word m.filling m.dying)
unfolding stage_of
by_stage a m (free l) fit = grind (arith, nat_tests)
by_stage a m (held l) fit = grind (arith, nat_tests)
by_stage a m (live l) fit = grind (arith, nat_tests)

-- a number that each seat has 0 of
pub total_zero : (f : EpochView → ℕ) (vs : List EpochView)
    → ((n : ℕ) → n < length vs → f (get_or vs n no_view) ≡ 0) → total f vs ≡ 0
unfolding total
total_zero f [] none = refl
total_zero f (v ∷ vs) none =
    let c = sum_by-cons f v vs in
    let r = total_zero f vs (λ n h. none (suc n) (omega arith)) in
    let e = none 0 (omega arith) in omega arith

module _ (z : EpochShape) (c : Core) (so : Sound z c) where
  pub by : (s : SlotId) → s.0 < z.slots → ByStage (numbers z c s) (stage z c s)
  by s hs = by_stage (adds_used c) (numbers z c s) (so.slots s hs) (adds_fit z c so)

  counts : (s : SlotId) → s.0 < z.slots → EpochCounts z c s
  counts s hs =
      let b = by s hs in
      record {
        counted = λ is. (b.counted is).0;
        some = λ is. (b.counted is).1;
        none = b.none;
      }

  region : (n : ℕ) → n < z.seats → EpochRegion z c n
  region n hn =
      let r = so.regions n hn in
      record {
        number = λ inside. (r.stored inside).0;
        epoch = λ inside. ((r.stored inside).1, (r.stored inside).2);
        seen = λ s h. ((seen_inside z n (view_at c n) s (so.seats n hn) h).0, so.seen n s hn h);
      }

  ends : (s : SlotId) → s.0 < z.slots → EpochEnds z c s
  ends s hs =
      let b = by s hs in
      record {
        once = b.once;
        held = λ n hn h. b.live (held_refs z c n s so hn h);
        free = λ is.
            let f = b.free is in
            let not : stage z c s ≢ Live = λ e. let no : Free ≡ Live = sym is ∙ e in cc in
            let nulls = f.2 in
            (b.none not, f.0, f.1, (omega arith, omega arith));
        unseen = λ not. total_zero (λ (v : EpochView). times s v.seen) c.views
            (λ n h.
            let e = so.views in
            none_or (times s (view_at c n).seen)
            (λ pos. not (b.live (seen_refs z c n s so (omega arith) pos))));
      }
    where
      none_or : (k : ℕ) → (0 < k → ⊥) → k ≡ 0
      none_or zero never = refl
      none_or (suc k) never = absurd (never (omega arith))

  pub sound_good : Good z c
  sound_good = record {
    words = so.words;
    views = so.views;
    counts = counts;
    regions = region;
    ends = ends;
  }
