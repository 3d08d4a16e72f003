-- What is enough for the clause on scans to stay, and for all of the invariant where no word changes.
use Rattle.std.proofs.Common.{◌≡◌, ◌≢◌, ◌⊎◌, ⊎_elim, ℕ, ◌<◌, ◌≤◌, Bool, false, true, List, [], get_or, set, refl, sym, ◌∙◌}
use Rattle.std.specs.Prelude.{slice_index}
use Rattle.std.proofs.lemmas.List.{set-get_or}
use Rattle.epoch_core.specs.declared.shape.EpochShape.{EpochShape}
use Rattle.epoch_core.specs.declared.view.EpochPhase.{EpochPhase}
use Rattle.epoch_core.specs.declared.view.EpochPhase.TheVariants as phase
use Rattle.epoch_core.specs.declared.view.EpochView.{EpochView}
use Rattle.epoch_core.specs.declared.view.Sweep.{Sweep}
use Rattle.epoch_core.specs.Views.{no_view}
use Rattle.epoch_core.specs.Runs.{Core, view_at, opened_at, epoch}
use Rattle.epoch_core.specs.Sound.{Sound, SeatLaw, RegionLaw, AreSwept}
use Rattle.epoch_core.proofs.Put.{stepped, by_put}
use Rattle.epoch_core.proofs.Regions.{HasNoSlot, SameLists, region_sound}

-- a seat that is in the middle of something hasn't left
pub not_left : (z : EpochShape) (n : ℕ) (v : EpochView) → SeatLaw z n v
    → (v.phase ≡ phase.Idle → ⊥) → v.left ≡ false
not_left z n v law busy = go v.left refl
  where
    go : (b : Bool) → v.left ≡ b → b ≡ false
    go false e = refl
    go true e = absurd (busy (law.gone e).0)

pub no_slot_idle : (p : EpochPhase) → p ≡ phase.Idle → HasNoSlot p
no_slot_idle p e = record { undated = λ s. rw e refl; filling = λ s. rw e refl }

pub no_slot_entering : (p : EpochPhase) (x : ℕ) → p ≡ phase.Entering x → HasNoSlot p
no_slot_entering p x e = record { undated = λ s. rw e refl; filling = λ s. rw e refl }

pub no_slot_scan : (p : EpochPhase) (w : Sweep) → p ≡ phase.Scan w → HasNoSlot p
no_slot_scan p w e = record { undated = λ s. rw e refl; filling = λ s. rw e refl }

module _ (z : EpochShape) (c : Core) (n : ℕ) (so : Sound z c) (hn : n < z.seats) where
  abbrev v : EpochView
  v = view_at c n

  seats_some : 1 ≤ z.seats
  seats_some = so.shape.0

  -- a pair of a scanning seat and another one, in the new views: who scans is as before where the new view doesn't, and
  -- an open region is as before where the new view's isn't open
  pub swept_by : (u : EpochView) (os : List ℕ)
      → ((w : Sweep) → u.phase ≡ phase.Scan w → w.fit ≡ true → w.epoch ≡ epoch c → (k : ℕ) → k < z.seats
      → k < w.passed → 0 < (get_or (set c.views n u) k no_view).number → slice_index os k ≡ epoch c)
      → ((k : ℕ) → k ≢ n → slice_index os k ≡ opened_at c k)
      → (0 < u.number → ((0 < v.number) × (slice_index os n ≡ opened_at c n)) ⊎ (slice_index os n ≡ epoch c))
      → (m k : ℕ) (w : Sweep) → m < z.seats → k < z.seats
      → (get_or (set c.views n u) m no_view).phase ≡ phase.Scan w → w.fit ≡ true → w.epoch ≡ epoch c
      → k < w.passed → 0 < (get_or (set c.views n u) k no_view).number → slice_index os k ≡ epoch c
  swept_by u os own others opens m k w hm hk scans fit at low pos =
      by_put z c n so hn u (λ i x. i < z.seats → x.phase ≡ phase.Scan w → slice_index os k ≡ epoch c)
      (λ hi e. own w e fit at k hk low pos)
      (λ i ne hi e. by_put z c n so hn u
      (λ j y. j < z.seats → j < w.passed → 0 < y.number → slice_index os j ≡ epoch c)
      (λ hj lj p. ⊎_elim (λ old. old.1 ∙ so.swept i n w hi hj e fit at lj old.0) (λ is. is) (opens p))
      (λ j nj hj lj p. others j nj ∙ so.swept i j w hi hj e fit at lj p) k hk low pos)
      m hm scans

  -- the words and the epochs of opening stay
  pub stay : (u : EpochView) → SameLists v u → (u.number ≡ 0 → u.seen ≡ []) → u.number ≡ v.number
      → RegionLaw z.seats (epoch c) (opened_at c n) u → AreSwept z (stepped c n u c.words c.opened)
      → (p : ℕ) → Sound z (stepped c n u (set c.words p (slice_index c.words p)) c.opened)
  stay u same out number own sweeps p = rw (set-get_or c.words p 0)
      (region_sound z c n u c.words c.opened so hn (record {
        len = refl;
        high = λ i h. refl;
        fit = so.fit;
        many = refl;
        opened_others = λ m ne. refl;
        opened_seen = λ s h. refl;
        same = same;
        outside = out;
        limit = so.limit;
        stand = so.stand n hn ∙ sym number;
        stand_others = λ m hm ne. refl;
        own = own;
        others = λ m hm ne. so.regions m hm;
        swept = sweeps;
      }))
