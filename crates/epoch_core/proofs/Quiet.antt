-- Steps that write neither the epoch nor a region word, of a seat that is neither entering nor scanning.
use Rattle.std.proofs.Common.{◌≡◌, ◌⊎◌, ⊎_elim, ℕ, zero, suc, ◌+◌, ◌*◌, ◌^◌, ◌<◌, ◌≤◌, true, List, length, get_or, set, refl, ap, sym, ◌∙◌, arith}
use Rattle.std.specs.Prelude.{slice_index}
use Rattle.std.proofs.lemmas.List.{length-set}
use Rattle.std.proofs.lemmas.Bool.{cases_lt}
use Rattle.core_law.specs.plain_state.declared.slot.SlotId.{SlotId}
use Rattle.core_law.specs.plain_state.Lists.{times}
use Rattle.epoch_core.specs.declared.act.Dated.{Dated}
use Rattle.epoch_core.specs.declared.shape.EpochShape.{EpochShape}
use Rattle.epoch_core.specs.declared.view.EpochPhase.{EpochPhase}
use Rattle.epoch_core.specs.declared.view.EpochPhase.TheVariants as phase
use Rattle.epoch_core.specs.declared.view.EpochView.{EpochView}
use Rattle.epoch_core.specs.declared.view.Sweep.{Sweep}
use Rattle.epoch_core.specs.Views.{no_view}
use Rattle.epoch_core.specs.Words.{epoch_at, region_at}
use Rattle.epoch_core.specs.Steps.{dated_times}
use Rattle.epoch_core.specs.Runs.{Core, view_at, opened_at, epoch}
use Rattle.epoch_core.specs.Counts.{guarding, places, witness}
use Rattle.core_law.proofs.Kit.{times_none}
use Rattle.epoch_core.specs.Sound.{Sound, SeatLaw, RegionLaw}
use Rattle.epoch_core.proofs.Put.{stepped, HasLaw, by_put, guards_stay}

-- a phase of a seat that neither enters nor scans
pub record IsQuiet (p : EpochPhase) : Type 0 where
  pub not_entering : (x : ℕ) → p ≡ phase.Entering x → ⊥
  pub not_scanning : (w : Sweep) → p ≡ phase.Scan w → ⊥

-- what a step that touches no region leaves of a view
pub record SameRegion (v u : EpochView) : Type 0 where
  pub number : u.number ≡ v.number
  pub known : u.known ≡ v.known
  pub before : IsQuiet v.phase
  pub after : IsQuiet u.phase

-- what a step that touches no region has to show of words and of the seat
pub record Quiet (z : EpochShape) (c : Core) (n : ℕ) (u : EpochView) (ws : List ℕ) : Type 0 where
  pub len : length ws ≡ length c.words
  pub low : (i : ℕ) → i < 8 + 8 * z.seats → slice_index ws i ≡ slice_index c.words i
  pub fit : (i : ℕ) → slice_index ws i < 2 ^ 64
  pub same : SameRegion (view_at c n) u
  pub law : SeatLaw z n u
  pub dates : (d : Dated) → 0 < dated_times d u.pending → d.date ≤ epoch c
  pub guards :
      (g : ℕ) (x : SlotId) → g ≤ epoch c → epoch c ≤ g + 1 → x.0 < z.slots
      → guarding g x (view_at c n) + places z c.words x ≤ guarding g x u + places z ws x
  pub seen :
      (x : SlotId) → 0 < times x u.seen
      → (0 < times x (view_at c n).seen) ⊎ (0 < places z ws x)
  pub range : (x : SlotId) → z.slots ≤ x.0 → places z ws x ≡ 0
  pub slots : (x : SlotId) → x.0 < z.slots → HasLaw z (stepped c n u ws c.opened) x

-- a number that isn't 0
pub not_zero : (k : ℕ) → (k ≡ 0 → ⊥) → 0 < k
not_zero zero never = absurd (never refl)
not_zero (suc k) never = omega arith

-- a seat that has seen a slot is inside a region, and the slot is there
pub seen_inside : (z : EpochShape) (m : ℕ) (v : EpochView) (s : SlotId) → SeatLaw z m v
    → 0 < times s v.seen → (0 < v.number) × (s.0 < z.slots)
seen_inside z m v s law h = (
  not_zero v.number (λ none. let e = ap (times s) (law.outside none) in
      let t = times_none s in absurd (omega arith)),
  ⊎_elim (λ lt. lt) (λ le. let r = law.range s le in absurd (omega arith)) (cases_lt s.0 z.slots),
)

module _ (z : EpochShape) (c : Core) (n : ℕ) (u : EpochView) (ws : List ℕ) (so : Sound z c)
    (hn : n < z.seats) (q : Quiet z c n u ws) where
  abbrev v : EpochView
  v = view_at c n

  same_epoch : slice_index ws epoch_at ≡ epoch c
  same_epoch = q.low epoch_at (omega arith)

  stand_here : slice_index ws (region_at n) ≡ u.number
  stand_here = q.low (region_at n) (omega arith) ∙ (so.stand n hn ∙ sym q.same.number)

  stand_there : (m : ℕ) → m < z.seats → slice_index ws (region_at m) ≡ (view_at c m).number
  stand_there m hm = q.low (region_at m) (omega arith) ∙ so.stand m hm

  region_here : RegionLaw z.seats (epoch c) (opened_at c n) u
  region_here =
      let r = so.regions n hn in
      record {
        read = λ x e. absurd (q.same.after.not_entering x e);
        stored = λ pos. let e = q.same.number in let t = r.stored (omega arith) in omega arith;
        behind = λ w e. absurd (q.same.after.not_scanning w e);
        known = let e = q.same.known in let k = r.known in omega arith;
        dates = q.dates;
      }

  swept_old : (m k : ℕ) (w : Sweep) → m < z.seats → k < z.seats
      → (view_at c m).phase ≡ phase.Scan w → w.fit ≡ true → w.epoch ≡ epoch c → k < w.passed
      → 0 < (get_or (set c.views n u) k no_view).number → opened_at c k ≡ epoch c
  swept_old m k w hm hk scans fit at low =
      by_put z c n so hn u (λ i x. i < z.seats → i < w.passed → 0 < x.number → opened_at c i ≡ epoch c)
      (λ hi li pos. so.swept m n w hm hi scans fit at li (let e = q.same.number in omega arith))
      (λ i ne hi li pos. so.swept m i w hm hi scans fit at li pos) k hk low

  swept_new : (m k : ℕ) (w : Sweep) → m < z.seats → k < z.seats
      → (get_or (set c.views n u) m no_view).phase ≡ phase.Scan w → w.fit ≡ true
      → w.epoch ≡ epoch c → k < w.passed
      → 0 < (get_or (set c.views n u) k no_view).number → opened_at c k ≡ epoch c
  swept_new m k w hm hk scans fit at low pos =
      by_put z c n so hn u (λ i x. i < z.seats → x.phase ≡ phase.Scan w → opened_at c k ≡ epoch c)
      (λ hi e. absurd (q.same.after.not_scanning w e))
      (λ i ne hi e. swept_old i k w hi hk e fit at low pos) m hm scans

  -- what was seen stays guarded
  seen_old : (m : ℕ) (s : SlotId) → m < z.seats → 0 < times s (view_at c m).seen
      → 0 < witness z (opened_at c m) (stepped c n u ws c.opened) s
  seen_old m s hm h =
      let i = seen_inside z m (view_at c m) s (so.seats m hm) h in
      let r = (so.regions m hm).stored i.0 in
      let w = so.seen m s hm h in
      let g = guards_stay z c n u ws c.opened (opened_at c m) s so hn
      (q.guards (opened_at c m) s r.1 r.2 i.1) in omega arith

  seen_new : (m : ℕ) (s : SlotId) → m < z.seats → 0 < times s (get_or (set c.views n u) m no_view).seen
      → 0 < witness z (opened_at c m) (stepped c n u ws c.opened) s
  seen_new m s = by_put z c n so hn u
      (λ i x. i < z.seats → 0 < times s x.seen
      → 0 < witness z (opened_at c i) (stepped c n u ws c.opened) s)
      (λ hi h. ⊎_elim (λ old. seen_old n s hi old) (λ pos. omega arith) (q.seen s h))
      (λ i ne hi h. seen_old i s hi h) m

  pub quiet_sound : Sound z (stepped c n u ws c.opened)
  quiet_sound = record {
    shape = so.shape;
    words = q.len ∙ so.words;
    views = length-set c.views n u ∙ so.views;
    opened = so.opened;
    seats = λ m hm. by_put z c n so hn u (λ i x. i < z.seats → SeatLaw z i x) (λ _. q.law)
        (λ i ne hi. so.seats i hi) m hm;
    slots = q.slots;
    limit = let e = same_epoch in let l = so.limit in omega arith;
    stand = λ m hm. by_put z c n so hn u (λ i x. i < z.seats → slice_index ws (region_at i) ≡ x.number)
        (λ _. stand_here) (λ i ne hi. stand_there i hi) m hm;
    regions = λ m hm. rw same_epoch (by_put z c n so hn u
        (λ i x. i < z.seats → RegionLaw z.seats (epoch c) (opened_at c i) x)
        (λ _. region_here) (λ i ne hi. so.regions i hi) m hm);
    swept = λ m k w hm hk scans fit at low pos.
        swept_new m k w hm hk scans fit (at ∙ same_epoch) low pos ∙ sym same_epoch;
    seen = λ m s hm h. seen_new m s hm h;
    range = q.range;
    fit = q.fit;
  }
