-- Steps on the epoch and on region words: they touch no slot.
use Rattle.std.proofs.Common.{◌≡◌, ◌≢◌, inl, ℕ, ◌+◌, ◌*◌, ◌^◌, ◌<◌, ◌≤◌, false, true, List, [], length, get_or, set, ap, sym, ◌∙◌, arith}
use Rattle.std.specs.Prelude.{slice_index}
use Rattle.std.proofs.lemmas.List.{length-set}
use Rattle.core_law.specs.plain_state.declared.slot.SlotId.{SlotId}
use Rattle.core_law.specs.plain_state.Lists.{times}
use Rattle.core_law.specs.core_events.Counts.{in_word}
use Rattle.core_law.proofs.Kit.{below_same}
use Rattle.epoch_core.specs.declared.shape.EpochShape.{EpochShape}
use Rattle.epoch_core.specs.declared.view.EpochPhase.{EpochPhase}
use Rattle.epoch_core.specs.declared.view.EpochPhase.TheVariants as phase
use Rattle.epoch_core.specs.declared.view.EpochView.{EpochView}
use Rattle.epoch_core.specs.Views.{no_view}
use Rattle.epoch_core.specs.Words.{cell_at, field_at, count_at, epoch_at, region_at, last_epoch}
use Rattle.epoch_core.specs.Runs.{Core, view_at, opened_at}
use Rattle.epoch_core.specs.Counts.{guarding, places, witness, listed, undated, filling, fields_holding}
use Rattle.epoch_core.specs.Sound.{Sound, SeatLaw, RegionLaw, AreSwept}
use Rattle.epoch_core.proofs.Put.{stepped, Alike, by_put, law_alike, moves}

-- a phase that has no slot
pub record HasNoSlot (p : EpochPhase) : Type 0 where
  pub undated : (s : SlotId) → undated s p ≡ 0
  pub filling : (s : SlotId) → filling s p ≡ 0

-- what such a step leaves of a view
pub record SameLists (v u : EpochView) : Type 0 where
  pub seat : u.seat ≡ v.seat
  pub shape : u.shape ≡ v.shape
  pub quota : u.quota ≡ v.quota
  pub owned : u.owned ≡ v.owned
  pub pending : u.pending ≡ v.pending
  pub dying : u.dying ≡ v.dying
  pub made : u.made ≡ v.made
  pub adds : u.adds ≡ v.adds
  pub makes : u.makes ≡ v.makes
  pub here : v.left ≡ false
  pub left : u.left ≡ v.left
  pub before : HasNoSlot v.phase
  pub after : HasNoSlot u.phase
  pub not_blank : (s : SlotId) → u.phase ≡ phase.Blank s → ⊥
  pub seen : (s : SlotId) → times s u.seen ≤ times s v.seen

-- what such a step has to show
pub record OnRegion (z : EpochShape) (c : Core) (n : ℕ) (u : EpochView) (ws os : List ℕ)
    : Type 0 where
  pub len : length ws ≡ length c.words
  pub high : (i : ℕ) → 8 + 8 * z.seats ≤ i → slice_index ws i ≡ slice_index c.words i
  pub fit : (i : ℕ) → slice_index ws i < 2 ^ 64
  pub many : length os ≡ length c.opened
  pub opened_others : (m : ℕ) → m ≢ n → slice_index os m ≡ opened_at c m
  pub opened_seen : (s : SlotId) → 0 < times s u.seen → slice_index os n ≡ opened_at c n
  pub same : SameLists (view_at c n) u
  pub outside : u.number ≡ 0 → u.seen ≡ []
  pub limit : slice_index ws epoch_at ≤ last_epoch
  pub stand : slice_index ws (region_at n) ≡ u.number
  pub stand_others :
      (m : ℕ) → m < z.seats → m ≢ n → slice_index ws (region_at m) ≡ slice_index c.words (region_at m)
  pub own : RegionLaw z.seats (slice_index ws epoch_at) (slice_index os n) u
  pub others :
      (m : ℕ) → m < z.seats → m ≢ n
      → RegionLaw z.seats (slice_index ws epoch_at) (opened_at c m) (view_at c m)
  pub swept : AreSwept z (stepped c n u ws os)

-- words past the regions that stay leave the places
places_high : (z : EpochShape) (ws ws' : List ℕ)
    → ((i : ℕ) → 8 + 8 * z.seats ≤ i → slice_index ws' i ≡ slice_index ws i)
    → (s : SlotId) → places z ws' s ≡ places z ws s
places_high z ws ws' high s =
    let a = below_same z.cells (λ i. in_word s (slice_index ws (cell_at z i)))
    (λ i. in_word s (slice_index ws' (cell_at z i)))
    (λ i h. ap (in_word s) (high (cell_at z i) (omega arith))) in
    let b = below_same z.slots (fields_holding z ws s) (fields_holding z ws' s)
    (λ x h.
    let f = ap (in_word s) (high (field_at z (record { 0 = x }) 0) (omega arith)) in
    let g = ap (in_word s) (high (field_at z (record { 0 = x }) 1) (omega arith)) in omega arith) in
    omega arith

module _ (z : EpochShape) (c : Core) (n : ℕ) (u : EpochView) (ws os : List ℕ) (so : Sound z c)
    (hn : n < z.seats) (q : OnRegion z c n u ws os) where
  abbrev v : EpochView
  v = view_at c n

  same_listed : (s : SlotId) → listed s u ≡ listed s v
  same_listed s =
      let a = q.same.before.undated s in
      let b = q.same.after.undated s in
      rw (q.same.owned, q.same.pending) (omega arith)

  same_guard : (g : ℕ) (s : SlotId) → guarding g s u ≡ guarding g s v
  same_guard g s =
      let a = q.same.before.undated s in
      let b = q.same.after.undated s in
      rw (q.same.pending) (omega arith)

  seat_law : SeatLaw z n u
  seat_law =
      let law = so.seats n hn in
      record {
        number = q.same.seat ∙ law.number;
        same_shape = q.same.shape ∙ law.same_shape;
        quota = rw q.same.quota law.quota;
        adds = rw (q.same.quota, q.same.adds) law.adds;
        makes = rw (q.same.quota, q.same.makes) law.makes;
        can_start = λ s e. absurd (q.same.not_blank s e);
        range = λ s le.
            let l = same_listed s in
            let a = q.same.before.filling s in
            let b = q.same.after.filling s in
            let d = ap (times s) q.same.dying in
            let m = ap (times s) q.same.made in
            let t = q.same.seen s in
            let r = law.range s le in omega arith;
        outside = q.outside;
        gone = λ e. let l : false ≡ true = sym q.same.here ∙ (sym q.same.left ∙ e) in absurd cc;
      }

  alike : (x : SlotId) → x.0 < z.slots → Alike z c n ws x u
  alike x hx =
      let p = places_high z c.words ws q.high x in
      let l = same_listed x in
      let a = q.same.before.filling x in
      let b = q.same.after.filling x in
      let f = q.high (field_at z x 0) (omega arith) in
      let g = q.high (field_at z x 1) (omega arith) in
      record {
        word = q.high (count_at z x) (omega arith);
        counted = omega arith;
        fill = omega arith;
        dyi = ap (times x) q.same.dying;
        fields = inl (omega arith);
      }

  witness_stays : (g : ℕ) (s : SlotId) → witness z g c s ≡ witness z g (stepped c n u ws os) s
  witness_stays g s =
      let t = moves z c n u (guarding g s) so hn in
      let a = t.0 in
      let e = same_guard g s in
      let p = places_high z c.words ws q.high s in omega arith

  seen_new : (m : ℕ) (s : SlotId) → m < z.seats → 0 < times s (get_or (set c.views n u) m no_view).seen
      → 0 < witness z (slice_index os m) (stepped c n u ws os) s
  seen_new m s = by_put z c n so hn u
      (λ i x. i < z.seats → 0 < times s x.seen
      → 0 < witness z (slice_index os i) (stepped c n u ws os) s)
      (λ hi h. rw (q.opened_seen s h)
      (let less = q.same.seen s in
      let w = so.seen n s hi (omega arith) in
      let e = witness_stays (opened_at c n) s in omega arith))
      (λ i ne hi h. rw (q.opened_others i ne)
      (let w = so.seen i s hi h in
      let e = witness_stays (opened_at c i) s in omega arith)) m

  pub region_sound : Sound z (stepped c n u ws os)
  region_sound = record {
    shape = so.shape;
    words = q.len ∙ so.words;
    views = length-set c.views n u ∙ so.views;
    opened = q.many ∙ so.opened;
    seats = λ m hm. by_put z c n so hn u (λ i x. i < z.seats → SeatLaw z i x) (λ _. seat_law)
        (λ i ne hi. so.seats i hi) m hm;
    slots = λ x hx. law_alike z c n u ws os x so hn (let a = q.same.adds in omega arith) (alike x hx) hx;
    limit = q.limit;
    stand = λ m hm. by_put z c n so hn u (λ i x. i < z.seats → slice_index ws (region_at i) ≡ x.number)
        (λ _. q.stand) (λ i ne hi. q.stand_others i hi ne ∙ so.stand i hi) m hm;
    regions = λ m hm. by_put z c n so hn u
        (λ i x. i < z.seats → RegionLaw z.seats (slice_index ws epoch_at) (slice_index os i) x)
        (λ _. q.own) (λ i ne hi. rw (q.opened_others i ne) (q.others i hi ne)) m hm;
    swept = q.swept;
    seen = seen_new;
    range = λ s le. places_high z c.words ws q.high s ∙ so.range s le;
    fit = q.fit;
  }
