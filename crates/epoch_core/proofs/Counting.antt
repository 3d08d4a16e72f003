-- Steps on the count word of one slot: what is enough for the invariant to stay.
use Rattle.std.proofs.Common.{◌≡◌, ◌≢◌, ◌⊎◌, inl, ℕ, ◌+◌, ◌^◌, ◌<◌, ◌≤◌, false, true, List, set, refl, sym, ◌∙◌, arith}
use Rattle.std.specs.Prelude.{slice_index}
use Rattle.std.proofs.lemmas.List.{length-set, get_or-set_same, get_or-set_other, set-get_or}
use Rattle.core_law.specs.plain_state.declared.slot.SlotId.{SlotId}
use Rattle.core_law.specs.plain_state.Lists.{times}
use Rattle.epoch_core.specs.declared.act.Dated.{Dated}
use Rattle.epoch_core.specs.declared.shape.EpochShape.{EpochShape}
use Rattle.epoch_core.specs.declared.view.EpochMove.{EpochMove}
use Rattle.epoch_core.specs.declared.view.EpochPhase.{EpochPhase}
use Rattle.epoch_core.specs.declared.view.EpochPhase.TheVariants as phase
use Rattle.epoch_core.specs.declared.view.EpochView.{EpochView}
use Rattle.epoch_core.specs.Words.{count_at}
use Rattle.epoch_core.specs.Steps.{dated_times}
use Rattle.epoch_core.specs.Runs.{Core, view_at, epoch}
use Rattle.epoch_core.specs.Counts.{listed, filling, guarding, naming, places, adds_used}
use Rattle.epoch_core.specs.Slots.{numbers, SlotLaw, fields_sum}
use Rattle.epoch_core.specs.Sound.{Sound, SeatLaw}
use Rattle.epoch_core.proofs.Writes.{count_off, places_off, fields_sum_off}
use Rattle.epoch_core.proofs.Put.{stepped, Alike, Totals, totals, law_alike, laws_but, fit_set}
use Rattle.epoch_core.proofs.Quiet.{IsQuiet, SameRegion, quiet_sound}

-- what a step may change of a view that touches no region
pub record Having : Type 0 where
  pub owned : List SlotId
  pub pending : List Dated
  pub dying : List SlotId
  pub made : List SlotId
  pub phase : EpochPhase
  pub adds : ℕ
  pub makes : ℕ
  pub trail : List EpochMove

abbrev pub having : EpochView → Having
having v = record {
  owned = v.owned;
  pending = v.pending;
  dying = v.dying;
  made = v.made;
  phase = v.phase;
  adds = v.adds;
  makes = v.makes;
  trail = v.trail;
}

abbrev pub with_having : EpochView → Having → EpochView
with_having v k = record v {
  owned = k.owned;
  pending = k.pending;
  dying = k.dying;
  made = k.made;
  phase = k.phase;
  adds = k.adds;
  makes = k.makes;
  trail = k.trail;
}

-- what the view has of slot x stays
pub record SameOf (x : SlotId) (v : EpochView) (k : Having) : Type 0 where
  pub listed : listed x (with_having v k) ≡ listed x v
  pub dying : times x k.dying ≡ times x v.dying
  pub made : times x k.made ≡ times x v.made
  pub filling : filling x k.phase ≡ filling x v.phase

-- the seat's view changes in what it has of slot s alone, and no entry that guards goes
pub record Touches (e : ℕ) (v : EpochView) (s : SlotId) (k : Having) : Type 0 where
  pub here : v.left ≡ false
  pub before : IsQuiet v.phase
  pub after : IsQuiet k.phase
  pub adds : v.adds ≤ k.adds
  pub adds_most : k.adds ≤ v.quota.adds
  pub makes : k.makes ≤ v.quota.makes
  pub starts : (x : SlotId) → k.phase ≡ phase.Blank x → k.adds < v.quota.adds
  pub dates : (d : Dated) → 0 < dated_times d k.pending → d.date ≤ e
  pub guards :
      (g : ℕ) (x : SlotId) → g ≤ e → e ≤ g + 1
      → guarding g x v ≤ guarding g x (with_having v k)
  pub others : (x : SlotId) → x.0 ≢ s.0 → SameOf x v k

module _ (z : EpochShape) (c : Core) (n : ℕ) (so : Sound z c) (hn : n < z.seats) where
  abbrev v : EpochView
  v = view_at c n

  -- what holds of the seat by itself
  pub seat_having : (k : Having) → v.left ≡ false → k.adds ≤ v.quota.adds → k.makes ≤ v.quota.makes
      → ((x : SlotId) → k.phase ≡ phase.Blank x → k.adds < v.quota.adds)
      → ((x : SlotId) → z.slots ≤ x.0 → naming x (with_having v k) ≡ 0)
      → SeatLaw z n (with_having v k)
  seat_having k here adds makes starts range =
      let law = so.seats n hn in
      record {
        number = law.number;
        same_shape = law.same_shape;
        quota = law.quota;
        adds = adds;
        makes = makes;
        can_start = starts;
        range = range;
        outside = law.outside;
        gone = λ e. let no : false ≡ true = sym here ∙ e in absurd cc;
      }

  -- the slot is there
  seat_law : (s : SlotId) (k : Having) → s.0 < z.slots → Touches (epoch c) v s k
      → SeatLaw z n (with_having v k)
  seat_law s k hs t = seat_having k t.here t.adds_most t.makes t.starts
      (λ x le.
      let o = t.others x (omega arith) in
      let a = o.listed in
      let b = o.dying in
      let d = o.made in
      let f = o.filling in
      let r = (so.seats n hn).range x le in omega arith)

  -- the count word of s is written
  pub count_step : (s : SlotId) (k : Having) (w : ℕ) → s.0 < z.slots → w < 2 ^ 64
      → Touches (epoch c) v s k
      → (Totals c n (with_having v k) s
      → places z (set c.words (count_at z s) w) s ≡ places z c.words s
      → SlotLaw (adds_used (stepped c n (with_having v k) (set c.words (count_at z s) w) c.opened))
      (record (numbers z (stepped c n (with_having v k) (set c.words (count_at z s) w) c.opened) s)
      { word = w; fields = fields_sum z c.words s }))
      → Sound z (stepped c n (with_having v k) (set c.words (count_at z s) w) c.opened)
  count_step s k w hs fits t law =
      let len = so.words in
      let u : EpochView = with_having v k in
      let ws : List ℕ = set c.words (count_at z s) w in
      let put = get_or-set_same c.words (count_at z s) w 0 (omega arith) in
      let kept = fields_sum_off z c.words (count_at z s) w s (λ i h. omega arith) in
      quiet_sound z c n u ws so hn (record {
        len = length-set c.words (count_at z s) w;
        low = λ i h. get_or-set_other c.words (count_at z s) i w 0 (omega arith);
        fit = fit_set z c (count_at z s) w so fits;
        same = record { number = refl; known = refl; before = t.before; after = t.after };
        law = seat_law s k hs t;
        dates = t.dates;
        guards = λ g x a b hx.
            let p = places_off z c.words (count_at z s) w (count_off z s) x in
            let le = t.guards g x a b in omega arith;
        seen = λ x h. inl h;
        range = λ x le. places_off z c.words (count_at z s) w (count_off z s) x ∙ so.range x le;
        slots = laws_but z c n u ws c.opened s so hn t.adds
            (λ x hx ne.
            let o = t.others x ne in
            let p = places_off z c.words (count_at z s) w (count_off z s) x in
            let a = o.listed in
            record {
              word = get_or-set_other c.words (count_at z s) (count_at z x) w 0 (omega arith);
              counted = omega arith;
              fill = o.filling;
              dyi = o.dying;
              fields = inl (fields_sum_off z c.words (count_at z s) w x (λ i h. omega arith));
            })
            (rw (put, kept) (law (totals z c n u s so hn)
            (places_off z c.words (count_at z s) w (count_off z s) s)));
      })

  -- no word is written, and every slot is referred to as before
  pub still_step : (u : EpochView) (p : ℕ) → SameRegion v u → SeatLaw z n u → v.adds ≤ u.adds
      → ((d : Dated) → 0 < dated_times d u.pending → d.date ≤ epoch c)
      → ((g : ℕ) (x : SlotId) → g ≤ epoch c → epoch c ≤ g + 1 → guarding g x v ≤ guarding g x u)
      → ((x : SlotId) → 0 < times x u.seen → (0 < times x v.seen) ⊎ (0 < places z c.words x))
      → ((x : SlotId) → x.0 < z.slots → Alike z c n c.words x u)
      → Sound z (stepped c n u (set c.words p (slice_index c.words p)) c.opened)
  still_step u p same law adds dates guards seen alike = rw (set-get_or c.words p 0)
      (quiet_sound z c n u c.words so hn (record {
        len = refl;
        low = λ i h. refl;
        fit = so.fit;
        same = same;
        law = law;
        dates = dates;
        guards = λ g x a b hx. let le = guards g x a b in omega arith;
        seen = seen;
        range = so.range;
        slots = λ x hx. law_alike z c n u c.words c.opened x so hn adds (alike x hx) hx;
      }))
