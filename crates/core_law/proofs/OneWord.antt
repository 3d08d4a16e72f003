-- A step by one seat that writes one counter word or one bit of one slot, and changes what its view has of that slot
-- alone.
use Rattle.std.proofs.Common.{◌≡◌, ◌≢◌, ◌⊎◌, inl, ℕ, ◌+◌, ◌*◌, ◌%◌, ◌^◌, ◌<◌, ◌≤◌, true, false, List, length, set, refl, ap, arith}
use Rattle.std.specs.Prelude.{slice_index}
use Rattle.core_events.specs.plain_state.declared.slot.Kind.{Kind}
use Rattle.core_events.specs.plain_state.declared.slot.Kind.TheVariants.{Strong, Weak, Disposal}
use Rattle.core_events.specs.plain_state.declared.slot.SlotId.{SlotId}
use Rattle.core_events.specs.plain_state.Lists.{Entry, times, entry_times}
use Rattle.core_events.specs.declared.shape.Shape.{Shape}
use Rattle.core_events.specs.declared.view.CoreView.{CoreView}
use Rattle.core_events.specs.declared.view.Move.{Move}
use Rattle.core_events.specs.declared.view.Phase.{Phase}
use Rattle.core_events.specs.declared.view.Phase.TheVariants as phase
use Rattle.core_events.specs.Words.{strong_at, weak_at, bits_at, bit_in, ticket_at}
use Rattle.core_events.specs.Views.{allowed_makes, no_view}
use Rattle.core_events.specs.Runs.{Core, view_at}
use Rattle.core_events.specs.Counts.{listed, strong}
use Rattle.core_events.specs.Good.{SeatLaw}
use Rattle.core_law.specs.Sound.{Sound, covering}
use Rattle.core_law.proofs.Kit.{by_slot}
use Rattle.core_law.proofs.Writes.{strong_off, weak_off}
use Rattle.core_law.proofs.Put.{put, still_sound, HasLaw, SlotWords, SameWords, at_seat, Totals, totals, Alike, laws_but, ripe_times}
use Rattle.core_law.proofs.Guards.{guards_same}
use Rattle.core_law.proofs.Steady.{OffRest, steady_seat, steady_sound, keeps_live, KeepsLive, off_rest}
use Rattle.core_law.proofs.Live.{live_one}
use Rattle.core_law.proofs.Phases.{IsAt, not_scan, same_phase}
use Rattle.core_law.proofs.Wrote.{WroteStrong, wrote_strong, strong_other, strong_before, WroteWeak, wrote_weak, weak_other, weak_before, WroteBit, wrote_bit, bit_other, bits_past}
use Rattle.core_law.proofs.Bits.{bits_bound, bits_other}

-- what a step on a counter or a bit may change of a view
pub record Having : Type 0 where
  pub owned : List SlotId
  pub weaks : List SlotId
  pub owed : List Entry
  pub dying : List SlotId
  pub ripe : List SlotId
  pub made : List SlotId
  pub phase : Phase
  pub adds : ℕ
  pub makes : ℕ
  pub trail : List Move

abbrev pub having : CoreView → Having
having v = record {
  owned = v.owned;
  weaks = v.weaks;
  owed = v.owed;
  dying = v.dying;
  ripe = v.ripe;
  made = v.made;
  phase = v.phase;
  adds = v.adds;
  makes = v.makes;
  trail = v.trail;
}

abbrev pub with_having : CoreView → Having → CoreView
with_having v k = record v {
  owned = k.owned;
  weaks = k.weaks;
  owed = k.owed;
  dying = k.dying;
  ripe = k.ripe;
  made = k.made;
  phase = k.phase;
  adds = k.adds;
  makes = k.makes;
  trail = k.trail;
}

-- what the view has of slot x stays
pub record SameOf (x : SlotId) (v : CoreView) (k : Having) : Type 0 where
  pub owned : times x k.owned ≡ times x v.owned
  pub weaks : times x k.weaks ≡ times x v.weaks
  pub owed : (j : Kind) → entry_times j x k.owed ≡ entry_times j x v.owed
  pub dying : times x k.dying ≡ times x v.dying
  pub ripe : times x k.ripe ≡ times x v.ripe
  pub made : times x k.made ≡ times x v.made

pub same_of : {x : SlotId} {v : CoreView} {k : Having} → times x k.owned ≡ times x v.owned
    → times x k.weaks ≡ times x v.weaks
    → ((j : Kind) → entry_times j x k.owed ≡ entry_times j x v.owed)
    → times x k.dying ≡ times x v.dying → times x k.ripe ≡ times x v.ripe
    → times x k.made ≡ times x v.made → SameOf x v k
same_of a b d e f g =
    record { owned = a; weaks = b; owed = d; dying = e; ripe = f; made = g }

-- the seat's view changes in what it has of slot s alone
pub record Touches (z : Shape) (v : CoreView) (s : SlotId) (k : Having) : Type 0 where
  pub here : v.left ≡ true → ⊥
  pub from : IsAt s v.phase
  pub to : IsAt s k.phase
  pub adds : v.adds ≤ k.adds
  pub adds_most : k.adds ≤ v.quota.adds
  pub makes : v.left ≡ false → k.makes ≤ allowed_makes v
  pub starts : (x : SlotId) → (k.phase ≡ phase.Bare x) ⊎ (k.phase ≡ phase.Blank x) → k.adds < v.quota.adds
  pub owed : length k.owed ≤ length v.owed
  pub others : (x : SlotId) → x.0 ≢ s.0 → SameOf x v k
  pub ripe : times s k.ripe ≤ times s k.dying
  pub ripe_most : times s k.ripe ≤ times s v.ripe
  pub kinds : entry_times Disposal s k.owed ≡ entry_times Disposal s v.owed

module _ (z : Shape) (c : Core) (n : ℕ) (so : Sound z c) (hn : n < z.seats) where
  abbrev v : CoreView
  v = view_at c n

  -- the slot is there, or this is another one
  seat_law : (s : SlotId) (k : Having) → s.0 < z.slots → Touches z v s k → SeatLaw z n (with_having v k)
  seat_law s k hs t =
      let law = so.seats n hn in
      steady_seat z n v (with_having v k) law (assumption) (not_scan s v.phase t.from)
      (not_scan s k.phase t.to) t.here t.adds_most t.makes t.starts
      (λ x. by_slot s x (λ y. times y k.ripe ≤ times y k.dying) t.ripe
      (λ ne. let o = t.others x ne in let r = law.ripe x in omega arith))
      (λ x. by_slot s x (λ y. listed Disposal y (with_having v k) ≡ 0)
      (let d = law.kinds s in let e = t.kinds in omega arith)
      (λ ne. let o = (t.others x ne).owed Disposal in let d = law.kinds x in omega arith))
      (λ x le.
      let o = t.others x (omega arith) in
      let os = o.owed Strong in
      let ow = o.owed Weak in
      let od = o.owed Disposal in
      let p = same_phase s v.phase k.phase t.from t.to x (omega arith) in
      let r = law.range x le in omega arith)

  alike_other : (s : SlotId) (k : Having) → Touches z v s k → (x : SlotId) → x.0 ≢ s.0
      → Alike x v (with_having v k)
  alike_other s k t x ne =
      let o = t.others x ne in
      let os = o.owed Strong in
      let ow = o.owed Weak in
      let p = same_phase s v.phase k.phase t.from t.to x ne in omega arith

  ripe_all : (s : SlotId) (k : Having) → Touches z v s k → (x : SlotId) → times x k.ripe ≤ times x v.ripe
  ripe_all s k t x = by_slot s x (λ y. times y k.ripe ≤ times y v.ripe) t.ripe_most
      (λ ne. let o = (t.others x ne).ripe in omega arith)

  -- what lives goes on to, or waits to be destroyed
  live_all : (s : SlotId) (k : Having) (ws : List ℕ) → Touches z v s k
      → ((x : SlotId) → x.0 < z.slots → x.0 ≢ s.0 → SameWords z c.words ws x)
      → (ripe_times c s ≡ 0 → times s v.dying ≤ times s k.dying)
      → covering Disposal z c.words s ≤ covering Disposal z ws s + times s k.dying
      → KeepsLive z c ws v (with_having v k)
  live_all s k ws t same dies lives =
      keeps_live z c n ws (with_having v k) (so.seats n hn) (assumption) (not_scan s v.phase t.from)
      (λ x. by_slot s x (λ y. ripe_times c y ≡ 0 → times y v.dying ≤ times y k.dying) dies
      (λ ne none. let o = (t.others x ne).dying in omega arith))
      (λ x hx. by_slot s x (λ y. covering Disposal z c.words y
      ≤ covering Disposal z ws y + times y k.dying) lives
      (λ ne. let w = ap live_one (same x hx ne).strong in omega arith))

  -- one word is written, off the places and the announcements: what it tells of s is st, wk and bt, and it tells the
  -- same of the other slots
  word_step : (s : SlotId) (k : Having) (p w st wk bt : ℕ) → OffRest z c.words p w → p < ticket_at z
      → s.0 < z.slots → Touches z v s k → SlotWords z c.words (set c.words p w) s st wk bt
      → ((x : SlotId) → x.0 < z.slots → x.0 ≢ s.0 → SameWords z c.words (set c.words p w) x)
      → (ripe_times c s ≡ 0 → times s v.dying ≤ times s k.dying)
      → live_one (strong z c s) ≤ live_one st + times s k.dying
      → (Totals c n (with_having v k) s → SlotWords z c.words (set c.words p w) s st wk bt
      → HasLaw z (put c n (with_having v k) p w) s)
      → Sound z (put c n (with_having v k) p w)
  word_step s k p w st wk bt off before hs t wrote others dies lives law =
      let u : CoreView = with_having v k in
      let e = ap live_one wrote.strong in
      steady_sound z c n u p w so hn off before (seat_law s k hs t)
      (laws_but z c n u (set c.words p w) s so hn t.adds
      (λ x hx ne. (alike_other s k t x ne, others x hx ne)) (law (totals z c n u s so hn) wrote))
      (assumption) t.adds (ripe_all s k t)
      (live_all s k (set c.words p w) t others dies (omega arith)) t.owed

  -- the strong word of s is written
  pub strong_step : (s : SlotId) (k : Having) (w : ℕ) → s.0 < z.slots → w < 2 ^ 64 → Touches z v s k
      → (ripe_times c s ≡ 0 → times s v.dying ≤ times s k.dying)
      → live_one (strong z c s) ≤ live_one w + times s k.dying
      → (Totals c n (with_having v k) s → WroteStrong z c.words s w
      → HasLaw z (put c n (with_having v k) (strong_at z s) w) s)
      → Sound z (put c n (with_having v k) (strong_at z s) w)
  strong_step s k w hs fits t =
      let len = so.words in
      let b = strong_before z s hs in
      word_step s k (strong_at z s) w _ _ _
      (off_rest z c.words (strong_at z s) w (strong_off z s) b fits) (omega arith) hs t
      (wrote_strong z c.words s w hs (omega arith)) (λ x hx ne. strong_other z c.words s w x hs hx ne)

  -- the weak word of s is written
  pub weak_step : (s : SlotId) (k : Having) (w : ℕ) → s.0 < z.slots → w < 2 ^ 64 → Touches z v s k
      → (ripe_times c s ≡ 0 → times s v.dying ≤ times s k.dying)
      → (Totals c n (with_having v k) s → WroteWeak z c.words s w
      → HasLaw z (put c n (with_having v k) (weak_at z s) w) s)
      → Sound z (put c n (with_having v k) (weak_at z s) w)
  weak_step s k w hs fits t dies =
      let len = so.words in
      let b = weak_before z s hs in
      word_step s k (weak_at z s) w _ _ _
      (off_rest z c.words (weak_at z s) w (weak_off z s) b fits) (omega arith) hs t
      (wrote_weak z c.words s w hs (omega arith)) (λ x hx ne. weak_other z c.words s w x hs hx ne)
      dies (omega arith)

  -- the bit of s is written, and no other one
  pub bit_step : (s : SlotId) (k : Having) (w : ℕ) → s.0 < z.slots → w < 2 ^ 64 → Touches z v s k
      → (ripe_times c s ≡ 0 → times s v.dying ≤ times s k.dying)
      → ((x : SlotId) → x.0 % 64 ≢ s.0 % 64 → bit_in x w ≡ bit_in x (slice_index c.words (bits_at z s)))
      → (Totals c n (with_having v k) s → WroteBit z c.words s w
      → HasLaw z (put c n (with_having v k) (bits_at z s) w) s)
      → Sound z (put c n (with_having v k) (bits_at z s) w)
  bit_step s k w hs fits t dies keeps =
      let len = so.words in
      let before = bits_bound z s hs in
      let there : bits_at z s < length c.words = omega arith in
      let off = bits_past z s in
      word_step s k (bits_at z s) w _ _ _
      (record {
        places = off.0;
        notes = off.1;
        fits = fits;
        spare = λ x a b. bits_other z c.words s x w there (omega arith) (keeps x);
      })
      before hs t (wrote_bit z c.words s w hs there)
      (λ x hx ne. bit_other z c.words s w x hx there ne (keeps x)) dies (omega arith)

  -- nothing changes but the trail
  pub trail_step : (t : List Move) (p : ℕ) → Sound z (put c n (record (view_at c n) { trail = t }) p
      (slice_index c.words p))
  trail_step t p =
      let law = so.seats n hn in
      let u : CoreView = record v { trail = t } in
      still_sound z c n u p so hn (assumption law) (assumption) (λ x. omega arith) (λ j. refl)
      (λ j k s hj valid. inl valid)
      (λ m j k s hm hj valid is.
      let g = guards_same (4 * m + j) k s v u refl refl refl in omega arith)
      (λ j s hj valid. inl valid) (λ m j s hm hj valid. omega arith)
      (so.room.each n no_view (at_seat z c n so hn))
