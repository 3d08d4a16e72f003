-- A flush reads the epoch and all region words, and may advance the epoch.
use Rattle.std.proofs.Common.{◌≡◌, ◌≢◌, inl, ⊎_elim, ℕ, ◌+◌, ◌<◌, Bool, true, List, set, refl, ap, sym, ◌∙◌, arith}
use Rattle.std.specs.Prelude.{slice_index, ◌==◌, nat_lt, ◌&&◌, not}
use Rattle.std.proofs.lemmas.List.{length-set, get_or-set_same, get_or-set_other}
use Rattle.std.proofs.lemmas.Bool.{cases_eq}
use Rattle.std.proofs.lemmas.Bool.Decides.{nat_tests}
use Rattle.core_law.specs.plain_state.declared.slot.SlotId.{SlotId}
use Rattle.core_law.proofs.Kit.{by_test}
use Rattle.epoch_core.specs.declared.act.EpochAct.TheVariants as act
use Rattle.epoch_core.specs.declared.shape.EpochShape.{EpochShape}
use Rattle.epoch_core.specs.declared.view.EpochMove.{EpochMove}
use Rattle.epoch_core.specs.declared.view.EpochPhase.{EpochPhase}
use Rattle.epoch_core.specs.declared.view.EpochPhase.TheVariants as phase
use Rattle.epoch_core.specs.declared.view.EpochView.{EpochView}
use Rattle.epoch_core.specs.declared.view.Sweep.{Sweep}
use Rattle.epoch_core.specs.Words.{epoch_at, region_at, last_epoch}
use Rattle.epoch_core.specs.Steps.{May, is_fit}
use Rattle.epoch_core.specs.Runs.{Core, view_at, opened_at, epoch, after}
use Rattle.epoch_core.specs.Sound.{Sound, RegionLaw}
use Rattle.epoch_core.proofs.Put.{stepped, by_put, fit_set}
use Rattle.epoch_core.proofs.Regions.{HasNoSlot, SameLists, region_sound}
use Rattle.epoch_core.proofs.Swept.{not_left, no_slot_idle, no_slot_scan, swept_by, stay}

-- a region word that is fit, and isn't 0
fit_number : (e x : ℕ) → 0 < x → is_fit e x ≡ true → x ≡ e + 1
fit_number e x pos good = grind (arith, nat_tests)

-- the parts of a scan under way
sweep_same : (x w : Sweep) → phase.Scan x ≡ phase.Scan w → x ≡ w
sweep_same x w e = cc

module _ (z : EpochShape) (c : Core) (n : ℕ) (so : Sound z c) (hn : n < z.seats) where
  abbrev v : EpochView
  v = view_at c n

  -- what a flush's own steps leave of the view
  same_lists : (w : Sweep) → v.phase ≡ phase.Scan w → (p : EpochPhase) (known : ℕ) (t : List EpochMove)
      → HasNoSlot p → ((s : SlotId) → p ≡ phase.Blank s → ⊥)
      → SameLists v (record v { known = known; phase = p; trail = t })
  same_lists w is p known t none not_blank = record {
    seat = refl;
    shape = refl;
    quota = refl;
    owned = refl;
    pending = refl;
    dying = refl;
    made = refl;
    adds = refl;
    makes = refl;
    here = not_left z n v (so.seats n hn)
        (λ e. let no : phase.Scan w ≡ phase.Idle = sym is ∙ e in absurd cc);
    left = refl;
    before = no_slot_scan v.phase w is;
    after = none;
    not_blank = not_blank;
    seen = λ s. omega arith;
  }

  -- A FLUSH READS
  pub flush_keeps : May z act.Flush v → Sound z (after z c n act.Flush)
  flush_keeps may =
      let r = so.regions n hn in
      let some = so.shape.0 in
      stay z c n so hn _ (record {
        seat = refl;
        shape = refl;
        quota = refl;
        owned = refl;
        pending = refl;
        dying = refl;
        made = refl;
        adds = refl;
        makes = refl;
        here = may.1;
        left = refl;
        before = no_slot_idle v.phase may.0;
        after = record { undated = λ s. refl; filling = λ s. refl };
        not_blank = λ s e. absurd cc;
        seen = λ s. omega arith;
      }) (so.seats n hn).outside refl
      (record {
        read = λ x e. absurd cc;
        stored = r.stored;
        behind = λ w e.
            let s = sweep_same _ w e in
            let a : epoch c ≡ w.epoch = ap (λ (y : Sweep). y.epoch) s in
            let b : 0 ≡ w.passed = ap (λ (y : Sweep). y.passed) s in
            (omega arith, omega arith, λ full. absurd (omega arith));
        known = r.known;
        dates = r.dates;
      })
      (swept_by z c n so hn _ c.opened
      (λ w e fit at k hk low pos.
      let b : 0 ≡ w.passed = ap (λ (y : Sweep). y.passed) (sweep_same _ w e) in absurd (omega arith))
      (λ k ne. refl) (λ pos. inl (pos, refl)))
      epoch_at

  -- A FLUSH READS A REGION WORD
  -- the flush ends with the epoch that it read
  ends : (w : Sweep) (t : List EpochMove) → v.phase ≡ phase.Scan w
      → Sound z (stepped c n (record v { known = w.epoch; phase = phase.Idle; trail = t })
      (set c.words (region_at w.passed) (slice_index c.words (region_at w.passed))) c.opened)
  ends w t is =
      let law = so.seats n hn in
      let r = so.regions n hn in
      let b = r.behind w is in
      stay z c n so hn _ (same_lists w is phase.Idle _ t (no_slot_idle phase.Idle refl) (λ s e. absurd cc)) law.outside refl
      (record {
        read = λ x e. absurd cc;
        stored = r.stored;
        behind = λ x e. absurd cc;
        known = b.0;
        dates = r.dates;
      })
      (swept_by z c n so hn _ c.opened (λ x e. absurd cc) (λ k ne. refl) (λ pos. inl (pos, refl)))
      (region_at w.passed)

  -- it goes on
  goes_on : (w : Sweep) (t : List EpochMove) (fit : Bool) → v.phase ≡ phase.Scan w → w.passed < z.seats
      → (w.passed + 1 ≡ z.seats → (fit ≡ true) × (w.epoch < last_epoch))
      → (fit ≡ true → (w.fit ≡ true) × (is_fit w.epoch (slice_index c.words (region_at w.passed)) ≡ true))
      → Sound z (stepped c n
      (record v {
        phase = phase.Scan (record { epoch = w.epoch; passed = w.passed + 1; fit = fit });
        trail = t;
      })
      (set c.words (region_at w.passed) (slice_index c.words (region_at w.passed))) c.opened)
  goes_on w t fit is hp full fits =
      let law = so.seats n hn in
      let r = so.regions n hn in
      let b = r.behind w is in
      stay z c n so hn _ (same_lists w is _ v.known t (no_slot_scan _ _ refl) (λ s e. absurd cc)) law.outside refl
      (record {
        read = λ x e. absurd cc;
        stored = r.stored;
        behind = λ x e.
            let s = sweep_same _ x e in
            let a : w.epoch ≡ x.epoch = ap (λ (y : Sweep). y.epoch) s in
            let p : w.passed + 1 ≡ x.passed = ap (λ (y : Sweep). y.passed) s in
            let f : fit ≡ x.fit = ap (λ (y : Sweep). y.fit) s in (
              omega arith,
              omega arith,
              λ all. let g = full (omega arith) in (sym f ∙ g.0, omega arith),
            );
        known = r.known;
        dates = r.dates;
      })
      (swept_by z c n so hn _ c.opened
      (λ x e fit' at k hk low pos.
      let s = sweep_same _ x e in
      let a : w.epoch ≡ x.epoch = ap (λ (y : Sweep). y.epoch) s in
      let p : w.passed + 1 ≡ x.passed = ap (λ (y : Sweep). y.passed) s in
      let f : fit ≡ x.fit = ap (λ (y : Sweep). y.fit) s in
      let g = fits (f ∙ fit') in
      passed w is g.0 g.1 (omega arith) k hk (omega arith)
      (by_put z c n so hn _ (λ i y. 0 < y.number → 0 < (view_at c i).number) (λ q. q) (λ i ne q. q) k pos))
      (λ k ne. refl) (λ pos. inl (pos, refl)))
      (region_at w.passed)
    where
      -- each open region among those that the scan has passed, the one just read among them, was opened at this epoch
      passed : (w : Sweep) → v.phase ≡ phase.Scan w → w.fit ≡ true
          → is_fit w.epoch (slice_index c.words (region_at w.passed)) ≡ true → w.epoch ≡ epoch c
          → (k : ℕ) → k < z.seats → k < w.passed + 1 → 0 < (view_at c k).number → opened_at c k ≡ epoch c
      passed w is fit ok at k hk low pos = ⊎_elim
          (λ (e : k ≡ w.passed).
          let st = so.stand k hk in
          let word : slice_index c.words (region_at w.passed) ≡ (view_at c k).number = rw (sym e) st in
          let stored = (so.regions k hk).stored pos in
          let good : is_fit w.epoch (view_at c k).number ≡ true = rw (sym word) ok in
          let is : (view_at c k).number ≡ w.epoch + 1 = fit_number w.epoch (view_at c k).number pos good in
          omega arith)
          (λ (ne : k ≢ w.passed). so.swept n k w hn hk is fit at (omega arith) pos)
          (cases_eq k w.passed)

  pub scan_keeps : May z act.Scan v → Sound z (after z c n act.Scan)
  scan_keeps may =
      let w : Sweep = may.0 in
      let x : ℕ = slice_index c.words (region_at w.passed) in
      rw may.1 (by_test
      (w.passed + 1 == z.seats && not ((w.fit && is_fit w.epoch x) && nat_lt w.epoch last_epoch))
      (λ done. rw done (ends w _ may.1))
      (λ more. rw more (goes_on w _ (w.fit && is_fit w.epoch x) may.1 may.2
      (λ all. (grind (arith, nat_tests), grind (arith, nat_tests)))
      (λ both. (grind (arith, nat_tests), grind (arith, nat_tests))))))

  -- A FLUSH ADVANCES THE EPOCH
  -- the epoch is the one that it read: it may advance, since each open region was opened at this epoch
  advanced : (w : Sweep) (t : List EpochMove) → v.phase ≡ phase.Scan w → w.passed ≡ z.seats
      → w.epoch ≡ epoch c
      → Sound z (stepped c n (record v { known = w.epoch + 1; phase = phase.Idle; trail = t })
      (set c.words epoch_at (w.epoch + 1)) c.opened)
  advanced w t is all at =
      let law = so.seats n hn in
      let r = so.regions n hn in
      let b = r.behind w is in
      let g = b.2 all in
      let few = so.limit in
      region_sound z c n _ (set c.words epoch_at (w.epoch + 1)) c.opened so hn (record {
        len = length-set c.words epoch_at (w.epoch + 1);
        high = λ i h. get_or-set_other c.words epoch_at i (w.epoch + 1) 0 (omega arith);
        fit = fit_set z c epoch_at (w.epoch + 1) so (omega arith);
        many = refl;
        opened_others = λ m ne. refl;
        opened_seen = λ s h. refl;
        same = same_lists w is phase.Idle _ t (no_slot_idle phase.Idle refl) (λ s e. absurd cc);
        outside = law.outside;
        limit = rw now (omega arith);
        stand = get_or-set_other c.words epoch_at (region_at n) (w.epoch + 1) 0 (omega arith) ∙ so.stand n hn;
        stand_others = λ m hm ne.
            get_or-set_other c.words epoch_at (region_at m) (w.epoch + 1) 0 (omega arith);
        own = rw now (record {
          read = λ x e. absurd cc;
          stored = λ pos. let s = r.stored pos in let o = opened n hn g.0 pos in (s.0, omega arith, omega arith);
          behind = λ x e. absurd cc;
          known = omega arith;
          dates = λ d h. let e = r.dates d h in omega arith;
        });
        others = λ m hm ne. rw now (later m hm g.0);
        swept = λ m k x hm hk scans fit at' low pos.
            by_put z c n so hn _ (λ i y. i < z.seats → y.phase ≡ phase.Scan x
            → opened_at c k ≡ slice_index (set c.words epoch_at (w.epoch + 1)) epoch_at)
            (λ hi e. absurd cc)
            (λ i ne hi e.
            let l = (so.regions i hi).behind x e in
            let a : x.epoch ≡ w.epoch + 1 = at' ∙ now in absurd (omega arith)) m hm scans;
      })
    where
      now : slice_index (set c.words epoch_at (w.epoch + 1)) epoch_at ≡ w.epoch + 1
      now = get_or-set_same c.words epoch_at (w.epoch + 1) 0 (let e = so.words in let f = so.shape in omega arith)

      opened : (m : ℕ) → m < z.seats → w.fit ≡ true → 0 < (view_at c m).number → opened_at c m ≡ epoch c
      opened m hm fit pos = so.swept n m w hn hm is fit at (omega arith) pos

      later : (m : ℕ) → m < z.seats → w.fit ≡ true
          → RegionLaw z.seats (w.epoch + 1) (opened_at c m) (view_at c m)
      later m hm fit =
          let r = so.regions m hm in
          record {
            read = λ x e. let l = r.read x e in (omega arith, l.1);
            stored = λ pos. let s = r.stored pos in let o = opened m hm fit pos in (s.0, omega arith, omega arith);
            behind = λ x e. let l = r.behind x e in (omega arith, l.1, l.2);
            known = let l = r.known in omega arith;
            dates = λ d h. let l = r.dates d h in omega arith;
          }

  -- another flush was quicker
  beaten : (w : Sweep) (t : List EpochMove) → v.phase ≡ phase.Scan w
      → Sound z (stepped c n (record v { known = epoch c; phase = phase.Idle; trail = t })
      (set c.words epoch_at (epoch c)) c.opened)
  beaten w t is =
      let law = so.seats n hn in
      let r = so.regions n hn in
      stay z c n so hn _ (same_lists w is phase.Idle _ t (no_slot_idle phase.Idle refl) (λ s e. absurd cc))
      law.outside refl
      (record {
        read = λ x e. absurd cc;
        stored = r.stored;
        behind = λ x e. absurd cc;
        known = omega arith;
        dates = r.dates;
      })
      (swept_by z c n so hn _ c.opened (λ x e. absurd cc) (λ k ne. refl) (λ pos. inl (pos, refl)))
      epoch_at

  pub advance_keeps : May z act.Advance v → Sound z (after z c n act.Advance)
  advance_keeps may =
      let w : Sweep = may.0 in
      rw may.1 (by_test (epoch c == w.epoch)
      (λ is. rw is (advanced w _ may.1 may.2 (grind (arith, nat_tests))))
      (λ not. rw not (beaten w _ may.1)))
