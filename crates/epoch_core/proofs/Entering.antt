-- A region is opened, by a read of the epoch and a store, and closed.
use Rattle.std.proofs.Common.{◌≡◌, inr, ℕ, ◌+◌, ◌<◌, length, set, refl, sym, ◌∙◌, arith}
use Rattle.std.specs.Prelude.{slice_index}
use Rattle.std.proofs.lemmas.List.{length-set, get_or-set_same, get_or-set_other}
use Rattle.core_law.proofs.Kit.{times_none}
use Rattle.epoch_core.specs.declared.act.EpochAct.TheVariants as act
use Rattle.epoch_core.specs.declared.shape.EpochShape.{EpochShape}
use Rattle.epoch_core.specs.declared.view.EpochPhase.TheVariants as phase
use Rattle.epoch_core.specs.declared.view.EpochView.{EpochView}
use Rattle.epoch_core.specs.Views.{epoch_of}
use Rattle.epoch_core.specs.Words.{epoch_at, region_at}
use Rattle.epoch_core.specs.Steps.{May}
use Rattle.epoch_core.specs.Runs.{Core, view_at, epoch, after}
use Rattle.epoch_core.specs.Sound.{Sound}
use Rattle.epoch_core.proofs.Put.{fit_set}
use Rattle.epoch_core.proofs.Regions.{region_sound}
use Rattle.epoch_core.proofs.Swept.{not_left, no_slot_idle, no_slot_entering, swept_by, stay}

module _ (z : EpochShape) (c : Core) (n : ℕ) (so : Sound z c) (hn : n < z.seats) where
  abbrev v : EpochView
  v = view_at c n

  -- ENTER READS
  pub enter_keeps : May z act.Enter v → Sound z (after z c n act.Enter)
  enter_keeps may =
      let r = so.regions n hn in
      stay z c n so hn _ (record {
        seat = refl;
        shape = refl;
        quota = refl;
        owned = refl;
        pending = refl;
        dying = refl;
        made = refl;
        adds = refl;
        makes = refl;
        here = may.0.1;
        left = refl;
        before = no_slot_idle v.phase may.0.0;
        after = record { undated = λ s. refl; filling = λ s. refl };
        not_blank = λ s e. absurd cc;
        seen = λ s. omega arith;
      }) (so.seats n hn).outside refl
      (record {
        read = λ x e. (let same : epoch c ≡ x = cc in omega arith, may.1);
        stored = λ pos. let none = may.1 in absurd (omega arith);
        behind = λ w e. absurd cc;
        known = r.known;
        dates = r.dates;
      })
      (swept_by z c n so hn _ c.opened (λ w e. absurd cc) (λ k ne. refl)
      (λ pos. let none = may.1 in absurd (omega arith)))
      epoch_at

  -- ENTER STORES
  pub open_keeps : May z act.Open v → Sound z (after z c n act.Open)
  open_keeps may =
      let law = so.seats n hn in
      let r = so.regions n hn in
      let read = r.read may.0 may.1 in
      let at : may.0 ≡ epoch_of v.phase = rw may.1 refl in
      let l = so.limit in
      let few = so.shape.1 in
      rw law.number (region_sound z c n _ (set c.words (region_at n) (epoch_of v.phase + 1))
      (set c.opened n (epoch c)) so hn (record {
        len = length-set c.words (region_at n) _;
        high = λ i h. get_or-set_other c.words (region_at n) i _ 0 (omega arith);
        fit = fit_set z c (region_at n) (epoch_of v.phase + 1) so (omega arith);
        many = length-set c.opened n (epoch c);
        opened_others = λ m ne. get_or-set_other c.opened n m (epoch c) 0 ne;
        opened_seen = λ s h. let none = times_none s in absurd (omega arith);
        same = record {
          seat = sym law.number;
          shape = refl;
          quota = refl;
          owned = refl;
          pending = refl;
          dying = refl;
          made = refl;
          adds = refl;
          makes = refl;
          here = not_left z n v law (λ e. let no : phase.Entering may.0 ≡ phase.Idle = sym may.1 ∙ e in absurd cc);
          left = refl;
          before = no_slot_entering v.phase may.0 may.1;
          after = record { undated = λ s. refl; filling = λ s. refl };
          not_blank = λ s e. absurd cc;
          seen = λ s. let none = times_none s in omega arith;
        };
        outside = λ e. refl;
        limit = rw (stays_epoch) so.limit;
        stand = get_or-set_same c.words (region_at n) _ 0 (there);
        stand_others = λ m hm ne. get_or-set_other c.words (region_at n) (region_at m) _ 0 (omega arith);
        own = rw (stays_epoch, opened_now) (record {
          read = λ x e. absurd cc;
          stored = λ pos. (omega arith, omega arith, omega arith);
          behind = λ w e. absurd cc;
          known = r.known;
          dates = r.dates;
        });
        others = λ m hm ne. rw stays_epoch (so.regions m hm);
        swept = λ m k w hm hk scans fit at' low pos.
            swept_by z c n so hn _ (set c.opened n (epoch c)) (λ w' e. absurd cc)
            (λ j ne. get_or-set_other c.opened n j (epoch c) 0 ne)
            (λ p. inr opened_now) m k w hm hk scans fit (at' ∙ stays_epoch) low pos
            ∙ sym stays_epoch;
      }))
    where
      there : region_at n < length c.words
      there = let e = so.words in omega arith

      stays_epoch : slice_index (set c.words (region_at n) (epoch_of v.phase + 1)) epoch_at ≡ epoch c
      stays_epoch = get_or-set_other c.words (region_at n) epoch_at (epoch_of v.phase + 1) 0 (omega arith)

      opened_now : slice_index (set c.opened n (epoch c)) n ≡ epoch c
      opened_now = get_or-set_same c.opened n (epoch c) 0 (let e = so.opened in omega arith)

  -- EXIT
  pub exit_keeps : May z act.Exit v → Sound z (after z c n act.Exit)
  exit_keeps may =
      let law = so.seats n hn in
      let r = so.regions n hn in
      rw law.number (region_sound z c n _ (set c.words (region_at n) 0) c.opened so hn (record {
        len = length-set c.words (region_at n) 0;
        high = λ i h. get_or-set_other c.words (region_at n) i 0 0 (omega arith);
        fit = fit_set z c (region_at n) 0 so (omega arith);
        many = refl;
        opened_others = λ m ne. refl;
        opened_seen = λ s h. refl;
        same = record {
          seat = sym law.number;
          shape = refl;
          quota = refl;
          owned = refl;
          pending = refl;
          dying = refl;
          made = refl;
          adds = refl;
          makes = refl;
          here = may.0.1;
          left = refl;
          before = no_slot_idle v.phase may.0.0;
          after = no_slot_idle v.phase may.0.0;
          not_blank = λ s e. let no : phase.Blank s ≡ phase.Idle = sym e ∙ may.0.0 in absurd cc;
          seen = λ s. let none = times_none s in omega arith;
        };
        outside = λ e. refl;
        limit = rw stays_epoch so.limit;
        stand = get_or-set_same c.words (region_at n) 0 0 there;
        stand_others = λ m hm ne. get_or-set_other c.words (region_at n) (region_at m) 0 0 (omega arith);
        own = rw stays_epoch (record {
          read = λ x e. let no : phase.Entering x ≡ phase.Idle = sym e ∙ may.0.0 in absurd cc;
          stored = λ pos. absurd (omega arith);
          behind = λ w e. let no : phase.Scan w ≡ phase.Idle = sym e ∙ may.0.0 in absurd cc;
          known = r.known;
          dates = r.dates;
        });
        others = λ m hm ne. rw stays_epoch (so.regions m hm);
        swept = λ m k w hm hk scans fit at low pos.
            swept_by z c n so hn _ c.opened
            (λ w' e. let no : phase.Scan w' ≡ phase.Idle = sym e ∙ may.0.0 in absurd cc)
            (λ j ne. refl) (λ p. absurd (omega arith)) m k w hm hk scans fit (at ∙ stays_epoch) low pos
            ∙ sym stays_epoch;
      }))
    where
      there : region_at n < length c.words
      there = let e = so.words in omega arith

      stays_epoch : slice_index (set c.words (region_at n) 0) epoch_at ≡ epoch c
      stays_epoch = get_or-set_other c.words (region_at n) epoch_at 0 0 (omega arith)
