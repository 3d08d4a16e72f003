-- Events on the epoch and on region words show nothing, and neither does a date.
use Rattle.std.proofs.Common.{◌≡◌, ℕ, ◌+◌, ◌*◌, ◌<◌, true, List, [], ◌∷◌, ◌++◌, refl, sym, ◌∙◌, arith, set, None}
use Rattle.std.specs.Prelude.{slice_index, ◌==◌, nat_lt, ◌&&◌, not}
use Rattle.core_law.specs.plain_state.declared.slot.SlotId.{SlotId}
use Rattle.core_law.proofs.Kit.{by_test}
use Rattle.epoch_core.specs.declared.act.EpochAct.TheVariants as act
use Rattle.epoch_core.specs.declared.shape.EpochShape.{EpochShape}
use Rattle.epoch_core.specs.declared.view.EpochMove.{EpochMove}
use Rattle.epoch_core.specs.declared.view.EpochPhase.{EpochPhase}
use Rattle.epoch_core.specs.declared.view.EpochPhase.TheVariants as phase
use Rattle.epoch_core.specs.declared.view.EpochView.{EpochView}
use Rattle.epoch_core.specs.declared.view.Sweep.{Sweep}
use Rattle.epoch_core.specs.Words.{epoch_at, last_epoch, region_at}
use Rattle.epoch_core.specs.Steps.{May, is_fit}
use Rattle.epoch_core.specs.Runs.{Core, after, epoch, view_at}
use Rattle.epoch_core.specs.Shows.{filled, shows, show_seat, undated_entry}
use Rattle.epoch_core.specs.Sound.{Sound}
use Rattle.epoch_core.proofs.Put.{stepped}
use Rattle.epoch_core.proofs.Regions.{HasNoSlot}
use Rattle.epoch_core.proofs.Swept.{no_slot_entering, no_slot_idle, no_slot_scan}
use Rattle.epoch_core.proofs.ShownFrames.{SameSlot, same_view}
use Rattle.epoch_core.proofs.ShownQuiet.{dated_shown, low_shown, still_shown, strong_of}
use Rattle.epoch_core.proofs.Phases.{in_undated}

-- what a phase without a slot shows
pub record ShowsBare (p : EpochPhase) : Type 0 where
  pub filled : filled p ≡ None
  pub undated : undated_entry p ≡ []
  pub slots : HasNoSlot p

pub bare_idle : (p : EpochPhase) → p ≡ phase.Idle → ShowsBare p
bare_idle p e = record { filled = rw e refl; undated = rw e refl; slots = no_slot_idle p e }

pub bare_entering : (p : EpochPhase) (x : ℕ) → p ≡ phase.Entering x → ShowsBare p
bare_entering p x e = record { filled = rw e refl; undated = rw e refl; slots = no_slot_entering p x e }

pub bare_scan : (p : EpochPhase) (w : Sweep) → p ≡ phase.Scan w → ShowsBare p
bare_scan p w e = record { filled = rw e refl; undated = rw e refl; slots = no_slot_scan p w e }

-- what a step on regions leaves of a view
pub record SameBare (v u : EpochView) : Type 0 where
  pub before : ShowsBare v.phase
  pub after : ShowsBare u.phase
  pub owned : u.owned ≡ v.owned
  pub pending : u.pending ≡ v.pending
  pub dying : u.dying ≡ v.dying
  pub made : u.made ≡ v.made
  pub seen : u.seen ≡ v.seen
  pub adds : u.adds ≡ v.adds
  pub left : u.left ≡ v.left

seat_bare : (v u : EpochView) → SameBare v u → show_seat u ≡ show_seat v
seat_bare v u same =
    let f : filled u.phase ≡ filled v.phase = same.after.filled ∙ sym same.before.filled in
    let e : undated_entry u.phase ≡ undated_entry v.phase = same.after.undated ∙ sym same.before.undated in
    let o = same.owned in
    let p = same.pending in
    let d = same.dying in
    let s = same.seen in
    let a = same.adds in
    let l = same.left in
    cc

-- what was undated and is dated now
seat_dated : (v : EpochView) (s : SlotId) (e : ℕ) (t : List EpochMove) → v.phase ≡ phase.Undated s
    → show_seat (record v {
      pending = v.pending ++ record { slot = s; date = e } ∷ [];
      phase = phase.Idle;
      trail = t;
    }) ≡ show_seat v
seat_dated v s e t at =
    let f : filled v.phase ≡ None = rw at refl in
    let u : undated_entry v.phase ≡ strong_of s ∷ [] = rw at refl in
    let d = dated_shown v.pending s e in
    cc

module _ (z : EpochShape) (c : Core) (n : ℕ) (so : Sound z c) (hn : n < z.seats) where
  abbrev v : EpochView
  v = view_at c n

  slots_bare : (u : EpochView) → SameBare v u → (x : SlotId) → SameSlot x v u
  slots_bare u same x =
      same_view x v u (same.after.slots.filling x ∙ sym (same.before.slots.filling x)) same.dying same.made

  bare_still : (u : EpochView) (os : List ℕ) → SameBare v u → (p : ℕ)
      → shows z (stepped c n u (set c.words p (slice_index c.words p)) os) ≡ shows z c
  bare_still u os same = still_shown z c n u os so hn (slots_bare u same) (seat_bare v u same)

  bare_low : (u : EpochView) (os : List ℕ) → SameBare v u → (p w : ℕ) → p < 8 + 8 * z.seats
      → shows z (stepped c n u (set c.words p w) os) ≡ shows z c
  bare_low u os same = low_shown z c n u os so hn (slots_bare u same) (seat_bare v u same)

  -- the view with another phase, which has no slot either
  same_but : (u : EpochView) → ShowsBare v.phase → ShowsBare u.phase → u.owned ≡ v.owned
      → u.pending ≡ v.pending → u.dying ≡ v.dying → u.made ≡ v.made → u.seen ≡ v.seen → u.adds ≡ v.adds
      → u.left ≡ v.left → SameBare v u
  same_but u before after o p d m s a l = record {
    before = before;
    after = after;
    owned = o;
    pending = p;
    dying = d;
    made = m;
    seen = s;
    adds = a;
    left = l;
  }

  pub enter_shown : May z act.Enter v → shows z (after z c n act.Enter) ≡ shows z c
  enter_shown may = bare_still _ c.opened
      (same_but _ (bare_idle v.phase may.0.0) (bare_entering _ (epoch c) refl) refl refl refl refl refl refl refl)
      epoch_at

  pub flush_shown : May z act.Flush v → shows z (after z c n act.Flush) ≡ shows z c
  flush_shown may = bare_still _ c.opened
      (same_but _ (bare_idle v.phase may.0)
      (bare_scan _ (record { epoch = epoch c; passed = 0; fit = true }) refl) refl refl refl refl refl refl refl)
      epoch_at

  pub open_shown : May z act.Open v → shows z (after z c n act.Open) ≡ shows z c
  open_shown may =
      let law = so.seats n hn in
      let none = law.outside ((so.regions n hn).read may.0 may.1).1 in
      bare_low _ (set c.opened n (epoch c))
      (same_but _ (bare_entering v.phase may.0 may.1) (bare_idle _ refl) refl refl refl refl (sym none) refl refl)
      (region_at v.seat) _ (let e = law.number in omega arith)

  pub advance_shown : May z act.Advance v → shows z (after z c n act.Advance) ≡ shows z c
  advance_shown may = bare_low _ c.opened
      (same_but _ (bare_scan v.phase may.0 may.1) (bare_idle _ refl) refl refl refl refl refl refl refl)
      epoch_at _ (omega arith)

  -- a scan goes on, or ends
  swept_shown : (w : Sweep) (u : EpochView) → v.phase ≡ phase.Scan w → SameBare v u
      → shows z (stepped c n u
      (set c.words (region_at w.passed) (slice_index c.words (region_at w.passed))) c.opened) ≡ shows z c
  swept_shown w u is same = bare_still u c.opened same (region_at w.passed)

  pub scan_shown : May z act.Scan v → shows z (after z c n act.Scan) ≡ shows z c
  scan_shown may =
      let w : Sweep = may.0 in
      let x : ℕ = slice_index c.words (region_at w.passed) in
      let next : Sweep = record {
        epoch = w.epoch;
        passed = w.passed + 1;
        fit = w.fit && is_fit w.epoch x;
      } in
      rw may.1 (by_test
      (w.passed + 1 == z.seats && not ((w.fit && is_fit w.epoch x) && nat_lt w.epoch last_epoch))
      (λ done. rw done (swept_shown w _ may.1
      (same_but _ (bare_scan v.phase w may.1) (bare_idle _ refl) refl refl refl refl refl refl refl)))
      (λ more. rw more (swept_shown w _ may.1
      (same_but _ (bare_scan v.phase w may.1) (bare_scan _ next refl) refl refl refl refl refl refl refl))))

  dated_still : (s : SlotId) (t : List EpochMove) → v.phase ≡ phase.Undated s
      → shows z (stepped c n (record v {
        pending = v.pending ++ record { slot = s; date = epoch c } ∷ [];
        phase = phase.Idle;
        trail = t;
      }) (set c.words epoch_at (slice_index c.words epoch_at)) c.opened) ≡ shows z c
  dated_still s t at = still_shown z c n _ c.opened so hn
      (λ x. same_view x v _ (sym (in_undated v.phase x s at).1) refl refl)
      (seat_dated v s (epoch c) t at) epoch_at

  pub date_shown : May z act.Date v → shows z (after z c n act.Date) ≡ shows z c
  date_shown may = rw may.1 (dated_still may.0 _ may.1)
