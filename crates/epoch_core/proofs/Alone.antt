-- A seat that is alone and in no region advances the epoch by each flush.
use Rattle.std.proofs.Common.{◌≡◌, ◌≢◌, ⊎_elim, ℕ, ◌+◌, ◌<◌, Bool, true, false, List, [], ◌∷◌, ◌++◌, replicate, set, zero, suc, refl, ap, sym, subst, ◌∙◌, arith}
use Rattle.std.specs.Prelude.{slice_index, ◌==◌, nat_lt, ◌&&◌}
use Rattle.std.proofs.lemmas.List.{get_or-set_other, get_or-set_same, set-get_or}
use Rattle.std.proofs.lemmas.Bool.{cases_eq}
use Rattle.std.proofs.lemmas.Bool.Decides.{nat_tests}
use prog.Atomic.{either}
use Rattle.epoch_core.specs.declared.act.Dated.{Dated}
use Rattle.epoch_core.specs.declared.act.EpochAct.{EpochAct}
use Rattle.epoch_core.specs.declared.act.EpochAct.TheVariants as act
use Rattle.epoch_core.specs.declared.shape.EpochShape.{EpochShape}
use Rattle.epoch_core.specs.declared.view.EpochPhase.{EpochPhase}
use Rattle.epoch_core.specs.declared.view.EpochPhase.TheVariants as phase
use Rattle.epoch_core.specs.declared.view.EpochView.{EpochView}
use Rattle.epoch_core.specs.declared.view.Sweep.{Sweep}
use Rattle.epoch_core.specs.Alone.{Acts, Flushed, IsOnly, flush_acts}
use Rattle.epoch_core.specs.Views.{epoch_of, no_view}
use Rattle.epoch_core.specs.Words.{epoch_at, last_epoch, region_at}
use Rattle.epoch_core.specs.Steps.{CanLeave, IsDue, May, dated_times, is_fit, moved, place, scanned, scanned_at}
use Rattle.epoch_core.specs.Runs.{Core, Enabled, after, epoch, found, view_at}
use Rattle.epoch_core.specs.Sound.{Sound}
use Rattle.epoch_core.proofs.Keeps.{step_keeps}
use Rattle.epoch_core.proofs.Put.{at_seat, stepped}

-- the state after seat n did these acts, in turn
abbrev run : EpochShape → ℕ → List EpochAct → Core → Core
run z n [] c = c
run z n (a ∷ acts) c = run z n acts (after z c n a)

acts_run : (z : EpochShape) (n : ℕ) (acts : List EpochAct) (c d : Core) → Acts z n acts c d → d ≡ run z n acts c
acts_run z n [] c d is = is
acts_run z n (a ∷ acts) c d lead = acts_run z n acts lead.0 d lead.2 ∙ ap (run z n acts) lead.1.1

-- a sweep that found all fit so far
abbrev sweep : ℕ → ℕ → Sweep
sweep e k = record { epoch = e; passed = k; fit = true }

-- in the middle of a flush: the epoch e was read, and it stands; k region words were read
record Sweeping (z : EpochShape) (n e k : ℕ) (ps : List Dated) (c : Core) : Type 0 where
  sound : Sound z c
  only : IsOnly z c n
  phase : (view_at c n).phase ≡ phase.Scan (record { epoch = e; passed = k; fit = true })
  stands : epoch c ≡ e
  number : (view_at c n).number ≡ 0
  here : (view_at c n).left ≡ false
  pending : (view_at c n).pending ≡ ps

and_false : (b : Bool) → (b && false) ≡ false
and_false true = refl
and_false false = refl

module _ (z : EpochShape) (n e : ℕ) (ps : List Dated) (hn : n < z.seats) (few : e < last_epoch) where
  -- a step of seat n leaves the others
  only_stays : (c : Core) (u : EpochView) (ws os : List ℕ) → IsOnly z c n → IsOnly z (stepped c n u ws os) n
  only_stays c u ws os only m hm ne =
      ap (λ (v : EpochView). v.left) (get_or-set_other c.views n m u no_view ne) ∙ only m hm ne

  view_here : (c : Core) (u : EpochView) (ws os : List ℕ) → Sound z c → view_at (stepped c n u ws os) n ≡ u
  view_here c u ws os so = get_or-set_same c.views n u no_view (at_seat z c n so hn)

  same_epoch : (c : Core) (p : ℕ) → slice_index (set c.words p (slice_index c.words p)) epoch_at ≡ epoch c
  same_epoch c p = ap (λ (ws : List ℕ). slice_index ws epoch_at) (set-get_or c.words p 0)

  -- each region word is 0
  closed : (k : ℕ) (c : Core) → Sweeping z n e k ps c → k < z.seats → slice_index c.words (region_at k) ≡ 0
  closed k c at hk = at.sound.stand k hk ∙ ⊎_elim
      (λ (here : k ≡ n). ap (λ (m : ℕ). (view_at c m).number) here ∙ at.number)
      (λ (ne : k ≢ n). ((at.sound.seats k hk).gone (at.only k hk ne)).1)
      (cases_eq k n)

  swept_view : (k w : ℕ) (v : EpochView) → w ≡ 0
      → scanned z w (phase.Scan (sweep e k)) v ≡ record v { phase = phase.Scan (sweep e (k + 1)) }
  swept_view k w v is =
      let fit : is_fit e w ≡ true = grind (arith, nat_tests) in
      let low : nat_lt e last_epoch ≡ true = grind (arith, nat_tests) in
      rw (fit, low, and_false (k + 1 == z.seats)) refl

  scans : (k : ℕ) (c : Core) → Sweeping z n e k ps c → k < z.seats
      → Sweeping z n e (k + 1) ps (after z c n act.Scan)
  scans k c at hk =
      let so = at.sound in
      let len = at_seat z c n so hn in
      let may : May z act.Scan (view_at c n) = (sweep e k, at.phase, hk) in
      let on : Enabled z c n act.Scan = (len, may, tt) in
      let w : ℕ = found z c n act.Scan in
      let none : w ≡ 0 =
      ap (λ (p : EpochPhase). slice_index c.words (scanned_at p)) at.phase ∙ closed k c at hk in
      let here = view_here c (moved z act.Scan w (view_at c n)) (after z c n act.Scan).words c.opened so in
      let goes = ap (λ (p : EpochPhase). scanned z w p (view_at c n)) at.phase
      ∙ swept_view k w (view_at c n) none in
      record {
        sound = step_keeps z c n act.Scan so on;
        only = only_stays c (moved z act.Scan w (view_at c n)) (after z c n act.Scan).words c.opened at.only;
        phase = ap (λ (u : EpochView). u.phase) here ∙ ap (λ (u : EpochView). u.phase) goes;
        stands = same_epoch c (place z act.Scan (view_at c n)) ∙ at.stands;
        number = ap (λ (u : EpochView). u.number) here ∙ (ap (λ (u : EpochView). u.number) goes ∙ at.number);
        here = ap (λ (u : EpochView). u.left) here ∙ (ap (λ (u : EpochView). u.left) goes ∙ at.here);
        pending = ap (λ (u : EpochView). u.pending) here ∙ (ap (λ (u : EpochView). u.pending) goes ∙ at.pending);
      }

  begins : (c : Core) → Sound z c → IsOnly z c n → CanLeave (view_at c n) → epoch c ≡ e
      → (view_at c n).pending ≡ ps → Sweeping z n e 0 ps (after z c n act.Flush)
  begins c so only can is pending =
      let len = at_seat z c n so hn in
      let on : Enabled z c n act.Flush = (len, can.0, tt) in
      let u : EpochView = moved z act.Flush (epoch c) (view_at c n) in
      let here = view_here c u (after z c n act.Flush).words c.opened so in
      record {
        sound = step_keeps z c n act.Flush so on;
        only = only_stays c u (after z c n act.Flush).words c.opened only;
        phase = ap (λ (x : EpochView). x.phase) here ∙ ap (λ (x : ℕ). phase.Scan (sweep x 0)) is;
        stands = same_epoch c epoch_at ∙ is;
        number = ap (λ (x : EpochView). x.number) here ∙ can.1;
        here = ap (λ (x : EpochView). x.left) here ∙ can.0.1;
        pending = ap (λ (x : EpochView). x.pending) here ∙ pending;
      }

  one_later : (w x : ℕ) → w ≡ e → x ≡ e → either (w == x) (x + 1) w ≡ e + 1
  one_later w x a b =
      let same : (w == x) ≡ true = grind (arith, nat_tests) in rw same (omega arith)

  -- the epoch advances
  record Advanced (d : Core) : Type 0 where
    sound : Sound z d
    only : IsOnly z d n
    idle : CanLeave (view_at d n)
    pending : (view_at d n).pending ≡ ps
    now : epoch d ≡ e + 1
    known : (view_at d n).known ≡ e + 1

  advances : (c : Core) → Sweeping z n e z.seats ps c → Advanced (after z c n act.Advance)
  advances c at =
      let so = at.sound in
      let len = at_seat z c n so hn in
      let words = so.words in
      let may : May z act.Advance (view_at c n) = (sweep e z.seats, at.phase, refl) in
      let on : Enabled z c n act.Advance = (len, may, tt) in
      let w : ℕ = epoch c in
      let u : EpochView = moved z act.Advance w (view_at c n) in
      let here = view_here c u (after z c n act.Advance).words c.opened so in
      let next_is = one_later w (epoch_of (view_at c n).phase) at.stands (ap epoch_of at.phase) in
      record {
        sound = step_keeps z c n act.Advance so on;
        only = only_stays c u (after z c n act.Advance).words c.opened at.only;
        idle = (
          (ap (λ (x : EpochView). x.phase) here, ap (λ (x : EpochView). x.left) here ∙ at.here),
          ap (λ (x : EpochView). x.number) here ∙ at.number,
        );
        pending = ap (λ (x : EpochView). x.pending) here ∙ at.pending;
        now = get_or-set_same c.words epoch_at _ 0 (omega arith) ∙ next_is;
        known = ap (λ (x : EpochView). x.known) here ∙ next_is;
      }

  all_scans : (j k : ℕ) → k + j ≡ z.seats → (c : Core) → Sweeping z n e k ps c
      → Advanced (run z n (replicate j act.Scan ++ act.Advance ∷ []) c)
  all_scans zero k is c at =
      let same : k ≡ z.seats = omega arith in
      advances c (subst (λ (i : ℕ). Sweeping z n e i ps c) same at)
  all_scans (suc j) k is c at = all_scans j (k + 1) (omega arith) (after z c n act.Scan) (scans k c at (omega arith))

  flushed : (c : Core) → Sound z c → IsOnly z c n → CanLeave (view_at c n) → epoch c ≡ e
      → (view_at c n).pending ≡ ps → Advanced (run z n (flush_acts z) c)
  flushed c so only can is pending =
      all_scans z.seats 0 (omega arith) (after z c n act.Flush) (begins c so only can is pending)

pub flush_advances : (z : EpochShape) (n : ℕ) (c d : Core) → Sound z c → n < z.seats → IsOnly z c n
    → CanLeave (view_at c n) → epoch c < last_epoch → Acts z n (flush_acts z) c d → Flushed z n c d
flush_advances z n c d so hn only can few acts =
    let a = flushed z n (epoch c) (view_at c n).pending hn few c so only can refl refl in
    subst (Flushed z n c) (sym (acts_run z n (flush_acts z) c d acts)) (record {
      sound = a.sound;
      only = a.only;
      idle = a.idle;
      pending = a.pending;
      now = a.now;
      known = a.known;
    })

-- all that was pending before the first of two flushes is due after the second
pub all_due : (z : EpochShape) (n : ℕ) (c b d : Core) (x : Dated) → Sound z c → n < z.seats → IsOnly z c n
    → CanLeave (view_at c n) → epoch c + 1 < last_epoch → Acts z n (flush_acts z) c b
    → Acts z n (flush_acts z) b d → 0 < dated_times x (view_at c n).pending → IsDue x (view_at d n)
all_due z n c b d x so hn only can few first second pending =
    let f = flush_advances z n c b so hn only can (omega arith) first in
    let now = f.now in
    let g = flush_advances z n b d f.sound hn f.only f.idle (omega arith) second in
    let known = g.known in
    let dates = (so.regions n hn).dates x pending in omega arith
