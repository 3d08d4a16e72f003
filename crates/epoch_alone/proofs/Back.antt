-- Once a seat has opened a region, looked at a place and closed the region, it has what it had but for its trail, and
-- the plain state that is shown is as it was.
use Rattle.std.proofs.Common.{◌≡◌, ℕ, ◌<◌, List, [], set, refl, ap, sym, ◌∙◌, arith}
use Rattle.std.specs.Prelude.{Option, Some, None}
use Rattle.std.proofs.lemmas.List.{get_or-set_same, set-get_or, set-set}
use Rattle.epoch_settling.specs.epoch_core.core_events.Words.{slot_in}
use Rattle.epoch_settling.specs.epoch_core.plain_state.declared.act.EventPlace.{EventPlace}
use Rattle.epoch_settling.specs.epoch_core.plain_state.declared.slot.SlotId.{SlotId}
use Rattle.epoch_settling.specs.epoch_core.declared.act.EpochAct.{EpochAct}
use Rattle.epoch_settling.specs.epoch_core.declared.act.EpochAct.TheVariants as act
use Rattle.epoch_settling.specs.epoch_core.declared.outcome.EpochOutcome.{EpochOutcome}
use Rattle.epoch_settling.specs.epoch_core.declared.outcome.EpochOutcome.TheVariants as outcome
use Rattle.epoch_settling.specs.epoch_core.declared.shape.EpochShape.{EpochShape}
use Rattle.epoch_settling.specs.epoch_core.declared.view.EpochMove.{EpochMove}
use Rattle.epoch_settling.specs.epoch_core.declared.view.EpochView.{EpochView}
use Rattle.epoch_settling.specs.epoch_core.Counts.{filling}
use Rattle.epoch_settling.specs.epoch_core.Runs.{Core, Enabled, after, found, view_at}
use Rattle.epoch_settling.specs.epoch_core.Shows.{show_seat, shows}
use Rattle.epoch_settling.specs.epoch_core.Sound.{Sound}
use Rattle.epoch_settling.specs.epoch_core.Steps.{moved, noted, saw}
use Rattle.epoch_settling.specs.epoch_core.Views.{no_view}
use Rattle.epoch_settling.specs.epoch_core.Words.{place_at, region_at}
use Rattle.epoch_settling.proofs.Below.epoch_core_Keeps.{step_keeps}
use Rattle.epoch_settling.proofs.Below.epoch_core_Put.{at_seat, stepped}
use Rattle.epoch_settling.proofs.Below.epoch_core_ShownFrames.{same_view}
use Rattle.epoch_settling.proofs.Below.epoch_core_ShownQuiet.{low_shown}

-- WHAT THE VIEW IS AFTERWARDS
-- a view but for its region and its trail
abbrev bare : EpochView → EpochView
bare v = record v { number = 0; seen = []; trail = [] }

bare_saw : (o : Option SlotId) (v : EpochView) (a : EpochAct) (p : EpochOutcome)
    → bare (noted a p (saw o v)) ≡ bare v
bare_saw None v a p = refl
bare_saw (Some s) v a p = refl

-- once a region was opened, a place looked at, and the region closed, the view is as it was but for its trail
pub back : (z : EpochShape) (p : EventPlace) (v opened looked u : EpochView) (e w x : ℕ) (t : List EpochMove)
    → opened ≡ record v { number = e; seen = []; trail = t }
    → looked ≡ moved z (act.Look p) w opened → u ≡ moved z act.Exit x looked
    → v.number ≡ 0 → v.seen ≡ [] → u ≡ record v { trail = u.trail }
back z p v opened looked u e w x t opens looks exits outside none =
    let b : bare u ≡ bare v =
    ap bare exits
    ∙ (ap bare looks
    ∙ (bare_saw (slot_in w) opened (act.Look p) (outcome.Found (slot_in w)) ∙ ap bare opens)) in
    let n : u.number ≡ v.number = ap (λ (y : EpochView). y.number) exits ∙ sym outside in
    let s : u.seen ≡ v.seen = ap (λ (y : EpochView). y.seen) exits ∙ sym none in
    λ i. record (b i) { number = n i; seen = s i; trail = u.trail }

-- WHAT THE STATE IS AFTERWARDS
module _ (z : EpochShape) (c : Core) (so : Sound z c) (p : EventPlace)
    (looks : Enabled z c 0 (act.Look p)) (exits : Enabled z (after z c 0 (act.Look p)) 0 act.Exit) where
  abbrev mid : Core
  mid = after z c 0 (act.Look p)

  abbrev end : Core
  end = after z (after z c 0 (act.Look p)) 0 act.Exit

  some : 0 < z.seats
  some = let s = so.shape.0 in omega (arith, s)

  mid_sound : Sound z mid
  mid_sound = step_keeps z c 0 (act.Look p) so looks

  -- one word is written, that of the region
  end_is : (u : EpochView) → u ≡ view_at end 0
      → end ≡ stepped c 0 u (set c.words (region_at (view_at mid 0).seat) 0) c.opened
  end_is u is =
      let r : ℕ = region_at (view_at mid 0).seat in
      let seen : EpochView = moved z (act.Look p) (found z c 0 (act.Look p)) (view_at c 0) in
      let left : EpochView = moved z act.Exit (found z mid 0 act.Exit) (view_at mid 0) in
      let same : left ≡ u =
      sym (get_or-set_same mid.views 0 left no_view (at_seat z mid 0 mid_sound some)) ∙ sym is in
      let views : end.views ≡ set c.views 0 u =
      set-set c.views 0 seen left ∙ ap (set c.views 0) same in
      let words : end.words ≡ set c.words r 0 =
      ap (λ (ws : List ℕ). set ws r 0) (set-get_or c.words (place_at z p) 0) in
      λ i. record { words = words i; views = views i; opened = c.opened }

  pub state_back : (u : EpochView) → u ≡ view_at end 0 → show_seat u ≡ show_seat (view_at c 0)
      → u.phase ≡ (view_at c 0).phase → u.dying ≡ (view_at c 0).dying → u.made ≡ (view_at c 0).made
      → shows z end ≡ shows z c
  state_back u is shown phase' dying made =
      let number = (mid_sound.seats 0 some).number in
      ap (shows z) (end_is u is)
      ∙ low_shown z c 0 u c.opened so some
      (λ x. same_view x (view_at c 0) u (ap (filling x) phase') dying made) shown
      (region_at (view_at mid 0).seat) 0 (omega (arith, number, some))
