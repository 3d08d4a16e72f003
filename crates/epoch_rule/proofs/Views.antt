-- What an act leaves of the views: all but its seat's own, and of that whether it has left.
use Rattle.std.proofs.Common.{◌≡◌, ◌≢◌, ◌⊎◌, inl, inr, ℕ, ◌<◌, false, List, length, get_or, set, refl, ap, sym, ◌∙◌, arith}
use Rattle.std.proofs.lemmas.List.{length-map, length-set, get_or-set_same, get_or-set_other}
use Rattle.plain_protocol.specs.plain_state.State.{PlainSeat}
use Rattle.plain_protocol.specs.plain_state.Steps.{IsSeat}
use Rattle.epoch_core.specs.declared.act.EpochAct.{EpochAct}
use Rattle.epoch_core.specs.declared.act.EpochAct.TheVariants as act
use Rattle.epoch_core.specs.declared.outcome.EpochOutcome.TheVariants as outcome
use Rattle.epoch_core.specs.declared.shape.EpochShape.{EpochShape}
use Rattle.epoch_core.specs.declared.view.EpochView.{EpochView}
use Rattle.epoch_core.specs.Runs.{Core, Enabled, after, found, left_behind, taken_over, view_at, views_after}
use Rattle.epoch_core.specs.Shows.{show_seat, shows}
use Rattle.epoch_core.specs.Sound.{Sound, SeatLaw}
use Rattle.epoch_core.specs.Steps.{May, changed, moved, noted}
use Rattle.epoch_core.specs.Views.{no_view}
use Rattle.epoch_core.proofs.Bridge.{shown_seat}
use Rattle.epoch_core.proofs.Swept.{not_left}

-- both have left or neither has, with the same trails of seats that left
pub record SameLeft (v u : EpochView) : Type 0 where
  pub left : u.left ≡ v.left
  pub left_seats : u.left_seats ≡ v.left_seats

-- no act changes that
pub changed_left : (z : EpochShape) (a : EpochAct) (w : ℕ) (v : EpochView)
    → SameLeft v (changed z a w v)
changed_left z a w v = grind arith

pub is_leave : (a : EpochAct) → ((j : ℕ) × (a ≡ act.Leave j)) ⊎ ((j : ℕ) → a ≡ act.Leave j → ⊥)
is_leave (act.Leave j) = inl (j, refl)
is_leave a = inr (λ j e. absurd (cc (e)))

-- no act is open to a seat that has left
pub may_stays : (z : EpochShape) (n : ℕ) (v : EpochView) → SeatLaw z n v → (a : EpochAct)
    → May z a v → v.left ≡ false
may_stays z n v law (act.Fill i x) may = not_left z n v law (λ e. absurd (cc (may.0.1, e)))
may_stays z n v law act.Start may = not_left z n v law (λ e. absurd (cc (may.1, e)))
may_stays z n v law act.Date may = not_left z n v law (λ e. absurd (cc (may.1, e)))
may_stays z n v law act.Open may = not_left z n v law (λ e. absurd (cc (may.1, e)))
may_stays z n v law act.Scan may = not_left z n v law (λ e. absurd (cc (may.1, e)))
may_stays z n v law act.Advance may = not_left z n v law (λ e. absurd (cc (may.1, e)))
may_stays z n v law act.Flush may = may.1
may_stays z n v law (act.Leave j) may = may.3.0.1
may_stays z n v law a may = may.0.1

pub enabled_seat : (z : EpochShape) (c : Core) (n : ℕ) (a : EpochAct) → Sound z c
    → Enabled z c n a → IsSeat (shows z c) n
enabled_seat z c n a so on =
    let sv = so.views in
    let h = on.0 in
    let l = length-map c.views show_seat in (
      omega arith,
      ap (λ (y : PlainSeat). y.left) (shown_seat z c n on.0)
          ∙ may_stays z n (view_at c n) (so.seats n (omega arith)) a on.1,
    )

-- an act that isn't a leave changes one view
pub views_plain : (z : EpochShape) (c : Core) (n : ℕ) (a : EpochAct)
    → ((j : ℕ) → a ≡ act.Leave j → ⊥)
    → views_after z c n a ≡ set c.views n (moved z a (found z c n a) (view_at c n))
views_plain z c n (act.Leave j) stays = absurd (stays j refl)
views_plain z c n a stays = refl

module _ (z : EpochShape) (c : Core) (n : ℕ) (a : EpochAct) (hn : n < length c.views)
    (single : (j : ℕ) → a ≡ act.Leave j → ⊥) where
  -- the view of the seat that made the step, and those of the others
  pub view_after : view_at (after z c n a) n ≡ moved z a (found z c n a) (view_at c n)
  view_after = ap (λ (vs : List EpochView). get_or vs n no_view) (views_plain z c n a single)
      ∙ get_or-set_same c.views n (moved z a (found z c n a) (view_at c n)) no_view hn

  pub other_after : (m : ℕ) → m ≢ n → view_at (after z c n a) m ≡ view_at c m
  other_after m ne = ap (λ (vs : List EpochView). get_or vs m no_view) (views_plain z c n a single)
      ∙ get_or-set_other c.views n m (moved z a (found z c n a) (view_at c n)) no_view ne

  pub views_stay : length (after z c n a).views ≡ length c.views
  views_stay = ap length (views_plain z c n a single)
      ∙ length-set c.views n (moved z a (found z c n a) (view_at c n))

-- WHERE SEAT J LEAVES
module _ (z : EpochShape) (c : Core) (so : Sound z c) (j : ℕ) (other : j ≢ 0) (hj : j < z.seats) where
  abbrev joined : EpochView
  joined = noted (act.Leave j) outcome.Plain (taken_over (view_at c 0) (view_at c j))

  abbrev gone : EpochView
  gone = left_behind (view_at c j)

  there : (n : ℕ) → n < z.seats → n < length c.views
  there n hn = let e = so.views in omega arith

  pub root_after : view_at (after z c 0 (act.Leave j)) 0
      ≡ noted (act.Leave j) outcome.Plain (taken_over (view_at c 0) (view_at c j))
  root_after =
      let h = so.shape.0 in
      get_or-set_other (set c.views 0 joined) j 0 gone no_view (λ e. other (sym e))
      ∙ get_or-set_same c.views 0 joined no_view (there 0 (omega arith))

  pub gone_after : view_at (after z c 0 (act.Leave j)) j ≡ left_behind (view_at c j)
  gone_after =
      let l = length-set c.views 0 joined in
      let a = there j hj in
      get_or-set_same (set c.views 0 joined) j gone no_view (omega arith)

  pub rest_after : (n : ℕ) → n ≢ 0 → n ≢ j → view_at (after z c 0 (act.Leave j)) n ≡ view_at c n
  rest_after n a b = get_or-set_other (set c.views 0 joined) j n gone no_view b
      ∙ get_or-set_other c.views 0 n joined no_view a
