-- Each event keeps the invariant: by cases on the act.
use Rattle.std.proofs.Common.{◌≡◌, ℕ, ◌<◌, List, [], ◌∷◌, sym, subst, arith}
use Rattle.std.proofs.lemmas.List.{set-get_or}
use Rattle.core_law.specs.core_events.declared.shape.Quota.{Quota}
use Rattle.epoch_core.specs.declared.act.EpochAct.{EpochAct}
use Rattle.epoch_core.specs.declared.act.EpochAct.TheVariants as act
use Rattle.epoch_core.specs.declared.act.EpochEvent.{EpochEvent}
use Rattle.epoch_core.specs.declared.shape.EpochShape.{EpochShape}
use Rattle.epoch_core.specs.Steps.{CanLeave}
use Rattle.epoch_core.specs.Runs.{AreQuotas, Core, Enabled, History, IsShape, after, view_at, views_after}
use Rattle.epoch_core.specs.Sound.{Sound}
use Rattle.epoch_core.proofs.Counters.{claim_keeps, start_keeps, add_keeps}
use Rattle.epoch_core.proofs.Giving.{drop_keeps, pay_keeps, free_keeps}
use Rattle.epoch_core.proofs.Fills.{fill_keeps, see_keeps}
use Rattle.epoch_core.proofs.Exchanges.{swap_keeps, cas_keeps, clear_keeps}
use Rattle.epoch_core.proofs.Looks.{look_keeps, date_keeps}
use Rattle.epoch_core.proofs.Entering.{enter_keeps, open_keeps, exit_keeps}
use Rattle.epoch_core.proofs.Flushing.{flush_keeps, scan_keeps, advance_keeps}
use Rattle.epoch_core.proofs.Leaves.{leave_sound}
use Rattle.epoch_core.proofs.Starts.{start_sound}

leave_keeps : (z : EpochShape) (c : Core) (n j : ℕ) → Sound z c → Enabled z c n (act.Leave j)
    → Sound z (after z c n (act.Leave j))
leave_keeps z c n j so on =
    let may = on.1 in
    let sv = so.views in
    let h = on.0 in
    let number = (so.seats n (omega arith)).number in
    let root : n ≡ 0 = omega arith in
    subst (λ (ws : List ℕ). Sound z (record {
      words = ws;
      views = views_after z c n (act.Leave j);
      opened = c.opened;
    }))
    (sym (set-get_or c.words 0 0))
    (leave_sound z c so j may.1 may.2 (subst (λ (m : ℕ). CanLeave (view_at c m)) root may.3) on.2)

pub step_keeps : (z : EpochShape) (c : Core) (n : ℕ) (a : EpochAct) → Sound z c → Enabled z c n a
    → Sound z (after z c n a)
step_keeps z c n a so on = by_act a on
  where
    seat : n < z.seats
    seat = let e = so.views in let h = on.0 in omega arith

    by_act : (b : EpochAct) → Enabled z c n b → Sound z (after z c n b)
    by_act (act.Claim s) may = claim_keeps z c n so seat s may.1
    by_act (act.Fill i x) may = fill_keeps z c n so seat i x may.1
    by_act act.Start may = start_keeps z c n so seat may.1
    by_act (act.See s i) may = see_keeps z c n so seat s i may.1
    by_act (act.Add s) may = add_keeps z c n so seat s may.1
    by_act (act.Drop s) may = drop_keeps z c n so seat s may.1
    by_act (act.Pay d) may = pay_keeps z c n so seat d may.1
    by_act (act.Free s) may = free_keeps z c n so seat s may.1 may.2
    by_act (act.Look p) may = look_keeps z c n so seat p may.1
    by_act (act.Swap p new) may = swap_keeps z c n so seat p new may.1
    by_act (act.Cas p old new) may = cas_keeps z c n so seat p old new may.1
    by_act (act.Clear s i) may = clear_keeps z c n so seat s i may.1
    by_act act.Date may = date_keeps z c n so seat may.1
    by_act act.Enter may = enter_keeps z c n so seat may.1
    by_act act.Open may = open_keeps z c n so seat may.1
    by_act act.Exit may = exit_keeps z c n so seat may.1
    by_act act.Flush may = flush_keeps z c n so seat may.1
    by_act act.Scan may = scan_keeps z c n so seat may.1
    by_act act.Advance may = advance_keeps z c n so seat may.1
    by_act (act.Leave j) may = leave_keeps z c n j so may

pub history_sound : (z : EpochShape) (qs : List Quota) (es : List EpochEvent) (c : Core) → IsShape z
    → AreQuotas z qs → History z qs es c → Sound z c
history_sound z qs [] c shape quotas h = subst (Sound z) (sym h) (start_sound z qs shape quotas)
history_sound z qs (e ∷ es) c shape quotas h =
    let before = history_sound z qs es h.0 shape quotas h.1 in
    subst (Sound z) (sym h.2.1) (step_keeps z h.0 e.seat e.act before h.2.0)
