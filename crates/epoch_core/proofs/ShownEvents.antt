-- Each event shows its plain steps.
use Rattle.std.proofs.Common.{◌≡◌, ◌<◌, ℕ, [], ◌∷◌, Option, ap, refl, subst, sym, arith}
use Rattle.core_law.specs.plain_state.declared.act.EventPlace.TheVariants.{Field}
use Rattle.core_law.specs.plain_state.declared.act.PlainAct.{PlainAct}
use Rattle.core_law.specs.plain_state.declared.act.PlainAct.TheVariants as plain
use Rattle.core_law.specs.plain_state.declared.slot.SlotId.{SlotId}
use Rattle.core_law.specs.plain_state.State.{Plain}
use Rattle.core_law.specs.plain_state.Steps.{Does}
use Rattle.epoch_core.specs.declared.act.EpochAct.{EpochAct}
use Rattle.epoch_core.specs.declared.act.EpochAct.TheVariants.{Date, Enter, Open, Flush, Scan, Advance, Claim, Fill, Start, See, Add, Drop, Pay, Free, Look, Swap, Cas, Clear, Exit, Leave}
use Rattle.epoch_core.specs.declared.shape.EpochShape.{EpochShape}
use Rattle.epoch_core.specs.declared.view.EpochPhase.TheVariants as phase
use Rattle.epoch_core.specs.Views.{slot_of}
use Rattle.epoch_core.specs.Runs.{Core, Enabled, after, found, view_at}
use Rattle.epoch_core.specs.Shows.{shows}
use Rattle.epoch_core.specs.ShownSteps.{Chain, on_place, on_slot, shown_steps, step}
use Rattle.epoch_core.specs.Sound.{Sound}
use Rattle.epoch_core.proofs.ShownCounts.{add_shows, see_shows}
use Rattle.epoch_core.proofs.ShownEnds.{exit_shows, free_shows}
use Rattle.epoch_core.proofs.ShownExchanges.{cas_shows, clear_shows, look_shows, swap_shows}
use Rattle.epoch_core.proofs.ShownFills.{claim_shows, fill_shows, start_shows}
use Rattle.epoch_core.proofs.ShownLeaves.{leave_shows}
use Rattle.epoch_core.proofs.ShownPays.{drop_shows, pay_shows}
use Rattle.epoch_core.proofs.ShownRegions.{advance_shown, date_shown, enter_shown, flush_shown, open_shown, scan_shown}

-- the seat that acts is there
acts_there : (z : EpochShape) (c : Core) (n : ℕ) (a : EpochAct) → Sound z c → Enabled z c n a → n < z.seats
acts_there z c n a so on = let e = so.views in let h = on.0 in omega arith

-- a chain of one step on a place
one : (n w : ℕ) (p q : Plain) (a : PlainAct) → Does p n a w q → Chain n p (on_place a w ∷ []) q
one n w p q a does = (q, does, refl)

-- and one on the slot that the seat fills
on_its_slot : (z : EpochShape) (c : Core) (n : ℕ) (a : EpochAct) (f : SlotId → PlainAct) (s : SlotId)
    → (view_at c n).phase ≡ phase.Blank s
    → Chain n (shows z c) (step (f s) ∷ []) (shows z (after z c n a))
    → Chain n (shows z c) (on_slot f (slot_of (view_at c n).phase)) (shows z (after z c n a))
on_its_slot z c n a f s at chain =
    subst (λ (o : Option SlotId). Chain n (shows z c) (on_slot f o) (shows z (after z c n a)))
    (sym (ap slot_of at)) chain

abbrev Shows : EpochShape → Core → ℕ → EpochAct → Type 0
Shows z c n a =
    Chain n (shows z c) (shown_steps a (found z c n a) (view_at c n)) (shows z (after z c n a))

pub event_shows : (z : EpochShape) (c : Core) (n : ℕ) (a : EpochAct) → Sound z c → Enabled z c n a
    → Chain n (shows z c) (shown_steps a (found z c n a) (view_at c n)) (shows z (after z c n a))
event_shows z c n a so on = go a on (acts_there z c n a so on)
  where
    go : (b : EpochAct) → Enabled z c n b → n < z.seats → Shows z c n b
    go Date on hn = date_shown z c n so hn on.1
    go Enter on hn = enter_shown z c n so hn on.1
    go Open on hn = open_shown z c n so hn on.1
    go Flush on hn = flush_shown z c n so hn on.1
    go Scan on hn = scan_shown z c n so hn on.1
    go Advance on hn = advance_shown z c n so hn on.1
    go (Claim s) on hn = claim_shows z c n so hn s on
    go (Fill i x) on hn =
        let at = on.1.0.1 in
        on_its_slot z c n (Fill i x) (λ s. plain.Fill s i x) on.1.0.0 at (fill_shows z c n so hn i x on.1.0.0 on at)
    go Start on hn =
        let at = on.1.1 in on_its_slot z c n Start plain.Make on.1.0 at (start_shows z c n so hn on.1.0 on at)
    go (See s i) on hn = see_shows z c n so hn s i on
    go (Add s) on hn = add_shows z c n so hn s on
    go (Drop s) on hn = drop_shows z c n so hn s on
    go (Pay d) on hn = pay_shows z c n so hn d on
    go (Free s) on hn = free_shows z c n so hn s on
    go (Look p) on hn = look_shows z c n so hn p on
    go (Swap p new) on hn =
        one n (found z c n (Swap p new)) (shows z c) (shows z (after z c n (Swap p new))) (plain.Replace p new)
        (swap_shows z c n so hn p new on)
    go (Cas p old new) on hn =
        one n (found z c n (Cas p old new)) (shows z c) (shows z (after z c n (Cas p old new))) (plain.TryReplace p old new)
        (cas_shows z c n so hn p old new on)
    go (Clear s i) on hn =
        one n (found z c n (Clear s i)) (shows z c) (shows z (after z c n (Clear s i))) (plain.Clear (Field s i))
        (clear_shows z c n so hn s i on)
    go Exit on hn = exit_shows z c n so hn on
    go (Leave j) on hn =
        one n 0 (shows z c) (shows z (after z c n (Leave j))) (plain.Leave j) (leave_shows z c n j so on)
