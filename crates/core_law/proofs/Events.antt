-- Every event shows exactly one plain step.
use Rattle.std.proofs.Common.{ℕ, ◌<◌, arith}
use Rattle.core_events.specs.declared.act.Act.{Act}
use Rattle.core_events.specs.declared.act.Act.TheVariants as act
use Rattle.core_events.specs.declared.shape.Shape.{Shape}
use Rattle.core_events.specs.Runs.{Core, Enabled}
use Rattle.core_law.specs.Sound.{Sound}
use Rattle.core_law.specs.Shown.{ShowsStep}
use Rattle.core_law.proofs.Does.{ShowsRow}
use Rattle.core_law.proofs.Seats.{enabled_seat}
use Rattle.core_law.proofs.ShownClaims as claiming
use Rattle.core_law.proofs.ShownCounters as counter
use Rattle.core_law.proofs.ShownEnds as ending
use Rattle.core_law.proofs.ShownLeaves.{leave_shows}
use Rattle.core_law.proofs.ShownLives as life
use Rattle.core_law.proofs.ShownNotes as reading
use Rattle.core_law.proofs.ShownSwaps as place

by_act : (z : Shape) (c : Core) (n : ℕ) (so : Sound z c) (hn : n < z.seats) (a : Act)
    → Enabled z c n a → ShowsRow z c n a
by_act z c n so hn (act.Add s) on = counter.add_shows z c n so hn s on
by_act z c n so hn (act.Drop s) on = counter.drop_shows z c n so hn s on
by_act z c n so hn act.Pay on = counter.pay_shows z c n so hn on
by_act z c n so hn act.Finish on = ending.finish_shows z c n so hn on
by_act z c n so hn act.Take on = ending.take_shows z c n so hn on
by_act z c n so hn (act.Count s) on = counter.count_shows z c n so hn s on
by_act z c n so hn act.Mark on = ending.mark_shows z c n so hn on
by_act z c n so hn (act.Announce j k s) on = reading.announce_shows z c n so hn j k s on
by_act z c n so hn (act.Release j) on = reading.release_shows z c n so hn j on
by_act z c n so hn (act.Look p) on = reading.look_shows z c n so hn p on
by_act z c n so hn (act.Check j p) on = place.check_shows z c n so hn j p on
by_act z c n so hn (act.Alive j) on = reading.alive_shows z c n so hn j on
by_act z c n so hn act.Scan on = reading.scan_shows z c n so hn on
by_act z c n so hn (act.Swap p new) on = place.swap_shows z c n so hn p new on
by_act z c n so hn (act.Cas p old new) on = place.cas_shows z c n so hn p old new on
by_act z c n so hn (act.Claim s) on = claiming.claim_shows z c n so hn s on
by_act z c n so hn act.Arm on = claiming.arm_shows z c n so hn on
by_act z c n so hn (act.Fill i x) on = life.fill_shows z c n so hn i x on
by_act z c n so hn act.Start on = life.start_shows z c n so hn on
by_act z c n so hn (act.See s i) on = reading.see_shows z c n so hn s i on
by_act z c n so hn act.Free on = life.free_shows z c n so hn on
by_act z c n so hn act.Ticket on = reading.ticket_shows z c n so hn on
by_act z c n so hn (act.Wadd s) on = reading.wadd_shows z c n so hn s on
by_act z c n so hn (act.Wdrop s) on = reading.wdrop_shows z c n so hn s on
by_act z c n so hn (act.Destroy s) on = life.destroy_shows z c n so hn s on
by_act z c n so hn (act.Wcount s) on = reading.wcount_shows z c n so hn s on
by_act z c n so hn (act.Leave j) on = leave_shows z c n j so hn on

pub event_shows : (z : Shape) (c : Core) (n : ℕ) (a : Act) → Sound z c → Enabled z c n a
    → ShowsStep z c n a
event_shows z c n a so on =
    let sv = so.views in
    let h = on.0 in
    (enabled_seat z c n a so on, by_act z c n so (omega arith) a on)
