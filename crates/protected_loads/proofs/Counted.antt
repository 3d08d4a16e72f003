-- An add under a strong snapshot counts.
use Rattle.std.proofs.Common.{ℕ, ◌<◌, List, refl, ◌∙◌, subst, arith}
use Rattle.control_word.specs.plain_state.declared.act.PlainAct.{PlainAct}
use Rattle.control_word.specs.plain_state.declared.slot.Kind.TheVariants.{Strong}
use Rattle.control_word.specs.plain_state.declared.slot.SlotId.{SlotId}
use Rattle.control_word.specs.plain_state.Lists.{entry_times}
use Rattle.control_word.specs.plain_state.State.{Plain}
use Rattle.control_word.specs.plain_protocol.Owns.{OwnPart}
use Rattle.control_word.specs.core_events.declared.act.Act.TheVariants as act
use Rattle.control_word.specs.core_events.declared.outcome.Outcome.{Outcome}
use Rattle.control_word.specs.core_events.declared.outcome.Outcome.TheVariants as outcome
use Rattle.control_word.specs.core_events.Views.{Holds, HoldsStrongly, snapshots}
use Rattle.control_word.specs.acquire_retire.Calls.{Steps}
use Rattle.control_word.specs.acquire_retire.Domains.{DomainState}
use Rattle.control_word.specs.acquire_retire.Seats.{SeatState}
use Rattle.control_word.proofs.Finding.{counting, strong_some, strong_word}

pub up_under_snapshot : {P V : Type 0} {fits : List ℕ → Type 0} (d : DomainState P)
    {next : OwnPart → OwnPart → V → PlainAct → ℕ → V}
    {allows : Plain → Plain → ℕ → V → V → Type 0} (old new : SeatState V) (s : SlotId)
    (o : Outcome) → Steps fits d next allows (act.Add s) old new o
    → 0 < entry_times Strong s (snapshots old.view.core)
    → Steps fits d next allows (act.Add s) old new outcome.Up
up_under_snapshot {fits = fits} d {next = next} {allows = allows} old new s o add some' =
    let strongly : HoldsStrongly old.view.core s = omega arith in
    let holds : Holds old.view.core s = omega arith in
    let below = counting add.word _ (strong_word add.told s holds add.told.happened.found)
    (strong_some add.told s strongly) in
    subst (λ (x : Outcome). Steps fits d next allows (act.Add s) old new x)
    (add.answers ∙ rw below refl) add
