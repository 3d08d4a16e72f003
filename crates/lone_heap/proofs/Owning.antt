-- What a call on references of a seat that is alone shows: one more, and one fewer.
use Rattle.std.proofs.Common.{◌≡◌, ℕ, Bool, true, false, List, [], ◌∷◌, refl, ap, sym, ◌∙◌, subst}
use Rattle.std.specs.Prelude.{nat_lt, Result, Ok, Err, IfOk, if◌then◌else◌}
use Rattle.protected_loads.specs.plain_state.declared.act.PlainAct.{PlainAct}
use Rattle.protected_loads.specs.plain_state.declared.act.PlainAct.TheVariants as plain
use Rattle.protected_loads.specs.plain_state.declared.slot.SlotId.{SlotId}
use Rattle.protected_loads.specs.plain_state.State.{Plain}
use Rattle.protected_loads.specs.plain_state.Steps.{Does}
use Rattle.plain_settling.specs.plain_store.Calls.{Gains, WeaklyGains}
use Rattle.protected_loads.specs.plain_protocol.Owns.{OwnPart}
use Rattle.protected_loads.specs.counter_word.Words.{ZERO}
use Rattle.protected_loads.specs.core_events.declared.act.Act.TheVariants as act
use Rattle.protected_loads.specs.core_events.declared.outcome.Outcome.{Outcome}
use Rattle.protected_loads.specs.core_events.declared.outcome.Outcome.TheVariants as outcome
use Rattle.protected_loads.specs.core_events.declared.view.CoreView.{CoreView}
use Rattle.protected_loads.specs.core_events.declared.view.Move.{Move}
use Rattle.protected_loads.specs.core_events.Steps.{HasRoom}
use Rattle.protected_loads.specs.acquire_retire.declared.payment.Payment.{Payment}
use Rattle.protected_loads.specs.acquire_retire.declared.payment.Payment.TheVariants as payment
use Rattle.protected_loads.specs.acquire_retire.Calls.{IsSameView, same_view}
use Rattle.protected_loads.specs.acquire_retire.Collecting.{Walks, ends, move}
use Rattle.protected_loads.specs.acquire_retire.Domains.{DomainState}
use Rattle.protected_loads.specs.acquire_retire.Seats.{SeatState}
use Rattle.protected_loads.specs.counted_handles.Handles.{Handle}
use Rattle.protected_loads.specs.control_word.declared.upgrading.UpgradeError.{UpgradeError}
use Rattle.protected_loads.specs.control_word.declared.upgrading.UpgradeError.TheVariants as refused
use Rattle.protected_loads.specs.control_word.Calls.{DropsStrong, DropsWeak, FindsEnded, GainsStrong, GainsWeak, dropped_by, weakly_dropped_by, with_ended, without_strong}
use Rattle.protected_loads.specs.control_word.Resting.{IsAtRest}
use Rattle.lone_heap.specs.Lone.{IsReady, ThenTidies, known_plain}
use Rattle.lone_heap.proofs.Owing.{owes_none}
use Rattle.lone_heap.proofs.Stepping.{step_does}
use Rattle.lone_heap.proofs.Tidying.{ArePaying, knows_step, pays_reach}
use Rattle.lone_heap.proofs.Holding.{kept_of, knows_ready, ready_still, walk_mine}

-- what an add found, where its word has no zero flag, or has it
abbrev number : Bool → ℕ
number b = if b then 0 else 1

-- an add that answered so found no zero mark, or found it
up_number : (b : Bool) → outcome.Up ≡ (if b then outcome.Up else outcome.Dead)
    → number b ≡ 0
up_number true is = refl
up_number false is = absurd (cc (is))

dead_number : (b : Bool) → outcome.Dead ≡ (if b then outcome.Up else outcome.Dead)
    → number b ≡ 1
dead_number true is = absurd (cc (is))
dead_number false is = refl

module _ {P V : Type 0} {fits : List ℕ → Type 0} (d : DomainState P)
    {next : OwnPart → OwnPart → V → PlainAct → ℕ → V}
    {allows : Plain → Plain → ℕ → V → V → Type 0} (s : SlotId) (old new : SeatState V)
    (ready : IsReady d old) (rest : IsAtRest d new)
    (room : HasRoom old.view.core → HasRoom new.view.core) where
  pub gains_shown : (h : SlotId) → h ≡ s → GainsStrong fits d next allows s old new
      → Gains (known_plain d old) s h (known_plain d new)
  gains_shown h is by =
      let step = by.walks.1 in (
        is,
        subst (λ (x : ℕ × Plain). Does (known_plain d old) 0 (plain.Add s) x.0 x.1)
            (λ i. (
              up_number (nat_lt step.word ZERO) step.answers i,
              known_plain d (sym by.walks.2 i),
            ))
            (step_does d (act.Add s) old by.walks.0 _ step (knows_ready d old ready).root (knows_ready d old ready).known),
      )

  pub gains_ready : GainsStrong fits d next allows s old new → IsReady d new
  gains_ready by =
      let on = walk_mine fits d next allows (move (act.Add s) outcome.Up ∷ []) old new (knows_ready d old ready) ready.mine by.walks in
      ready_still d old new ready on.0 on.1 (ap kept_of by.core) rest (room ready.room)

  pub dead_shown : FindsEnded fits d next allows s old new
      → Does (known_plain d old) 0 (plain.Add s) 1 (known_plain d new)
  dead_shown finds =
      let by = finds.becomes in
      let step = by.walks.1 in
      subst (λ (x : ℕ × Plain). Does (known_plain d old) 0 (plain.Add s) x.0 x.1)
      (λ i. (
        dead_number (nat_lt step.word ZERO) step.answers i,
        known_plain d (sym by.walks.2 i),
      ))
      (step_does d (act.Add s) old by.walks.0 _ step (knows_ready d old ready).root (knows_ready d old ready).known)

  pub dead_ready : FindsEnded fits d next allows s old new → IsReady d new
  dead_ready finds =
      let by = finds.becomes in
      let on = walk_mine fits d next allows (move (act.Add s) outcome.Dead ∷ []) old new (knows_ready d old ready) ready.mine by.walks in
      ready_still d old new ready on.0 on.1 (ap kept_of by.core) rest (room ready.room)

-- the moves of a drop after its first
abbrev endings : Payment → List Move
endings payment.Left = []
endings payment.Ended = move act.Finish outcome.Ended ∷ []
endings payment.Lost = move act.Finish outcome.Lost ∷ []
endings payment.Helped = move act.Finish outcome.Help ∷ move act.Take outcome.Ended ∷ []
endings payment.NoHelp = move act.Finish outcome.Help ∷ move act.Take outcome.NoHelp ∷ []
endings payment.Freed = move act.Free outcome.Plain ∷ []

abbrev first_answer : Payment → Outcome
first_answer payment.Left = outcome.Left
first_answer payment.Ended = outcome.Zeroed
first_answer payment.Lost = outcome.Zeroed
first_answer payment.Helped = outcome.Zeroed
first_answer payment.NoHelp = outcome.Zeroed
first_answer payment.Freed = outcome.Last

ends_pay : (how : Payment) → ArePaying (endings how)
ends_pay payment.Left = tt
ends_pay payment.Ended = (tt, tt)
ends_pay payment.Lost = (tt, tt)
ends_pay payment.Helped = (tt, (tt, tt))
ends_pay payment.NoHelp = (tt, (tt, tt))
ends_pay payment.Freed = (tt, tt)

drops_so : (s : SlotId) (how : Payment)
    → dropped_by s how ≡ move (act.Drop s) (first_answer how) ∷ endings how
drops_so s payment.Left = refl
drops_so s payment.Ended = refl
drops_so s payment.Lost = refl
drops_so s payment.Helped = refl
drops_so s payment.NoHelp = refl
drops_so s payment.Freed = refl

abbrev weak_ends : Bool → List Move
weak_ends false = []
weak_ends true = move act.Free outcome.Plain ∷ []

weak_pay : (last : Bool) → ArePaying (weak_ends last)
weak_pay false = tt
weak_pay true = (tt, tt)

weak_drops_so : (s : SlotId) (last : Bool)
    → weakly_dropped_by s last
    ≡ move (act.Wdrop s) (if last then outcome.Last else outcome.Left) ∷ weak_ends last
weak_drops_so s false = refl
weak_drops_so s true = refl

kept_ended : (b : Bool) (s : SlotId) (v : CoreView) → kept_of (with_ended b s v) ≡ kept_of v
kept_ended true s v = refl
kept_ended false s v = refl

module _ {P V : Type 0} {fits : List ℕ → Type 0} (d : DomainState P) (s : SlotId)
    (old new : SeatState V) (ready : IsReady d old) (rest : IsAtRest d new)
    (room : HasRoom old.view.core → HasRoom new.view.core) where
  pub weak_gains_shown : (h : SlotId) → h ≡ s → GainsWeak fits d s old new
      → WeaklyGains (known_plain d old) s h (known_plain d new)
  weak_gains_shown h is by =
      let step = by.walks.1 in (
        is,
        subst (λ (x : SeatState V).
            Does (known_plain d old) 0 (plain.WeakGain s) 0 (known_plain d x)) (sym by.walks.2)
            (step_does d (act.Wadd s) old by.walks.0 _ step (knows_ready d old ready).root (knows_ready d old ready).known),
      )

  pub weak_gains_ready : GainsWeak fits d s old new → IsReady d new
  weak_gains_ready by =
      let on = walk_mine fits d same_view IsSameView (move (act.Wadd s) outcome.Plain ∷ []) old new (knows_ready d old ready) ready.mine by.walks in
      ready_still d old new ready on.0 on.1 (ap kept_of by.core) rest (room ready.room)

  -- a drop, and then what it ends
  pub drop_shown : DropsStrong fits d s old new
      → ThenTidies (Does (known_plain d old) 0 (plain.Drop s) 0) (known_plain d new)
  drop_shown (how, by) =
      let walks = subst (λ (ms : List Move). Walks fits d ms old new) (drops_so s how) by.walks in
      let mid = walks.0 in
      let step = walks.1 in
      let owes : mid.view.core.owed ≡ [] =
      ap (λ (v : CoreView). v.owed) step.told.core ∙ ready.rest.owes_nothing in
      let more = pays_reach fits d (endings how) mid new (ends_pay how)
      (knows_step fits d (act.Drop s) old mid _ (knows_ready d old ready) step) (owes_none mid.view.core owes) walks.2 in (
        known_plain d mid,
        step_does d (act.Drop s) old mid _ step (knows_ready d old ready).root (knows_ready d old ready).known,
        more.tidies,
      )

  pub drop_ready : DropsStrong fits d s old new → IsReady d new
  drop_ready (how, by) =
      let on = walk_mine fits d same_view IsSameView (dropped_by s how) old new (knows_ready d old ready) ready.mine by.walks in
      ready_still d old new ready on.0 on.1
      (ap kept_of by.core
      ∙ kept_ended (ends how) s (without_strong s old.view.core)) rest (room ready.room)

  pub weak_drop_shown : DropsWeak fits d s old new
      → ThenTidies (Does (known_plain d old) 0 (plain.WeakDrop s) 0) (known_plain d new)
  weak_drop_shown (last, by) =
      let walks = subst (λ (ms : List Move). Walks fits d ms old new) (weak_drops_so s last) by.walks in
      let mid = walks.0 in
      let step = walks.1 in
      let owes : mid.view.core.owed ≡ [] =
      ap (λ (v : CoreView). v.owed) step.told.core ∙ ready.rest.owes_nothing in
      let more = pays_reach fits d (weak_ends last) mid new (weak_pay last)
      (knows_step fits d (act.Wdrop s) old mid _ (knows_ready d old ready) step) (owes_none mid.view.core owes) walks.2 in (
        known_plain d mid,
        step_does d (act.Wdrop s) old mid _ step (knows_ready d old ready).root (knows_ready d old ready).known,
        more.tidies,
      )

  pub weak_drop_ready : DropsWeak fits d s old new → IsReady d new
  weak_drop_ready (last, by) =
      let on = walk_mine fits d same_view IsSameView (weakly_dropped_by s last) old new (knows_ready d old ready) ready.mine by.walks in
      ready_still d old new ready on.0 on.1 (ap kept_of by.core) rest (room ready.room)

-- an upgrade gained a reference, found the zero mark, or changed nothing
pub upgrade_ready : {P V : Type 0} {fits : List ℕ → Type 0} (d : DomainState P)
    {next : OwnPart → OwnPart → V → PlainAct → ℕ → V}
    {allows : Plain → Plain → ℕ → V → V → Type 0} (s : SlotId)
    (r : Result Handle UpgradeError) (old new : SeatState V) → IsReady d old → IsAtRest d new
    → (HasRoom old.view.core → HasRoom new.view.core)
    → IfOk r (λ strong. (strong.slot ≡ s) × GainsStrong fits d next allows s old new)
    → (r ≡ Err refused.Spent → new ≡ old)
    → (r ≡ Err refused.Ended → FindsEnded fits d next allows s old new) → IsReady d new
upgrade_ready d s (Ok h) old new ready rest room up spent ended =
    gains_ready d s old new ready rest room up.1
upgrade_ready d s (Err refused.Spent) old new ready rest room up spent ended =
    subst (IsReady d) (sym (spent refl)) ready
upgrade_ready d s (Err refused.Ended) old new ready rest room up spent ended =
    dead_ready d s old new ready rest room (ended refl)
