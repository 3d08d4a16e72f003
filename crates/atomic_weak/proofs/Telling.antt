-- What the step that asks tells by its answer.
use Rattle.std.proofs.Common.{◌≡◌, ◌≢◌, ℕ, ◌<◌, Bool, true, false, List, refl, ap, sym, arith, subst}
use Rattle.std.specs.Prelude.{nat_lt, None, if◌then◌else◌}
use Rattle.std.proofs.lemmas.Bool.Decides.{nat_tests}
use Rattle.std.proofs.lemmas.List.{append-nil}
use Rattle.protected_loads.specs.plain_state.declared.act.PlainAct.{PlainAct}
use Rattle.protected_loads.specs.plain_state.declared.slot.SlotId.{SlotId}
use Rattle.protected_loads.specs.plain_state.State.{Plain}
use Rattle.protected_loads.specs.plain_protocol.Owns.{OwnPart}
use Rattle.protected_loads.specs.counter_word.Words.{ZERO, value}
use Rattle.protected_loads.specs.core_events.declared.act.Act.TheVariants as act
use Rattle.protected_loads.specs.core_events.declared.outcome.Outcome.{Outcome}
use Rattle.protected_loads.specs.core_events.declared.outcome.Outcome.TheVariants as outcome
use Rattle.protected_loads.specs.core_events.declared.view.Move.{Move}
use Rattle.protected_loads.specs.acquire_retire.Calls.{Steps}
use Rattle.protected_loads.specs.acquire_retire.Domains.{DomainState}
use Rattle.protected_loads.specs.acquire_retire.Seats.{SeatState}
use Rattle.atomic_weak.specs.Questions.{Prepares}

-- a read of the strong word found some references, or none
pub alive_some : (w : ℕ)
    → outcome.Alive ≡ (if nat_lt 0 (value w) then outcome.Alive else outcome.Zeroed)
    → 0 < value w
alive_some w = go (nat_lt 0 (value w)) refl
  where
    go : (b : Bool) → nat_lt 0 (value w) ≡ b
        → outcome.Alive ≡ (if b then outcome.Alive else outcome.Zeroed) → 0 < value w
    go true is o = grind (arith, nat_tests)
    go false is o = absurd (cc (o))

pub zeroed_none : (w : ℕ)
    → outcome.Zeroed ≡ (if nat_lt 0 (value w) then outcome.Alive else outcome.Zeroed)
    → value w ≡ 0
zeroed_none w = go (nat_lt 0 (value w)) refl
  where
    go : (b : Bool) → nat_lt 0 (value w) ≡ b
        → outcome.Zeroed ≡ (if b then outcome.Alive else outcome.Zeroed) → value w ≡ 0
    go true is o = absurd (cc (o))
    go false is o = grind (arith, nat_tests)

-- an add that counted found no zero flag
pub up_below : (w : ℕ) → outcome.Up ≡ (if nat_lt w ZERO then outcome.Up else outcome.Dead)
    → w < ZERO
up_below w = go (nat_lt w ZERO) refl
  where
    go : (b : Bool) → nat_lt w ZERO ≡ b → outcome.Up ≡ (if b then outcome.Up else outcome.Dead)
        → w < ZERO
    go true is o = grind (arith, nat_tests)
    go false is o = absurd (cc (o))

-- of two answers it is the second where it isn't the first
or_else : (b : Bool) (x y o : Outcome) → o ≡ (if b then x else y) → o ≢ x → o ≡ y
or_else true x y o is not = absurd (not is)
or_else false x y o is not = is

module _ {P V : Type 0} {fits : List ℕ → Type 0} (d : DomainState P)
    {next : OwnPart → OwnPart → V → PlainAct → ℕ → V}
    {allows : Plain → Plain → ℕ → V → V → Type 0} {old new : SeatState V} {o : Outcome} where
  pub zeroed : {j : ℕ} → Steps fits d next allows (act.Alive j) old new o → o ≢ outcome.Alive
      → Steps fits d next allows (act.Alive j) old new outcome.Zeroed
  zeroed {j = j} step not =
      subst (λ (x : Outcome). Steps fits d next allows (act.Alive j) old new x)
      (or_else (nat_lt 0 (value step.word)) outcome.Alive outcome.Zeroed o step.answers not) step

  pub dead : {s : SlotId} → Steps fits d next allows (act.Add s) old new o → o ≢ outcome.Up
      → Steps fits d next allows (act.Add s) old new outcome.Dead
  dead {s = s} step not =
      subst (λ (x : Outcome). Steps fits d next allows (act.Add s) old new x)
      (or_else (nat_lt step.word ZERO) outcome.Up outcome.Dead o step.answers not) step

-- without a word there is nothing to prepare
pub prepared_none : {P V : Type 0} {fits : List ℕ → Type 0} (d : DomainState P) (s : SlotId)
    (old : SeatState V) → Prepares fits d None s old old
prepared_none d s old = record {
  becomes = record {
    walks = refl;
    core =
        ap (λ (t : List Move). record old.view.core { trail = t })
        (sym (append-nil old.view.core.trail));
    cleared = refl;
  };
  client = refl;
}
