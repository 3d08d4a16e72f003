-- Each counter event of the table is the step of a counter.
use Rattle.std.proofs.Common.{◌≡◌, ℕ, ◌+◌, ◌-◌, ◌^◌, ◌<◌, Bool, true, false, refl, arith}
use Rattle.std.specs.Prelude.{◌==◌, if◌then◌else◌}
use prog.Atomic.{either}
use Rattle.announce_slots.specs.plain_state.declared.slot.SlotId.{SlotId}
use Rattle.announce_slots.specs.counter_word.declared.outcome.Sub.TheVariants as «sub»
use Rattle.announce_slots.specs.counter_word.declared.outcome.Fin.TheVariants as «fin»
use Rattle.announce_slots.specs.counter_word.Words.{has_help, added, subbed, finished, helped, marked}
use Rattle.announce_slots.proofs.Below.counter_word_Bits.{cleared}
use Rattle.core_events.specs.declared.act.Act.TheVariants as act
use Rattle.core_events.specs.declared.outcome.Outcome.TheVariants as outcome
use Rattle.core_events.specs.Steps.{plus_one, minus_one}
use Rattle.core_events.specs.Counters.{Makes, PaysStrong, outcome_of_add, outcome_of_sub, outcome_of_finish, outcome_of_take, outcome_of_load, outcome_of_mark}

-- an atomic add and an atomic subtraction, where neither wraps
no_wrap_up : (w : ℕ) → w + 1 < 2 ^ 64 → plus_one w ≡ w + 1
no_wrap_up w h = omega arith

no_wrap_down : (w : ℕ) → 0 < w → w < 2 ^ 64 → minus_one w ≡ w - 1
no_wrap_down w more h = omega arith

either_is_if : (b : Bool) (x y : ℕ) → either b x y ≡ (if b then x else y)
either_is_if true x y = refl
either_is_if false x y = refl

-- of a subtraction: b says whether it took the last count
sub_outcome : (b : Bool)
    → (if b then outcome.Zeroed else outcome.Left) ≡ outcome_of_sub (if b then «sub».Finish else «sub».Done)
sub_outcome true = refl
sub_outcome false = refl

-- of a finish: b says whether it found 0, and h whether it found the help flag
finish_outcome : (b h : Bool)
    → (if b then outcome.Ended else if h then outcome.Help else outcome.Lost)
    ≡ outcome_of_finish (if b then «fin».Ended else if h then «fin».Help else «fin».Lost)
finish_outcome true h = refl
finish_outcome false true = refl
finish_outcome false false = refl

pub add_step : (s : SlotId) (w : ℕ) → w + 1 < 2 ^ 64 → Makes (act.Add s) w (added w).0 (outcome_of_add (added w).1)
add_step s w h = (λ v. no_wrap_up w h, λ z v. refl)

pub sub_step : (s : SlotId) (w : ℕ) → 0 < w → w < 2 ^ 64
    → Makes (act.Drop s) w (subbed w).0 (outcome_of_sub (subbed w).1)
sub_step s w more h = (λ v. no_wrap_down w more h, λ z v. sub_outcome (w == 1))

pub pay_step : (w : ℕ) → 0 < w → w < 2 ^ 64 → PaysStrong w (subbed w).0 (outcome_of_sub (subbed w).1)
pay_step w more h = (λ v. no_wrap_down w more h, λ z v s es first. rw first (sub_outcome (w == 1)))

pub finish_step : (w : ℕ) → Makes act.Finish w (finished w).0 (outcome_of_finish (finished w).1)
finish_step w = (λ v. either_is_if (w == 0) (2 ^ 63) w, λ z v. finish_outcome (w == 0) (has_help w))

pub take_step : (w : ℕ) → w < 2 ^ 64 → Makes act.Take w (helped w).0 (outcome_of_take (helped w).1)
take_step w h = (λ v. cleared w h, λ z v. refl)

pub count_step : (s : SlotId) (w : ℕ) → Makes (act.Count s) w w (outcome_of_load w)
count_step s w = (λ v. refl, λ z v. refl)

pub mark_step : (w : ℕ) → Makes act.Mark w (marked w) (outcome_of_mark w)
mark_step w = (λ v. either_is_if (w == 0) (2 ^ 63 + 2 ^ 62) w, λ z v. refl)
