-- Where a heap may be restless after a call.
use Rattle.std.proofs.Common.{◌≡◌, ◌<◌, Bool, true, false, length, refl, ◌∙◌, arith}
use Rattle.std.specs.Prelude.{ℕ, if◌then◌else◌}
use Rattle.std.proofs.lemmas.Bool.Decides.{nat_tests}
use Rattle.plain_protocol.specs.plain_state.declared.act.PlainAct.TheVariants as act
use Rattle.plain_protocol.specs.plain_state.declared.slot.SlotId.{SlotId}
use Rattle.plain_protocol.specs.plain_state.Lists.{is_slot}
use Rattle.plain_protocol.specs.plain_state.State.{Plain}
use Rattle.plain_protocol.specs.plain_state.Steps.{Does}
use Rattle.plain_protocol.proofs.Below.plain_state_Kit.{slot_is, times_lost}
use Rattle.plain_store.specs.declared.store.Store.{Store}
use Rattle.plain_store.specs.Stores.{plain_of, Kept}
use Rattle.plain_store.proofs.Calming.{StaysCalm, StaysCalmBut, drop_calm, weak_drop_calm}
use Rattle.plain_store.proofs.Gains.{weak_owned_there}
use Rattle.plain_store.proofs.Stores.{owned_there}
use Rattle.cdrc_plain.specs.declared.restless.Restless.{Restless}
use Rattle.cdrc_plain.specs.declared.restless.Restless.TheVariants.{Nowhere, At, Anywhere}
use Rattle.cdrc_plain.specs.Watching.{IsRestlessOnly, also}

-- a call that gives up nothing
pub restless_on : (r : Restless) (p q : Plain) → StaysCalm p q → IsRestlessOnly r p → IsRestlessOnly r q
restless_on Nowhere p q stays only = λ s. stays.calm s (only s)
restless_on (At x) p q stays only = (omega (arith, stays.slots, only.0), λ s ne. stays.calm s (only.1 s ne))
restless_on Anywhere p q stays only = tt

tested : (b : Bool) (first : SlotId) (q : Plain) → (b ≡ true → IsRestlessOnly (At first) q) → IsRestlessOnly (if b then At first else Anywhere) q
tested true first q same = same refl
tested false first q same = tt

-- a call that gives up a reference to x
pub restless_also : (r : Restless) (x : SlotId) (p q : Plain) → x.0 < length p.slots → StaysCalmBut x p q → IsRestlessOnly r p → IsRestlessOnly (also r x) q
restless_also Nowhere x p q there stays only = (omega (arith, stays.slots, there), λ s ne. stays.calm s ne (only s))
restless_also (At first) x p q there stays only =
    tested (is_slot first x) first q (λ yes.
    let same : x ≡ first = slot_is x first (grind (arith, nat_tests)) in
    (omega (arith, stays.slots, only.0), λ s ne. stays.calm s (λ e. ne (e ∙ same)) (only.1 s ne)))
restless_also Anywhere x p q there stays only = tt

-- a drop, and a weak one
pub restless_drop : (r : Restless) (h : Store) (x : SlotId) (found : ℕ) (q : Plain) → Kept h → Does (plain_of h) 0 (act.Drop x) found q → IsRestlessOnly r (plain_of h) → IsRestlessOnly (also r x) q
restless_drop r h x found q k d =
    restless_also r x (plain_of h) q (owned_there h x k (times_lost x h.owned.items d.1.0 d.1.1)) (drop_calm (plain_of h) q x found d)

pub restless_weak_drop : (r : Restless) (h : Store) (x : SlotId) (found : ℕ) (q : Plain) → Kept h → Does (plain_of h) 0 (act.WeakDrop x) found q → IsRestlessOnly r (plain_of h) → IsRestlessOnly (also r x) q
restless_weak_drop r h x found q k d =
    restless_also r x (plain_of h) q (weak_owned_there h x k (times_lost x h.weaks.items d.1.0 d.1.1)) (weak_drop_calm (plain_of h) q x found d)
