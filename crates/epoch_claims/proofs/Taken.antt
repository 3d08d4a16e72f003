-- Where a trail shows each slot taken, makes were used for all slots, so by the seat itself or by others.
use Rattle.std.proofs.Common.{ℕ, ◌+◌, ◌<◌, ◌≤◌, List, arith}
use Rattle.core_law.specs.core_events.declared.shape.Quota.{Quota}
use Rattle.core_law.specs.plain_state.declared.slot.SlotId.{SlotId}
use Rattle.epoch_core.specs.declared.act.EpochEvent.{EpochEvent}
use Rattle.epoch_core.specs.declared.shape.EpochShape.{EpochShape}
use Rattle.epoch_core.specs.Runs.{AreQuotas, Core, History, IsShape, view_at}
use Rattle.epoch_core.specs.Steps.{HasMake}
use Rattle.epoch_claims.specs.Claims.{ShowsTaken, claimed, claims, makes_given, makes_used}
use Rattle.epoch_claims.proofs.Claiming.{claims_are_makes}
use Rattle.epoch_claims.proofs.Counting.{below_each, lists_below}
use Rattle.epoch_claims.proofs.Given.{makes_less, makes_spare}
use Rattle.epoch_claims.proofs.Shown.{all_claimed}

-- no fewer makes were used than there are slots
slots_were_claimed : (z : EpochShape) (qs : List Quota) (es : List EpochEvent) (c : Core) (n : ℕ)
    → IsShape z → AreQuotas z qs → History z qs es c → n < z.seats
    → ((s : SlotId) → s.0 < z.slots → ShowsTaken s (view_at c n).trail)
    → z.slots ≤ makes_used c
slots_were_claimed z qs es c n shape quotas h hn shown =
    let all = all_claimed z qs shape quotas es c h in
    let each = below_each z.slots (λ i. claims c (record { 0 = i }))
    (λ i hi. all n (record { 0 = i }) hn hi (shown (record { 0 = i }) hi)) in
    let lists = lists_below claimed z.slots c.views in
    let makes = claims_are_makes z qs es c shape quotas h in omega arith

pub taken_slots_were_made : (z : EpochShape) (qs : List Quota) (es : List EpochEvent) (c : Core)
    (n : ℕ) → IsShape z → AreQuotas z qs → History z qs es c → n < z.seats → HasMake (view_at c n)
    → ((s : SlotId) → s.0 < z.slots → ShowsTaken s (view_at c n).trail)
    → z.slots < makes_given qs
taken_slots_were_made z qs es c n shape quotas h hn left shown =
    let used = slots_were_claimed z qs es c n shape quotas h hn shown in
    let spare = makes_spare z qs shape quotas es c h n hn left in omega arith

pub taken_slots_fit_makes : (z : EpochShape) (qs : List Quota) (es : List EpochEvent) (c : Core)
    (n : ℕ) → IsShape z → AreQuotas z qs → History z qs es c → n < z.seats
    → ((s : SlotId) → s.0 < z.slots → ShowsTaken s (view_at c n).trail)
    → z.slots + (view_at c n).quota.makes ≤ makes_given qs + (view_at c n).makes
taken_slots_fit_makes z qs es c n shape quotas h hn shown =
    let used = slots_were_claimed z qs es c n shape quotas h hn shown in
    let less = makes_less z qs shape quotas es c h n hn in omega arith
