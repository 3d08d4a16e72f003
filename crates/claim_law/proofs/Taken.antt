-- Where a trail shows each slot taken, more makes were given than there are slots.
use Rattle.std.proofs.Common.{◌≡◌, ℕ, ◌<◌, false, List, arith}
use Rattle.core_promises.specs.plain_state.declared.slot.SlotId.{SlotId}
use Rattle.core_promises.specs.core_events.declared.act.Event.{Event}
use Rattle.core_promises.specs.core_events.declared.shape.Shape.{Shape}
use Rattle.core_promises.specs.core_events.Runs.{AreTerms, Core, History, IsShape, view_at}
use Rattle.core_promises.specs.core_events.Steps.{HasMake}
use Rattle.core_promises.specs.core_events.Views.{Terms}
use Rattle.claim_law.specs.Claims.{ShowsTaken, claimed, claims, makes_given}
use Rattle.claim_law.proofs.Claiming.{claims_are_makes}
use Rattle.claim_law.proofs.Counting.{below_each, lists_below}
use Rattle.claim_law.proofs.Given.{makes_spare}
use Rattle.claim_law.proofs.Shown.{all_claimed}

pub taken_slots_were_made : (z : Shape) (ts : Terms) (es : List Event) (c : Core) (n : ℕ)
    → IsShape z → AreTerms z ts → History z ts es c → n < z.seats → (view_at c n).left ≡ false
    → HasMake (view_at c n)
    → ((s : SlotId) → s.0 < z.slots → ShowsTaken s (view_at c n).trail)
    → z.slots < makes_given ts
taken_slots_were_made z ts es c n shape terms h hn here left shown =
    let all = all_claimed z ts es c shape terms h in
    let each = below_each z.slots (λ i. claims c (record { 0 = i }))
    (λ i hi. all.trails n (record { 0 = i }) hn hi (shown (record { 0 = i }) hi)) in
    let lists = lists_below claimed z.slots c.views in
    let makes = claims_are_makes z ts es c shape terms h in
    let spare = makes_spare z ts shape terms es c h n hn here left in omega arith
