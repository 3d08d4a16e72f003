-- To make an object of a payload that a protocol doesn't own is foreign to it.
use Rattle.std.proofs.Common.{◌≡◌, ℕ, Bool, true, List, ap, sym, subst}
use Rattle.std.specs.Prelude.{Option, Some, None, if◌then◌else◌}
use Rattle.protocol_pairs.specs.plain_state.declared.act.PlainAct.TheVariants as plain
use Rattle.protocol_pairs.specs.plain_state.declared.slot.SlotId.{SlotId}
use Rattle.protocol_pairs.specs.plain_protocol.Acts.{Owned}
use Rattle.protocol_pairs.specs.plain_protocol.Owns.{Object, has_slot}
use Rattle.claim_law.specs.core_events.declared.act.Act.TheVariants as act
use Rattle.claim_law.specs.core_events.declared.view.CoreView.{CoreView}
use Rattle.claim_law.specs.core_events.declared.view.Phase.TheVariants as phase
use Rattle.claim_law.specs.core_events.Shows.{show_seat}
use Rattle.claim_law.specs.core_events.ShownSteps.{on_slot}
use Rattle.claim_law.specs.core_events.Views.{slot_of}
use Rattle.retiring_stores.specs.domain_rule.Views.{object_in, own_of}
use Rattle.retiring_stores.proofs.Below.domain_rule_Others.{fills_has}
use Rattle.retiring_stores.specs.acquire_retire.Calls.{IsReady}
use Rattle.retiring_stores.specs.acquire_retire.Domains.{DomainState}
use Rattle.retiring_stores.specs.acquire_retire.Seats.{SeatState}
use Rattle.protocol_pairs.specs.Spared.{HasOneOf, IsSpared, others}
use Rattle.slot_store.specs.Calls.{Begins}

has_such : (owned : List ℕ → Type 0) (b : Bool) (o : Object) → b ≡ true → owned o.payload
    → HasOneOf owned (if b then Some o else None)
has_such owned b o is own = rw is own

pub make_is_spared : {P V : Type 0} {fits : List ℕ → Type 0} (d : DomainState P) (owned : Owned)
    (payload : List ℕ) (s : SlotId) (old mid : SeatState V) → Begins fits d payload s old mid
    → ¬ (owned.payload payload)
    → IsReady (λ own v step. IsSpared owned own step) d.shape act.Start mid.view
make_is_spared d owned payload s old mid begins not w =
    let blank : mid.view.core.phase ≡ phase.Blank s =
    ap (λ (v : CoreView). v.phase) begins.goes.becomes.core in
    subst (λ (x : Option SlotId). IsSpared owned (own_of mid.view) (on_slot plain.Make x))
    (sym (ap slot_of blank))
    (has_such (others owned).payload (has_slot (show_seat mid.view.core) s) (object_in mid.view s)
    (fills_has s mid.view.core blank)
    (subst (λ (words : List ℕ). ¬ (owned.payload words)) (sym begins.filled) not))
