-- What a seat knows of its own slots by its view.
use Rattle.std.proofs.Common.{◌≡◌, ℕ, ◌<◌, List, refl, sym, ap, subst, arith, Option, Some, None}
use Rattle.std.specs.Prelude.{Contains, if◌then◌else◌}
use Rattle.cdrc.specs.plain_state.declared.slot.SlotId.{SlotId}
use Rattle.cdrc.specs.plain_state.declared.slot.Kind.TheVariants.{Strong}
use Rattle.cdrc.specs.plain_state.Lists.{times}
use Rattle.cdrc.specs.plain_protocol.Owns.{HasSlot}
use Rattle.cdrc.specs.core_events.declared.view.CoreView.{CoreView}
use Rattle.cdrc.specs.core_events.Shows.{show_seat}
use Rattle.cdrc.specs.core_events.Steps.{CanGive, without_given}
use Rattle.cdrc.proofs.Below.core_law_Kit.{one_same, times_push, times_without}
use Rattle.cdrc.specs.domain_rule.Views.{object_in, own_of}
use Rattle.cdrc.specs.acquire_retire.Seats.{SeatState}
use Rattle.cdrc.proofs.Below.protected_loads_Telling.{holds_has}
use Rattle.cdrc.specs.protocol_pairs.Spared.{HasOneOf}
use Rattle.example_stack.specs.Views.{View}
use Rattle.example_stack.specs.Deeds.{OwnsNode, SawIt, SawObject}
use Rattle.example_stack.specs.Calls.{HasNode}
use Rattle.example_stack.specs.Leaving.{with_found}

-- what it owns it has
pub has_owned : (v : CoreView) (s : SlotId) → 0 < times s v.owned → HasSlot (show_seat v) s
has_owned v s owns = holds_has v s (omega arith)

pub own_node : (kind : List ℕ → Type 0) (x : SlotId) (seat : SeatState View) → HasNode kind x seat
    → OwnsNode kind (own_of seat.view) x
own_node kind x seat has = (
  has.0,
  subst (λ b. HasOneOf kind (if b then Some (object_in seat.view x) else None))
      (sym (has_owned seat.view.core x has.0)) has.1,
)

pub saw_owned : (s : SlotId) (seat : SeatState View) → HasSlot (show_seat seat.view.core) s
    → Contains seat.view.client.seen (object_in seat.view s).payload
    → SawIt (own_of seat.view) seat.view.client (Some s)
saw_owned s seat has saw =
    subst (λ b. SawObject seat.view.client (if b then Some (object_in seat.view s) else None))
    (sym has) saw

pub node_still : (kind : List ℕ → Type 0) (x : SlotId) (old new : SeatState View)
    → HasNode kind x old → 0 < times x new.view.core.owned
    → object_in new.view x ≡ object_in old.view x → HasNode kind x new
node_still kind x old new has owns same = (owns, subst (λ o. kind o.payload) (sym same) has.1)

-- WHAT WAS FOUND AND GIVEN AGAIN leaves a seat what it owned
pub gives_found : (found : Option SlotId) (v : CoreView) (xs : List SlotId)
    → v.owned ≡ with_found found xs → CanGive Strong found v
gives_found None v xs is = tt
gives_found (Some s) v xs is =
    let push = times_push s s xs in
    let one = one_same s s refl in
    let at = ap (times s) is in omega arith

pub owns_found : (found : Option SlotId) (v : CoreView) (xs : List SlotId) (x : SlotId)
    → v.owned ≡ with_found found xs → 0 < times x xs → 0 < times x v.owned
owns_found None v xs x is owns = let at = ap (times x) is in omega arith
owns_found (Some s) v xs x is owns =
    let push = times_push x s xs in let at = ap (times x) is in omega arith

pub owns_again : (found : Option SlotId) (v : CoreView) (xs : List SlotId) (x : SlotId)
    → v.owned ≡ with_found found xs → 0 < times x xs
    → 0 < times x (without_given Strong found v).owned
owns_again None v xs x is owns = let at = ap (times x) is in omega arith
owns_again (Some s) v xs x is owns =
    let push = times_push x s xs in
    let at = ap (times x) is in
    let fewer = times_without x s v.owned (gives_found (Some s) v xs is) in omega arith
