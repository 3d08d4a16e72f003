-- A deed of a part that is ready, and whose next views the rest accepts, is ready in the whole.
use Rattle.std.proofs.Common.{◌≡◌, ℕ, Bool, true, false, List, ap, sym, subst}
use Rattle.std.specs.Prelude.{Option, Some, None, if◌then◌else◌}
use Rattle.control_word.specs.plain_state.declared.act.EventPlace.{EventPlace}
use Rattle.control_word.specs.plain_state.declared.act.PlainAct.{PlainAct}
use Rattle.control_word.specs.plain_state.declared.act.PlainAct.TheVariants as plain
use Rattle.control_word.specs.plain_state.declared.slot.SlotId.{SlotId}
use Rattle.control_word.specs.plain_protocol.Acts.{Owned}
use Rattle.control_word.specs.plain_protocol.Owns.{HasSlot, OwnPart}
use Rattle.control_word.specs.core_events.declared.act.Act.TheVariants as act
use Rattle.control_word.specs.core_events.declared.view.CoreView.{CoreView}
use Rattle.control_word.specs.core_events.declared.view.Phase.{Phase}
use Rattle.control_word.specs.core_events.declared.view.Phase.TheVariants as phase
use Rattle.control_word.specs.core_events.Shows.{show_seat}
use Rattle.control_word.specs.core_events.ShownSteps.{is_ripe_field, on_slot}
use Rattle.control_word.specs.core_events.Views.{slot_of}
use Rattle.control_word.specs.domain_rule.Views.{object_in, own_of}
use Rattle.control_word.proofs.Below.domain_rule_Others.{fills_has}
use Rattle.control_word.specs.acquire_retire.Calls.{IsReady}
use Rattle.control_word.specs.acquire_retire.Domains.{DomainState}
use Rattle.control_word.specs.acquire_retire.Seats.{SeatState}
use Rattle.atomic_shared.specs.protected_loads.References.{IsReadyToLoad}
use Rattle.slot_store.specs.protocol_pairs.Parts.{Accepts, Frees}
use Rattle.slot_store.specs.protocol_pairs.Spared.{HasOneOf, HasPlace, IsWithin}
use Rattle.slot_store.specs.Calls.{IsReadyToMake}
use Rattle.part_calls.specs.Parts.{AcceptsAll, as_part, seen_by}
use Rattle.part_calls.proofs.SeenCalls.{announces_seen, begins_seen}

module _ {P Q V W : Type 0} (fits : List ℕ → Type 0) (part : P → Q) (seen : V → W)
    (d : DomainState P) (owned : Owned) (free : OwnPart → PlainAct → Type 0)
    (frees : Frees owned free) (suits : V → W → Type 0)
    (ready : OwnPart → W → PlainAct → Type 0) (next : OwnPart → OwnPart → W → PlainAct → ℕ → W)
  where
    -- the deed, in the whole
    abbrev lifted : OwnPart → V → PlainAct → Type 0
    lifted own v step =
        ready own (seen v) step × free own step × Accepts suits next seen own v step

    lift : (own : OwnPart) (v : V) (step : PlainAct) → ready own (seen v) step
        → IsWithin owned own step → AcceptsAll suits next seen v → lifted own v step
    lift own v step is within all =
        (is, frees own step within, λ after found. all own after step found)

    -- A LOOK
    pub look_ready : (p : EventPlace) (old : SeatState V)
        → AcceptsAll suits next seen old.view.client
        → IsReady ready d.shape (act.Look p) (seen_by seen old).view
        → IsReady lifted d.shape (act.Look p) old.view
    look_ready p old all is w =
        lift (own_of old.view) old.view.client (plain.Look p) (is w) tt all

    -- A LOAD
    pub load_ready : (p : EventPlace) (old : SeatState V)
        → AcceptsAll suits next seen old.view.client
        → IsReadyToLoad fits (as_part part d) p ready (seen_by seen old)
        → IsReadyToLoad fits d p lifted old
    load_ready p old all is = record {
      look = look_ready p old all is.look;
      check = λ s mid announces w.
          lift (own_of mid.view) mid.view.client (plain.Check 0 p)
          (is.check s (seen_by seen mid) (announces_seen fits part seen d 0 p s old mid announces)
          w)
          tt
          (subst (AcceptsAll suits next seen) (sym announces.client) all);
    }

    -- A STORE: an exchange, which is within what the part owns where its place is
    swap_within : (b : Bool) (p : EventPlace) (given : Option SlotId) (own : OwnPart)
        → HasPlace owned own p
        → IsWithin owned own (if b then plain.Clear p else plain.Replace p given)
    swap_within true p given own is = tt
    swap_within false p given own is = is

    pub swap_ready : (p : EventPlace) (given : Option SlotId) (old : SeatState V)
        → AcceptsAll suits next seen old.view.client → HasPlace owned (own_of old.view) p
        → IsReady ready d.shape (act.Swap p given) (seen_by seen old).view
        → IsReady lifted d.shape (act.Swap p given) old.view
    swap_ready p given old all within is w =
        lift (own_of old.view) old.view.client _ (is w)
        (swap_within (is_ripe_field old.view.core p) p given (own_of old.view) within) all

    pub replace_ready : (p : EventPlace) (expected given : Option SlotId) (old : SeatState V)
        → AcceptsAll suits next seen old.view.client → HasPlace owned (own_of old.view) p
        → IsReady ready d.shape (act.Cas p expected given) (seen_by seen old).view
        → IsReady lifted d.shape (act.Cas p expected given) old.view
    replace_ready p expected given old all within is w =
        lift (own_of old.view) old.view.client (plain.TryReplace p expected given) (is w) within all

    -- A MAKE, of a payload that the part owns
    pub make_ready : (payload : List ℕ) (old : SeatState V)
        → AcceptsAll suits next seen old.view.client → owned.payload payload
        → IsReadyToMake fits (as_part part d) ready payload (seen_by seen old)
        → IsReadyToMake fits d lifted payload old
    make_ready payload old all owns is s mid begins w =
        let blank : mid.view.core.phase ≡ phase.Blank s =
        ap (λ (v : CoreView). v.phase) begins.goes.becomes.core in
        let act_is : on_slot plain.Make (slot_of mid.view.core.phase) ≡ plain.Make s =
        ap (λ (x : Phase). on_slot plain.Make (slot_of x)) blank in
        let has : HasSlot (show_seat mid.view.core) s = fills_has s mid.view.core blank in
        let there : HasOneOf owned.payload ((own_of mid.view).objects s) =
        subst (λ (b : Bool). HasOneOf owned.payload
        (if b then Some (object_in mid.view s) else None)) (sym has)
        (subst owned.payload (sym begins.filled) owns) in
        lift (own_of mid.view) mid.view.client (on_slot plain.Make (slot_of mid.view.core.phase))
        (is s (seen_by seen mid) (begins_seen fits part seen d payload s old mid begins) w)
        (subst (IsWithin owned (own_of mid.view)) (sym act_is) there)
        (subst (AcceptsAll suits next seen) (sym begins.goes.client) all)
