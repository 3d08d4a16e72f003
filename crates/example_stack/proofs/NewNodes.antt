-- What a make with the deed MakeNode asks, and what it leaves.
use Rattle.std.proofs.Common.{◌≡◌, ℕ, ◌<◌, List, sym, ap, subst, ◌∙◌}
use Rattle.cdrc.specs.plain_state.declared.act.PlainAct.TheVariants as plain
use Rattle.cdrc.specs.plain_state.declared.slot.SlotId.{SlotId}
use Rattle.cdrc.specs.plain_state.Lists.{times}
use Rattle.cdrc.specs.plain_protocol.Owns.{Object}
use Rattle.cdrc.specs.core_events.declared.view.CoreView.{CoreView}
use Rattle.cdrc.specs.core_events.declared.view.Phase.{Phase}
use Rattle.cdrc.specs.core_events.declared.view.Phase.TheVariants as phase
use Rattle.cdrc.specs.core_events.ShownSteps.{on_slot}
use Rattle.cdrc.specs.core_events.Views.{slot_of}
use Rattle.cdrc.specs.domain_rule.Views.{object_in}
use Rattle.cdrc.specs.acquire_retire.Domains.{DomainState}
use Rattle.cdrc.specs.acquire_retire.Seats.{SeatState}
use Rattle.cdrc.specs.slot_store.Calls.{IsReadyToMake, Makes}
use Rattle.example_stack.specs.Views.{View}
use Rattle.example_stack.specs.Deeds.{MakeReady, TellsNothing, same_next}
use Rattle.example_stack.specs.Calls.{HasNode}

module _ {P : Type 0} (kind : List ℕ → Type 0) (d : DomainState P) (payload : List ℕ)
    (old : SeatState View) where
  pub make_ready : IsReadyToMake kind d MakeReady payload old
  make_ready s mid begins w =
      let blank : mid.view.core.phase ≡ phase.Blank s =
      ap (λ (v : CoreView). v.phase) begins.goes.becomes.core in
      (s, ap (λ (x : Phase). on_slot plain.Make (slot_of x)) blank)

  module _ (s : SlotId) (new : SeatState View)
      (makes : Makes kind d same_next TellsNothing payload s old new) where
    pub made_value : (object_in new.view s).payload ≡ payload
    made_value = ap (λ (o : Object). o.payload) makes.object

    pub made_node : 0 < times s new.view.core.owned → kind payload → HasNode kind s new
    made_node owns fits = (owns, subst kind (sym made_value) fits)

    pub made_client : new.view.client ≡ old.view.client
    made_client = ap (λ (z : SeatState View). z.view.client) makes.starts.walks.2
        ∙ makes.starts.walks.1.told.client ∙ makes.begins.goes.client
