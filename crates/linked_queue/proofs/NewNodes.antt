-- What a make with the deed MakeNode asks, and what it leaves.
use Rattle.std.proofs.Common.{◌≡◌, ◌+◌, ◌<◌, true, refl, ap, sym, ◌∙◌, arith, ℕ, List}
use Rattle.std.proofs.lemmas.Bool.Decides.{nat_tests}
use Rattle.queue_protocol.specs.plain_state.declared.act.PlainAct.TheVariants as plain
use Rattle.queue_protocol.specs.plain_state.declared.slot.SlotId.{SlotId}
use Rattle.queue_protocol.specs.plain_state.Lists.{is_slot, times}
use Rattle.queue_protocol.specs.plain_state.State.{no_payload}
use Rattle.queue_protocol.specs.plain_protocol.Owns.{HasSlot, Object}
use Rattle.slot_store.specs.core_events.declared.view.CoreView.{CoreView}
use Rattle.slot_store.specs.core_events.declared.view.Phase.{Phase}
use Rattle.slot_store.specs.core_events.declared.view.Phase.TheVariants as phase
use Rattle.slot_store.specs.core_events.Shows.{show_seat}
use Rattle.slot_store.specs.core_events.ShownSteps.{on_slot}
use Rattle.slot_store.specs.core_events.Views.{slot_of}
use Rattle.slot_store.specs.domain_rule.Told.{changed_object}
use Rattle.slot_store.specs.domain_rule.Views.{object_in, own_of}
use Rattle.slot_store.proofs.Below.domain_rule_Others.{fills_has}
use Rattle.slot_store.specs.acquire_retire.Domains.{DomainState}
use Rattle.slot_store.specs.acquire_retire.Seats.{SeatState}
use Rattle.slot_store.specs.Calls.{Begins, Makes}
use Rattle.queue_protocol.specs.queue_law.declared.view.View.{View}
use Rattle.queue_protocol.specs.queue_law.Lessons.{TellsNothing}
use Rattle.queue_protocol.specs.queue_law.Words.{life_in}
use Rattle.queue_protocol.specs.queue_law.Nodes.{MakeReady, make_next, made}
use Rattle.queue_protocol.specs.declared.law.QueueLaw.{QueueLaw}
use Rattle.linked_queue.specs.Nodes.{HasNode}
use Rattle.linked_queue.proofs.Owning.{own_life, own_payload}

made_more : (s : SlotId) (o : Object) → (changed_object (plain.Make s) s o).life ≡ o.life + 1
made_more s o = let itself : is_slot s s ≡ true = grind (arith, nat_tests) in rw itself refl

module _ (fits : List ℕ → Type 0) (d : DomainState QueueLaw) (s : SlotId) (old mid : SeatState View)
    (begins : Begins fits d no_payload s old mid) where
  blank : mid.view.core.phase ≡ phase.Blank s
  blank = ap (λ (v : CoreView). v.phase) begins.goes.becomes.core

  act_is : on_slot plain.Make (slot_of mid.view.core.phase) ≡ plain.Make s
  act_is = ap (λ (x : Phase). on_slot plain.Make (slot_of x)) blank

  has : HasSlot (show_seat mid.view.core) s
  has = fills_has s mid.view.core blank

  pub node_ready : MakeReady (own_of mid.view) mid.view.client
      (on_slot plain.Make (slot_of mid.view.core.phase))
  node_ready = record {
    node = s.0;
    act_is = act_is;
    is_node = own_payload s mid has ∙ begins.filled;
  }

module _ (fits : List ℕ → Type 0) (d : DomainState QueueLaw) (s : SlotId) (old new : SeatState View)
    (makes : Makes fits d make_next TellsNothing no_payload s old new) where
  pub made_node : 0 < times s new.view.core.owned → HasNode s new
  made_node owns =
      let mid = makes.mid in
      let step = makes.starts.walks.1 in
      let is = act_is fits d s old mid makes.begins in
      let client : new.view.client
      ≡ make_next (own_of mid.view) (own_of makes.starts.walks.0.view) mid.view.client
      (on_slot plain.Make (slot_of mid.view.core.phase)) 0 =
      ap (λ (z : SeatState View). z.view.client) makes.starts.walks.2 ∙ step.told.client in
      let object : object_in new.view s
      ≡ changed_object (on_slot plain.Make (slot_of mid.view.core.phase)) s
      (object_in mid.view s) =
      ap (λ (z : SeatState View). object_in z.view s) makes.starts.walks.2
      ∙ step.told.objects s (has fits d s old mid makes.begins) in
      record {
        owns = owns;
        node = ap (λ (v : View). v.load.node) client ∙ ap (λ a. made a + 1) is;
        life = ap (λ (o : Object). o.life) object
            ∙ ap (λ a. (changed_object a s (object_in mid.view s)).life) is
            ∙ made_more s (object_in mid.view s)
            ∙ sym (ap (λ (v : View). v.load.life) client
            ∙ ap (λ a. life_in (own_of mid.view) (made a) + 1) is
            ∙ ap (λ n. n + 1) (own_life s mid (has fits d s old mid makes.begins)));
        is_node = ap (λ (o : Object). o.payload) makes.object;
        no_back = ap (λ (v : View). v.load.back) client;
      }
