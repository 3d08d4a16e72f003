-- An item goes into a node of the seat's own.
use Rattle.std.proofs.Common.{◌≡◌, ◌+◌, ◌-◌, ◌<◌, ap, sym, ◌∙◌, arith, ℕ, List}
use Rattle.std.specs.Prelude.{Some}
use Rattle.queue_protocol.specs.plain_state.declared.act.EventPlace.TheVariants.{Field}
use Rattle.queue_protocol.specs.plain_state.declared.act.PlainAct.{PlainAct}
use Rattle.queue_protocol.specs.plain_state.declared.act.PlainAct.TheVariants as plain
use Rattle.queue_protocol.specs.plain_state.declared.slot.SlotId.{SlotId}
use Rattle.queue_protocol.specs.plain_state.Lists.{times}
use Rattle.queue_protocol.specs.plain_protocol.Owns.{Object}
use Rattle.slot_store.specs.core_events.Views.{without}
use Rattle.slot_store.specs.domain_rule.Views.{own_of}
use Rattle.slot_store.specs.acquire_retire.Domains.{DomainState}
use Rattle.slot_store.specs.acquire_retire.Seats.{SeatState}
use Rattle.slot_store.specs.retiring_stores.Exchanging.{Stores}
use Rattle.queue_protocol.specs.queue_law.declared.view.View.{View}
use Rattle.queue_protocol.specs.queue_law.Lessons.{TellsNothing}
use Rattle.queue_protocol.specs.queue_law.Nodes.{carry_next}
use Rattle.queue_protocol.specs.queue_law.Pushes.{carried_item}
use Rattle.queue_protocol.specs.queue_law.Words.{life_in, payload_in}
use Rattle.queue_protocol.specs.declared.law.QueueLaw.{QueueLaw}
use Rattle.linked_queue.specs.Leaving.{Leaves}
use Rattle.linked_queue.specs.Nodes.{HasNode}
use Rattle.linked_queue.specs.Pops.{item_in}
use Rattle.linked_queue.specs.Pushes.{HasLoad}
use Rattle.linked_queue.specs.UnlessRipe.{next_unless}
use Rattle.linked_queue.proofs.Owning.{has_owned, own_life, own_payload}

module _ (fits : List ℕ → Type 0) (d : DomainState QueueLaw) (node item : SlotId) (old new : SeatState View)
    (has : HasNode node old)
    (stores : Stores fits d (next_unless carry_next) TellsNothing (Field node 1) (Some item)
    old new) where
  loaded : new.view.client
      ≡ carry_next (own_of old.view) (own_of stores.swaps.mid.view) old.view.client
      (plain.Replace (Field node 1) (Some item)) 0
  loaded =
      let step = stores.swaps.puts.step in
      stores.swaps.client ∙ step.told.client
      ∙ ap (λ (a : PlainAct). next_unless carry_next (own_of old.view)
      (own_of stores.swaps.mid.view) old.view.client a step.word)
      (stores.is_replace step.word)

  pub carries : 0 < times node (without item old.view.core.owned)
      → Leaves (without item old.view.core.owned) old new → HasLoad node new
  carries left leaves =
      let owned = has.owns in
      let is = leaves.owns node in
      let known = leaves.knows node (omega arith) (omega arith) in
      record {
        owns = omega arith;
        node = ap (λ (v : View). v.load.node) loaded ∙ has.node;
        life = ap (λ (o : Object). o.life) known ∙ has.life
            ∙ sym (ap (λ (v : View). v.load.life) loaded);
        is_node = ap (λ (o : Object). o.payload) known ∙ has.is_node;
        carried = (let e = ap (λ (v : View). v.load.item) loaded in omega arith);
      }

  pub carries_item : 0 < times item old.view.core.owned
      → carried_item new.view.client ≡ item_in old item
  carries_item owns =
      let with_item = has_owned item old owns in
      let at : item.0 + 1 - 1 ≡ item.0 = omega arith in
      let life = ap (life_in (own_of old.view)) at ∙ own_life item old with_item in
      let payload = ap (payload_in (own_of old.view)) at ∙ own_payload item old with_item in
      ap carried_item loaded ∙ λ i. record { slot = at i; life = life i; payload = payload i }
