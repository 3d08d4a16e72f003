-- How a queue is laid, step by step.
use Rattle.std.proofs.Common.{◌≡◌, ◌<◌, [], ◌∷◌, ◌++◌, refl, ap, sym, ◌∙◌, arith, ℕ, List}
use Rattle.std.specs.Prelude.{None}
use Rattle.queue_protocol.specs.plain_state.declared.slot.SlotId.{SlotId}
use Rattle.queue_protocol.specs.plain_state.Lists.{times}
use Rattle.queue_protocol.specs.plain_state.State.{no_payload}
use Rattle.queue_protocol.specs.plain_protocol.Owns.{Object}
use Rattle.slot_store.specs.core_events.declared.view.CoreView.{CoreView}
use Rattle.slot_store.specs.core_events.Views.{without}
use Rattle.slot_store.specs.acquire_retire.Calls.{IsSameView, same_view}
use Rattle.slot_store.specs.acquire_retire.Domains.{DomainState}
use Rattle.slot_store.specs.acquire_retire.Seats.{SeatState}
use Rattle.slot_store.specs.control_word.Calls.{GainsStrong}
use Rattle.slot_store.specs.control_word.Moves.{KnowsStill}
use Rattle.slot_store.specs.control_word.Resting.{IsSpent}
use Rattle.slot_store.specs.Calls.{Makes}
use Rattle.queue_protocol.specs.queue_law.declared.view.View.{View}
use Rattle.queue_protocol.specs.queue_law.Lessons.{TellsNothing}
use Rattle.queue_protocol.specs.queue_law.Nodes.{make_next}
use Rattle.queue_protocol.specs.declared.law.QueueLaw.{QueueLaw}
use Rattle.linked_queue.specs.Leaving.{Leaves}
use Rattle.linked_queue.specs.Nodes.{HasFewAdds, HasNode, IsHalfLaid, half_laid_in}
use Rattle.linked_queue.specs.Queues.{CanLay, deeds_in}
use Rattle.linked_queue.proofs.Leavings.{copy_leaves, leaves_same}
use Rattle.linked_queue.proofs.Owning.{has_owned, still_owned, through}

-- a seat that finds no add left once it has made a node had one at most before
pub spent_made : (fits : List ℕ → Type 0) (d : DomainState QueueLaw) (s : SlotId) (old made : SeatState View)
    → Makes fits d make_next TellsNothing no_payload s old made → IsSpent made.view.core
    → HasFewAdds 1 old.view.core
spent_made fits d s old made makes spent =
    let adds = ap (λ (v : CoreView). v.adds) makes.core in
    let quota = ap (λ (v : CoreView). v.quota.adds) makes.core in omega arith

module _ (fits : List ℕ → Type 0) (d : DomainState QueueLaw) (s : SlotId) (old made copied half new : SeatState View)
    (node : HasNode s made)
    (copies : GainsStrong fits d same_view IsSameView s made copied)
    (client : copied.view.client ≡ made.view.client)
    (knows : KnowsStill made.view.core made copied) where
  -- a second reference leaves the node as it was
  pub node_copied : HasNode s copied
  node_copied = record {
    owns = still_owned s s made.view.core.owned copied.view.core.owned
        (ap (λ (v : CoreView). v.owned) copies.core) node.owns;
    node = ap (λ (v : View). v.load.node) client ∙ node.node;
    life = ap (λ (o : Object). o.life) (knows s (has_owned s made node.owns)) ∙ node.life
        ∙ sym (ap (λ (v : View). v.load.life) client);
    is_node = ap (λ (o : Object). o.payload) (knows s (has_owned s made node.owns))
        ∙ node.is_node;
    no_back = ap (λ (v : View). v.load.back) client ∙ node.no_back;
  }

  module _ (gives : Leaves (without s copied.view.core.owned) copied half) where
    half_leaves : Leaves made.view.core.owned made half
    half_leaves = through s None made copied copied half
        (copy_leaves s made copied copies knows) (leaves_same copied copied refl) gives

    pub half_owned : 0 < times s half.view.core.owned
    half_owned = let is = half_leaves.owns s in let some' = node.owns in omega arith

    pub half_laid : half.view.client ≡ half_laid_in copied.view.client
        → deeds_in made.view.client ≡ deeds_in old.view.client → CanLay old.view.client
        → IsHalfLaid s half
    half_laid is deeds can =
        let some' = node.owns in let left = half_owned in
        record {
          root = ap (λ (v : View). v.number) is ∙ ap (λ (v : View). v.number) client
              ∙ ap (λ (v : View). v.number) deeds ∙ can.root;
          here = ap (λ (v : View). v.here) is ∙ ap (λ (v : View). v.here) client
              ∙ ap (λ (v : View). v.here) deeds ∙ can.here;
          laying = ap (λ (v : View). v.stand.laid) is;
          node = ap (λ (v : View). v.eyes.node) is ∙ ap (λ (v : View). v.load.node) client
              ∙ node.node;
          life = ap (λ (o : Object). o.life) (half_leaves.knows s (omega arith) (omega arith))
              ∙ node.life
              ∙ sym (ap (λ (v : View). v.eyes.life) is ∙ ap (λ (v : View). v.load.life) client);
        }

    pub laid_leaves : Leaves (old.view.core.owned ++ s ∷ []) old made
        → Leaves (without s half.view.core.owned) half new → Leaves old.view.core.owned old new
    laid_leaves gains last = through s None old made half new gains half_leaves last
