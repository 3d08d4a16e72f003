-- What a push leaves of a seat, level by level.
use Rattle.std.proofs.Common.{◌≡◌, ◌≢◌, ⊎_elim, ◌<◌, ◌≤◌, ℕ, List, [], ◌∷◌, ◌++◌, refl, ap, sym, ◌∙◌, subst, arith}
use Rattle.queue_protocol.specs.plain_state.declared.slot.SlotId.{SlotId}
use Rattle.queue_protocol.specs.plain_state.Lists.{times}
use Rattle.queue_protocol.specs.plain_protocol.Owns.{Object}
use Rattle.slot_store.specs.core_events.Views.{without}
use Rattle.slot_store.proofs.Below.core_law_Kit.{one_other, one_same, slot_cases, times_push, times_without}
use Rattle.slot_store.specs.domain_rule.Views.{object_in}
use Rattle.slot_store.specs.acquire_retire.Domains.{DomainState}
use Rattle.slot_store.specs.acquire_retire.Seats.{SeatState}
use Rattle.slot_store.specs.control_word.Resting.{IsSpent}
use Rattle.slot_store.specs.declared.making.MakeError.{MakeError}
use Rattle.slot_store.specs.declared.making.MakeError.TheVariants as refused
use Rattle.queue_protocol.specs.declared.law.QueueLaw.{QueueLaw}
use Rattle.queue_protocol.specs.queue_law.declared.view.Load.{Load}
use Rattle.queue_protocol.specs.queue_law.declared.view.View.{View}
use Rattle.linked_queue.specs.Leaving.{Leaves}
use Rattle.linked_queue.specs.Nodes.{HasFewAdds, HasNode}
use Rattle.linked_queue.specs.Pushes.{HasLoad, IsWhyRefused}
use Rattle.linked_queue.specs.Queues.{beside_eyes}
use Rattle.linked_queue.specs.Waits.{IsWhyNeverPushed}
use Rattle.linked_queue.proofs.Owning.{holds_more}
use Rattle.linked_queue.proofs.Trails.{trail_then}

-- A NODE OF THE SEAT'S OWN stays so, while the seat owns it and its view tells it
pub node_still : (s : SlotId) (old new : SeatState View) → HasNode s old
    → 0 < times s new.view.core.owned → object_in new.view s ≡ object_in old.view s
    → new.view.client ≡ old.view.client → HasNode s new
node_still s old new has owns object client = record {
  owns = owns;
  node = ap (λ (v : View). v.load.node) client ∙ has.node;
  life = ap (λ (o : Object). o.life) object ∙ has.life
      ∙ sym (ap (λ (v : View). v.load.life) client);
  is_node = ap (λ (o : Object). o.payload) object ∙ has.is_node;
  no_back = ap (λ (v : View). v.load.back) client ∙ has.no_back;
}

pub load_still : (s : SlotId) (old new : SeatState View) → HasLoad s old
    → 0 < times s new.view.core.owned → object_in new.view s ≡ object_in old.view s
    → beside_eyes new.view.client ≡ beside_eyes old.view.client → HasLoad s new
load_still s old new has owns object same =
    let load : new.view.client.load ≡ old.view.client.load = ap (λ (v : View). v.load) same in
    let some' = has.carried in
    let item = ap (λ (l : Load). l.item) load in
    record {
      owns = owns;
      node = ap (λ (l : Load). l.node) load ∙ has.node;
      life = ap (λ (o : Object). o.life) object ∙ has.life ∙ sym (ap (λ (l : Load). l.life) load);
      is_node = ap (λ (o : Object). o.payload) object ∙ has.is_node;
      carried = omega arith;
    }

-- a reference that was copied and is to be given leaves what was owned before
pub left_of : (n item : SlotId) (xs ys : List SlotId) → ys ≡ xs ++ item ∷ [] → 0 < times n xs
    → 0 < times n (without item ys)
left_of n item xs ys is some' =
    let at = ap (times n) is in
    let here = ap (times item) is in
    let push = times_push n item xs in
    let more = times_push item item xs in
    let one = one_same item item refl in
    let fewer = times_without n item ys (omega arith) in omega arith

-- A reference to l is gained, one to n given up, and then the one to l.
module _ (n l : SlotId) (a b c e f : SeatState View) (some_n : 0 < times n a.view.core.owned)
    (gains : Leaves (a.view.core.owned ++ l ∷ []) a b) (goes : Leaves b.view.core.owned b c)
    (gives : Leaves (without n c.view.core.owned) c e) where
  pub n_there : 0 < times n c.view.core.owned
  n_there =
      let x = gains.owns n in
      let y = goes.owns n in
      let push = times_push n l a.view.core.owned in omega arith

  pub l_there : 0 < times l e.view.core.owned
  l_there =
      let x = gains.owns l in
      let y = goes.owns l in
      let z = gives.owns l in
      let push = times_push l l a.view.core.owned in
      let one = one_same l l refl in
      let fewer = times_without l n c.view.core.owned n_there in
      ⊎_elim
      (λ (same : n ≡ l).
      let some_l : 0 < times l a.view.core.owned =
      subst (λ (s : SlotId). 0 < times s a.view.core.owned) same some_n in
      let hit = one_same l n (ap (λ (s : SlotId). s.0) same) in omega arith)
      (λ (ne : n.0 ≢ l.0). let none = one_other l n ne in omega arith)
      (slot_cases n l)

  pub gives_both : Leaves (without l e.view.core.owned) e f
      → Leaves (without n a.view.core.owned) a f
  gives_both last = record {
    owns = λ x.
        let p = gains.owns x in
        let q = goes.owns x in
        let r = gives.owns x in
        let t = last.owns x in
        let push = times_push x l a.view.core.owned in
        let first = times_without x n a.view.core.owned some_n in
        let second = times_without x n c.view.core.owned n_there in
        let third = times_without x l e.view.core.owned l_there in omega arith;
    same = last.same ∙ gives.same ∙ goes.same ∙ gains.same;
    adds = (let x = gains.adds in let y = goes.adds in let z = gives.adds in let u = last.adds in
        omega arith);
    trail = trail_then a b f gains.trail
        (trail_then b c f goes.trail (trail_then c e f gives.trail last.trail));
    knows = λ x was is.
        let p = gains.owns x in
        let q = goes.owns x in
        let r = gives.owns x in
        let t = last.owns x in
        let push = times_push x l a.view.core.owned in
        let second = times_without x n c.view.core.owned n_there in
        let third = times_without x l e.view.core.owned l_there in
        let in_e = holds_more x f.view.core e.view.core last.same (omega arith) is in
        let in_c = holds_more x e.view.core c.view.core gives.same (omega arith) in_e in
        let in_b = holds_more x a.view.core b.view.core (sym gains.same) (omega arith) was in
        last.knows x in_e is ∙ gives.knows x in_c in_e ∙ goes.knows x in_b in_c
        ∙ gains.knows x was in_b;
  }

-- WHY
pub never_pushed : (fits : List ℕ → Type 0) (d : DomainState QueueLaw) (n : ℕ) (error : MakeError)
    (old new : SeatState View) → IsWhyRefused fits d n error old new
    → (error ≡ refused.AddsSpent → IsSpent new.view.core) → IsWhyNeverPushed fits d error old new
never_pushed fits d n refused.MakesSpent old new why spent = why
never_pushed fits d n refused.AddsSpent old new why spent = spent refl
never_pushed fits d n refused.Full old new why spent = why

-- where it was for want of adds, few were left
pub few_made : (fits : List ℕ → Type 0) (d : DomainState QueueLaw) (k n : ℕ) → k ≤ n
    → (error : MakeError) (old new : SeatState View) → error ≡ refused.AddsSpent
    → IsWhyRefused fits d k error old new → HasFewAdds n old.view.core
few_made fits d k n less refused.MakesSpent old new is why = absurd (cc (is))
few_made fits d k n less refused.AddsSpent old new is why = omega arith
few_made fits d k n less refused.Full old new is why = absurd (cc (is))
