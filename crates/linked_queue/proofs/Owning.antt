-- What a seat owns after a call, and what it knows of the objects that it holds still.
use Rattle.queue_protocol.specs.protocol_pairs.Spared.{HasOneOf}
use Rattle.queue_protocol.specs.plain_state.State.{no_payload}
use Rattle.std.proofs.Common.{◌≡◌, ◌<◌, ◌≤◌, List, [], ◌∷◌, ◌++◌, refl, ap, sym, ◌∙◌, arith, subst}
use Rattle.std.specs.Prelude.{Option, Some, None, if◌then◌else◌}
use Rattle.queue_protocol.specs.plain_state.declared.slot.SlotId.{SlotId}
use Rattle.queue_protocol.specs.plain_state.Lists.{times}
use Rattle.queue_protocol.specs.plain_protocol.Owns.{HasSlot}
use Rattle.slot_store.specs.core_events.declared.view.CoreView.{CoreView}
use Rattle.slot_store.specs.core_events.Shows.{show_seat}
use Rattle.slot_store.specs.core_events.Views.{Holds, held_times, without}
use Rattle.slot_store.proofs.Below.core_law_Kit.{one_same, times_none, times_push, times_without}
use Rattle.slot_store.specs.domain_rule.Views.{object_in, own_of}
use Rattle.slot_store.specs.acquire_retire.Seats.{SeatState}
use Rattle.part_calls.proofs.Below.protected_loads_Telling.{holds_has}
use Rattle.queue_protocol.specs.queue_law.Words.{life_in, life_of, payload_in, payload_of}
use Rattle.linked_queue.specs.Leaving.{Leaves, aside, with_found}
use Rattle.linked_queue.proofs.Trails.{trail_then}

-- WHAT A SEAT HAS it knows by its own part
module _ {V : Type 0} (s : SlotId) (seat : SeatState V) where
  pub has_owned : 0 < times s seat.view.core.owned → HasSlot (show_seat seat.view.core) s
  has_owned owns = holds_has seat.view.core s (omega arith)

  module _ (has : HasSlot (show_seat seat.view.core) s) where
    pub own_life : life_in (own_of seat.view) s.0 ≡ (object_in seat.view s).life
    own_life = ap (λ b. life_of (if b then Some (object_in seat.view s) else None)) has

    pub own_payload : payload_in (own_of seat.view) s.0 ≡ (object_in seat.view s).payload
    own_payload = ap (λ b. payload_of (if b then Some (object_in seat.view s) else None)) has

  -- a node that it owns is the queue's, as far as it can tell
  pub owned_node : 0 < times s seat.view.core.owned → (object_in seat.view s).payload ≡ no_payload
      → HasOneOf (λ words. words ≡ no_payload) ((own_of seat.view).objects s)
  owned_node owns is =
      subst (λ b. HasOneOf (λ words. words ≡ no_payload)
      (if b then Some (object_in seat.view s) else None)) (sym (has_owned owns)) is

-- HOW OFTEN A SEAT OWNS A SLOT
pub found_more : (found : Option SlotId) (x : SlotId) (xs : List SlotId) → 0 < times x xs
    → 0 < times x (with_found found xs)
found_more None x xs some' = some'
found_more (Some s) x xs some' = let push = times_push x s xs in omega arith

pub owns_pushed : (s : SlotId) (xs ys : List SlotId) → ys ≡ xs ++ s ∷ [] → 0 < times s ys
owns_pushed s xs ys is =
    let push = times_push s s xs in
    let one = one_same s s refl in
    let at = ap (times s) is in omega arith

pub still_owned : (x s : SlotId) (xs ys : List SlotId) → ys ≡ xs ++ s ∷ [] → 0 < times x xs
    → 0 < times x ys
still_owned x s xs ys is some' =
    let push = times_push x s xs in let at = ap (times x) is in omega arith

-- lists that have each slot as often, with one of them more
pub pushed_as : (n x : SlotId) (xs ys : List SlotId) → ((y : SlotId) → times y xs ≡ times y ys)
    → times x (xs ++ n ∷ []) ≡ times x (ys ++ n ∷ [])
pushed_as n x xs ys same =
    let a = times_push x n xs in
    let b = times_push x n ys in
    let e = same x in omega arith

-- A reference to n was gained, something may have been found beside, and that reference is given up again.
module _ (n : SlotId) (found : Option SlotId) (xs ys zs : List SlotId)
    (gained : (x : SlotId) → times x ys ≡ times x (xs ++ n ∷ []))
    (kept : (x : SlotId) → times x zs ≡ times x (with_found found ys)) where
  pub some_left : 0 < times n zs
  some_left =
      let a = gained n in
      let b = kept n in
      let push = times_push n n xs in
      let one = one_same n n refl in
      let more = found_more found n ys (omega arith) in omega arith

  pub given_back : (x : SlotId) → times x (without n zs) ≡ times x (with_found found xs)
  given_back x = go found (kept x)
    where
      go : (o : Option SlotId) → times x zs ≡ times x (with_found o ys)
          → times x (without n zs) ≡ times x (with_found o xs)
      go None is =
          let a = gained x in
          let push = times_push x n xs in
          let fewer = times_without x n zs some_left in omega arith
      go (Some s) is =
          let a = gained x in
          let push = times_push x n xs in
          let f = times_push x s ys in
          let h = times_push x s xs in
          let fewer = times_without x n zs some_left in omega arith

-- HOLDING. What a seat holds beside what it owns strongly is told by what stays
pub holds_more : (x : SlotId) (v w : CoreView) → aside v ≡ aside w
    → times x v.owned ≤ times x w.owned → Holds v x → Holds w x
holds_more x v w same more held =
    let e = ap (λ (u : CoreView). held_times x (record u { owned = [] })) same in
    let none = times_none x in omega arith

module _ {V : Type 0} (n : SlotId) (found : Option SlotId) (a b c e : SeatState V)
    (gains : Leaves (a.view.core.owned ++ n ∷ []) a b)
    (goes : Leaves (with_found found b.view.core.owned) b c)
    (gives : Leaves (without n c.view.core.owned) c e) where
  some_at : 0 < times n c.view.core.owned
  some_at = some_left n found a.view.core.owned b.view.core.owned c.view.core.owned gains.owns
      goes.owns

  held_mid : (x : SlotId) → Holds a.view.core x → Holds b.view.core x
  held_mid x =
      let is = gains.owns x in
      let push = times_push x n a.view.core.owned in
      holds_more x a.view.core b.view.core (sym gains.same) (omega arith)

  held_late : (x : SlotId) → Holds e.view.core x → Holds c.view.core x
  held_late x =
      let is = gives.owns x in
      let fewer = times_without x n c.view.core.owned some_at in
      holds_more x e.view.core c.view.core gives.same (omega arith)

  -- A seat that gains a reference to n, goes on, and gives that reference up again has what it found beside.
  pub through : Leaves (with_found found a.view.core.owned) a e
  through = record {
    owns = λ x. gives.owns x
        ∙ given_back n found a.view.core.owned b.view.core.owned c.view.core.owned gains.owns
        goes.owns x;
    same = gives.same ∙ goes.same ∙ gains.same;
    adds = (let x = gains.adds in let y = goes.adds in let z = gives.adds in omega arith);
    trail = trail_then a b e gains.trail (trail_then b c e goes.trail gives.trail);
    knows = λ x was is.
        gives.knows x (held_late x is) is
        ∙ goes.knows x (held_mid x was) (held_late x is)
        ∙ gains.knows x was (held_mid x was);
  }
