-- What a seat owns that may have gained a reference to an item and one to its content.
use Rattle.std.proofs.Common.{◌≡◌, ℕ, ◌+◌, ◌<◌, List, [], ◌∷◌, ◌++◌, refl, sym, ◌∙◌, arith}
use Rattle.std.specs.Prelude.{Option, Some, None}
use Rattle.queue_protocol.specs.plain_state.declared.slot.SlotId.{SlotId}
use Rattle.queue_protocol.specs.plain_state.Lists.{times}
use Rattle.slot_store.specs.core_events.Views.{Holds, without}
use Rattle.slot_store.proofs.Below.core_law_Kit.{one_same, times_none, times_push, times_without}
use Rattle.slot_store.specs.acquire_retire.Seats.{SeatState}
use Rattle.linked_queue.specs.Leaving.{Leaves, with_found}
use Rattle.linked_queue.specs.Pops.{with_both}
use Rattle.linked_queue.proofs.Owning.{found_more, holds_more}
use Rattle.linked_queue.proofs.Trails.{trail_then}

and_none : (a b : ℕ) → b ≡ 0 → a ≡ a + b
and_none a b none = omega arith

-- how much more it owns doesn't hang on what it owned
pub found_times : (found : Option SlotId) (x : SlotId) (xs : List SlotId)
    → times x (with_found found xs) ≡ times x xs + times x (with_found found [])
found_times None x xs = and_none (times x xs) (times x []) (times_none x)
found_times (Some s) x xs =
    let none = times_none x in
    let a = times_push x s xs in let b = times_push x s [] in omega arith

pub both_times : (found : Option (SlotId × Option SlotId)) (x : SlotId) (xs : List SlotId)
    → times x (with_both found xs) ≡ times x xs + times x (with_both found [])
both_times None x xs = and_none (times x xs) (times x []) (times_none x)
both_times (Some p) x xs =
    let none = times_none x in
    let a = found_times p.1 x (xs ++ p.0 ∷ []) in
    let b = found_times p.1 x ([] ++ p.0 ∷ []) in
    let c = times_push x p.0 xs in
    let e = times_push x p.0 [] in omega arith

pub both_found : (p : SlotId × Option SlotId) (xs : List SlotId)
    → 0 < times p.0 (with_both (Some p) xs)
both_found p xs =
    let push = times_push p.0 p.0 xs in
    let one = one_same p.0 p.0 refl in
    found_more p.1 p.0 (xs ++ p.0 ∷ []) (omega arith)

-- A reference to n was gained, something may have been found beside, and that reference is given up again.
module _ (n : SlotId) (found : Option (SlotId × Option SlotId)) (xs ys zs : List SlotId)
    (gained : (x : SlotId) → times x ys ≡ times x (xs ++ n ∷ []))
    (kept : (x : SlotId) → times x zs ≡ times x (with_both found ys)) where
  pub both_left : 0 < times n zs
  both_left =
      let a = gained n in
      let b = kept n in
      let push = times_push n n xs in
      let one = one_same n n refl in
      let more = both_times found n ys in omega arith

  both_back : (x : SlotId) → times x (without n zs) ≡ times x (with_both found xs)
  both_back x =
      let a = gained x in
      let b = kept x in
      let push = times_push x n xs in
      let more = both_times found x ys in
      let less = both_times found x xs in
      let fewer = times_without x n zs both_left in omega arith

module _ {V : Type 0} (n : SlotId) (found : Option (SlotId × Option SlotId)) (a b c e : SeatState V)
    (gains : Leaves (a.view.core.owned ++ n ∷ []) a b)
    (goes : Leaves (with_both found b.view.core.owned) b c)
    (gives : Leaves (without n c.view.core.owned) c e) where
  some_at : 0 < times n c.view.core.owned
  some_at = both_left n found a.view.core.owned b.view.core.owned c.view.core.owned gains.owns
      goes.owns

  held_mid : (x : SlotId) → Holds a.view.core x → Holds b.view.core x
  held_mid x =
      let is = gains.owns x in
      let push = times_push x n a.view.core.owned in
      holds_more x a.view.core b.view.core (sym gains.same) (omega arith)

  held_late : (x : SlotId) → Holds e.view.core x → Holds c.view.core x
  held_late x =
      let is = gives.owns x in
      let fewer = times_without x n c.view.core.owned some_at in
      holds_more x e.view.core c.view.core gives.same (omega arith)

  -- A seat that gains a reference to n, goes on, and gives that reference up again has what it found beside.
  pub through_both : Leaves (with_both found a.view.core.owned) a e
  through_both = record {
    owns = λ x. gives.owns x
        ∙ both_back n found a.view.core.owned b.view.core.owned c.view.core.owned gains.owns
        goes.owns x;
    same = gives.same ∙ goes.same ∙ gains.same;
    adds = (let x = gains.adds in let y = goes.adds in let z = gives.adds in omega arith);
    trail = trail_then a b e gains.trail (trail_then b c e goes.trail gives.trail);
    knows = λ x was is.
        gives.knows x (held_late x is) is
        ∙ goes.knows x (held_mid x was) (held_late x is)
        ∙ gains.knows x was (held_mid x was);
  }
