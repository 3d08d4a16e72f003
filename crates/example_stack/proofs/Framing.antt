-- What a push and a pop leave of a seat, call by call.
use Rattle.std.proofs.Common.{◌≡◌, ◌≤◌, ◌<◌, List, [], ◌∷◌, ◌++◌, refl, ap, ◌∙◌, arith, Option, Some, None}
use Rattle.cdrc.specs.plain_state.declared.slot.Kind.TheVariants.{Strong}
use Rattle.cdrc.specs.plain_state.declared.slot.SlotId.{SlotId}
use Rattle.cdrc.specs.plain_state.Lists.{times}
use Rattle.cdrc.specs.core_events.declared.view.CoreView.{CoreView}
use Rattle.cdrc.specs.core_events.Steps.{without_given}
use Rattle.cdrc.specs.core_events.Views.{without}
use Rattle.cdrc.proofs.Below.core_law_Kit.{one_same, times_push, times_without}
use Rattle.cdrc.specs.acquire_retire.Seats.{SeatState}
use Rattle.example_stack.specs.Views.{View}
use Rattle.example_stack.specs.Leaving.{Leaves, with_found}
use Rattle.example_stack.proofs.Knowing.{gives_found}
use Rattle.example_stack.proofs.Leavings.{after_gain, leaves_list, then_gives}

-- HOW OFTEN A SEAT OWNS A SLOT
found_more : (found : Option SlotId) (x : SlotId) (xs : List SlotId) → times x xs ≤ times x (with_found found xs)
found_more None x xs = omega arith
found_more (Some s) x xs = let push = times_push x s xs in omega arith

-- what was found is given again
given_back : (found : Option SlotId) (v : CoreView) (xs : List SlotId) (x : SlotId)
    → v.owned ≡ with_found found xs → times x (without_given Strong found v).owned ≡ times x xs
given_back None v xs x is = ap (times x) is
given_back (Some s) v xs x is =
    let push = times_push x s xs in
    let at = ap (times x) is in
    let fewer = times_without x s v.owned (gives_found (Some s) v xs is) in omega arith

-- one fewer of two lists that have each slot as often
without_same : (n x : SlotId) (xs ys : List SlotId) → ((y : SlotId) → times y xs ≡ times y ys) → 0 < times n ys
    → times x (without n xs) ≡ times x (without n ys)
without_same n x xs ys same some =
    let at = same x in
    let here = same n in
    let f = times_without x n xs (omega arith) in
    let g = times_without x n ys some in omega arith

fewer : (n x : SlotId) (xs : List SlotId) → 0 < times n xs → times x (without n xs) ≤ times x xs
fewer n x xs some = let f = times_without x n xs some in omega arith

-- A seat comes to have what it found, and gives that up again
module _ (found : Option SlotId) (a b c : SeatState View)
    (sees : b.view.core.owned ≡ with_found found a.view.core.owned)
    (gains : Leaves (with_found found a.view.core.owned) a b)
    (gives : Leaves (without_given Strong found b.view.core).owned b c) where
  pub there_and_back : Leaves a.view.core.owned a c
  there_and_back =
      leaves_list a c (without_given Strong found b.view.core).owned a.view.core.owned
      (λ x. given_back found b.view.core a.view.core.owned x sees)
      (after_gain (with_found found a.view.core.owned) (without_given Strong found b.view.core).owned a b c gains gives
      (λ x. found_more found x a.view.core.owned))

-- A PUSH, once the node is linked
module _ (node : SlotId) (a c e : SeatState View) (linked : Leaves a.view.core.owned a c) where
  pub push_gives : 0 < times node a.view.core.owned → Leaves (without node c.view.core.owned) c e
      → Leaves (without node a.view.core.owned) a e
  push_gives owns gives =
      let here = linked.owns node in
      leaves_list a e (without node c.view.core.owned) (without node a.view.core.owned)
      (λ x. without_same node x c.view.core.owned a.view.core.owned linked.owns owns)
      (then_gives a.view.core.owned (without node c.view.core.owned) a c e linked gives
      (λ x. fewer node x c.view.core.owned (omega arith)))

  pub push_leaves : Leaves c.view.core.owned c e → Leaves a.view.core.owned a e
  push_leaves goes =
      leaves_list a e c.view.core.owned a.view.core.owned linked.owns
      (then_gives a.view.core.owned c.view.core.owned a c e linked goes (λ x. omega arith))

-- A POP. The seat has found a top
module _ (top : SlotId) (a b : SeatState View)
    (gains : Leaves (a.view.core.owned ++ top ∷ []) a b) where
  more : (x : SlotId) → times x a.view.core.owned ≤ times x (a.view.core.owned ++ top ∷ [])
  more x = let push = times_push x top a.view.core.owned in omega arith

  -- and owns it still
  pub pop_takes : (e : SeatState View) → Leaves b.view.core.owned b e
      → Leaves (a.view.core.owned ++ top ∷ []) a e
  pop_takes e goes =
      leaves_list a e b.view.core.owned (a.view.core.owned ++ top ∷ []) gains.owns
      (after_gain (a.view.core.owned ++ top ∷ []) b.view.core.owned a b e gains goes more)

  -- or has given it up
  pub pop_leaves : (f g : SeatState View) → Leaves b.view.core.owned b f
      → Leaves (without top f.view.core.owned) f g → Leaves a.view.core.owned a g
  pop_leaves f g goes gives =
      let all = pop_takes f goes in
      let one = one_same top top refl in
      let some : 0 < times top f.view.core.owned =
      (let at = all.owns top in let push = times_push top top a.view.core.owned in omega arith) in
      leaves_list a g (without top f.view.core.owned) a.view.core.owned
      (λ x. let at = all.owns x in
      let push = times_push x top a.view.core.owned in
      let one_less = times_without x top f.view.core.owned some in omega arith)
      (then_gives (a.view.core.owned ++ top ∷ []) (without top f.view.core.owned) a f g all gives
      (λ x. fewer top x f.view.core.owned some))

  -- where what was below was found too, and given up again after a try that was lost
  pub lost_below : (below : Option SlotId) (c e f : SeatState View)
      → c.view.core.owned ≡ with_found below b.view.core.owned
      → Leaves (with_found below b.view.core.owned) b c → Leaves c.view.core.owned c e
      → e.view.core.owned ≡ c.view.core.owned
      → Leaves (without_given Strong below e.view.core).owned e f → Leaves b.view.core.owned b f
  lost_below below c e f sees finds tries same gives =
      let been = leaves_list b e c.view.core.owned (with_found below b.view.core.owned) (λ x. ap (times x) sees)
      (after_gain (with_found below b.view.core.owned) c.view.core.owned b c e finds tries
      (λ x. found_more below x b.view.core.owned)) in
      there_and_back below b e f (same ∙ sees) been gives
