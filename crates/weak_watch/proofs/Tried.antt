-- What is left where an observer was looked for, tried, and the weak reference to it given up.
use Rattle.std.proofs.Common.{◌≡◌, ℕ, ◌+◌, ◌<◌, ◌≤◌, List, [], ◌∷◌, ◌++◌, refl, sym, ◌∙◌, subst, arith}
use Rattle.std.specs.Prelude.{Option, Some, None}
use Rattle.control_word.specs.plain_state.declared.slot.SlotId.{SlotId}
use Rattle.control_word.specs.plain_state.Lists.{times}
use Rattle.control_word.specs.plain_protocol.Owns.{Object}
use Rattle.control_word.specs.core_events.Views.{without}
use Rattle.control_word.proofs.Below.core_law_Kit.{one_same, times_push, times_without}
use Rattle.control_word.specs.domain_rule.Views.{object_in}
use Rattle.control_word.specs.acquire_retire.Seats.{SeatState}
use Rattle.watch_protocol.specs.watch_law.Payloads.{IsObserverOf}
use Rattle.weak_watch.specs.Keeping.{Keeps, with_more}
use Rattle.weak_watch.proofs.Keeping.{held_on, keeps_then, more_same}

module _ {V : Type 0} (k : ℕ) (o : Option SlotId) (s : SlotId) (a b u n : SeatState V)
    (finds : Keeps 0 1 a.view.core.owned (a.view.core.weaks ++ s ∷ []) a b)
    (tries : Keeps 0 k (with_more o b.view.core.owned) b.view.core.weaks b u)
    (drops : Keeps 0 0 u.view.core.owned (without s u.view.core.weaks) u n) where
  tried : Keeps 0 (1 + k) (with_more o a.view.core.owned) (a.view.core.weaks ++ s ∷ []) a u
  tried = keeps_then 0 1 0 k _ _ _ _ _ _ a b u finds tries
      (λ x. more_same o x b.view.core.owned a.view.core.owned (finds.owns x)) finds.weakly
      (λ x was is.
      let push = times_push x s a.view.core.weaks in
      held_on 0 1 _ _ a b finds x (omega arith) (omega (arith, push)) was)

  some_weak : 0 < times s u.view.core.weaks
  some_weak =
      let p = tried.weakly s in
      let push = times_push s s a.view.core.weaks in
      let one = one_same s s refl in omega (arith, p, push, one)

  at_least : (f : Option SlotId) (x : SlotId) (xs : List SlotId)
      → times x xs ≤ times x (with_more f xs)
  at_least None x xs = omega arith
  at_least (Some t) x xs = let push = times_push x t xs in omega (arith, push)

  pub reached_keeps : Keeps 0 (1 + k + 0) (with_more o a.view.core.owned) a.view.core.weaks a n
  reached_keeps = keeps_then 0 (1 + k) 0 0 _ _ _ _ _ _ a u n tried drops
      tried.owns
      (λ x.
      let p = tried.weakly x in
      let push = times_push x s a.view.core.weaks in
      let fewer = times_without x s u.view.core.weaks some_weak in
      omega (arith, p, push, fewer))
      (λ x was is.
      let push = times_push x s a.view.core.weaks in
      let more = at_least o x a.view.core.owned in
      held_on 0 (1 + k) _ _ a u tried x (omega (arith, more)) (omega (arith, push)) was)

  -- what was found there is known still, where it is owned
  pub reached_owned : (x : SlotId) → 0 < times x u.view.core.owned
      → 0 < times x n.view.core.owned
  reached_owned x some' = let e = drops.owns x in omega (arith, e, some')

  pub reached_known : (c : ℕ) (x : SlotId) → x ≡ s → 0 < times x u.view.core.owned
      → IsObserverOf c (object_in b.view s).payload → IsObserverOf c (object_in n.view x).payload
  reached_known c x is some' observer =
      let later = reached_owned x some' in
      let weak : 0 < times x b.view.core.weaks =
      subst (λ (y : SlotId). 0 < times y b.view.core.weaks) (sym is)
      (let p = finds.weakly s in
      let push = times_push s s a.view.core.weaks in
      let one = one_same s s refl in omega (arith, p, push, one)) in
      let e = tries.knows x (omega (arith, weak)) (omega (arith, some')) in
      let f = drops.knows x (omega (arith, some')) (omega (arith, later)) in
      subst (λ (y : Object). IsObserverOf c y.payload) (sym (f ∙ e))
      (subst (λ (y : SlotId). IsObserverOf c (object_in b.view y).payload) (sym is) observer)
