-- What a push keeps, and a call that gives what it was given.
use Rattle.std.proofs.Common.{ℕ, ◌+◌, ◌-◌, ◌<◌, ◌≤◌, List, [], ◌∷◌, ◌++◌, refl, arith}
use Rattle.control_word.specs.plain_state.declared.slot.SlotId.{SlotId}
use Rattle.control_word.specs.plain_state.Lists.{times}
use Rattle.control_word.specs.core_events.Views.{without}
use Rattle.control_word.proofs.Below.core_law_Kit.{one_same, times_push, times_without}
use Rattle.control_word.specs.acquire_retire.Seats.{SeatState}
use Rattle.hand_queues.specs.double_link_queue.Leaving.{LeavesBoth}
use Rattle.watch_protocol.specs.watch_law.News.{NewsView}
use Rattle.weak_watch.specs.Keeping.{Keeps}
use Rattle.weak_watch.proofs.Keeping.{held_on, keeps_then}
use Rattle.weak_watch.specs.Sending.{pushing}

pub push_keeps : (os ws : List SlotId) (old new : SeatState NewsView)
    → LeavesBoth os ws (pushing old) (pushing new) → old.view.core.makes ≤ new.view.core.makes
    → new.view.core.makes ≤ old.view.core.makes + 1 → (n : ℕ) × Keeps 1 n os ws old new
push_keeps os ws old new leaves kept makes = (
  new.view.core.adds - old.view.core.adds,
  record {
    owns = leaves.owns;
    weakly = leaves.weakly;
    makes_used = (kept, makes);
    adds_used = (leaves.adds, (let e = leaves.adds in omega (arith, e)));
    same = leaves.same;
    knows = leaves.knows;
  },
)

-- a call that left what the seat owned, and then one reference fewer
pub keeps_gives : {V : Type 0} (m n : ℕ) (s : SlotId) (a b c : SeatState V)
    → 0 < times s a.view.core.owned → Keeps m n a.view.core.owned a.view.core.weaks a b
    → Keeps 0 0 (without s b.view.core.owned) b.view.core.weaks b c
    → Keeps (m + 0) (n + 0) (without s a.view.core.owned) a.view.core.weaks a c
keeps_gives m n s a b c some' first second =
    keeps_then m n 0 0 _ _ _ _ _ _ a b c first second
    (λ x.
    let p = first.owns x in
    let q = first.owns s in
    let left = times_without x s a.view.core.owned some' in
    let still = times_without x s b.view.core.owned (omega (arith, q, some')) in
    omega (arith, p, left, still))
    first.weakly
    (λ x was is. held_on m n _ _ a b first x (omega arith) (omega arith) was)

-- a reference that was gained, and one call more that gives it
pub gains_gives : {V : Type 0} (m n k l : ℕ) (s : SlotId) (a b c : SeatState V)
    → Keeps m n (a.view.core.owned ++ s ∷ []) a.view.core.weaks a b
    → Keeps k l (without s b.view.core.owned) b.view.core.weaks b c
    → Keeps (m + k) (n + l) a.view.core.owned a.view.core.weaks a c
gains_gives m n k l s a b c gains gives =
    keeps_then m n k l _ _ _ _ _ _ a b c gains gives
    (λ x.
    let p = gains.owns x in
    let q = gains.owns s in
    let push = times_push x s a.view.core.owned in
    let here = times_push s s a.view.core.owned in
    let one = one_same s s refl in
    let fewer = times_without x s b.view.core.owned (omega (arith, q, here, one)) in
    omega (arith, p, push, fewer))
    gains.weakly
    (λ x was is.
    let push = times_push x s a.view.core.owned in
    held_on m n _ _ a b gains x (omega (arith, push)) (omega arith) was)

-- one call after another, of which each leaves what the seat owns
pub keeps_both : {V : Type 0} (m n k l : ℕ) (a b c : SeatState V)
    → Keeps m n a.view.core.owned a.view.core.weaks a b
    → Keeps k l b.view.core.owned b.view.core.weaks b c
    → Keeps (m + k) (n + l) a.view.core.owned a.view.core.weaks a c
keeps_both m n k l a b c first second =
    keeps_then m n k l _ _ _ _ _ _ a b c first second first.owns first.weakly
    (λ x was is. held_on m n _ _ a b first x (omega arith) (omega arith) was)
