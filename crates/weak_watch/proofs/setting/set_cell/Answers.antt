use Rattle.std.proofs.Common.{subst, sym, ◌++◌, ◌∷◌, [], refl, arith}
use Rattle.control_word.specs.plain_state.declared.slot.SlotId.{SlotId}
use Rattle.control_word.specs.Calls.{with_weak}
use Rattle.weak_watch.specs.Keeping.{Keeps}
use Rattle.weak_watch.proofs.Keeping.{keeps_core, keeps_weak_given, weak_through}
use Rattle.weak_watch.proofs.setting.set_cell.Goals as goal

pub returns-clause-keeps : goal.returns-clause-keeps
returns-clause-keeps c =
    let old = c.args.seat.now in
    let mid = c.weaken.new.seat in
    let new = c.store_weak.new.seat in
    let s = c.in_ok-weak.weak.slot in
    weak_through 0 1 s old mid new
    (subst (λ (x : SlotId). Keeps 0 1 old.view.core.owned (old.view.core.weaks ++ x ∷ []) old mid)
    (sym c.in_ok-weak.ensures.gained.0)
    (keeps_core old mid (with_weak c.args.observer.now.slot old.view.core) old.view.core _ 0 1
    c.in_ok-weak.ensures.gained.1.core refl (omega arith) refl c.in_ok-weak.ensures.objects
    (λ x was is. was)))
    (keeps_weak_given s mid new c.store_weak.ensures.stored.swaps.same
    c.store_weak.ensures.objects)
