use Rattle.std.proofs.Common.{ℕ, subst, sym, ◌∙◌}
use Rattle.std.specs.Prelude.{Option}
use Rattle.protected_loads.specs.control_word.Moves.{KnowsStill}
use Rattle.atomic_weak.specs.Ending.{GivesUp, without_guarded}
use Rattle.atomic_weak.specs.WeakSnapshots.{IsGuardedBy}
use Rattle.atomic_weak.proofs.Released.{released}
use Rattle.atomic_weak.proofs.weak_snapshot.end_weak.Goals as goal

pub returns-in-Some-clause-ended : goal.returns-in-Some-clause-ended
returns-in-Some-clause-ended g c =
    let word = sym c.word.ensures ∙ c.in-Some.is in
    let held = subst (λ (w : Option ℕ). IsGuardedBy w c.args.snapshot.slot
    c.args.seat.now.view.core.owned c.args.seat.now.view.core.notes) word c.requires.under in
    subst (λ (w : Option ℕ). GivesUp g.P.Kind.PayloadKind.fits c.args.domain.now w
    c.args.snapshot.slot c.args.seat.now c.release.new.seat) (sym word)
    (released c.args.domain.now c.args.seat.now c.in-Some.word c.args.snapshot.slot
    c.requires.rest held c.release.new.seat c.release.result c.release.ensures).0

pub returns-in-Some-clause-objects : goal.returns-in-Some-clause-objects
returns-in-Some-clause-objects g c =
    let word = sym c.word.ensures ∙ c.in-Some.is in
    let held = subst (λ (w : Option ℕ). IsGuardedBy w c.args.snapshot.slot
    c.args.seat.now.view.core.owned c.args.seat.now.view.core.notes) word c.requires.under in
    subst (λ (w : Option ℕ). KnowsStill
    (without_guarded w c.args.snapshot.slot c.args.seat.now.view.core) c.args.seat.now
    c.release.new.seat) (sym word)
    (released c.args.domain.now c.args.seat.now c.in-Some.word c.args.snapshot.slot
    c.requires.rest held c.release.new.seat c.release.result c.release.ensures).2
