use Rattle.std.proofs.Common.{refl}
use Rattle.atomic_weak.proofs.Below.control_word_Gaining.{counted, found_ended}
use Rattle.weak_intern.proofs.raising.upgrade.Goals as goal

pub returns-in-Up-clause-upgraded : goal.returns-in-Up-clause-upgraded
returns-in-Up-clause-upgraded g c = (
  c.of.ensures,
  (counted c.args.domain.now c.args.seat.now c.add.new.seat c.args.slot c.args.slot refl
      c.add.result c.add.ensures c.requires.rest c.in-Up.is).0,
)

pub returns-clause-ended : goal.returns-clause-ended
returns-clause-ended g c =
    λ is. (found_ended c.args.domain.now c.args.seat.now c.add.new.seat c.args.slot c.args.slot
    refl c.add.result c.add.ensures c.requires.rest c.in_default.not-Up c.requires.holds).0
