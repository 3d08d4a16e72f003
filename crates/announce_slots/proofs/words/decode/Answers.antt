use Rattle.std.proofs.Common.{◌-◌, ◌/◌, ◌%◌, arith}
use Rattle.announce_slots.proofs.words.decode.Goals as goal

pub returns-clause-none : goal.returns-clause-none
returns-clause-none c =
    (λ e. cc, λ h. absurd (h (c.args.word % 4) (c.args.word / 4 - 1) ((omega arith, omega arith), omega arith)))
