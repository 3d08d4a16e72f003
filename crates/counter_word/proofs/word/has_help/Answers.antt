use Rattle.std.proofs.Common.{arith}
use Rattle.std.proofs.lemmas.Bool.Decides.{nat_tests}
use Rattle.counter_word.proofs.Bits.{help_is}
use Rattle.counter_word.proofs.word.has_help.Goals as goal

pub returns : goal.returns
returns c = let h = help_is c.args.word in grind (arith, nat_tests)
