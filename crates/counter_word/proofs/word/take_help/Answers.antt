use Rattle.std.proofs.Common.{arith}
use Rattle.std.proofs.lemmas.Bool.Decides.{nat_tests}
use Rattle.counter_word.proofs.Bits.{cleared}
use Rattle.counter_word.proofs.word.take_help.Goals as goal

pub returns : goal.returns
returns c = let h = cleared c.args.word (search arith) in grind (arith, nat_tests)
