use Rattle.std.proofs.Common.{arith}
use Rattle.cell_gathering.proofs.Bytes.{texts_small}
use Rattle.cell_gathering.proofs.laws.words_are_bytes.Goals as goal

pub returns : goal.returns
returns c = texts_small c.args.work.now (λ k d inside. c.loop-file.invariant k d (omega arith))
