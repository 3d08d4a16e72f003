use Rattle.std.proofs.Common.{arith}
use Rattle.text_reading.proofs.Copied.{byte_put}
use Rattle.text_reading.proofs.copying.put_word.Goals as goal

pub loop-index-preserved : goal.loop-index-preserved
loop-index-preserved c =
    byte_put c.loop-index.out c.args.from c.loop-index.index c.args.count c.loop-index.rest _
    (omega (arith, c.loop-index-test.true, c.requires.fits)) c.loop-index-test.true
    c.loop-index.invariant
