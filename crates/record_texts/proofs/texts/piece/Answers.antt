use Rattle.record_texts.proofs.Packed.{numbered}
use Rattle.record_texts.proofs.texts.piece.Goals as goal

pub returns : goal.returns
returns c =
    numbered c.args.number c.args.bytes.now c.record_of-payload.result
    c.record_of-payload.ensures.packs
