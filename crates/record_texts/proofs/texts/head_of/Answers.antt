use Rattle.record_texts.proofs.Packed.{fit}
use Rattle.record_texts.proofs.texts.head_of.Goals as goal

pub piece-requires : goal.piece-requires
piece-requires c =
    fit c.args.text.now c.first_120.result.now c.first_120.ensures c.requires.0
