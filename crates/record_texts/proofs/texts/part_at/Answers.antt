use Rattle.std.proofs.Common.{arith}
use Rattle.record_texts.proofs.Packed.{fit}
use Rattle.record_texts.proofs.texts.part_at.Goals as goal

pub piece-requires : goal.piece-requires
piece-requires c =
    fit c.split_at.result.1.now c.first_120-bytes.result.now c.first_120-bytes.ensures
    (omega (arith, c.split_at.ensures.back_len, c.requires.inside))
