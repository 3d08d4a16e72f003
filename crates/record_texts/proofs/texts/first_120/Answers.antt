use Rattle.std.proofs.Common.{◌∙◌}
use Rattle.record_texts.proofs.Packed.{take_fewer}
use Rattle.record_texts.proofs.texts.first_120.Goals as goal

pub returns : goal.returns
returns c =
    c.split_at.ensures.front ∙ take_fewer c.min.result c.args.text.now c.min.ensures
