use Rattle.std.proofs.Common.{◌++◌, ap, ◌∙◌}
use Rattle.cdrc_text.specs.Pieces.{fields_of}
use Rattle.line_words.specs.Words.{texts_of}
use Rattle.line_words.proofs.fields.words.Goals as goal

pub loop-word-init : goal.loop-word-init
unfolding fields_of
loop-word-init c =
    ap (λ found. texts_of found ++ c.into_iter-word-iterator.result) c.new-found.ensures.items
    ∙ c.into_iter-word-iterator.ensures.into_iter_gives ∙ c.fields-word-items.ensures.value
