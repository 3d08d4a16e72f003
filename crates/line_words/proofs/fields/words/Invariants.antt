use Rattle.std.proofs.Common.{◌≡◌, ◌++◌}
use Rattle.line_words.specs.Words.{texts_of, words_of}
use Rattle.line_words.proofs.fields.words.Given as goal

-- the words found and those that are left are the line's
abbrev pub invariant-loop-word : goal.invariant-loop-word
invariant-loop-word l = texts_of l.found.items ++ l.word-iterator ≡ words_of l.fn.line
