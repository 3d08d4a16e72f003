use Rattle.std.proofs.Common.{ap}
use Rattle.lone_heap.specs.Words.{note_for}
use Rattle.lone_heap.proofs.Noted.{third_is}
use Rattle.lone_heap.proofs.words.Words.word_of.Goals as goal

pub returns-else-protects-2-clause-noted : goal.returns-else-protects-2-clause-noted
returns-else-protects-2-clause-noted c =
    ap note_for
    (third_is c.args.self.now c.args.slot c.requires
    (λ is. absurd (cc (c.protects.ensures.1 is, c.if-protects.false)))
    (λ is. absurd (cc (c.protects-else-protects.ensures.1 is, c.if-protects-2.false))))
