use Rattle.epoch_domain.proofs.Images.{read_stays, read_word}
use Rattle.epoch_domain.proofs.domain.EpochDomain.known_word.Goals as goal

pub returns-clause-stays : goal.returns-clause-stays
returns-clause-stays g c =
    let read = c.read.ensures in
    read_stays c.args.self.now g.P.Kind.PayloadKind.fits c.args.seat.now c.read.new.seat _ _
    read.table read.read read.carries c.requires.knows.knows

pub returns-clause-word : goal.returns-clause-word
returns-clause-word g c =
    let read = c.read.ensures in
    read_word c.args.self.now g.P.Kind.PayloadKind.fits c.args.seat.now c.read.new.seat _ _
    read.table read.read read.carries c.requires.knows.knows
