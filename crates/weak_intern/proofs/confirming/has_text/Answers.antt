use Rattle.std.proofs.Common.{subst, sym, take}
use Rattle.record_making.specs.directory_law.Payloads.{IsHead}
use Rattle.weak_intern.proofs.Same.{head_sought, same_text}
use Rattle.weak_intern.proofs.confirming.has_text.Goals as goal

pub read_text-size-requires-clause-head : goal.read_text-size-requires-clause-head
read_text-size-requires-clause-head g c =
    subst IsHead (sym c.requires.head)
    (head_sought c.args.sought.now.text.now c.args.sought.now.head c.args.sought.now.hash
    c.requires.sought)

pub returns-clause-reads : goal.returns-clause-reads
returns-clause-reads g c =
    let read = c.read_text-size.ensures.reads in (
      read.0,
      read.2,
      same_text g.P.Kind.PayloadKind.fits c.requires.pieces
          (take c.read_text-size.result c.read_text-size.new.out) c.args.sought.now.text.now read.0
          read.2.is read.1 c.requires.sought.small_bytes c.requires.sought.text c.eq.result
          c.eq.ensures,
    )

pub returns-clause-makes : goal.returns-clause-makes
returns-clause-makes g c = c.read_text-size.ensures.makes

pub returns-clause-adds : goal.returns-clause-adds
returns-clause-adds g c = c.read_text-size.ensures.adds
