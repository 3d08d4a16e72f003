use Rattle.plain_audit.proofs.Auditing.{audit_made}
use Rattle.plain_audit.proofs.ImageLaws.{image_in_range, image_lawful, image_fits}
use Rattle.plain_audit.proofs.audits.audit_heap.Goals as goal

pub audit-requires-clause-range : goal.audit-requires-clause-range
audit-requires-clause-range g c =
    let e = c.in_ok-image.ensures in
    image_in_range c.args.heap.now c.in_ok-image.image e.image g.W.PayloadKind.fits e.heap

pub audit-requires-clause-lawful : goal.audit-requires-clause-lawful
audit-requires-clause-lawful g c =
    let e = c.in_ok-image.ensures in
    image_lawful c.args.heap.now c.in_ok-image.image e.image g.W.PayloadKind.fits e.heap c.requires.settled

pub audit-requires-clause-fits : goal.audit-requires-clause-fits
audit-requires-clause-fits g c =
    let e = c.in_ok-image.ensures in
    image_fits c.args.heap.now c.in_ok-image.image e.image g.W.PayloadKind.fits e.heap

pub returns : goal.returns
returns g c =
    let e = c.in_ok-image.ensures in
    let a = c.audit.ensures in
    audit_made c.args.heap.now c.in_ok-image.image e.image g.W.PayloadKind.fits e.heap c.requires.settled g.W.PayloadKind.weight c.args.rank.now
    c.audit.result a.live a.deferred a.bytes a.cyclic a.none a.walk a.round
