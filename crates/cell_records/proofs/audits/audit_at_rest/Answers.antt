use Rattle.cell_records.proofs.Auditable.{is_auditable, is_audited, is_few, is_ranked}
use Rattle.cell_records.proofs.Nulls.{null_both}
use Rattle.cell_records.proofs.audits.audit_at_rest.Goals as goal

pub audit-requires-clause-few : goal.audit-requires-clause-few
audit-requires-clause-few g c =
    is_few c.args.domain.now c.settle_alone.new.seat c.learn_law.new.seat
    c.in_ok-settle_alone.ensures.settled.pending c.in_ok-settle_alone.ensures.settled.dying
    c.learn_law.ensures.stays c.learn_law.ensures.law c.learn_law.ensures.free
    c.in_ok-image.image c.in_ok-image.ensures.image

pub audit-requires-clause-range : goal.audit-requires-clause-range
audit-requires-clause-range g c =
    (is_auditable c.args.domain.now c.settle_alone.new.seat c.learn_law.new.seat
    c.in_ok-settle_alone.ensures.settled.pending c.in_ok-settle_alone.ensures.settled.dying
    c.learn_law.ensures.stays c.learn_law.ensures.law c.learn_law.ensures.free
    c.in_ok-image.image c.in_ok-image.ensures.image).range

pub audit-requires-clause-lawful : goal.audit-requires-clause-lawful
audit-requires-clause-lawful g c =
    (is_auditable c.args.domain.now c.settle_alone.new.seat c.learn_law.new.seat
    c.in_ok-settle_alone.ensures.settled.pending c.in_ok-settle_alone.ensures.settled.dying
    c.learn_law.ensures.stays c.learn_law.ensures.law c.learn_law.ensures.free
    c.in_ok-image.image c.in_ok-image.ensures.image).lawful

pub audit-requires-clause-fits : goal.audit-requires-clause-fits
audit-requires-clause-fits g c =
    (is_auditable c.args.domain.now c.settle_alone.new.seat c.learn_law.new.seat
    c.in_ok-settle_alone.ensures.settled.pending c.in_ok-settle_alone.ensures.settled.dying
    c.learn_law.ensures.stays c.learn_law.ensures.law c.learn_law.ensures.free
    c.in_ok-image.image c.in_ok-image.ensures.image).fit

pub audit-requires-clause-ranked : goal.audit-requires-clause-ranked
audit-requires-clause-ranked g c =
    is_ranked c.args.domain.now c.settle_alone.new.seat c.learn_law.new.seat
    c.in_ok-settle_alone.ensures.settled.pending c.in_ok-settle_alone.ensures.settled.dying
    c.learn_law.ensures.stays c.learn_law.ensures.law c.learn_law.ensures.free
    c.in_ok-image.image c.in_ok-image.ensures.image c.args.rank.now c.requires.ranked

pub returns-clause-audited : goal.returns-clause-audited
returns-clause-audited g c =
    let a = c.in_ok-found.ensures in
    is_audited c.args.domain.now c.settle_alone.new.seat c.learn_law.new.seat
    c.in_ok-settle_alone.ensures.settled.pending c.in_ok-settle_alone.ensures.settled.dying
    c.learn_law.ensures.stays c.learn_law.ensures.law c.learn_law.ensures.free
    c.in_ok-image.image c.in_ok-image.ensures.image c.e_image.new.seat c.e_image.ensures.stays
    (null_both c.args.root.now c.settle_alone.new.seat c.in_ok-settle_alone.ensures.cells
    c.requires.null) c.args.rank.now c.in_ok-found.found
    a.live a.deferred a.bytes a.cyclic a.none a.walk a.round
