use Rattle.lane_reports.proofs.CountingHolders.{count_root, count_trail, is_count, whole_stays}
use Rattle.lane_reports.proofs.rows.count_strong.Goals as goal

pub returns-clause-counted : goal.returns-clause-counted
returns-clause-counted c =
    is_count _ c.args.domain.now c.args.shared.now c.args.slot c.strong_count.result
    c.args.root.now c.requires.ready (c.alone-alone.ensures.knows c.requires.ready.alone)
    c.requires.owned c.strong_count.new.seat c.strong_count.ensures.rest
    c.strong_count.ensures.counted

pub returns-clause-trail : goal.returns-clause-trail
returns-clause-trail c =
    count_trail _ c.args.domain.now c.args.shared.now c.args.slot c.strong_count.result
    c.args.root.now c.requires.ready (c.alone-alone.ensures.knows c.requires.ready.alone)
    c.requires.owned c.strong_count.new.seat c.strong_count.ensures.rest
    c.strong_count.ensures.counted

pub returns-clause-whole : goal.returns-clause-whole
returns-clause-whole c =
    whole_stays _ c.args.domain.now c.args.shared.now c.args.slot c.strong_count.result
    c.args.root.now c.requires.ready (c.alone-alone.ensures.knows c.requires.ready.alone)
    c.requires.owned c.strong_count.new.seat c.strong_count.ensures.rest
    c.strong_count.ensures.counted

pub returns-clause-ready : goal.returns-clause-ready
returns-clause-ready c =
    count_root _ c.args.domain.now c.args.shared.now c.args.slot c.strong_count.result
    c.args.root.now c.requires.ready (c.alone-alone.ensures.knows c.requires.ready.alone)
    c.requires.owned c.strong_count.new.seat c.strong_count.ensures.rest
    c.strong_count.ensures.counted (c.strong_count.ensures.room c.requires.ready.room)
    c.strong_count.ensures.objects
