use Rattle.words_work.proofs.Serving.{why_anew}
use Rattle.words_work.proofs.beginning.count_from.Goals as goal

pub returns-in-Err-Full-clause-why : goal.returns-in-Err-Full-clause-why
returns-in-Err-Full-clause-why g c =
    why_anew _ c.args.work.now c.args.plan.lanes c.slots_that_serve-most.result c.args.plan.form
    c.count_words-in-Err-Full.result c.slots_that_serve-most.ensures
    c.count_words-in-Err-Full.ensures.why
