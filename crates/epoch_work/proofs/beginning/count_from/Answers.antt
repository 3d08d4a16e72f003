use Rattle.epoch_work.proofs.Serving.{done_anew, why_anew}
use Rattle.epoch_work.proofs.beginning.count_from.Goals as goal

pub returns-in-Err-Full-clause-why : goal.returns-in-Err-Full-clause-why
returns-in-Err-Full-clause-why g c =
    why_anew c.args.work.now c.args.lanes c.slots_that_serve.result c.count_cells-in-Err-Full.result
    c.slots_that_serve.ensures c.count_cells-in-Err-Full.ensures.why

pub returns-in-Err-Full-clause-done : goal.returns-in-Err-Full-clause-done
returns-in-Err-Full-clause-done g c =
    done_anew c.args.work.now c.args.lanes c.slots_that_serve.result c.count_cells-in-Err-Full.result
    c.slots_that_serve.ensures c.count_cells-in-Err-Full.ensures.report
    c.count_cells-in-Err-Full.ensures.root
