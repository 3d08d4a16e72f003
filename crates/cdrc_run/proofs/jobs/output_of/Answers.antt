use Rattle.cdrc_run.proofs.Written.{drawn_output, each_refusal}
use Rattle.cdrc_run.proofs.jobs.output_of.Goals as goal

pub returns-in-Bulk-clause-why : goal.returns-in-Bulk-clause-why
returns-in-Bulk-clause-why g c =
    rw c.in-Bulk.is
    (each_refusal c.count_drawn.result _ _
    (λ error why. why (g.F.Files.told c.args.files.now) (record {
      faults = g.F.Files.faults c.args.files.now;
      faults_now = g.F.Files.faults c.args.files.now;
      overlong = g.F.Files.overlong c.args.files.now;
      overlong_now = g.F.Files.overlong c.args.files.now;
    })) c.count_drawn.ensures.why)

pub returns-in-Bulk-clause-output : goal.returns-in-Bulk-clause-output
returns-in-Bulk-clause-output g c =
    rw c.in-Bulk.is
    (drawn_output (g.F.Files.told c.args.files.now) c.in-Bulk.drawn c.count_drawn.result
    c.count_drawn.ensures.output)
