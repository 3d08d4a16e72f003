use Rattle.cdrc_scripts.specs.protocol_pairs.Shares.{FitsItsPart}
use Rattle.words_work.specs.Limits.{names_of, plan_of}
use Rattle.words_work.specs.directory_law.Bytes.{IsPiece}
use Rattle.words_work.specs.queue_protocol.Nodes.{IsNodePayload}
use Rattle.cdrc_run.proofs.Written.{count_why}
use Rattle.cdrc_run.proofs.jobs.count_announced.Goals as goal

pub returns-in-Err-clause-why : goal.returns-in-Err-clause-why
returns-in-Err-clause-why g c =
    rw c.of_words.ensures
    (count_why (FitsItsPart IsNodePayload IsPiece) (g.F.Files.told c.args.files.now)
    (names_of c.args.args.now) (plan_of c.args.args.now) _ c.in-Err.refusal
    c.in-Err.ensures.answers.why)
