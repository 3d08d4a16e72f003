use Rattle.std.proofs.Common.{refl}
use Rattle.cdrc_scripts.specs.protocol_pairs.Shares.{FitsItsPart}
use Rattle.words_work.specs.queue_protocol.Nodes.{IsNodePayload}
use Rattle.words_work.specs.directory_law.Bytes.{IsPiece}
use Rattle.cdrc_run.specs.Jobs.{job_of}
use Rattle.cdrc_run.proofs.Ended.{ends_written}
use Rattle.cdrc_run.proofs.Unread.{ends_without, five_where_large}
use Rattle.cdrc_run.proofs.running.do_request.Goals as goal

pub returns-in-Ok-clause-ends : goal.returns-in-Ok-clause-ends
returns-in-Ok-clause-ends g c =
    ends_written (FitsItsPart IsNodePayload IsPiece) (job_of c.args.request.now) _ _ c.written_end.result
    c.in-Ok.output c.in-Ok.ensures.output c.written_end.ensures

pub returns-in-Err-clause-ends : goal.returns-in-Err-clause-ends
returns-in-Err-clause-ends g c =
    ends_without (FitsItsPart IsNodePayload IsPiece) (job_of c.args.request.now) _ _ c.refused_end.result
    refl c.in-Err.refusal c.in-Err.ensures.why c.refused_end.ensures

pub returns-in-Ok-clause-many : goal.returns-in-Ok-clause-many
returns-in-Ok-clause-many g c many =
    let is = c.in-Ok.is in let large = c.output_of.ensures.many many in absurd cc

pub returns-in-Err-clause-many : goal.returns-in-Err-clause-many
returns-in-Err-clause-many g c many =
    five_where_large c.output_of.result c.in-Err.refusal c.refused_end.result c.in-Err.is
    (c.output_of.ensures.many many) c.refused_end.ensures
