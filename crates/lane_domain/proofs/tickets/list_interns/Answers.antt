use Rattle.std.proofs.Common.{ap, ◌∙◌, sym}
use Rattle.std.specs.Prelude.{length}
use Rattle.lane_files.specs.cdrc_text.Fold.{File}
use Rattle.lane_domain.proofs.Below.lane_work_Pieces.{pieces_many}
use Rattle.lane_domain.specs.Sizes.{interns_of}
use Rattle.lane_domain.proofs.Below.lane_work_Sums.{listed_more}
use Rattle.lane_domain.proofs.tickets.list_interns.Goals as goal

pub loop-ticket-preserved : goal.loop-ticket-preserved
loop-ticket-preserved c =
    listed_more (interns_of c.args.work.now) c.loop-ticket.ticket c.len.result
    c.loop-ticket.interns.items c.push.new.self.items c.in_ok-push.ensures.items
    c.loop-ticket.invariant
    (c.len.ensures ∙ sym (pieces_many c.file.result.now)
    ∙ ap (λ (f : File). length f) c.file.ensures.words)
