use Rattle.std.proofs.Common.{◌+◌, ap, arith}
use Rattle.std.specs.Prelude.{length}
use Rattle.lane_files.specs.cdrc_text.Fold.{File}
use Rattle.lane_domain.proofs.Below.lane_work_Pieces.{pieces_many}
use Rattle.lane_domain.specs.Sizes.{makes_of, slots_of_words}
use Rattle.lane_domain.proofs.Below.lane_work_Limits.{parts_few}
use Rattle.lane_domain.proofs.Below.lane_work_Sums.{listed_more}
use Rattle.lane_domain.proofs.tickets.list_makes.Goals as goal

pub overflow_add-len : goal.overflow_add-len
overflow_add-len c =
    let file = c.file-file.result.now in let few = parts_few file c.file-file.ensures.lies in
    let many = pieces_many file in let words = ap (λ (f : File). length f) c.file-file.ensures.words in
    let most = c.requires.sizes c.loop-ticket.ticket in let size = c.len.ensures in
    let parts = c.count_parts.ensures in
    omega arith

pub loop-ticket-preserved : goal.loop-ticket-preserved
loop-ticket-preserved c =
    let file = c.file-file.result.now in
    let many = pieces_many file in let words = ap (λ (f : File). length f) c.file-file.ensures.words in
    let slots = ap slots_of_words c.file-file.ensures.words in
    let size = c.len.ensures in let parts = c.count_parts.ensures in
    listed_more (makes_of c.args.work.now) c.loop-ticket.ticket (c.len.result + c.count_parts.result)
    c.loop-ticket.makes.items c.push.new.self.items c.in_ok-push.ensures.items
    c.loop-ticket.invariant (omega arith)
