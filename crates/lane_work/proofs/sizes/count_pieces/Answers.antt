use Rattle.std.proofs.Common.{◌≡◌, ◌+◌, sym, ap, ◌∙◌, arith}
use Rattle.std.specs.Prelude.{length}
use Rattle.cdrc_text.specs.Fold.{File}
use Rattle.lane_work.specs.Work.{files_in}
use Rattle.lane_work.proofs.Pieces.{pieces_many}
use Rattle.lane_work.proofs.Limits.{pieces_upto}
use Rattle.lane_work.proofs.Sums.{of_files, of_none, of_tickets, one_more}
use Rattle.lane_work.proofs.sizes.count_pieces.Goals as goal

pub loop-ticket-init : goal.loop-ticket-init
loop-ticket-init c = sym (of_none (λ (f : File). length f) c.args.work.now)

pub overflow_add-pieces : goal.overflow_add-pieces
overflow_add-pieces c =
    let work = c.args.work.now in let n = c.loop-ticket.ticket in
    let words = ap (λ (f : File). length f) c.file.ensures.words in
    let many = pieces_many c.file.result.now in let size = c.len-pieces.ensures in
    let more = one_more (λ (f : File). length f) work n in let before = c.loop-ticket.invariant in
    let most = pieces_upto work c.requires (n + 1) in let test = c.loop-ticket-test.true in
    let end = c.len-ticket-end.ensures in let ok = work.files.ok.0 in let few = c.requires.few in
    omega arith

pub loop-ticket-preserved : goal.loop-ticket-preserved
loop-ticket-preserved c =
    let work = c.args.work.now in let n = c.loop-ticket.ticket in
    let words = ap (λ (f : File). length f) c.file.ensures.words in
    let many = pieces_many c.file.result.now in let size = c.len-pieces.ensures in
    let more = one_more (λ (f : File). length f) work n in let before = c.loop-ticket.invariant in
    omega arith

pub returns : goal.returns
returns c =
    let work = c.args.work.now in let test = c.loop-ticket-test.false in
    let end = c.len-ticket-end.ensures in let ok = work.files.ok.0 in
    let low = c.loop-ticket.auto.ticket-end in
    let e : c.loop-ticket.ticket ≡ files_in work = omega arith in
    c.loop-ticket.invariant ∙ ap (of_tickets (λ (f : File). length f) work) e
    ∙ of_files (λ (f : File). length f) work
