use Rattle.std.proofs.Common.{◌≡◌, ◌+◌, sym, ap, ◌∙◌, arith}
use Rattle.lane_work.specs.Work.{files_in}
use Rattle.lane_work.specs.Sizes.{slots_of_words}
use Rattle.lane_work.proofs.Limits.{slots_upto}
use Rattle.lane_work.proofs.Sums.{of_files, of_none, of_tickets, one_more}
use Rattle.lane_work.proofs.sizes.count_slots.Goals as goal

pub loop-ticket-init : goal.loop-ticket-init
loop-ticket-init c = sym (of_none slots_of_words c.args.work.now)

pub overflow_add-parts : goal.overflow_add-parts
overflow_add-parts c =
    let work = c.args.work.now in let n = c.loop-ticket.ticket in
    let words = ap slots_of_words c.file.ensures.words in
    let size = c.count_parts-parts.ensures in
    let more = one_more slots_of_words work n in let before = c.loop-ticket.invariant in
    let most = slots_upto work c.requires (n + 1) in let test = c.loop-ticket-test.true in
    let end = c.len-ticket-end.ensures in let ok = work.files.ok.0 in let few = c.requires.few in
    omega arith

pub loop-ticket-preserved : goal.loop-ticket-preserved
loop-ticket-preserved c =
    let work = c.args.work.now in let n = c.loop-ticket.ticket in
    let words = ap slots_of_words c.file.ensures.words in
    let size = c.count_parts-parts.ensures in
    let more = one_more slots_of_words work n in let before = c.loop-ticket.invariant in
    omega arith

pub returns : goal.returns
returns c =
    let work = c.args.work.now in let test = c.loop-ticket-test.false in
    let end = c.len-ticket-end.ensures in let ok = work.files.ok.0 in
    let low = c.loop-ticket.auto.ticket-end in
    let e : c.loop-ticket.ticket ≡ files_in work = omega arith in
    c.loop-ticket.invariant ∙ ap (of_tickets slots_of_words work) e ∙ of_files slots_of_words work
