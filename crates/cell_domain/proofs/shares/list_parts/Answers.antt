use Rattle.std.proofs.Common.{rules, ◌≡◌, ◌<◌, ◌+◌, ◌^◌, ap, refl, sym, ◌∙◌, arith}
use Rattle.std.specs.Prelude.{replicate}
use Rattle.std.proofs.lemmas.List.Sums.{sum_by-append}
use Rattle.lane_work.specs.cdrc_text.Text.{slots_of_word}
use Rattle.lane_work.specs.Sizes.{slots_of_words}
use Rattle.lane_work.specs.Work.{words_of}
use Rattle.lane_work.proofs.Limits.{ticket_slots}
use Rattle.cell_domain.proofs.Numbers.{begun, few, next_list, numbers, room}
use Rattle.cell_domain.proofs.shares.list_parts.Goals as goal

pub loop-ticket-init : goal.loop-ticket-init
loop-ticket-init c =
    let none : c.in_ok-parts.parts.items ≡ replicate c.args.lanes 0 = search rules in
    none
    ∙ sym (begun slots_of_words refl (λ us vs. sum_by-append slots_of_word us vs)
    c.args.work.now c.args.lanes)

pub overflow_add-index_mut : goal.overflow_add-index_mut
overflow_add-index_mut c =
    let work = c.args.work.now in let n = c.loop-ticket.ticket in
    let size : c.count_parts.result ≡ slots_of_words (words_of work n) =
    c.count_parts.ensures ∙ ap slots_of_words c.file.ensures.words in
    let own = ticket_slots work c.requires.work n in
    let end = c.tickets-ticket-end.ensures in let test = c.loop-ticket-test.true in
    let fits : c.index_mut.result.now + c.count_parts.result < 2 ^ 64 =
    room work c.requires.work n c.index_mut.result.now c.count_parts.result (omega arith)
    (few slots_of_words refl (λ us vs. sum_by-append slots_of_word us vs) work c.args.lanes
    c.requires.lanes n c.lane_of-lane.result c.index_mut.result.now c.loop-ticket.parts.items
    c.loop-ticket.invariant c.lane_of-lane.ensures c.index_mut.ensures.value 36700160
    (ticket_slots work c.requires.work))
    (omega arith)
    in omega arith

pub loop-ticket-preserved : goal.loop-ticket-preserved
loop-ticket-preserved c =
    next_list slots_of_words refl (λ us vs. sum_by-append slots_of_word us vs) c.args.work.now
    c.args.lanes c.requires.lanes c.loop-ticket.ticket c.lane_of-lane.result
    c.index_mut.result.now c.loop-ticket.parts.items c.loop-ticket.invariant
    c.lane_of-lane.ensures c.index_mut.ensures.value c.count_parts.result
    (c.count_parts.ensures ∙ ap slots_of_words c.file.ensures.words)

pub returns : goal.returns
returns c =
    let end = c.tickets-ticket-end.ensures in let test = c.loop-ticket-test.false in
    let far = c.loop-ticket.auto.ticket-end in
    c.loop-ticket.invariant ∙ ap (numbers slots_of_words c.args.work.now c.args.lanes) (omega arith)
