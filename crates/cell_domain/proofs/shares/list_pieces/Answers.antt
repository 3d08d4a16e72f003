use Rattle.std.proofs.Common.{rules, ◌≡◌, ◌<◌, ◌+◌, ◌^◌, ap, refl, sym, ◌∙◌, arith}
use Rattle.std.specs.Prelude.{length, replicate}
use Rattle.std.proofs.lemmas.List.{length-append}
use Rattle.lane_work.specs.cdrc_text.Fold.{File}
use Rattle.lane_work.specs.Work.{words_of}
use Rattle.lane_work.proofs.Pieces.{pieces_many}
use Rattle.cell_domain.proofs.Numbers.{begun, few, next_list, numbers, room}
use Rattle.cell_domain.proofs.shares.list_pieces.Goals as goal

pub loop-ticket-init : goal.loop-ticket-init
loop-ticket-init c =
    let none : c.in_ok-pieces.pieces.items ≡ replicate c.args.lanes 0 = search rules in
    none
    ∙ sym (begun (λ (f : File). length f) refl (λ us vs. length-append us vs) c.args.work.now
    c.args.lanes)

pub overflow_add-index_mut : goal.overflow_add-index_mut
overflow_add-index_mut c =
    let work = c.args.work.now in let n = c.loop-ticket.ticket in
    let sizes = c.requires.work.sizes in
    let size : c.len.result ≡ length (words_of work n) =
    c.len.ensures ∙ sym (pieces_many c.file.result.now)
    ∙ ap (λ (f : File). length f) c.file.ensures.words in
    let own = sizes n in let end = c.tickets-ticket-end.ensures in
    let test = c.loop-ticket-test.true in
    let fits : c.index_mut.result.now + c.len.result < 2 ^ 64 =
    room work c.requires.work n c.index_mut.result.now c.len.result (omega arith)
    (few (λ (f : File). length f) refl (λ us vs. length-append us vs) work c.args.lanes
    c.requires.lanes n c.lane_of-lane.result c.index_mut.result.now c.loop-ticket.pieces.items
    c.loop-ticket.invariant c.lane_of-lane.ensures c.index_mut.ensures.value 36700160
    (λ t. let s = sizes t in omega arith))
    (omega arith)
    in omega arith

pub loop-ticket-preserved : goal.loop-ticket-preserved
loop-ticket-preserved c =
    next_list (λ (f : File). length f) refl (λ us vs. length-append us vs) c.args.work.now
    c.args.lanes c.requires.lanes c.loop-ticket.ticket c.lane_of-lane.result
    c.index_mut.result.now
    c.loop-ticket.pieces.items c.loop-ticket.invariant c.lane_of-lane.ensures
    c.index_mut.ensures.value c.len.result
    (c.len.ensures ∙ sym (pieces_many c.file.result.now)
    ∙ ap (λ (f : File). length f) c.file.ensures.words)

pub returns : goal.returns
returns c =
    let end = c.tickets-ticket-end.ensures in let test = c.loop-ticket-test.false in
    let far = c.loop-ticket.auto.ticket-end in
    c.loop-ticket.invariant
    ∙ ap (numbers (λ (f : File). length f) c.args.work.now c.args.lanes) (omega arith)
