use Rattle.std.proofs.Common.{List, refl, sym, ap, subst, ◌∙◌, arith}
use Rattle.std.specs.Prelude.{drop}
use Rattle.std.proofs.lemmas.List.{drop_at}
use Rattle.std.proofs.lemmas.Result.{err_from_is_err_and}
use Rattle.cell_intern.specs.cell_calls.cell_law.plain_state.Lists.{times}
use Rattle.cell_intern.proofs.Below.core_law_Kit.{times_append}
use Rattle.lane_work.specs.Keeping.{slots_of}
use Rattle.lane_work.specs.counted_handles.Handles.{Handle}
use Rattle.cell_lanes.specs.Counting.{CountsFile}
use Rattle.cell_lanes.specs.Stopping.{Stops}
use Rattle.cell_lanes.proofs.Tickets.{ticket_given, ticket_kept}
use Rattle.cell_lanes.proofs.lanes.count_ticket.Goals as goal

pub returns-in_err-count_file-clause-stops : goal.returns-in_err-count_file-clause-stops
returns-in_err-count_file-clause-stops g c =
    let p = err_from_is_err_and c.from_residual.result c.from_residual.ensures.1 in
    rw (p.1, p.2)
    (subst (λ ws. Stops c.args.domain.now ws c.in_err-count_file.field-0.0 c.args.seat.now
    c.count_file.new.seat c.args.lane.now c.count_file.new.lane) c.file.ensures.words
    c.in_err-count_file.ensures.stops)

pub give_back-requires-clause-owned : goal.give_back-requires-clause-owned
give_back-requires-clause-owned g c s =
    let counts = c.in_ok-count_file.ensures.counts.counts in
    let cut = ap (λ (hs : List Handle). times s (slots_of hs))
    (ap (drop c.len-kept.result) counts.kept
    ∙ drop_at c.args.lane.now.keeper.kept.items counts.more c.len-kept.result
    (let o = c.args.lane.now.keeper.kept.ok.0 in let e = c.len-kept.ensures in omega (arith, o))) in
    let owns = counts.keeps.owns s in
    let sum = times_append s c.args.seat.now.view.core.owned (slots_of counts.more) in
    omega (arith, cut)

pub returns-then-not-is_last-clause-counts : goal.returns-then-not-is_last-clause-counts
returns-then-not-is_last-clause-counts g c =
    ticket_given c.args.domain.now c.args.work.now c.args.ticket c.args.seat.now
    c.count_file.new.seat c.give_back.new.seat c.args.lane.now c.count_file.new.lane _
    (subst (λ ws. CountsFile c.args.domain.now ws c.args.seat.now c.count_file.new.seat
    c.args.lane.now c.count_file.new.lane) c.file.ensures.words
    c.in_ok-count_file.ensures.counts)
    c.len-kept.result
    (let o = c.args.lane.now.keeper.kept.ok.0 in let e = c.len-kept.ensures in omega (arith, o))
    c.give_back.ensures.gives (sym c.if-not-is_last.ensures) c.give_back.ensures.client refl
    c.give_back.ensures.kept refl refl

pub returns-else-not-is_last-clause-counts : goal.returns-else-not-is_last-clause-counts
returns-else-not-is_last-clause-counts g c =
    ticket_kept c.args.domain.now c.args.work.now c.args.ticket c.args.seat.now
    c.count_file.new.seat c.count_file.new.seat c.args.lane.now c.count_file.new.lane
    c.count_file.new.lane
    (subst (λ ws. CountsFile c.args.domain.now ws c.args.seat.now c.count_file.new.seat
    c.args.lane.now c.count_file.new.lane) c.file.ensures.words
    c.in_ok-count_file.ensures.counts)
    (sym c.if-not-is_last.ensures)
