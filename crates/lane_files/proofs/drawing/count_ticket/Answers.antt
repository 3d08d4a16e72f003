use Rattle.std.proofs.Common.{List, refl, sym, ap, subst, ◌∙◌, arith}
use Rattle.std.specs.Prelude.{drop, take}
use Rattle.std.proofs.lemmas.List.{drop_at, take_at}
use Rattle.std.proofs.lemmas.Result.{err_from_is_err_and}
use Rattle.control_word.specs.counted_handles.Handles.{Handle}
use Rattle.control_word.proofs.Below.core_law_Kit.{times_append}
use Rattle.control_word.specs.plain_state.Lists.{times}
use Rattle.lane_files.specs.Counting.{CountsFile}
use Rattle.lane_files.specs.Keeping.{GivesUp, slots_of}
use Rattle.lane_files.proofs.Drawn.{after_owns}
use Rattle.lane_files.proofs.Giving.{given_back}
use Rattle.lane_files.proofs.Tickets.{stops_as, ticket_given, ticket_kept}
use Rattle.lane_files.proofs.drawing.count_ticket.Goals as goal

pub returns-in_err-count_file-clause-why : goal.returns-in_err-count_file-clause-why
returns-in_err-count_file-clause-why g c =
    let p = err_from_is_err_and c.from_residual.result c.from_residual.ensures.1 in
    rw (p.1, p.2)
    (stops_as c.args.domain.now c.in_err-count_file.field-0.0 c.args.seat.now
    c.count_file.new.seat c.args.lane.now c.count_file.new.lane c.file.ensures.words
    c.in_err-count_file.ensures.why)

pub give_back-requires-clause-owned : goal.give_back-requires-clause-owned
give_back-requires-clause-owned g c s =
    let counts = c.in_ok-count_file.ensures.counts in
    let cut = ap (λ (hs : List Handle). times s (slots_of hs))
    (ap (drop c.len-kept.result) counts.kept
    ∙ drop_at c.args.lane.now.keeper.kept.items counts.more c.len-kept.result
    (let o = c.args.lane.now.keeper.kept.ok.0 in let e = c.len-kept.ensures in omega (arith, o))) in
    let owns = counts.owns.strongly s in
    let sum = times_append s c.args.seat.now.view.core.owned (slots_of counts.more) in
    omega (arith, cut)

pub returns-then-not-is_last-clause-counts : goal.returns-then-not-is_last-clause-counts
returns-then-not-is_last-clause-counts g c =
    let counts = c.in_ok-count_file.ensures.counts in
    let cut = ap (drop c.len-kept.result) counts.kept
    ∙ drop_at c.args.lane.now.keeper.kept.items counts.more c.len-kept.result
    (let o = c.args.lane.now.keeper.kept.ok.0 in let e = c.len-kept.ensures in omega (arith, o)) in
    ticket_given c.args.work.now c.args.ticket c.args.seat.now c.count_file.new.seat
    c.give_back.new.seat c.args.lane.now c.count_file.new.lane _
    (subst (λ ws. CountsFile ws c.args.seat.now c.count_file.new.seat c.args.lane.now
    c.count_file.new.lane) c.file.ensures.words counts)
    (after_owns c.args.seat.now c.give_back.new.seat
    (given_back (slots_of counts.more) c.args.seat.now c.count_file.new.seat
    c.give_back.new.seat counts.owns
    (subst (λ (hs : List Handle). GivesUp (slots_of hs) c.count_file.new.seat
    c.give_back.new.seat) cut c.give_back.ensures.gives)))
    (sym c.if-not-is_last.ensures) c.give_back.ensures.client refl
    (c.give_back.ensures.kept ∙ ap (take c.len-kept.result) counts.kept
    ∙ take_at c.args.lane.now.keeper.kept.items counts.more c.len-kept.result
    (let o = c.args.lane.now.keeper.kept.ok.0 in let e = c.len-kept.ensures in omega (arith, o)))
    c.give_back.ensures.makes c.give_back.ensures.gives.scans

pub returns-else-not-is_last-clause-counts : goal.returns-else-not-is_last-clause-counts
returns-else-not-is_last-clause-counts g c =
    let counts = c.in_ok-count_file.ensures.counts in
    let own = subst (λ ws. CountsFile ws c.args.seat.now c.count_file.new.seat c.args.lane.now
    c.count_file.new.lane) c.file.ensures.words counts in
    ticket_kept c.args.work.now c.args.ticket c.args.seat.now c.count_file.new.seat
    c.count_file.new.seat c.args.lane.now c.count_file.new.lane c.count_file.new.lane own
    (after_owns c.args.seat.now c.count_file.new.seat own.owns)
    (sym c.if-not-is_last.ensures)
