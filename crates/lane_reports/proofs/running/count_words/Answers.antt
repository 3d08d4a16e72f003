use Rattle.std.proofs.Common.{All, sym, ap, subst, ◌∙◌, arith}
use Rattle.std.specs.Prelude.{length}
use Rattle.std.proofs.lemmas.Result.{err_from_is_err_and}
use Rattle.law_lesson.specs.plain_state.Lists.{times}
use Rattle.domain_audit.specs.core_events.declared.shape.Shape.{Shape}
use Rattle.domain_audit.proofs.Below.core_law_Each.{length_each}
use Rattle.domain_audit.proofs.Below.core_law_Kit.{times_none}
use Rattle.words_rest.specs.queue_law.declared.view.View.{View as QueueView}
use Rattle.lane_domain.specs.Opened.{fresh_seat}
use Rattle.lane_domain.specs.Beginning.{CanBegin}
use Rattle.lane_domain.proofs.SeatsOpened.{opened_begin}
use Rattle.lane_reports.specs.Rows.{IsWhyNoReport}
use Rattle.lane_reports.specs.declared.refusal.RowsError.{RowsError}
use Rattle.lane_reports.proofs.Begun.{as_many, lanes_did, under_none}
use Rattle.lane_reports.proofs.Ran.{ran_many}
use Rattle.lane_reports.proofs.Refused.{lane_why, root_spent}
use Rattle.lane_reports.proofs.running.count_words.Goals as goal

pub run_lanes-requires-clause-begin : goal.run_lanes-requires-clause-begin
run_lanes-requires-clause-begin g c κs within =
    let opened = c.in_ok-domain.field-0 in
    subst (All (CanBegin opened.domain opened.shared)) (sym c.in_ok-domain.ensures.seats)
    (opened_begin c.args.work.now c.args.lanes c.args.slots c.args.form opened.domain opened.shared
    opened.root c.requires.within c.requires.lanes.1 c.requires.slots.0 c.requires.slots.1
    c.in_ok-domain.ensures.domain c.in_ok-domain.ensures.ready)

pub run_lanes-requires-clause-few : goal.run_lanes-requires-clause-few
run_lanes-requires-clause-few g c κs within =
    let size = ap length c.in_ok-domain.ensures.seats in
    let count = length_each 1 c.args.lanes (fresh_seat c.in_ok-domain.field-0.domain) in
    let few = c.requires.lanes.1 in omega (arith, size, count, few)

pub finish-requires-clause-bare : goal.finish-requires-clause-bare
finish-requires-clause-bare g c κs within =
    let laid = c.in_ok-domain.ensures.root in record {
      first = laid.number;
      none = under_none c.in_ok-domain.field-0.root.view.core laid.notes;
      owns = record {
        strongly = λ x. laid.owned x ∙ sym (times_none x);
        weakly = λ x. ap (times x) laid.weaks ∙ times_none x;
      };
      tickets = laid.tickets;
      pushed = ap (λ (q : QueueView). q.pushed) laid.queue;
      popped = ap (λ (q : QueueView). q.popped) laid.queue;
      left = laid.left_seats;
    }

pub finish-requires-clause-did : goal.finish-requires-clause-did
finish-requires-clause-did g c κs within =
    let opened = c.in_ok-domain.field-0 in
    lanes_did _ opened.domain opened.shared c.args.work.now c.args.lanes opened.seats.items
    c.in_ok-ends.ends.items c.in_ok-done.done.items c.in_ok-domain.ensures.seats
    c.in_ok-ends.ensures c.in_ok-done.ensures.ran

pub finish-requires-clause-all : goal.finish-requires-clause-all
finish-requires-clause-all g c κs within =
    let opened = c.in_ok-domain.field-0 in
    let done = ran_many c.in_ok-ends.ends.items c.in_ok-done.done.items c.in_ok-done.ensures.ran in
    let many = as_many _ opened.domain opened.shared c.args.work.now c.args.lanes
    opened.seats.items c.in_ok-ends.ends.items c.in_ok-domain.ensures.seats c.in_ok-ends.ensures in
    let seats = ap (λ (z : Shape). z.seats) c.in_ok-domain.ensures.domain.shape in
    omega (arith, done, many, seats)

pub returns-in-Ok-clause-root : goal.returns-in-Ok-clause-root
returns-in-Ok-clause-root g c =
    let last = c.in-Ok.ensures in record {
      alone = last.alone;
      shape = last.rest.of_domain.1 ∙ c.in_ok-domain.ensures.domain.shape;
      form = last.form ∙ ap (λ (q : QueueView). q.form) c.in_ok-domain.ensures.root.queue;
      queue = last.queue;
      nothing = last.nothing;
      live = last.live;
    }

pub returns-in_err-done-clause-why : goal.returns-in_err-done-clause-why
returns-in_err-done-clause-why g c =
    let opened = c.in_ok-domain.field-0 in
    let p = err_from_is_err_and c.from_residual-in_err-done.result
    c.from_residual-in_err-done.ensures.1 in
    rw (p.1, p.2)
    (lane_why _ opened.domain c.args.work.now c.args.lanes c.args.slots c.args.form
    c.in_ok-domain.ensures.domain opened.shared opened.seats.items c.in_ok-ends.ends.items _
    c.in_ok-domain.ensures.seats c.in_ok-ends.ensures c.in_err-done.ensures.why)

pub finish-requires-clause-some : goal.finish-requires-clause-some
finish-requires-clause-some g c κs within =
    let opened = c.in_ok-domain.field-0 in
    let done = ran_many c.in_ok-ends.ends.items c.in_ok-done.done.items c.in_ok-done.ensures.ran in
    let many = as_many _ opened.domain opened.shared c.args.work.now c.args.lanes
    opened.seats.items c.in_ok-ends.ends.items c.in_ok-domain.ensures.seats c.in_ok-ends.ensures in
    let some = c.requires.lanes.0 in omega (arith, done, many, some)

pub returns-in-Err-Spent-clause-why : goal.returns-in-Err-Spent-clause-why
returns-in-Err-Spent-clause-why g c =
    let opened = c.in_ok-domain.field-0 in
    root_spent c.args.work.now c.args.lanes c.args.slots c.args.form opened.domain
    c.in_ok-domain.ensures.domain opened.root c.finish.new.root c.in_ok-domain.ensures.root.quota
    (subst (λ (error : RowsError). IsWhyNoReport opened.domain error opened.root c.finish.new.root)
    c.in-Err-Spent.field-0-is c.in-Err-Spent.ensures.why)
