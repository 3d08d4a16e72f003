use Rattle.std.proofs.Common.{List, sym, ap, subst, ◌∙◌}
use Rattle.std.proofs.lemmas.Result.{err_from_is_err_and}
use Rattle.lane_domain.specs.directory_calls.Directories.{HasQuota}
use Rattle.domain_audit.specs.core_events.declared.view.CoreView.{CoreView}
use Rattle.domain_audit.specs.core_events.Steps.{HasRoom}
use Rattle.domain_audit.specs.control_word.Resting.{IsUnderNone}
use Rattle.words_rest.specs.queue_law.declared.view.View.{View as QueueView}
use Rattle.words_rest.specs.words_law.Known.{KnowsMore}
use Rattle.words_rest.specs.words_law.Views.{View}
use Rattle.lane_reports.specs.Gathering.{Tally}
use Rattle.lane_reports.specs.Counting.{CountsAll}
use Rattle.lane_reports.specs.Reporting.{HasCounted, LeftNothing}
use Rattle.tally_sums.specs.Sums.{Tallies}
use Rattle.lane_reports.proofs.Counting.{counts_all}
use Rattle.lane_reports.proofs.Finished.{all_known, form_same, left_nothing, once}
use Rattle.lane_reports.proofs.Refused.{no_report, no_report_since}
use Rattle.lane_reports.proofs.Still.{no_snapshot, two_free}
use Rattle.lane_reports.proofs.finishing.finish.Goals as goal

pub write_report-requires-clause-ready : goal.write_report-requires-clause-ready
write_report-requires-clause-ready g c κs within =
    let shut = c.shut_and_settle.ensures in let was = c.take_rest.ensures.ready in
    let learns = c.holds_nothing-is_null.ensures.learns in record {
      rest = c.holds_nothing-is_null.ensures.rest;
      room = subst HasRoom (sym learns.core) shut.room;
      over = was.over;
      quota = subst (λ (v : View). HasQuota v.1) (sym (learns.client ∙ shut.shuts.client)) was.quota;
      free = two_free c.holds_nothing-is_null.new.root.view.core
          (subst IsUnderNone (sym learns.core) shut.none);
      alone = c.holds_nothing-is_null.ensures.alone;
    }

pub write_report-requires-clause-under_none : goal.write_report-requires-clause-under_none
write_report-requires-clause-under_none g c κs within =
    no_snapshot c.holds_nothing-is_null.new.root.view.core
    (subst IsUnderNone (sym c.holds_nothing-is_null.ensures.learns.core)
    c.shut_and_settle.ensures.none)

pub write_report-requires-clause-counted : goal.write_report-requires-clause-counted
write_report-requires-clause-counted g c κs within =
    subst (λ (ts : Tallies). HasCounted c.args.work.now c.in_ok-tallies.field-0.kept.items ts
    c.holds_nothing-is_null.new.root) (sym c.deref.ensures.value)
    (all_known _ c.args.domain.now c.args.work.now c.requires.work c.requires.within.interns
    c.args.done.items c.requires.some c.args.root.now c.gather.new.root c.take_rest.new.root
    c.shut_and_settle.new.root c.holds_nothing-is_null.new.root
    c.in_ok-tallies.field-0.tallies.items c.in_ok-tallies-2.tallies.items
    c.in_ok-tallies.field-0.kept.items c.in_ok-tallies.ensures.gathers c.requires.bare
    c.requires.named c.in_ok-tallies-2.ensures.takes c.take_rest.ensures.owns
    c.shut_and_settle.ensures.shuts c.holds_nothing-is_null.ensures.learns
    c.holds_nothing-is_null.ensures.rest)

pub returns-clause-counts : goal.returns-clause-counts
returns-clause-counts g c =
    let takes = c.in_ok-tallies-2.ensures.takes in
    let shuts = c.shut_and_settle.ensures.shuts in
    let learns = c.holds_nothing-is_null.ensures.learns in
    let wrote = c.in_ok-text.ensures in
    subst (λ (ts : List Tally). CountsAll c.args.work.now c.write_report.new.root ts)
    (sym takes.are)
    (counts_all c.args.work.now c.args.done.items c.args.root.now c.gather.new.root
    c.take_rest.new.root c.write_report.new.root c.in_ok-tallies.field-0.tallies.items
    c.in_ok-tallies.field-0.kept.items takes.most takes.first c.in_ok-tallies.ensures.gathers
    c.requires.named takes.rest
    (ap (λ (q : QueueView). q.pushed) wrote.queue
    ∙ ap (λ (v : View). v.0.pushed) (learns.client ∙ shuts.client))
    (ap (λ (q : QueueView). q.popped) wrote.queue
    ∙ ap (λ (v : View). v.0.popped) (learns.client ∙ shuts.client))
    (subst (λ (v : View). KnowsMore v.1 c.write_report.new.root.view.client.1)
    (learns.client ∙ shuts.client) wrote.knows.knows)
    (wrote.left ∙ ap (λ (v : CoreView). v.left_seats) learns.core
    ∙ ap (λ (v : CoreView). v.left_seats) shuts.owns.same
    ∙ ap (λ (v : CoreView). v.left_seats) c.take_rest.ensures.owns.same)
    (once _ c.args.domain.now c.args.work.now c.requires.work c.requires.within.interns
    c.args.done.items c.requires.some c.args.root.now c.gather.new.root c.take_rest.new.root
    c.shut_and_settle.new.root c.holds_nothing-is_null.new.root
    c.in_ok-tallies.field-0.tallies.items c.in_ok-tallies-2.tallies.items
    c.in_ok-tallies.field-0.kept.items c.in_ok-tallies.ensures.gathers c.requires.bare
    c.requires.named c.in_ok-tallies-2.ensures.takes c.take_rest.ensures.owns
    c.shut_and_settle.ensures.shuts c.holds_nothing-is_null.ensures.learns
    c.holds_nothing-is_null.ensures.rest))

pub returns-clause-form : goal.returns-clause-form
returns-clause-form g c =
    ap (λ (q : QueueView). q.form) c.in_ok-text.ensures.queue
    ∙ form_same _ c.args.domain.now c.args.work.now c.requires.work c.requires.within.interns
    c.args.done.items c.requires.some c.args.root.now c.gather.new.root c.take_rest.new.root
    c.shut_and_settle.new.root c.holds_nothing-is_null.new.root
    c.in_ok-tallies.field-0.tallies.items c.in_ok-tallies-2.tallies.items
    c.in_ok-tallies.field-0.kept.items c.in_ok-tallies.ensures.gathers c.requires.bare
    c.requires.named c.in_ok-tallies-2.ensures.takes c.take_rest.ensures.owns
    c.shut_and_settle.ensures.shuts c.holds_nothing-is_null.ensures.learns
    c.holds_nothing-is_null.ensures.rest

pub returns-clause-queue : goal.returns-clause-queue
returns-clause-queue g c =
    subst LeftNothing (sym c.in_ok-text.ensures.queue)
    (left_nothing _ c.args.domain.now c.args.work.now c.requires.work c.requires.within.interns
    c.args.done.items c.requires.some c.args.root.now c.gather.new.root c.take_rest.new.root
    c.shut_and_settle.new.root c.holds_nothing-is_null.new.root
    c.in_ok-tallies.field-0.tallies.items c.in_ok-tallies-2.tallies.items
    c.in_ok-tallies.field-0.kept.items c.in_ok-tallies.ensures.gathers c.requires.bare
    c.requires.named c.in_ok-tallies-2.ensures.takes c.take_rest.ensures.owns
    c.shut_and_settle.ensures.shuts c.holds_nothing-is_null.ensures.learns
    c.holds_nothing-is_null.ensures.rest)

pub returns-in_err-tallies-2-clause-why : goal.returns-in_err-tallies-2-clause-why
returns-in_err-tallies-2-clause-why g c =
    let p = err_from_is_err_and c.from_residual-in_err-tallies-2.result
    c.from_residual-in_err-tallies-2.ensures.1 in
    rw (p.1, p.2)
    (no_report c.args.domain.now c.in_err-tallies-2.field-0.0 c.args.root.now c.take_rest.new.root
    c.in_err-tallies-2.ensures.why c.take_rest.ensures.ready.rest.of_domain
    (ap (λ (v : CoreView). v.quota) c.take_rest.ensures.owns.same
    ∙ ap (λ (v : CoreView). v.quota) c.in_ok-tallies.ensures.gathers.beside.core))

pub returns-in_err-text-clause-why : goal.returns-in_err-text-clause-why
returns-in_err-text-clause-why g c =
    let p = err_from_is_err_and c.from_residual-in_err-text.result
    c.from_residual-in_err-text.ensures.1 in
    rw (p.1, p.2)
    (no_report_since c.args.domain.now c.in_err-text.field-0.0 c.args.root.now
    c.holds_nothing-is_null.new.root c.write_report.new.root
    (ap (λ (v : CoreView). v.quota) c.holds_nothing-is_null.ensures.learns.core
    ∙ ap (λ (v : CoreView). v.quota) c.shut_and_settle.ensures.shuts.owns.same
    ∙ ap (λ (v : CoreView). v.quota) c.take_rest.ensures.owns.same
    ∙ ap (λ (v : CoreView). v.quota) c.in_ok-tallies.ensures.gathers.beside.core)
    c.in_err-text.ensures.why)
