use Rattle.std.proofs.Common.{ℕ, sym, subst}
use Rattle.std.proofs.lemmas.Result.{err_from_is_err_and}
use Rattle.cell_domain.specs.Opened.{IsDomainFor}
use Rattle.cell_reports.specs.Last.{IsLastRoot}
use Rattle.cell_reports.proofs.Begun.{bare_root, domain_for, done_many, each_ran, ends_ready, slots_are}
use Rattle.cell_reports.proofs.Refused.{first_why}
use Rattle.cell_reports.proofs.running.count_cells.Goals as goal

pub run_lanes-requires-clause-domain : goal.run_lanes-requires-clause-domain
run_lanes-requires-clause-domain g c κs within =
    let opened = c.in_ok-domain.field-0 in
    subst (λ (n : ℕ). IsDomainFor c.args.work.now c.args.lanes n opened.domain)
    (sym (slots_are c.args.work.now c.args.lanes c.args.slots opened.domain
    c.in_ok-domain.ensures.domain)) c.in_ok-domain.ensures.domain

pub part_lanes-requires : goal.part_lanes-requires
part_lanes-requires g c =
    let opened = c.in_ok-domain.field-0 in
    record {
      ready = ends_ready opened.domain c.args.work.now c.args.lanes c.args.slots
          c.requires.lanes.0 c.in_ok-domain.ensures.domain opened.seats.items
          c.in_ok-domain.ensures.seats c.in_ok-ends.ends.items c.in_ok-ends.ensures;
    }

pub finish-requires-clause-bare : goal.finish-requires-clause-bare
finish-requires-clause-bare g c κs within =
    let opened = c.in_ok-domain.field-0 in
    bare_root opened.domain c.args.work.now c.args.lanes c.args.slots c.requires.lanes.0
    c.in_ok-domain.ensures.domain opened.seats.items c.in_ok-domain.ensures.seats
    c.in_ok-ends.ends.items c.in_ok-ends.ensures opened.root c.in_ok-domain.ensures.root

pub finish-requires-clause-ran : goal.finish-requires-clause-ran
finish-requires-clause-ran g c κs within =
    let opened = c.in_ok-domain.field-0 in
    each_ran opened.domain c.args.work.now c.args.lanes c.args.slots c.requires.lanes.0
    c.in_ok-domain.ensures.domain opened.seats.items c.in_ok-domain.ensures.seats
    c.in_ok-ends.ends.items c.in_ok-ends.ensures c.in_ok-done.done.items c.in_ok-done.ensures.ran

pub finish-requires-clause-domain : goal.finish-requires-clause-domain
finish-requires-clause-domain g c κs within =
    let opened = c.in_ok-domain.field-0 in
    domain_for opened.domain c.args.work.now c.args.lanes c.args.slots c.requires.lanes.0
    c.in_ok-domain.ensures.domain opened.seats.items c.in_ok-domain.ensures.seats
    c.in_ok-ends.ends.items c.in_ok-ends.ensures c.in_ok-done.done.items c.in_ok-done.ensures.ran

pub returns-clause-root : goal.returns-clause-root
returns-clause-root g c =
    let opened = c.in_ok-domain.field-0 in
    let many = done_many opened.domain c.args.work.now c.args.lanes c.args.slots
    c.requires.lanes.0 c.in_ok-domain.ensures.domain opened.seats.items
    c.in_ok-domain.ensures.seats c.in_ok-ends.ends.items c.in_ok-ends.ensures
    c.in_ok-done.done.items c.in_ok-done.ensures.ran in
    let slots = slots_are c.args.work.now c.args.lanes c.args.slots opened.domain
    c.in_ok-domain.ensures.domain in
    subst (λ (x : ℕ × ℕ). IsLastRoot c.args.work.now x.0 x.1 c.finish.new.root)
    (λ i. (many i, slots i)) c.in_ok-text.ensures.root

pub returns-in_err-done-clause-why : goal.returns-in_err-done-clause-why
returns-in_err-done-clause-why g c =
    let opened = c.in_ok-domain.field-0 in
    let p = err_from_is_err_and c.from_residual-in_err-done.result
    c.from_residual-in_err-done.ensures.1 in
    rw (p.1, p.2)
    (first_why c.args.work.now c.args.lanes c.args.slots opened.domain c.requires.work
    c.in_ok-domain.ensures.domain opened.seats.items c.in_ok-domain.ensures.seats
    c.in_ok-ends.ends.items c.in_ok-ends.ensures _ c.in_err-done.ensures.why)
