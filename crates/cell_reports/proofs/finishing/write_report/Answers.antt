use Rattle.std.proofs.Common.{rules, ◌≡◌, sym, ap, subst, ◌∙◌, arith}
use Rattle.std.specs.Prelude.{length}
use Rattle.std.specs.Vec.{vec_len}
use Rattle.cell_gathering.specs.cdrc_text.Text.{IsReport}
use Rattle.cell_records.specs.cell_law.declared.view.View.{View}
use Rattle.cell_records.specs.lane_work.Sizes.{texts_in}
use Rattle.cell_reports.specs.Last.{ListsWords}
use Rattle.cell_reports.proofs.AtRest.{knows_null, none_live, nothing_found}
use Rattle.cell_reports.proofs.Kept.{given_up, kept_owned, lists_words, reaches}
use Rattle.cell_reports.proofs.Words.{are_told, are_words}
use Rattle.cell_reports.proofs.Written.{are_in, text_is, written}
use Rattle.cell_reports.proofs.finishing.write_report.Goals as goal

pub find_records-requires-clause-words : goal.find_records-requires-clause-words
find_records-requires-clause-words g c κs within =
    are_words c.args.work.now c.requires.work c.args.kept.items c.args.tallies.now c.args.root.now
    c.requires.counted c.requires.within

pub find_records-requires-clause-told : goal.find_records-requires-clause-told
find_records-requires-clause-told g c κs within =
    are_told c.args.work.now c.requires.work c.args.kept.items c.args.tallies.now c.args.root.now
    c.requires.counted

pub learn_lives-requires-clause-open : goal.learn_lives-requires-clause-open
learn_lives-requires-clause-open g c =
    ap (λ (v : View). v.cleared) c.find_records.ensures.learns.rest ∙ c.requires.open

pub count_rows-requires : goal.count_rows-requires
count_rows-requires g c =
    are_in c.args.root.now c.find_records.new.root c.learn_lives.new.root c.clear_cells.new.root
    c.audit_at_rest.new.root
    (reaches c.args.root.now c.find_records.new.root c.learn_lives.new.root c.clear_cells.new.root
    c.audit_at_rest.new.root c.find_records.ensures.keeps c.find_records.ensures.learns
    c.learn_lives.ensures.lives c.learn_lives.ensures.stays c.in_ok-clear_cells.ensures.clears
    c.audit_at_rest.ensures.stays)
    c.args.domain.now c.args.work.now c.requires.work c.requires.small c.args.kept.items
    c.args.tallies.now c.requires.counted _ _ _ c.in_ok-held.ensures.audited
    c.in_ok-records.records.items c.in_ok-records.ensures.words c.in_ok-records.ensures.records

pub give_all-requires-clause-owned : goal.give_all-requires-clause-owned
give_all-requires-clause-owned g c s =
    let same = kept_owned c.args.root.now c.find_records.new.root c.learn_lives.new.root c.clear_cells.new.root
    c.audit_at_rest.new.root
    (reaches c.args.root.now c.find_records.new.root c.learn_lives.new.root c.clear_cells.new.root
    c.audit_at_rest.new.root c.find_records.ensures.keeps c.find_records.ensures.learns
    c.learn_lives.ensures.lives c.learn_lives.ensures.stays c.in_ok-clear_cells.ensures.clears
    c.audit_at_rest.ensures.stays)
    c.args.work.now c.args.kept.items c.args.tallies.now c.requires.counted s in
    omega (arith, same)

pub audit_at_rest-requires-2-clause-null : goal.audit_at_rest-requires-2-clause-null
audit_at_rest-requires-2-clause-null g c =
    c.give_all.ensures.null
    (knows_null c.args.domain.now _ c.audit_at_rest.new.root _ _ c.in_ok-held.ensures.audited)

pub returns-clause-nothing : goal.returns-clause-nothing
returns-clause-nothing g c =
    given_up c.args.kept.items c.audit_at_rest.new.root c.give_all.new.root
    c.audit_at_rest-2.new.root
    (kept_owned c.args.root.now c.find_records.new.root c.learn_lives.new.root c.clear_cells.new.root
    c.audit_at_rest.new.root
    (reaches c.args.root.now c.find_records.new.root c.learn_lives.new.root c.clear_cells.new.root
    c.audit_at_rest.new.root c.find_records.ensures.keeps c.find_records.ensures.learns
    c.learn_lives.ensures.lives c.learn_lives.ensures.stays c.in_ok-clear_cells.ensures.clears
    c.audit_at_rest.ensures.stays)
    c.args.work.now c.args.kept.items c.args.tallies.now c.requires.counted)
    c.give_all.ensures.owned c.audit_at_rest-2.ensures.stays

pub returns-clause-live : goal.returns-clause-live
returns-clause-live g c =
    none_live c.args.domain.now _ c.audit_at_rest-2.new.root _ _ c.in_ok-freed.ensures.audited
    (given_up c.args.kept.items c.audit_at_rest.new.root c.give_all.new.root
    c.audit_at_rest-2.new.root
    (kept_owned c.args.root.now c.find_records.new.root c.learn_lives.new.root c.clear_cells.new.root
    c.audit_at_rest.new.root
    (reaches c.args.root.now c.find_records.new.root c.learn_lives.new.root c.clear_cells.new.root
    c.audit_at_rest.new.root c.find_records.ensures.keeps c.find_records.ensures.learns
    c.learn_lives.ensures.lives c.learn_lives.ensures.stays c.in_ok-clear_cells.ensures.clears
    c.audit_at_rest.ensures.stays)
    c.args.work.now c.args.kept.items c.args.tallies.now c.requires.counted)
    c.give_all.ensures.owned c.audit_at_rest-2.ensures.stays)

pub returns-clause-lists : goal.returns-clause-lists
returns-clause-lists g c =
    subst (ListsWords (texts_in c.args.work.now))
    (sym (c.audit_at_rest-2.ensures.stays.client ∙ c.give_all.ensures.client))
    (lists_words c.args.root.now c.find_records.new.root c.learn_lives.new.root c.clear_cells.new.root
    c.audit_at_rest.new.root
    (reaches c.args.root.now c.find_records.new.root c.learn_lives.new.root c.clear_cells.new.root
    c.audit_at_rest.new.root c.find_records.ensures.keeps c.find_records.ensures.learns
    c.learn_lives.ensures.lives c.learn_lives.ensures.stays c.in_ok-clear_cells.ensures.clears
    c.audit_at_rest.ensures.stays)
    c.args.domain.now c.args.work.now c.requires.work c.requires.small c.args.kept.items
    c.args.tallies.now c.requires.counted _ _ _ c.in_ok-held.ensures.audited)

pub returns-clause-report : goal.returns-clause-report
returns-clause-report g c =
    let size : vec_len c.args.work.now.files ≡ length c.args.work.now.files.items = search rules in
    let nothing = given_up c.args.kept.items c.audit_at_rest.new.root c.give_all.new.root
    c.audit_at_rest-2.new.root
    (kept_owned c.args.root.now c.find_records.new.root c.learn_lives.new.root c.clear_cells.new.root
    c.audit_at_rest.new.root
    (reaches c.args.root.now c.find_records.new.root c.learn_lives.new.root c.clear_cells.new.root
    c.audit_at_rest.new.root c.find_records.ensures.keeps c.find_records.ensures.learns
    c.learn_lives.ensures.lives c.learn_lives.ensures.stays c.in_ok-clear_cells.ensures.clears
    c.audit_at_rest.ensures.stays)
    c.args.work.now c.args.kept.items c.args.tallies.now c.requires.counted)
    c.give_all.ensures.owned c.audit_at_rest-2.ensures.stays in
    subst (IsReport (texts_in c.args.work.now) c.args.work.now.rounds)
    (sym (text_is c.args.work.now c.in_ok-report.field-0.items c.deref-3.result.now
    c.in_ok-rows.rows.items _ c.in_ok-held.held.found c.in_ok-freed.freed.found
    c.in_ok-report.ensures c.deref-3.ensures.value (c.len.ensures ∙ size) c.count_pieces.ensures
    c.audit_line.ensures c.audit_line-2.ensures))
    (written c.args.root.now c.find_records.new.root c.learn_lives.new.root c.clear_cells.new.root
    c.audit_at_rest.new.root
    (reaches c.args.root.now c.find_records.new.root c.learn_lives.new.root c.clear_cells.new.root
    c.audit_at_rest.new.root c.find_records.ensures.keeps c.find_records.ensures.learns
    c.learn_lives.ensures.lives c.learn_lives.ensures.stays c.in_ok-clear_cells.ensures.clears
    c.audit_at_rest.ensures.stays)
    c.args.domain.now c.args.work.now c.requires.work c.requires.small c.args.kept.items
    c.args.tallies.now c.requires.counted _ _ _ c.in_ok-held.ensures.audited
    c.in_ok-records.records.items c.in_ok-records.ensures.words c.in_ok-records.ensures.records
    c.in_ok-rows.rows.items c.in_ok-rows.ensures c.in_ok-freed.freed.found
    (nothing_found c.args.domain.now _ c.audit_at_rest-2.new.root _ _ c.in_ok-freed.ensures.audited
    nothing))
